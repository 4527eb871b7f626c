-- What look-ups find.
use Rattle.std.proofs.Common.{◌≡◌, ℕ, ◌<◌, List, [], length, slice_get, Bool, true, false, refl, sym, ap, subst, ◌∙◌, Option, Some, None, inl, inr}
use Rattle.std.specs.Prelude.{Contains, is_some}
use Rattle.std.specs.Map.{lookup}
use Rattle.std.proofs.lemmas.Option.{get_or_from_slice_get, slice_get-get_or, slice_get_within}
use Rattle.pl_atoms.specs.Names.{with_text}
use Rattle.pl_atoms.proofs.Numbers.{number-is}
use Rattle.unit_model.specs.Facts.{Facts}
use Rattle.unit_model.specs.Directives.{Text}
use Rattle.unit_model.specs.Encoding.{text_at}
use Rattle.link_model.specs.Places.{Ind, is_built_in, system, Placed as PlacedOf, places_of}
use Rattle.link_model.specs.Giving.{gives_some}
use Rattle.link_model.specs.Seeing.{exists, Visible, built_in as visible_built_in, Sort as SortOf, seeing, giving, Cause as CauseOf, causes}
use Rattle.link_model.specs.Faults.{is_by}
use Rattle.mod_visible.specs.declared.cause.Sort.{Sort}
use Rattle.mod_visible.specs.declared.cause.Sort.TheVariants.{Seeing, Giving}
use Rattle.mod_visible.specs.declared.cause.Cause.{Cause}
use Rattle.mod_visible.specs.declared.keys.Procedure.{Procedure}
use Rattle.mod_visible.specs.declared.keys.Key.{Key}
use Rattle.mod_visible.specs.declared.keys.Key.TheVariants.{Seen, Given}
use Rattle.mod_visible.specs.declared.placed.Placed.{Placed}
use Rattle.mod_visible.specs.Keys.{procedure}
use Rattle.mod_visible.specs.Placing.{IsFlat}
use Rattle.mod_visible.specs.Causing.{sort_view, ind_text, cause_text, IsTable, AreCauses}
use Rattle.mod_visible.specs.Finding.{indicator, IsCauseFor, Finds, built_in, caused}
use Rattle.mod_visible.specs.Leasts.{key_for, key_of, same_key, IsLeast, IsWanted, AreLeasts}
use Rattle.mod_visible.specs.Looking.{IsKeyFor, IsFirstFor}
use Rattle.mod_visible.specs.Visibility.{HasCauses}
use Rattle.mod_visible.proofs.FindingLaws.{IsThere, given_there, cause_gives, gives-some, some-gives, cause_visible, visible_cause}
use Rattle.mod_visible.proofs.Flattening.{flat_grown}

-- ---- the causes of units

pub has_causes : (names more : List Text) (t : Text) (entries : List Placed) (us : List (Facts Text)) (cs : List Cause) → more ≡ with_text names t → IsFlat names entries us
    → ((ns : List Text) → IsTable ns entries → AreCauses ns entries cs) → HasCauses us more cs
has_causes names more t entries us cs grown flat are =
    let f = flat_grown names more t entries us grown flat in
    let a = are more (record { distinct = f.distinct; below = f.below }) in
    record {
      distinct = f.distinct;
      named = a.named;
      there = λ c i. subst (λ ps. Contains (causes ps) (cause_text more c)) f.places (a.there c i);
      all = λ x i. a.all x (subst (λ ps. Contains (causes ps) x) (sym f.places) i);
    }

-- ---- keys

pub key_for-is : (s t : Sort) (p q : Procedure) → key_for s p ≡ key_for t q → (s ≡ t) × (p ≡ q)
key_for-is Seeing Seeing p q e = (refl, (let f : Seen p ≡ Seen q = e in cc))
key_for-is Giving Giving p q e = (refl, (let f : Given p ≡ Given q = e in cc))
key_for-is Seeing Giving p q e = absurd (let f : Seen p ≡ Given q = e in cc)
key_for-is Giving Seeing p q e = absurd (let f : Given p ≡ Seen q = e in cc)

pub sort-is : (s t : Sort) → sort_view s ≡ sort_view t → s ≡ t
sort-is Seeing Seeing e = refl
sort-is Giving Giving e = refl
sort-is Seeing Giving e = absurd (let f : seeing ≡ giving = e in cc)
sort-is Giving Seeing e = absurd (let f : giving ≡ seeing = e in cc)

abbrev pub made : ℕ → ℕ → ℕ → Procedure
made m n a = record { «module» = m; name = n; arity = a }

module _ (us : List (Facts Text)) (names : List Text) (cs : List Cause) (h : HasCauses us names cs) where
  abbrev T : ℕ → Text
  T = text_at names

  text_is : (n : ℕ) (t : Text) → slice_get names n ≡ Some t → T n ≡ t
  text_is n t e = get_or_from_slice_get names n t [] e

  text_stands : (n : ℕ) → n < length names → slice_get names n ≡ Some (T n)
  text_stands n lt = slice_get-get_or names n [] lt

  -- a cause in memory for one of this module and procedure
  record IsAt (s : Sort) (m i : Text) (a : ℕ) (e : CauseOf) : Type 0 where
    cause : Cause
    there : Contains cs cause
    text : cause_text names cause ≡ e
    sort : cause.sort ≡ s
    of : T cause.module.0 ≡ m
    called : T cause.ind.name.0 ≡ i
    arity : cause.ind.arity ≡ a

  is_at : (s : Sort) (m i : Text) (a : ℕ) (e : CauseOf) → IsCauseFor us (sort_view s) m (indicator i a) e → IsAt s m i a e
  is_at s m i a e it =
      let x = h.all e it.there in
      let ind : ind_text names x.0.ind.name.0 x.0.ind.arity ≡ indicator i a = ap (λ (y : CauseOf). y.ind) x.2 ∙ it.ind in
      record {
        cause = x.0;
        there = x.1;
        text = x.2;
        sort = sort-is x.0.sort s (ap (λ (y : CauseOf). y.sort) x.2 ∙ it.sort);
        of = ap (λ (y : CauseOf). y.of) x.2 ∙ it.of;
        called = ap (λ (y : Ind). y.name) ind;
        arity = ap (λ (y : Ind). y.arity) ind;
      }

  has_key : (s : Sort) (m i : Text) (a : ℕ) (k : Key) (e : CauseOf) → IsKeyFor names s m i a k → (x : IsAt s m i a e) → key_of x.cause ≡ k
  has_key s m i a k e for x =
      let c = x.cause in
      let n = h.named c x.there in
      let home : c.module.0 ≡ for.home = number-is names h.distinct c.module.0 for.home n.0 (slice_get_within names for.home m for.of) (x.of ∙ sym (text_is for.home m for.of)) in
      let name : c.ind.name.0 ≡ for.key.name = number-is names h.distinct c.ind.name.0 for.key.name n.1 (slice_get_within names for.key.name i for.key.called) (x.called ∙ sym (text_is for.key.name i for.key.called)) in
      ap (λ (t : Sort). key_for t (made c.module.0 c.ind.name.0 c.ind.arity)) x.sort
      ∙ ap (λ n. key_for s (made n c.ind.name.0 c.ind.arity)) home
      ∙ ap (λ n. key_for s (made for.home n c.ind.arity)) name
      ∙ ap (λ n. key_for s (made for.home for.key.name n)) x.arity
      ∙ sym for.key.is

  pub no_key : (s : Sort) (m i : Text) (a : ℕ) → ((k : Key) → IsKeyFor names s m i a k → ⊥) → IsFirstFor us names (sort_view s) m (indicator i a) None
  no_key s m i a none e it =
      let x = is_at s m i a e it in
      let c = x.cause in
      let n = h.named c x.there in
      none (key_for s (made c.module.0 c.ind.name.0 a)) (record {
        home = c.module.0;
        of = text_stands c.module.0 n.0 ∙ ap Some x.of;
        key = record { name = c.ind.name.0; called = text_stands c.ind.name.0 n.1 ∙ ap Some x.called; is = refl };
      })

  module _ (firsts : List (Key × Cause)) (least : AreLeasts [] cs firsts) where
    cause_for : (s : Sort) (m i : Text) (a : ℕ) (k : Key) → IsKeyFor names s m i a k → (c : Cause) → Contains cs c → key_of c ≡ k → IsCauseFor us (sort_view s) m (indicator i a) (cause_text names c)
    cause_for s m i a k for c there is =
        let same = key_for-is c.sort s (procedure c.module c.ind) (made for.home for.key.name a) (is ∙ for.key.is) in
        record {
          there = h.there c there;
          sort = ap sort_view same.0;
          of = ap (λ (p : Procedure). T p.module) same.1 ∙ text_is for.home m for.of;
          ind = ap (λ (p : Procedure). indicator (T p.name) p.arity) same.1 ∙ ap (λ t. indicator t a) (text_is for.key.name i for.key.called);
        }

    pub first_for : (s : Sort) (m i : Text) (a : ℕ) (k : Key) → IsKeyFor names s m i a k → IsFirstFor us names (sort_view s) m (indicator i a) (lookup (same_key k) firsts)
    first_for s m i a k for = go (lookup (same_key k) firsts) (least k)
      where
        go : (o : Option Cause) → IsLeast (IsWanted [] k) cs o → IsFirstFor us names (sort_view s) m (indicator i a) o
        go None none = λ e it. let x = is_at s m i a e it in none x.cause x.there (has_key s m i a k e for x, refl)
        go (Some c) l = (
          h.named c l.there,
          record {
            it = cause_for s m i a k for c l.there l.has.0;
            first = λ e it.
                let x = is_at s m i a e it in
                subst (λ y. is_by (cause_text names c) y ≡ true) x.text (l.least x.cause x.there (has_key s m i a k e for x, refl));
          },
        )

-- ---- what is given and visible

module _ (us : List (Facts Text)) (names : List Text) (m : Text) (i : Ind) where
  abbrev ps : List (PlacedOf Text)
  ps = places_of 0 us

  a_cause : (s : SortOf) (d : Text) → IsThere (causes ps) s m i d → (e : CauseOf) × IsCauseFor us s m i e
  a_cause s d t = (t.cause, record { there = t.there; sort = t.sort; of = t.of; ind = t.ind })

  pub gives_is : (o : Option Cause) → IsFirstFor us names giving m i o → is_some o ≡ gives_some ps m i
  gives_is None h = go (gives_some ps m i) refl
    where
      go : (b : Bool) → gives_some ps m i ≡ b → false ≡ b
      go false e = refl
      go true e = let g = some-gives ps m i e in let x = a_cause giving g.0 (given_there ps m i g.0 g.1) in absurd (h x.0 x.1)
  gives_is (Some c) h =
      let x = cause_text names c in
      let it = h.1.it in
      let g = cause_gives ps x it.there it.sort in
      sym (subst (λ j. gives_some ps m j ≡ true) it.ind (subst (λ o. gives_some ps o x.ind ≡ true) it.of (gives-some ps x.of x.ind x.definer g)))

  pub absent : exists us m ≡ false → (d : Text) → Visible us m i d → ⊥
  absent no_module d v = let e : false ≡ true = sym no_module ∙ (visible_cause us m i d v).0 in cc

  abbrev IsFound : Text → Type 0
  IsFound d = Finds us m i d × Visible us m i d

  pub finds_built_in : exists us m ≡ true → is_built_in i ≡ true → (n : ℕ) → slice_get names n ≡ Some system → (n < length names) × Finds us m i (text_at names n) × Visible us m i (text_at names n)
  finds_built_in x b n at =
      let is = get_or_from_slice_get names n system [] at in
      (slice_get_within names n system at, subst (Finds us m i) (sym is) (built_in b), subst (Visible us m i) (sym is) (visible_built_in m i x b))

  pub finds_first : exists us m ≡ true → is_built_in i ≡ false → (c : Cause) → IsFirstFor us names seeing m i (Some c)
      → (c.definer.0 < length names) × Finds us m i (text_at names c.definer.0) × Visible us m i (text_at names c.definer.0)
  finds_first x b c h =
      let e = cause_text names c in
      let it = h.1.it in
      let there : exists us e.of ≡ true = ap (exists us) it.of ∙ x in
      let v = cause_visible us e it.there there it.sort in
      (h.0.2, caused e b it h.1.first, subst (λ j. Visible us m j e.definer) it.ind (subst (λ o. Visible us o e.ind e.definer) it.of v))

  pub finds_none : is_built_in i ≡ false → IsFirstFor us names seeing m i None → (d : Text) → Visible us m i d → ⊥
  finds_none b h d v = elim (visible_cause us m i d v).1 [
    | inl s ↦ (let e : false ≡ true = sym b ∙ s.0 in cc)
    | inr t ↦ (let x = a_cause seeing d t in h x.0 x.1)
  ]
