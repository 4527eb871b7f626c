-- Which causes clash, by the first causes and the first with another definer.
use Rattle.std.proofs.Common.{◌≡◌, ℕ, ◌<◌, List, [], length, map, nat_eq, Bool, true, false, not, ◌&&◌, cond, refl, sym, ap, subst, ◌∙◌, eqb-true, eq-eqb, Option, Some, None, inl, inr}
use Rattle.std.specs.Prelude.{Contains}
use Rattle.std.specs.List.{filter_map, list_any}
use Rattle.std.specs.List.Sorted.{IsSorted, IsPermutation}
use Rattle.std.specs.Map.{lookup}
use Rattle.std.proofs.lemmas.Bool.{and_parts, and_from, or_cases, or_left, or_right}
use Rattle.pl_atoms.proofs.Numbers.{number-is}
use Rattle.pl_atoms.proofs.Texts.{same_text-is, same_text-itself}
use Rattle.pl_ops.specs.Tables.{same_text}
use Rattle.unit_model.specs.Facts.{Facts}
use Rattle.unit_model.specs.Directives.{Text}
use Rattle.unit_model.specs.Encoding.{text_at}
use Rattle.link_model.specs.Places.{Ind, same_ind, places_of}
use Rattle.link_model.specs.Seeing.{Sort as SortOf, seeing, giving, Cause as CauseOf, causes}
use Rattle.link_model.specs.Faults.{Fault, fault, only_if, same_sort, is_against, is_clash, clashes}
use Rattle.link_model.proofs.Same.{same_ind-is, same_ind-itself}
use Rattle.mod_visible.specs.declared.cause.Sort.{Sort}
use Rattle.mod_visible.specs.declared.cause.Cause.{Cause}
use Rattle.mod_visible.specs.declared.clash.Clash.{Clash}
use Rattle.mod_visible.specs.declared.keys.Procedure.{Procedure}
use Rattle.mod_visible.specs.declared.keys.Key.{Key}
use Rattle.mod_visible.specs.Keys.{procedure}
use Rattle.mod_visible.specs.Causing.{sort_view, ind_text, cause_text}
use Rattle.mod_visible.specs.Clashing.{is_after, overrides, is_clash_in, clash_at, clash_of}
use Rattle.mod_visible.specs.Finding.{place_cmp, clash_place, clash_places}
use Rattle.mod_visible.specs.Leasts.{key_for, key_of, same_key, is_upto, differs, is_wanted, IsLeastOf, IsLeast, IsWanted, AreLeasts}
use Rattle.mod_visible.specs.Ordered.{distinct_after}
use Rattle.mod_visible.specs.Visibility.{HasCauses}
use Rattle.mod_visible.proofs.LeastLaws.{upto_trans, upto_itself}
use Rattle.mod_visible.proofs.LookLaws.{key_for-is, sort-is, made}
use Rattle.mod_visible.proofs.Members.{in-nil, in-cases, in-here, in-map, of-map, in-flat_map, of-flat_map, in-filter_map, of-filter_map, in-any, of-any, made_if}
use Rattle.mod_visible.proofs.OrderedLaws.{sorted-is}
use Rattle.mod_visible.proofs.PlaceLaws.{place_total, place_same}

-- ---- tests

same_sort-itself : (s : SortOf) → same_sort s s ≡ true
same_sort-itself seeing = refl
same_sort-itself giving = refl

same_sort-is : (s t : SortOf) → same_sort s t ≡ true → s ≡ t
same_sort-is seeing seeing e = refl
same_sort-is giving giving e = refl
same_sort-is seeing giving e = absurd cc
same_sort-is giving seeing e = absurd cc

not_from : (b : Bool) → (b ≡ true → ⊥) → not b ≡ true
not_from true f = absurd (f refl)
not_from false f = refl

not_is : (b : Bool) → not b ≡ true → b ≡ true → ⊥
not_is true e f = cc
not_is false e f = cc

module _ (us : List (Facts Text)) (names : List Text) (cs : List Cause) (h : HasCauses us names cs) (firsts others : List (Key × Cause)) (first : AreLeasts [] cs firsts) (other : AreLeasts firsts cs others) where
  abbrev T : ℕ → Text
  T = text_at names

  abbrev text : Cause → CauseOf
  text = cause_text names

  abbrev all : List CauseOf
  all = causes (places_of 0 us)

  same_number : (m n : ℕ) → m < length names → n < length names → T m ≡ T n → m ≡ n
  same_number = number-is names h.distinct

  -- ---- causes against one another

  -- against a cause, by numbers
  record IsOpposed (e c : Cause) : Type 0 where
    key : key_of c ≡ key_of e
    upto : is_upto c e ≡ true
    apart : c.definer.0 ≡ e.definer.0 → ⊥

  opposed : (e c : Cause) → Contains cs e → Contains cs c → is_against (text e) (text c) ≡ true → IsOpposed e c
  opposed e c i j t =
      let a = and_parts (same_sort (sort_view c.sort) (sort_view e.sort)) (same_text (T c.module.0) (T e.module.0) && (same_ind (text c).ind (text e).ind && (is_upto c e && not (same_text (T c.definer.0) (T e.definer.0))))) t in
      let b = and_parts (same_text (T c.module.0) (T e.module.0)) (same_ind (text c).ind (text e).ind && (is_upto c e && not (same_text (T c.definer.0) (T e.definer.0)))) a.1 in
      let d = and_parts (same_ind (text c).ind (text e).ind) (is_upto c e && not (same_text (T c.definer.0) (T e.definer.0))) b.1 in
      let f = and_parts (is_upto c e) (not (same_text (T c.definer.0) (T e.definer.0))) d.1 in
      let m = h.named c j in
      let n = h.named e i in
      let sorts : c.sort ≡ e.sort = sort-is c.sort e.sort (same_sort-is (sort_view c.sort) (sort_view e.sort) a.0) in
      let modules : c.module.0 ≡ e.module.0 = same_number c.module.0 e.module.0 m.0 n.0 (same_text-is (T c.module.0) (T e.module.0) b.0) in
      let inds = same_ind-is (text c).ind (text e).ind d.0 in
      let called : c.ind.name.0 ≡ e.ind.name.0 = same_number c.ind.name.0 e.ind.name.0 m.1 n.1 (ap (λ (y : Ind). y.name) inds) in
      let arity : c.ind.arity ≡ e.ind.arity = ap (λ (y : Ind). y.arity) inds in
      record {
        key =
            ap (λ (s : Sort). key_for s (made c.module.0 c.ind.name.0 c.ind.arity)) sorts ∙ ap (λ k. key_for e.sort (made k c.ind.name.0 c.ind.arity)) modules
            ∙ ap (λ k. key_for e.sort (made e.module.0 k c.ind.arity)) called ∙ ap (λ k. key_for e.sort (made e.module.0 e.ind.name.0 k)) arity;
        upto = f.0;
        apart = λ g. not_is (same_text (T c.definer.0) (T e.definer.0)) f.1 (subst (λ k. same_text (T c.definer.0) (T k) ≡ true) g (same_text-itself (T c.definer.0)));
      }

  against : (e c : Cause) → Contains cs e → Contains cs c → IsOpposed e c → is_against (text e) (text c) ≡ true
  against e c i j o =
      let m = h.named c j in
      let n = h.named e i in
      let k = key_for-is c.sort e.sort (procedure c.module c.ind) (procedure e.module e.ind) o.key in
      let modules : T c.module.0 ≡ T e.module.0 = ap (λ (p : Procedure). T p.module) k.1 in
      let inds : (text c).ind ≡ (text e).ind = ap (λ (p : Procedure). ind_text names p.name p.arity) k.1 in
      and_from (same_sort (sort_view c.sort) (sort_view e.sort)) (same_text (T c.module.0) (T e.module.0) && (same_ind (text c).ind (text e).ind && (is_upto c e && not (same_text (T c.definer.0) (T e.definer.0)))))
      (subst (λ s. same_sort (sort_view c.sort) (sort_view s) ≡ true) k.0 (same_sort-itself (sort_view c.sort)))
      (and_from (same_text (T c.module.0) (T e.module.0)) (same_ind (text c).ind (text e).ind && (is_upto c e && not (same_text (T c.definer.0) (T e.definer.0))))
      (subst (λ s. same_text (T c.module.0) s ≡ true) modules (same_text-itself (T c.module.0)))
      (and_from (same_ind (text c).ind (text e).ind) (is_upto c e && not (same_text (T c.definer.0) (T e.definer.0)))
      (subst (λ x. same_ind (text c).ind x ≡ true) inds (same_ind-itself (text c).ind))
      (and_from (is_upto c e) (not (same_text (T c.definer.0) (T e.definer.0))) o.upto
      (not_from (same_text (T c.definer.0) (T e.definer.0)) (λ t. o.apart (same_number c.definer.0 e.definer.0 m.2 n.2 (same_text-is (T c.definer.0) (T e.definer.0) t)))))))

  -- ---- the first cause, and the first with another definer

  first_of : (c : Cause) → Contains cs c → (f : Cause) × (lookup (same_key (key_of c)) firsts ≡ Some f) × IsLeastOf (IsWanted [] (key_of c)) cs f
  first_of c i = go (lookup (same_key (key_of c)) firsts) refl (first (key_of c))
    where
      go : (o : Option Cause) → lookup (same_key (key_of c)) firsts ≡ o → IsLeast (IsWanted [] (key_of c)) cs o → (f : Cause) × (lookup (same_key (key_of c)) firsts ≡ Some f) × IsLeastOf (IsWanted [] (key_of c)) cs f
      go None e l = absurd (l c i (refl, refl))
      go (Some f) e l = (f, e, l)

  wanted_by : (c f : Cause) → lookup (same_key (key_of c)) firsts ≡ Some f → is_wanted firsts c ≡ not (nat_eq f.definer.0 c.definer.0)
  wanted_by c f e = ap (λ o. differs o c) e

  is_wanted-by : (k : Key) (w f : Cause) → key_of w ≡ k → lookup (same_key k) firsts ≡ Some f → (f.definer.0 ≡ w.definer.0 → ⊥) → is_wanted firsts w ≡ true
  is_wanted-by k w f is e no_same =
      wanted_by w f (subst (λ l. lookup (same_key l) firsts ≡ Some f) (sym is) e)
      ∙ not_from (nat_eq f.definer.0 w.definer.0) (λ t. no_same (eqb-true f.definer.0 w.definer.0 t))

  -- a cause at the first one with another definer or behind it is opposed
  oppose : (c : Cause) → Contains cs c → is_after (lookup (same_key (key_of c)) others) c ≡ true → (e : Cause) × (Contains cs e) × IsOpposed c e
  oppose c i t = go (lookup (same_key (key_of c)) others) (other (key_of c)) t
    where
      by : (o f : Cause) → IsLeastOf (IsWanted firsts (key_of c)) cs o → lookup (same_key (key_of c)) firsts ≡ Some f → IsLeastOf (IsWanted [] (key_of c)) cs f → is_upto o c ≡ true
          → (b : Bool) → nat_eq f.definer.0 c.definer.0 ≡ b → (e : Cause) × (Contains cs e) × IsOpposed c e
      by o f l e m u true same =
          let w : not (nat_eq f.definer.0 o.definer.0) ≡ true = sym (wanted_by o f (subst (λ k. lookup (same_key k) firsts ≡ Some f) (sym l.has.0) e)) ∙ l.has.1 in (
            o,
            l.there,
            record {
              key = l.has.0;
              upto = u;
              apart = λ g. not_is (nat_eq f.definer.0 o.definer.0) w (eq-eqb f.definer.0 o.definer.0 (eqb-true f.definer.0 c.definer.0 same ∙ sym g));
            },
          )
      by o f l e m u false apart = (
        f,
        m.there,
        record {
          key = m.has.0;
          upto = m.least c i (refl, refl);
          apart = λ g. let wrong : false ≡ true = sym apart ∙ eq-eqb f.definer.0 c.definer.0 g in cc;
        },
      )

      go : (o : Option Cause) → IsLeast (IsWanted firsts (key_of c)) cs o → is_after o c ≡ true → (e : Cause) × (Contains cs e) × IsOpposed c e
      go None l u = absurd cc
      go (Some o) l u = let f = first_of c i in by o f.0 l f.1 f.2 u (nat_eq f.0.definer.0 c.definer.0) refl

  -- an opposed cause is one of these
  after_wanted : (c w : Cause) → Contains cs w → key_of w ≡ key_of c → is_wanted firsts w ≡ true → is_upto w c ≡ true → is_after (lookup (same_key (key_of c)) others) c ≡ true
  after_wanted c w i is wanted u = go (lookup (same_key (key_of c)) others) (other (key_of c))
    where
      go : (o : Option Cause) → IsLeast (IsWanted firsts (key_of c)) cs o → is_after o c ≡ true
      go None l = absurd (l w i (is, wanted))
      go (Some o) l = upto_trans o w c (l.least w i (is, wanted)) u

  after : (c e : Cause) → Contains cs c → Contains cs e → IsOpposed c e → is_after (lookup (same_key (key_of c)) others) c ≡ true
  after c e i j o = let f = first_of c i in go f.0 f.1 (nat_eq f.0.definer.0 c.definer.0) refl
    where
      go : (f : Cause) → lookup (same_key (key_of c)) firsts ≡ Some f → (b : Bool) → nat_eq f.definer.0 c.definer.0 ≡ b → is_after (lookup (same_key (key_of c)) others) c ≡ true
      go f at true t =
          after_wanted c e j o.key (is_wanted-by (key_of c) e f o.key at (λ g. o.apart (sym g ∙ eqb-true f.definer.0 c.definer.0 t))) o.upto
      go f at false t =
          after_wanted c c i refl (is_wanted-by (key_of c) c f refl at (λ g. let wrong : false ≡ true = sym t ∙ eq-eqb f.definer.0 c.definer.0 g in cc)) (upto_itself c)

  -- ---- clashes

  clash_is : (c : Cause) → Contains cs c → is_clash_in names others c ≡ true → is_clash all (text c) ≡ true
  clash_is c i t = elim (or_cases (overrides names c) (is_after (lookup (same_key (key_of c)) others) c) t) [
    | inl a ↦ or_left (overrides names c) (list_any (is_against (text c)) all) a
    | inr b ↦
        let o = oppose c i b in
        or_right (overrides names c) (list_any (is_against (text c)) all) (in-any (is_against (text c)) all (text o.0) (h.there o.0 o.1) (against c o.0 i o.1 o.2))
  ]

  clash_from : (c : Cause) → Contains cs c → is_clash all (text c) ≡ true → is_clash_in names others c ≡ true
  clash_from c i t = elim (or_cases (overrides names c) (list_any (is_against (text c)) all) t) [
    | inl a ↦ or_left (overrides names c) (is_after (lookup (same_key (key_of c)) others) c) a
    | inr b ↦
        let y = of-any (is_against (text c)) all b in
        let e = h.all y.0 y.1 in
        let test : is_against (text c) (text e.0) ≡ true = subst (λ x. is_against (text c) x ≡ true) (sym e.2) y.2 in
        or_right (overrides names c) (is_after (lookup (same_key (key_of c)) others) c) (after c e.0 i e.1 (opposed c e.0 i e.1 test))
  ]

  abbrev found : List Clash
  found = filter_map (clash_of names others) cs

  abbrev place : Fault → ℕ × ℕ
  place f = (f.unit, f.byte)

  abbrev want : List (ℕ × ℕ)
  want = map (λ f. (f.unit, f.byte)) (clashes all)

  abbrev fault_of : CauseOf → Fault
  fault_of x = fault x.unit x.byte 7

  abbrev faults_of : CauseOf → List Fault
  faults_of x = only_if (is_clash all x) (fault x.unit x.byte 7)

  in_only : (b : Bool) (f : Fault) → b ≡ true → Contains (only_if b f) f
  in_only b f e = subst (λ t. Contains (only_if t f) f) (sym e) (in-here f [])

  of_only : (b : Bool) (f g : Fault) → Contains (only_if b f) g → (b ≡ true) × (f ≡ g)
  of_only true f g i = elim (in-cases f g [] i) [ inl e ↦ (refl, e) | inr j ↦ absurd (in-nil g j) ]
  of_only false f g i = absurd (in-nil g i)

  of-found : (z : ℕ × ℕ) → Contains (map clash_place found) z → Contains want z
  of-found z i =
      let a = of-map clash_place found z i in
      let b = of-filter_map (clash_of names others) cs a.0 a.1 in
      let c = b.0 in
      let made = made_if (is_clash_in names others c) (clash_at c) a.0 b.2 in
      let f = fault_of (text c) in
      let there : Contains (clashes all) f = in-flat_map faults_of all (text c) f (h.there c b.1) (in_only (is_clash all (text c)) f (clash_is c b.1 made.0)) in
      let same : (c.unit, c.byte) ≡ z = ap clash_place made.1 ∙ sym a.2 in
      subst (Contains want) same (in-map place (clashes all) f there)

  in-found : (z : ℕ × ℕ) → Contains want z → Contains (map clash_place found) z
  in-found z i =
      let a = of-map place (clashes all) z i in
      let b = of-flat_map faults_of all a.0 a.1 in
      let o = of_only (is_clash all b.0) (fault_of b.0) a.0 b.2 in
      let e = h.all b.0 b.1 in
      let c = e.0 in
      let t = clash_from c e.1 (subst (λ x. is_clash all x ≡ true) (sym e.2) o.0) in
      let is : clash_of names others c ≡ Some (clash_at c) = ap (λ d. cond d (Some (clash_at c)) None) t in
      let same : (c.unit, c.byte) ≡ z = ap (λ x. place (fault_of x)) e.2 ∙ ap place o.1 ∙ sym a.2 in
      subst (Contains (map clash_place found)) same (in-map clash_place found (clash_at c) (in-filter_map (clash_of names others) cs c (clash_at c) e.1 is))

  pub are_clashes : (sorted distinct : List Clash) → IsPermutation found sorted → IsSorted (λ a b. place_cmp (clash_place a) (clash_place b)) sorted
      → map clash_place distinct ≡ distinct_after place_cmp None (map clash_place sorted) → map clash_place distinct ≡ clash_places us
  are_clashes sorted distinct perm up is = is ∙ sorted-is place_cmp place_total clash_place place_same found sorted want perm up of-found in-found
