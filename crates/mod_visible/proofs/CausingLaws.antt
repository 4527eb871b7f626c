-- What is found over numbers is what is defined over texts.
use Rattle.std.proofs.Common.{◌≡◌, ℕ, zero, suc, ◌<◌, List, [], ◌∷◌, ◌++◌, length, map, true, false, refl, sym, ap, subst, ◌∙◌, Some, arith, inl, inr, ◌⊎◌}
use Rattle.std.specs.Prelude.{Contains}
use Rattle.std.specs.List.{AllByRecursion, filter_map, list_any}
use Rattle.std.proofs.lemmas.Bool.{and_parts}
use Rattle.std.proofs.lemmas.List.Elements.{Contains-append_left, Contains-append_right, Contains-append_cases}
use Rattle.pl_atoms.proofs.Texts.{same_text-is}
use Rattle.pl_atoms.proofs.Numbers.{number-is}
use Rattle.pl_ops.specs.Tables.{same_text}
use Rattle.unit_model.specs.Directives.{Text}
use Rattle.unit_model.specs.Encoding.{text_at}
use Rattle.unit_model.specs.declared.facts.Ind.{Ind}
use Rattle.link_model.specs.Places.{Ind as IndOf, same_ind, Placed as PlacedOf}
use Rattle.link_model.specs.Giving.{is_exporting, defines, gives_own, edge_of, edges, is_edge, passes, Gives, own, passed as passed_on}
use Rattle.link_model.specs.Seeing.{Sort as SortOf, giving, Cause as CauseOf, causes}
use Rattle.link_model.proofs.Same.{same_ind-is}
use Rattle.link_model.proofs.GivesLaws.{gives-is, gives-from}
use Rattle.mod_visible.specs.declared.cause.Sort.{Sort}
use Rattle.mod_visible.specs.declared.cause.Sort.TheVariants.{Seeing, Giving}
use Rattle.mod_visible.specs.declared.cause.Cause.{Cause}
use Rattle.mod_visible.specs.declared.keys.Procedure.{Procedure}
use Rattle.mod_visible.specs.declared.keys.Given.{Given}
use Rattle.mod_visible.specs.declared.keys.Source.TheVariants.{All, One}
use Rattle.mod_visible.specs.declared.placed.Role.{Role}
use Rattle.mod_visible.specs.declared.placed.Role.TheVariants.{Defining, Exporting, ReexportingAll, Reexporting, Moding, ImportingAll, Importing, Idle}
use Rattle.mod_visible.specs.declared.placed.Placed.{Placed}
use Rattle.mod_visible.specs.declared.takers.Taker.{Taker}
use Rattle.mod_visible.specs.Placing.{IsBelow, AllBelow, placed_view, places_view, placed_by, role_view, role_by, role_names}
use Rattle.mod_visible.specs.Keys.{procedure}
use Rattle.mod_visible.specs.Takers.{taker, taker_by, taker_of}
use Rattle.mod_visible.specs.Closing.{cause_by, passed, Brings, Reached, seed, step, Closes}
use Rattle.mod_visible.specs.Kinds.{cause_at, firsts, owns}
use Rattle.mod_visible.specs.Causing.{sort_view, ind_text, cause_text, entry_texts, IsTable, AreSeeds, IsNamedCause, AreNamed, AreCauses}
use Rattle.mod_visible.proofs.Members.{in-map, of-map, in-filter_map, of-filter_map, of-any}
use Rattle.mod_visible.proofs.CauseLaws.{of-causes, first-in, own-in, taken-in, Takes, IsTaken, of-takens, in-takens, passes_by, edge_takes, exporting_by}

abbrev made_ind : Text → ℕ → IndOf
made_ind s a = record { name = s; arity = a }

all_in : {A : Type 0} (P : A → Type 0) (xs : List A) (x : A) → AllByRecursion P xs → Contains xs x → P x
all_in P [] x h i = absurd (let lt : i.0 < 0 = i.1 in omega arith)
all_in P (y ∷ xs) x h (zero, lt, is) = subst P is h.0
all_in P (y ∷ xs) x h (suc k, lt, is) = all_in P xs x h.1 (k, omega arith, is)

module _ (names : List Text) (entries : List Placed) (table : IsTable names entries) where
  abbrev T : ℕ → Text
  T = text_at names

  abbrev ps : List (PlacedOf Text)
  ps = entry_texts names entries

  abbrev text_of_entry : Placed → PlacedOf Text
  text_of_entry p = placed_by (text_at names) (placed_view p)

  abbrev is_number : (m n : ℕ) → m < length names → n < length names → T m ≡ T n → m ≡ n
  is_number = number-is names table.distinct

  -- an entry in memory for each as a text, and back
  entry_for : (q : PlacedOf Text) → Contains ps q → (p : Placed) × (Contains entries p) × (q ≡ text_of_entry p)
  entry_for q i =
      let a = of-map (placed_by (text_at names)) (places_view entries) q i in
      let b = of-map placed_view entries a.0 a.1 in
      (b.0, b.1, a.2 ∙ ap (placed_by (text_at names)) b.2)

  text_for : (p : Placed) → Contains entries p → Contains ps (text_of_entry p)
  text_for p i = in-map (placed_by (text_at names)) (places_view entries) (placed_view p) (in-map placed_view entries p i)

  below_for : (p : Placed) → Contains entries p → IsBelow (length names) (placed_view p)
  below_for p i = all_in (IsBelow (length names)) (places_view entries) (placed_view p) table.below (in-map placed_view entries p i)

  -- ---- takers

  abbrev given_ind : Given → IndOf
  given_ind g = ind_text names g.procedure.name g.procedure.arity

  taken_all : (m n : ℕ) (p : Procedure) (s t : Sort) (q : Placed) (x : Taker) → Some (taker q t (All m)) ≡ Some x → (x.source ≡ All p.module) ⊎ (x.source ≡ One p) → (sort_view x.sort ≡ sort_view t) × (T m ≡ T p.module)
  taken_all m n p s t q x e b =
      let is : taker q t (All m) ≡ x = cc in
      let so : All m ≡ x.source = ap (λ (y : Taker). y.source) is in
      (ap (λ (y : Taker). sort_view y.sort) (sym is), elim b [ inl c ↦ (let same : All m ≡ All p.module = so ∙ c in let k : m ≡ p.module = cc in ap (text_at names) k) | inr c ↦ absurd (let same : All m ≡ One p = so ∙ c in cc) ])

  taken_one : (m : ℕ) (i : Ind) (p : Procedure) (t : Sort) (q : Placed) (x : Taker) → Some (taker q t (One (record { «module» = m; name = i.name.0; arity = i.arity }))) ≡ Some x → (x.source ≡ All p.module) ⊎ (x.source ≡ One p) → (sort_view x.sort ≡ sort_view t) × (T m ≡ T p.module) × (ind_text names i.name.0 i.arity ≡ ind_text names p.name p.arity)
  taken_one m i p t q x e b =
      let own : Procedure = record { «module» = m; name = i.name.0; arity = i.arity } in
      let is : taker q t (One own) ≡ x = cc in
      let so : One own ≡ x.source = ap (λ (y : Taker). y.source) is in
      elim b [
        | inl c ↦ absurd (let same : One own ≡ All p.module = so ∙ c in cc)
        | inr c ↦
            let same : One own ≡ One p = so ∙ c in
            let k : own ≡ p = cc in
            (ap (λ (y : Taker). sort_view y.sort) (sym is), ap (λ (y : Procedure). text_at names y.module) k, ap (λ (y : Procedure). ind_text names y.name y.arity) k)
      ]

  takes_of : (q : Placed) (r : Role) (x : Taker) (g : Given) → taker_by q r ≡ Some x → Brings g x → Takes (role_by (text_at names) (role_view r)) (sort_view x.sort) (T g.procedure.module) (given_ind g)
  takes_of q (ReexportingAll m) x g e b = taken_all m.0 0 g.procedure Giving Giving q x e b
  takes_of q (Reexporting m i) x g e b = taken_one m.0 i g.procedure Giving q x e b
  takes_of q (ImportingAll m) x g e b = taken_all m.0 0 g.procedure Seeing Seeing q x e b
  takes_of q (Importing m i) x g e b = taken_one m.0 i g.procedure Seeing q x e b
  takes_of q (Defining i) x g e b = absurd cc
  takes_of q (Exporting i) x g e b = absurd cc
  takes_of q (Moding i) x g e b = absurd cc
  takes_of q Idle x g e b = absurd cc

  -- names of what is given
  abbrev IsNamed : Given → Type 0
  IsNamed g = (g.procedure.module < length names) × (g.procedure.name < length names)

  same_one : (m : ℕ) (i : Ind) (g : Given) → IsNamed g → m < length names → i.name.0 < length names → T m ≡ T g.procedure.module → ind_text names i.name.0 i.arity ≡ given_ind g → One (record { «module» = m; name = i.name.0; arity = i.arity }) ≡ One g.procedure
  same_one m i g named hm hi e f =
      let a : m ≡ g.procedure.module = is_number m g.procedure.module hm named.0 e in
      let b : i.name.0 ≡ g.procedure.name = is_number i.name.0 g.procedure.name hi named.1 (ap (λ (y : IndOf). y.name) f) in
      let c : i.arity ≡ g.procedure.arity = ap (λ (y : IndOf). y.arity) f in
      let q = g.procedure in
      ap (λ x. One (record { «module» = x; name = i.name.0; arity = i.arity })) a ∙ ap (λ x. One (record { «module» = q.module; name = x; arity = i.arity })) b ∙ ap (λ x. One (record { «module» = q.module; name = q.name; arity = x })) c

  takes_from : (q : Placed) (r : Role) (s : SortOf) (g : Given) → IsNamed g → AllBelow (length names) (role_names (role_view r)) → Takes (role_by (text_at names) (role_view r)) s (T g.procedure.module) (given_ind g)
      → (x : Taker) × (taker_by q r ≡ Some x) × (Brings g x) × (sort_view x.sort ≡ s)
  takes_from q (ReexportingAll m) s g named h t = (taker q Giving (All m.0), refl, inl (ap All (is_number m.0 g.procedure.module h.0 named.0 t.1)), sym t.0)
  takes_from q (Reexporting m i) s g named h t = (taker q Giving (One (procedure m i)), refl, inr (same_one m.0 i g named h.0 h.1.0 t.1 t.2), sym t.0)
  takes_from q (ImportingAll m) s g named h t = (taker q Seeing (All m.0), refl, inl (ap All (is_number m.0 g.procedure.module h.0 named.0 t.1)), sym t.0)
  takes_from q (Importing m i) s g named h t = (taker q Seeing (One (procedure m i)), refl, inr (same_one m.0 i g named h.0 h.1.0 t.1 t.2), sym t.0)
  takes_from q (Defining i) s g named h t = absurd t
  takes_from q (Exporting i) s g named h t = absurd t
  takes_from q (Moding i) s g named h t = absurd t
  takes_from q Idle s g named h t = absurd t

  -- a taker of an entry has its place
  has_place : (q : Placed) (r : Role) (x : Taker) → taker_by q r ≡ Some x → (x.module ≡ q.module) × (x.unit ≡ q.unit) × (x.byte ≡ q.byte)
  has_place q (ReexportingAll m) x e = let is : taker q Giving (All m.0) ≡ x = cc in (ap (λ (y : Taker). y.module) (sym is), ap (λ (y : Taker). y.unit) (sym is), ap (λ (y : Taker). y.byte) (sym is))
  has_place q (Reexporting m i) x e = let is : taker q Giving (One (procedure m i)) ≡ x = cc in (ap (λ (y : Taker). y.module) (sym is), ap (λ (y : Taker). y.unit) (sym is), ap (λ (y : Taker). y.byte) (sym is))
  has_place q (ImportingAll m) x e = let is : taker q Seeing (All m.0) ≡ x = cc in (ap (λ (y : Taker). y.module) (sym is), ap (λ (y : Taker). y.unit) (sym is), ap (λ (y : Taker). y.byte) (sym is))
  has_place q (Importing m i) x e = let is : taker q Seeing (One (procedure m i)) ≡ x = cc in (ap (λ (y : Taker). y.module) (sym is), ap (λ (y : Taker). y.unit) (sym is), ap (λ (y : Taker). y.byte) (sym is))
  has_place q (Defining i) x e = absurd cc
  has_place q (Exporting i) x e = absurd cc
  has_place q (Moding i) x e = absurd cc
  has_place q Idle x e = absurd cc

  abbrev placed_cause : SortOf → Text → ℕ → ℕ → IndOf → Text → CauseOf
  placed_cause s m u b i d = record { sort = s; of = m; ind = i; unit = u; byte = b; definer = d }

  cause_is : (q : Placed) (x : Taker) (g : Given) → taker_of q ≡ Some x → cause_text names (cause_by x g) ≡ cause_at (sort_view x.sort) (text_of_entry q) (given_ind g) (T g.definer)
  cause_is q x g e =
      let h = has_place q q.role x e in
      let s = sort_view x.sort in
      ap (λ (m : Rattle.pl_atoms.specs.declared.names.NameId.NameId). placed_cause s (text_at names m.0) x.unit x.byte (given_ind g) (T g.definer)) h.0
      ∙ ap (λ u. placed_cause s (text_at names q.module.0) u x.byte (given_ind g) (T g.definer)) h.1
      ∙ ap (λ b. placed_cause s (text_at names q.module.0) q.unit b (given_ind g) (T g.definer)) h.2

  -- ---- what is reached is what is given

  module _ (seeds : List Given) (are : AreSeeds names ps seeds) where
    abbrev takers : List Taker
    takers = filter_map taker_of entries

    abbrev IsRight : Given → Type 0
    IsRight g = IsNamed g × Gives ps (T g.procedure.module) (given_ind g) (T g.definer)

    right : (g : Given) → Reached seeds takers g → IsRight g
    right _ (seed g i) =
        let a = are.only g i in
        ((a.1, a.2), subst (λ n. Gives ps (T g.procedure.module) (given_ind g) (T n)) (sym a.0) (own (T g.procedure.module) (given_ind g) a.3))
    right _ (step x g i b is r) =
        let ih = right g r in
        let q = of-filter_map taker_of entries x i in
        let t = takes_of q.0 q.0.role x g q.2 b in
        let t' = subst (λ s. Takes (role_by (text_at names) (role_view q.0.role)) s (T g.procedure.module) (given_ind g)) (ap sort_view is) t in
        let h = has_place q.0 q.0.role x q.2 in
        let module_is : q.0.module.0 ≡ x.module.0 = ap (λ (m : Rattle.pl_atoms.specs.declared.names.NameId.NameId). m.0) (sym h.0) in
        let below : x.module.0 < length names = subst (λ n. n < length names) module_is (below_for q.0 q.1).0 in
        let pass = passes_by ps (text_of_entry q.0) (role_by (text_at names) (role_view q.0.role)) refl (text_for q.0 q.1) (T g.procedure.module) (given_ind g) t' in
        ((below, ih.0.1), subst (λ n. Gives ps (T n) (given_ind g) (T g.definer)) module_is (passed_on (T q.0.module.0) (T g.procedure.module) (given_ind g) (T g.definer) pass ih.1))

    definer_below : (g : Given) → Reached seeds takers g → g.definer < length names
    definer_below _ (seed g i) = let a = are.only g i in subst (λ k. k < length names) (sym a.0) a.1
    definer_below _ (step x g i b is r) = definer_below g r

    cause_named : (t : Taker) (g : Given) → Contains takers t → Reached seeds takers g → IsNamedCause (length names) (cause_by t g)
    cause_named t g i r =
        let q = of-filter_map taker_of entries t i in
        let place = has_place q.0 q.0.role t q.2 in
        let number : q.0.module.0 ≡ t.module.0 = ap (λ (k : Rattle.pl_atoms.specs.declared.names.NameId.NameId). k.0) (sym place.0) in
        (subst (λ k. k < length names) number (below_for q.0 q.1).0, (right g r).0.1, definer_below g r)

    pub record IsFor (m : Text) (i : IndOf) (d : Text) : Type 0 where
      pub it : Given
      pub reached : Reached seeds takers it
      pub named : IsNamed it
      pub of : T it.procedure.module ≡ m
      pub ind : given_ind it ≡ i
      pub definer : T it.definer ≡ d

    abbrev Exported : Text → IndOf → Type 0
    Exported m i = (p : Procedure) × (p.module < length names) × (p.name < length names) × (T p.module ≡ m) × (ind_text names p.name p.arity ≡ i)

    no_export : (m : Text) (i : IndOf) → false ≡ true → Exported m i
    no_export m i h = absurd cc

    export_for : (p : Placed) (r : Role) → p.role ≡ r → IsBelow (length names) (placed_view p) → (m : Text) (i : IndOf) → exporting_by m i (T p.module.0) (role_by (text_at names) (role_view r)) ≡ true → Exported m i
    export_for p (Exporting j) e h m i t =
        let a = and_parts (same_text (T p.module.0) m) (same_ind i (ind_text names j.name.0 j.arity)) t in
        let b : AllBelow (length names) (role_names (role_view (Exporting j))) = subst (λ r. AllBelow (length names) (role_names (role_view r))) e h.1 in
        (procedure p.module j, h.0, b.0, same_text-is (T p.module.0) m a.0, sym (same_ind-is i (ind_text names j.name.0 j.arity) a.1))
    export_for p (Defining j) e h m i t = no_export m i t
    export_for p (ReexportingAll n) e h m i t = no_export m i t
    export_for p (Reexporting n j) e h m i t = no_export m i t
    export_for p (Moding j) e h m i t = no_export m i t
    export_for p (ImportingAll n) e h m i t = no_export m i t
    export_for p (Importing n j) e h m i t = no_export m i t
    export_for p Idle e h m i t = no_export m i t

    own_for : (m : Text) (i : IndOf) → gives_own ps m i ≡ true → IsFor m i m
    own_for m i h =
        let a = and_parts (list_any (is_exporting m i) ps) (defines ps m i) h in
        let q = of-any (is_exporting m i) ps a.0 in
        let p = entry_for q.0 q.1 in
        let t : exporting_by m i (T p.0.module.0) (role_by (text_at names) (role_view p.0.role)) ≡ true = subst (λ (x : PlacedOf Text). is_exporting m i x ≡ true) p.2 q.2 in
        let x = export_for p.0 p.0.role refl (below_for p.0 p.1) m i t in
        let there = are.all x.0 x.1 x.2 (subst (λ n. gives_own ps n (ind_text names x.0.name x.0.arity) ≡ true) (sym x.3) (subst (λ j. gives_own ps m j ≡ true) (sym x.4) h)) in
        record { it = record { procedure = x.0; definer = x.0.module }; reached = seed (record { procedure = x.0; definer = x.0.module }) there; named = (x.1, x.2); of = x.3; ind = x.4; definer = x.3 }

    -- what passes on what is for a text is for a text
    passed_for : (m n : Text) (i : IndOf) (d : Text) → passes ps m n i ≡ true → IsFor n i d → IsFor m i d
    passed_for m n i d h f =
        let g = f.it in
        let a = of-any (is_edge m n) (edges ps i) h in
        let b = of-filter_map (edge_of i) ps a.0 a.1 in
        let t = edge_takes b.0 b.0.role refl i m n a.0 b.2 a.2 in
        let p = entry_for b.0 b.1 in
        let t1 : Takes (role_by (text_at names) (role_view p.0.role)) giving n i = subst (λ (x : PlacedOf Text). Takes x.role giving n i) p.2 t.0 in
        let t2 = subst (λ x. Takes (role_by (text_at names) (role_view p.0.role)) giving x i) (sym f.of) t1 in
        let t3 = subst (λ x. Takes (role_by (text_at names) (role_view p.0.role)) giving (T g.procedure.module) x) (sym f.ind) t2 in
        let x = takes_from p.0 p.0.role giving g f.named (below_for p.0 p.1).1 t3 in
        let gives : x.0.sort ≡ Giving = is_giving x.0.sort x.3 in
        let place = has_place p.0 p.0.role x.0 x.1 in
        let number : x.0.module.0 ≡ p.0.module.0 = ap (λ (k : Rattle.pl_atoms.specs.declared.names.NameId.NameId). k.0) place.0 in
        record {
          it = passed x.0 g;
          reached = step x.0 g (in-filter_map taker_of entries p.0 x.0 p.1 x.1) x.2 gives f.reached;
          named = (subst (λ k. k < length names) (sym number) (below_for p.0 p.1).0, f.named.1);
          of = ap (text_at names) number ∙ ap (λ (y : PlacedOf Text). y.of) (sym p.2) ∙ t.1;
          ind = f.ind;
          definer = f.definer;
        }
      where
        is_giving : (s : Sort) → sort_view s ≡ giving → s ≡ Giving
        is_giving Giving e = refl
        is_giving Seeing e = absurd cc

    for_given : (m : Text) (i : IndOf) (d : Text) → Gives ps m i d → IsFor m i d
    for_given _ _ _ (own m i h) = own_for m i h
    for_given _ _ _ (passed_on m n i d h g) = passed_for m n i d h (for_given n i d g)

    -- ---- the causes

    module _ (found : List Given) (before cs : List Cause) (parts : map (cause_text names) before ≡ firsts ps ++ owns ps) (named : AreNamed (length names) before) (all : Closes takers seeds before found cs) where
      part_in : (c : CauseOf) → Contains (firsts ps ++ owns ps) c → Contains (causes ps) c
      part_in c i = elim (Contains-append_cases (firsts ps) (owns ps) c i) [ inl a ↦ first-in ps c a | inr b ↦ own-in ps c b ]

      in_before : (x : CauseOf) → Contains (firsts ps ++ owns ps) x → (c : Cause) × (Contains cs c) × (cause_text names c ≡ x)
      in_before x i =
          let a = of-map (cause_text names) before x (subst (λ l. Contains l x) (sym parts) i) in
          (a.0, rw all.causes_kept.1 (Contains-append_left before all.causes_kept.0 a.0 a.1), sym a.2)

      taken_there : (c : Cause) → ((t : Taker) × (g : Given) × (Contains takers t) × (Brings g t) × (Contains found g) × (c ≡ cause_by t g)) → Contains (causes ps) (cause_text names c)
      taken_there c d =
          let t = d.0 in
          let g = d.1 in
          let q = of-filter_map taker_of entries t d.2 in
          let r = right g (all.found_only g d.4) in
          let is : cause_text names c ≡ cause_at (sort_view t.sort) (text_of_entry q.0) (given_ind g) (T g.definer) = ap (cause_text names) d.5 ∙ cause_is q.0 t g q.2 in
          let taken : IsTaken ps (cause_at (sort_view t.sort) (text_of_entry q.0) (given_ind g) (T g.definer)) = record {
            place = text_of_entry q.0;
            from = T g.procedure.module;
            member = text_for q.0 q.1;
            takes = takes_of q.0 q.0.role t g q.2 d.3;
            given = gives-from ps (T g.procedure.module) (given_ind g) (T g.definer) r.1;
            is = refl;
          } in
          subst (λ x. Contains (causes ps) x) (sym is) (taken-in ps (cause_at (sort_view t.sort) (text_of_entry q.0) (given_ind g) (T g.definer)) (in-takens ps (cause_at (sort_view t.sort) (text_of_entry q.0) (given_ind g) (T g.definer)) taken))

      in_taken : (x : CauseOf) → IsTaken ps x → (c : Cause) × (Contains cs c) × (cause_text names c ≡ x)
      in_taken x k =
          let f = for_given k.from x.ind x.definer (gives-is ps k.from x.ind x.definer k.given) in
          let g = f.it in
          let p = entry_for k.place k.member in
          let t1 : Takes (role_by (text_at names) (role_view p.0.role)) x.sort k.from x.ind = subst (λ (y : PlacedOf Text). Takes y.role x.sort k.from x.ind) p.2 k.takes in
          let t2 = subst (λ y. Takes (role_by (text_at names) (role_view p.0.role)) x.sort y x.ind) (sym f.of) t1 in
          let t3 = subst (λ y. Takes (role_by (text_at names) (role_view p.0.role)) x.sort (T g.procedure.module) y) (sym f.ind) t2 in
          let t = takes_from p.0 p.0.role x.sort g f.named (below_for p.0 p.1).1 t3 in (
            cause_by t.0 g,
            all.causes_in t.0 g (in-filter_map taker_of entries p.0 t.0 p.1 t.1) t.2 (all.reached g f.reached),
            cause_is p.0 t.0 g t.1
                ∙ ap (λ s. cause_at s (text_of_entry p.0) (given_ind g) (T g.definer)) t.3
                ∙ ap (λ (q : PlacedOf Text). cause_at x.sort q (given_ind g) (T g.definer)) (sym p.2)
                ∙ ap (λ i. cause_at x.sort k.place i (T g.definer)) f.ind
                ∙ ap (λ d. cause_at x.sort k.place x.ind d) f.definer
                ∙ sym k.is,
          )

      pub are_causes : AreCauses names entries cs
      are_causes = record {
        named = λ c i. elim (all.causes_only c i) [
          | inl a ↦ named c a
          | inr d ↦ subst (IsNamedCause (length names)) (sym d.5) (cause_named d.0 d.1 d.2 (all.found_only d.1 d.4))
        ];
        there = λ c i. elim (all.causes_only c i) [
          | inl a ↦ part_in (cause_text names c) (subst (λ l. Contains l (cause_text names c)) parts (in-map (cause_text names) before c a))
          | inr d ↦ taken_there c d
        ];
        all = λ x i. elim (of-causes ps x i) [
          | inl a ↦ in_before x (Contains-append_left (firsts ps) (owns ps) x a)
          | inr b ↦ elim b [
            | inl o ↦ in_before x (Contains-append_right (firsts ps) (owns ps) x o)
            | inr t ↦ in_taken x (of-takens ps x t)
          ]
        ];
      }
