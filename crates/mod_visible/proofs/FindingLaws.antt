-- What is visible and given, by its causes.
use Rattle.std.proofs.Common.{◌≡◌, List, [], ◌∷◌, ◌++◌, Bool, true, false, ◌&&◌, ◌||◌, cond, refl, sym, ap, subst, ◌∙◌, inl, inr, ◌⊎◌}
use Rattle.std.specs.Prelude.{Contains}
use Rattle.std.specs.List.{flat_map, list_any}
use Rattle.std.proofs.lemmas.Bool.{and_parts, and_from}
use Rattle.std.proofs.lemmas.List.Elements.{Contains-append_left, Contains-append_right}
use Rattle.std.proofs.lemmas.List.Folds.{list_any-append}
use Rattle.pl_atoms.proofs.Texts.{same_text-is, same_text-itself}
use Rattle.pl_ops.specs.Tables.{same_text}
use Rattle.unit_model.specs.Facts.{Facts}
use Rattle.unit_model.specs.Directives.{Text}
use Rattle.link_model.specs.Places.{Ind, same_ind, is_built_in, system, Role, defining, exporting, reexporting_all, reexporting, moding, importing_all, importing, idle, Placed, places_of, steps}
use Rattle.link_model.specs.Giving.{is_defining, is_exporting, defines, gives_own, edge_of, edges, is_edge, passes, Gives, own, passed, given, gives_some}
use Rattle.link_model.specs.Seeing.{exists, is_importing, Visible, built_in, defined, imported, Sort, seeing, giving, Cause, causes_at, causes}
use Rattle.link_model.proofs.Same.{same_ind-is, same_ind-itself}
use Rattle.link_model.proofs.GivesLaws.{gives-is, gives-from}
use Rattle.mod_visible.specs.Kinds.{cause_at, first_by, own_by, firsts, owns}
use Rattle.mod_visible.proofs.CauseLaws.{of-causes, first-in, own-in, taken-in, in-given, of-given, Takes, IsTaken, of-takens, in-takens, passes_by, edge_takes, exporting_by, of-steps}
use Rattle.mod_visible.proofs.Members.{in-here, of-filter_map, in-flat_map, of-flat_map, in-any, of-any, in-cases, in-nil}

abbrev Place : Type 0
Place = Placed Text

abbrev defining_by : Text → Ind → Text → Role Text → Bool
defining_by m i o r = elim r [ defining j ↦ same_text o m && same_ind i j | _ ↦ false ]

abbrev importing_by : Text → Text → Ind → Text → Role Text → Bool
importing_by m n i o r = elim r [
  | importing_all k ↦ same_text o m && same_text k n
  | importing k j ↦ same_text o m && (same_text k n && same_ind i j)
  | _ ↦ false
]

-- a cause in a list, of this sort, for i of d in m
pub record IsThere (cs : List Cause) (s : Sort) (m : Text) (i : Ind) (d : Text) : Type 0 where
  pub cause : Cause
  pub there : Contains cs cause
  pub sort : cause.sort ≡ s
  pub of : cause.of ≡ m
  pub ind : cause.ind ≡ i
  pub definer : cause.definer ≡ d

module _ (cs ds : List Cause) (s : Sort) (m : Text) (i : Ind) (d : Text) where
  in-more : ((c : Cause) → Contains cs c → Contains ds c) → IsThere cs s m i d → IsThere ds s m i d
  in-more f h = record { cause = h.cause; there = f h.cause h.there; sort = h.sort; of = h.of; ind = h.ind; definer = h.definer }

module _ (ps : List Place) where
  -- ---- first clauses

  role_defines : (m : Text) (i : Ind) (p : Place) (r : Role Text) → p.role ≡ r → is_defining m i p ≡ true → (p.role ≡ defining i) × (p.of ≡ m)
  role_defines m i p (defining j) e h =
      let a = and_parts (same_text p.of m) (same_ind i j) (subst (λ r. defining_by m i p.of r ≡ true) e h) in
      (e ∙ ap defining (sym (same_ind-is i j a.1)), same_text-is p.of m a.0)
  role_defines m i p (exporting j) e h = absurd (let f : false ≡ true = subst (λ r. defining_by m i p.of r ≡ true) e h in cc)
  role_defines m i p (reexporting_all n) e h = absurd (let f : false ≡ true = subst (λ r. defining_by m i p.of r ≡ true) e h in cc)
  role_defines m i p (reexporting n j) e h = absurd (let f : false ≡ true = subst (λ r. defining_by m i p.of r ≡ true) e h in cc)
  role_defines m i p (moding j) e h = absurd (let f : false ≡ true = subst (λ r. defining_by m i p.of r ≡ true) e h in cc)
  role_defines m i p (importing_all n) e h = absurd (let f : false ≡ true = subst (λ r. defining_by m i p.of r ≡ true) e h in cc)
  role_defines m i p (importing n j) e h = absurd (let f : false ≡ true = subst (λ r. defining_by m i p.of r ≡ true) e h in cc)
  role_defines m i p idle e h = absurd (let f : false ≡ true = subst (λ r. defining_by m i p.of r ≡ true) e h in cc)

  abbrev first_at : List Place × Place → List Cause
  first_at x = first_by x.1.role x.0 x.1

  no_more : (m : Text) (i : Ind) (before : List Place) (p : Place) → defines before m i ≡ false → is_defining m i p ≡ false → defines (before ++ p ∷ []) m i ≡ false
  no_more m i before p a b = list_any-append (is_defining m i) before (p ∷ []) ∙ ap (λ t. t || (is_defining m i p || false)) a ∙ ap (λ t. t || false) b

  first_there : (m : Text) (i : Ind) (before xs : List Place) → defines before m i ≡ false → list_any (is_defining m i) xs ≡ true → IsThere (flat_map first_at (steps before xs)) seeing m i m
  first_there m i before [] none h = absurd cc
  first_there m i before (p ∷ xs) none h = go (is_defining m i p) refl (first_there m i (before ++ p ∷ []) xs)
    where
      go : (b : Bool) → is_defining m i p ≡ b → (defines (before ++ p ∷ []) m i ≡ false → list_any (is_defining m i) xs ≡ true → IsThere (flat_map first_at (steps (before ++ p ∷ []) xs)) seeing m i m) → IsThere (flat_map first_at (steps before (p ∷ xs))) seeing m i m
      go true t ih =
          let r = role_defines m i p p.role refl t in
          let test : defines before p.of i ≡ false = ap (λ o. defines before o i) r.1 ∙ none in
          let here : first_at (before, p) ≡ cause_at seeing p i p.of ∷ [] = ap (λ q. first_by q before p) r.0 ∙ ap (λ b. cond b [] (causes_at seeing p ((i, p.of) ∷ []))) test in
          record {
            cause = cause_at seeing p i p.of;
            there = Contains-append_left (first_at (before, p)) (flat_map first_at (steps (before ++ p ∷ []) xs)) (cause_at seeing p i p.of) (subst (λ l. Contains l (cause_at seeing p i p.of)) (sym here) (in-here (cause_at seeing p i p.of) []));
            sort = refl;
            of = r.1;
            ind = refl;
            definer = r.1;
          }
      go false t ih =
          let later : list_any (is_defining m i) xs ≡ true = sym (ap (λ b. b || list_any (is_defining m i) xs) t) ∙ h in
          in-more (flat_map first_at (steps (before ++ p ∷ []) xs)) (flat_map first_at (steps before (p ∷ xs))) seeing m i m
          (λ c j. Contains-append_right (first_at (before, p)) (flat_map first_at (steps (before ++ p ∷ []) xs)) c j)
          (ih (no_more m i before p none t) later)

  -- ---- what causes there are

  pub defined_there : (m : Text) (i : Ind) → defines ps m i ≡ true → IsThere (causes ps) seeing m i m
  defined_there m i h = in-more (firsts ps) (causes ps) seeing m i m (λ c j. first-in ps c j) (first_there m i [] ps refl h)

  taken_there : (s : Sort) (p : Place) (n : Text) (i : Ind) (d : Text) → Contains ps p → Takes p.role s n i → Gives ps n i d → IsThere (causes ps) s p.of i d
  taken_there s p n i d member takes g =
      let c = cause_at s p i d in
      let taken : IsTaken ps c = record { place = p; from = n; member = member; takes = takes; given = gives-from ps n i d g; is = refl } in
      record { cause = c; there = taken-in ps c (in-takens ps c taken); sort = refl; of = refl; ind = refl; definer = refl }

  role_imports : (m n : Text) (i : Ind) (p : Place) (r : Role Text) → p.role ≡ r → is_importing m n i p ≡ true → Takes p.role seeing n i × (p.of ≡ m)
  role_imports m n i p (importing_all k) e h =
      let a = and_parts (same_text p.of m) (same_text k n) (subst (λ r. importing_by m n i p.of r ≡ true) e h) in
      (subst (λ r. Takes r seeing n i) (sym e) (refl, same_text-is k n a.1), same_text-is p.of m a.0)
  role_imports m n i p (importing k j) e h =
      let a = and_parts (same_text p.of m) (same_text k n && same_ind i j) (subst (λ r. importing_by m n i p.of r ≡ true) e h) in
      let b = and_parts (same_text k n) (same_ind i j) a.1 in
      (subst (λ r. Takes r seeing n i) (sym e) (refl, same_text-is k n b.0, sym (same_ind-is i j b.1)), same_text-is p.of m a.0)
  role_imports m n i p (defining j) e h = absurd (let f : false ≡ true = subst (λ r. importing_by m n i p.of r ≡ true) e h in cc)
  role_imports m n i p (exporting j) e h = absurd (let f : false ≡ true = subst (λ r. importing_by m n i p.of r ≡ true) e h in cc)
  role_imports m n i p (reexporting_all k) e h = absurd (let f : false ≡ true = subst (λ r. importing_by m n i p.of r ≡ true) e h in cc)
  role_imports m n i p (reexporting k j) e h = absurd (let f : false ≡ true = subst (λ r. importing_by m n i p.of r ≡ true) e h in cc)
  role_imports m n i p (moding j) e h = absurd (let f : false ≡ true = subst (λ r. importing_by m n i p.of r ≡ true) e h in cc)
  role_imports m n i p idle e h = absurd (let f : false ≡ true = subst (λ r. importing_by m n i p.of r ≡ true) e h in cc)

  pub imported_there : (m n : Text) (i : Ind) (d : Text) → list_any (is_importing m n i) ps ≡ true → Gives ps n i d → IsThere (causes ps) seeing m i d
  imported_there m n i d h g =
      let a = of-any (is_importing m n i) ps h in
      let b = role_imports m n i a.0 a.0.role refl a.2 in
      subst (λ o. IsThere (causes ps) seeing o i d) b.1 (taken_there seeing a.0 n i d a.1 b.0 g)

  role_exports : (m : Text) (i : Ind) (p : Place) (r : Role Text) → p.role ≡ r → is_exporting m i p ≡ true → (p.role ≡ exporting i) × (p.of ≡ m)
  role_exports m i p (exporting j) e h =
      let a = and_parts (same_text p.of m) (same_ind i j) (subst (λ r. exporting_by m i p.of r ≡ true) e h) in
      (e ∙ ap exporting (sym (same_ind-is i j a.1)), same_text-is p.of m a.0)
  role_exports m i p (defining j) e h = absurd (let f : false ≡ true = subst (λ r. exporting_by m i p.of r ≡ true) e h in cc)
  role_exports m i p (reexporting_all n) e h = absurd (let f : false ≡ true = subst (λ r. exporting_by m i p.of r ≡ true) e h in cc)
  role_exports m i p (reexporting n j) e h = absurd (let f : false ≡ true = subst (λ r. exporting_by m i p.of r ≡ true) e h in cc)
  role_exports m i p (moding j) e h = absurd (let f : false ≡ true = subst (λ r. exporting_by m i p.of r ≡ true) e h in cc)
  role_exports m i p (importing_all n) e h = absurd (let f : false ≡ true = subst (λ r. exporting_by m i p.of r ≡ true) e h in cc)
  role_exports m i p (importing n j) e h = absurd (let f : false ≡ true = subst (λ r. exporting_by m i p.of r ≡ true) e h in cc)
  role_exports m i p idle e h = absurd (let f : false ≡ true = subst (λ r. exporting_by m i p.of r ≡ true) e h in cc)

  owned_there : (m : Text) (i : Ind) → gives_own ps m i ≡ true → IsThere (causes ps) giving m i m
  owned_there m i h =
      let a = and_parts (list_any (is_exporting m i) ps) (defines ps m i) h in
      let q = of-any (is_exporting m i) ps a.0 in
      let p = q.0 in
      let r = role_exports m i p p.role refl q.2 in
      let test : defines ps p.of i ≡ true = ap (λ o. defines ps o i) r.1 ∙ a.1 in
      let c = cause_at giving p i p.of in
      let here : own_by p.role ps p ≡ c ∷ [] = ap (λ x. own_by x ps p) r.0 ∙ ap (λ b. cond b (causes_at giving p ((i, p.of) ∷ [])) []) test in
      record {
        cause = c;
        there = own-in ps c (in-flat_map (λ (x : Place). own_by x.role ps x) ps p c q.1 (subst (λ l. Contains l c) (sym here) (in-here c [])));
        sort = refl;
        of = r.1;
        ind = refl;
        definer = r.1;
      }

  passed_there : (m n : Text) (i : Ind) (d : Text) → passes ps m n i ≡ true → Gives ps n i d → IsThere (causes ps) giving m i d
  passed_there m n i d h g =
      let a = of-any (is_edge m n) (edges ps i) h in
      let b = of-filter_map (edge_of i) ps a.0 a.1 in
      let t = edge_takes b.0 b.0.role refl i m n a.0 b.2 a.2 in
      subst (λ o. IsThere (causes ps) giving o i d) t.1 (taken_there giving b.0 n i d b.1 t.0 g)

  pub given_there : (m : Text) (i : Ind) (d : Text) → Gives ps m i d → IsThere (causes ps) giving m i d
  given_there _ _ _ (own m i h) = owned_there m i h
  given_there _ _ _ (passed m n i d h g) = passed_there m n i d h g

  -- ---- what causes tell

  record IsFirst (c : Cause) : Type 0 where
    sort : c.sort ≡ seeing
    defined : defines ps c.of c.ind ≡ true
    definer : c.definer ≡ c.of

  is_first : (i : Ind) (p : Place) → Contains ps p → p.role ≡ defining i → IsFirst (cause_at seeing p i p.of)
  is_first i p member e = record {
    sort = refl;
    defined = in-any (is_defining p.of i) ps p member (subst (λ r. defining_by p.of i p.of r ≡ true) (sym e) (and_from (same_text p.of p.of) (same_ind i i) (same_text-itself p.of) (same_ind-itself i)));
    definer = refl;
  }

  of-first : (before : List Place) (p : Place) (c : Cause) → Contains ps p → (r : Role Text) → p.role ≡ r → Contains (first_by r before p) c → IsFirst c
  of-first before p c member (defining i) e h = go (defines before p.of i) h
    where
      go : (b : Bool) → Contains (cond b [] (causes_at seeing p ((i, p.of) ∷ []))) c → IsFirst c
      go true k = absurd (in-nil c k)
      go false k = elim (in-cases (cause_at seeing p i p.of) c [] k) [ inl x ↦ subst IsFirst x (is_first i p member e) | inr l ↦ absurd (in-nil c l) ]
  of-first before p c member (exporting i) e h = absurd (in-nil c h)
  of-first before p c member (reexporting_all n) e h = absurd (in-nil c h)
  of-first before p c member (reexporting n i) e h = absurd (in-nil c h)
  of-first before p c member (moding i) e h = absurd (in-nil c h)
  of-first before p c member (importing_all n) e h = absurd (in-nil c h)
  of-first before p c member (importing n i) e h = absurd (in-nil c h)
  of-first before p c member idle e h = absurd (in-nil c h)

  record IsOwn (c : Cause) : Type 0 where
    sort : c.sort ≡ giving
    given : gives_own ps c.of c.ind ≡ true
    definer : c.definer ≡ c.of

  is_own : (i : Ind) (p : Place) → Contains ps p → p.role ≡ exporting i → defines ps p.of i ≡ true → IsOwn (cause_at giving p i p.of)
  is_own i p member e h = record {
    sort = refl;
    given = and_from (list_any (is_exporting p.of i) ps) (defines ps p.of i)
        (in-any (is_exporting p.of i) ps p member (subst (λ r. exporting_by p.of i p.of r ≡ true) (sym e) (and_from (same_text p.of p.of) (same_ind i i) (same_text-itself p.of) (same_ind-itself i)))) h;
    definer = refl;
  }

  of-own : (p : Place) (c : Cause) → Contains ps p → (r : Role Text) → p.role ≡ r → Contains (own_by r ps p) c → IsOwn c
  of-own p c member (exporting i) e h = go (defines ps p.of i) refl h
    where
      go : (b : Bool) → defines ps p.of i ≡ b → Contains (cond b (causes_at giving p ((i, p.of) ∷ [])) []) c → IsOwn c
      go true t k = elim (in-cases (cause_at giving p i p.of) c [] k) [ inl x ↦ subst IsOwn x (is_own i p member e t) | inr l ↦ absurd (in-nil c l) ]
      go false t k = absurd (in-nil c k)
  of-own p c member (defining i) e h = absurd (in-nil c h)
  of-own p c member (reexporting_all n) e h = absurd (in-nil c h)
  of-own p c member (reexporting n i) e h = absurd (in-nil c h)
  of-own p c member (moding i) e h = absurd (in-nil c h)
  of-own p c member (importing_all n) e h = absurd (in-nil c h)
  of-own p c member (importing n i) e h = absurd (in-nil c h)
  of-own p c member idle e h = absurd (in-nil c h)

  of-firsts : (c : Cause) → Contains (firsts ps) c → IsFirst c
  of-firsts c i =
      let a = of-flat_map first_at (steps [] ps) c i in
      of-first a.0.0 a.0.1 c (of-steps [] ps a.0 a.1) a.0.1.role refl a.2

  of-owns : (c : Cause) → Contains (owns ps) c → IsOwn c
  of-owns c i = let a = of-flat_map (λ (p : Place). own_by p.role ps p) ps c i in of-own a.0 c a.1 a.0.role refl a.2

  takes_imports : (p : Place) (n : Text) (i : Ind) (r : Role Text) → p.role ≡ r → Takes r seeing n i → is_importing p.of n i p ≡ true
  takes_imports p n i (importing_all k) e t = subst (λ r. importing_by p.of n i p.of r ≡ true) (sym e) (and_from (same_text p.of p.of) (same_text k n) (same_text-itself p.of) (subst (λ x. same_text k x ≡ true) t.1 (same_text-itself k)))
  takes_imports p n i (importing k j) e t =
      subst (λ r. importing_by p.of n i p.of r ≡ true) (sym e)
      (and_from (same_text p.of p.of) (same_text k n && same_ind i j) (same_text-itself p.of)
      (and_from (same_text k n) (same_ind i j) (subst (λ x. same_text k x ≡ true) t.1 (same_text-itself k)) (subst (λ x. same_ind x j ≡ true) t.2 (same_ind-itself j))))
  takes_imports p n i (reexporting_all k) e t = absurd (let f : seeing ≡ giving = t.0 in cc)
  takes_imports p n i (reexporting k j) e t = absurd (let f : seeing ≡ giving = t.0 in cc)
  takes_imports p n i (defining j) e t = absurd t
  takes_imports p n i (exporting j) e t = absurd t
  takes_imports p n i (moding j) e t = absurd t
  takes_imports p n i idle e t = absurd t

  abbrev cause_of : Cause → Text
  cause_of c = c.of

  taken_gives : (c : Cause) → c.sort ≡ giving → IsTaken ps c → Gives ps c.of c.ind c.definer
  taken_gives c e t =
      let takes = subst (λ s. Takes t.place.role s t.from c.ind) e t.takes in
      let pass = passes_by ps t.place t.place.role refl t.member t.from c.ind takes in
      let same : t.place.of ≡ c.of = ap cause_of (sym t.is) in
      subst (λ o. Gives ps o c.ind c.definer) same (passed t.place.of t.from c.ind c.definer pass (gives-is ps t.from c.ind c.definer t.given))

  own_gives : (c : Cause) → IsOwn c → Gives ps c.of c.ind c.definer
  own_gives c h = subst (Gives ps c.of c.ind) (sym h.definer) (own c.of c.ind h.given)

  pub cause_gives : (c : Cause) → Contains (causes ps) c → c.sort ≡ giving → Gives ps c.of c.ind c.definer
  cause_gives c i e = elim (of-causes ps c i) [
    | inl a ↦ absurd (let f : seeing ≡ giving = sym (of-firsts c a).sort ∙ e in cc)
    | inr b ↦ elim b [ inl o ↦ own_gives c (of-owns c o) | inr t ↦ taken_gives c e (of-takens ps c t) ]
  ]

  pub gives-some : (m : Text) (i : Ind) (d : Text) → Gives ps m i d → gives_some ps m i ≡ true
  gives-some m i d g = in-any (λ (x : Ind × Text). same_ind i x.0) (given ps m) (i, d) (in-given ps m i d (gives-from ps m i d g)) (same_ind-itself i)

  pub some-gives : (m : Text) (i : Ind) → gives_some ps m i ≡ true → (d : Text) × Gives ps m i d
  some-gives m i h =
      let a = of-any (λ (x : Ind × Text). same_ind i x.0) (given ps m) h in
      (a.0.1, subst (λ j. Gives ps m j a.0.1) (sym (same_ind-is i a.0.0 a.2)) (gives-is ps m a.0.0 a.0.1 (of-given ps m a.0 a.1)))

module _ (us : List (Facts Text)) where
  abbrev all_places : List Place
  all_places = places_of 0 us

  abbrev cause_home : Cause → Text
  cause_home c = c.of

  taken_visible : (c : Cause) → exists us c.of ≡ true → c.sort ≡ seeing → IsTaken all_places c → Visible us c.of c.ind c.definer
  taken_visible c x e t =
      let takes = subst (λ s. Takes t.place.role s t.from c.ind) e t.takes in
      let same : t.place.of ≡ c.of = ap cause_home (sym t.is) in
      let test = in-any (is_importing t.place.of t.from c.ind) all_places t.place t.member (takes_imports all_places t.place t.from c.ind t.place.role refl takes) in
      imported c.of t.from c.ind c.definer x (subst (λ o. list_any (is_importing o t.from c.ind) all_places ≡ true) same test) (gives-is all_places t.from c.ind c.definer t.given)

  first_visible : (c : Cause) → exists us c.of ≡ true → IsFirst all_places c → Visible us c.of c.ind c.definer
  first_visible c x h = subst (Visible us c.of c.ind) (sym h.definer) (defined c.of c.ind x h.defined)

  pub cause_visible : (c : Cause) → Contains (causes all_places) c → exists us c.of ≡ true → c.sort ≡ seeing → Visible us c.of c.ind c.definer
  cause_visible c i x e = elim (of-causes all_places c i) [
    | inl a ↦ first_visible c x (of-firsts all_places c a)
    | inr b ↦ elim b [
      | inl o ↦ absurd (let f : giving ≡ seeing = sym (of-owns all_places c o).sort ∙ e in cc)
      | inr t ↦ taken_visible c x e (of-takens all_places c t)
    ]
  ]

  abbrev IsSeen : Text → Ind → Text → Type 0
  IsSeen m i d = ((is_built_in i ≡ true) × (d ≡ system)) ⊎ IsThere (causes all_places) seeing m i d

  pub visible_cause : (m : Text) (i : Ind) (d : Text) → Visible us m i d → (exists us m ≡ true) × IsSeen m i d
  visible_cause _ _ _ (built_in m i x b) = (x, inl (b, refl))
  visible_cause _ _ _ (defined m i x h) = (x, inr (defined_there all_places m i h))
  visible_cause _ _ _ (imported m n i d x h g) = (x, inr (imported_there all_places m n i d h g))
