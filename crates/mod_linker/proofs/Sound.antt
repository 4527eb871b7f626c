-- Rows of units: their modules exist, and their definers define what is visible.
use Rattle.std.proofs.Common.{◌≡◌, List, [], ◌∷◌, ◌++◌, filter, Bool, true, false, ◌&&◌, cond, refl, sym, ap, ◌∙◌, append_assoc, Some, None}
use Rattle.std.specs.List.{AllByRecursion, flat_map, filter_map, list_any, cons_option}
use Rattle.std.proofs.lemmas.Bool.{and_parts, and_from, or_left, or_right}
use Rattle.std.proofs.lemmas.List.Folds.{list_any-append}
use Rattle.std.specs.declared.cmp.Ordering.{Ordering}
use Rattle.std.specs.declared.cmp.Ordering.TheVariants.{Less, Equal, Greater}
use Rattle.pl_atoms.proofs.Texts.{same_text-itself}
use Rattle.pl_ops.specs.Tables.{same_text}
use Rattle.unit_model.specs.Facts.{Facts}
use Rattle.unit_model.specs.Directives.{Text}
use Rattle.link_model.specs.Places.{Ind, same_ind, Role, defining, exporting, reexporting_all, reexporting, moding, importing_all, importing, idle, Placed, places_of, steps}
use Rattle.link_model.specs.Giving.{is_defining, defines, own_of, owned, given, given_for, gives}
use Rattle.link_model.specs.Seeing.{exists, Sort, seeing, giving, Cause, causes_at, causes_of, causes}
use Rattle.link_model.specs.Faults.{is_seeing}
use Rattle.link_model.specs.Rows.{Row, row_cmp, put_by, put, in_order, seen_row, rows_of}
use Rattle.link_model.proofs.Same.{same_ind-itself}
use Rattle.mod_linker.proofs.Defined.{all_append, defining_by}

module _ (P : Row → Type 0) where
  put_all : (r : Row) (rs : List Row) → P r → AllByRecursion P rs → AllByRecursion P (put r rs)
  put_all r [] h k = (h, tt)
  put_all r (s ∷ rs) h k = go (row_cmp r s) (put_all r rs h k.1)
    where
      go : (o : Ordering) → AllByRecursion P (put r rs) → AllByRecursion P (put_by o r s rs (put r rs))
      go Less ih = (h, k)
      go Equal ih = k
      go Greater ih = (k.0, ih)

  order_all : (rs : List Row) → AllByRecursion P rs → AllByRecursion P (in_order rs)
  order_all [] h = tt
  order_all (r ∷ rs) h = put_all r (in_order rs) h.0 (order_all rs h.1)

abbrev pub IsSound : List (Facts Text) → Row → Type 0
IsSound us r = (exists us r.of ≡ true) × (defines (places_of 0 us) r.definer r.ind ≡ true)

module _ (ps : List (Placed Text)) where
  abbrev Defines : Cause → Type 0
  Defines c = defines ps c.definer c.ind ≡ true

  at_all : (sort : Sort) (p : Placed Text) (xs : List (Ind × Text)) → AllByRecursion (λ x. defines ps x.1 x.0 ≡ true) xs → AllByRecursion Defines (causes_at sort p xs)
  at_all sort p [] h = tt
  at_all sort p (x ∷ xs) h = (h.0, at_all sort p xs h.1)

  own_all : (qs : List (Placed Text)) → AllByRecursion (λ x. defines ps x.1 x.0 ≡ true) (filter_map (own_of ps) qs)
  own_all [] = tt
  own_all (q ∷ qs) = go q.role (own_all qs)
    where
      put_if : (i : Ind) (b : Bool) → defines ps q.of i ≡ b → AllByRecursion (λ x. defines ps x.1 x.0 ≡ true) (filter_map (own_of ps) qs) → AllByRecursion (λ x. defines ps x.1 x.0 ≡ true) (cons_option (cond b (Some (i, q.of)) None) (filter_map (own_of ps) qs))
      put_if i true e ih = (e, ih)
      put_if i false e ih = ih

      go : (r : Role Text) → AllByRecursion (λ x. defines ps x.1 x.0 ≡ true) (filter_map (own_of ps) qs)
          → AllByRecursion (λ x. defines ps x.1 x.0 ≡ true) (cons_option (elim r [ exporting i ↦ cond (defines ps q.of i) (Some (i, q.of)) None | _ ↦ None ]) (filter_map (own_of ps) qs))
      go (defining i) ih = ih
      go (exporting i) ih = put_if i (defines ps q.of i) refl ih
      go (reexporting_all n) ih = ih
      go (reexporting n i) ih = ih
      go (moding i) ih = ih
      go (importing_all n) ih = ih
      go (importing n i) ih = ih
      go idle ih = ih

  filter_all : (t : Ind × Text → Bool) (xs : List (Ind × Text)) → AllByRecursion (λ x. defines ps x.1 x.0 ≡ true) xs → AllByRecursion (λ x. defines ps x.1 x.0 ≡ true) (filter t xs)
  filter_all t [] h = tt
  filter_all t (x ∷ xs) h = go (t x) (filter_all t xs h.1)
    where
      go : (b : Bool) → AllByRecursion (λ x. defines ps x.1 x.0 ≡ true) (filter t xs) → AllByRecursion (λ x. defines ps x.1 x.0 ≡ true) (cond b (x ∷ filter t xs) (filter t xs))
      go true ih = (h.0, ih)
      go false ih = ih

  given_all : (n : Text) → AllByRecursion (λ x. defines ps x.1 x.0 ≡ true) (given ps n)
  given_all n = filter_all (λ x. gives ps n x.0 x.1) (owned ps) (own_all ps)

  given_for_all : (n : Text) (i : Ind) → AllByRecursion (λ x. defines ps x.1 x.0 ≡ true) (given_for ps n i)
  given_for_all n i = filter_all (λ x. same_ind i x.0) (given ps n) (given_all n)

  -- a clause's procedure is defined
  abbrev Own : Text → Role Text → Type 0
  Own o (defining i) = defines ps o i ≡ true
  Own o _ = Unit {0}

  abbrev causes_by : List (Placed Text) → Role Text → Placed Text → List Cause
  causes_by before r p = elim r [
    | defining i ↦ cond (defines before p.of i) [] (causes_at seeing p ((i, p.of) ∷ []))
    | exporting i ↦ cond (defines ps p.of i) (causes_at giving p ((i, p.of) ∷ [])) []
    | reexporting_all n ↦ causes_at giving p (given ps n)
    | reexporting n i ↦ causes_at giving p (given_for ps n i)
    | importing_all n ↦ causes_at seeing p (given ps n)
    | importing n i ↦ causes_at seeing p (given_for ps n i)
    | moding i ↦ []
    | idle ↦ []
  ]

  if_first : (b : Bool) (c : Cause) → Defines c → AllByRecursion Defines (cond b [] (c ∷ []))
  if_first true c h = tt
  if_first false c h = (h, tt)

  if_own : (b : Bool) (c : Cause) → (b ≡ true → Defines c) → AllByRecursion Defines (cond b (c ∷ []) [])
  if_own true c h = (h refl, tt)
  if_own false c h = tt

  made_all : (before : List (Placed Text)) (p : Placed Text) (r : Role Text) → Own p.of r → AllByRecursion Defines (causes_by before r p)
  made_all before p (defining i) h = if_first (defines before p.of i) (record { sort = seeing; of = p.of; ind = i; unit = p.unit; byte = p.byte; definer = p.of }) h
  made_all before p (exporting i) h = if_own (defines ps p.of i) (record { sort = giving; of = p.of; ind = i; unit = p.unit; byte = p.byte; definer = p.of }) (λ e. e)
  made_all before p (reexporting_all n) h = at_all giving p (given ps n) (given_all n)
  made_all before p (reexporting n i) h = at_all giving p (given_for ps n i) (given_for_all n i)
  made_all before p (importing_all n) h = at_all seeing p (given ps n) (given_all n)
  made_all before p (importing n i) h = at_all seeing p (given_for ps n i) (given_for_all n i)
  made_all before p (moding i) h = tt
  made_all before p idle h = tt

  steps_made : (before xs : List (Placed Text)) → AllByRecursion (λ p. Own p.of p.role) xs → AllByRecursion Defines (flat_map (λ x. causes_of ps x.0 x.1) (steps before xs))
  steps_made before [] h = tt
  steps_made before (x ∷ xs) h =
      all_append Defines (causes_of ps before x) (flat_map (λ y. causes_of ps y.0 y.1) (steps (before ++ x ∷ []) xs)) (made_all before x x.role h.0) (steps_made (before ++ x ∷ []) xs h.1)

  own_at : (pre xs : List (Placed Text)) (x : Placed Text) → ps ≡ pre ++ x ∷ xs → (r : Role Text) → x.role ≡ r → Own x.of r
  own_at pre xs x e (defining i) is =
      let itself : defining_by x.of i x.of x.role ≡ true = ap (defining_by x.of i x.of) is ∙ and_from (same_text x.of x.of) (same_ind i i) (same_text-itself x.of) (same_ind-itself i) in
      ap (λ l. defines l x.of i) e ∙ list_any-append (is_defining x.of i) pre (x ∷ xs)
      ∙ or_right (list_any (is_defining x.of i) pre) (list_any (is_defining x.of i) (x ∷ xs)) (or_left (is_defining x.of i x) (list_any (is_defining x.of i) xs) itself)
  own_at pre xs x e (exporting i) is = tt
  own_at pre xs x e (reexporting_all n) is = tt
  own_at pre xs x e (reexporting n i) is = tt
  own_at pre xs x e (moding i) is = tt
  own_at pre xs x e (importing_all n) is = tt
  own_at pre xs x e (importing n i) is = tt
  own_at pre xs x e idle is = tt

  own_each : (pre xs : List (Placed Text)) → ps ≡ pre ++ xs → AllByRecursion (λ p. Own p.of p.role) xs
  own_each pre [] e = tt
  own_each pre (x ∷ xs) e = (own_at pre xs x e x.role refl, own_each (pre ++ x ∷ []) xs (e ∙ sym (append_assoc pre (x ∷ []) xs)))

  pub causes_define : AllByRecursion (λ c. defines ps c.definer c.ind ≡ true) (causes ps)
  causes_define = steps_made [] ps (own_each [] ps refl)

seen_all : (us : List (Facts Text)) (cs : List Cause) → AllByRecursion (λ c. defines (places_of 0 us) c.definer c.ind ≡ true) cs → AllByRecursion (IsSound us) (filter_map (seen_row us) cs)
seen_all us [] h = tt
seen_all us (c ∷ cs) h = go (is_seeing c.sort && exists us c.of) refl (seen_all us cs h.1)
  where
    go : (b : Bool) → (is_seeing c.sort && exists us c.of) ≡ b → AllByRecursion (IsSound us) (filter_map (seen_row us) cs)
        → AllByRecursion (IsSound us) (cons_option (cond b (Some (record { of = c.of; ind = c.ind; definer = c.definer })) None) (filter_map (seen_row us) cs))
    go true e ih = (((and_parts (is_seeing c.sort) (exists us c.of) e).1, h.0), ih)
    go false e ih = ih

-- the modules of rows exist, and their definers define what is visible
pub rows_sound : (us : List (Facts Text)) → AllByRecursion (IsSound us) (rows_of us)
rows_sound us = order_all (IsSound us) (filter_map (seen_row us) (causes (places_of 0 us))) (seen_all us (causes (places_of 0 us)) (causes_define (places_of 0 us)))
