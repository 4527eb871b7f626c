-- Entries that ask for what isn't there, entry by entry.
use Rattle.std.proofs.Common.{◌≡◌, ℕ, zero, suc, arith, ◌+◌, ◌<◌, List, [], ◌∷◌, ◌++◌, length, map, take, get_or, Bool, true, false, not, refl, sym, ap, ◌∙◌, Option, Some, None}
use Rattle.std.specs.List.{AllByRecursion, flat_map, list_any}
use Rattle.std.proofs.lemmas.List.{append-nil, map-append}
use Rattle.unit_model.specs.Facts.{Facts}
use Rattle.unit_model.specs.Directives.{Text}
use Rattle.unit_model.specs.Encoding.{text_at}
use Rattle.link_model.specs.Places.{Role as RoleOf, exporting, moding, reexporting, importing, Placed as PlacedOf, places_of}
use Rattle.link_model.specs.Giving.{defines, gives_some}
use Rattle.link_model.specs.Faults.{Fault as FaultOf, fault, only_if, missing}
use Rattle.mod_visible.specs.declared.placed.Role.{Role}
use Rattle.mod_visible.specs.declared.placed.Role.TheVariants.{Defining, Exporting, ReexportingAll, Reexporting, Moding, ImportingAll, Importing, Idle}
use Rattle.mod_visible.specs.declared.placed.Placed.{Placed}
use Rattle.mod_visible.specs.Placing.{IsBelow, AllBelow, placed_view, places_view, role_view, role_by, role_names, IsFlat}
use Rattle.mod_visible.specs.Causing.{ind_text, entry_texts}
use Rattle.mod_faults.specs.declared.fault.Fault.{Fault}
use Rattle.mod_faults.specs.declared.bodies.Procedure.{Procedure}
use Rattle.mod_faults.specs.Views.{fault_view, faults_view}
use Rattle.mod_faults.specs.Bodies.{AreDefined}
use Rattle.mod_faults.specs.Missing.{unless, number_by, fault_by, missing_by, missings}
use Rattle.mod_faults.proofs.Needing.{flat-more}
use Rattle.mod_faults.proofs.Units.{get_or-itself}
use Rattle.mod_faults.proofs.Taking.{text_of}

views-unless : (b : Bool) (n : ℕ) (p : Placed) → faults_view (fault_by (unless b n) p) ≡ only_if (not b) (fault p.unit p.byte n)
views-unless true n p = refl
views-unless false n p = refl

module _ (names : List Text) (ps : List (PlacedOf Text)) (keys : List Procedure) (h : AreDefined names ps keys) where
  abbrev missing_role : RoleOf Text → PlacedOf Text → List FaultOf
  missing_role r p = elim r [
    | exporting i ↦ only_if (not (defines ps p.of i)) (fault p.unit p.byte 4)
    | moding i ↦ only_if (not (defines ps p.of i)) (fault p.unit p.byte 5)
    | reexporting n i ↦ only_if (not (gives_some ps n i)) (fault p.unit p.byte 6)
    | importing n i ↦ only_if (not (gives_some ps n i)) (fault p.unit p.byte 6)
    | _ ↦ []
  ]

  by_role : (p : Placed) → p.module.0 < length names → (r : Role) → AllBelow (length names) (role_names (role_view r))
      → faults_view (fault_by (number_by r p.module names keys ps) p) ≡ missing_role (role_by (text_at names) (role_view r)) (text_of names p)
  by_role p hp (Defining i) b = refl
  by_role p hp (Exporting i) b = views-unless (list_any _ keys) 4 p ∙ ap (λ x. only_if (not x) (fault p.unit p.byte 4)) (h p.module.0 i.name.0 i.arity hp b.0)
  by_role p hp (ReexportingAll i) b = refl
  by_role p hp (Reexporting n i) b = views-unless (gives_some ps (text_at names n.0) (ind_text names i.name.0 i.arity)) 6 p
  by_role p hp (Moding i) b = views-unless (list_any _ keys) 5 p ∙ ap (λ x. only_if (not x) (fault p.unit p.byte 5)) (h p.module.0 i.name.0 i.arity hp b.0)
  by_role p hp (ImportingAll i) b = refl
  by_role p hp (Importing n i) b = views-unless (gives_some ps (text_at names n.0) (ind_text names i.name.0 i.arity)) 6 p
  by_role p hp Idle b = refl

  all_missing : (es : List Placed) → AllByRecursion (IsBelow (length names)) (places_view es) → faults_view (flat_map (missing_by names keys ps) es) ≡ flat_map (missing ps) (entry_texts names es)
  all_missing [] below = refl
  all_missing (e ∷ es) below =
      map-append fault_view (missing_by names keys ps e) (flat_map (missing_by names keys ps) es)
      ∙ ap (λ l. l ++ faults_view (flat_map (missing_by names keys ps) es)) (by_role e below.0.0 e.role below.0.1)
      ∙ ap (λ l. missing ps (text_of names e) ++ l) (all_missing es below.1)

pub asked : (names : List Text) (es : List Placed) (units : List (Facts Text)) (keys : List Procedure) (old out : List Fault) → IsFlat names es units → AreDefined names (places_of 0 units) keys
    → out ≡ old ++ flat_map (missing_by names keys (places_of 0 units)) es → faults_view out ≡ faults_view old ++ missings (places_of 0 units)
asked names es units keys old out flat h step =
    let ps = places_of 0 units in
    ap faults_view step ∙ map-append fault_view old (flat_map (missing_by names keys ps) es)
    ∙ ap (λ l. faults_view old ++ l) (all_missing names ps keys h es flat.below ∙ ap (flat_map (missing ps)) flat.places)

-- ---- entry by entry

pub asked_more : (h : Placed → List Fault) (es : List Placed) (k : ℕ) (d : Placed) (old out new : List Fault) → k < length es → out ≡ old ++ flat_map h (take k es) → new ≡ out ++ h (get_or es k d) → new ≡ old ++ flat_map h (take (k + 1) es)
asked_more h es k d old out new lt so_far step = flat-more h es k (get_or es k d) old out new lt (get_or-itself es k d lt) so_far step

pub one_asked : (old new : List Fault) (o : Option ℕ) (p : Placed) (n : ℕ) → o ≡ Some n → new ≡ old ++ record { number = n; unit = p.unit; byte = p.byte } ∷ [] → new ≡ old ++ fault_by o p
one_asked old new o p n e step = step ∙ ap (λ x. old ++ fault_by x p) (sym e)

pub none_asked : (old new : List Fault) (o : Option ℕ) (p : Placed) → o ≡ None → new ≡ old → new ≡ old ++ fault_by o p
none_asked old new o p e step = step ∙ sym (append-nil old) ∙ ap (λ x. old ++ fault_by x p) (sym e)

all_below : {A B : Type 0} (P : B → Type 0) (f : A → B) (xs : List A) (k : ℕ) (d : A) → k < length xs → AllByRecursion P (map f xs) → P (f (get_or xs k d))
all_below P f [] k d lt h = absurd (omega arith)
all_below P f (x ∷ xs) zero d lt h = h.0
all_below P f (x ∷ xs) (suc k) d lt h = all_below P f xs k d (omega arith) h.1

pub entry_below : (n : ℕ) (es : List Placed) (k : ℕ) (d : Placed) → k < length es → AllByRecursion (IsBelow n) (places_view es) → IsBelow n (placed_view (get_or es k d))
entry_below n es k d lt h = all_below (IsBelow n) placed_view es k d lt h
