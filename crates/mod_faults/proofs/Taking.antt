-- Procedures that entries define, and the bodies with their clauses, entry by entry.
use Rattle.std.proofs.Common.{◌≡◌, ℕ, zero, suc, ◌+◌, ◌<◌, ◌≤◌, List, [], ◌∷◌, ◌++◌, length, map, take, get_or, Bool, true, false, ◌&&◌, ◌||◌, not, cond, refl, sym, ap, subst, ◌∙◌, arith, eqb, eqb-true}
use Rattle.std.specs.List.{AllByRecursion, list_any}
use Rattle.std.proofs.lemmas.Bool.{and_parts}
use Rattle.std.proofs.lemmas.List.{take_more, take_all, map-append}
use Rattle.std.proofs.lemmas.List.Folds.{list_any-append}
use Rattle.pl_atoms.specs.Names.{AreDistinct}
use Rattle.pl_ops.specs.Tables.{same_text}
use Rattle.unit_model.specs.Directives.{Text}
use Rattle.unit_model.specs.Encoding.{text_at}
use Rattle.unit_model.specs.declared.facts.Ind.{Ind}
use Rattle.link_model.specs.Places.{Ind as IndOf, same_ind, Role as RoleOf, defining, Placed as PlacedOf}
use Rattle.link_model.specs.Giving.{is_defining, defines}
use Rattle.link_model.specs.Faults.{Fault as FaultOf, fault, only_if, split_at}
use Rattle.mod_visible.specs.declared.placed.Role.{Role}
use Rattle.mod_visible.specs.declared.placed.Role.TheVariants.{Defining, Exporting, ReexportingAll, Reexporting, Moding, ImportingAll, Importing, Idle}
use Rattle.mod_visible.specs.declared.placed.Placed.{Placed}
use Rattle.mod_visible.specs.Placing.{IsBelow, AllBelow, placed_view, places_view, placed_by, role_view, role_by, role_names}
use Rattle.mod_visible.specs.Causing.{ind_text, entry_texts, IsTable}
use Rattle.mod_faults.specs.declared.fault.Fault.{Fault}
use Rattle.mod_faults.specs.declared.bodies.Procedure.{Procedure}
use Rattle.mod_faults.specs.declared.split.Spot.{Spot}
use Rattle.mod_faults.specs.Views.{fault_view, faults_view}
use Rattle.mod_faults.specs.Passing.{Passes}
use Rattle.mod_faults.specs.Bodies.{procedure, same_procedure, after_role, procedures_after, AreDefined, spot, same_spot, spots_by, spots_after, AreSpots, split_by, Taken, AreTaken, splits}
use Rattle.mod_faults.proofs.Lookups.{or_false, any_insert, same_number}
use Rattle.mod_faults.proofs.Passing.{passes-none, passes-more, passes-one}

-- ---- equal keys

made : ℕ → ℕ → ℕ → Procedure
made m n a = record { home = m; name = n; arity = a }

same_procedure-is : (p q : Procedure) → same_procedure p q ≡ true → p ≡ q
unfolding made
same_procedure-is p q h =
    let x = and_parts (eqb p.home q.home) (eqb p.name q.name && eqb p.arity q.arity) h in
    let y = and_parts (eqb p.name q.name) (eqb p.arity q.arity) x.1 in
    ap (λ m. made m p.name p.arity) (eqb-true p.home q.home x.0) ∙ ap (λ n. made q.home n p.arity) (eqb-true p.name q.name y.0) ∙ ap (made q.home q.name) (eqb-true p.arity q.arity y.1)

put : ℕ → ℕ → Procedure → Spot
put u k p = record { unit = u; section = k; procedure = p }

same_spot-is : (s t : Spot) → same_spot s t ≡ true → s ≡ t
unfolding put
same_spot-is s t h =
    let x = and_parts (eqb s.unit t.unit) (eqb s.section t.section && same_procedure s.procedure t.procedure) h in
    let y = and_parts (eqb s.section t.section) (same_procedure s.procedure t.procedure) x.1 in
    ap (λ u. put u s.section s.procedure) (eqb-true s.unit t.unit x.0) ∙ ap (λ k. put t.unit k s.procedure) (eqb-true s.section t.section y.0) ∙ ap (put t.unit t.section) (same_procedure-is s.procedure t.procedure y.1)

and_assoc : (a b c : Bool) → (a && (b && c)) ≡ ((a && b) && c)
and_assoc true b c = refl
and_assoc false b c = refl

and_false : (b : Bool) → (b && false) ≡ false
and_false true = refl
and_false false = refl

-- ---- one entry

abbrev pub text_of : List Text → Placed → PlacedOf Text
text_of names p = placed_by (text_at names) (placed_view p)

pub entry_texts-push : (names : List Text) (es : List Placed) (p : Placed) → entry_texts names (es ++ p ∷ []) ≡ entry_texts names es ++ text_of names p ∷ []
entry_texts-push names es p = ap (map (placed_by (text_at names))) (map-append placed_view es (p ∷ [])) ∙ map-append (placed_by (text_at names)) (places_view es) (placed_view p ∷ [])

abbrev defining_by : Text → IndOf → Text → RoleOf Text → Bool
defining_by m i o r = elim r [ defining j ↦ same_text o m && same_ind i j | _ ↦ false ]

abbrev tested_by : ℕ → ℕ → Text → IndOf → PlacedOf Text → Bool
tested_by u k m i q = (eqb u q.unit && eqb k q.section) && is_defining m i q

module _ (names : List Text) (distinct : AreDistinct names) where
  abbrev T : ℕ → Text
  T = text_at names

  abbrev Below : Role → Type 0
  Below r = AllBelow (length names) (role_names (role_view r))

  same_as : (m n a o : ℕ) (i : Ind) → m < length names → n < length names → o < length names → i.name.0 < length names
      → same_procedure (made m n a) (record { home = o; name = i.name.0; arity = i.arity }) ≡ (same_text (T o) (T m) && same_ind (ind_text names n a) (ind_text names i.name.0 i.arity))
  unfolding made
  same_as m n a o i hm hn ho hi =
      ap (λ b. b && (eqb n i.name.0 && eqb a i.arity)) (flip m o hm ho)
      ∙ ap (λ b. same_text (T o) (T m) && (b && eqb a i.arity)) (sym (same_number names distinct n i.name.0 hn hi))
    where
      flip : (m o : ℕ) → m < length names → o < length names → eqb m o ≡ same_text (T o) (T m)
      flip m o hm ho = sym (same_number names distinct m o hm ho) ∙ Rattle.mod_faults.proofs.Repeating.same_text-flip (T m) (T o)

  defined_by_role : (ps : List (PlacedOf Text)) (keys : List Procedure) (p : Placed) → AreDefined names ps keys → p.module.0 < length names → (r : Role) → Below r → (m n a : ℕ) → m < length names → n < length names
      → list_any (same_procedure (made m n a)) (after_role r keys p) ≡ (defines ps (T m) (ind_text names n a) || defining_by (T m) (ind_text names n a) (T p.module.0) (role_by T (role_view r)))
  unfolding made
  defined_by_role ps keys p h hp (Defining i) b m n a hm hn =
      any_insert same_procedure (λ q x y e. ap (same_procedure q) (sym (same_procedure-is x y e))) (made m n a) (procedure p.module i) keys
      ∙ ap (λ x. x || same_procedure (made m n a) (procedure p.module i)) (h m n a hm hn)
      ∙ ap (λ x. defines ps (T m) (ind_text names n a) || x) (same_as m n a p.module.0 i hm hn hp b.0)
  defined_by_role ps keys p h hp (Exporting i) b m n a hm hn = h m n a hm hn ∙ sym (or_false (defines ps (T m) (ind_text names n a)))
  defined_by_role ps keys p h hp (ReexportingAll i) b m n a hm hn = h m n a hm hn ∙ sym (or_false (defines ps (T m) (ind_text names n a)))
  defined_by_role ps keys p h hp (Reexporting k i) b m n a hm hn = h m n a hm hn ∙ sym (or_false (defines ps (T m) (ind_text names n a)))
  defined_by_role ps keys p h hp (Moding i) b m n a hm hn = h m n a hm hn ∙ sym (or_false (defines ps (T m) (ind_text names n a)))
  defined_by_role ps keys p h hp (ImportingAll i) b m n a hm hn = h m n a hm hn ∙ sym (or_false (defines ps (T m) (ind_text names n a)))
  defined_by_role ps keys p h hp (Importing k i) b m n a hm hn = h m n a hm hn ∙ sym (or_false (defines ps (T m) (ind_text names n a)))
  defined_by_role ps keys p h hp Idle b m n a hm hn = h m n a hm hn ∙ sym (or_false (defines ps (T m) (ind_text names n a)))

  pub defined_more : (ps : List (PlacedOf Text)) (p : Placed) (keys : List Procedure) → AreDefined names ps keys → IsBelow (length names) (placed_view p) → AreDefined names (ps ++ text_of names p ∷ []) (procedures_after keys p)
  unfolding made
  defined_more ps p keys h below m n a hm hn =
      defined_by_role ps keys p h below.0 p.role below.1 m n a hm hn
      ∙ ap (λ b. defines ps (T m) (ind_text names n a) || b) (sym (or_false (is_defining (T m) (ind_text names n a) (text_of names p))))
      ∙ sym (list_any-append (is_defining (T m) (ind_text names n a)) ps (text_of names p ∷ []))

  spots_by_role : (ps : List (PlacedOf Text)) (keys : List Spot) (p : Placed) → AreSpots names ps keys → p.module.0 < length names → (r : Role) → Below r → (u k m n a : ℕ) → m < length names → n < length names
      → list_any (same_spot (put u k (made m n a))) (spots_by r keys p) ≡ (list_any (tested_by u k (T m) (ind_text names n a)) ps || ((eqb u p.unit && eqb k p.section) && defining_by (T m) (ind_text names n a) (T p.module.0) (role_by T (role_view r))))
  unfolding made put
  spots_by_role ps keys p h hp (Defining i) b u k m n a hm hn =
      any_insert same_spot (λ q x y e. ap (same_spot q) (sym (same_spot-is x y e))) (put u k (made m n a)) (spot p i) keys
      ∙ ap (λ x. x || same_spot (put u k (made m n a)) (spot p i)) (h u k m n a hm hn)
      ∙ ap (λ x. list_any (tested_by u k (T m) (ind_text names n a)) ps || x)
      (and_assoc (eqb u p.unit) (eqb k p.section) (same_procedure (made m n a) (procedure p.module i)) ∙ ap (λ x. (eqb u p.unit && eqb k p.section) && x) (same_as m n a p.module.0 i hm hn hp b.0))
  spots_by_role ps keys p h hp (Exporting i) b u k m n a hm hn = h u k m n a hm hn ∙ sym (ap (λ x. list_any (tested_by u k (T m) (ind_text names n a)) ps || x) (and_false (eqb u p.unit && eqb k p.section)) ∙ or_false (list_any (tested_by u k (T m) (ind_text names n a)) ps))
  spots_by_role ps keys p h hp (ReexportingAll i) b u k m n a hm hn = h u k m n a hm hn ∙ sym (ap (λ x. list_any (tested_by u k (T m) (ind_text names n a)) ps || x) (and_false (eqb u p.unit && eqb k p.section)) ∙ or_false (list_any (tested_by u k (T m) (ind_text names n a)) ps))
  spots_by_role ps keys p h hp (Reexporting j i) b u k m n a hm hn = h u k m n a hm hn ∙ sym (ap (λ x. list_any (tested_by u k (T m) (ind_text names n a)) ps || x) (and_false (eqb u p.unit && eqb k p.section)) ∙ or_false (list_any (tested_by u k (T m) (ind_text names n a)) ps))
  spots_by_role ps keys p h hp (Moding i) b u k m n a hm hn = h u k m n a hm hn ∙ sym (ap (λ x. list_any (tested_by u k (T m) (ind_text names n a)) ps || x) (and_false (eqb u p.unit && eqb k p.section)) ∙ or_false (list_any (tested_by u k (T m) (ind_text names n a)) ps))
  spots_by_role ps keys p h hp (ImportingAll i) b u k m n a hm hn = h u k m n a hm hn ∙ sym (ap (λ x. list_any (tested_by u k (T m) (ind_text names n a)) ps || x) (and_false (eqb u p.unit && eqb k p.section)) ∙ or_false (list_any (tested_by u k (T m) (ind_text names n a)) ps))
  spots_by_role ps keys p h hp (Importing j i) b u k m n a hm hn = h u k m n a hm hn ∙ sym (ap (λ x. list_any (tested_by u k (T m) (ind_text names n a)) ps || x) (and_false (eqb u p.unit && eqb k p.section)) ∙ or_false (list_any (tested_by u k (T m) (ind_text names n a)) ps))
  spots_by_role ps keys p h hp Idle b u k m n a hm hn = h u k m n a hm hn ∙ sym (ap (λ x. list_any (tested_by u k (T m) (ind_text names n a)) ps || x) (and_false (eqb u p.unit && eqb k p.section)) ∙ or_false (list_any (tested_by u k (T m) (ind_text names n a)) ps))

  spots_more : (ps : List (PlacedOf Text)) (p : Placed) (keys : List Spot) → AreSpots names ps keys → IsBelow (length names) (placed_view p) → AreSpots names (ps ++ text_of names p ∷ []) (spots_after keys p)
  unfolding made put
  spots_more ps p keys h below u k m n a hm hn =
      spots_by_role ps keys p h below.0 p.role below.1 u k m n a hm hn
      ∙ ap (λ b. list_any (tested_by u k (T m) (ind_text names n a)) ps || b) (sym (or_false (tested_by u k (T m) (ind_text names n a) (text_of names p))))
      ∙ sym (list_any-append (tested_by u k (T m) (ind_text names n a)) ps (text_of names p ∷ []))

  views-one : (b : Bool) (f : Fault) → faults_view (cond b (f ∷ []) []) ≡ only_if b (fault_view f)
  views-one true f = refl
  views-one false f = refl

  abbrev split_role : RoleOf Text → List (PlacedOf Text) → PlacedOf Text → List FaultOf
  split_role r before p = elim r [
    | defining i ↦ only_if (defines before p.of i && not (list_any (λ q. (eqb p.unit q.unit && eqb p.section q.section) && is_defining p.of i q) before)) (fault p.unit p.byte 8)
    | _ ↦ []
  ]

  split_texts : (ps : List (PlacedOf Text)) (keys : List Procedure) (spots : List Spot) (p : Placed) → AreDefined names ps keys → AreSpots names ps spots → p.module.0 < length names → (r : Role) → Below r
      → faults_view (split_by r keys spots p) ≡ split_role (role_by T (role_view r)) ps (text_of names p)
  split_texts ps keys spots p h g hp (Defining i) b =
      views-one (list_any (same_procedure (procedure p.module i)) keys && not (list_any (same_spot (spot p i)) spots)) (record { number = 8; unit = p.unit; byte = p.byte })
      ∙ ap (λ x. only_if (x && not (list_any (same_spot (spot p i)) spots)) (fault p.unit p.byte 8)) (h p.module.0 i.name.0 i.arity hp b.0)
      ∙ ap (λ x. only_if (defines ps (T p.module.0) (ind_text names i.name.0 i.arity) && not x) (fault p.unit p.byte 8)) (g p.unit p.section p.module.0 i.name.0 i.arity hp b.0)
  split_texts ps keys spots p h g hp (Exporting i) b = refl
  split_texts ps keys spots p h g hp (ReexportingAll i) b = refl
  split_texts ps keys spots p h g hp (Reexporting j i) b = refl
  split_texts ps keys spots p h g hp (Moding i) b = refl
  split_texts ps keys spots p h g hp (ImportingAll i) b = refl
  split_texts ps keys spots p h g hp (Importing j i) b = refl
  split_texts ps keys spots p h g hp Idle b = refl

  pub entry_passes : (p : Placed) (t t' : Taken) (old new : List Fault) → IsBelow (length names) (placed_view p) → t'.procedures ≡ procedures_after t.procedures p → t'.spots ≡ spots_after t.spots p → new ≡ old ++ split_by p.role t.procedures t.spots p
      → Passes (AreTaken names) split_at (text_of names p ∷ []) t t' (faults_view old) (faults_view new)
  entry_passes p t t' old new below ks ss fs =
      passes-one (AreTaken names) split_at (text_of names p) t t' (faults_view old) (faults_view new) (λ before h. (
        record {
          procedures = subst (AreDefined names (before ++ text_of names p ∷ [])) (sym ks) (defined_more before p t.procedures h.procedures below);
          spots = subst (AreSpots names (before ++ text_of names p ∷ [])) (sym ss) (spots_more before p t.spots h.spots below);
        },
        ap faults_view fs ∙ map-append fault_view old (split_by p.role t.procedures t.spots p)
            ∙ ap (λ l. faults_view old ++ l) (split_texts before t.procedures t.spots p h.procedures h.spots below.0 p.role below.1),
      ))

-- ---- entry by entry

all_at : {A B : Type 0} (P : B → Type 0) (f : A → B) (xs : List A) (k : ℕ) (d : A) → k < length xs → AllByRecursion P (map f xs) → P (f (get_or xs k d))
all_at P f [] k d lt h = absurd (omega arith)
all_at P f (x ∷ xs) zero d lt h = h.0
all_at P f (x ∷ xs) (suc k) d lt h = all_at P f xs k d (omega arith) h.1

pub entry_below : (names : List Text) (entries : List Placed) (k : ℕ) (d : Placed) → k < length entries → IsTable names entries → IsBelow (length names) (placed_view (get_or entries k d))
entry_below names entries k d lt table = all_at (IsBelow (length names)) placed_view entries k d lt table.below

pub defined_step : (names : List Text) (entries : List Placed) (k : ℕ) (d : Placed) (keys keys' : List Procedure) → k < length entries → IsTable names entries → AreDefined names (entry_texts names (take k entries)) keys → keys' ≡ procedures_after keys (get_or entries k d)
    → AreDefined names (entry_texts names (take (k + 1) entries)) keys'
defined_step names entries k d keys keys' lt table h ks =
    let p = get_or entries k d in
    subst (λ l. AreDefined names l keys') (sym (ap (entry_texts names) (take_more entries k d lt) ∙ entry_texts-push names (take k entries) p))
    (subst (AreDefined names (entry_texts names (take k entries) ++ text_of names p ∷ [])) (sym ks) (defined_more names table.distinct (entry_texts names (take k entries)) p keys h (entry_below names entries k d lt table)))

pub defined_end : (names : List Text) (entries : List Placed) (k : ℕ) (keys : List Procedure) → length entries ≤ k → AreDefined names (entry_texts names (take k entries)) keys → AreDefined names (entry_texts names entries) keys
defined_end names entries k keys le h = subst (λ l. AreDefined names (entry_texts names l) keys) (take_all k entries le) h

abbrev pub taken : List Procedure → List Spot → Taken
taken ps ss = record { procedures = ps; spots = ss }

pub split_step : (names : List Text) (entries : List Placed) (k : ℕ) (d : Placed) (first t t' : Taken) (old new last : List Fault) → k < length entries → IsTable names entries
    → Passes (AreTaken names) split_at (entry_texts names (take k entries)) first t (faults_view old) (faults_view new)
    → t'.procedures ≡ procedures_after t.procedures (get_or entries k d) → t'.spots ≡ spots_after t.spots (get_or entries k d) → last ≡ new ++ split_by (get_or entries k d).role t.procedures t.spots (get_or entries k d)
    → Passes (AreTaken names) split_at (entry_texts names (take (k + 1) entries)) first t' (faults_view old) (faults_view last)
split_step names entries k d first t t' old new last lt table h ks ss fs =
    let p = get_or entries k d in
    subst (λ (l : List (PlacedOf Text)). Passes (AreTaken names) split_at l first t' (faults_view old) (faults_view last)) (sym (ap (entry_texts names) (take_more entries k d lt) ∙ entry_texts-push names (take k entries) p))
    (passes-more (AreTaken names) split_at (entry_texts names (take k entries)) (text_of names p ∷ []) first t t' (faults_view old) (faults_view new) (faults_view last) h
    (entry_passes names table.distinct p t t' new last (entry_below names entries k d lt table) ks ss fs))

pub split_start : (names : List Text) (t : Taken) (old : List Fault) → Passes (AreTaken names) split_at [] t t (faults_view old) (faults_view old)
split_start names t old = passes-none (AreTaken names) split_at t (faults_view old)

none_taken : (names : List Text) (keys : List Procedure) (spots : List Spot) → keys ≡ [] → spots ≡ [] → AreTaken names (taken keys spots) []
none_taken names keys spots e f = record {
  procedures = subst (AreDefined names []) (sym e) (λ m n a hm hn. refl);
  spots = subst (AreSpots names []) (sym f) (λ u k m n a hm hn. refl);
}

pub split_end : (names : List Text) (entries : List Placed) (k : ℕ) (keys : List Procedure) (spots : List Spot) (t : Taken) (old new : List Fault) → length entries ≤ k → keys ≡ [] → spots ≡ []
    → Passes (AreTaken names) split_at (entry_texts names (take k entries)) (taken keys spots) t (faults_view old) (faults_view new) → faults_view new ≡ faults_view old ++ splits (entry_texts names entries)
split_end names entries k keys spots t old new le e f h =
    let whole = subst (λ l. Passes (AreTaken names) split_at (entry_texts names l) (taken keys spots) t (faults_view old) (faults_view new)) (take_all k entries le) h in
    (whole [] (none_taken names keys spots e f)).1
