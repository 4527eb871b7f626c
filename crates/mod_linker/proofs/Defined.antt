-- What holds of units without link faults: what has no clauses isn't defined, and modes are of what is defined.
use Rattle.std.proofs.Common.{◌≡◌, ℕ, suc, List, [], ◌∷◌, ◌++◌, length, map, Bool, true, false, not, ◌&&◌, ◌||◌, cond, refl, sym, ap, ◌∙◌, Option, Some, None}
use Rattle.std.specs.List.{AllByRecursion, flat_map, list_any, cons_option}
use Rattle.std.specs.Option.{option_or}
use Rattle.std.proofs.lemmas.Bool.{and_parts}
use Rattle.std.proofs.lemmas.List.Folds.{list_any-append}
use Rattle.pl_atoms.proofs.Texts.{same_text-is}
use Rattle.pl_ops.specs.Tables.{same_text}
use Rattle.pl_terms.specs.Trees.{Tree, var, int, atom, comp, count}
use Rattle.unit_model.specs.Facts.{What, exports, reexports_all, reexports, has_modes, declares, imports_all, imports, clause, Section, Facts}
use Rattle.unit_model.specs.Directives.{Text}
use Rattle.goal_model.specs.Program.{Clause}
use Rattle.link_model.specs.Places.{Ind, same_ind, Role, defining, exporting, reexporting_all, reexporting, moding, importing_all, importing, idle, Placed, defined_by, role_of, place_of, places_in, places_from, places_of}
use Rattle.link_model.specs.Giving.{defines, gives_some}
use Rattle.link_model.specs.Faults.{Fault, fault, only_if, missing, least}
use Rattle.link_model.proofs.Same.{same_ind-is}
use Rattle.program_model.specs.Saying.{Said, said_of, said_in, said, head_indicator, same_indicator, is_its, clause_in, clauses_said, modes_in, modes_said}
use Rattle.mod_faults.proofs.Repeating.{same_text-flip}

-- ---- lists without faults

pub append-none : {A : Type 0} (xs ys : List A) → xs ++ ys ≡ [] → (xs ≡ []) × (ys ≡ [])
append-none [] ys e = (refl, e)
append-none (x ∷ xs) ys e = absurd cc

pub no_fault : (fs : List Fault) → least fs ≡ None → fs ≡ []
no_fault [] e = refl
no_fault (f ∷ fs) e = absurd cc

pub only-none : (b : Bool) (f : Fault) → only_if (not b) f ≡ [] → b ≡ true
only-none true f e = refl
only-none false f e = absurd cc

-- ---- places as entries

module _ (t : Text → Role Text → Bool) where
  entries_any : (u k : ℕ) (s : Section Text) → list_any (λ p. t p.of p.role) (places_in u k s) ≡ list_any (λ x. t x.of (role_of x.what)) (said_in s)
  entries_any u k s = go s.entries
    where
      go : (es : List (Rattle.unit_model.specs.Facts.Entry Text)) → list_any (λ (p : Placed Text). t p.of p.role) (map (place_of u k s.of) es) ≡ list_any (λ (x : Said Text). t x.of (role_of x.what)) (map (λ e. said_of s.of e.what) es)
      go [] = refl
      go (e ∷ es) = ap (λ b. t s.of (role_of e.what) || b) (go es)

  sections_any : (u k : ℕ) (ss : List (Section Text)) → list_any (λ p. t p.of p.role) (places_from u k ss) ≡ list_any (λ x. t x.of (role_of x.what)) (flat_map said_in ss)
  sections_any u k [] = refl
  sections_any u k (s ∷ ss) =
      list_any-append (λ (p : Placed Text). t p.of p.role) (places_in u k s) (places_from u (suc k) ss)
      ∙ ap (λ b. b || list_any (λ (p : Placed Text). t p.of p.role) (places_from u (suc k) ss)) (entries_any u k s)
      ∙ ap (λ b. list_any (λ (x : Said Text). t x.of (role_of x.what)) (said_in s) || b) (sections_any u (suc k) ss)
      ∙ sym (list_any-append (λ (x : Said Text). t x.of (role_of x.what)) (said_in s) (flat_map said_in ss))

  pub places_any : (u : ℕ) (fs : List (Facts Text)) → list_any (λ p. t p.of p.role) (places_of u fs) ≡ list_any (λ x. t x.of (role_of x.what)) (said fs)
  places_any u [] = refl
  places_any u (f ∷ fs) =
      list_any-append (λ (p : Placed Text). t p.of p.role) (places_from u 0 f.sections) (places_of (suc u) fs)
      ∙ ap (λ b. b || list_any (λ (p : Placed Text). t p.of p.role) (places_of (suc u) fs)) (sections_any u 0 f.sections)
      ∙ ap (λ b. list_any (λ (x : Said Text). t x.of (role_of x.what)) (flat_map said_in f.sections) || b) (places_any (suc u) fs)
      ∙ sym (list_any-append (λ (x : Said Text). t x.of (role_of x.what)) (flat_map said_in f.sections) (said fs))

pub all_parts : {X : Type 0} (P : X → Type 0) (xs ys : List X) → AllByRecursion P (xs ++ ys) → AllByRecursion P xs × AllByRecursion P ys
all_parts P [] ys h = (tt, h)
all_parts P (x ∷ xs) ys h = let r = all_parts P xs ys h.1 in ((h.0, r.0), r.1)

pub all_append : {A : Type 0} (P : A → Type 0) (xs ys : List A) → AllByRecursion P xs → AllByRecursion P ys → AllByRecursion P (xs ++ ys)
all_append P [] ys a b = b
all_append P (x ∷ xs) ys a b = (a.0, all_append P xs ys a.1 b)

module _ (P : Text → Role Text → Type 0) where
  entries_all : (u k : ℕ) (m : Text) (es : List (Rattle.unit_model.specs.Facts.Entry Text)) → AllByRecursion (λ p. P p.of p.role) (map (place_of u k m) es) → AllByRecursion (λ x. P x.of (role_of x.what)) (map (λ e. said_of m e.what) es)
  entries_all u k m [] h = tt
  entries_all u k m (e ∷ es) h = (h.0, entries_all u k m es h.1)

  sections_all : (u k : ℕ) (ss : List (Section Text)) → AllByRecursion (λ p. P p.of p.role) (places_from u k ss) → AllByRecursion (λ x. P x.of (role_of x.what)) (flat_map said_in ss)
  sections_all u k [] h = tt
  sections_all u k (s ∷ ss) h =
      let p = all_parts (λ (q : Placed Text). P q.of q.role) (places_in u k s) (places_from u (suc k) ss) h in
      all_append (λ (x : Said Text). P x.of (role_of x.what)) (said_in s) (flat_map said_in ss) (entries_all u k s.of s.entries p.0) (sections_all u (suc k) ss p.1)

  pub places_all : (u : ℕ) (fs : List (Facts Text)) → AllByRecursion (λ p. P p.of p.role) (places_of u fs) → AllByRecursion (λ x. P x.of (role_of x.what)) (said fs)
  places_all u [] h = tt
  places_all u (f ∷ fs) h =
      let p = all_parts (λ (q : Placed Text). P q.of q.role) (places_from u 0 f.sections) (places_of (suc u) fs) h in
      all_append (λ (x : Said Text). P x.of (role_of x.what)) (flat_map said_in f.sections) (said fs) (sections_all u 0 f.sections p.0) (places_all (suc u) fs p.1)

-- ---- what has no clauses isn't defined

abbrev pub defining_by : Text → Ind → Text → Role Text → Bool
defining_by m i o r = elim r [ defining j ↦ same_text o m && same_ind i j | _ ↦ false ]

none_made : (b : Bool) (c : Clause Text) (xs : List (Clause Text)) → cons_option (cond b (Some c) None) xs ≡ [] → (b ≡ false) × (xs ≡ [])
none_made true c xs e = absurd cc
none_made false c xs e = (refl, e)

head_test : (d m : Text) (i : Ind) (h : Tree Text) → defining_by d i m (defined_by h) ≡ (same_text d m && is_its same_text i (head_indicator h))
head_test d m i (var n) = sym (and_false (same_text d m))
  where
    and_false : (b : Bool) → (b && false) ≡ false
    and_false true = refl
    and_false false = refl
head_test d m i (int z) = sym (and_false (same_text d m))
  where
    and_false : (b : Bool) → (b && false) ≡ false
    and_false true = refl
    and_false false = refl
head_test d m i (atom s) = ap (λ b. b && same_ind i (record { name = s; arity = 0 })) (same_text-flip m d)
head_test d m i (comp s ts) = ap (λ b. b && same_ind i (record { name = s; arity = count ts })) (same_text-flip m d)

no_clauses : (d : Text) (i : Ind) (xs : List (Said Text)) → clauses_said same_text xs d i ≡ [] → list_any (λ x. defining_by d i x.of (role_of x.what)) xs ≡ false
no_clauses d i [] e = refl
no_clauses d i (x ∷ xs) e = go x.what e (no_clauses d i xs)
  where
    go : (w : What Text) → cons_option (clause_in same_text d i x.of w) (clauses_said same_text xs d i) ≡ [] → (clauses_said same_text xs d i ≡ [] → list_any (λ y. defining_by d i y.of (role_of y.what)) xs ≡ false)
        → (defining_by d i x.of (role_of w) || list_any (λ y. defining_by d i y.of (role_of y.what)) xs) ≡ false
    go (exports j) e ih = ih e
    go (reexports_all n) e ih = ih e
    go (reexports n j) e ih = ih e
    go (has_modes s ms) e ih = ih e
    go (declares o) e ih = ih e
    go (imports_all n) e ih = ih e
    go (imports n j) e ih = ih e
    go (clause n h b) e ih =
        let r = none_made (same_text d x.of && is_its same_text i (head_indicator h)) (record { width = n; head = h; body = b }) (clauses_said same_text xs d i) e in
        ap (λ t. t || list_any (λ (y : Said Text). defining_by d i y.of (role_of y.what)) xs) (head_test d x.of i h ∙ r.0) ∙ ih r.1

pub undefined : (us : List (Facts Text)) (d : Text) (i : Ind) → clauses_said same_text (said us) d i ≡ [] → defines (places_of 0 us) d i ≡ false
undefined us d i e = places_any (defining_by d i) 0 us ∙ no_clauses d i (said us) e

-- ---- modes are of what is defined

module _ (ps : List (Placed Text)) where
  abbrev Met : Text → Role Text → Type 0
  Met o (moding i) = defines ps o i ≡ true
  Met o _ = Unit {0}

  abbrev missing_role : Role Text → Placed Text → List Fault
  missing_role r p = elim r [
    | exporting i ↦ only_if (not (defines ps p.of i)) (fault p.unit p.byte 4)
    | moding i ↦ only_if (not (defines ps p.of i)) (fault p.unit p.byte 5)
    | reexporting n i ↦ only_if (not (gives_some ps n i)) (fault p.unit p.byte 6)
    | importing n i ↦ only_if (not (gives_some ps n i)) (fault p.unit p.byte 6)
    | _ ↦ []
  ]

  met_by : (p : Placed Text) (r : Role Text) → missing_role r p ≡ [] → Met p.of r
  met_by p (defining i) e = tt
  met_by p (exporting i) e = tt
  met_by p (reexporting_all n) e = tt
  met_by p (reexporting n i) e = tt
  met_by p (moding i) e = only-none (defines ps p.of i) (fault p.unit p.byte 5) e
  met_by p (importing_all n) e = tt
  met_by p (importing n i) e = tt
  met_by p idle e = tt

  all_met : (qs : List (Placed Text)) → flat_map (missing ps) qs ≡ [] → AllByRecursion (λ p. Met p.of p.role) qs
  all_met [] e = tt
  all_met (q ∷ qs) e = let p = append-none (missing ps q) (flat_map (missing ps) qs) e in (met_by q q.role p.0, all_met qs p.1)

  indicator_is : (i j : Ind) → same_indicator same_text i j ≡ true → i ≡ j
  indicator_is i j e = same_ind-is i j e

  met_here : (d : Text) (i : Ind) (m : Text) (w : What Text) (ms : List Bool) → Met m (role_of w) → modes_in same_text d i m w ≡ Some ms → defines ps d i ≡ true
  met_here d i m (exports j) ms h e = absurd cc
  met_here d i m (reexports_all n) ms h e = absurd cc
  met_here d i m (reexports n j) ms h e = absurd cc
  met_here d i m (has_modes s ns) ms h e = go (same_text d m && same_indicator same_text i (record { name = s; arity = length ns })) refl e
    where
      go : (b : Bool) → (same_text d m && same_indicator same_text i (record { name = s; arity = length ns })) ≡ b → cond b (Some ns) None ≡ Some ms → defines ps d i ≡ true
      go true t f =
          let p = and_parts (same_text d m) (same_indicator same_text i (record { name = s; arity = length ns })) t in
          let same : i ≡ record { name = s; arity = length ns } = indicator_is i (record { name = s; arity = length ns }) p.1 in
          ap (λ x. defines ps x i) (same_text-is d m p.0) ∙ ap (defines ps m) same ∙ h
      go false t f = absurd cc
  met_here d i m (declares o) ms h e = absurd cc
  met_here d i m (imports_all n) ms h e = absurd cc
  met_here d i m (imports n j) ms h e = absurd cc
  met_here d i m (clause n h' b) ms h e = absurd cc

  met_modes : (d : Text) (i : Ind) (xs : List (Said Text)) (ms : List Bool) → AllByRecursion (λ x. Met x.of (role_of x.what)) xs → modes_said same_text xs d i ≡ Some ms → defines ps d i ≡ true
  met_modes d i [] ms h e = absurd cc
  met_modes d i (x ∷ xs) ms h e = go (modes_said same_text xs d i) refl e (λ ns f. met_modes d i xs ns h.1 f)
    where
      go : (o : Option (List Bool)) → modes_said same_text xs d i ≡ o → option_or o (modes_in same_text d i x.of x.what) ≡ Some ms → ((ns : List Bool) → modes_said same_text xs d i ≡ Some ns → defines ps d i ≡ true) → defines ps d i ≡ true
      go None f e ih = met_here d i x.of x.what ms h.0 e
      go (Some ns) f e ih = ih ns f

pub no_modes : (us : List (Facts Text)) (d : Text) (i : Ind) → flat_map (missing (places_of 0 us)) (places_of 0 us) ≡ [] → clauses_said same_text (said us) d i ≡ [] → modes_said same_text (said us) d i ≡ None
no_modes us d i none e = go (modes_said same_text (said us) d i) refl
  where
    go : (o : Option (List Bool)) → modes_said same_text (said us) d i ≡ o → o ≡ None
    go None f = refl
    go (Some ms) f =
        let met = places_all (Met (places_of 0 us)) 0 us (all_met (places_of 0 us) (places_of 0 us) none) in
        let here = met_modes (places_of 0 us) d i (said us) ms met f in
        let gone = undefined us d i e in
        absurd cc
