-- The modules of all sections exist where no need is unmet.
use Rattle.std.proofs.Common.{◌≡◌, ℕ, nat_eq, List, [], ◌∷◌, ◌++◌, length, map, Bool, true, false, not, ◌&&◌, ◌||◌, cond, refl, sym, ap, subst, ◌∙◌, append_assoc, Some, None, inl, inr}
use Rattle.std.specs.List.{AllByRecursion, flat_map, filter_map, list_any, list_all, cons_option}
use Rattle.std.proofs.lemmas.Bool.{and_parts, or_cases, or_left, or_right}
use Rattle.std.proofs.lemmas.List.Concat.{flat_map-append}
use Rattle.std.proofs.lemmas.List.Folds.{list_any-append}
use Rattle.pl_atoms.proofs.Texts.{same_text-is, same_text-itself}
use Rattle.pl_ops.specs.Tables.{same_text}
use Rattle.unit_model.specs.Facts.{OperatorOf, Need, Entry, Section, Facts}
use Rattle.unit_model.specs.Directives.{Text}
use Rattle.unit_model.specs.Preparing.{Interface, is_interface, operators_of}
use Rattle.unit_model.specs.Validity.{operators_of as valid_operators, is_user, begins_with_user, has_its_entries, is_accepted, is_clause, are_needs, own_modules, holds, knows, known_in, all_known, keeps_rules}
use Rattle.unit_model.specs.Known.{interface_of, interfaces_of}
use Rattle.link_model.specs.Places.{user, system, steps}
use Rattle.link_model.specs.Seeing.{exists}
use Rattle.link_model.specs.Faults.{Fault, fault, only_if, same_operators, meets, unmet}
use Rattle.program_model.specs.Saying.{Said, said_of, said_in, said}
use Rattle.mod_faults.proofs.Repeating.{same_text-flip}
use Rattle.mod_linker.proofs.Defined.{append-none, only-none, all_append}

abbrev has_interface : Text → List Interface → Bool
has_interface m is = list_any (λ i. same_text i.of m) is

-- ---- interfaces that are there

has_more : (m : Text) (is js : List Interface) → has_interface m js ≡ true → has_interface m (is ++ js) ≡ true
has_more m is js h = list_any-append (λ (i : Interface). same_text i.of m) is js ∙ or_right (has_interface m is) (has_interface m js) h

has_first : (m : Text) (is js : List Interface) → has_interface m is ≡ true → has_interface m (is ++ js) ≡ true
has_first m is js h = list_any-append (λ (i : Interface). same_text i.of m) is js ∙ or_left (has_interface m is) (has_interface m js) h

own_here : (m : Text) (ss : List (Section Text)) → list_any (same_text m) (own_modules ss) ≡ true → has_interface m (filter_map interface_of ss) ≡ true
own_here m [] h = absurd cc
own_here m (s ∷ ss) h = go (is_interface s.kind) h (own_here m ss)
  where
    go : (b : Bool) → list_any (same_text m) (cons_option (cond b (Some s.of) None) (own_modules ss)) ≡ true → (list_any (same_text m) (own_modules ss) ≡ true → has_interface m (filter_map interface_of ss) ≡ true)
        → has_interface m (cons_option (cond b (Some (record { of = s.of; operators = operators_of s.entries })) None) (filter_map interface_of ss)) ≡ true
    go false e ih = ih e
    go true e ih = elim (or_cases (same_text m s.of) (list_any (same_text m) (own_modules ss)) e) [
      | inl a ↦ or_left (same_text s.of m) (has_interface m (filter_map interface_of ss)) (same_text-flip s.of m ∙ a)
      | inr b ↦ or_right (same_text s.of m) (has_interface m (filter_map interface_of ss)) (ih b)
    ]

fitting : (m : Text) (os : List (OperatorOf Text)) (is : List Interface) → list_any (λ i. same_text i.of m && same_operators i.operators os) is ≡ true → has_interface m is ≡ true
fitting m os [] h = absurd cc
fitting m os (i ∷ is) h = elim (or_cases (same_text i.of m && same_operators i.operators os) (list_any (λ j. same_text j.of m && same_operators j.operators os) is) h) [
  | inl a ↦ or_left (same_text i.of m) (has_interface m is) (and_parts (same_text i.of m) (same_operators i.operators os) a).0
  | inr b ↦ or_right (same_text i.of m) (has_interface m is) (fitting m os is b)
]

met_here : (n : Need Text) (fs : List (Facts Text)) → list_any (meets n) fs ≡ true → has_interface n.of (flat_map interfaces_of fs) ≡ true
met_here n [] h = absurd cc
met_here n (f ∷ fs) h = elim (or_cases (meets n f) (list_any (meets n) fs) h) [
  | inl a ↦ has_first n.of (interfaces_of f) (flat_map interfaces_of fs) (fitting n.of n.operators (interfaces_of f) a)
  | inr b ↦ has_more n.of (interfaces_of f) (flat_map interfaces_of fs) (met_here n fs b)
]

abbrev unmet_by : ℕ → List (Facts Text) → Need Text → List Fault
unmet_by u before n = only_if (not (list_any (meets n) before)) (fault u n.byte 2)

needed_here : (u : ℕ) (before : List (Facts Text)) (m : Text) (ns : List (Need Text)) → flat_map (unmet_by u before) ns ≡ [] → list_any (same_text m) (map (λ n. n.of) ns) ≡ true → has_interface m (flat_map interfaces_of before) ≡ true
needed_here u before m [] e h = absurd cc
needed_here u before m (n ∷ ns) e h =
    let p = append-none (unmet_by u before n) (flat_map (unmet_by u before) ns) e in
    elim (or_cases (same_text m n.of) (list_any (same_text m) (map (λ (k : Need Text). k.of) ns)) h) [
      | inl a ↦ subst (λ x. has_interface x (flat_map interfaces_of before) ≡ true) (sym (same_text-is m n.of a)) (met_here n before (only-none (list_any (meets n) before) (fault u n.byte 2) p.0))
      | inr b ↦ needed_here u before m ns p.1 b
    ]

-- ---- sections

module _ (us : List (Facts Text)) where
  abbrev Exists : Text → Type 0
  Exists m = exists us m ≡ true

  from_interface : (m : Text) → has_interface m (flat_map interfaces_of us) ≡ true → Exists m
  from_interface m h = or_right (same_text m user) (same_text m system || has_interface m (flat_map interfaces_of us)) (or_right (same_text m system) (has_interface m (flat_map interfaces_of us)) h)

  from_user : (m : Text) → same_text m user ≡ true → Exists m
  from_user m h = or_left (same_text m user) (same_text m system || has_interface m (flat_map interfaces_of us)) h

  module _ (f : Facts Text) (known : (m : Text) → list_any (same_text m) (known_in f) ≡ true → Exists m) where
    own_known : (m : Text) → list_any (same_text m) (own_modules f.sections) ≡ true → Exists m
    own_known m h = known m (list_any-append (same_text m) (own_modules f.sections) (map (λ (n : Need Text). n.of) f.needs) ∙ or_left (list_any (same_text m) (own_modules f.sections)) (list_any (same_text m) (map (λ (n : Need Text). n.of) f.needs)) h)

    -- a section after others, which opens an interface or is of a known module
    section_exists : (pre ss : List (Section Text)) (s : Section Text) → f.sections ≡ pre ++ s ∷ ss → (is_interface s.kind || holds (known_in f) s.of) ≡ true → Exists s.of
    section_exists pre ss s e h = go (is_interface s.kind) refl h
      where
        here : (qs : List (Section Text)) → is_interface s.kind ≡ true → list_any (same_text s.of) (own_modules (qs ++ s ∷ ss)) ≡ true
        here [] i = ap (λ b. list_any (same_text s.of) (cons_option (cond b (Some s.of) None) (own_modules ss))) i ∙ or_left (same_text s.of s.of) (list_any (same_text s.of) (own_modules ss)) (same_text-itself s.of)
        here (q ∷ qs) i = more (is_interface q.kind) (here qs i)
          where
            more : (b : Bool) → list_any (same_text s.of) (own_modules (qs ++ s ∷ ss)) ≡ true → list_any (same_text s.of) (cons_option (cond b (Some q.of) None) (own_modules (qs ++ s ∷ ss))) ≡ true
            more true ih = or_right (same_text s.of q.of) (list_any (same_text s.of) (own_modules (qs ++ s ∷ ss))) ih
            more false ih = ih

        go : (b : Bool) → is_interface s.kind ≡ b → (b || holds (known_in f) s.of) ≡ true → Exists s.of
        go true i h = own_known s.of (subst (λ l. list_any (same_text s.of) (own_modules l) ≡ true) (sym e) (here pre i))
        go false i h = known s.of h

    others_exist : (pre ss : List (Section Text)) → f.sections ≡ pre ++ ss → list_all (knows (known_in f)) ss ≡ true → AllByRecursion (λ s. Exists s.of) ss
    others_exist pre [] e h = tt
    others_exist pre (s ∷ ss) e h =
        let p = and_parts (knows (known_in f) s) (list_all (knows (known_in f)) ss) h in
        let q = and_parts (is_interface s.kind || holds (known_in f) s.of) _ p.0 in
        (section_exists pre ss s e q.0, others_exist (pre ++ s ∷ []) ss (e ∙ sym (append_assoc pre (s ∷ []) ss)) p.1)

    all_exist : (ss : List (Section Text)) → f.sections ≡ ss → begins_with_user ss ≡ true → all_known (known_in f) ss ≡ true → AllByRecursion (λ s. Exists s.of) ss
    all_exist [] e b k = tt
    all_exist (s ∷ ss) e b k =
        let p = (and_parts (is_user s.of) _ (and_parts (nat_eq s.byte 0) _ (and_parts (not (is_interface s.kind)) _ b).1).1).0 in
        (from_user s.of p, others_exist (s ∷ []) ss e (and_parts _ (list_all (knows (known_in f)) ss) k).1)

    unit_exists : keeps_rules f ≡ true → AllByRecursion (λ s. Exists s.of) f.sections
    unit_exists h =
        let a = and_parts (begins_with_user f.sections) _ h in
        let b = (and_parts (list_all has_its_entries f.sections) _ a.1).1 in
        let c = (and_parts (list_all (λ s. not (is_interface s.kind) || is_accepted (valid_operators s)) f.sections) _ b).1 in
        let d = (and_parts (list_all (λ n. is_accepted n.operators) f.needs) _ c).1 in
        let e = (and_parts (list_all (λ s. list_all (λ y. is_clause y.what) s.entries) f.sections) _ d).1 in
        let g = (and_parts (are_needs (own_modules f.sections) (map (λ n. n.of) f.needs)) _ e).1 in
        all_exist f.sections refl a.0 g

  said_exists : (ss : List (Section Text)) → AllByRecursion (λ s. Exists s.of) ss → AllByRecursion (λ x. Exists x.of) (flat_map said_in ss)
  said_exists [] h = tt
  said_exists (s ∷ ss) h = all_append (λ (x : Said Text). Exists x.of) (said_in s) (flat_map said_in ss) (entries s.entries) (said_exists ss h.1)
    where
      entries : (es : List (Entry Text)) → AllByRecursion (λ x. Exists x.of) (map (λ e. said_of s.of e.what) es)
      entries [] = tt
      entries (e ∷ es) = (h.0, entries es)

-- ---- units

module _ (us : List (Facts Text)) where
  from_earlier : (m : Text) (before fs : List (Facts Text)) → us ≡ before ++ fs → has_interface m (flat_map interfaces_of before) ≡ true → Exists us m
  from_earlier m before fs e h =
      from_interface us m (ap (λ l. has_interface m (flat_map interfaces_of l)) e ∙ ap (has_interface m) (flat_map-append interfaces_of before fs) ∙ has_first m (flat_map interfaces_of before) (flat_map interfaces_of fs) h)

  from_here : (m : Text) (before fs : List (Facts Text)) (f : Facts Text) → us ≡ before ++ f ∷ fs → has_interface m (interfaces_of f) ≡ true → Exists us m
  from_here m before fs f e h =
      from_interface us m (ap (λ l. has_interface m (flat_map interfaces_of l)) e ∙ ap (has_interface m) (flat_map-append interfaces_of before (f ∷ fs))
      ∙ has_more m (flat_map interfaces_of before) (flat_map interfaces_of (f ∷ fs)) (has_first m (interfaces_of f) (flat_map interfaces_of fs) h))

  units_exist : (before fs : List (Facts Text)) → us ≡ before ++ fs → AllByRecursion (λ f. keeps_rules f ≡ true) fs → flat_map (λ x. flat_map (unmet_by (length x.0) x.0) x.1.needs) (steps before fs) ≡ [] → AllByRecursion (λ x. Exists us x.of) (said fs)
  units_exist before [] e h none = tt
  units_exist before (f ∷ fs) e h none =
      let p = append-none (flat_map (unmet_by (length before) before) f.needs) (flat_map (λ x. flat_map (unmet_by (length x.0) x.0) x.1.needs) (steps (before ++ f ∷ []) fs)) none in
      let known : (m : Text) → list_any (same_text m) (known_in f) ≡ true → Exists us m = λ m k.
      elim (or_cases (list_any (same_text m) (own_modules f.sections)) (list_any (same_text m) (map (λ (n : Need Text). n.of) f.needs)) (sym (list_any-append (same_text m) (own_modules f.sections) (map (λ (n : Need Text). n.of) f.needs)) ∙ k)) [
        | inl a ↦ from_here m before fs f e (own_here m f.sections a)
        | inr b ↦ from_earlier m before (f ∷ fs) e (needed_here (length before) before m f.needs p.0 b)
      ] in
      all_append (λ (x : Said Text). Exists us x.of) (flat_map said_in f.sections) (said fs) (said_exists us f.sections (unit_exists us f known h.0))
      (units_exist (before ++ f ∷ []) fs (e ∙ sym (append_assoc before (f ∷ []) fs)) h.1 p.1)

-- the module of each entry exists where units keep their rules and no need is unmet
pub modules_exist : (us : List (Facts Text)) → AllByRecursion (λ f. keeps_rules f ≡ true) us → unmet us ≡ [] → AllByRecursion (λ x. exists us x.of ≡ true) (said us)
modules_exist us h none = units_exist us [] us refl h none
