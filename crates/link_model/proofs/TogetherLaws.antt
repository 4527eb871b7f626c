-- Units have no fault on needs and interfaces exactly where each agrees with those before it.
use Rattle.std.proofs.Common.{◌≡◌, ℕ, suc, List, [], ◌∷◌, ◌++◌, length, map, Bool, true, false, not, ◌&&◌, ◌||◌, cond, refl, sym, ap, subst, ◌∙◌, Option, Some, None, append_assoc, inl, inr, eqb-true, eq-eqb, eqb}
use Rattle.std.specs.List.{flat_map, filter_map, list_any, AllByRecursion}
use Rattle.std.specs.Option.{option_or}
use Rattle.std.proofs.lemmas.Bool.{and_parts, and_from, or_cases, or_left, or_right, or_parts, or_from}
use Rattle.std.proofs.lemmas.List.{append-nil}
use Rattle.std.proofs.lemmas.List.Concat.{flat_map-append}
use Rattle.std.proofs.lemmas.List.Folds.{list_any-append}
use Rattle.pl_atoms.proofs.Texts.{same_text-is, same_text-itself}
use Rattle.pl_ops.specs.Tables.{same_text}
use Rattle.pl_ops.specs.declared.op.Kind.{Kind}
use Rattle.pl_ops.specs.declared.op.Kind.TheVariants.{Xfx, Xfy, Yfx, Fx, Fy, Xf, Yf}
use Rattle.unit_model.specs.Facts.{Facts, Section, SectionKind, interface, body, Need, OperatorOf}
use Rattle.unit_model.specs.Directives.{Text}
use Rattle.unit_model.specs.Encoding.{kind_byte}
use Rattle.unit_model.specs.Preparing.{Interface, operators_known}
use Rattle.unit_model.specs.Known.{interface_of, interfaces_of}
use Rattle.link_model.specs.Places.{steps}
use Rattle.link_model.specs.Faults.{Fault, fault, only_if, PlacedInterface, interfaces_in, interfaces_from, same_operator, same_operators, meets}
use Rattle.link_model.specs.Texts.{known, AllNew, AllAgree}
use Rattle.link_model.specs.Laws.{ApartIsTogether}

-- ---- operators

same_kind-is : (a b : Kind) → eqb (kind_byte a) (kind_byte b) ≡ true → a ≡ b
same_kind-is Xfx Xfx h = refl
same_kind-is Xfy Xfy h = refl
same_kind-is Yfx Yfx h = refl
same_kind-is Fx Fx h = refl
same_kind-is Fy Fy h = refl
same_kind-is Xf Xf h = refl
same_kind-is Yf Yf h = refl
same_kind-is _ _ h = absurd cc

abbrev operator_made : ℕ → Kind → Text → OperatorOf Text
operator_made p k s = record { op = record { priority = p; kind = k }; name = s }

same_operator-is : (o p : OperatorOf Text) → same_operator o p ≡ true → o ≡ p
same_operator-is o p h =
    let a = and_parts (eqb o.op.priority p.op.priority) (eqb (kind_byte o.op.kind) (kind_byte p.op.kind) && same_text o.name p.name) h in
    let b = and_parts (eqb (kind_byte o.op.kind) (kind_byte p.op.kind)) (same_text o.name p.name) a.1 in
    ap (λ n. operator_made n o.op.kind o.name) (eqb-true o.op.priority p.op.priority a.0) ∙ ap (λ k. operator_made p.op.priority k o.name) (same_kind-is o.op.kind p.op.kind b.0) ∙ ap (operator_made p.op.priority p.op.kind) (same_text-is o.name p.name b.1)

same_operator-itself : (o : OperatorOf Text) → same_operator o o ≡ true
same_operator-itself o =
    and_from (eqb o.op.priority o.op.priority) (eqb (kind_byte o.op.kind) (kind_byte o.op.kind) && same_text o.name o.name) (eq-eqb o.op.priority o.op.priority refl)
    (and_from (eqb (kind_byte o.op.kind) (kind_byte o.op.kind)) (same_text o.name o.name) (eq-eqb (kind_byte o.op.kind) (kind_byte o.op.kind) refl) (same_text-itself o.name))

same_operators-is : (os ps : List (OperatorOf Text)) → same_operators os ps ≡ true → os ≡ ps
same_operators-is [] [] h = refl
same_operators-is [] (p ∷ ps) h = absurd cc
same_operators-is (o ∷ os) [] h = absurd cc
same_operators-is (o ∷ os) (p ∷ ps) h =
    let a = and_parts (same_operator o p) (same_operators os ps) h in
    ap (λ x. x ∷ os) (same_operator-is o p a.0) ∙ ap (λ (xs : List (OperatorOf Text)). p ∷ xs) (same_operators-is os ps a.1)

same_operators-itself : (os : List (OperatorOf Text)) → same_operators os os ≡ true
same_operators-itself [] = refl
same_operators-itself (o ∷ os) = and_from (same_operator o o) (same_operators os os) (same_operator-itself o) (same_operators-itself os)

-- ---- lists

pub nil_parts : {A : Type 0} (xs ys : List A) → xs ++ ys ≡ [] → (xs ≡ []) × (ys ≡ [])
nil_parts [] ys h = (refl, h)
nil_parts (x ∷ xs) ys h = absurd cc

nil_from : {A : Type 0} (xs ys : List A) → xs ≡ [] → ys ≡ [] → xs ++ ys ≡ []
nil_from xs ys a b = rw (a, b) refl

only_if-nil : {A : Type 0} (b : Bool) (x : A) → only_if b x ≡ [] → b ≡ false
only_if-nil true x h = absurd cc
only_if-nil false x h = refl

not-false : (b : Bool) → not b ≡ false → b ≡ true
not-false true h = refl
not-false false h = absurd cc

steps-append : {A : Type 0} (before xs ys : List A) → steps before (xs ++ ys) ≡ steps before xs ++ steps (before ++ xs) ys
steps-append before [] ys = ap (λ b. steps b ys) (sym (append-nil before))
steps-append {A} before (x ∷ xs) ys =
    ap (λ (l : List (List A × A)). (before, x) ∷ l) (steps-append (before ++ x ∷ []) xs ys ∙ ap (λ b. steps (before ++ x ∷ []) xs ++ steps b ys) (append_assoc before (x ∷ []) xs))

-- ---- what is known

abbrev fits : Text → List (OperatorOf Text) → Interface → Bool
fits m os i = same_text i.of m && same_operators i.operators os

abbrev known_step : Bool → Interface → List Interface → Text → Option (List (OperatorOf Text))
known_step b i is m = cond b (Some i.operators) (operators_known is m)

known-append : (a b : List Interface) (m : Text) → operators_known (a ++ b) m ≡ option_or (operators_known a m) (operators_known b m)
known-append [] b m = refl
known-append (i ∷ a) b m = go (same_text i.of m) (known-append a b m)
  where
    go : (t : Bool) → operators_known (a ++ b) m ≡ option_or (operators_known a m) (operators_known b m) → known_step t i (a ++ b) m ≡ option_or (known_step t i a m) (operators_known b m)
    go true ih = refl
    go false ih = ih

known-fits : (is : List Interface) (m : Text) (os : List (OperatorOf Text)) → operators_known is m ≡ Some os → list_any (fits m os) is ≡ true
known-fits [] m os h = absurd cc
known-fits (i ∷ is) m os h = go (same_text i.of m) refl h (known-fits is m os)
  where
    go : (t : Bool) → same_text i.of m ≡ t → known_step t i is m ≡ Some os → (operators_known is m ≡ Some os → list_any (fits m os) is ≡ true) → list_any (fits m os) (i ∷ is) ≡ true
    go true e k ih =
        let o : i.operators ≡ os = cc in
        or_left (fits m os i) (list_any (fits m os) is) (and_from (same_text i.of m) (same_operators i.operators os) e (subst (λ x. same_operators i.operators x ≡ true) o (same_operators-itself i.operators)))
    go false e k ih = or_right (fits m os i) (list_any (fits m os) is) (ih k)

-- a new interface is the one that is known
known-new : (before is : List Interface) (m : Text) (os : List (OperatorOf Text)) → AllNew before is → list_any (fits m os) is ≡ true → operators_known (before ++ is) m ≡ Some os
known-new before [] m os new h = absurd cc
known-new before (i ∷ is) m os new h =
    elim (or_cases (fits m os i) (list_any (fits m os) is) h) [
      | inl here ↦
          let p = and_parts (same_text i.of m) (same_operators i.operators os) here in
          let none : operators_known before m ≡ None = subst (λ x. operators_known before x ≡ None) (same_text-is i.of m p.0) new.0 in
          let found : operators_known (i ∷ is) m ≡ Some os = ap (λ b. known_step b i is m) p.0 ∙ ap Some (same_operators-is i.operators os p.1) in
          known-append before (i ∷ is) m ∙ ap (λ o. option_or o (operators_known (i ∷ is) m)) none ∙ found
      | inr there ↦ ap (λ l. operators_known l m) (sym (append_assoc before (i ∷ []) is)) ∙ known-new (before ++ i ∷ []) is m os new.1 there
    ]

AllNew-append : (before xs ys : List Interface) → AllNew before xs → AllNew (before ++ xs) ys → AllNew before (xs ++ ys)
AllNew-append before [] ys a b = subst (λ l. AllNew l ys) (append-nil before) b
AllNew-append before (x ∷ xs) ys a b = (a.0, AllNew-append (before ++ x ∷ []) xs ys a.1 (subst (λ l. AllNew l ys) (sym (append_assoc before (x ∷ []) xs)) b))

known-push : (us : List (Facts Text)) (f : Facts Text) → known (us ++ f ∷ []) ≡ known us ++ interfaces_of f
known-push us f = flat_map-append interfaces_of us (f ∷ []) ∙ ap (λ l. known us ++ l) (append-nil (interfaces_of f))

meets-any : (n : Need Text) (us : List (Facts Text)) → list_any (meets n) us ≡ list_any (fits n.of n.operators) (known us)
meets-any n [] = refl
meets-any n (f ∷ fs) = ap (λ b. meets n f || b) (meets-any n fs) ∙ sym (list_any-append (fits n.of n.operators) (interfaces_of f) (known fs))

-- ---- needs

abbrev unmet_needs : List (Facts Text) → List (Need Text) → List Fault
unmet_needs before ns = flat_map (λ n. only_if (not (list_any (meets n) before)) (fault (length before) n.byte 2)) ns

abbrev unmet_from : List (Facts Text) → List (Facts Text) → List Fault
unmet_from before fs = flat_map (λ x. unmet_needs x.0 x.1.needs) (steps before fs)

abbrev AreKnown : List Interface → List (Need Text) → Type 0
AreKnown before = AllByRecursion (λ n. operators_known before n.of ≡ Some n.operators)

met : (before : List (Facts Text)) → AllNew [] (known before) → (ns : List (Need Text)) → unmet_needs before ns ≡ [] → AreKnown (known before) ns
met before new [] h = tt
met before new (n ∷ ns) h =
    let p = nil_parts (only_if (not (list_any (meets n) before)) (fault (length before) n.byte 2)) (unmet_needs before ns) h in
    let any : list_any (meets n) before ≡ true = not-false (list_any (meets n) before) (only_if-nil (not (list_any (meets n) before)) (fault (length before) n.byte 2) p.0) in
    (known-new [] (known before) n.of n.operators new (sym (meets-any n before) ∙ any), met before new ns p.1)

unmet_none : (before : List (Facts Text)) (ns : List (Need Text)) → AreKnown (known before) ns → unmet_needs before ns ≡ []
unmet_none before [] h = refl
unmet_none before (n ∷ ns) h =
    let any : list_any (meets n) before ≡ true = meets-any n before ∙ known-fits (known before) n.of n.operators h.0 in
    nil_from (only_if (not (list_any (meets n) before)) (fault (length before) n.byte 2)) (unmet_needs before ns) (ap (λ b. only_if (not b) (fault (length before) n.byte 2)) any) (unmet_none before ns h.1)

-- ---- interfaces, of which the names alone tell

abbrev names_in : List Interface → List Text
names_in = map (λ i. i.of)

abbrev names_at : List PlacedInterface → List Text
names_at = map (λ i. i.of)

abbrev has : Text → List Text → Bool
has m = list_any (λ n. same_text n m)

abbrev is_of : Text → PlacedInterface → Bool
is_of m i = same_text i.of m

any-has : (m : Text) (pre : List PlacedInterface) → list_any (is_of m) pre ≡ has m (names_at pre)
any-has m [] = refl
any-has m (i ∷ pre) = ap (λ b. is_of m i || b) (any-has m pre)

unknown : (is : List Interface) (m : Text) → has m (names_in is) ≡ false → operators_known is m ≡ None
unknown [] m h = refl
unknown (i ∷ is) m h =
    let p = or_parts (same_text i.of m) (has m (names_in is)) h in
    ap (λ b. known_step b i is m) p.0 ∙ unknown is m p.1

none_has : (is : List Interface) (m : Text) → operators_known is m ≡ None → has m (names_in is) ≡ false
none_has [] m h = refl
none_has (i ∷ is) m h = go (same_text i.of m) refl h (none_has is m)
  where
    go : (t : Bool) → same_text i.of m ≡ t → known_step t i is m ≡ None → (operators_known is m ≡ None → has m (names_in is) ≡ false) → has m (names_in (i ∷ is)) ≡ false
    go true e k ih = absurd cc
    go false e k ih = or_from (same_text i.of m) (has m (names_in is)) e (ih k)

abbrev repeated_from : List PlacedInterface → List PlacedInterface → List Fault
repeated_from before is = flat_map (λ x. only_if (list_any (λ i. same_text i.of x.1.of) x.0) (fault x.1.unit x.1.byte 3)) (steps before is)

map-push : {A B : Type 0} (f : A → B) (xs : List A) (x : A) → map f (xs ++ x ∷ []) ≡ map f xs ++ f x ∷ []
map-push f [] x = refl
map-push {A} {B} f (y ∷ xs) x = ap (λ (l : List B). f y ∷ l) (map-push f xs x)

pushed : (pre : List PlacedInterface) (before : List Interface) (p : PlacedInterface) (i : Interface) → names_at pre ≡ names_in before → p.of ≡ i.of → names_at (pre ++ p ∷ []) ≡ names_in (before ++ i ∷ [])
pushed pre before p i e s = map-push (λ (x : PlacedInterface). x.of) pre p ∙ ap (λ l. l ++ p.of ∷ []) e ∙ ap (λ (n : Text). names_in before ++ n ∷ []) s ∙ sym (map-push (λ (x : Interface). x.of) before i)

all_new : (pre ps : List PlacedInterface) (before is : List Interface) → names_at pre ≡ names_in before → names_at ps ≡ names_in is → repeated_from pre ps ≡ [] → AllNew before is
all_new pre [] before [] e s h = tt
all_new pre [] before (i ∷ is) e s h = absurd cc
all_new pre (p ∷ ps) before [] e s h = absurd cc
all_new pre (p ∷ ps) before (i ∷ is) e s h =
    let same : p.of ≡ i.of = cc in
    let rest : names_at ps ≡ names_in is = cc in
    let parts = nil_parts (only_if (list_any (is_of p.of) pre) (fault p.unit p.byte 3)) (repeated_from (pre ++ p ∷ []) ps) h in
    let none : list_any (is_of p.of) pre ≡ false = only_if-nil (list_any (is_of p.of) pre) (fault p.unit p.byte 3) parts.0 in
    let free : has p.of (names_in before) ≡ false = ap (has p.of) (sym e) ∙ sym (any-has p.of pre) ∙ none in
    (subst (λ m. operators_known before m ≡ None) same (unknown before p.of free), all_new (pre ++ p ∷ []) ps (before ++ i ∷ []) is (pushed pre before p i e same) rest parts.1)

none_repeated : (pre ps : List PlacedInterface) (before is : List Interface) → names_at pre ≡ names_in before → names_at ps ≡ names_in is → AllNew before is → repeated_from pre ps ≡ []
none_repeated pre [] before is e s h = refl
none_repeated pre (p ∷ ps) before [] e s h = absurd cc
none_repeated pre (p ∷ ps) before (i ∷ is) e s h =
    let same : p.of ≡ i.of = cc in
    let rest : names_at ps ≡ names_in is = cc in
    let free : list_any (is_of p.of) pre ≡ false = any-has p.of pre ∙ ap (has p.of) e ∙ none_has before p.of (subst (λ m. operators_known before m ≡ None) (sym same) h.0) in
    nil_from (only_if (list_any (is_of p.of) pre) (fault p.unit p.byte 3)) (repeated_from (pre ++ p ∷ []) ps)
    (ap (λ b. only_if b (fault p.unit p.byte 3)) free)
    (none_repeated (pre ++ p ∷ []) ps (before ++ i ∷ []) is (pushed pre before p i e same) rest h.1)

-- ---- both along the units

placed_names : (u : ℕ) (ss : List (Section Text)) → names_at (interfaces_in u ss) ≡ names_in (filter_map interface_of ss)
placed_names u [] = refl
placed_names u (s ∷ ss) = go s.kind refl (placed_names u ss)
  where
    go : (k : SectionKind) → s.kind ≡ k → names_at (interfaces_in u ss) ≡ names_in (filter_map interface_of ss) → names_at (interfaces_in u (s ∷ ss)) ≡ names_in (filter_map interface_of (s ∷ ss))
    go interface e ih = rw e (ap (λ (l : List Text). s.of ∷ l) ih)
    go body e ih = rw e ih

map-append : {A B : Type 0} (f : A → B) (xs ys : List A) → map f (xs ++ ys) ≡ map f xs ++ map f ys
map-append f [] ys = refl
map-append {A} {B} f (x ∷ xs) ys = ap (λ (l : List B). f x ∷ l) (map-append f xs ys)

repeated-append : (before a b : List PlacedInterface) → repeated_from before (a ++ b) ≡ repeated_from before a ++ repeated_from (before ++ a) b
repeated-append before a b =
    ap (λ l. flat_map (λ (x : List PlacedInterface × PlacedInterface). only_if (list_any (λ i. same_text i.of x.1.of) x.0) (fault x.1.unit x.1.byte 3)) l) (steps-append before a b)
    ∙ flat_map-append (λ (x : List PlacedInterface × PlacedInterface). only_if (list_any (λ i. same_text i.of x.1.of) x.0) (fault x.1.unit x.1.byte 3)) (steps before a) (steps (before ++ a) b)

after_unit : (u : ℕ) (before : List (Facts Text)) (f : Facts Text) (pre : List PlacedInterface) → names_at pre ≡ names_in (known before) → names_at (pre ++ interfaces_in u f.sections) ≡ names_in (known (before ++ f ∷ []))
after_unit u before f pre e =
    map-append (λ (i : PlacedInterface). i.of) pre (interfaces_in u f.sections) ∙ ap (λ l. l ++ names_at (interfaces_in u f.sections)) e ∙ ap (λ l. names_in (known before) ++ l) (placed_names u f.sections)
    ∙ sym (map-append (λ (i : Interface). i.of) (known before) (interfaces_of f)) ∙ ap names_in (sym (known-push before f))

agree : (u : ℕ) (before : List (Facts Text)) (pre : List PlacedInterface) (fs : List (Facts Text)) → names_at pre ≡ names_in (known before) → AllNew [] (known before) → unmet_from before fs ≡ [] → repeated_from pre (interfaces_from u fs) ≡ [] → AllAgree before fs
agree u before pre [] e new h k = tt
agree u before pre (f ∷ fs) e new h k =
    let needs = nil_parts (unmet_needs before f.needs) (unmet_from (before ++ f ∷ []) fs) h in
    let here = interfaces_in u f.sections in
    let parts = nil_parts (repeated_from pre here) (repeated_from (pre ++ here) (interfaces_from (suc u) fs)) (sym (repeated-append pre here (interfaces_from (suc u) fs)) ∙ k) in
    let own : AllNew (known before) (interfaces_of f) = all_new pre here (known before) (interfaces_of f) e (placed_names u f.sections) parts.0 in
    let later : AllNew [] (known (before ++ f ∷ [])) = subst (λ l. AllNew [] l) (sym (known-push before f)) (AllNew-append [] (known before) (interfaces_of f) new own) in
    (record { needs = met before new f.needs needs.0; interfaces = own }, agree (suc u) (before ++ f ∷ []) (pre ++ here) fs (after_unit u before f pre e) later needs.1 parts.1)

no_fault : (u : ℕ) (before : List (Facts Text)) (pre : List PlacedInterface) (fs : List (Facts Text)) → names_at pre ≡ names_in (known before) → AllAgree before fs → (unmet_from before fs ≡ []) × (repeated_from pre (interfaces_from u fs) ≡ [])
no_fault u before pre [] e h = (refl, refl)
no_fault u before pre (f ∷ fs) e h =
    let here = interfaces_in u f.sections in
    let rest = no_fault (suc u) (before ++ f ∷ []) (pre ++ here) fs (after_unit u before f pre e) h.1 in (
      nil_from (unmet_needs before f.needs) (unmet_from (before ++ f ∷ []) fs) (unmet_none before f.needs h.0.needs) rest.0,
      repeated-append pre here (interfaces_from (suc u) fs) ∙ nil_from (repeated_from pre here) (repeated_from (pre ++ here) (interfaces_from (suc u) fs)) (none_repeated pre here (known before) (interfaces_of f) e (placed_names u f.sections) h.0.interfaces) rest.1,
    )

pub apart_is : ApartIsTogether
apart_is us = (λ h. agree 0 [] [] us refl tt h.0 h.1, λ h. no_fault 0 [] [] us refl h)
