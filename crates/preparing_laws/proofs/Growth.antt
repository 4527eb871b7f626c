-- More modules, and more interfaces that are known.
use Rattle.std.proofs.Common.{◌≡◌, List, [], ◌∷◌, ◌++◌, map, Bool, true, false, not, ◌&&◌, ◌||◌, if◌then◌else◌, ◌⊎◌, inl, inr, Option, Some, None, is_some, MatchOption, refl, sym, ap, ◌∙◌, subst}
use Rattle.std.specs.List.{AllByRecursion}
use Rattle.std.proofs.lemmas.Bool.{and_from, and_parts, or_parts, cases_Bool}
use Rattle.std.proofs.Math.Bool.{or-false}
use Rattle.pl_ops.specs.Tables.{same_text}
use Rattle.unit_model.specs.Facts.{OperatorOf, Need, Entry, What, exports, reexports_all, reexports, has_modes, declares, imports_all, imports, clause, SectionKind, Section}
use Rattle.unit_model.specs.Directives.{Text}
use Rattle.unit_model.specs.Preparing.{Interface, Opened, operators_known, is_reserved}
use Rattle.unit_model.specs.Validity.{is_interface, is_user, is_system, holds, are_needs, names_known}
use Rattle.preparing_laws.specs.States.{IsSoundInterface, IsSoundTaking, IsSoundEntry, IsSoundPart, IsSoundOpened}
use Rattle.preparing_laws.proofs.Lists.{OfSome, all-weaker}
use Rattle.preparing_laws.proofs.Tests.{no_both, same_text-true, apart_back, holds-either}

-- ---- modules

abbrev pub Among : List Text → List Text → Type 0
Among ms ns = (m : Text) → holds ms m ≡ true → holds ns m ≡ true

named-among : (ms ns : List Text) → Among ms ns → (w : What Text) → names_known ms w ≡ true → names_known ns w ≡ true
named-among ms ns g (exports i) h = refl
named-among ms ns g (reexports_all m) h = g m h
named-among ms ns g (reexports m i) h = g m h
named-among ms ns g (has_modes s l) h = refl
named-among ms ns g (declares o) h = refl
named-among ms ns g (imports_all m) h = g m h
named-among ms ns g (imports m i) h = g m h
named-among ms ns g (clause n a b) h = refl

pub entries-among : (ms ns : List Text) → Among ms ns → (k : SectionKind) (es : List (Entry Text)) → AllByRecursion (IsSoundEntry ms k) es → AllByRecursion (IsSoundEntry ns k) es
entries-among ms ns g k = all-weaker (IsSoundEntry ms k) (IsSoundEntry ns k) (λ e h. record { fits = h.fits; place = h.place; clause = h.clause; named = named-among ms ns g e.what h.named })

part-among : (ms ns : List Text) → Among ms ns → (s : Section Text) → IsSoundPart ms s → IsSoundPart ns s
part-among ms ns g s h = record {
  byte = h.byte;
  of = h.of;
  unreserved = h.unreserved;
  entries = entries-among ms ns g s.kind s.entries h.entries;
  accepted = h.accepted;
  named = go (is_interface s.kind) h.named;
}
  where
    go : (b : Bool) → (b || holds ms s.of) ≡ true → (b || holds ns s.of) ≡ true
    go true k = refl
    go false k = g s.of k

pub parts-among : (ms ns : List Text) → Among ms ns → (ss : List (Section Text)) → AllByRecursion (IsSoundPart ms) ss → AllByRecursion (IsSoundPart ns) ss
parts-among ms ns g = all-weaker (IsSoundPart ms) (IsSoundPart ns) (part-among ms ns g)

pub inside-among : (known : List Interface) (ms ns : List Text) → Among ms ns → (i : Option Opened) → MatchOption i (Unit {0}) (IsSoundOpened known ms) → MatchOption i (Unit {0}) (IsSoundOpened known ns)
inside-among known ms ns g None h = tt
inside-among known ms ns g (Some o) h = record { part = part-among ms ns g o.section h.part; table = h.table; fresh = h.fresh }

-- ---- needs

unreserved-parts : (m : Text) → is_reserved m ≡ false → (is_user m ≡ false) × (is_system m ≡ false)
unreserved-parts m h = or_parts (is_user m) (is_system m) h

not-there : (xs : List Text) (x m : Text) → same_text m x ≡ false → holds (xs ++ m ∷ []) x ≡ holds xs x
not-there xs x m h =
    holds-either xs (m ∷ []) x
    ∙ ap (λ b. holds xs x || (b || false)) (apart_back m x h)
    ∙ or-false (holds xs x)

pub needs-push : (own ms : List Text) (m : Text) → are_needs own ms ≡ true → is_reserved m ≡ false → holds own m ≡ false → holds ms m ≡ false → are_needs own (ms ++ m ∷ []) ≡ true
needs-push own [] m h r o n =
    let p = unreserved-parts m r in
    ap (λ b. not (b || (is_system m || (holds own m || false))) && true) p.0
    ∙ ap (λ b. not (b || (holds own m || false)) && true) p.1
    ∙ ap (λ b. not (b || false) && true) o
needs-push own (x ∷ xs) m h r o n =
    let p = and_parts (not (is_user x || (is_system x || (holds own x || holds xs x)))) (are_needs own xs) h in
    let q = or_parts (same_text m x) (holds xs m) n in
    and_from (not (is_user x || (is_system x || (holds own x || holds (xs ++ m ∷ []) x)))) (are_needs own (xs ++ m ∷ []))
    (ap (λ b. not (is_user x || (is_system x || (holds own x || b)))) (not-there xs x m q.0) ∙ p.0)
    (needs-push own xs m p.1 r o q.1)

pub own-push : (own ms : List Text) (m : Text) → are_needs own ms ≡ true → holds ms m ≡ false → are_needs (own ++ m ∷ []) ms ≡ true
own-push own [] m h n = refl
own-push own (x ∷ xs) m h n =
    let p = and_parts (not (is_user x || (is_system x || (holds own x || holds xs x)))) (are_needs own xs) h in
    let q = or_parts (same_text m x) (holds xs m) n in
    and_from (not (is_user x || (is_system x || (holds (own ++ m ∷ []) x || holds xs x)))) (are_needs (own ++ m ∷ []) xs)
    (ap (λ b. not (is_user x || (is_system x || (b || holds xs x)))) (not-there own x m q.0) ∙ p.0)
    (own-push own xs m p.1 q.1)

-- ---- interfaces that are known

pub known-good : (is : List Interface) → AllByRecursion IsSoundInterface is → (m : Text) → OfSome (λ os. IsSoundInterface (record { of = m; operators = os })) (operators_known is m)
known-good [] h m = tt
known-good (i ∷ is) h m = go (same_text i.of m) refl (known-good is h.1 m)
  where
    go : (b : Bool) → same_text i.of m ≡ b → OfSome (λ os. IsSoundInterface (record { of = m; operators = os })) (operators_known is m)
        → OfSome (λ os. IsSoundInterface (record { of = m; operators = os })) (if b then Some i.operators else operators_known is m)
    go true e k = subst (λ n. IsSoundInterface (record { of = n; operators = i.operators })) (same_text-true i.of m e) h.0
    go false e k = k

some-still : (b : Bool) (a : List (OperatorOf Text)) (o q : Option (List (OperatorOf Text))) → (is_some o ≡ true → is_some q ≡ true) → is_some (if b then Some a else o) ≡ true → is_some (if b then Some a else q) ≡ true
some-still true a o q k h = refl
some-still false a o q k h = k h

pub known-still : (is js : List Interface) (m : Text) → is_some (operators_known is m) ≡ true → is_some (operators_known (is ++ js) m) ≡ true
known-still [] js m h = absurd (cc)
known-still (i ∷ is) js m h = some-still (same_text i.of m) i.operators (operators_known is m) (operators_known (is ++ js) m) (known-still is js m) h

pub takings-still : (is js : List Interface) (ns : List (Need Text)) → AllByRecursion (IsSoundTaking is) ns → AllByRecursion (IsSoundTaking (is ++ js)) ns
takings-still is js = all-weaker (IsSoundTaking is) (IsSoundTaking (is ++ js)) (λ n h. record { need = h.need; accepted = h.accepted; is_known = known-still is js n.of h.is_known })

-- a module that isn't known has no need
pub not-needed : (is : List Interface) (m : Text) → operators_known is m ≡ None → (ns : List (Need Text)) → AllByRecursion (IsSoundTaking is) ns → holds (map (λ n. n.of) ns) m ≡ false
not-needed is m e [] h = refl
not-needed is m e (n ∷ ns) h = go (cases_Bool (same_text m n.of)) (not-needed is m e ns h.1)
  where
    known : same_text m n.of ≡ true → is_some (operators_known is m) ≡ true
    known c = subst (λ k. is_some (operators_known is k) ≡ true) (sym (same_text-true m n.of c)) h.0.is_known

    go : (same_text m n.of ≡ true) ⊎ (same_text m n.of ≡ false) → holds (map (λ k. k.of) ns) m ≡ false → (same_text m n.of || holds (map (λ k. k.of) ns) m) ≡ false
    go (inl c) k = no_both (known c) (ap (λ o. is_some o) e)
    go (inr c) k = ap (λ b. b || holds (map (λ k. k.of) ns) m) c ∙ k
