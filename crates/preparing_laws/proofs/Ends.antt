-- The facts of a sound state, the interfaces of valid facts, and the facts of a whole text.
use Rattle.std.proofs.Common.{◌≡◌, ℕ, ◌≤◌, List, [], ◌∷◌, ◌++◌, map, length, codes, nat_eq, Bool, true, false, not, ◌&&◌, ◌||◌, if◌then◌else◌, Some, None, refl, sym, ap, ◌∙◌, subst, arith, length-append}
use Rattle.std.specs.List.{AllByRecursion, list_all, filter_map, cons_option}
use Rattle.std.proofs.lemmas.Bool.{and_from, and_parts}
use Rattle.unit_model.specs.Facts.{Entry, What, exports, reexports_all, reexports, has_modes, declares, imports_all, imports, clause, SectionKind, interface, body, Section, Facts}
use Rattle.unit_model.specs.Directives.{Text}
use Rattle.unit_model.specs.Preparing.{Interface, State, table_in, facts_of, is_reserved, operator_in, operators_of}
use Rattle.unit_model.specs.Prepared.{first_byte, Prepares, ends, goes_on, Prepared}
use Rattle.unit_model.specs.Validity as units
use Rattle.unit_model.specs.Validity.{IsName, FitsOperator, FitsWhat, FitsEntry, FitsSection, IsValid, is_user, is_system, is_interface, has_its_entries, is_accepted, is_clause, own_modules, holds, are_needs, names_known, knows, all_known, keeps_rules, begins_with_user}
use Rattle.unit_model.specs.Entries.{IsSoundNeed, IsSoundSection, IsSound}
use Rattle.unit_model.specs.Known.{interface_of, interfaces_of, IsGoodInterface, AreGood}
use Rattle.preparing_laws.specs.States.{modules, IsSoundTaking, IsSoundEntry, IsSoundPart, IsSoundState}
use Rattle.preparing_laws.specs.Readings.{BeginsRun, at_front, at_end, ReadsSoundly}
use Rattle.preparing_laws.proofs.Lists.{all-append, all-weaker, all-tests}
use Rattle.preparing_laws.proofs.Tables.{operators-same}
use Rattle.preparing_laws.proofs.Steps.{start-sound, step-sound}

-- ---- the facts of a sound state

user-name : IsName (codes "user")
unfolding lib.Utf8.encode
user-name = ((codes "user", (refl, refl)), omega arith)

section-fits : (ms : List Text) (s : Section Text) → IsSoundPart ms s → IsSoundSection s
section-fits ms s h = record { byte = h.byte; of = h.of; entries = all-weaker (IsSoundEntry ms s.kind) (FitsEntry IsName) (λ e k. k.fits) s.entries h.entries }

places : (ms : List Text) (k : SectionKind) (es : List (Entry Text)) → AllByRecursion (IsSoundEntry ms k) es → list_all (λ e. units.same_bool (is_interface k) (units.is_for_interface e.what)) es ≡ true
places ms k = all-tests (IsSoundEntry ms k) (λ e. units.same_bool (is_interface k) (units.is_for_interface e.what)) (λ e h. h.place)

clauses : (ms : List Text) (k : SectionKind) (es : List (Entry Text)) → AllByRecursion (IsSoundEntry ms k) es → list_all (λ e. is_clause e.what) es ≡ true
clauses ms k = all-tests (IsSoundEntry ms k) (λ e. is_clause e.what) (λ e h. h.clause)

named : (ms : List Text) (k : SectionKind) (es : List (Entry Text)) → AllByRecursion (IsSoundEntry ms k) es → list_all (λ e. names_known ms e.what) es ≡ true
named ms k = all-tests (IsSoundEntry ms k) (λ e. names_known ms e.what) (λ e h. h.named)

accepts-its : (s : Section Text) → (not (is_interface s.kind) || is_accepted (operators_of s.entries)) ≡ true → (not (is_interface s.kind) || is_accepted (units.operators_of s)) ≡ true
accepts-its s h = ap (λ os. not (is_interface s.kind) || is_accepted os) (sym (operators-same s)) ∙ h

is_other : (s : Section Text) → is_reserved s.of ≡ false → not (is_user s.of || is_system s.of) ≡ true
is_other s h = ap not h

module _ (s : State) (h : IsSoundState s) where
  ms : List Text
  ms = modules s

  own-named : own_modules s.sections ++ map (λ n. n.of) s.needs ≡ modules s
  own-named = ap (λ l. l ++ map (λ n. n.of) s.needs) h.own

  rule_user : begins_with_user (facts_of s).sections ≡ true
  rule_user = all-tests (IsSoundPart (modules s)) (λ t. not (is_user t.of || is_system t.of)) (λ t k. is_other t k.unreserved) s.sections h.sections

  rule_entries : list_all has_its_entries (facts_of s).sections ≡ true
  rule_entries = and_from (list_all (λ e. not (units.is_for_interface e.what)) s.user) (list_all has_its_entries s.sections)
      (places (modules s) body s.user h.user)
      (all-tests (IsSoundPart (modules s)) has_its_entries (λ t k. places (modules s) t.kind t.entries k.entries) s.sections h.sections)

  rule_interfaces : list_all (λ t. not (is_interface t.kind) || is_accepted (units.operators_of t)) (facts_of s).sections ≡ true
  rule_interfaces = all-tests (IsSoundPart (modules s)) (λ t. not (is_interface t.kind) || is_accepted (units.operators_of t)) (λ t k. accepts-its t k.accepted) s.sections h.sections

  rule_needs : list_all (λ n. is_accepted n.operators) s.needs ≡ true
  rule_needs = all-tests (IsSoundTaking s.known) (λ n. is_accepted n.operators) (λ n k. k.accepted) s.needs h.needs

  rule_clauses : list_all (λ t. list_all (λ e. is_clause e.what) t.entries) (facts_of s).sections ≡ true
  rule_clauses = and_from (list_all (λ e. is_clause e.what) s.user) (list_all (λ t. list_all (λ e. is_clause e.what) t.entries) s.sections)
      (clauses (modules s) body s.user h.user)
      (all-tests (IsSoundPart (modules s)) (λ t. list_all (λ e. is_clause e.what) t.entries) (λ t k. clauses (modules s) t.kind t.entries k.entries) s.sections h.sections)

  rule_apart : are_needs (own_modules (facts_of s).sections) (map (λ n. n.of) s.needs) ≡ true
  rule_apart = ap (λ l. are_needs l (map (λ n. n.of) s.needs)) h.own ∙ h.apart

  rule_known : all_known (modules s) (facts_of s).sections ≡ true
  rule_known = and_from (list_all (λ e. names_known (modules s) e.what) s.user) (list_all (knows (modules s)) s.sections)
      (named (modules s) body s.user h.user)
      (all-tests (IsSoundPart (modules s)) (knows (modules s))
      (λ t k. and_from (is_interface t.kind || holds (modules s) t.of) (list_all (λ e. names_known (modules s) e.what) t.entries) k.named (named (modules s) t.kind t.entries k.entries))
      s.sections h.sections)

  rules-kept : keeps_rules (facts_of s) ≡ true
  rules-kept = all_of (begins_with_user f.sections) (list_all has_its_entries f.sections) (list_all (λ t. not (is_interface t.kind) || is_accepted (units.operators_of t)) f.sections)
      (list_all (λ n. is_accepted n.operators) f.needs) (list_all (λ t. list_all (λ e. is_clause e.what) t.entries) f.sections) (are_needs (own_modules f.sections) (map (λ n. n.of) f.needs))
      (all_known (units.known_in f) f.sections)
      rule_user rule_entries rule_interfaces rule_needs rule_clauses rule_apart (ap (λ l. all_known l f.sections) own-named ∙ rule_known)
    where
      f : Facts Text
      f = facts_of s

      all_of : (a b c d e g i : Bool) → a ≡ true → b ≡ true → c ≡ true → d ≡ true → e ≡ true → g ≡ true → i ≡ true → (a && (b && (c && (d && (e && (g && i)))))) ≡ true
      all_of a b c d e g i x y z u v w t =
          and_from a (b && (c && (d && (e && (g && i))))) x (and_from b (c && (d && (e && (g && i)))) y (and_from c (d && (e && (g && i))) z
          (and_from d (e && (g && i)) u (and_from e (g && i) v (and_from g i w t)))))

  pub facts-sound : IsSound (facts_of s)
  facts-sound = record {
    needs = all-weaker (IsSoundTaking s.known) IsSoundNeed (λ n k. k.need) s.needs h.needs;
    sections = (
      record { byte = omega arith; of = user-name; entries = all-weaker (IsSoundEntry (modules s) body) (FitsEntry IsName) (λ e k. k.fits) s.user h.user },
      all-weaker (IsSoundPart (modules s)) IsSoundSection (section-fits (modules s)) s.sections h.sections,
    );
    rules = rules-kept;
  }

pub ends-sound : (s : State) → IsSoundState s → s.inside ≡ None → IsSound (facts_of s)
ends-sound s h e = facts-sound s h

-- ---- interfaces of valid facts

fit-operators : (es : List (Entry Text)) → AllByRecursion (FitsEntry IsName) es → AllByRecursion (FitsOperator IsName) (operators_of es)
fit-operators [] h = tt
fit-operators (e ∷ es) h = all-append (FitsOperator IsName) (operator_in e.what) (operators_of es) (one e.what h.0.what) (fit-operators es h.1)
  where
    one : (w : What Text) → FitsWhat IsName w → AllByRecursion (FitsOperator IsName) (operator_in w)
    one (declares o) f = (f, tt)
    one _ f = tt

no-more : (es : List (Entry Text)) → length (operators_of es) ≤ length es
no-more [] = omega arith
no-more (e ∷ es) = let l = length-append (operator_in e.what) (operators_of es) in let k = no-more es in let o = one e.what in omega (arith, l, k, o)
  where
    one : (w : What Text) → length (operator_in w) ≤ 1
    one (declares o) = omega arith
    one (exports i) = omega arith
    one (reexports_all m) = omega arith
    one (reexports m i) = omega arith
    one (has_modes n l) = omega arith
    one (imports_all m) = omega arith
    one (imports m i) = omega arith
    one (clause n a b) = omega arith

-- what a section of valid facts after the first keeps
record IsLater (s : Section Text) : Type 0 where
  pub fits : FitsSection IsName s
  pub unreserved : not (is_user s.of || is_system s.of) ≡ true
  pub accepted : (not (is_interface s.kind) || is_accepted (units.operators_of s)) ≡ true

later : (ss : List (Section Text)) → AllByRecursion (FitsSection IsName) ss → list_all (λ t. not (is_user t.of || is_system t.of)) ss ≡ true
    → list_all (λ t. not (is_interface t.kind) || is_accepted (units.operators_of t)) ss ≡ true → AllByRecursion IsLater ss
later [] f u a = tt
later (s ∷ ss) f u a =
    let p = and_parts (not (is_user s.of || is_system s.of)) (list_all (λ t. not (is_user t.of || is_system t.of)) ss) u in
    let q = and_parts (not (is_interface s.kind) || is_accepted (units.operators_of s)) (list_all (λ t. not (is_interface t.kind) || is_accepted (units.operators_of t)) ss) a in
    (record { fits = f.0; unreserved = p.0; accepted = q.0 }, later ss f.1 p.1 q.1)

unreserved-from : (b : Bool) → not b ≡ true → b ≡ false
unreserved-from true h = absurd (cc)
unreserved-from false h = refl

good-one : (k : SectionKind) (byte : ℕ) (m : Text) (es : List (Entry Text)) (is : List Interface) → IsLater (record { kind = k; byte = byte; of = m; entries = es }) → AllByRecursion IsGoodInterface is
    → AllByRecursion IsGoodInterface (cons_option (interface_of (record { kind = k; byte = byte; of = m; entries = es })) is)
good-one body byte m es is h k = k
good-one interface byte m es is h k = (
  record {
    name = h.fits.of;
    unreserved = unreserved-from (is_user m || is_system m) h.unreserved;
    count = let l = no-more es in let n = h.fits.length in omega (arith, l, n);
    fit = fit-operators es h.fits.entries;
    accepted = ap is_accepted (operators-same (record { kind = interface; byte = byte; of = m; entries = es })) ∙ h.accepted;
  },
  k,
)

good : (ss : List (Section Text)) → AllByRecursion IsLater ss → AllByRecursion IsGoodInterface (filter_map interface_of ss)
good [] h = tt
good (s ∷ ss) h = good-one s.kind s.byte s.of s.entries (filter_map interface_of ss) h.0 (good ss h.1)

good-after_first : (ss : List (Section Text)) → AllByRecursion (FitsSection IsName) ss → begins_with_user ss ≡ true
    → list_all (λ t. not (is_interface t.kind) || is_accepted (units.operators_of t)) ss ≡ true → AllByRecursion IsGoodInterface (filter_map interface_of ss)
good-after_first [] f u a = tt
good-after_first (s ∷ ss) f u a =
    let others = list_all (λ t. not (is_user t.of || is_system t.of)) ss in
    let p = and_parts (not (is_interface s.kind)) (nat_eq s.byte 0 && (is_user s.of && others)) u in
    let q = and_parts (nat_eq s.byte 0) (is_user s.of && others) p.1 in
    let r = and_parts (is_user s.of) others q.1 in
    let a = and_parts (not (is_interface s.kind) || is_accepted (units.operators_of s)) (list_all (λ t. not (is_interface t.kind) || is_accepted (units.operators_of t)) ss) a in
    subst (λ b. AllByRecursion IsGoodInterface (cons_option (if b then Some (record { of = s.of; operators = operators_of s.entries }) else None) (filter_map interface_of ss)))
    (sym (unreserved-from (is_interface s.kind) p.0)) (good ss (later ss f.1 r.1 a.1))

pub interfaces-good : (f : Facts Text) → IsValid f → AreGood (interfaces_of f)
interfaces-good f h =
    let p = and_parts (begins_with_user f.sections) (list_all has_its_entries f.sections && rest_2) h.rules in
    let q = and_parts (list_all has_its_entries f.sections) rest_2 p.1 in
    let r = and_parts (list_all (λ t. not (is_interface t.kind) || is_accepted (units.operators_of t)) f.sections) rest_3 q.1 in
    good-after_first f.sections h.fits.sections p.0 r.0
  where
    rest_3 : Bool
    rest_3 = list_all (λ n. is_accepted n.operators) f.needs
        && (list_all (λ t. list_all (λ e. is_clause e.what) t.entries) f.sections
        && (are_needs (own_modules f.sections) (map (λ n. n.of) f.needs)
        && all_known (units.known_in f) f.sections))

    rest_2 : Bool
    rest_2 = list_all (λ t. not (is_interface t.kind) || is_accepted (units.operators_of t)) f.sections && rest_3

-- ---- the facts of a text

prepared-from : (text : List ℕ) → ReadsSoundly text → {k : ℕ} {s : State} {f : Facts Text} → BeginsRun text k → IsSoundState s → Prepares text k s f → IsSound f
prepared-from text reads at h (ends {s = s} e i) = facts-sound s h
prepared-from text reads at h (goes_on {k = k} {next = next} {s = s} {after = after} tokens t e r st p) =
    let z = reads k next (table_in s) tokens t at e r in
    prepared-from text reads (at_end tokens at e) (step-sound t (first_byte tokens) s after z.0 z.1 h st) p

pub prepared-sound : (known : List Interface) (text : List ℕ) (f : Facts Text) → AreGood known → ReadsSoundly text → Prepared known text f → IsSound f
prepared-sound known text f good reads p = prepared-from text reads at_front (start-sound known good) p
