-- What a decoder owes, from what it gives.
use Rattle.std.proofs.Common.{◌≡◌, ℕ, ◌<◌, ◌≤◌, List, [], length, Bool, true, false, ◌&&◌, cond, Option, Some, None, refl, sym, ap, ◌∙◌}
use Rattle.std.proofs.lemmas.Bool.{lt-ltb, le-ltb}
use Rattle.pl_atoms.proofs.Texts.{same_text-is}
use Rattle.pl_terms.specs.Occurrence.{first_after, from_to}
use Rattle.unit_model.specs.Facts.{Facts as FactsOf, names_of}
use Rattle.unit_model.specs.Validity.{IsUnit, keeps_rules}
use Rattle.unit_model.specs.Views.{facts_view}
use Rattle.unit_model.specs.declared.facts.Facts.{Facts}
use Rattle.unit_format.specs.declared.fault.UnitFault.{UnitFault}
use Rattle.unit_format.specs.declared.fault.UnitFault.TheVariants.{NotUnit, NoMemory}
use Rattle.unit_format.specs.Reading.{◌>>=◌, Raw, raw_of}
use Rattle.unit_format.specs.Units.{IsUnitOf}
use Rattle.unit_format.specs.Uses.{facts_uses}
use Rattle.unit_format.specs.Rules.{bits, standard_infixes, rules_by}
use Rattle.unit_format.specs.Decoding.{decoded, facts_of, is_in_order, if_valid}
use Rattle.unit_format.specs.Views.{raw_view, Fails}
use Rattle.unit_format.proofs.FieldLaws.{IsBytes, some_is}
use Rattle.unit_format.proofs.NameLaws.{are_distinct}
use Rattle.unit_format.proofs.Places.{in_range}
use Rattle.unit_format.proofs.UnitLaws.{raw_takes}
use Rattle.unit_format.proofs.UseLaws.{names_of-view}
use Rattle.unit_format.proofs.RuleLaws.{rules_are}
use Rattle.unit_format.proofs.Exact.{exact}

abbrev Texts : Type 0
Texts = List (List ℕ)

pub is_found : (bytes : List ℕ) (names : Texts) (facts : Facts) → IsBytes bytes → decoded bytes ≡ Some (raw_view (names, facts)) → IsUnit (facts_of (raw_view (names, facts))) bytes
is_found bytes names facts fits h = (exact.found bytes (raw_view (names, facts)) fits h).0

pub is_unit : (bytes : List ℕ) (names : Texts) (facts : Facts) → IsBytes bytes → decoded bytes ≡ Some (raw_view (names, facts)) → IsUnitOf names facts
is_unit bytes names facts fits h =
    let x = exact.found bytes (raw_view (names, facts)) fits h in
    record { order = x.1; valid = x.0.valid }

pub is_only : (bytes : List ℕ) (names : Texts) (facts : Facts) → decoded bytes ≡ Some (raw_view (names, facts)) → (f : FactsOf (List ℕ)) → IsUnit f bytes → facts_of (raw_view (names, facts)) ≡ f
is_only bytes names facts h f unit =
    let o = exact.only bytes f unit in
    ap facts_of (sym (some_is o.0 (raw_view (names, facts)) (sym o.1 ∙ h))) ∙ o.2

none_some : {A B : Type 0} (o : Option A) (x : A) → o ≡ None → o ≡ Some x → B
none_some None x p q = absurd cc
none_some (Some y) x p q = absurd cc

pub is_none : {B : Type 0} (bytes : List ℕ) → decoded bytes ≡ None → (f : FactsOf (List ℕ)) → IsUnit f bytes → B
is_none bytes h f unit = none_some (decoded bytes) (exact.only bytes f unit).0 h (exact.only bytes f unit).1

-- ---- the steps of decoding

pub rules_of : (bytes : List ℕ) (names : Texts) (facts : Facts) → IsBytes bytes → raw_of bytes ≡ Some (raw_view (names, facts)) → is_in_order (raw_view (names, facts)) ≡ true
    → rules_by names (bits (standard_infixes names)) facts ≡ keeps_rules (facts_of (raw_view (names, facts)))
rules_of bytes names facts fits read order =
    let new = are_distinct names (raw_takes bytes (raw_view (names, facts)) fits read).0.names.1 in
    let used : first_after [] (facts_uses facts) ≡ from_to 0 (length names) =
    ap (first_after []) (sym (names_of-view facts)) ∙ same_text-is (first_after [] (names_of (facts_view facts))) (from_to 0 (length names)) order in
    rules_are names new facts (in_range names new (facts_uses facts) used)

pub too_long : (bytes : List ℕ) → 67108864 < length bytes → decoded bytes ≡ None
unfolding decoded
too_long bytes lt = ap (λ b. cond b None (raw_of bytes >>= if_valid)) (lt-ltb 67108864 (length bytes) lt)

opened : (bytes : List ℕ) (o : Option Raw) → length bytes ≤ 67108864 → raw_of bytes ≡ o → decoded bytes ≡ (o >>= if_valid)
unfolding decoded
opened bytes o le e = ap (λ b. cond b None (raw_of bytes >>= if_valid)) (le-ltb 67108864 (length bytes) le) ∙ ap (λ r. r >>= if_valid) e

pub unread : (e : UnitFault) (bytes : List ℕ) → length bytes ≤ 67108864 → Fails e (raw_of bytes) → Fails e (decoded bytes)
unread NotUnit bytes le h = opened bytes None le h
unread NoMemory bytes le h = tt

abbrev valid_by : Bool → Bool → Raw → Option Raw
valid_by a b r = cond (a && b) (Some r) None

pub unordered : (bytes : List ℕ) (r : Raw) → length bytes ≤ 67108864 → raw_of bytes ≡ Some r → is_in_order r ≡ false → decoded bytes ≡ None
unordered bytes r le read order = opened bytes (Some r) le read ∙ ap (λ a. valid_by a (keeps_rules (facts_of r)) r) order

pub broken : (bytes : List ℕ) (names : Texts) (facts : Facts) → length bytes ≤ 67108864 → IsBytes bytes → raw_of bytes ≡ Some (raw_view (names, facts)) → is_in_order (raw_view (names, facts)) ≡ true
    → false ≡ rules_by names (bits (standard_infixes names)) facts → decoded bytes ≡ None
broken bytes names facts le fits read order rules =
    let r = raw_view (names, facts) in
    opened bytes (Some r) le read ∙ ap (λ a. valid_by a (keeps_rules (facts_of r)) r) order ∙ ap (λ b. valid_by true b r) (sym (rules ∙ rules_of bytes names facts fits read order))

pub kept : (bytes : List ℕ) (names : Texts) (facts : Facts) → length bytes ≤ 67108864 → IsBytes bytes → raw_of bytes ≡ Some (raw_view (names, facts)) → is_in_order (raw_view (names, facts)) ≡ true
    → true ≡ rules_by names (bits (standard_infixes names)) facts → decoded bytes ≡ Some (raw_view (names, facts))
kept bytes names facts le fits read order rules =
    let r = raw_view (names, facts) in
    opened bytes (Some r) le read ∙ ap (λ a. valid_by a (keeps_rules (facts_of r)) r) order ∙ ap (λ b. valid_by true b r) (sym (rules ∙ rules_of bytes names facts fits read order))

-- ---- bytes are one unit's alone

pub one_unit : (f g : FactsOf (List ℕ)) (bytes : List ℕ) → IsUnit f bytes → IsUnit g bytes → f ≡ g
one_unit f g bytes p q =
    let a = exact.only bytes f p in
    let b = exact.only bytes g q in
    sym a.2 ∙ ap facts_of (some_is a.0 b.0 (sym a.1 ∙ b.1)) ∙ b.2

pub fails_only : (e : UnitFault) (bytes : List ℕ) → Fails e (decoded bytes) → (f : FactsOf (List ℕ)) → IsUnit f bytes → e ≡ NoMemory
fails_only NotUnit bytes h f unit = is_none bytes h f unit
fails_only NoMemory bytes h f unit = refl
