-- Facts of a unit fit into their fields, also where it is only known that there is a proof.
use Rattle.std.proofs.Common.{◌≡◌, ℕ, ◌^◌, ◌<◌, List, [], ◌∷◌, length, Bool, true, ◌&&◌, ltb, refl, ap, subst, arith, ℤ, pos, negsuc}
use Rattle.std.proofs.Math.Logic.{∥∥₁_elim}
use mathlib.Core.Bool.{Bool-set}
use Rattle.std.specs.Coded.{Coded-set, coded_list, coded_ℕ}
use Rattle.std.specs.Prelude.{FitsSigned}
use Rattle.std.specs.Int.{w64}
use Rattle.std.specs.List.{AllByRecursion}
use Rattle.std.proofs.lemmas.Bool.{and_parts, and_from, lt-ltb, ltb-true}
use Rattle.pl_terms.specs.Trees.{Tree, var, int, atom, comp, Trees, nil, cons, count}
use Rattle.unit_model.specs.Facts.{Indicator, OperatorOf, Need, What, exports, reexports_all, reexports, has_modes, declares, imports_all, imports, clause, Entry, Section, Facts as FactsOf, names_of, facts_by}
use Rattle.unit_model.specs.Encoding.{table_of, text_place, facts_in, encoding, unit_bytes}
use Rattle.unit_model.specs.Validity.{IsName, FitsTree, FitTrees, FitsIndicator, FitsOperator, FitsWhat, FitsEntry, FitsNeed, FitsSection, FitsFacts}
use Rattle.unit_model.specs.Views.{facts_view}
use Rattle.unit_model.specs.declared.facts.Facts.{Facts}
use Rattle.unit_format.specs.Units.{IsUnitOf}
use Rattle.unit_format.specs.Spelling.{IsPlace, IsLong, IsFit}
use Rattle.unit_format.proofs.Places.{by_places, table_is, facts_again, text_place_le}
use Rattle.unit_format.proofs.Exact.{facts_fit, names_all, distinct_all}

-- a test that decides a fact
record Decides (P : Type 0) : Type 0 where
  pub test : Bool
  pub there : P → test ≡ true
  pub back : test ≡ true → P

always : Decides (Unit {0})
always = record { test = true; there = λ h. refl; back = λ h. tt }

below : (n m : ℕ) → Decides (n < m)
below n m = record { test = ltb n m; there = lt-ltb n m; back = ltb-true n m }

both : {P Q : Type 0} → Decides P → Decides Q → Decides (P × Q)
both d e = record {
  test = d.test && e.test;
  there = λ h. and_from d.test e.test (d.there h.0) (e.there h.1);
  back = λ h. let p = and_parts d.test e.test h in (d.back p.0, e.back p.1);
}

made_of : {P Q : Type 0} → (P → Q) → (Q → P) → Decides P → Decides Q
made_of f g d = record { test = d.test; there = λ h. d.there (g h); back = λ h. f (d.back h) }

all_of : {A : Type 0} (P : A → Type 0) → ((a : A) → Decides (P a)) → (xs : List A) → Decides (AllByRecursion P xs)
all_of P each [] = always
all_of P each (x ∷ xs) = both (each x) (all_of P each xs)

signed : (z : ℤ) → Decides (FitsSigned w64 z)
signed (pos n) = made_of (λ h. record { sfits = h }) (λ h. h.sfits) (below n (2 ^ 63))
signed (negsuc n) = made_of (λ h. record { sfits = h }) (λ h. h.sfits) (below n (2 ^ 63))

mutual
  tree_fits : (t : Tree ℕ) → Decides (FitsTree IsPlace t)
  tree_fits (var n) = below n (2 ^ 32)
  tree_fits (int z) = signed z
  tree_fits (atom s) = below s (2 ^ 32)
  tree_fits (comp s ts) =
      made_of (λ h. (h.0.0, h.0.1, h.1.0, h.1.1)) (λ h. ((h.0, h.1), (h.2, h.3)))
      (both (both (below s (2 ^ 32)) (below 0 (count ts))) (both (below (count ts) (2 ^ 8)) (trees_fit ts)))

  trees_fit : (ts : Trees ℕ) → Decides (FitTrees IsPlace ts)
  trees_fit nil = always
  trees_fit (cons t ts) = both (tree_fits t) (trees_fit ts)

indicator_fits : (i : Indicator ℕ) → Decides (FitsIndicator IsPlace i)
indicator_fits i = made_of (λ h. record { name = h.0; arity = h.1 }) (λ h. (h.name, h.arity)) (both (below i.name (2 ^ 32)) (below i.arity (2 ^ 8)))

operator_fits : (o : OperatorOf ℕ) → Decides (FitsOperator IsPlace o)
operator_fits o = made_of (λ h. record { priority = h.0; name = h.1 }) (λ h. (h.priority, h.name)) (both (below o.op.priority (2 ^ 16)) (below o.name (2 ^ 32)))

what_fits : (w : What ℕ) → Decides (FitsWhat IsPlace w)
what_fits (exports i) = indicator_fits i
what_fits (reexports_all m) = below m (2 ^ 32)
what_fits (reexports m i) = both (below m (2 ^ 32)) (indicator_fits i)
what_fits (has_modes s ms) = both (below s (2 ^ 32)) (below (length ms) (2 ^ 8))
what_fits (declares o) = operator_fits o
what_fits (imports_all m) = below m (2 ^ 32)
what_fits (imports m i) = both (below m (2 ^ 32)) (indicator_fits i)
what_fits (clause n t u) = made_of (λ h. (h.0, h.1.0, h.1.1)) (λ h. (h.0, (h.1, h.2))) (both (below n (2 ^ 32)) (both (tree_fits t) (tree_fits u)))

entry_fits : (e : Entry ℕ) → Decides (FitsEntry IsPlace e)
entry_fits e = made_of (λ h. record { byte = h.0; what = h.1 }) (λ h. (h.byte, h.what)) (both (below e.byte (2 ^ 32)) (what_fits e.what))

need_fits : (n : Need ℕ) → Decides (FitsNeed IsPlace n)
need_fits n =
    made_of (λ h. record { byte = h.0.0; of = h.0.1; length = h.1.0; operators = h.1.1 }) (λ h. ((h.byte, h.of), (h.length, h.operators)))
    (both (both (below n.byte (2 ^ 32)) (below n.of (2 ^ 32))) (both (below (length n.operators) (2 ^ 32)) (all_of (FitsOperator IsPlace) operator_fits n.operators)))

section_fits : (s : Section ℕ) → Decides (FitsSection IsPlace s)
section_fits s =
    made_of (λ h. record { byte = h.0.0; of = h.0.1; length = h.1.0; entries = h.1.1 }) (λ h. ((h.byte, h.of), (h.length, h.entries)))
    (both (both (below s.byte (2 ^ 32)) (below s.of (2 ^ 32))) (both (below (length s.entries) (2 ^ 32)) (all_of (FitsEntry IsPlace) entry_fits s.entries)))

facts_fits : (f : FactsOf ℕ) → Decides (FitsFacts IsPlace f)
facts_fits f =
    made_of (λ h. record { needs_length = h.0.0; needs = h.0.1; sections_length = h.1.0; sections = h.1.1 }) (λ h. ((h.needs_length, h.needs), (h.sections_length, h.sections)))
    (both (both (below (length f.needs) (2 ^ 32)) (all_of (FitsNeed IsPlace) need_fits f.needs)) (both (below (length f.sections) (2 ^ 32)) (all_of (FitsSection IsPlace) section_fits f.sections)))

unit_fits : (names : List (List ℕ)) (f : FactsOf ℕ) → Decides (IsFit names f)
unit_fits names f =
    made_of (λ h. record { count = h.0.0; long = h.0.1; facts = h.1 }) (λ h. ((h.count, h.long), h.facts))
    (both (both (below (length names) (2 ^ 32)) (all_of IsLong (λ s. below (length s) (2 ^ 32)) names)) (facts_fits f))

all_long : (names : List (List ℕ)) → AllByRecursion IsName names → AllByRecursion IsLong names
all_long [] h = tt
all_long (s ∷ names) h = (h.0.1, all_long names h.1)

fit_of : (names : List (List ℕ)) (facts : Facts) → IsUnitOf names facts → IsFit names (facts_view facts)
fit_of names facts unit =
    let f = facts_view facts in
    let F = facts_in names f in
    let table : table_of F ≡ names = table_is names f unit.order in
    let few : length names < 2 ^ 32 = omega (arith, ap length table, unit.valid.names) in
    let all : AllByRecursion IsName (table_of F) = distinct_all IsName [] (names_of F) (names_all IsName F unit.valid.fits) in
    let placed : FitsFacts IsPlace (facts_by (text_place names) F) = facts_fit IsName IsPlace (text_place names) (λ s h. omega (arith, text_place_le names s, few)) F unit.valid.fits in
    record {
      count = few;
      long = subst (AllByRecursion IsLong) table (all_long (table_of F) all);
      facts = subst (FitsFacts IsPlace) (facts_again names f unit.order) placed;
    }

-- what is a unit fits
pub fits : (names : List (List ℕ)) (facts : Facts) → ∥ IsUnitOf names facts ∥₁ → IsFit names (facts_view facts)
fits names facts h = (unit_fits names (facts_view facts)).back (∥∥₁_elim h (Bool-set (unit_fits names (facts_view facts)).test true) (λ u. (unit_fits names (facts_view facts)).there (fit_of names facts u)))

-- the encoding of a unit's facts is its bytes
pub encoded : (names : List (List ℕ)) (facts : Facts) → ∥ IsUnitOf names facts ∥₁ → encoding (facts_in names (facts_view facts)) ≡ unit_bytes names (facts_view facts)
encoded names facts h = ∥∥₁_elim h (Coded-set (coded_list coded_ℕ) (encoding (facts_in names (facts_view facts))) (unit_bytes names (facts_view facts))) (λ u. by_places names (facts_view facts) u.order)
