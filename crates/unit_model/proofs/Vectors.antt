-- Worked cases: the bytes of small units, and what single terms of a text do.
use Rattle.std.proofs.Common.{◌≡◌, ℕ, List, [], ◌∷◌, codes, refl, Ok, Err, Option, Some, None}
use Rattle.std.specs.Prelude.{pos}
use Rattle.pl_terms.specs.Trees.{Tree, var, int, atom, comp, nil, cons}
use Rattle.unit_model.specs.Facts.{Facts, Entry, clause, body}
use Rattle.unit_model.specs.Encoding.{encoding}
use Rattle.unit_model.specs.Builtins.{builtins}
use Rattle.unit_model.specs.Directives.{Text}
use Rattle.unit_model.specs.Preparing.{start, step, Next, facts_of}

abbrev unit_with : List (Entry Text) → Facts Text
unit_with es = record { needs = []; sections = record { kind = body; byte = 0; of = codes "user"; entries = es } ∷ [] }

abbrev fact_a : Entry Text
fact_a = record { byte = 0; what = clause 0 (atom (codes "a")) (atom (codes "true")) }

bytes_of_nothing : encoding (unit_with []) ≡
    0x50 ∷ 0x4c ∷ 0x4d ∷ 0x55 ∷ 0x01 ∷ 0 ∷ 0 ∷ 0 ∷ 1 ∷ 0 ∷ 0 ∷ 0 ∷ 4 ∷ 0x75 ∷ 0x73 ∷ 0x65 ∷ 0x72
    ∷ 0 ∷ 0 ∷ 0 ∷ 0 ∷ 0 ∷ 0 ∷ 0 ∷ 1
    ∷ 2 ∷ 0 ∷ 0 ∷ 0 ∷ 0 ∷ 0 ∷ 0 ∷ 0 ∷ 0 ∷ 0 ∷ 0 ∷ 0 ∷ 0 ∷ []
bytes_of_nothing = refl

bytes_of_a : encoding (unit_with (fact_a ∷ [])) ≡
    0x50 ∷ 0x4c ∷ 0x4d ∷ 0x55 ∷ 0x01 ∷ 0 ∷ 0 ∷ 0 ∷ 3 ∷ 0 ∷ 0 ∷ 0 ∷ 4 ∷ 0x75 ∷ 0x73 ∷ 0x65 ∷ 0x72 ∷ 0 ∷ 0 ∷ 0 ∷ 1 ∷ 0x61
    ∷ 0 ∷ 0 ∷ 0 ∷ 4 ∷ 0x74 ∷ 0x72 ∷ 0x75 ∷ 0x65 ∷ 0 ∷ 0 ∷ 0 ∷ 0 ∷ 0 ∷ 0 ∷ 0 ∷ 1
    ∷ 2 ∷ 0 ∷ 0 ∷ 0 ∷ 0 ∷ 0 ∷ 0 ∷ 0 ∷ 0 ∷ 0 ∷ 0 ∷ 0 ∷ 1
    ∷ 8 ∷ 0 ∷ 0 ∷ 0 ∷ 0 ∷ 0 ∷ 0 ∷ 0 ∷ 0 ∷ 2 ∷ 0 ∷ 0 ∷ 0 ∷ 1 ∷ 2 ∷ 0 ∷ 0 ∷ 0 ∷ 2 ∷ []
bytes_of_a = refl

-- ---- single terms

abbrev one : Text → Tree Text → Tree Text
one s t = comp s (cons t nil)

abbrev two : Text → Tree Text → Tree Text → Tree Text
two s t u = comp s (cons t (cons u nil))

abbrev a : Tree Text
a = atom (codes "a")

abbrev m : Tree Text
m = atom (codes "m")

abbrev directive : Tree Text → Tree Text
directive = one (codes ":-")

abbrev indicator : Tree Text → ℕ → Tree Text
indicator n k = two (codes "/") n (int (pos k))

abbrev at_start : Tree Text → Next
at_start t = step t 0 (start [])

abbrev Faulty : Tree Text → ℕ → Type 0
Faulty t n = at_start t ≡ Err n

priority_too_great : Faulty (directive (comp (codes "op") (cons (int (pos 1201)) (cons (atom (codes "xfx")) (cons (atom (codes "===>")) nil))))) 12
priority_too_great = refl

-- a term at byte 14 after one at the start
abbrev then_step : Tree Text → Next → Next
then_step u (Err n) = Err n
then_step u (Ok s) = step u 14 s

abbrev after : Tree Text → Tree Text → Next
after t u = then_step u (at_start t)

unknown_directive : Faulty (directive (one (codes "initialization") a)) 8
unknown_directive = refl

query : Faulty (one (codes "?-") a) 8
query = refl

other_arguments : Faulty (directive (one (codes "import") (indicator m 1))) 9
other_arguments = refl

export_outside : Faulty (directive (one (codes "export") (indicator a 0))) 10
export_outside = refl

unknown_module : Faulty (directive (one (codes "import") m)) 11
unknown_module = refl

end_of_nothing : Faulty (directive (one (codes "end_body") m)) 7
end_of_nothing = refl

integer_head : Faulty (two (codes ":-") (int (pos 1)) a) 13
integer_head = refl

integer_body : Faulty (two (codes ":-") a (int (pos 1))) 13
integer_body = refl

for_a_built_in : Faulty (two (codes ":-") (one (codes "call") (var 0)) (var 0)) 14
unfolding builtins
for_a_built_in = refl

grammar_rule : Faulty (two (codes "-->") a a) 14
grammar_rule = refl

interface_of_user : Faulty (directive (one (codes "module") (atom (codes "user")))) 15
interface_of_user = refl

module_in_module : after (directive (one (codes "module") m)) (directive (one (codes "module") a)) ≡ Err 7
module_in_module = refl

clause_in_interface : after (directive (one (codes "module") m)) a ≡ Err 16
clause_in_interface = refl

abbrev facts_after : Next → Option (Facts Text)
facts_after (Err n) = None
facts_after (Ok s) = Some (facts_of s)

fact : facts_after (at_start a) ≡ Some (unit_with (fact_a ∷ []))
unfolding builtins
fact = refl
