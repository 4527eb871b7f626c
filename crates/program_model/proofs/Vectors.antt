-- Worked units and the program that they say.
use Rattle.std.proofs.Common.{◌≡◌, ℕ, List, [], ◌∷◌, codes, true, false, refl, Some, None}
use Rattle.pl_terms.specs.Trees.{var, atom, comp, nil, cons}
use Rattle.unit_model.specs.Facts.{Indicator, What, exports, has_modes, imports_all, clause, Entry, SectionKind, interface, body, Section, Facts}
use Rattle.unit_model.specs.Directives.{Text}
use Rattle.unit_model.specs.Builtins.{builtins}
use Rattle.goal_model.specs.Program.{Program}
use Rattle.program_model.specs.Linking.{program_of_facts}

abbrev ind : Text → ℕ → Indicator Text
ind name arity = record { name = name; arity = arity }

abbrev at : ℕ → What Text → Entry Text
at b w = record { byte = b; what = w }

abbrev section : SectionKind → ℕ → Text → List (Entry Text) → Section Text
section k b m es = record { kind = k; byte = b; of = m; entries = es }

-- module m exports p/1, with modes that are declared twice, and defines it with two clauses
abbrev library : Facts Text
library = record {
  needs = [];
  sections =
      section body 0 (codes "user") []
      ∷ section interface 0 (codes "m") (at 14 (exports (ind (codes "p") 1)) ∷ at 30 (has_modes (codes "p") (true ∷ [])) ∷ at 50 (has_modes (codes "p") (false ∷ [])) ∷ [])
      ∷ section body 80 (codes "m") (at 90 (clause 0 (comp (codes "p") (cons (atom (codes "a")) nil)) (atom (codes "true"))) ∷ at 96 (clause 1 (comp (codes "p") (cons (var 0) nil)) (atom (codes "true"))) ∷ [])
      ∷ [];
}

-- user imports it
abbrev user_of_it : Facts Text
user_of_it = record { needs = record { byte = 0; of = codes "m"; operators = [] } ∷ []; sections = section body 0 (codes "user") (at 0 (imports_all (codes "m")) ∷ []) ∷ [] }

abbrev program : Program Text
program = program_of_facts (library ∷ user_of_it ∷ [])

exists_in : (program.exists (codes "m") ≡ true) × (program.exists (codes "n") ≡ false)
exists_in = (refl, refl)

seen_from_user : program.visible (codes "user") (ind (codes "p") 1) ≡ Some (codes "m")
unfolding builtins
seen_from_user = refl

not_seen : program.visible (codes "user") (ind (codes "p") 2) ≡ None
unfolding builtins
not_seen = refl

last_modes : program.modes (codes "m") (ind (codes "p") 1) ≡ Some (false ∷ [])
last_modes = refl

in_order : program.clauses (codes "m") (ind (codes "p") 1)
    ≡ record { width = 0; head = comp (codes "p") (cons (atom (codes "a")) nil); body = atom (codes "true") }
    ∷ record { width = 1; head = comp (codes "p") (cons (var 0) nil); body = atom (codes "true") } ∷ []
in_order = refl

none_of_user : program.clauses (codes "user") (ind (codes "p") 1) ≡ []
none_of_user = refl

none_of_two_arguments : program.clauses (codes "m") (ind (codes "p") 2) ≡ []
none_of_two_arguments = refl
