-- What is still to be run from a place of a body on, as items of a search.
use Rattle.std.specs.Prelude.{◌≡◌, ℕ, zero, suc, ◌-◌, List, ◌∷◌, ◌++◌, map, Some, None}
use Rattle.pl_terms.specs.Trees.{Tree}
use Rattle.unifier_model.specs.Substitution.{apply, raise}
use Rattle.pl_unify.specs.declared.code.CodeWord.{CodeWord}
use Rattle.pl_unify.specs.Code.{code_tree}
use Rattle.solver_model.specs.Search.{Item, Cut}
use Rattle.builtin_model.specs.Naming.{Naming}
use Rattle.goal_model.specs.Environments.{Environment}
use Rattle.goal_model.specs.Bodies.{Goal}
use Rattle.goal_model.specs.Table.{item_under, body_items}
use Rattle.goal_code.specs.declared.instruction.Instruction.{Instruction}
use Rattle.goal_code.specs.declared.instruction.Instruction.TheVariants.{EndIf}
use Rattle.goal_code.specs.declared.shape.ControlNames.{ControlNames}
use Rattle.goal_code.specs.Runs.{instruction_at, next_of, goal_of, IsRun, IsSound, IsBody}
use Rattle.goal_code.specs.Denotation.{AreControlNames, called}

-- a clause's code: its terms, its instructions, and how the terms stand in a run
pub record Running : Type 0 where
  pub words : List CodeWord
  pub code : List Instruction
  pub up : Tree ℕ → Tree ℕ
  pub env : Environment ℕ
  -- the depth to which a cut in it cuts
  pub reach : ℕ

-- the call of the term at a place
abbrev pub call_of : Running → Tree ℕ → Item (Goal ℕ)
call_of r t = called r.env r.reach (r.up t)

-- the items after the body, and those that go on from a place in the body around a condition
module _ (r : Running) (after : List (Item (Goal ℕ))) (outer : ℕ → List (Item (Goal ℕ))) where
  -- the item of an instruction, and what follows it; at the end of a condition its alternatives are cut
  abbrev pub follow : Instruction → (ℕ → List (Item (Goal ℕ))) → List (Item (Goal ℕ))
  follow (EndIf n) more = Cut (r.reach - 1) ∷ outer n
  follow c more = call_of r (code_tree r.words (goal_of c)) ∷ more (next_of c)

  -- at most so many instructions further
  abbrev pub items_within : ℕ → ℕ → List (Item (Goal ℕ))
  items_within zero pc = after
  items_within (suc k) pc = elim (instruction_at r.code pc) [ None ↦ after | Some c ↦ follow c (items_within k) ]

  -- the items from a place on: each instruction leads to a lower place
  abbrev pub items_from : ℕ → List (Item (Goal ℕ))
  items_from pc = items_within pc pc

-- the next item is that of the instruction that stands at the place
abbrev pub ItemsFollow : Type 0
ItemsFollow = (r : Running) (s : ControlNames) (after : List (Item (Goal ℕ))) (outer : ℕ → List (Item (Goal ℕ))) (pc : ℕ) (c : Instruction)
    → IsSound s r.words r.code → instruction_at r.code pc ≡ Some c → items_from r after outer pc ≡ follow r after outer c (items_from r after outer)

-- a run of goals comes before what stands where it leads
abbrev pub RunsFirst : Type 0
RunsFirst = (r : Running) (s : ControlNames) (after : List (Item (Goal ℕ))) (outer : ℕ → List (Item (Goal ℕ))) (stop pc : ℕ) (ts : List (Tree ℕ))
    → IsSound s r.words r.code → IsRun r.words r.code stop pc ts → items_from r after outer pc ≡ map (call_of r) ts ++ items_from r after outer stop

-- a compiled body with its variables raised by `base`, under replacements, is the body's items under these, and then what follows
abbrev pub BodyItems : Type 0
BodyItems = (n : Naming ℕ) (s : ControlNames) (words : List CodeWord) (code : List Instruction) (start : ℕ) (t : Tree ℕ)
    → AreControlNames n s → IsBody s words code start t
    → (base : ℕ) (bs : List (ℕ × Tree ℕ)) (env : Environment ℕ) (d : ℕ) (after : List (Item (Goal ℕ))) (outer : ℕ → List (Item (Goal ℕ)))
    → items_from (record { words = words; code = code; up = λ u. apply bs (raise base u); env = env; reach = d }) after outer start
    ≡ map (item_under bs) (body_items n (raise base t) env d) ++ after
