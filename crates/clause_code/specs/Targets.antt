-- What the goals of clauses lead to.
use Rattle.std.specs.Prelude.{◌≡◌, ℕ, zero, suc, ◌<◌, List, [], length, Option, Some, None, slice_index_or}
use Rattle.std.specs.Option.{option_map}
use Rattle.pl_unify.specs.declared.code.CodeWord.{CodeWord}
use Rattle.pl_unify.specs.declared.word.View.{View}
use Rattle.pl_unify.specs.declared.word.View.TheVariants as V
use Rattle.pl_unify.specs.Code.{code_tree}
use Rattle.pl_unify.specs.Shape.{root}
use Rattle.goal_code.specs.declared.instruction.Instruction.{Instruction}
use Rattle.goal_code.specs.declared.instruction.Instruction.TheVariants.{Goal}
use Rattle.goal_code.specs.Runs.{instruction_at}
use Rattle.goal_constructs.specs.declared.constructs.Constructs.{Constructs}
use Rattle.goal_constructs.specs.declared.kind.Kind.TheVariants as K
use Rattle.goal_constructs.specs.Kinds.{IsNamed, AllAre}
use Rattle.pl_store.specs.Linked.{Linked, Row, procedure_at, clause_at, visible_in}
use Rattle.clause_code.specs.declared.codes.ClauseCode.{ClauseCode}
use Rattle.clause_code.specs.Codes.{code_at}
use Rattle.clause_code.specs.declared.target.Target.{Target}
use Rattle.clause_code.specs.declared.target.Target.TheVariants as T
use Rattle.clause_code.specs.Led.{Led}

-- the procedure that is visible from a module for a goal with this root
abbrev pub seen_from : List Row → ℕ → View → Option ℕ
seen_from rows m (V.Name f) = visible_in rows m (record { name = f.0; arity = 0 })
seen_from rows m (V.Comp f k) = visible_in rows m (record { name = f.0; arity = k })
seen_from rows m r = None

-- what each goal with this root leads to that is looked up from a module
abbrev pub IsTarget : Constructs → List Row → ℕ → View → Target → Type 0
IsTarget c rows m r (T.Plain row) = IsNamed r × AllAre c r (K.Plain row)
IsTarget c rows m r (T.User p) = IsNamed r × AllAre c r K.User × (option_map (λ q. q.0) p ≡ seen_from rows m r)
IsTarget c rows m r T.Construct = AllAre c r K.Construct

-- what an instruction leads to in a clause of a module
abbrev pub HasTarget : Constructs → List Row → ℕ → List CodeWord → Instruction → Target → Type 0
HasTarget c rows m ws (Goal g next) t = IsTarget c rows m (root (code_tree ws g)) t
HasTarget c rows m ws i t = t ≡ T.Construct

-- the target of a place, counted from 1
abbrev pub target_in : List Target → ℕ → Target
target_in ts zero = T.Construct
target_in ts (suc k) = slice_index_or ts k T.Construct

-- the instructions of a clause's code have their targets
abbrev pub HaveTargets : Constructs → List Row → ℕ → ClauseCode → List Target → Type 0
HaveTargets c rows m code ts = (k : ℕ) (i : Instruction) → instruction_at code.goals.code k ≡ Some i → HasTarget c rows m code.body.words i (target_in ts k)

-- stands past the end of the clauses
abbrev pub no_targets : Led
no_targets = record { home = 0; targets = [] }

abbrev pub led_at : List Led → ℕ → Led
led_at ls c = slice_index_or ls c no_targets

abbrev pub target_at : List Led → ℕ → ℕ → Target
target_at ls c k = target_in (led_at ls c).targets k

-- the module that defines a clause's procedure
abbrev pub home_of : Linked → ℕ → ℕ
home_of l c = (procedure_at l (clause_at l c).procedure).home

-- what is kept of a clause
pub record IsLed (c : Constructs) (l : Linked) (ks : List ClauseCode) (n : ℕ) (x : Led) : Type 0 where
  pub home : x.home ≡ home_of l n
  pub targets : HaveTargets c l.rows (home_of l n) (code_at ks n) x.targets

-- each clause has its module and the targets of its instructions at its number
pub record AreTargets (c : Constructs) (l : Linked) (ks : List ClauseCode) (ls : List Led) : Type 0 where
  pub count : length ls ≡ length l.clauses
  pub each : (n : ℕ) → n < length l.clauses → IsLed c l ks n (led_at ls n)
