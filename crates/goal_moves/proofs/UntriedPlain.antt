-- The goal of a built-in predicate leaves nothing untried: its node has at most one alternative, which can be taken.
use Rattle.std.proofs.Common.{◌≡◌, ℕ, ◌+◌, List, [], ◌∷◌, Option, Some, None, false, refl, sym, ap, ◌∙◌}
use Rattle.std.specs.Prelude.{nat_eq}
use Rattle.pl_terms.specs.Trees.{Tree}
use Rattle.pl_unify.specs.State.{tree_at}
use Rattle.unifier_model.specs.Mgu.{unifier}
use Rattle.solver_model.specs.Search.{Call}
use Rattle.builtin_model.specs.Naming.{Naming}
use Rattle.builtin_model.specs.Deeds.{Deed, equal, differ, no, raise, halt, deed}
use Rattle.builtin_model.specs.Output.{output}
use Rattle.builtin_model.specs.declared.row.Row.{Row as Builtin}
use Rattle.goal_model.specs.Bodies.{Goal}
use Rattle.goal_model.specs.Program.{Clauses}
use Rattle.goal_model.specs.Rows.{plain, row_of, name_of, arity_of}
use Rattle.goal_model.specs.Table.{World, Items, bound, apart, done}
use Rattle.goal_state.specs.declared.frames.Setting.{Setting}
use Rattle.goal_state.specs.Frames.{env_of}
use Rattle.pl_store.specs.Runs.{program_of}
use Rattle.goal_state.specs.declared.compiled.CompiledProgram.{CompiledProgram}
use Rattle.goal_state.specs.declared.path.Path.{Path}
use Rattle.goal_state.specs.Denotation.{linked, naming, state_of, items_here, world_here}
use Rattle.goal_moves.specs.declared.active.Active.{Active}
use Rattle.goal_moves.specs.Moves.{called, goal_items}
use Rattle.goal_moves.specs.Untried.{has_more, leaves_one, node_leaves, Leaves}
use Rattle.goal_moves.proofs.Turning.{goal_acts}

module _ (n : Naming ℕ) (c : Clauses ℕ) (e : ℕ) (rest : Items ℕ) (w : World ℕ) where
  bound_leaves : (o : Option (List (ℕ × Tree ℕ))) (next : ℕ) → leaves_one n c (bound e o rest w next) ≡ false
  bound_leaves None next = refl
  bound_leaves (Some bs) next = refl

  apart_leaves : (o : Option (List (ℕ × Tree ℕ))) → leaves_one n c (apart e o rest w) ≡ false
  apart_leaves None = refl
  apart_leaves (Some bs) = refl

  pub done_leaves : (f k : ℕ) (bytes : List ℕ) (d : Deed ℕ) → node_leaves n c (done n nat_eq e f k rest w bytes d) ≡ false
  done_leaves f k bytes (equal es new) = bound_leaves (unifier nat_eq es) (w.next + new)
  done_leaves f k bytes (differ t u) = apart_leaves (unifier nat_eq ((t, u) ∷ []))
  done_leaves f k bytes no = refl
  done_leaves f k bytes (raise fault) = refl
  done_leaves f k bytes (halt z) = refl

-- a goal with this tree and setting, in a node of this depth before what follows from a place on
pub plain_leaves : (b : CompiledProgram) (p : Path) (tree : Tree ℕ) (setting : Setting) (node f pc : ℕ) (k : Builtin) (ts : List (Tree ℕ)) → row_of (naming b) tree ≡ plain k ts → (new : Path) → has_more p new ≡ false
    → Leaves b p new (called b p node (Call (record { tree = tree; env = env_of setting; reach = setting.depth }) ∷ items_here b p f pc))
plain_leaves b p tree setting node f pc k ts its new none = λ left.
    let g : Goal ℕ = record { tree = tree; env = env_of setting; reach = setting.depth } in
    let rest : Items ℕ = items_here b p f pc in
    let w : World ℕ = world_here b p in
    let c : Clauses ℕ = (program_of (linked b)).clauses in
    none
    ∙ sym (
    ap (node_leaves (naming b) c) (goal_acts b p node g rest (plain k ts) its)
    ∙ done_leaves (naming b) c node rest w (name_of (naming b) tree) (arity_of (naming b) tree) (output (naming b) k ts) (deed (naming b) k ts g.env.caller w.next)
    )

-- a goal that is activated
pub active_leaves : (b : CompiledProgram) (p : Path) (a : Active) (k : Builtin) (ts : List (Tree ℕ)) → row_of (naming b) (tree_at (state_of p) a.goal) ≡ plain k ts → (new : Path) → has_more p new ≡ false → Leaves b p new (called b p a.node (goal_items b p a))
active_leaves b p a k ts its new none = plain_leaves b p (tree_at (state_of p) a.goal) a.setting a.node a.rest.f a.rest.pc k ts its new none
