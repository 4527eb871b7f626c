use Rattle.std.proofs.Common.{◌≡◌, ℕ, take}
use Rattle.pl_unify.specs.Prefix.{listed}
use Rattle.pl_unify.specs.State.{tree_at}
use Rattle.builtin_model.specs.Naming.{Naming}
use Rattle.goal_model.specs.Environments.{qualified}
use Rattle.mod_meta.specs.Qualified.{IsColon, arguments_of}
use Rattle.mod_meta.proofs.goals.has_all_modules.Given as goal

abbrev pub invariant-arguments : goal.invariant-arguments
invariant-arguments l =
    (n : Naming ℕ) (m : ℕ) → IsColon n l.colon.0
    → take l.k (listed (qualified n l.modes m (arguments_of (tree_at l.store.state l.goal)))) ≡ take l.k (listed (arguments_of (tree_at l.store.state l.goal)))
