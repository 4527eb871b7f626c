-- Errors of expressions.
use Rattle.std.specs.Prelude.{◌≡◌}
use Rattle.pl_unify.specs.State.{State}
use Rattle.value_model.specs.declared.EvalFault.{EvalFault}
use Rattle.value_model.specs.declared.EvalFault.TheVariants.{NoMemory}
use Rattle.builtin_model.specs.Values.{eval_fault}
use Rattle.builtin_model.specs.Deeds.{raise}
use Rattle.pl_builtin_ends.specs.declared.done.Done.{Done}
use Rattle.pl_builtin_ends.specs.Meets.{Meets}

-- the fault of an expression is thrown, and it is not want of memory
pub record IsRaised (fault : EvalFault) (done : Done) : Type 0 where
  pub told : fault ≡ NoMemory → ⊥
  pub meets : (s : State) → Meets s s (raise (eval_fault fault)) done
