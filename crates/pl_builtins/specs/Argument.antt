-- What `arg` does after its checks.
use Rattle.std.specs.Prelude.{◌≡◌, ℕ, ℤ, pos, negsuc, zero, suc, ◌<◌, nat_lt, if◌then◌else◌}
use Rattle.pl_terms.specs.Trees.{Tree}
use Rattle.pl_unify.specs.declared.word.Ref.{Ref}
use Rattle.pl_unify.specs.Shape.{arity, argument}
use Rattle.pl_unify.specs.State.{State}
use Rattle.builtin_model.specs.declared.error.Domain.TheVariants as O
use Rattle.builtin_model.specs.Deeds.{Deed, unify}
use Rattle.pl_builtin_ends.specs.declared.done.Raised.TheVariants as R
use Rattle.pl_builtin_ends.specs.declared.done.Done.TheVariants as D
use Rattle.pl_builtins.specs.declared.argument.ArgTurn.{ArgTurn}
use Rattle.pl_builtins.specs.declared.argument.ArgTurn.TheVariants.{End, Unify}
use Rattle.pl_builtin_ends.specs.Meets.{Meets}

abbrev pub place_turn : Ref → ℤ → ℕ → ArgTurn
place_turn place (negsuc k) n = End (D.Raise (R.Domain O.NotLessThanZero place))
place_turn place (pos zero) n = End D.No
place_turn place (pos (suc k)) n = if nat_lt k n then Unify k else End D.No

abbrev pub IsTurn : State → Tree ℕ → Tree ℕ → Deed ℕ → ArgTurn → Type 0
IsTurn s t a deed (End done) = Meets s s deed done
IsTurn s t a deed (Unify k) = (k < arity t) × (unify a (argument t k) ≡ deed)
