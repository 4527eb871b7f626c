use Rattle.std.proofs.Common.{sym, subst}
use Rattle.pl_builtin_ends.specs.Meets.{Meets}
use Rattle.goal_moves.specs.Values.{value_deed, HasPlace}
use Rattle.goal_moves.proofs.code_values.do_in_store.Goals as goal

pub unify_code_int-requires-clause-place : goal.unify_code_int-requires-clause-place
unify_code_int-requires-clause-place c = subst (HasPlace c.args.code.now.words) c.in-Assigns.is c.requires.place

pub returns-in-Compares : goal.returns-in-Compares
returns-in-Compares c =
    let s = c.args.store.now.state in
    subst (λ g. Meets s s (value_deed s c.args.base c.args.code.now.words g) c.whether.result) (sym c.in-Compares.is) (c.whether.ensures s)
