use Rattle.std.proofs.Common.{◌∙◌, ap, sym}
use Rattle.pl_unify.specs.State.{tree_at}
use Rattle.goal_constructs.specs.Goals.{is_call}
use Rattle.goal_constructs.proofs.OtherRows.{calling-row}
use Rattle.goal_constructs.proofs.constructs.Constructs.compound_row.Goals as goal

pub returns-then-is_call-clause-row : goal.returns-then-is_call-clause-row
returns-then-is_call-clause-row c = λ n are.
    calling-row n (tree_at c.args.store.now.state c.args.goal) c.args.name c.args.arity c.requires.root
    (ap (λ b. is_call b c.args.arity) (are.names.call.known c.args.name.0) ∙ (sym c.is_call.ensures ∙ c.if-is_call.true))

pub returns-in_default-clause-places : goal.returns-in_default-clause-places
returns-in_default-clause-places c = c.other_row.ensures.places c.args.store.now.state
