use Rattle.std.proofs.Common.{sym}
use Rattle.pl_unify.specs.State.{tree_at}
use Rattle.goal_constructs.proofs.OtherRows.{variable-row, integer-row}
use Rattle.goal_constructs.proofs.constructs.Constructs.row.Goals as goal

pub returns-in-Var-clause-row : goal.returns-in-Var-clause-row
returns-in-Var-clause-row c = λ n are. variable-row n (tree_at c.args.store.now.state c.args.goal) c.in-Var.field-0 (sym c.in-Var.ensures)

pub returns-in-Int-clause-row : goal.returns-in-Int-clause-row
returns-in-Int-clause-row c = λ n are. integer-row n (tree_at c.args.store.now.state c.args.goal) c.in-Int.field-0 (sym c.in-Int.ensures)

pub returns-in-Name-clause-places : goal.returns-in-Name-clause-places
returns-in-Name-clause-places c = c.atom_row.ensures.places c.args.store.now.state
