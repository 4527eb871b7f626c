use Rattle.std.proofs.Common.{◌∙◌}
use Rattle.pl_unify.specs.State.{tree_at}
use Rattle.goal_model.specs.Rows.{calling}
use Rattle.goal_constructs.specs.Goals.{called_term, more_arguments}
use Rattle.goal_constructs.proofs.RowLaws.{atom-root}
use Rattle.goal_constructs.proofs.OtherRows.{variable-row, integer-row}
use Rattle.goal_constructs.proofs.KindLaws.{built}
use Rattle.goal_constructs.proofs.constructs.Constructs.kind.Goals as goal

pub returns-in-Var-clause-kind : goal.returns-in-Var-clause-kind
returns-in-Var-clause-kind c = λ n are s at h.
    built n s at (calling (called_term (tree_at s at)) (more_arguments (tree_at s at))) (variable-row n (tree_at s at) c.in-Var.field-0 (h ∙ c.in-Var.is)) tt

pub returns-in-Int-clause-kind : goal.returns-in-Int-clause-kind
returns-in-Int-clause-kind c = λ n are s at h.
    built n s at (calling (called_term (tree_at s at)) (more_arguments (tree_at s at))) (integer-row n (tree_at s at) c.in-Int.field-0 (h ∙ c.in-Int.is)) tt

pub returns-in-Name-clause-kind : goal.returns-in-Name-clause-kind
returns-in-Name-clause-kind c = λ n are s at h.
    c.kind_of.ensures n s at (c.atom_row.ensures.row n s at c.in-Name.name.0 (atom-root (tree_at s at) c.in-Name.name (h ∙ c.in-Name.is)) (c.place.ensures ∙ are.rows c.in-Name.name.0 0))
