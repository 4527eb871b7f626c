use Rattle.std.proofs.Common.{◌∙◌, ap, sym, Some}
use Rattle.pl_unify.specs.State.{tree_at}
use Rattle.goal_constructs.proofs.OtherRows.{commit-row, repeat-row, atom-plain, atom-user}
use Rattle.goal_constructs.proofs.row.atom_row.Goals as goal

pub returns-in-Some-eq0-clause-row : goal.returns-in-Some-eq0-clause-row
returns-in-Some-eq0-clause-row c = λ n s at f t e. commit-row n (tree_at s at) f t (sym (c.in-Some-eq0.is ∙ ap Some (sym c.in-Some-eq0.field-0-is ∙ c.in-Some-eq0.field-0-test)) ∙ e)

pub returns-in-Some-eq54-clause-row : goal.returns-in-Some-eq54-clause-row
returns-in-Some-eq54-clause-row c = λ n s at f t e. repeat-row n (tree_at s at) f t (sym (c.in-Some-eq54.is ∙ ap Some (sym c.in-Some-eq54.field-0-is ∙ c.in-Some-eq54.field-0-test)) ∙ e)

pub returns-in-Some-clause-row : goal.returns-in-Some-clause-row
returns-in-Some-clause-row c = λ n s at f t e.
    let h = rw c.in-Some.is at c.in-Some.plain-test in
    atom-plain n (tree_at s at) f c.in-Some.plain t (sym c.in-Some.is ∙ e) h.0.1 h.1

pub returns-in-None-clause-row : goal.returns-in-None-clause-row
returns-in-None-clause-row c = λ n s at f t e. atom-user n (tree_at s at) f t (sym c.in-None.is ∙ e)
