use Rattle.std.proofs.Common.{◌∙◌, ap, sym, Some}
use Rattle.pl_unify.specs.State.{tree_at}
use Rattle.goal_constructs.proofs.OtherRows.{commit-user, repeat-user, other-plain, other-user}
use Rattle.goal_constructs.proofs.row.other_row.Goals as goal

pub returns-in-Some-eq0-clause-row : goal.returns-in-Some-eq0-clause-row
returns-in-Some-eq0-clause-row c = λ n s at f k h one two three e call. commit-user n (tree_at s at) f k h one two three call (sym (c.in-Some-eq0.is ∙ ap Some (sym c.in-Some-eq0.field-0-is ∙ c.in-Some-eq0.field-0-test)) ∙ e)

pub returns-in-Some-eq54-clause-row : goal.returns-in-Some-eq54-clause-row
returns-in-Some-eq54-clause-row c = λ n s at f k h one two three e call. repeat-user n (tree_at s at) f k h one two three call (sym (c.in-Some-eq54.is ∙ ap Some (sym c.in-Some-eq54.field-0-is ∙ c.in-Some-eq54.field-0-test)) ∙ e)

pub returns-in-Some-clause-row : goal.returns-in-Some-clause-row
returns-in-Some-clause-row c = λ n s at f k h one two three e call.
    let g = rw c.in-Some.is at c.in-Some.plain-test in
    other-plain n (tree_at s at) f k h one two three call c.in-Some.plain (sym c.in-Some.is ∙ e) g.0.1 g.1

pub returns-in-None-clause-row : goal.returns-in-None-clause-row
returns-in-None-clause-row c = λ n s at f k h one two three e call. other-user n (tree_at s at) f k h one two three call (sym c.in-None.is ∙ e)
