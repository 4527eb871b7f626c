use Rattle.std.proofs.Common.{◌∙◌, ap, sym, Some}
use Rattle.pl_unify.specs.State.{tree_at}
use Rattle.pl_unify.specs.Shape.{argument}
use Rattle.goal_model.specs.Rows.{catching, collecting}
use Rattle.goal_constructs.proofs.RowLaws.{catching-row, collecting-row, ternary-plain, ternary-user}
use Rattle.goal_constructs.proofs.KindLaws.{built}
use Rattle.goal_constructs.proofs.kind.ternary_kind.Goals as goal

pub returns-in-Some-eq35 : goal.returns-in-Some-eq35
returns-in-Some-eq35 c = λ n s at f h e call. built n s at (catching (argument (tree_at s at) 0) (argument (tree_at s at) 1) (argument (tree_at s at) 2)) (catching-row n (tree_at s at) f h (sym (c.in-Some-eq35.is ∙ ap Some (sym c.in-Some-eq35.field-0-is ∙ c.in-Some-eq35.field-0-test)) ∙ e)) tt

pub returns-in-Some-eq41 : goal.returns-in-Some-eq41
returns-in-Some-eq41 c = λ n s at f h e call. built n s at (collecting (argument (tree_at s at) 0) (argument (tree_at s at) 1) (argument (tree_at s at) 2)) (collecting-row n (tree_at s at) f h (sym (c.in-Some-eq41.is ∙ ap Some (sym c.in-Some-eq41.field-0-is ∙ c.in-Some-eq41.field-0-test)) ∙ e)) tt

pub returns-in-Some : goal.returns-in-Some
returns-in-Some c = λ n s at f h e call.
    let g = rw c.in-Some.is at c.in-Some.plain-test in
    ternary-plain n (tree_at s at) f c.in-Some.plain h (sym c.in-Some.is ∙ e) call g.0.1 g.1

pub returns-in-None : goal.returns-in-None
returns-in-None c = λ n s at f h e call. ternary-user n (tree_at s at) f h (sym c.in-None.is ∙ e) call
