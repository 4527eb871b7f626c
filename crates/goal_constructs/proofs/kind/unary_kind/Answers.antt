use Rattle.std.proofs.Common.{◌∙◌, ap, sym, Some}
use Rattle.pl_unify.specs.State.{tree_at}
use Rattle.pl_unify.specs.Shape.{argument}
use Rattle.goal_model.specs.Rows.{negation, once, throwing}
use Rattle.goal_constructs.proofs.RowLaws.{negation-row, once-row, throwing-row, unary-plain, unary-user}
use Rattle.goal_constructs.proofs.KindLaws.{built}
use Rattle.goal_constructs.proofs.kind.unary_kind.Goals as goal

pub returns-in-Some-eq19 : goal.returns-in-Some-eq19
returns-in-Some-eq19 c = λ n s at f h e call. built n s at (negation (argument (tree_at s at) 0)) (negation-row n (tree_at s at) f h (sym (c.in-Some-eq19.is ∙ ap Some (sym c.in-Some-eq19.field-0-is ∙ c.in-Some-eq19.field-0-test)) ∙ e)) tt

pub returns-in-Some-eq52 : goal.returns-in-Some-eq52
returns-in-Some-eq52 c = λ n s at f h e call. built n s at (once (argument (tree_at s at) 0)) (once-row n (tree_at s at) f h (sym (c.in-Some-eq52.is ∙ ap Some (sym c.in-Some-eq52.field-0-is ∙ c.in-Some-eq52.field-0-test)) ∙ e)) tt

pub returns-in-Some-eq56 : goal.returns-in-Some-eq56
returns-in-Some-eq56 c = λ n s at f h e call. built n s at (throwing (argument (tree_at s at) 0)) (throwing-row n (tree_at s at) f h (sym (c.in-Some-eq56.is ∙ ap Some (sym c.in-Some-eq56.field-0-is ∙ c.in-Some-eq56.field-0-test)) ∙ e)) tt

pub returns-in-Some : goal.returns-in-Some
returns-in-Some c = λ n s at f h e call.
    let g = rw c.in-Some.is at c.in-Some.plain-test in
    unary-plain n (tree_at s at) f c.in-Some.plain h (sym c.in-Some.is ∙ e) call g.0.0.1 g.0.1 g.1

pub returns-in-None : goal.returns-in-None
returns-in-None c = λ n s at f h e call. unary-user n (tree_at s at) f h (sym c.in-None.is ∙ e) call
