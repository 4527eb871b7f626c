use Rattle.std.proofs.Common.{◌∙◌, ap, sym, Some}
use Rattle.pl_unify.specs.State.{tree_at}
use Rattle.pl_unify.specs.Shape.{argument}
use Rattle.goal_model.specs.Rows.{if_then, in_module, from_context, either_row}
use Rattle.goal_constructs.proofs.RowLaws.{conjunction-row, if_then-row, in_module-row, disjunction-row, from_context-row, binary-plain, binary-user}
use Rattle.goal_constructs.proofs.KindLaws.{built, either_built}
use Rattle.goal_constructs.proofs.kind.binary_kind.Goals as goal

pub returns-in-Some-eq1 : goal.returns-in-Some-eq1
returns-in-Some-eq1 c = λ n s at f h e call. conjunction-row n (tree_at s at) f h (sym (c.in-Some-eq1.is ∙ ap Some (sym c.in-Some-eq1.field-0-is ∙ c.in-Some-eq1.field-0-test)) ∙ e)

pub returns-in-Some-eq2 : goal.returns-in-Some-eq2
returns-in-Some-eq2 c = λ n s at f h e call. built n s at (if_then (argument (tree_at s at) 0) (argument (tree_at s at) 1)) (if_then-row n (tree_at s at) f h (sym (c.in-Some-eq2.is ∙ ap Some (sym c.in-Some-eq2.field-0-is ∙ c.in-Some-eq2.field-0-test)) ∙ e)) tt

pub returns-in-Some-eq3 : goal.returns-in-Some-eq3
returns-in-Some-eq3 c = λ n s at f h e call. built n s at (in_module (argument (tree_at s at) 0) (argument (tree_at s at) 1)) (in_module-row n (tree_at s at) f h (sym (c.in-Some-eq3.is ∙ ap Some (sym c.in-Some-eq3.field-0-is ∙ c.in-Some-eq3.field-0-test)) ∙ e)) tt

pub returns-in-Some-eq4 : goal.returns-in-Some-eq4
returns-in-Some-eq4 c = λ n s at f h e call. built n s at (either_row n (argument (tree_at s at) 0) (argument (tree_at s at) 1)) (disjunction-row n (tree_at s at) f h (sym (c.in-Some-eq4.is ∙ ap Some (sym c.in-Some-eq4.field-0-is ∙ c.in-Some-eq4.field-0-test)) ∙ e)) (either_built n (argument (tree_at s at) 0) (argument (tree_at s at) 1))

pub returns-in-Some-eq14 : goal.returns-in-Some-eq14
returns-in-Some-eq14 c = λ n s at f h e call. built n s at (from_context (argument (tree_at s at) 0) (argument (tree_at s at) 1)) (from_context-row n (tree_at s at) f h (sym (c.in-Some-eq14.is ∙ ap Some (sym c.in-Some-eq14.field-0-is ∙ c.in-Some-eq14.field-0-test)) ∙ e)) tt

pub returns-in-Some : goal.returns-in-Some
returns-in-Some c = λ n s at f h e call.
    let g = rw c.in-Some.is at c.in-Some.plain-test in
    binary-plain n (tree_at s at) f c.in-Some.plain h (sym c.in-Some.is ∙ e) call g.0.0.0.0.1 g.0.0.0.1 g.0.0.1 g.0.1 g.1

pub returns-in-None : goal.returns-in-None
returns-in-None c = λ n s at f h e call. binary-user n (tree_at s at) f h (sym c.in-None.is ∙ e) call
