use Rattle.std.proofs.Common.{◌∙◌, ap, sym, Some}
use Rattle.pl_unify.specs.State.{tree_at}
use Rattle.pl_unify.specs.Shape.{argument}
use Rattle.goal_model.specs.Rows.{if_then, in_module, from_context, either_row}
use Rattle.goal_constructs.proofs.RowLaws.{conjunction-row, if_then-row, in_module-row, disjunction-row, from_context-row, binary-plain, binary-user}
use Rattle.goal_constructs.proofs.constructs.Constructs.binary_row.Goals as goal

pub returns-in-Some-eq1-clause-row : goal.returns-in-Some-eq1-clause-row
returns-in-Some-eq1-clause-row c = λ n are e call. conjunction-row n (tree_at c.args.store.now.state c.args.goal) c.args.name c.requires.root (sym (c.in-Some-eq1.is ∙ ap Some (sym c.in-Some-eq1.field-0-is ∙ c.in-Some-eq1.field-0-test)) ∙ e)

pub returns-in-Some-eq2-clause-row : goal.returns-in-Some-eq2-clause-row
returns-in-Some-eq2-clause-row c = λ n are e call. (c.arg-left.ensures.place, c.arg-right.ensures.place, if_then-row n (tree_at c.args.store.now.state c.args.goal) c.args.name c.requires.root (sym (c.in-Some-eq2.is ∙ ap Some (sym c.in-Some-eq2.field-0-is ∙ c.in-Some-eq2.field-0-test)) ∙ e) ∙ ap (λ x. if_then x (argument (tree_at c.args.store.now.state c.args.goal) 1)) (sym c.arg-left.ensures.tree) ∙ ap (if_then (tree_at c.args.store.now.state c.arg-left.result)) (sym c.arg-right.ensures.tree))

pub returns-in-Some-eq3-clause-row : goal.returns-in-Some-eq3-clause-row
returns-in-Some-eq3-clause-row c = λ n are e call. (c.arg-left.ensures.place, c.arg-right.ensures.place, in_module-row n (tree_at c.args.store.now.state c.args.goal) c.args.name c.requires.root (sym (c.in-Some-eq3.is ∙ ap Some (sym c.in-Some-eq3.field-0-is ∙ c.in-Some-eq3.field-0-test)) ∙ e) ∙ ap (λ x. in_module x (argument (tree_at c.args.store.now.state c.args.goal) 1)) (sym c.arg-left.ensures.tree) ∙ ap (in_module (tree_at c.args.store.now.state c.arg-left.result)) (sym c.arg-right.ensures.tree))

pub returns-in-Some-eq14-clause-row : goal.returns-in-Some-eq14-clause-row
returns-in-Some-eq14-clause-row c = λ n are e call. (c.arg-left.ensures.place, c.arg-right.ensures.place, from_context-row n (tree_at c.args.store.now.state c.args.goal) c.args.name c.requires.root (sym (c.in-Some-eq14.is ∙ ap Some (sym c.in-Some-eq14.field-0-is ∙ c.in-Some-eq14.field-0-test)) ∙ e) ∙ ap (λ x. from_context x (argument (tree_at c.args.store.now.state c.args.goal) 1)) (sym c.arg-left.ensures.tree) ∙ ap (from_context (tree_at c.args.store.now.state c.arg-left.result)) (sym c.arg-right.ensures.tree))

pub returns-in-Some-eq4-clause-row : goal.returns-in-Some-eq4-clause-row
returns-in-Some-eq4-clause-row c = λ n are e call. c.disjunction_row.ensures.row n are c.args.goal (disjunction-row n (tree_at c.args.store.now.state c.args.goal) c.args.name c.requires.root (sym (c.in-Some-eq4.is ∙ ap Some (sym c.in-Some-eq4.field-0-is ∙ c.in-Some-eq4.field-0-test)) ∙ e) ∙ ap (λ x. either_row n x (argument (tree_at c.args.store.now.state c.args.goal) 1)) (sym c.arg-left.ensures.tree) ∙ ap (either_row n (tree_at c.args.store.now.state c.arg-left.result)) (sym c.arg-right.ensures.tree))

pub returns-in-Some-clause-row : goal.returns-in-Some-clause-row
returns-in-Some-clause-row c = λ n are e call.
    let h = rw c.in-Some.is at c.in-Some.plain-test in
    binary-plain n (tree_at c.args.store.now.state c.args.goal) c.args.name c.in-Some.plain c.requires.root (sym c.in-Some.is ∙ e) call h.0.0.0.0.1 h.0.0.0.1 h.0.0.1 h.0.1 h.1

pub returns-in-None-clause-row : goal.returns-in-None-clause-row
returns-in-None-clause-row c = λ n are e call. binary-user n (tree_at c.args.store.now.state c.args.goal) c.args.name c.requires.root (sym c.in-None.is ∙ e) call
