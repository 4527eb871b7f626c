use Rattle.std.proofs.Common.{◌∙◌, ap, sym, Some}
use Rattle.pl_unify.specs.State.{tree_at}
use Rattle.pl_unify.specs.Shape.{argument}
use Rattle.goal_model.specs.Rows.{catching, collecting}
use Rattle.goal_constructs.proofs.RowLaws.{catching-row, collecting-row, ternary-plain, ternary-user}
use Rattle.goal_constructs.proofs.row.ternary_row.Goals as goal

pub returns-in-Some-eq35-clause-row : goal.returns-in-Some-eq35-clause-row
returns-in-Some-eq35-clause-row c = λ n e call. (c.arg-first.ensures.place, c.arg-second.ensures.place, c.arg-third.ensures.place, catching-row n (tree_at c.args.store.now.state c.args.goal) c.args.name c.requires.root (sym (c.in-Some-eq35.is ∙ ap Some (sym c.in-Some-eq35.field-0-is ∙ c.in-Some-eq35.field-0-test)) ∙ e) ∙ ap (λ x. catching x (argument (tree_at c.args.store.now.state c.args.goal) 1) (argument (tree_at c.args.store.now.state c.args.goal) 2)) (sym c.arg-first.ensures.tree) ∙ ap (λ x. catching (tree_at c.args.store.now.state c.arg-first.result) x (argument (tree_at c.args.store.now.state c.args.goal) 2)) (sym c.arg-second.ensures.tree) ∙ ap (catching (tree_at c.args.store.now.state c.arg-first.result) (tree_at c.args.store.now.state c.arg-second.result)) (sym c.arg-third.ensures.tree))

pub returns-in-Some-eq41-clause-row : goal.returns-in-Some-eq41-clause-row
returns-in-Some-eq41-clause-row c = λ n e call. (c.arg-first.ensures.place, c.arg-second.ensures.place, c.arg-third.ensures.place, collecting-row n (tree_at c.args.store.now.state c.args.goal) c.args.name c.requires.root (sym (c.in-Some-eq41.is ∙ ap Some (sym c.in-Some-eq41.field-0-is ∙ c.in-Some-eq41.field-0-test)) ∙ e) ∙ ap (λ x. collecting x (argument (tree_at c.args.store.now.state c.args.goal) 1) (argument (tree_at c.args.store.now.state c.args.goal) 2)) (sym c.arg-first.ensures.tree) ∙ ap (λ x. collecting (tree_at c.args.store.now.state c.arg-first.result) x (argument (tree_at c.args.store.now.state c.args.goal) 2)) (sym c.arg-second.ensures.tree) ∙ ap (collecting (tree_at c.args.store.now.state c.arg-first.result) (tree_at c.args.store.now.state c.arg-second.result)) (sym c.arg-third.ensures.tree))

pub returns-in-Some-clause-row : goal.returns-in-Some-clause-row
returns-in-Some-clause-row c = λ n e call.
    let h = rw c.in-Some.is at c.in-Some.plain-test in
    ternary-plain n (tree_at c.args.store.now.state c.args.goal) c.args.name c.in-Some.plain c.requires.root (sym c.in-Some.is ∙ e) call h.0.1 h.1

pub returns-in-None-clause-row : goal.returns-in-None-clause-row
returns-in-None-clause-row c = λ n e call. ternary-user n (tree_at c.args.store.now.state c.args.goal) c.args.name c.requires.root (sym c.in-None.is ∙ e) call
