use Rattle.std.proofs.Common.{◌∙◌, ap, sym, Some}
use Rattle.pl_unify.specs.State.{tree_at}
use Rattle.goal_model.specs.Rows.{negation, once, throwing}
use Rattle.goal_constructs.proofs.RowLaws.{negation-row, once-row, throwing-row, unary-plain, unary-user}
use Rattle.goal_constructs.proofs.row.unary_row.Goals as goal

pub returns-in-Some-eq19-clause-row : goal.returns-in-Some-eq19-clause-row
returns-in-Some-eq19-clause-row c = λ n e call. (c.arg-first.ensures.place, negation-row n (tree_at c.args.store.now.state c.args.goal) c.args.name c.requires.root (sym (c.in-Some-eq19.is ∙ ap Some (sym c.in-Some-eq19.field-0-is ∙ c.in-Some-eq19.field-0-test)) ∙ e) ∙ ap negation (sym c.arg-first.ensures.tree))

pub returns-in-Some-eq52-clause-row : goal.returns-in-Some-eq52-clause-row
returns-in-Some-eq52-clause-row c = λ n e call. (c.arg-first.ensures.place, once-row n (tree_at c.args.store.now.state c.args.goal) c.args.name c.requires.root (sym (c.in-Some-eq52.is ∙ ap Some (sym c.in-Some-eq52.field-0-is ∙ c.in-Some-eq52.field-0-test)) ∙ e) ∙ ap once (sym c.arg-first.ensures.tree))

pub returns-in-Some-eq56-clause-row : goal.returns-in-Some-eq56-clause-row
returns-in-Some-eq56-clause-row c = λ n e call. (c.arg-first.ensures.place, throwing-row n (tree_at c.args.store.now.state c.args.goal) c.args.name c.requires.root (sym (c.in-Some-eq56.is ∙ ap Some (sym c.in-Some-eq56.field-0-is ∙ c.in-Some-eq56.field-0-test)) ∙ e) ∙ ap throwing (sym c.arg-first.ensures.tree))

pub returns-in-Some-clause-row : goal.returns-in-Some-clause-row
returns-in-Some-clause-row c = λ n e call.
    let h = rw c.in-Some.is at c.in-Some.plain-test in
    unary-plain n (tree_at c.args.store.now.state c.args.goal) c.args.name c.in-Some.plain c.requires.root (sym c.in-Some.is ∙ e) call h.0.0.1 h.0.1 h.1

pub returns-in-None-clause-row : goal.returns-in-None-clause-row
returns-in-None-clause-row c = λ n e call. unary-user n (tree_at c.args.store.now.state c.args.goal) c.args.name c.requires.root (sym c.in-None.is ∙ e) call
