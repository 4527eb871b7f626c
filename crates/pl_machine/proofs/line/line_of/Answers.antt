use Rattle.std.proofs.Common.{◌≡◌, ◌∙◌, ◌≤◌, ◌++◌, List, false, ap, arith, length, codes, map}
use Rattle.pl_ops.specs.Tables.{operator}
use Rattle.prep_report.specs.Lines.{bindings_text}
use Rattle.prep_report.specs.declared.answer.Binding.{Binding}
use Rattle.goal_moves.proofs.RetryLaws.{IfOk-then}
use Rattle.pl_machine.proofs.LineLaws.{bound_as, bound-all, bindings-shown}
use Rattle.pl_machine.proofs.line.line_of.Goals as goal

pub returns-clause-line : goal.returns-clause-line
returns-clause-line c =
    let few : length c.args.variables.now ≤ c.loop-variable.variable-index = omega arith in
    let all : c.loop-variable.answer ≡ map (bound_as c.args.store.now.state) c.args.variables.now =
    bound-all c.args.store.now.state c.args.variables.now c.loop-variable.variable-index c.loop-variable.answer few c.loop-variable.invariant.answer in
    IfOk-then c.answer_line.result c.answer_line.ensures (λ line h width below.
    h
    ∙ ap (λ (l : List Binding). bindings_text (operator c.args.table.now) c.args.names.now false l ++ codes " ;\n") all
    ∙ ap (λ l. l ++ codes " ;\n") (bindings-shown (operator c.args.table.now) c.args.names.now width c.args.store.now.state false c.args.variables.now below))
