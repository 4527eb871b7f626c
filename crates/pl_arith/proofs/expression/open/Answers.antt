use Rattle.std.proofs.Common.{◌∙◌, sym, ap, Some}
use Rattle.pl_unify.specs.State.{tree_at}
use Rattle.value_model.specs.Value.{operation_of}
use Rattle.pl_arith.proofs.Tasks.{OneArgument, TwoArguments, one_argument, two_arguments, one_low, two_low, stepped_one, stepped_two, no_operation, two_pushed, three_pushed, low_less}
use Rattle.pl_arith.proofs.expression.open.Goals as goal
use Rattle.pl_arith.proofs.expression.open.Goals.{In-One, In-Two}

one : (c : In-One) → OneArgument c.args.names.now (tree_at c.args.store.now.state c.args.at) c.in-Comp.name.0 c.in-One.op
one c = one_argument c.args.names.now _ c.in-Comp.name c.in-Comp.arity c.in-One.op (sym c.in-Comp.is ∙ c.view.ensures)
    (ap Some (sym c.in-One.is) ∙ (sym c.in-Some.is ∙ (c.find_operation.ensures ∙ ap (λ t. operation_of t c.in-Comp.arity) c.text_of.ensures)))

two : (c : In-Two) → TwoArguments c.args.names.now (tree_at c.args.store.now.state c.args.at) c.in-Comp.name.0 c.in-Two.op
two c = two_arguments c.args.names.now _ c.in-Comp.name c.in-Comp.arity c.in-Two.op (sym c.in-Comp.is ∙ c.view.ensures)
    (ap Some (sym c.in-Two.is) ∙ (sym c.in-Some.is ∙ (c.find_operation.ensures ∙ ap (λ t. operation_of t c.in-Comp.arity) c.text_of.ensures)))

pub arg-requires-clause-argument : goal.arg-requires-clause-argument
arg-requires-clause-argument c = one_low _ _ _ _ (one (goal.at.arg-requires-clause-argument c).In-One)

pub arg-left-requires-clause-argument : goal.arg-left-requires-clause-argument
arg-left-requires-clause-argument c = low_less _ (two_low _ _ _ _ (two (goal.at.arg-left-requires-clause-argument c).In-Two))

pub arg-right-requires-clause-argument : goal.arg-right-requires-clause-argument
arg-right-requires-clause-argument c = two_low _ _ _ _ (two (goal.at.arg-right-requires-clause-argument c).In-Two)

pub returns-in_ok-push-in-One-2-clause-ok : goal.returns-in_ok-push-in-One-2-clause-ok
returns-in_ok-push-in-One-2-clause-ok c =
    stepped_one c.args.store.now.state c.args.names.now c.args.at c.arg.result c.in-Comp.name.0 c.in-One.op _ _ _ (one (goal.at.returns-in_ok-push-in-One-2-clause-ok c).In-One)
    c.arg.ensures.place c.arg.ensures.tree (two_pushed _ _ _ _ _ c.in_ok-push-in-One.ensures.ok c.in_ok-push-in-One-2.ensures.ok)

pub returns-in_ok-push-in-Two-3-clause-ok : goal.returns-in_ok-push-in-Two-3-clause-ok
returns-in_ok-push-in-Two-3-clause-ok c =
    stepped_two c.args.store.now.state c.args.names.now c.args.at c.arg-left.result c.arg-right.result c.in-Comp.name.0 c.in-Two.op _ _ _ (two (goal.at.returns-in_ok-push-in-Two-3-clause-ok c).In-Two)
    c.arg-left.ensures.place c.arg-left.ensures.tree c.arg-right.ensures.place c.arg-right.ensures.tree
    (three_pushed _ _ _ _ _ _ _ c.in_ok-push-in-Two.ensures.ok c.in_ok-push-in-Two-2.ensures.ok c.in_ok-push-in-Two-3.ensures.ok)

pub returns-in-None-clause-err : goal.returns-in-None-clause-err
returns-in-None-clause-err c h =
    no_operation c.args.names.now _ c.in-Comp.name c.in-Comp.arity (sym c.in-Comp.is ∙ c.view.ensures)
    (sym c.in-None.is ∙ (c.find_operation.ensures ∙ ap (λ t. operation_of t c.in-Comp.arity) c.text_of.ensures))
