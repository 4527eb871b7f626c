use Rattle.std.proofs.Common.{◌∙◌, ap, map, arith}
use Rattle.pl_unify.specs.State.{tree_at}
use Rattle.pl_unify.proofs.Loading.{IfOk-map}
use Rattle.mod_meta.proofs.Qualifying.{goal-made}
use Rattle.mod_meta.proofs.goals.qualify.Goals as goal

pub compound-requires-clause-some : goal.compound-requires-clause-some
compound-requires-clause-some c = omega (arith, c.has_all_modules.ensures.some c.if-has_all_modules.false, c.in_ok-args-in-Comp.ensures.count)

pub returns-in_ok-args-in-Comp-clause-tree : goal.returns-in_ok-args-in-Comp-clause-tree
returns-in_ok-args-in-Comp-clause-tree c =
    IfOk-map c.compound.result _ _
    (λ at h n colon. h ∙ goal-made n c.args.modes.now c.args.context.0 (tree_at c.args.store.now.state c.args.goal) c.in-Comp.name c.in-Comp.count _ c.in-Comp.ensures (ap (map (tree_at c.arguments.new.store.state)) c.deref.ensures.value ∙ c.in_ok-args-in-Comp.ensures.trees n colon))
    c.compound.ensures.tree
