use Rattle.std.proofs.Common.{◌<◌, ◌+◌, ◌∙◌, sym, ap, arith, subst, length}
use Rattle.pl_unify.specs.State.{shape}
use Rattle.pl_unify.specs.declared.word.Word.TheVariants.{Comp}
use Rattle.pl_unify.specs.Shape.{arity, argument}
use Rattle.pl_unify.proofs.Shapes.{count-args, tree_at-argument}
use Rattle.pl_unify.proofs.store.Store.arg.Goals as goal
use Rattle.pl_unify.proofs.store.Store.arg.Goals.{In-Comp}

low : (c : In-Comp) → c.args.k < c.in-Comp.field-0
low c =
    let count = count-args c.args.self.now.state c.in-Comp.field-0 c.in-Comp.first c.in-Comp.ensures.within.0 in
    let k : c.args.k < arity (shape c.args.self.now.state (Comp c.in-Comp.field-0 c.in-Comp.field-1 c.in-Comp.first)) =
    subst (λ t. c.args.k < arity t) c.in-Comp.ensures.shape c.requires.argument in
    omega (arith, count)

inside_cells : (c : In-Comp) → c.in-Comp.first + c.args.k < length c.args.self.now.state.cells
inside_cells c = omega (arith, low c, c.in-Comp.ensures.within.0)

pub overflow_add-result : goal.overflow_add-result
overflow_add-result c = omega (arith, inside_cells c, c.in-Comp.ensures.small)

pub returns-clause-place : goal.returns-clause-place
returns-clause-place c = inside_cells c

pub returns-clause-tree : goal.returns-clause-tree
returns-clause-tree c =
    tree_at-argument c.args.self.now.state c.in-Comp.field-0 c.in-Comp.first c.args.k c.in-Comp.field-1 c.in-Comp.ensures.within.0 (low c)
    ∙ ap (λ t. argument t c.args.k) (sym c.in-Comp.ensures.shape)
