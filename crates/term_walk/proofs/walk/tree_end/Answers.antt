use Rattle.std.proofs.Common.{◌+◌, ◌-◌, drop, get_or, length-drop, refl, arith}
use Rattle.pl_terms.specs.declared.cell.Cell.TheVariants.{Var}
use Rattle.term_walk.proofs.Walking.{Going, Going-step, count-forest_le}
use Rattle.term_walk.proofs.walk.tree_end.Goals as goal

pub overflow_add-pending : goal.overflow_add-pending
overflow_add-pending c =
    let h = c.well_formed in
    let next : Going c.args.cells.now (c.loop-pending.at + 1) (c.loop-pending.pending - 1 + c.arity.result) =
    Going-step c.args.cells.now c.loop-pending.at c.loop-pending.pending _ _ (get_or c.args.cells.now c.loop-pending.at (Var 0)) (Var 0) refl (omega arith) (omega arith) (omega (arith, c.arity.ensures)) c.loop-pending.invariant in
    omega (arith, next.enough, count-forest_le (drop (c.loop-pending.at + 1) c.args.cells.now), length-drop (c.loop-pending.at + 1) c.args.cells.now)

pub loop-pending-preserved : goal.loop-pending-preserved
loop-pending-preserved c =
    Going-step c.args.cells.now c.loop-pending.at c.loop-pending.pending _ _ (get_or c.args.cells.now c.loop-pending.at (Var 0)) (Var 0) refl (omega arith) (omega arith) (omega (arith, c.arity.ensures)) c.loop-pending.invariant
