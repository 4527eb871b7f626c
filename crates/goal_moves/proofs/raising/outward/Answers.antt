use Rattle.goal_moves.proofs.ExitLaws.{went_none, went_down, leads_exit, is_active, leads_past, not_active}
use Rattle.goal_moves.proofs.raising.outward.Goals as goal

pub loop-next-init : goal.loop-next-init
loop-next-init c = went_none c.args.compiled.now c.args.path.now c.args.from c.args.depth

pub loop-next-preserved : goal.loop-next-preserved
loop-next-preserved c = went_down c.args.compiled.now c.args.path.now c.args.from c.loop-next.at c.args.depth c.loop-next.invariant c.in-Down.next c.in-Down.ensures

pub returns-in-Exit : goal.returns-in-Exit
returns-in-Exit c = record {
  leads = leads_exit c.args.compiled.now c.args.path.now c.args.from c.loop-next.at c.args.depth c.loop-next.invariant c.in-Exit.next c.in-Exit.ensures;
  active = is_active c.args.compiled.now c.args.path.now c.args.from c.loop-next.at c.args.depth c.loop-next.invariant c.in-Exit.next c.in-Exit.ensures;
}

pub returns-in-Past : goal.returns-in-Past
returns-in-Past c = record {
  leads = leads_past c.args.compiled.now c.args.path.now c.args.from c.loop-next.at c.args.depth c.loop-next.invariant;
  active = not_active c.args.compiled.now c.args.path.now c.args.from c.loop-next.at c.args.depth c.loop-next.invariant c.in-Past.ensures;
}
