use Rattle.std.proofs.Common.{arith}
use Rattle.goal_moves.proofs.EnterLaws.{goals_first, goals_step, goals_whole, put_within_length, put_floor}
use Rattle.goal_moves.proofs.enter.enter_all.Goals as goal

pub loop-left-init : goal.loop-left-init
loop-left-init c = record {
  within = omega arith;
  place = c.requires.rest;
  floor = c.requires.floor;
  entered = λ b. goals_first b c.args.path.now c.args.setting c.args.rest c.args.goals.now c.requires.rest c.requires.floor;
}

pub loop-left-preserved : goal.loop-left-preserved
loop-left-preserved c = record {
  within = omega (arith, c.loop-left.invariant.within);
  place = put_within_length c.loop-left.path c.put.new.self _ c.in_ok-f.f c.in_ok-f.ensures.put;
  floor = put_floor c.loop-left.path c.put.new.self _ c.in_ok-f.f c.in_ok-f.ensures.put;
  entered = λ b.
      goals_step b c.args.path.now c.loop-left.path c.put.new.self c.args.setting c.args.rest c.loop-left.at.f c.loop-left.at.pc c.in_ok-f.f c.loop-left.left c.args.goals.now
      c.requires.goals (omega (arith, c.loop-left-test.true)) c.loop-left.invariant.within c.requires.base (c.loop-left.invariant.entered b) c.in_ok-f.ensures.put;
}

pub returns : goal.returns
returns c = λ b. goals_whole b c.args.path.now c.loop-left.path c.args.setting c.args.rest c.loop-left.at c.loop-left.left c.args.goals.now (omega (arith, c.loop-left-test.false)) (c.loop-left.invariant.entered b)
