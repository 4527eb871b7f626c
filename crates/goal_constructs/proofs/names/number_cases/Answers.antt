use Rattle.pl_atoms.proofs.Numbers.{IsFront-trans}
use Rattle.goal_constructs.proofs.Tables.{numbered-more}
use Rattle.goal_constructs.proofs.names.number_cases.Goals as goal

pub loop-case-preserved : goal.loop-case-preserved
loop-case-preserved c = record {
  numbers = numbered-more (λ r. r.name.now) c.args.cases.now c.loop-case.case-index _ c.loop-case.names c.intern.new.names c.loop-case.ids.items c.push.new.list.items c.in_ok-id.id
      c.loop-case-test.true c.in_ok-id.ensures.front c.loop-case.invariant.numbers c.in_ok-id.ensures.known c.in_ok-push.ensures.ok;
  front = IsFront-trans c.args.names.now c.loop-case.names c.intern.new.names c.loop-case.invariant.front c.in_ok-id.ensures.front;
}
