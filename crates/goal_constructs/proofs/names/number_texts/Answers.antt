use Rattle.pl_atoms.proofs.Numbers.{IsFront-trans}
use Rattle.goal_constructs.proofs.Tables.{numbered-more}
use Rattle.goal_constructs.proofs.names.number_texts.Goals as goal

pub loop-text-preserved : goal.loop-text-preserved
loop-text-preserved c = record {
  numbers = numbered-more (λ t. t.now) c.args.texts.now c.loop-text.text-index _ c.loop-text.names c.intern.new.names c.loop-text.ids.items c.push.new.list.items c.in_ok-id.id
      c.loop-text-test.true c.in_ok-id.ensures.front c.loop-text.invariant.numbers c.in_ok-id.ensures.known c.in_ok-push.ensures.ok;
  front = IsFront-trans c.args.names.now c.loop-text.names c.intern.new.names c.loop-text.invariant.front c.in_ok-id.ensures.front;
}
