use Rattle.std.proofs.Common.{◌<◌, ◌≤◌, length, arith}
use Rattle.pl_unify.specs.Code.{placed}
use Rattle.pl_unify.proofs.Building.{copied, raised_more}
use Rattle.pl_unify.proofs.store.build.copy_code.Goals as goal

pub loop-i-preserved : goal.loop-i-preserved
loop-i-preserved c =
    let o : c.args.from ≤ c.loop-i.i = c.loop-i.auto.i in
    let l : c.loop-i.i < length c.args.words.now.items = omega (arith, c.requires.range.1) in
    record {
      room = omega (arith, c.put.ensures.len, c.put.ensures.capacity, c.loop-i.invariant.room);
      cells = copied c.args.cells.now.items c.loop-i.cells.items c.put.new.list.items (placed c.args.base c.args.from c.len-at.result) c.args.words.now.items c.args.from c.loop-i.i c.place_word-word.result.0
          o l c.loop-i.invariant.cells c.put.ensures.items c.place_word-word.ensures.word;
      up = omega (arith, c.place_word-word.ensures.up, c.loop-i.invariant.up);
      few = omega (arith, c.place_word-word.ensures.few, c.loop-i.invariant.few);
      below = raised_more c.args.words.now.items c.args.from c.loop-i.i c.loop-i.top c.place_word-word.result.1 c.args.base c.place_word-word.ensures.up c.loop-i.invariant.below c.place_word-word.ensures.below;
    }
