use Rattle.std.proofs.Common.{sym}
use Rattle.unit_model.specs.Encoding.{need_bytes}
use Rattle.unit_model.specs.Views.{need_view}
use Rattle.unit_format.proofs.PutLaws.{put_next}
use Rattle.unit_format.proofs.writing.put_each_need.Goals as goal

pub loop-need-preserved : goal.loop-need-preserved
loop-need-preserved c =
    put_next need_bytes need_view c.args.needs.now c.loop-need.need-index c.need-item.result c.args.out.now c.loop-need.out c.put_need.new.out c.loop-need-test.true (sym c.need-item.is) c.loop-need.invariant c.in_ok-put_need.ensures
