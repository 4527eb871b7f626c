use Rattle.std.proofs.Common.{sym}
use Rattle.unit_model.specs.Encoding.{section_bytes}
use Rattle.unit_model.specs.Views.{section_view}
use Rattle.unit_format.proofs.PutLaws.{put_next}
use Rattle.unit_format.proofs.writing.put_each_section.Goals as goal

pub loop-section-preserved : goal.loop-section-preserved
loop-section-preserved c =
    put_next section_bytes section_view c.args.sections.now c.loop-section.section-index c.section-item.result c.args.out.now c.loop-section.out c.put_section.new.out c.loop-section-test.true (sym c.section-item.is) c.loop-section.invariant c.in_ok-put_section.ensures
