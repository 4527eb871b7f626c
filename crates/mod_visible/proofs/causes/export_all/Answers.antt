use Rattle.std.proofs.Common.{[], sym, subst}
use Rattle.mod_visible.proofs.DefiningLaws.{ExportedSoFar, exported_start, exported_step, exported_end}
use Rattle.mod_visible.proofs.causes.export_all.Goals as goal

pub loop-entry-init : goal.loop-entry-init
loop-entry-init c = λ names table defined none. subst (λ f. ExportedSoFar names c.args.entries.now [] c.args.closing.now.causes.items f c.args.closing.now.causes.items) (sym none) (exported_start names c.args.entries.now c.args.closing.now.causes.items)

pub loop-entry-preserved : goal.loop-entry-preserved
loop-entry-preserved c = λ names table defined none. exported_step names c.args.entries.now c.args.defined.now.procedures.keys c.loop-entry.entry-index _ c.args.closing.now.causes.items c.loop-entry.closing.found.keys c.export.new.closing.found.keys c.loop-entry.closing.causes.items c.export.new.closing.causes.items c.loop-entry-test.true table defined (c.loop-entry.invariant names table defined none) c.in_ok-export.ensures.found c.in_ok-export.ensures.causes

pub returns : goal.returns
returns c = λ names table defined none. exported_end names c.args.entries.now c.loop-entry.entry-index c.args.closing.now.causes.items c.loop-entry.closing.found.keys c.loop-entry.closing.causes.items c.loop-entry-test.false (c.loop-entry.invariant names table defined none)
