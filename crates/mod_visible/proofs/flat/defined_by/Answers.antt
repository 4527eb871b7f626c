use Rattle.std.proofs.Common.{sym, ap, ◌∙◌, subst, slice_index, length}
use Rattle.mod_visible.specs.Placing.{BeginsBelow, begun_by}
use Rattle.mod_visible.proofs.Placing.{begins, begins_below}
use Rattle.mod_visible.proofs.flat.defined_by.Goals as goal

pub begun_by-requires : goal.begun_by-requires
begun_by-requires c = subst (BeginsBelow (length c.args.remap.now)) (sym c.cells.ensures.same) (begins_below (length c.args.remap.now) c.args.head.now c.requires)

pub returns : goal.returns
returns c = c.begun_by.ensures ∙ ap (begun_by (slice_index c.args.remap.now)) c.cells.ensures.same ∙ begins (slice_index c.args.remap.now) c.args.head.now
