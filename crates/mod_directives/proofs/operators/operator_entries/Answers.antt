use Rattle.std.proofs.Common.{length}
use Rattle.term_walk.proofs.NameBounds.{entered_below}
use Rattle.mod_directives.proofs.operators.operator_entries.Goals as goal

pub operator_names-requires : goal.operator_names-requires
operator_names-requires c =
    let n = length c.args.names.now in
    entered_below n c.enter.new.self c.enter-2.new.self c.enter-2.ensures.trees (entered_below n c.args.args c.enter.new.self c.enter.ensures.trees c.requires.below)
