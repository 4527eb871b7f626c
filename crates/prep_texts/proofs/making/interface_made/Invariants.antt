use Rattle.std.proofs.Common.{◌≡◌, take}
use Rattle.unit_model.specs.Preparing.{operators_of}
use Rattle.unit_model.specs.Entries.{entries_in}
use Rattle.prep_texts.specs.Interfaces.{operators_view}
use Rattle.prep_texts.proofs.making.interface_made.Given as goal

abbrev pub invariant-taking : goal.invariant-taking
invariant-taking l = operators_view l.operators ≡ operators_of (entries_in l.names (take l.entry-index l.entries))
