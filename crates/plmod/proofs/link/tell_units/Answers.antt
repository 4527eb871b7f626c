use Rattle.plmod.specs.MadeOutcome.{outcome_of}
use Rattle.plmod.proofs.FetchedLaws.{same_length}
use Rattle.plmod.proofs.LinkLaws.{told_units}
use Rattle.plmod.proofs.link.tell_units.Goals as goal

pub told_of-requires : goal.told_of-requires
told_of-requires g c = rw c.as_slice.ensures (same_length _ _ _ c.in-Ok.ensures.found)

pub returns-in-Ok-told_of : goal.returns-in-Ok-told_of
returns-in-Ok-told_of g c = record {
  meets = told_units c.args.asked c.args.units.now c.in-Ok.contents c.tell.result (outcome_of c.in-Ok-told_of.made) _ c.in-Ok.ensures.found
      (rw c.as_slice.ensures at c.in-Ok-told_of.ensures.gives) c.tell.ensures.output c.tell.ensures.write_fault c.tell.ensures.read c.tell.ensures.used c.in-Ok.ensures.files;
}
