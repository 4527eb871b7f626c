use Rattle.std.proofs.Common.{◌≡◌, map}
use Rattle.pl_terms.specs.Occurrence.{from_to}
use Rattle.plmod.specs.Growing.{grow_text}
use Rattle.plmod.proofs.grow.texts_of.Given as goal

abbrev pub invariant-loop-before : goal.invariant-loop-before
invariant-loop-before l = record {
  so_far : l.texts ≡ map grow_text (from_to 1 l.before);
}
