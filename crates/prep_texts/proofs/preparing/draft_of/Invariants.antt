use Rattle.std.proofs.Common.{length, ◌-◌}
use Rattle.prep_texts.proofs.RunLaws.{Going}
use Rattle.prep_texts.proofs.preparing.draft_of.Given as goal

abbrev pub invariant-terms : goal.invariant-terms
invariant-terms l = Going l.known l.text l.tokens l.draft

abbrev pub decreases-terms : goal.decreases-terms
decreases-terms l = length l.text - l.tokens.at
