use Rattle.std.proofs.Common.{◌∙◌, sym, arith, reverse, length}
use Rattle.std.proofs.lemmas.List.{length-reverse}
use Rattle.goal_state.proofs.PlaceLaws.{place_there}
use Rattle.goal_state.proofs.path.Path.setting_of.Goals as goal

pub unreachable-requires : goal.unreachable-requires
unreachable-requires c =
    place_there (reverse c.args.self.now.frames) c.args.choice.rest c.requires.0 (omega (arith, c.requires.1, length-reverse c.args.self.now.frames)) (sym (c.get.ensures.frame) ∙ c.in-None.is)
