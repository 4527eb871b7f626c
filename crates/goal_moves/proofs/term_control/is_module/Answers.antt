use Rattle.std.proofs.Common.{arith}
use Rattle.goal_state.specs.Denotation.{linked}
use Rattle.goal_moves.proofs.ModuleNames.{no_module_past}
use Rattle.goal_moves.proofs.term_control.is_module.Goals as goal

pub returns : goal.returns
returns c = let le = c.if-name-len.false in let same = c.len.ensures.length in no_module_past (linked c.args.compiled.now) c.args.name.0 c.requires.facts (omega (arith, le, same))
