use Rattle.std.proofs.Common.{rules}
use Rattle.std.specs.Int.{w64}
use Rattle.std.specs.Int.RustNames.{FitsSigned}
use Rattle.std.proofs.lemmas.Int.{to_z-of_z}
use Rattle.goal_moves.proofs.ValueLaws.{assigns}
use Rattle.goal_moves.proofs.code_values.assigned.Goals as goal

pub returns : goal.returns
returns c =
    let fits : FitsSigned w64 c.in_ok-value.value = search rules in
    simp to_z-of_z (assigns c.args.names.now c.args.store.now.state c.args.base c.args.code.now.words c.args.place c.in_ok-left.left c.in_ok-value.value c.in_ok-left.ensures c.in_ok-value.ensures)
