use Rattle.std.proofs.Common.{rules}
use Rattle.std.specs.Int.{w64}
use Rattle.std.specs.Int.RustNames.{FitsSigned}
use Rattle.std.proofs.lemmas.Int.{to_z-of_z}
use Rattle.goal_moves.proofs.ValueLaws.{compares}
use Rattle.goal_moves.proofs.code_values.compared.Goals as goal

pub returns : goal.returns
returns c =
    let fx : FitsSigned w64 c.in_ok-x.x = search rules in
    let fy : FitsSigned w64 c.in_ok-y.y = search rules in
    compares c.args.names.now c.args.store.now.state c.args.base c.args.code.now.words c.args.place c.in_ok-left.left c.args.relation c.in_ok-x.x c.in_ok-y.y c.holds.result
    c.in_ok-left.ensures c.in_ok-x.ensures c.in_ok-y.ensures (simp to_z-of_z at c.holds.ensures)
