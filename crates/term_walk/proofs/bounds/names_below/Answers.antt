use Rattle.std.proofs.Common.{◌≡◌, length, true, arith}
use Rattle.term_walk.proofs.NameBounds.{passed}
use Rattle.term_walk.proofs.bounds.names_below.Goals as goal

pub loop-cell-preserved : goal.loop-cell-preserved
loop-cell-preserved c =
    let t : c.is_below.result ≡ true = grind arith in
    let p = passed (length c.args.names.now) c.of-walk.result c.loop-cell.walk c.enter.new.self c.len-len.result c.in-Some.cell c.is_below.result
    c.loop-cell.invariant.up c.loop-cell.invariant.down c.in-Some.ensures c.enter.ensures.trees c.len-len.ensures.length c.is_below.ensures t in
    record { up = p.up; down = p.down }
