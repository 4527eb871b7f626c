use Rattle.std.proofs.Common.{refl}
use Rattle.pl_machine.proofs.FrontLaws.{Placed, placed_then}
use Rattle.pl_machine.proofs.front.front_of.Goals as goal

pub loop-front-init : goal.loop-front-init
loop-front-init c = record { well = c.requires.well; placed = record { others = refl; items = refl } }

pub returns-in-Some : goal.returns-in-Some
returns-in-Some c =
    let b = c.args.compiled.now in
    let p = c.args.path.now in
    let all : Placed b p c.look.new.path = placed_then b p c.loop-front.path c.look.new.path c.loop-front.invariant.placed (record { others = c.look.ensures.others; items = c.look.ensures.items }) in
    record { well = c.look.ensures.well; others = all.others; items = all.items; front = c.in-Some.ensures.front }

pub loop-front-preserved : goal.loop-front-preserved
loop-front-preserved c =
    record {
      well = c.look.ensures.well;
      placed = placed_then c.args.compiled.now c.args.path.now c.loop-front.path c.look.new.path c.loop-front.invariant.placed (record { others = c.look.ensures.others; items = c.look.ensures.items });
    }
