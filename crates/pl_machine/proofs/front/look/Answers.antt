use Rattle.std.proofs.Common.{◌∙◌, sym}
use Rattle.pl_machine.proofs.FrontLaws.{Placed, nothing_front, lower_placed, placed_well, below_it}
use Rattle.pl_machine.proofs.front.look.Goals as goal

pub returns-in_default-clause-front : goal.returns-in_default-clause-front
returns-in_default-clause-front c = nothing_front c.args.compiled.now c.args.path.now (sym c.get.ensures.frame ∙ c.in_default.is)

pub returns-in_default-of_frame : goal.returns-in_default-of_frame
returns-in_default-of_frame c =
    let b = c.args.compiled.now in
    let p = c.args.path.now in
    let placed : Placed b p (record p { f = c.in-Some.frame.parent; pc = c.in-Some.frame.ppc }) = lower_placed b p c.in-Some.frame.parent c.in-Some.frame.ppc c.in_default-of_frame.ensures.none in
    record {
      well = placed_well b p (record p { f = c.in-Some.frame.parent; pc = c.in-Some.frame.ppc }) c.requires.well placed;
      others = placed.others;
      items = placed.items;
      front = tt;
      lower = below_it b p c.get.ensures.linked c.in-Some.frame (sym c.get.ensures.frame ∙ c.in-Some.is);
    }
