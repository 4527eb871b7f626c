use Rattle.std.proofs.Common.{ap}
use Rattle.goal_state.specs.declared.path.Path.{Path}
use Rattle.pl_machine.specs.declared.machine.Machine.{Machine}
use Rattle.pl_machine.proofs.RoomLaws.{CutOff, cut_answers, cut_others, cut_machine, cut_inside}
use Rattle.pl_machine.proofs.machine.Machine.cut.Goals as goal

pub returns : goal.returns
returns c =
    let m : Machine = c.args.self.now in
    let q : Path = c.cut.new.self in
    let cut : CutOff m.path q c.args.depth = record {
      unnested = c.requires;
      choices = c.cut.ensures.choices;
      template = c.cut.ensures.template;
      gathered = c.cut.ensures.gathered;
      others = c.cut.ensures.others;
    } in
    record {
      choices = c.cut.ensures.choices;
      gathered = cut_answers m.path q c.args.depth cut;
      others = ap (λ p. record m { path = p }) (cut_others m.path q c.args.depth cut);
      machine = cut_machine m q c.args.depth cut;
      inside = cut_inside m q c.args.depth cut;
    }
