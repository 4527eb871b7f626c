use Rattle.std.proofs.Common.{◌≡◌, ap}
use Rattle.goal_state.specs.declared.path.Path.{Path}
use Rattle.goal_moves.specs.declared.going.Going.TheVariants.{On}
use Rattle.pl_machine.specs.declared.machine.Machine.{Machine}
use Rattle.pl_machine.proofs.FrontLaws.{Placed, calls_placed, calls_there, uncalled}
use Rattle.pl_machine.proofs.PeakLaws.{placed_leaves}
use Rattle.pl_machine.proofs.MachineLaws.{placed_machine}
use Rattle.pl_machine.proofs.MoveLaws.{placed_remains}
use Rattle.pl_machine.proofs.machine.Machine.goal_first.Goals as goal

pub returns-in-Goal : goal.returns-in-Goal
returns-in-Goal c =
    let m : Machine = c.args.self.now in
    let q : Path = c.front_of.new.path in
    let placed : Placed m.compiled m.path q = record { others = c.front_of.ensures.others; items = c.front_of.ensures.items } in
    let on : m.going ≡ On = c.in-On.is in
    record {
      machine = placed_machine m q c.requires placed;
      others = ap (λ p. record m { path = p }) placed.others;
      remains = placed_remains m q c.requires.well placed on;
      waits = (on, c.in-Goal.ensures.front);
      some = (on, calls_placed m.compiled m.path q placed c.in-Goal.ensures.front.1);
      none = tt;
      leaves = placed_leaves m q placed;
    }

pub returns-in_default-front_of : goal.returns-in_default-front_of
returns-in_default-front_of c =
    let m : Machine = c.args.self.now in
    let q : Path = c.front_of.new.path in
    let placed : Placed m.compiled m.path q = record { others = c.front_of.ensures.others; items = c.front_of.ensures.items } in
    let on : m.going ≡ On = c.in-On.is in
    record {
      machine = placed_machine m q c.requires placed;
      others = ap (λ p. record m { path = p }) placed.others;
      remains = placed_remains m q c.requires.well placed on;
      waits = tt;
      some = tt;
      none = λ h. uncalled m.compiled q c.front_of.result c.front_of.ensures.front c.in_default-front_of.not-Goal (calls_there m.compiled m.path q placed h.1);
      leaves = placed_leaves m q placed;
    }
