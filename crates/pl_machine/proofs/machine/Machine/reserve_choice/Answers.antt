use Rattle.std.proofs.Common.{ap}
use Rattle.pl_machine.proofs.RoomLaws.{room_machine, room_inside, room_remains}
use Rattle.pl_machine.proofs.machine.Machine.reserve_choice.Goals as goal

pub returns-clause-others : goal.returns-clause-others
returns-clause-others c = ap (λ p. record c.args.self.now { path = p }) c.reserve_choice.ensures.others

pub returns-clause-machine : goal.returns-clause-machine
returns-clause-machine c = room_machine c.args.self.now c.reserve_choice.new.self c.reserve_choice.ensures.others c.reserve_choice.ensures.choices

pub returns-clause-inside : goal.returns-clause-inside
returns-clause-inside c = room_inside c.args.self.now c.reserve_choice.new.self c.reserve_choice.ensures.others c.reserve_choice.ensures.choices

pub returns-clause-remains : goal.returns-clause-remains
returns-clause-remains c = room_remains c.args.self.now c.reserve_choice.new.self c.reserve_choice.ensures.others c.reserve_choice.ensures.choices
