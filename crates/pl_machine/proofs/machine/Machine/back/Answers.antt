use Rattle.std.proofs.Common.{refl, arith}
use Rattle.std.proofs.lemmas.List.{nil_from_length}
use Rattle.pl_machine.specs.declared.machine.Machine.{Machine}
use Rattle.pl_machine.proofs.BackLaws.{Steps, popped_well, went_back, back_inside}
use Rattle.pl_machine.proofs.machine.Machine.back.Goals as goal

pub go_back-requires : goal.go_back-requires
go_back-requires c =
    let m : Machine = c.args.self.now in
    (popped_well m.compiled m.path c.pop.new.self c.in-Some.choice m.path.depth c.in-Some.ensures.some c.pop.ensures.others c.requires.well).records.0.mark

pub returns-then-choices-eq0-clause-none : goal.returns-then-choices-eq0-clause-none
returns-then-choices-eq0-clause-none c e =
    (nil_from_length c.args.self.now.path.choices.items (omega (arith, c.choices.ensures)), refl)

pub overflow_add-self : goal.overflow_add-self
overflow_add-self c =
    let m : Machine = c.args.self.now in
    let low = (popped_well m.compiled m.path c.pop.new.self c.in-Some.choice m.path.depth c.in-Some.ensures.some c.pop.ensures.others c.requires.well).records.0.shallow in
    omega (arith, low)

pub returns-clause-back : goal.returns-clause-back
returns-clause-back c e =
    let m : Machine = c.args.self.now in
    let steps : Steps m.path c.pop.new.self c.go_back.new.self c.leave.new.self c.in-Some.choice = record {
      last = c.in-Some.ensures.some;
      pop = c.pop.ensures.others;
      state = c.go_back.ensures.state;
      frames = c.go_back.ensures.frames;
      gone = c.go_back.ensures.others;
      template = c.leave.ensures.template;
      gathered = c.leave.ensures.gathered;
      others = c.leave.ensures.others;
    } in (
      c.in-Some.choice,
      went_back m c.pop.new.self c.go_back.new.self c.leave.new.self c.in-Some.choice steps,
      back_inside m c.pop.new.self c.go_back.new.self c.leave.new.self c.in-Some.choice steps m.path.depth c.requires.compiled c.requires.well,
    )
