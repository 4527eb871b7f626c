use Rattle.std.proofs.Common.{ℕ, List, refl, subst}
use Rattle.solver_model.specs.Search.{Over, Failed}
use Rattle.goal_state.specs.Denotation.{search_at}
use Rattle.goal_moves.specs.declared.going.Going.TheVariants.{Fails}
use Rattle.goal_moves.specs.Moves.{Moved}
use Rattle.prep_report.specs.declared.end.End2.TheVariants.{Exhausted}
use Rattle.pl_machine.specs.declared.machine.Machine.{Machine}
use Rattle.pl_machine.specs.declared.moves.Part.TheVariants as P
use Rattle.pl_machine.specs.Running.{with_left}
use Rattle.pl_machine.specs.Parts.{Failing, Did}
use Rattle.pl_machine.proofs.EndLaws.{ended_failed}
use Rattle.pl_machine.proofs.MachineLaws.{moved_machine}
use Rattle.pl_machine.proofs.MoveLaws.{moved_remains}
use Rattle.pl_machine.proofs.machine.Machine.go_back.Goals as goal

pub returns-in-Fails : goal.returns-in-Fails
returns-in-Fails c =
    let m : Machine = c.args.self.now in
    let x = search_at m.compiled m.path (Over Failed) in
    let moved : Moved m.compiled m.path c.back.new.path x Fails = subst (Moved m.compiled m.path c.back.new.path x) c.in-Fails.is c.in_ok-going.ensures.moved in
    let new : Machine = record m { path = c.back.new.path } in
    let did : (left : ℕ) (text : List ℕ) → Did (Failing (with_left m left)) (with_left m left) (with_left new left) text text (P.Ended Exhausted) = λ left text. (
      record { text = refl; same = (refl, refl, refl); answers = refl },
      λ r so. ended_failed (with_left new left) m.compiled c.back.new.path r left refl (c.in_ok-going.ensures.ended c.in-Fails.is)
          (moved_remains m.compiled m.path c.back.new.path x left Fails r moved so),
    ) in
    record {
      machine = moved_machine m c.back.new.path m.going c.requires moved.well moved.low moved.width;
      waits = tt;
      others = refl;
      quiet = λ e. cc;
      did = did m.left;
      further = did;
    }

pub returns-in_default : goal.returns-in_default
returns-in_default c =
    let m : Machine = c.args.self.now in
    let moved = c.in_ok-going.ensures.moved in
    let new : Machine = record m { path = c.back.new.path; going = c.in_ok-going.going } in
    let did : (left : ℕ) (text : List ℕ) → Did (Failing (with_left m left)) (with_left m left) (with_left new left) text text P.Quiet = λ left text. (
      record { text = refl; same = (refl, refl, refl); answers = refl },
      λ r so. moved_remains m.compiled m.path c.back.new.path (search_at m.compiled m.path (Over Failed)) left c.in_ok-going.going r moved so,
    ) in
    record {
      machine = moved_machine m c.back.new.path c.in_ok-going.going c.requires moved.well moved.low moved.width;
      waits = tt;
      others = refl;
      quiet = λ e. cc;
      did = did m.left;
      further = did;
    }
