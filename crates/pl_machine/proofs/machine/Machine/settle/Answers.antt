use Rattle.std.proofs.Common.{ℕ, ◌<◌, length, subst}
use Rattle.pl_machine.specs.declared.machine.Machine.{Machine}
use Rattle.pl_machine.specs.declared.moves.Part.TheVariants as P
use Rattle.pl_machine.specs.Running.{Remains, with_left}
use Rattle.pl_machine.specs.Parts.{Did}
use Rattle.pl_machine.specs.Further.{Does}
use Rattle.pl_machine.proofs.FurtherLaws.{kept_left, does_then}
use Rattle.pl_machine.proofs.WentLaws.{did_then, kept_then, others_then}
use Rattle.pl_machine.proofs.machine.Machine.settle.Goals as goal

pub returns-in_default : goal.returns-in_default
returns-in_default c =
    let m : Machine = c.args.self.now in
    let l : Machine = c.parts.self in
    record {
      machine = c.in_ok-other.ensures.machine;
      waits = c.in_ok-other.ensures.waits;
      did = did_then (Remains m) (Remains l) m l c.part.new.self c.args.text.now c.parts.text c.part.new.text c.in_ok-other.other c.parts.invariant.kept c.parts.invariant.remains c.in_ok-other.ensures.did;
      further = λ left.
          does_then (Remains (with_left m left)) (Remains (with_left l left)) (with_left m left) (with_left l left) (with_left c.part.new.self left) c.args.text.now c.parts.text c.part.new.text c.in_ok-other.other
          (kept_left m l c.args.text.now c.parts.text left c.parts.invariant.kept) (c.parts.invariant.further left) (c.in_ok-other.ensures.further left);
      settled = c.in_default.not-Quiet;
      others = others_then m l c.part.new.self c.parts.invariant.others c.in_ok-other.ensures.others;
      grew = λ e. subst (λ t. length t < length c.part.new.text) c.parts.invariant.kept.text (c.in_ok-other.ensures.grew e);
    }

pub parts-preserved : goal.parts-preserved
parts-preserved c =
    let m : Machine = c.args.self.now in
    let l : Machine = c.parts.self in
    let d : Did (Remains l) l c.part.new.self c.parts.text c.part.new.text P.Quiet = subst (Did (Remains l) l c.part.new.self c.parts.text c.part.new.text) c.in-Quiet.is c.in_ok-other.ensures.did in
    let with_any : (left : ℕ) → Does (Remains (with_left l left)) (with_left l left) (with_left c.part.new.self left) c.parts.text c.part.new.text P.Quiet = λ left.
    subst (Does (Remains (with_left l left)) (with_left l left) (with_left c.part.new.self left) c.parts.text c.part.new.text) c.in-Quiet.is (c.in_ok-other.ensures.further left) in
    record {
      machine = c.in_ok-other.ensures.machine;
      kept = kept_then m l c.part.new.self c.args.text.now c.parts.text c.part.new.text c.parts.invariant.kept d.0;
      others = others_then m l c.part.new.self c.parts.invariant.others c.in_ok-other.ensures.others;
      remains = λ r h. d.1 r (c.parts.invariant.remains r h);
      further = λ left r h. (with_any left).1 r (c.parts.invariant.further left r h);
    }
