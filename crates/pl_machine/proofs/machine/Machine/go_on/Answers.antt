use Rattle.std.proofs.Common.{◌≡◌, ℕ, refl, sym, subst}
use Rattle.goal_state.specs.declared.path.Path.{Path}
use Rattle.goal_moves.specs.declared.going.Going.TheVariants.{On, Fails}
use Rattle.goal_moves.specs.Walking.{Walked}
use Rattle.goal_moves.proofs.Committing.{IfOk-then}
use Rattle.goal_moves.proofs.WalkLaws.{IsCut, walked_then, walked_cut}
use Rattle.pl_machine.specs.declared.machine.Machine.{Machine}
use Rattle.pl_machine.specs.declared.moves.Part.TheVariants as P
use Rattle.pl_machine.specs.Machine.{IsMachine}
use Rattle.pl_machine.specs.Running.{with_left}
use Rattle.pl_machine.specs.Parts.{Searching, Answering, Did}
use Rattle.pl_machine.proofs.FurtherLaws.{does_then}
use Rattle.pl_machine.proofs.FrontLaws.{Placed, placed_walked, walked_exit, failed_first, walked_so}
use Rattle.pl_machine.proofs.MachineLaws.{placed_machine, walked_machine}
use Rattle.pl_machine.proofs.MoveLaws.{remains_of, remains_waiting, walked_remains, nothing_answers}
use Rattle.pl_machine.proofs.WentLaws.{did_then}
use Rattle.pl_machine.proofs.machine.Machine.go_on.Goals as goal

pub answer-requires-clause-machine : goal.answer-requires-clause-machine
answer-requires-clause-machine c = placed_machine c.args.self.now c.front_of.new.path c.requires.machine (record { others = c.front_of.ensures.others; items = c.front_of.ensures.items })

pub returns-in-Goal : goal.returns-in-Goal
returns-in-Goal c =
    let m : Machine = c.args.self.now in
    let q : Path = c.front_of.new.path in
    let placed : Placed m.compiled m.path q = record { others = c.front_of.ensures.others; items = c.front_of.ensures.items } in
    let walked : Walked m.compiled m.path q = placed_walked m.compiled m.path q c.requires.machine.well placed in
    let new : Machine = record m { path = q; going = On } in
    let did : (left : ℕ) → Did (Searching (with_left m left)) (with_left m left) (with_left new left) c.args.text.now c.args.text.now (P.Waits c.in-Goal.stand) = λ left. (
      record { text = refl; same = (refl, refl, refl); answers = refl },
      λ r so. remains_waiting (with_left new left) c.in-Goal.stand r (refl, c.in-Goal.ensures.front) (walked_remains (with_left m left) q On r refl walked so),
    ) in
    record {
      machine = walked_machine m q On c.requires.machine walked;
      waits = (refl, c.in-Goal.ensures.front);
      did = did m.left;
      further = did;
      others = refl;
      grew = λ e. cc;
    }

pub returns-in-Cut : goal.returns-in-Cut
returns-in-Cut c =
    let m : Machine = c.args.self.now in
    let b = m.compiled in
    let q : Path = c.front_of.new.path in
    let placed : Placed b m.path q = record { others = c.front_of.ensures.others; items = c.front_of.ensures.items } in
    let first : Walked b m.path q = placed_walked b m.path q c.requires.machine.well placed in
    let cut : IsCut q c.cut.new.self c.in-Cut.depth = record {
      choices = c.cut.ensures.choices;
      template = c.cut.ensures.template;
      gathered = c.cut.ensures.gathered;
      others = c.cut.ensures.others;
    } in
    let last : Path = record c.cut.new.self { f = c.in-Cut.rest.f; pc = c.in-Cut.rest.pc } in
    let walked : Walked b m.path last = walked_then b m.path q last first (walked_cut b q c.cut.new.self c.in-Cut.depth c.in-Cut.rest.f c.in-Cut.rest.pc first.well cut c.in-Cut.ensures.front) in
    let new : Machine = record m { path = last; going = On } in
    let is : c.stand_at.new.self ≡ new = c.stand_at.ensures in
    let did : (left : ℕ) → Did (Searching (with_left m left)) (with_left m left) (with_left new left) c.args.text.now c.args.text.now P.Quiet = λ left. (
      record { text = refl; same = (refl, refl, refl); answers = refl },
      λ r so. walked_remains (with_left m left) last On r refl walked so,
    ) in
    record {
      machine = subst IsMachine (sym is) (walked_machine m last On c.requires.machine walked);
      waits = tt;
      did = subst (λ n. Did (Searching m) m n c.args.text.now c.args.text.now P.Quiet) (sym is) (did m.left);
      further = λ left. subst (λ n. Did (Searching (with_left m left)) (with_left m left) (with_left n left) c.args.text.now c.args.text.now P.Quiet) (sym is) (did left);
      others = subst (λ (n : Machine). n ≡ record m { path = n.path; going = n.going; answers = n.answers }) (sym is) refl;
      grew = λ e. cc;
    }

pub returns-in-Exit : goal.returns-in-Exit
returns-in-Exit c =
    let m : Machine = c.args.self.now in
    let b = m.compiled in
    let q : Path = c.front_of.new.path in
    let placed : Placed b m.path q = record { others = c.front_of.ensures.others; items = c.front_of.ensures.items } in
    let first : Walked b m.path q = placed_walked b m.path q c.requires.machine.well placed in
    let last : Path = record q { f = c.in-Exit.rest.f; pc = c.in-Exit.rest.pc } in
    let walked : Walked b m.path last = walked_then b m.path q last first (walked_exit b q c.in-Exit.field-0 c.in-Exit.rest.f c.in-Exit.rest.pc first.well c.in-Exit.ensures.front) in
    let new : Machine = record m { path = last; going = On } in
    let is : c.stand_at-in-Exit.new.self ≡ new = c.stand_at-in-Exit.ensures in
    let did : (left : ℕ) → Did (Searching (with_left m left)) (with_left m left) (with_left new left) c.args.text.now c.args.text.now P.Quiet = λ left. (
      record { text = refl; same = (refl, refl, refl); answers = refl },
      λ r so. walked_remains (with_left m left) last On r refl walked so,
    ) in
    record {
      machine = subst IsMachine (sym is) (walked_machine m last On c.requires.machine walked);
      waits = tt;
      did = subst (λ n. Did (Searching m) m n c.args.text.now c.args.text.now P.Quiet) (sym is) (did m.left);
      further = λ left. subst (λ n. Did (Searching (with_left m left)) (with_left m left) (with_left n left) c.args.text.now c.args.text.now P.Quiet) (sym is) (did left);
      others = subst (λ (n : Machine). n ≡ record m { path = n.path; going = n.going; answers = n.answers }) (sym is) refl;
      grew = λ e. cc;
    }

pub returns-in-Fail : goal.returns-in-Fail
returns-in-Fail c =
    let m : Machine = c.args.self.now in
    let b = m.compiled in
    let q : Path = c.front_of.new.path in
    let placed : Placed b m.path q = record { others = c.front_of.ensures.others; items = c.front_of.ensures.items } in
    let walked : Walked b m.path q = placed_walked b m.path q c.requires.machine.well placed in
    let new : Machine = record m { path = q } in
    let did : (left : ℕ) → Did (Searching (with_left m left)) (with_left m left) (with_left new left) c.args.text.now c.args.text.now P.Quiet = λ left. (
      record { text = refl; same = (refl, refl, refl); answers = refl },
      λ r so. remains_of (with_left new left) Fails r c.requires.going (failed_first b q c.in-Fail.ensures.front.0 left r c.in-Fail.ensures.front.1 (walked_so b m.path q left r walked so)),
    ) in
    record {
      machine = placed_machine m q c.requires.machine placed;
      waits = tt;
      did = did m.left;
      further = did;
      others = refl;
      grew = λ e. cc;
    }

pub returns-in-Nothing-clause-did : goal.returns-in-Nothing-clause-did
returns-in-Nothing-clause-did c =
    let m : Machine = c.args.self.now in
    let b = m.compiled in
    let q : Path = c.front_of.new.path in
    let mid : Machine = record m { path = q } in
    let placed : Placed b m.path q = record { others = c.front_of.ensures.others; items = c.front_of.ensures.items } in
    let walked : Walked b m.path q = placed_walked b m.path q c.requires.machine.well placed in
    IfOk-then c.answer.result c.answer.ensures.did (λ part d.
    did_then (Searching m) (Answering mid) m mid c.answer.new.self c.args.text.now c.args.text.now c.answer.new.text part
    (record { text = refl; same = (refl, refl, refl); answers = refl })
    (λ r so. nothing_answers mid r c.in-Nothing.ensures.front (walked_so b m.path q m.left r walked so))
    d)

pub returns-in-Nothing-clause-further : goal.returns-in-Nothing-clause-further
returns-in-Nothing-clause-further c =
    let m : Machine = c.args.self.now in
    let b = m.compiled in
    let q : Path = c.front_of.new.path in
    let placed : Placed b m.path q = record { others = c.front_of.ensures.others; items = c.front_of.ensures.items } in
    let walked : Walked b m.path q = placed_walked b m.path q c.requires.machine.well placed in
    IfOk-then c.answer.result c.answer.ensures.further (λ part d left.
    let old : Machine = with_left m left in
    let mid : Machine = record old { path = q } in
    does_then (Searching old) (Answering mid) old mid (with_left c.answer.new.self left) c.args.text.now c.args.text.now c.answer.new.text part
    (record { text = refl; same = (refl, refl, refl); answers = refl })
    (λ r so. nothing_answers mid r c.in-Nothing.ensures.front (walked_so b m.path q left r walked so))
    (d left))
