use Rattle.std.proofs.Common.{◌∙◌, sym, refl, subst}
use Rattle.std.proofs.lemmas.List.{append-nil}
use Rattle.goal_state.specs.declared.path.Path.{Path}
use Rattle.goal_moves.specs.Moves.{thrown}
use Rattle.goal_moves.specs.Throwing.{exits_here}
use Rattle.goal_moves.proofs.RetryLaws.{popped_well, was_last, no_items}
use Rattle.goal_moves.proofs.OutwardLaws.{Outward, outward_first, took, took_off, passed_on, raised_on, moved_out, none_left}
use Rattle.goal_moves.proofs.raising.throw.Goals as goal

pub loop-choice-init : goal.loop-choice-init
loop-choice-init c = outward_first c.args.compiled.now c.args.path.now c.args.term c.args.rest c.requires.well

pub pass-requires-clause-well : goal.pass-requires-clause-well
pass-requires-clause-well c =
    let old : Path = c.loop-choice.path in
    popped_well c.args.compiled.now old (record old { choices = c.pop.new.self }) c.in-Some.choice (was_last _ _ _ c.in-Some.ensures.items) refl c.loop-choice.invariant.well

pub returns-in-Takes-clause-moved : goal.returns-in-Takes-clause-moved
returns-in-Takes-clause-moved c =
    let old : Path = c.loop-choice.path in
    let b = c.args.compiled.now in
    took b c.args.path.now old (record old { choices = c.pop.new.self }) c.pass.new.path c.in-Some.choice (was_last _ _ _ c.in-Some.ensures.items) refl c.loop-choice.ball c.loop-choice.at (thrown b c.args.path.now c.args.term (exits_here b c.args.path.now c.args.rest)) c.loop-choice.invariant
    c.in_ok-pass.field-0 c.in-Takes.is c.in_ok-pass.ensures

pub returns-in-Takes-clause-fewer : goal.returns-in-Takes-clause-fewer
returns-in-Takes-clause-fewer c =
    let old : Path = c.loop-choice.path in
    let b = c.args.compiled.now in
    took_off b c.args.path.now old (record old { choices = c.pop.new.self }) c.pass.new.path c.in-Some.choice (was_last _ _ _ c.in-Some.ensures.items) refl c.loop-choice.ball c.loop-choice.at (thrown b c.args.path.now c.args.term (exits_here b c.args.path.now c.args.rest)) c.loop-choice.invariant
    c.in_ok-pass.field-0 c.in-Takes.is c.in_ok-pass.ensures

pub loop-choice-preserved-in-Passes : goal.loop-choice-preserved-in-Passes
loop-choice-preserved-in-Passes c =
    let old : Path = c.loop-choice.path in
    let b = c.args.compiled.now in
    passed_on b c.args.path.now old (record old { choices = c.pop.new.self }) c.pass.new.path c.in-Some.choice (was_last _ _ _ c.in-Some.ensures.items) refl c.loop-choice.ball c.loop-choice.at (thrown b c.args.path.now c.args.term (exits_here b c.args.path.now c.args.rest)) c.loop-choice.invariant
    c.in_ok-pass.field-0 c.in-Passes.next c.in-Passes.is c.in_ok-pass.ensures

pub loop-choice-preserved : goal.loop-choice-preserved
loop-choice-preserved c =
    let old : Path = c.loop-choice.path in
    let b = c.args.compiled.now in
    raised_on b c.args.path.now old (record old { choices = c.pop.new.self }) c.pass.new.path c.in-Some.choice (was_last _ _ _ c.in-Some.ensures.items) refl c.loop-choice.ball c.loop-choice.at (thrown b c.args.path.now c.args.term (exits_here b c.args.path.now c.args.rest)) c.loop-choice.invariant
    c.in_ok-pass.field-0 c.in-Raises.other c.in-Raises.next c.in-Raises.is c.in_ok-pass.ensures

pub returns-in-Ok-clause-moved : goal.returns-in-Ok-clause-moved
returns-in-Ok-clause-moved c =
    let b = c.args.compiled.now in
    let x = thrown b c.args.path.now c.args.term (exits_here b c.args.path.now c.args.rest) in
    moved_out b c.args.path.now c.loop-choice.path c.pop.new.self c.in-Ok.ball c.loop-choice.at x (sym (c.in_default.ensures.items ∙ append-nil c.pop.new.self.items)) (no_items c.pop.new.self c.in_default.ensures.cases.1)
    (subst (λ t. Outward b c.args.path.now c.loop-choice.path t c.loop-choice.at x) (sym c.in-Ok.ensures.ok) c.loop-choice.invariant)

pub returns-in-Ok-clause-fewer : goal.returns-in-Ok-clause-fewer
returns-in-Ok-clause-fewer c = none_left c.args.path.now c.loop-choice.path c.pop.new.self (no_items c.pop.new.self c.in_default.ensures.cases.1)
