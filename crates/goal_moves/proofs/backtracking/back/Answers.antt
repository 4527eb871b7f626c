use Rattle.std.proofs.Common.{◌≡◌, ◌∙◌, sym, ap, subst, refl, arith, vec_len}
use Rattle.std.proofs.lemmas.List.{append-nil}
use Rattle.solver_model.specs.Search.{Over, Failed}
use Rattle.goal_state.specs.Denotation.{search_at}
use Rattle.goal_state.specs.declared.path.Path.{Path}
use Rattle.goal_moves.specs.Moves.{Moved, resumed}
use Rattle.goal_moves.specs.declared.going.Going.TheVariants.{Fails}
use Rattle.goal_moves.proofs.RetryLaws.{popped_moved, popped_on, popped_well, popped_fewer, was_last, same_choices, no_items}
use Rattle.goal_moves.proofs.backtracking.back.Goals as goal

pub retry-requires-clause-well : goal.retry-requires-clause-well
retry-requires-clause-well c =
    let old : Path = c.loop-choice.path in
    popped_well c.args.compiled.now old (record old { choices = c.pop.new.self }) c.in-Some.choice (was_last _ _ _ c.in-Some.ensures.items) refl c.loop-choice.invariant.well

pub loop-choice-smaller : goal.loop-choice-smaller
loop-choice-smaller c =
    let old : Path = c.loop-choice.path in
    let fewer = popped_fewer c.args.compiled.now old (record old { choices = c.pop.new.self }) c.in-Some.choice (was_last _ _ _ c.in-Some.ensures.items) refl in
    let same : vec_len c.retry.new.path.choices ≡ vec_len c.pop.new.self = ap vec_len (c.in_ok-going.ensures.gone c.in-Fails.is) in
    omega (arith, fewer, same)

pub loop-choice-preserved : goal.loop-choice-preserved
loop-choice-preserved c =
    let old : Path = c.loop-choice.path in
    let mid : Path = record old { choices = c.pop.new.self } in
    let m : Moved c.args.compiled.now mid c.retry.new.path (resumed c.args.compiled.now mid c.in-Some.choice (Over Failed)) Fails = subst (Moved c.args.compiled.now mid c.retry.new.path (resumed c.args.compiled.now mid c.in-Some.choice (Over Failed))) c.in-Fails.is c.in_ok-going.ensures.moved in
    record {
      well = m.well;
      low = omega (arith, m.low, c.loop-choice.invariant.low);
      width = m.width ∙ c.loop-choice.invariant.width;
      goes = λ left.
          popped_on c.args.compiled.now old mid c.in-Some.choice (was_last _ _ _ c.in-Some.ensures.items) refl c.args.path.now c.retry.new.path left (c.loop-choice.invariant.goes left) m;
    }

pub returns-in_default-2 : goal.returns-in_default-2
returns-in_default-2 c =
    let old : Path = c.loop-choice.path in
    record {
      moved = popped_moved c.args.compiled.now old (record old { choices = c.pop.new.self }) c.in-Some.choice (was_last _ _ _ c.in-Some.ensures.items) refl c.args.path.now c.retry.new.path (Over Failed) (search_at c.args.compiled.now c.args.path.now (Over Failed)) c.in_ok-going.going
          c.loop-choice.invariant.goes c.loop-choice.invariant.low c.loop-choice.invariant.width c.in_ok-going.ensures.moved;
      ended = λ e. absurd (c.in_default-2.not-Fails e);
    }

pub returns-clause-moved : goal.returns-clause-moved
returns-clause-moved c =
    let inv = c.loop-choice.invariant in
    same_choices c.args.compiled.now c.loop-choice.path c.pop.new.self (sym (c.in_default.ensures.items ∙ append-nil c.pop.new.self.items)) c.args.path.now (search_at c.args.compiled.now c.args.path.now (Over Failed)) inv.well inv.low inv.width inv.goes

pub returns-clause-ended : goal.returns-clause-ended
returns-clause-ended c e = no_items c.pop.new.self c.in_default.ensures.cases.1
