use Rattle.std.proofs.Common.{◌≡◌, ◌∙◌, arith, subst, sym}
use Rattle.solver_model.proofs.TurnLaws.{turns_then}
use Rattle.pl_unify.specs.State.{tree_at}
use Rattle.goal_model.specs.Choices.{key_of}
use Rattle.pl_store.specs.Linked.{key_view}
use Rattle.goal_state.specs.Denotation.{language_of}
use Rattle.goal_moves.specs.declared.going.Going.TheVariants.{On, Fails}
use Rattle.goal_moves.specs.Clauses.{WasSkipped, WasTried, TriedLeaves}
use Rattle.goal_moves.specs.Moves.{tried, Moved}
use Rattle.goal_moves.proofs.AfterLaws.{moved_after}
use Rattle.goal_moves.proofs.UntriedClauses.{leaves_after}
use Rattle.goal_moves.proofs.procedures.try_from.Goals as goal

pub loop-next-preserved : goal.loop-next-preserved
loop-next-preserved c =
    let h : WasSkipped c.args.compiled.now c.loop-next.path c.try_clause.new.path c.args.attempt.now c.loop-next.clause.0 c.in-Next.next.0
    = subst (WasTried c.args.compiled.now c.loop-next.path c.try_clause.new.path c.args.attempt.now c.loop-next.clause.0) c.in-Next.is c.in_ok-try_clause.ensures.moved in
    record {
      trying = h.trying;
      state = h.state ∙ c.loop-next.invariant.state;
      choices = h.choices ∙ c.loop-next.invariant.choices;
      depth = h.depth ∙ c.loop-next.invariant.depth;
      width = h.width ∙ c.loop-next.invariant.width;
      behind = c.loop-next.invariant.behind ∙ subst (TriedLeaves c.args.compiled.now c.loop-next.path c.try_clause.new.path c.args.attempt.now c.loop-next.clause.0) c.in-Next.is c.in_ok-try_clause.ensures.untried;
      goes = λ left.
          turns_then (language_of c.args.compiled.now) (tried c.args.compiled.now c.args.path.now c.args.attempt.now c.args.first.0 left) (tried c.args.compiled.now c.loop-next.path c.args.attempt.now c.loop-next.clause.0 left) (tried c.args.compiled.now c.try_clause.new.path c.args.attempt.now c.in-Next.next.0 left)
          (c.loop-next.invariant.goes left) (h.goes left);
    }

pub returns-in-Taken-clause-moved : goal.returns-in-Taken-clause-moved
returns-in-Taken-clause-moved c =
    moved_after c.args.compiled.now c.args.path.now c.loop-next.path c.try_clause.new.path (tried c.args.compiled.now c.args.path.now c.args.attempt.now c.args.first.0) (tried c.args.compiled.now c.loop-next.path c.args.attempt.now c.loop-next.clause.0) On
    (omega (arith, c.loop-next.invariant.depth)) c.loop-next.invariant.width c.loop-next.invariant.goes
    (subst (WasTried c.args.compiled.now c.loop-next.path c.try_clause.new.path c.args.attempt.now c.loop-next.clause.0) c.in-Taken.is c.in_ok-try_clause.ensures.moved)

pub returns-in-Gone-clause-moved : goal.returns-in-Gone-clause-moved
returns-in-Gone-clause-moved c =
    let h : Moved c.args.compiled.now c.loop-next.path c.try_clause.new.path (tried c.args.compiled.now c.loop-next.path c.args.attempt.now c.loop-next.clause.0) Fails × (c.try_clause.new.path.choices ≡ c.loop-next.path.choices)
    = subst (WasTried c.args.compiled.now c.loop-next.path c.try_clause.new.path c.args.attempt.now c.loop-next.clause.0) c.in-Gone.is c.in_ok-try_clause.ensures.moved in
    moved_after c.args.compiled.now c.args.path.now c.loop-next.path c.try_clause.new.path (tried c.args.compiled.now c.args.path.now c.args.attempt.now c.args.first.0) (tried c.args.compiled.now c.loop-next.path c.args.attempt.now c.loop-next.clause.0) Fails
    (omega (arith, c.loop-next.invariant.depth)) c.loop-next.invariant.width c.loop-next.invariant.goes h.0

pub try_clause-requires-clause-key : goal.try_clause-requires-clause-key
try_clause-requires-clause-key c =
    subst (λ s. key_view c.args.key ≡ key_of (tree_at s c.args.attempt.now.goal)) (sym c.loop-next.invariant.state) c.requires.key

pub returns-in-Taken-clause-untried : goal.returns-in-Taken-clause-untried
returns-in-Taken-clause-untried c =
    leaves_after c.args.compiled.now c.args.path.now c.loop-next.path c.try_clause.new.path c.args.attempt.now c.args.first.0 c.loop-next.clause.0 c.loop-next.invariant.choices c.loop-next.invariant.behind
    (subst (TriedLeaves c.args.compiled.now c.loop-next.path c.try_clause.new.path c.args.attempt.now c.loop-next.clause.0) c.in-Taken.is c.in_ok-try_clause.ensures.untried)

pub returns-in-Gone-clause-untried : goal.returns-in-Gone-clause-untried
returns-in-Gone-clause-untried c =
    leaves_after c.args.compiled.now c.args.path.now c.loop-next.path c.try_clause.new.path c.args.attempt.now c.args.first.0 c.loop-next.clause.0 c.loop-next.invariant.choices c.loop-next.invariant.behind
    (subst (TriedLeaves c.args.compiled.now c.loop-next.path c.try_clause.new.path c.args.attempt.now c.loop-next.clause.0) c.in-Gone.is c.in_ok-try_clause.ensures.untried)
