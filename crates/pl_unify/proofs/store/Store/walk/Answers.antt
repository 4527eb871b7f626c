use Rattle.std.proofs.Common.{◌≡◌, ℕ, ◌<◌, ◌∙◌, ◌∷◌, Bool, ap, sym, subst, reverse, length}
use Rattle.unifier_model.specs.Substitution.{occurs_any}
use Rattle.pl_unify.specs.declared.word.Word.TheVariants as W
use Rattle.pl_unify.specs.declared.store.notes.Step.TheVariants.{Visit, Done}
use Rattle.pl_unify.specs.Prefix.{trees}
use Rattle.pl_unify.specs.Words.{WordIn}
use Rattle.pl_unify.specs.State.{State, tree_at, shape}
use Rattle.pl_unify.specs.Notes.{visit_trees, Entered, ClearBlock, IsPassed}
use Rattle.pl_unify.proofs.Grounds.{Walking, walk_var, walk_plain, walk_passed, walk_entered, walk_done, reverse-step, step_weight}
use Rattle.pl_unify.proofs.store.Store.walk.Goals as goal
use Rattle.pl_unify.proofs.store.Store.walk.Goals.{After-word_at}

abbrev all : After-word_at → Bool
all c = occurs_any c.args.n (trees (visit_trees c.args.self.now.state (reverse c.args.work.now.items)))

front : (c : After-word_at) → reverse c.steps.work.items ≡ Visit c.in-Visit.place ∷ reverse c.pop.new.self.items
front c = ap reverse c.in-Some.ensures.items ∙ (reverse-step c.pop.new.self.items c.in-Some.step ∙ ap (λ x. x ∷ reverse c.pop.new.self.items) c.in-Visit.is)

visit : (c : After-word_at) → Walking c.args.self.now.state c.args.n c.steps.met (Visit c.in-Visit.place ∷ reverse c.pop.new.self.items) (all c)
visit c = subst (λ es. Walking c.args.self.now.state c.args.n c.steps.met es (all c)) (front c) c.steps.invariant.walking

root : (c : After-word_at) → tree_at c.args.self.now.state (record { 0 = c.in-Visit.place }) ≡ shape c.args.self.now.state c.word_at.result
root c = subst (λ (s : State). tree_at s (record { 0 = c.in-Visit.place }) ≡ shape s c.word_at.result) c.steps.invariant.same c.word_at.ensures.shape

pub steps-preserved-in-Var-2 : goal.steps-preserved-in-Var-2
steps-preserved-in-Var-2 c =
    let at = (goal.at.steps-preserved-in-Var-2 c).After-word_at in
    record {
      same = c.steps.invariant.same;
      walking = subst (λ k. Walking c.args.self.now.state c.args.n k (reverse c.pop.new.self.items) (all at)) (sym c.in_ok-met-in-Var-2.ensures)
          (walk_var c.args.self.now.state c.args.n c.steps.met (reverse c.pop.new.self.items) (all at) c.in-Visit.place c.word_at.result (visit at) (root at) c.in-Var.m c.in-Var.is c.if-n-m.false);
      passed = c.steps.invariant.passed;
    }

pub steps-smaller-in-Continue-branch-3 : goal.steps-smaller-in-Continue-branch-3
steps-smaller-in-Continue-branch-3 c =
    let at = (goal.at.steps-smaller-in-Continue-branch-3 c).After-word_at in
    let less = (walk_entered c.args.self.now.state c.args.n c.steps.met (all at) c.in-Visit.place c.word_at.result c.pop.new.self.items c.enter.new.work.items (visit at) (root at) c.in-Comp.arity c.in-Comp.first c.in-Comp.field-1 c.in-Comp.is
    (subst (λ (s : State). WordIn (length s.cells) s.next (W.Comp c.in-Comp.arity c.in-Comp.field-1 c.in-Comp.first)) c.steps.invariant.same c.in-Comp.ensures.within).0
    (subst (λ (s : State). Entered s c.in-Comp.first c.in-Comp.arity c.steps.met c.pop.new.self.items c.enter.new.work.items) c.steps.invariant.same c.in_ok-enter-in-Comp.ensures)).1 in
    subst (λ es. step_weight c.args.self.now.state (reverse c.enter.new.work.items) < step_weight c.args.self.now.state es) (sym (front at)) less

pub steps-preserved-in-Continue-branch-3 : goal.steps-preserved-in-Continue-branch-3
steps-preserved-in-Continue-branch-3 c =
    let at = (goal.at.steps-preserved-in-Continue-branch-3 c).After-word_at in
    record {
      same = c.steps.invariant.same;
      walking = (walk_entered c.args.self.now.state c.args.n c.steps.met (all at) c.in-Visit.place c.word_at.result c.pop.new.self.items c.enter.new.work.items (visit at) (root at) c.in-Comp.arity c.in-Comp.first c.in-Comp.field-1 c.in-Comp.is
          (subst (λ (s : State). WordIn (length s.cells) s.next (W.Comp c.in-Comp.arity c.in-Comp.field-1 c.in-Comp.first)) c.steps.invariant.same c.in-Comp.ensures.within).0
          (subst (λ (s : State). Entered s c.in-Comp.first c.in-Comp.arity c.steps.met c.pop.new.self.items c.enter.new.work.items) c.steps.invariant.same c.in_ok-enter-in-Comp.ensures)).0;
      passed = c.steps.invariant.passed;
    }

pub steps-preserved-in_default-word_at : goal.steps-preserved-in_default-word_at
steps-preserved-in_default-word_at c =
    let at = (goal.at.steps-preserved-in_default-word_at c).After-word_at in
    record {
      same = c.steps.invariant.same;
      walking = walk_plain c.args.self.now.state c.args.n c.steps.met (reverse c.pop.new.self.items) (all at) c.in-Visit.place c.word_at.result (visit at) (root at) c.in_default-word_at.not-Var c.in_default-word_at.not-Comp;
      passed = c.steps.invariant.passed;
    }

pub steps-preserved-then-is_passed : goal.steps-preserved-then-is_passed
steps-preserved-then-is_passed c =
    let at = (goal.at.steps-preserved-then-is_passed c).After-word_at in
    record {
      same = c.steps.invariant.same;
      walking = subst (λ k. Walking c.args.self.now.state c.args.n k (reverse c.pop.new.self.items) (all at)) (sym c.in_ok-met-in-Comp.ensures)
          (walk_passed c.args.self.now.state c.args.n c.steps.met (reverse c.pop.new.self.items) (all at) c.in-Visit.place c.word_at.result (visit at) (root at) c.in-Comp.arity c.in-Comp.first c.in-Comp.field-1 c.in-Comp.is
          (subst (λ (s : State). WordIn (length s.cells) s.next (W.Comp c.in-Comp.arity c.in-Comp.field-1 c.in-Comp.first)) c.steps.invariant.same c.in-Comp.ensures.within).0
          (subst (λ (s : State). (n : ℕ) → IsPassed s n c.steps.passed.items → ClearBlock s n c.in-Comp.first c.in-Comp.arity) c.steps.invariant.same (c.is_passed.ensures c.if-is_passed.true) c.args.n c.steps.invariant.passed));
      passed = c.steps.invariant.passed;
    }

pub steps-preserved : goal.steps-preserved
steps-preserved c =
    let s : State = c.args.self.now.state in
    let whole : Bool = occurs_any c.args.n (trees (visit_trees s (reverse c.args.work.now.items))) in
    let top : reverse c.steps.work.items ≡ Done c.in-Done-2.first c.in-Done-2.arity c.in-Done-2.field-2 ∷ reverse c.pop.new.self.items =
    ap reverse c.in-Some.ensures.items ∙ (reverse-step c.pop.new.self.items c.in-Some.step ∙ ap (λ x. x ∷ reverse c.pop.new.self.items) c.in-Done-2.is) in
    let done = walk_done s c.args.n c.steps.met (reverse c.pop.new.self.items) whole c.in-Done-2.first c.in-Done-2.arity c.in-Done-2.field-2 (subst (λ es. Walking s c.args.n c.steps.met es whole) top c.steps.invariant.walking) in
    record {
      same = c.steps.invariant.same;
      walking = done.0;
      passed = subst (λ (x : State). (n : ℕ) → ClearBlock x n c.in-Done-2.first c.in-Done-2.arity → IsPassed x n c.steps.passed.items → IsPassed x n c.pass.new.passed.items) c.steps.invariant.same c.pass.ensures c.args.n done.3 c.steps.invariant.passed;
    }
