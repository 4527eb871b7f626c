use Rattle.pl_builtin_ends.proofs.Ends.{match_true, match_false, two_unified, second_failed, first_failed}
use Rattle.pl_builtin_ends.proofs.unification.unify_two.Goals as goal

pub returns-then-branch-2-clause-done : goal.returns-then-branch-2-clause-done
returns-then-branch-2-clause-done c =
    two_unified c.args.store.now.state c.unify.new.self.state c.unify-then-branch.new.self.state c.args.left c.args.right c.args.second_left c.args.second_right
    (match_true c.in_ok-unify.field-0 _ _ c.if-branch.true c.in_ok-unify.ensures.answer) (match_true c.in_ok-unify-2.field-0 _ _ c.if-branch-2.true c.in_ok-unify-2.ensures.answer)

pub returns-else-branch-2-clause-done : goal.returns-else-branch-2-clause-done
returns-else-branch-2-clause-done c =
    second_failed c.args.store.now.state c.unify.new.self.state c.args.left c.args.right c.args.second_left c.args.second_right
    (match_true c.in_ok-unify.field-0 _ _ c.if-branch.true c.in_ok-unify.ensures.answer) (match_false c.in_ok-unify-2.field-0 _ _ c.if-branch-2.false c.in_ok-unify-2.ensures.answer)

pub returns-else-branch-clause-done : goal.returns-else-branch-clause-done
returns-else-branch-clause-done c =
    first_failed c.args.store.now.state c.args.left c.args.right c.args.second_left c.args.second_right (match_false c.in_ok-unify.field-0 _ _ c.if-branch.false c.in_ok-unify.ensures.answer)
