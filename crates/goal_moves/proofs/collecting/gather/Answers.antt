use Rattle.std.proofs.Common.{◌≡◌, ◌∙◌, ap}
use Rattle.builtin_model.specs.Lists.{list_tree}
use Rattle.goal_model.specs.Table.{copies}
use Rattle.goal_state.specs.Denotation.{naming, state_of, answers_of, first}
use Rattle.goal_state.specs.declared.path.Path.{Path}
use Rattle.pl_unify.proofs.StoreLaws.{Extends-trans}
use Rattle.goal_moves.proofs.GatherLaws.{gather_fails, gather_on, when_true, when_false}
use Rattle.goal_moves.proofs.collecting.gather.Goals as goal

pub returns-then-not-unified-clause-moved : goal.returns-then-not-unified-clause-moved
returns-then-not-unified-clause-moved c =
    let b = c.args.compiled.now in
    let p : Path = c.args.path.now in
    let q : Path = c.leave_search-answers.new.path in
    let e = c.leave_search-answers.ensures in
    let made = c.in_ok-found.ensures in
    let same : c.as_slice.result.now ≡ first (answers_of p) = c.as_slice.ensures.value ∙ e.answers in
    gather_fails b p q c.args.choice c.args.list c.requires.kind.0 c.requires.kind.1 c.requires.well.0 c.requires.well.1 e.state e.frames e.template e.gathered e.others c.list_of.new.store c.in_ok-found.found made.grows
    (made.tree ∙ ap (λ l. list_tree (naming b) (copies (state_of q).next l).0) same) c.unify.new.self
    (Extends-trans (state_of q) c.list_of.new.store.state c.unify.new.self.state made.grows.extends c.unify.ensures.only.extends) c.next_var-after.ensures.store
    (when_false _ _ c.in_ok-unified.unified c.if-not-unified.true c.in_ok-unified.ensures.answer) c.requires.depth

pub returns-clause-moved : goal.returns-clause-moved
returns-clause-moved c =
    let b = c.args.compiled.now in
    let p : Path = c.args.path.now in
    let q : Path = c.leave_search-answers.new.path in
    let e = c.leave_search-answers.ensures in
    let made = c.in_ok-found.ensures in
    let same : c.as_slice.result.now ≡ first (answers_of p) = c.as_slice.ensures.value ∙ e.answers in
    gather_on b p q c.args.choice c.args.list c.requires.kind.0 c.requires.kind.1 c.requires.well.0 c.requires.well.1 e.state e.frames e.template e.gathered e.others c.list_of.new.store c.in_ok-found.found made.grows
    (made.tree ∙ ap (λ l. list_tree (naming b) (copies (state_of q).next l).0) same) c.unify.new.self
    (when_true _ _ c.in_ok-unified.unified c.if-not-unified.false c.in_ok-unified.ensures.answer) c.next_var-before.ensures.store c.next_var-after.ensures.store (made.next ∙ ap (λ l. (copies (state_of q).next l).1) same)
    c.after-f.result.0 c.after-f.result.1 c.after-f.ensures.items c.requires.depth
