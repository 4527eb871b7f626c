use Rattle.std.proofs.Common.{◌+◌}
use Rattle.pl_unify.specs.State.{tree_at}
use Rattle.pl_unify.specs.Steps.{Unified}
use Rattle.pl_unify.proofs.StoreLaws.{Extends-trans}
use Rattle.goal_model.specs.Table.{variable_count}
use Rattle.goal_state.specs.Denotation.{naming, state_of}
use Rattle.goal_state.specs.declared.path.Path.{Path}
use Rattle.goal_moves.proofs.GatherLaws.{when_true, when_false}
use Rattle.goal_moves.proofs.RetryLaws.{IfOk-then}
use Rattle.goal_moves.proofs.UnderLaws.{tree_under, path_under}
use Rattle.goal_moves.proofs.CatchLaws.{back_well, recovery_fits, not_caught, handed, recovery_base}
use Rattle.goal_moves.proofs.raising.catch.Goals as goal

pub returns-then-not-unified : goal.returns-then-not-unified
returns-then-not-unified c =
    let q : Path = c.go_back.new.self in
    let e = c.go_back.ensures in
    let made = c.in_ok-copy.ensures in
    not_caught c.args.compiled.now c.args.path.now q c.args.choice c.args.name c.args.catcher c.args.recovery c.requires.kind c.requires.well e.state e.frames e.others c.args.ball.now c.copy_of.new.store c.in_ok-copy.copy made.grows made.tree
    c.unify.new.self (Extends-trans (state_of q) c.copy_of.new.store.state c.unify.new.self.state made.grows.extends c.unify.ensures.only.extends) c.next_var-after.ensures.store
    (when_false _ _ c.in_ok-unified.unified c.if-not-unified.true c.in_ok-unified.ensures.answer) c.args.at c.args.next c.requires.leads c.if-choice-next.false

pub recover-requires-clause-base : goal.recover-requires-clause-base
recover-requires-clause-base c =
    let b = c.args.compiled.now in
    let p : Path = c.args.path.now in
    let q : Path = c.go_back.new.self in
    let e = c.go_back.ensures in
    let made = c.in_ok-copy.ensures in
    let is = c.requires.kind in
    let well = back_well b p q c.args.choice c.args.name c.args.catcher c.args.recovery is c.requires.well e.state e.frames e.others in
    let fits = recovery_fits b p q c.args.choice c.args.name c.args.catcher c.args.recovery is c.requires.well e.state e.frames e.others in
    let un : Unified c.copy_of.new.store.state c.unify.new.self.state c.in_ok-copy.copy c.args.catcher = when_true _ _ c.in_ok-unified.unified c.if-not-unified.false c.in_ok-unified.ensures.answer in
    let under = path_under b q c.args.choice.depth well c.copy_of.new.store c.unify.new.self c.goal_of.new.store made.grows c.in_ok-copy.copy c.args.catcher un c.goal_of.ensures.grows c.next_var-before.ensures.store c.next_var-after.ensures.store c.next_var-next.ensures.store
    ((state_of q).next + variable_count c.args.ball.now) made.next c.goal_of.ensures.next in
    let replaced = tree_under b q c.args.choice.depth well c.copy_of.new.store c.unify.new.self c.goal_of.new.store made.grows c.in_ok-copy.copy c.args.catcher un c.goal_of.ensures.grows c.next_var-before.ensures.store c.next_var-after.ensures.store c.next_var-next.ensures.store
    ((state_of q).next + variable_count c.args.ball.now) made.next c.goal_of.ensures.next c.args.recovery fits in
    recovery_base b p q c.args.choice c.args.name c.args.catcher c.args.recovery is c.requires.well e.state e.frames e.others c.args.ball.now c.copy_of.new.store c.in_ok-copy.copy made.grows made.tree
    un.unifier un.solved (tree_at c.unify.new.self.state c.args.recovery) replaced c.goal_of.new.store under

pub returns : goal.returns
returns c =
    let b = c.args.compiled.now in
    let p : Path = c.args.path.now in
    let q : Path = c.go_back.new.self in
    let e = c.go_back.ensures in
    let made = c.in_ok-copy.ensures in
    let is = c.requires.kind in
    let well = back_well b p q c.args.choice c.args.name c.args.catcher c.args.recovery is c.requires.well e.state e.frames e.others in
    let fits = recovery_fits b p q c.args.choice c.args.name c.args.catcher c.args.recovery is c.requires.well e.state e.frames e.others in
    let un : Unified c.copy_of.new.store.state c.unify.new.self.state c.in_ok-copy.copy c.args.catcher = when_true _ _ c.in_ok-unified.unified c.if-not-unified.false c.in_ok-unified.ensures.answer in
    let under = path_under b q c.args.choice.depth well c.copy_of.new.store c.unify.new.self c.goal_of.new.store made.grows c.in_ok-copy.copy c.args.catcher un c.goal_of.ensures.grows c.next_var-before.ensures.store c.next_var-after.ensures.store c.next_var-next.ensures.store
    ((state_of q).next + variable_count c.args.ball.now) made.next c.goal_of.ensures.next in
    let replaced = tree_under b q c.args.choice.depth well c.copy_of.new.store c.unify.new.self c.goal_of.new.store made.grows c.in_ok-copy.copy c.args.catcher un c.goal_of.ensures.grows c.next_var-before.ensures.store c.next_var-after.ensures.store c.next_var-next.ensures.store
    ((state_of q).next + variable_count c.args.ball.now) made.next c.goal_of.ensures.next c.args.recovery fits in
    IfOk-then c.recover.result c.recover.ensures (λ r h.
    handed b p q c.args.choice c.args.name c.args.catcher c.args.recovery is c.requires.well e.state e.frames e.others c.args.ball.now c.copy_of.new.store c.in_ok-copy.copy made.grows made.tree
    un.unifier un.solved (tree_at c.unify.new.self.state c.args.recovery) replaced c.goal_of.new.store under
    c.in_ok-called.called c.recover.new.path c.args.at r (c.in_ok-called.ensures.goal (naming b) c.requires.compiled.constructs) c.requires.active h)
