use Rattle.std.proofs.Common.{◌≡◌, ◌∙◌, ◌<◌, ap, sym, arith}
use Rattle.unifier_model.specs.Substitution.{occurs_any}
use Rattle.pl_unify.specs.declared.word.Word.TheVariants.{Var}
use Rattle.pl_unify.specs.State.{shape}
use Rattle.pl_unify.specs.Notes.{block}
use Rattle.pl_unify.proofs.Walk.{block-found, block-passed}
use Rattle.pl_unify.proofs.store.Store.look.Goals as goal
use Rattle.pl_unify.proofs.store.Store.look.Goals.{After-word_at, in-Var+else-n-m, in_default}

low : (c : After-word_at) → c.loop-k.k < c.args.count
low c = omega arith

pub returns-then-n-m : goal.returns-then-n-m
returns-then-n-m c =
    let at = (goal.at.returns-then-n-m c).After-word_at in
    block-found c.args.self.now.state c.args.n c.in-Var.m c.args.first c.args.count c.loop-k.k c.word_at.result (low at) c.requires c.word_at.ensures.shape c.in-Var.is c.if-n-m.true ∙ c.loop-k.invariant

pub loop-k-preserved : goal.loop-k-preserved
loop-k-preserved c =
    let at = (goal.at.loop-k-preserved c).After-word_at in
    let all = occurs_any c.args.n (block c.args.self.now.state c.args.first c.args.count) in
    elim c.match-word_at.branch [
      | in-Var+else-n-m w ↦ block-passed c.args.self.now.state c.args.n c.args.first c.args.count c.loop-k.k (Var w.in-Var.m) all (low at) c.requires (c.word_at.ensures.shape ∙ ap (shape c.args.self.now.state) w.in-Var.is)
          (λ m e same. let i : w.in-Var.m ≡ m = cc in w.if-n-m.false (same ∙ sym i)) (λ j f p e. cc) c.loop-k.invariant
      | in_default w ↦ block-passed c.args.self.now.state c.args.n c.args.first c.args.count c.loop-k.k c.word_at.result all (low at) c.requires c.word_at.ensures.shape
          (λ m e same. w.in_default.not-Var m e) w.in_default.not-Comp c.loop-k.invariant
    ]
