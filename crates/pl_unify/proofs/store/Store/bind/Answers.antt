use Rattle.std.proofs.Common.{◌≡◌, ◌∙◌, sym, ap, subst}
use Rattle.pl_unify.specs.Shape.{number_of}
use Rattle.pl_unify.specs.State.{tree_of_word, tree_at, Binds}
use Rattle.pl_unify.proofs.Shapes.{tree_of_word-shape}
use Rattle.pl_unify.proofs.store.Store.bind.Goals as goal
use Rattle.pl_unify.proofs.store.Store.bind.Goals.{After-word_at-word}

to_tree : (c : After-word_at-word) → tree_of_word c.args.self.now.state c.word_at-word.result ≡ tree_at c.args.self.now.state c.args.to
to_tree c = tree_of_word-shape c.args.self.now.state c.word_at-word.result c.word_at-word.ensures.free ∙ sym c.word_at-word.ensures.shape

number : (c : After-word_at-word) → number_of (tree_at c.args.self.now.state c.args.var) ≡ c.in-Var.n
number c = ap number_of c.in-Var.ensures.shape

pub attach-requires-clause-absent : goal.attach-requires-clause-absent
attach-requires-clause-absent c =
    let c' : After-word_at-word = (goal.at.attach-requires-clause-absent c).After-word_at-word in
    rw (to_tree c', ← number c') c.requires.absent

pub returns-clause-binds : goal.returns-clause-binds
returns-clause-binds c =
    let c' : After-word_at-word = (goal.at.returns-clause-binds c).After-word_at-word in
    subst (λ t. Binds c.args.self.now.state c.attach.new.self.state (number_of (tree_at c.args.self.now.state c.args.var)) t) (to_tree c')
    (subst (λ n. Binds c.args.self.now.state c.attach.new.self.state n (tree_of_word c.args.self.now.state c.word_at-word.result)) (sym (number c')) c.attach.ensures.binds)
