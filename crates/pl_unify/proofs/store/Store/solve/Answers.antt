use Rattle.std.proofs.Common.{◌≡◌, ◌∙◌, ◌++◌, ◌∷◌, [], ap, sym, subst, false}
use Rattle.unifier_model.specs.Substitution.{occurs}
use Rattle.pl_unify.specs.State.{State, Binds, tree_of_word}
use Rattle.pl_unify.specs.Words.{link}
use Rattle.pl_unify.specs.Steps.{BindStep, IsStep, equations}
use Rattle.pl_unify.proofs.Unifying.{progress_start, progress_bind, progress_done, unbound-push}
use Rattle.pl_unify.proofs.store.Store.solve.Goals as goal
use Rattle.pl_unify.proofs.store.Store.solve.Goals.{After-attach}

pub turns-init : goal.turns-init
turns-init c = progress_start c.args.self.now.state c.args.work.now.items c.requires

pub returns-in-Done-clause-answer : goal.returns-in-Done-clause-answer
returns-in-Done-clause-answer c =
    progress_done c.args.self.now.state c.turns.self.state (equations c.args.self.now.state c.args.work.now.items) c.turns.work.items c.turns.invariant
    (subst (IsStep c.turns.self.state c.turns.work.items c.next_binding.new.work.items) c.in-Done.is c.in_ok-next_binding.ensures)

step : (c : After-attach) → BindStep c.turns.self.state c.turns.work.items c.next_binding.new.work.items c.in-Bind.n c.in-Bind.word
step c = subst (IsStep c.turns.self.state c.turns.work.items c.next_binding.new.work.items) c.in-Bind.is c.in_ok-next_binding.ensures

bind : (c : After-attach) → Binds c.turns.self.state c.attach.new.self.state c.in-Bind.n (tree_of_word c.turns.self.state c.in-Bind.word)
bind c = subst (λ s. Binds s c.attach.new.self.state c.in-Bind.n (tree_of_word s c.in-Bind.word)) (c.in_ok-reserve_binding-in-Bind.ensures.state ∙ c.occurs.ensures.state) c.attach.ensures.binds

pub turns-smaller : goal.turns-smaller
turns-smaller c =
    let s : State = c.turns.self.state in
    let links : c.attach.new.self.state.links ≡ s.links ++ link c.in-Bind.n c.in-Bind.word ∷ [] = c.attach.ensures.links ∙ ap (λ (x : State). x.links ++ link c.in-Bind.n c.in-Bind.word ∷ []) (c.in_ok-reserve_binding-in-Bind.ensures.state ∙ c.occurs.ensures.state) in
    rw (links, (bind c).next) (unbound-push s.next s.links (link c.in-Bind.n c.in-Bind.word) (step c).number (step c).free)

pub turns-preserved : goal.turns-preserved
turns-preserved c =
    let absent : occurs c.in-Bind.n (tree_of_word c.turns.self.state c.in-Bind.word) ≡ false = sym c.in_ok-occurs-in-Bind.ensures.answer ∙ c.if-branch.false in
    progress_bind c.args.self.now.state c.turns.self.state c.attach.new.self.state (equations c.args.self.now.state c.args.work.now.items) c.turns.work.items c.next_binding.new.work.items c.in-Bind.n c.in-Bind.word
    c.turns.invariant (step c) absent (bind c)
