use Rattle.std.proofs.Common.{◌≡◌, ℕ, ap, ◌<◌, length, sym, subst, false}
use Rattle.unifier_model.specs.Substitution.{occurs}
use Rattle.pl_unify.specs.declared.word.Word.{Word}
use Rattle.pl_unify.specs.declared.word.Word.TheVariants.{Var}
use Rattle.pl_unify.specs.Words.{IsFree, WordIn, link}
use Rattle.pl_unify.proofs.Fields.{fields-bound}
use Rattle.pl_unify.specs.State.{State, Stored, tree_of_word}
use Rattle.pl_unify.proofs.Follow.{inside}
use Rattle.pl_unify.proofs.Bound.{attach-inside, attach-binds, attach-links}
use Rattle.pl_unify.proofs.store.Store.attach.Goals as goal
use Rattle.pl_unify.proofs.store.Store.attach.Goals.{After-put}

record Asked (s : State) (n : ℕ) (w : Word) : Type 0 where
  number : n < s.next
  free : IsFree n s.links
  within : WordIn (length s.cells) s.next w
  ahead : (m : ℕ) → w ≡ Var m → IsFree m s.links
  absent : occurs n (tree_of_word s w) ≡ false

asked : (c : After-put) → Asked (inside c.self.inside.cells.items c.self.inside.vars.items c.self.inside.trail.items) c.args.n c.args.word
asked c =
    let same : c.args.self.now.state ≡ inside c.self.inside.cells.items c.self.inside.vars.items c.self.inside.trail.items = ap (λ (v : Stored). v.state) (sym c.self.view_is) in
    subst (λ s. Asked s c.args.n c.args.word) same (record { number = c.requires.number; free = c.requires.free; within = c.requires.within; ahead = c.requires.ahead; absent = c.requires.absent })

pub invariant_of-self : goal.invariant_of-self
invariant_of-self c =
    let r = asked c in
    rw c.put.ensures.items (fields-bound c.self.inside.cells.items c.self.inside.vars.items _ c.self.inside.trail.items _ c.self.inside.ground.items c.self.inside.noted.items (link c.args.n c.args.word) c.self.invariant
    (attach-links _ _ _ c.args.n c.args.word c.self.invariant.inside r.number r.free r.within r.ahead r.absent)
    (attach-inside _ _ _ c.args.n c.args.word c.self.invariant.inside r.number r.free r.within r.ahead r.absent))

pub returns-clause-binds : goal.returns-clause-binds
returns-clause-binds c =
    let r = asked c in
    rw (← c.self.view_is) (rw c.put.ensures.items (attach-binds _ _ _ c.args.n c.args.word c.self.invariant.inside r.number r.free r.within r.ahead r.absent))

pub returns-clause-links : goal.returns-clause-links
returns-clause-links c =
    let r = asked c in
    rw (← c.self.view_is) (rw c.put.ensures.items (attach-links _ _ _ c.args.n c.args.word c.self.invariant.inside r.number r.free r.within r.ahead r.absent))
