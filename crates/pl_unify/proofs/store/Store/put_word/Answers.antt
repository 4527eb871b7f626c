use Rattle.std.proofs.Common.{[], ◌∷◌, ◌≡◌, ap, sym, subst}
use Rattle.std.proofs.lemmas.List.{append-nil}
use Rattle.pl_unify.specs.State.{Stored, IsStore}
use Rattle.pl_unify.proofs.Fields.{fields-grown}
use Rattle.pl_unify.proofs.Follow.{inside}
use Rattle.pl_unify.proofs.Adds.{with_more}
use Rattle.pl_unify.proofs.Loading.{BlockMade, block_made}
use Rattle.pl_unify.proofs.store.Store.put_word.Goals as goal
use Rattle.pl_unify.proofs.store.Store.put_word.Goals.{After-put}

now : (c : After-put) → c.args.self.now.state ≡ inside c.self.inside.cells.items c.self.inside.vars.items c.self.inside.trail.items
now c = ap (λ (v : Stored). v.state) (sym c.self.view_is)

after : (c : After-put) → inside c.put.new.list.items c.self.inside.vars.items c.self.inside.trail.items ≡ with_more c.args.self.now.state (c.args.word ∷ []) c.args.self.now.state.next
after c = rw (now c, c.put.ensures.items)

made : (c : After-put) → BlockMade c.args.self.now.state (inside c.put.new.list.items c.self.inside.vars.items c.self.inside.trail.items) (c.args.word ∷ []) 1
made c =
    let st : IsStore c.args.self.now.state = rw (now c) c.self.invariant.inside.store in
    subst (λ s. BlockMade c.args.self.now.state s (c.args.word ∷ []) 1) (sym (after c))
    (block_made c.args.self.now.state (c.args.word ∷ []) 1 st (c.requires.within, tt))

pub invariant_of-self : goal.invariant_of-self
invariant_of-self c =
    fields-grown c.self.inside.cells.items c.self.inside.vars.items c.self.inside.trail.items c.self.inside.ground.items c.self.inside.noted.items _ c.self.inside.vars.items (c.args.word ∷ []) [] c.self.invariant
    c.put.ensures.items (sym (append-nil c.self.inside.vars.items)) (record { store = (made c).store; free = c.self.invariant.inside.free })

pub returns-clause-grows : goal.returns-clause-grows
returns-clause-grows c = (made c).grows

pub returns-clause-base : goal.returns-clause-base
returns-clause-base c = (made c).bases
