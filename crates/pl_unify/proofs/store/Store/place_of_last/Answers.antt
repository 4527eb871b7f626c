use Rattle.pl_unify.proofs.Fields.{fields-grown}
use Rattle.std.proofs.lemmas.List.{append-nil, length-reverse}
use Rattle.std.proofs.Common.{[], ◌≡◌, ◌∙◌, ◌++◌, ap, sym, subst, reverse, take, length, rules, arith}
use Rattle.pl_unify.specs.State.{Stored, IsStore}
use Rattle.pl_unify.proofs.Follow.{inside}
use Rattle.pl_unify.proofs.Adds.{with_more}
use Rattle.pl_unify.proofs.Loading.{BlockMade, block_made, PlaceMade, place_made}
use Rattle.pl_unify.proofs.store.Store.place_of_last.Goals as goal
use Rattle.pl_unify.proofs.store.Store.place_of_last.Goals.{After-move_words}

now : (c : After-move_words) → c.args.self.now.state ≡ inside c.self.inside.cells.items c.self.inside.vars.items c.self.inside.trail.items
now c = ap (λ (v : Stored). v.state) (sym c.self.view_is)

after : (c : After-move_words) → inside c.move_words.new.cells.items c.self.inside.vars.items c.self.inside.trail.items ≡ with_more c.args.self.now.state (take 1 (reverse c.args.words.now.items)) c.args.self.now.state.next
after c = rw (now c, c.move_words.ensures.cells, c.in_ok-make_room.ensures.items)

made : (c : After-move_words) → BlockMade c.args.self.now.state (inside c.move_words.new.cells.items c.self.inside.vars.items c.self.inside.trail.items) (reverse c.args.words.now.items) 1
made c =
    let st : IsStore c.args.self.now.state = rw (now c) c.self.invariant.inside.store in
    subst (λ s. BlockMade c.args.self.now.state s (reverse c.args.words.now.items) 1) (sym (after c))
    (block_made c.args.self.now.state (reverse c.args.words.now.items) 1 st c.requires.words)

pub invariant_of-self-2 : goal.invariant_of-self-2
invariant_of-self-2 c =
    fields-grown c.self.inside.cells.items c.self.inside.vars.items c.self.inside.trail.items c.self.inside.ground.items c.self.inside.noted.items _ c.self.inside.vars.items (take 1 (reverse c.args.words.now.items)) [] c.self.invariant
    (c.move_words.ensures.cells ∙ ap (λ cs. cs ++ take 1 (reverse c.args.words.now.items)) c.in_ok-make_room.ensures.items) (sym (append-nil c.self.inside.vars.items)) (record { store = (made c).store; free = c.self.invariant.inside.free })

pub returns-clause-grows : goal.returns-clause-grows
returns-clause-grows c = (made c).grows

pub returns-clause-tree : goal.returns-clause-tree
returns-clause-tree c =
    let st : IsStore c.args.self.now.state = rw (now c) c.self.invariant.inside.store in
    let place : c.len-at.result ≡ length c.args.self.now.state.cells = rw (now c) (search rules) in
    let p : PlaceMade c.args.self.now.state (inside c.move_words.new.cells.items c.self.inside.vars.items c.self.inside.trail.items) (reverse c.args.words.now.items) =
    subst (λ s. PlaceMade c.args.self.now.state s (reverse c.args.words.now.items)) (sym (after c))
    (place_made c.args.self.now.state (reverse c.args.words.now.items) st c.requires.words (omega (arith, length-reverse c.args.words.now.items))) in
    rw place p.tree
