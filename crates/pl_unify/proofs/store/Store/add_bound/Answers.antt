use Rattle.std.proofs.Common.{◌≡◌, ℕ, ◌++◌, ◌∷◌, [], ap, sym, subst, length, rules}
use Rattle.pl_unify.specs.declared.word.Word.{Word}
use Rattle.pl_unify.specs.declared.word.Word.TheVariants.{Var}
use Rattle.pl_unify.specs.Words.{IsFree, WordIn, link}
use Rattle.pl_unify.proofs.Fields.{fields-bound}
use Rattle.pl_unify.specs.State.{State, Stored}
use Rattle.pl_unify.proofs.Follow.{inside}
use Rattle.pl_unify.proofs.Building.{BornMade, born_made}
use Rattle.pl_unify.proofs.store.Store.add_bound.Goals as goal
use Rattle.pl_unify.proofs.store.Store.add_bound.Goals.{After-put-2}

vars : (c : After-put-2) → c.put.new.list.items ≡ c.self.inside.vars.items ++ c.args.word ∷ []
vars c = rw (c.put.ensures.items, c.in_ok-make_room.ensures.items)

trail : (c : After-put-2) → c.put-2.new.list.items ≡ c.self.inside.trail.items ++ length c.self.inside.vars.items ∷ []
trail c =
    let number : c.len-n.result ≡ length c.self.inside.vars.items = search rules in
    rw (c.put-2.ensures.items, c.in_ok-make_room-2.ensures.items, number)

record Asked (s : State) (w : Word) : Type 0 where
  within : WordIn (length s.cells) s.next w
  ahead : (m : ℕ) → w ≡ Var m → IsFree m s.links

made : (c : After-put-2) → BornMade c.self.inside.cells.items c.self.inside.vars.items c.self.inside.trail.items c.args.word
made c =
    let same : c.args.self.now.state ≡ inside c.self.inside.cells.items c.self.inside.vars.items c.self.inside.trail.items = ap (λ (v : Stored). v.state) (sym c.self.view_is) in
    let r : Asked (inside c.self.inside.cells.items c.self.inside.vars.items c.self.inside.trail.items) c.args.word = subst (λ s. Asked s c.args.word) same (record { within = c.requires.within; ahead = c.requires.ahead }) in
    born_made c.self.inside.cells.items c.self.inside.vars.items c.self.inside.trail.items c.args.word c.self.invariant.inside r.within r.ahead

pub invariant_of-self-2 : goal.invariant_of-self-2
invariant_of-self-2 c =
    rw (vars c, trail c) (fields-bound c.self.inside.cells.items c.self.inside.vars.items _ c.self.inside.trail.items _ c.self.inside.ground.items c.self.inside.noted.items (link (length c.self.inside.vars.items) c.args.word) c.self.invariant (made c).links (made c).fields)

pub returns-clause-ok : goal.returns-clause-ok
returns-clause-ok c = rw (← c.self.view_is) (rw (vars c, trail c) (made c).born)
