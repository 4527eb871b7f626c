use Rattle.std.proofs.Common.{◌≡◌, rules, ◌++◌, length, arith}
use Rattle.std.proofs.lemmas.List.{length_push}
use Rattle.pl_unify.specs.declared.word.Word.TheVariants.{Var}
use Rattle.pl_unify.proofs.Fields.{fields-grown}
use Rattle.pl_unify.proofs.Adds.{one_var, fresh_made, FreshMade}
use Rattle.pl_unify.proofs.store.Store.fresh.Goals as goal
use Rattle.pl_unify.proofs.store.Store.fresh.Goals.{After-put-2}

number : (c : After-put-2) → c.len-n.result ≡ length c.self.inside.vars.items
number c = search rules

cells : (c : After-put-2) → c.put.new.list.items ≡ c.self.inside.cells.items ++ one_var c.self.inside.vars.items
cells c = rw (c.put.ensures.items, c.in_ok-make_room.ensures.items, number c)

vars : (c : After-put-2) → c.put-2.new.list.items ≡ c.self.inside.vars.items ++ one_var c.self.inside.vars.items
vars c = rw (c.put-2.ensures.items, c.in_ok-make_room-2.ensures.items, number c)

made : (c : After-put-2) → FreshMade c.self.inside.cells.items c.self.inside.vars.items c.self.inside.trail.items
made c = fresh_made c.self.inside.cells.items c.self.inside.vars.items c.self.inside.trail.items c.self.invariant.inside

pub invariant_of-self-2 : goal.invariant_of-self-2
invariant_of-self-2 c =
    fields-grown c.self.inside.cells.items c.self.inside.vars.items c.self.inside.trail.items c.self.inside.ground.items c.self.inside.noted.items _ _ (one_var c.self.inside.vars.items) (one_var c.self.inside.vars.items) c.self.invariant (cells c) (vars c)
    (rw (cells c, vars c) (made c).fields)

pub returns-clause-grows : goal.returns-clause-grows
returns-clause-grows c = rw (← c.self.view_is) (rw (cells c, vars c) (made c).grows)

pub returns-clause-variable : goal.returns-clause-variable
returns-clause-variable c =
    let place : c.len-place.result ≡ length c.self.inside.cells.items = search rules in
    rw (← c.self.view_is) (rw (cells c, vars c, place) (omega (arith, length_push c.self.inside.cells.items (Var (length c.self.inside.vars.items))), (made c).tree))
