use Rattle.std.proofs.lemmas.List.{append-nil}
use Rattle.pl_unify.proofs.Fields.{fields-grown}
use Rattle.std.proofs.Common.{[], sym, ◌≡◌, ◌++◌, length, rules}
use Rattle.pl_unify.proofs.Adds.{one_var}
use Rattle.pl_unify.proofs.Loading.{VariableMade, variable_made}
use Rattle.pl_unify.proofs.store.Store.add_variable.Goals as goal
use Rattle.pl_unify.proofs.store.Store.add_variable.Goals.{After-put}

vars : (c : After-put) → c.put.new.list.items ≡ c.self.inside.vars.items ++ one_var c.self.inside.vars.items
vars c =
    let number : c.len-next.result ≡ length c.self.inside.vars.items = search rules in
    rw (c.put.ensures.items, c.in_ok-make_room.ensures.items, number)

made : (c : After-put) → VariableMade c.self.inside.cells.items c.self.inside.vars.items c.self.inside.trail.items
made c = variable_made c.self.inside.cells.items c.self.inside.vars.items c.self.inside.trail.items c.self.invariant.inside

pub invariant_of-self-2 : goal.invariant_of-self-2
invariant_of-self-2 c =
    fields-grown c.self.inside.cells.items c.self.inside.vars.items c.self.inside.trail.items c.self.inside.ground.items c.self.inside.noted.items c.self.inside.cells.items _ [] (one_var c.self.inside.vars.items) c.self.invariant (sym (append-nil c.self.inside.cells.items)) (vars c)
    (rw (vars c) (made c).fields)

pub returns-clause-grows : goal.returns-clause-grows
returns-clause-grows c = rw (← c.self.view_is) (rw (vars c) (made c).grows)
