use Rattle.std.proofs.Common.{ℕ, subst, sym}
use Rattle.goal_model.specs.Program.{Clause}
use Rattle.pl_store.specs.Facts.{IsLinked}
use Rattle.pl_store.specs.Linked.{Linked, with_names, with_clause}
use Rattle.pl_store.proofs.FactLaws.{clause-added}
use Rattle.pl_store.proofs.program.Program.add_clause.Goals as goal

pub invariant_of-self-2 : goal.invariant_of-self-2
invariant_of-self-2 c =
    let k : Clause ℕ = record { width = c.args.vars; head = c.args.head; body = c.args.body } in
    subst (λ (t : Linked). IsLinked (with_names t c.self.inside.names)) (sym c.in_ok-add_clause.ensures.ok)
    (subst (λ (l : Linked). IsLinked (with_clause l (record { procedure = c.args.proc.0; clause = k }))) (sym c.self.view_is)
    (clause-added c.args.self.now c.args.proc.0 k (subst IsLinked c.self.view_is c.self.invariant) c.requires.procedure c.requires.clause))
