use Rattle.std.proofs.Common.{subst, sym}
use Rattle.unit_model.specs.Views.{ind_view}
use Rattle.pl_store.specs.Facts.{IsLinked}
use Rattle.pl_store.specs.Linked.{Linked, Procedure, with_names, with_procedure}
use Rattle.pl_store.proofs.FactLaws.{procedure-added}
use Rattle.pl_store.proofs.program.Program.add_procedure.Goals as goal

pub invariant_of-self-2 : goal.invariant_of-self-2
invariant_of-self-2 c =
    let p : Procedure = record { home = c.args.home.0; indicator = ind_view c.args.ind; modes = c.args.modes } in
    subst (λ (t : Linked). IsLinked (with_names t c.self.inside.names)) (sym c.in_ok-id.ensures.ok)
    (subst (λ (l : Linked). IsLinked (with_procedure l p)) (sym c.self.view_is)
    (procedure-added c.args.self.now p (subst IsLinked c.self.view_is c.self.invariant) c.requires.module c.requires.new c.requires.name c.requires.modes))
