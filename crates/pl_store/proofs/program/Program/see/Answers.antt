use Rattle.std.proofs.Common.{subst, sym}
use Rattle.unit_model.specs.Views.{ind_view}
use Rattle.pl_store.specs.Facts.{IsLinked}
use Rattle.pl_store.specs.Linked.{Linked, Row, with_names, with_row}
use Rattle.pl_store.proofs.FactLaws.{row-added}
use Rattle.pl_store.proofs.program.Program.see.Goals as goal

pub invariant_of-self-2 : goal.invariant_of-self-2
invariant_of-self-2 c =
    let r : Row = record { lookup = c.args.lookup.0; indicator = ind_view c.args.ind; procedure = c.args.proc.0 } in
    subst (λ (t : Linked). IsLinked (with_names t c.self.inside.names)) (sym c.in_ok-see.ensures.ok)
    (subst (λ (l : Linked). IsLinked (with_row l r)) (sym c.self.view_is)
    (row-added c.args.self.now r (subst IsLinked c.self.view_is c.self.invariant) c.requires.module c.requires.procedure c.requires.indicator c.requires.unseen))
