use Rattle.std.proofs.Common.{◌∙◌, ap, sym}
use Rattle.pl_store.specs.Places.{next_place}
use Rattle.pl_store.specs.Linked.{Linked, key_view, may_match}
use Rattle.pl_store.proofs.ProgramLaws.{owned-clauses, candidate-clauses}
use Rattle.pl_store.proofs.tables.Tables.first.Goals as goal
use Rattle.pl_store.proofs.tables.Tables.first.Goals.{in-None, in-Some}

pub returns : goal.returns
returns c =
    c.clause_id.ensures
    ∙ (elim c.match-class_of_key.branch [
      | in-None w ↦ w.place-is ∙ w.first-place.ensures ∙ owned-clauses c.self.inside.clauses.items c.self.inside.index.tags c.self.invariant.tags c.args.proc.0 0 c.args.key (sym c.class_of_key.ensures ∙ w.in-None.is)
      | in-Some w ↦ w.place-is ∙ w.first_fit-place.ensures ∙ candidate-clauses c.self.inside.clauses.items c.self.inside.index.tags c.self.invariant.tags c.args.proc.0 0 c.args.key w.in-Some.class (sym c.class_of_key.ensures ∙ w.in-Some.is)
    ])
    ∙ ap (λ (l : Linked). next_place (may_match c.args.proc.0 (key_view c.args.key)) 0 l.clauses) c.self.view_is
