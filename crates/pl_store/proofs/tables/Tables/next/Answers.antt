use Rattle.std.proofs.Common.{◌∙◌, ◌+◌, ap, sym, get_or, map}
use Rattle.pl_store.specs.Places.{next_place}
use Rattle.pl_store.specs.Tags.{no_tag}
use Rattle.pl_store.specs.Linked.{Linked, key_view, may_match, no_clause}
use Rattle.pl_store.specs.Views.{clause_view}
use Rattle.pl_store.proofs.ProgramLaws.{owned-clauses, candidate-clauses, owner-at}
use Rattle.pl_store.proofs.tables.Tables.next.Goals as goal
use Rattle.pl_store.proofs.tables.Tables.next.Goals.{in-None, in-Some}

pub returns : goal.returns
returns c =
    let owner = (get_or c.self.inside.index.tags c.args.clause.0 no_tag).owner in
    c.clause_id.ensures
    ∙ (elim c.match-class_of_key.branch [
      | in-None w ↦ w.place-is ∙ w.next-place.ensures ∙ owned-clauses c.self.inside.clauses.items c.self.inside.index.tags c.self.invariant.tags owner (c.args.clause.0 + 1) c.args.key (sym c.class_of_key.ensures ∙ w.in-None.is)
      | in-Some w ↦ w.place-is ∙ w.next_fit-place.ensures ∙ candidate-clauses c.self.inside.clauses.items c.self.inside.index.tags c.self.invariant.tags owner (c.args.clause.0 + 1) c.args.key w.in-Some.class (sym c.class_of_key.ensures ∙ w.in-Some.is)
    ])
    ∙ ap (λ p. next_place (may_match p (key_view c.args.key)) (c.args.clause.0 + 1) (map clause_view c.self.inside.clauses.items))
    (ap (λ ts. (get_or ts c.args.clause.0 no_tag).owner) c.self.invariant.tags ∙ owner-at c.self.inside.clauses.items c.args.clause.0)
    ∙ ap (λ (l : Linked). next_place (may_match (get_or l.clauses c.args.clause.0 no_clause).procedure (key_view c.args.key)) (c.args.clause.0 + 1) l.clauses) c.self.view_is
