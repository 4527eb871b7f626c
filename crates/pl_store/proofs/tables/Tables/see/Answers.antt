use Rattle.std.proofs.Common.{◌∙◌, ap, refl, []}
use Rattle.indexmap.proofs.CallerLemmas.{insert_entry-new}
use Rattle.pl_store.specs.Linked.{Linked, visible_in, with_row}
use Rattle.unit_model.specs.Views.{ind_view}
use Rattle.pl_store.specs.Views.{view_of}
use Rattle.pl_store.proofs.ProgramLaws.{lookup-row, rows-push}
use Rattle.pl_store.proofs.tables.Tables.see.Goals as goal

pub returns-clause-ok : goal.returns-clause-ok
returns-clause-ok c =
    let none = lookup-row (record { lookup = c.args.lookup.0; name = c.args.ind.name.0; arity = c.args.ind.arity }) _ (λ k. refl) c.self.inside.rows.entries
    ∙ ap (λ (l : Linked). visible_in l.rows c.args.lookup.0 (record { name = c.args.ind.name.0; arity = c.args.ind.arity })) c.self.view_is ∙ c.requires in
    ap (λ es. view_of [] c.self.inside.modules.keys c.self.inside.procedures.items c.self.inside.clauses.items es) (c.in_ok-insert.ensures.entries ∙ insert_entry-new _ c.self.inside.rows _ _ none)
    ∙ ap (λ rs. record (view_of [] c.self.inside.modules.keys c.self.inside.procedures.items c.self.inside.clauses.items c.self.inside.rows.entries) { rows = rs }) (rows-push c.self.inside.rows.entries _ c.args.proc.0)
    ∙ ap (λ l. with_row l (record { lookup = c.args.lookup.0; indicator = ind_view c.args.ind; procedure = c.args.proc.0 })) c.self.view_is
