use Rattle.std.proofs.Common.{[], ◌∷◌, sym, subst, ◌∙◌}
use Rattle.std.proofs.lemmas.Result.{on_ok_weaker}
use Rattle.unit_model.specs.Views.{ind_view}
use Rattle.pl_store.specs.Linked.{Linked}
use Rattle.mod_linker.specs.Keys.{key}
use Rattle.mod_linker.specs.Rowing.{Shown, ShowsMore}
use Rattle.mod_linker.proofs.Rows.{shows-seen, shows-first}
use Rattle.mod_linker.proofs.Visibles.{number-known, found-indicator, rows-of, is-seen, is-unseen}
use Rattle.mod_linker.proofs.seeing.see.Goals as goal

pub returns-then-is_some : goal.returns-then-is_some
returns-then-is_some c =
    let l = c.args.program.now in
    let rows = rows-of c.tables.result.now l c.args.lookup.0 (ind_view c.args.ind) c.procedure-seen.result c.procedure-seen.ensures c.tables.ensures.tables in
    shows-seen l (record { of = c.args.lookup.0; ind = ind_view c.args.ind; definer = c.args.definer.0 }) (is-seen l.rows c.args.lookup.0 (ind_view c.args.ind) c.procedure-seen.result rows (sym c.is_some.ensures ∙ c.if-is_some.true))

pub see-requires-clause-indicator : goal.see-requires-clause-indicator
see-requires-clause-indicator c =
    let l = c.args.program.now in
    let e = number-known l c.args.known.now.numbers.entries (key c.args.definer c.args.ind) c.of.result c.get.result c.requires.known c.of.ensures c.get.ensures in
    (found-indicator l c.args.definer.0 (ind_view c.args.ind) c.in-Some.number (e ∙ c.in-Some.is)).1

pub returns : goal.returns
returns c =
    let l = c.args.program.now in
    let rows = rows-of c.tables.result.now l c.args.lookup.0 (ind_view c.args.ind) c.procedure-seen.result c.procedure-seen.ensures c.tables.ensures.tables in
    let unseen = is-unseen l.rows c.args.lookup.0 (ind_view c.args.ind) c.procedure-seen.result rows (sym c.is_some.ensures ∙ c.if-is_some.false) in
    let e = number-known l c.args.known.now.numbers.entries (key c.args.definer c.args.ind) c.of.result c.get.result c.requires.known c.of.ensures c.get.ensures in
    let r : Shown = record { of = c.args.lookup.0; ind = ind_view c.args.ind; definer = c.args.definer.0 } in
    let found = found-indicator l c.args.definer.0 (ind_view c.args.ind) c.in-Some.number (e ∙ c.in-Some.is) in
    on_ok_weaker c.see.result (λ step. subst (λ (m : Linked). ShowsMore (r ∷ []) l m) (sym step) (shows-first l r c.in-Some.number unseen found.2)) c.see.ensures.ok
