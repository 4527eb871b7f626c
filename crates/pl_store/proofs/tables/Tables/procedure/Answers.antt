use Rattle.std.proofs.Common.{◌∙◌, ap, refl}
use Rattle.std.specs.Option.{option_map}
use Rattle.pl_store.specs.Linked.{Linked, visible_in}
use Rattle.pl_store.proofs.ProgramLaws.{lookup-row}
use Rattle.pl_store.proofs.tables.Tables.procedure.Goals as goal

pub returns-in_err-number : goal.returns-in_err-number
returns-in_err-number c =
    ap (option_map (λ p. p.0)) c.from_residual.ensures
    ∙ c.in_err-number.ensures.value
    ∙ lookup-row (record { lookup = c.args.lookup.0; name = c.args.name.0; arity = c.args.arity }) _ (λ k. refl) c.self.inside.rows.entries
    ∙ ap (λ (l : Linked). visible_in l.rows c.args.lookup.0 (record { name = c.args.name.0; arity = c.args.arity })) c.self.view_is

pub returns : goal.returns
returns c =
    c.in_ok-number.ensures.value
    ∙ lookup-row (record { lookup = c.args.lookup.0; name = c.args.name.0; arity = c.args.arity }) _ (λ k. refl) c.self.inside.rows.entries
    ∙ ap (λ (l : Linked). visible_in l.rows c.args.lookup.0 (record { name = c.args.name.0; arity = c.args.arity })) c.self.view_is
