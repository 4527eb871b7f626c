use Rattle.std.proofs.Common.{ap, sym, ◌∙◌}
use Rattle.std.specs.Option.{option_map}
use Rattle.pl_atoms.specs.Names.{same_text, text_place}
use Rattle.pl_atoms.proofs.Texts.{position-map}
use Rattle.pl_atoms.proofs.names.Names.find.Goals as goal

pub returns-in_err-place : goal.returns-in_err-place
returns-in_err-place c =
    ap (option_map (λ id. id.0)) c.from_residual.ensures
    ∙ sym c.in_err-place.was
    ∙ c.get_index_of.ensures.index
    ∙ sym (position-map _ (same_text c.args.text.now) _)
    ∙ ap (λ texts. text_place texts c.args.text.now) c.self.view_is

pub returns : goal.returns
returns c =
    sym c.in_ok-place.was
    ∙ c.get_index_of.ensures.index
    ∙ sym (position-map _ (same_text c.args.text.now) _)
    ∙ ap (λ texts. text_place texts c.args.text.now) c.self.view_is
