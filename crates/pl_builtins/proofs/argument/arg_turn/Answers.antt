use Rattle.std.proofs.Common.{◌≡◌, ◌∙◌, refl, sym, subst, rules}
use Rattle.std.proofs.lemmas.Int.{to_z-of_z}
use Rattle.std.specs.Int.{w64}
use Rattle.std.specs.Int.RustNames.{FitsSigned}
use Rattle.pl_unify.specs.State.{tree_at}
use Rattle.builtin_model.specs.Deeds.{arg_deed}
use Rattle.pl_builtins.specs.Argument.{IsTurn, place_turn}
use Rattle.pl_builtins.proofs.Arguments.{turn-at}
use Rattle.pl_builtins.proofs.argument.arg_turn.Goals as goal

pub returns-in-Comp : goal.returns-in-Comp
returns-in-Comp c = λ a.
    let s = c.args.store.now.state in
    let place = tree_at s c.args.place in
    let term = tree_at s c.args.term in
    let fits : FitsSigned w64 c.in-Int.number = search rules in
    let same : c.place_turn.result ≡ place_turn c.args.place c.in-Int.number c.in-Comp.arity = simp to_z-of_z at c.place_turn.ensures in
    subst (IsTurn s term a (arg_deed place term a)) (sym same)
    (turn-at s c.args.place place term c.in-Int.number c.in-Comp.field-0 c.in-Comp.arity a c.requires.0 (sym c.in-Int.is ∙ c.view.ensures) refl (sym c.in-Comp.is ∙ c.view-in-Int.ensures))
