use Rattle.std.proofs.Common.{◌≡◌, ◌∙◌, ◌+◌, sym, ap, rules}
use Rattle.std.specs.Int.{w64}
use Rattle.std.specs.Int.RustNames.{FitsSigned}
use Rattle.std.proofs.lemmas.Int.{to_z-of_z}
use Rattle.unifier_model.proofs.Replaced.{apply-int}
use Rattle.pl_unify.specs.State.{bound, tree_of_var, tree_of_word}
use Rattle.pl_arith.proofs.in_code.integer_of.Goals as goal

pub returns-in-Int : goal.returns-in-Int
returns-in-Int c =
    let fz : FitsSigned w64 c.in-Int.z = search rules in
    let number : c.in_ok-number.number ≡ c.args.n + c.args.base = search rules in
    simp to_z-of_z (ap (tree_of_var c.args.store.now.state) (sym number)
    ∙ sym c.resolve.ensures.same
    ∙ ap (tree_of_word c.args.store.now.state) c.in-Int.is
    ∙ apply-int (bound c.args.store.now.state) c.in-Int.z)
