use Rattle.std.proofs.Common.{◌∙◌, rules}
use Rattle.std.specs.Int.{w64}
use Rattle.std.specs.Int.RustNames.{FitsSigned}
use Rattle.std.proofs.lemmas.Int.{to_z-of_z}
use Rattle.pl_unify.specs.State.{tree_at}
use Rattle.pl_arith.proofs.Roots.{one_integer}
use Rattle.pl_arith.proofs.at_once.value_of_one.Goals as goal

pub returns : goal.returns
returns c =
    let fx : FitsSigned w64 c.in_ok-x.x = search rules in
    (simp to_z-of_z at c.over_one.ensures) ∙ one_integer c.args.names.now (tree_at c.args.store.now.state c.args.at) (tree_at c.args.store.now.state c.arg.result) c.args.name c.in_ok-x.x c.requires.root c.arg.ensures.tree c.in_ok-x.ensures
