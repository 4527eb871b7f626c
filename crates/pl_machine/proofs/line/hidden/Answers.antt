use Rattle.std.proofs.Common.{◌≡◌, ℕ, [], ◌∷◌, ◌++◌, ◌∙◌, ap}
use Rattle.pl_terms.specs.declared.cell.Cell.TheVariants as C
use Rattle.pl_terms.specs.Cells.{cells}
use Rattle.pl_terms.specs.Trees.{Tree, var, int, atom, comp}
use Rattle.pl_machine.proofs.line.hidden.Goals as goal

var-cells : (t : Tree ℕ) (n : ℕ) → cells t ≡ C.Var n ∷ [] → t ≡ var n
var-cells (var m) n h = let e : m ≡ n = cc in ap var e
var-cells (int z) n h = cc
var-cells (atom a) n h = cc
var-cells (comp f ts) n h = cc

pub returns : goal.returns
returns c =
    let made : cells c.end_whole-term.result ≡ C.Var c.args.number ∷ [] = c.end_whole-term.ensures ∙ c.in_ok-push.ensures.ok ∙ ap (λ l. l ++ C.Var c.args.number ∷ []) c.new-cells.ensures in
    var-cells c.end_whole-term.result c.args.number made
