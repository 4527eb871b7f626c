-- A term's construct, with the places of its parts in the code of terms.
use Rattle.std.specs.Prelude.{◌≡◌, ℕ, ◌<◌, List, length}
use Rattle.pl_terms.specs.Trees.{Tree}
use Rattle.pl_unify.specs.declared.code.CodeWord.{CodeWord}
use Rattle.pl_unify.specs.Code.{code_tree}
use Rattle.goal_code.specs.declared.shape.Parts.{Parts}
use Rattle.goal_code.specs.declared.shape.Parts.TheVariants as P
use Rattle.goal_code.specs.Shapes.{Shape, conjunction, disjunction, if_then_else, if_then, cut, other}

-- the tree stands at a place
abbrev pub Stands : List CodeWord → ℕ → Tree ℕ → Type 0
Stands ws p t = (p < length ws) × (code_tree ws p ≡ t)

abbrev pub HasShape : List CodeWord → Shape → Parts → Type 0
HasShape ws (conjunction l r) (P.Conjunction a b) = Stands ws a l × Stands ws b r
HasShape ws (disjunction l r) (P.Disjunction a b) = Stands ws a l × Stands ws b r
HasShape ws (if_then_else c t e) (P.IfThenElse a b d) = Stands ws a c × Stands ws b t × Stands ws d e
HasShape ws (if_then c t) (P.IfThen a b) = Stands ws a c × Stands ws b t
HasShape ws cut P.Cut = Unit {0}
HasShape ws other P.Other = Unit {0}
HasShape ws s p = ⊥
