use Rattle.std.proofs.Common.{◌≡◌, ℕ, ◌+◌, ◌∙◌, sym, ap, subst, arith}
use Rattle.pl_terms.specs.Trees.{Tree}
use Rattle.pl_unify.specs.Code.{code_tree}
use Rattle.pl_unify.specs.Shape.{argument}
use Rattle.goal_code.specs.Shapes.{shape_of, disjunction_shape}
use Rattle.goal_code.specs.Parts.{HasShape}
use Rattle.goal_code.proofs.Shaping.{disjunction_is, two_arguments}
use Rattle.goal_code.proofs.shape.binary.Goals as goal

pub returns-then-is_name-2 : goal.returns-then-is_name-2
returns-then-is_name-2 c =
    let t : Tree ℕ = code_tree c.args.code.now.words c.args.p in
    let is : shape_of c.args.names t ≡ disjunction_shape c.args.names (argument t 0) (argument t 1) =
    disjunction_is c.args.names t c.args.name c.requires.root (sym c.is_name.ensures ∙ c.if-is_name.false) (sym c.is_name-2.ensures ∙ c.if-is_name-2.true) in
    subst (λ x. HasShape c.args.code.now.words x c.disjunction.result)
    (ap (λ l. disjunction_shape c.args.names l (code_tree c.args.code.now.words (c.arguments-left.result + 1))) (ap (code_tree c.args.code.now.words) (let e : c.arguments-left.result ≡ c.arguments-left.result + 0 = omega arith in e) ∙ c.arguments-left.ensures.trees 0 (omega (arith, two_arguments t c.args.name c.requires.root)))
    ∙ (ap (disjunction_shape c.args.names (argument t 0)) (c.arguments-left.ensures.trees 1 (omega (arith, two_arguments t c.args.name c.requires.root))) ∙ sym is))
    c.disjunction.ensures
