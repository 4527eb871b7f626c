use Rattle.std.proofs.Common.{◌≡◌, ◌<◌, ◌∙◌, ◌+◌, ◌-◌, ◌∷◌, [], ℕ, List, ap, arith, reverse, sym, drop, subst, length, refl}
use Rattle.std.proofs.lemmas.List.{length-reverse, length-map}
use Rattle.pl_terms.specs.declared.cell.Cell.{Cell}
use Rattle.pl_terms.specs.declared.cell.Cell.TheVariants as C
use Rattle.pl_unify.specs.Prefix.{build, first_tree}
use Rattle.pl_unify.proofs.PrefixLaws.{Enough, Enough-tree, build-tree, IsCell-forest}
use Rattle.pl_unify.specs.Code.{code_base, plain, last_tree}
use Rattle.pl_unify.specs.Coding.{piece_trees}
use Rattle.pl_unify.specs.Words.{word_tree}
use Rattle.pl_unify.proofs.CodeMaking.{vars_at, has_at, root_tree, reverse-piece}
use Rattle.pl_unify.proofs.code.Code.of.Goals as goal
use Rattle.pl_unify.proofs.code.Code.of.Goals.{After-pop}

pub add_code-requires-clause-vars : goal.add_code-requires-clause-vars
add_code-requires-clause-vars c =
    let cs : List Cell = c.cells-cells.result.now in
    let low : c.loop-left.left - 1 < length cs = omega (arith, c.loop-left.invariant.few) in
    vars_at c.args.vars cs (c.loop-left.left - 1) _ (C.Var 0) low refl (rw c.cells-cells.ensures.same c.requires.vars)

pub add_code-requires-clause-enough : goal.add_code-requires-clause-enough
add_code-requires-clause-enough c =
    let cs : List Cell = c.cells-cells.result.now in
    let i : ℕ = c.loop-left.left - 1 in
    let low : i < length cs = omega (arith, c.loop-left.invariant.few) in
    let one : c.loop-left.left ≡ i + 1 = omega arith in
    let enough : Enough cs = subst Enough (sym c.cells-cells.ensures.same) (Enough-tree c.args.term.now) in
    let count : length c.loop-left.pieces.items ≡ length (build (drop (i + 1) cs)) =
    sym (length-reverse c.loop-left.pieces.items) ∙ (sym (length-map (reverse c.loop-left.pieces.items) (λ p. word_tree (code_base c.loop-left.words.items) (plain p.0)))
    ∙ (ap length c.loop-left.invariant.trees ∙ ap (λ k. length (build (drop k cs))) one)) in
    has_at cs i (length c.loop-left.pieces.items) _ (C.Var 0) low refl enough count (IsCell-forest i cs c.cells-cells.ensures.whole.whole)

whole : (c : After-pop) → piece_trees c.loop-left.words.items (reverse c.loop-left.pieces.items) ≡ c.args.term.now ∷ []
whole c =
    let zero_left : c.loop-left.left ≡ 0 = omega arith in
    c.loop-left.invariant.trees ∙ (ap (λ k. build (drop k c.cells-cells.result.now)) zero_left ∙ (ap build c.cells-cells.ensures.same ∙ build-tree c.args.term.now))

pub unreachable-requires : goal.unreachable-requires
unreachable-requires c =
    let w = whole (goal.at.unreachable-requires c).After-pop in
    let count = length-map (reverse c.loop-left.pieces.items) (λ p. word_tree (code_base c.loop-left.words.items) (plain p.0)) in
    omega (arith, count, length-reverse c.loop-left.pieces.items, ap length w, c.in-None.ensures.cases, c.loop-left.pieces.ok.0)

pub returns-clause-tree : goal.returns-clause-tree
returns-clause-tree c =
    let w = whole (goal.at.returns-clause-tree c).After-pop in
    let words = c.loop-left.words.items in
    let list : reverse c.loop-left.pieces.items ≡ (c.in-Some.word, c.in-Some.field-0-1) ∷ reverse c.pop.new.self.items = ap reverse c.in-Some.ensures.items ∙ reverse-piece c.pop.new.self.items (c.in-Some.word, c.in-Some.field-0-1) in
    let one : word_tree (code_base words) (plain c.in-Some.word) ∷ piece_trees words (reverse c.pop.new.self.items) ≡ c.args.term.now ∷ [] = sym (ap (piece_trees words) list) ∙ w in
    ap last_tree c.in_ok-push-in-Some.ensures.ok ∙ (root_tree words c.in-Some.word ∙ ap first_tree one)
