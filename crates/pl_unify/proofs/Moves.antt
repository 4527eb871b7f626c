-- What trees become where replacements are added.
use Rattle.std.proofs.Common.{◌≡◌, ℕ, ◌<◌, List, [], ◌++◌, drop, length, get_or, ap, ◌∙◌, sym, arith, Some}
use Rattle.std.proofs.lemmas.List.{take-append-drop, get_or_append_left}
use Rattle.pl_terms.specs.Trees.{Tree, var}
use Rattle.pl_unify.specs.declared.word.Word.{Word}
use Rattle.pl_unify.specs.declared.word.Ref.{Ref}
use Rattle.unifier_model.specs.Substitution.{apply}
use Rattle.pl_unify.specs.Words.{bases, word_tree, WordIn}
use Rattle.pl_unify.specs.State.{State, base, bound, tree_at, tree_of_word, Extends, IsRef}
use Rattle.unifier_model.specs.Unifier.{Solved}
use Rattle.pl_unify.specs.Match.{SolvedBy}
use Rattle.pl_unify.proofs.Grown.{bases-append, bases-begins, length-bases_nil}
use Rattle.pl_unify.proofs.Adds.{word_tree-more}
use Rattle.unifier_model.proofs.Replaced.{apply-append}

split-cells : (a b : State) → Extends a b → b.cells ≡ a.cells ++ drop (length a.cells) b.cells
split-cells a b e = sym (take-append-drop (length a.cells) b.cells) ∙ ap (λ x. x ++ drop (length a.cells) b.cells) e.cells

pub word_tree-extends : (a b : State) (w : Word) (next : ℕ) → Extends a b → WordIn (length a.cells) next w → word_tree (base b) w ≡ word_tree (base a) w
word_tree-extends a b w next e h =
    ap (λ cs. word_tree (bases [] cs) w) (split-cells a b e) ∙ word_tree-more a (drop (length a.cells) b.cells) w next h

pub base-extends : (a b : State) (p : ℕ) → Extends a b → p < length a.cells → get_or (base b) p (var 0) ≡ get_or (base a) p (var 0)
base-extends a b p e h =
    let more : List Word = drop (length a.cells) b.cells in
    let r = bases-begins (bases [] a.cells) more in
    let is : base b ≡ base a ++ r.0 = ap (bases []) (split-cells a b e) ∙ (bases-append [] a.cells more ∙ r.1) in
    ap (λ x. get_or x p (var 0)) is ∙ get_or_append_left (base a) r.0 (var 0) p (omega (arith, length-bases_nil a.cells))

pub tree-moves : (a b : State) (u : List (ℕ × Tree ℕ)) (t : Tree ℕ) → bound b ≡ bound a ++ u → apply (bound b) t ≡ apply u (apply (bound a) t)
tree-moves a b u t e = ap (λ x. apply x t) e ∙ apply-append (bound a) u t

pub word-moves : (a b : State) (u : List (ℕ × Tree ℕ)) (w : Word) → Extends a b → bound b ≡ bound a ++ u → WordIn (length a.cells) a.next w → tree_of_word b w ≡ apply u (tree_of_word a w)
word-moves a b u w x e h = ap (apply (bound b)) (word_tree-extends a b w a.next x h) ∙ tree-moves a b u (word_tree (base a) w) e

pub place-moves : (a b : State) (u : List (ℕ × Tree ℕ)) (r : Ref) → Extends a b → bound b ≡ bound a ++ u → IsRef a r → tree_at b r ≡ apply u (tree_at a r)
place-moves a b u r x e h = ap (apply (bound b)) (base-extends a b r.0 x h) ∙ tree-moves a b u (get_or (base a) r.0 (var 0)) e

pub solved_by : (a b : State) (es : List (Tree ℕ × Tree ℕ)) (u : List (ℕ × Tree ℕ)) → Extends a b → Solved es (Some u) → bound b ≡ bound a ++ u → SolvedBy a b es
solved_by a b es u x s e = record {
  extends = x;
  unifier = u;
  solved = s;
  bound = e;
  places = λ r h. place-moves a b u r x e h;
  words = λ w h. word-moves a b u w x e h;
  variables = λ n. tree-moves a b u (var n) e;
}
