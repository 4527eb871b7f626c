-- A term of code unified with an integer.
use Rattle.std.proofs.Common.{◌≡◌, ◌∙◌, ℕ, ℤ, Bool, true, false, List, [], ◌∷◌, Some, None, ap, subst, arith, MatchBool}
use Rattle.pl_terms.specs.Trees.{Tree, int}
use Rattle.unifier_model.specs.Mgu.{mgu}
use Rattle.unifier_model.specs.Unifier.{Solved}
use Rattle.unifier_model.proofs.Only.{mgu-Solved}
use Rattle.unifier_model.proofs.Replaced.{apply-int}
use Rattle.pl_unify.specs.declared.word.Word.{Word}
use Rattle.pl_unify.specs.declared.word.Word.TheVariants as W
use Rattle.pl_unify.specs.State.{State, Grows, bound, tree_of_word}
use Rattle.pl_unify.specs.Match.{SolvedBy}
use Rattle.pl_builtin_ends.specs.declared.done.Done.TheVariants as D
use Rattle.pl_builtin_ends.specs.Meets.{Unifies}
use Rattle.pl_builtin_ends.proofs.Ends.{answers-grown}

-- a word was made that stands for a term, and unified with an integer
module _ (old mid new : State) (t : Tree ℕ) (left : Word) (z : ℤ) (b : Bool) (grew : Grows old mid) (kept : mid.next ≡ old.next) (made : tree_of_word mid left ≡ t)
    (answer : MatchBool b (SolvedBy mid new ((tree_of_word mid left, tree_of_word mid (W.Int z)) ∷ [])) (Solved ((tree_of_word mid left, tree_of_word mid (W.Int z)) ∷ []) None)) where
  abbrev found : List (Tree ℕ × Tree ℕ)
  found = (tree_of_word mid left, tree_of_word mid (W.Int z)) ∷ []

  abbrev wanted : List (Tree ℕ × Tree ℕ)
  wanted = (t, int z) ∷ []

  same : found ≡ wanted
  same = ap (λ u. (u, tree_of_word mid (W.Int z)) ∷ []) made ∙ ap (λ u. (t, u) ∷ []) (apply-int (bound mid) z)

  pub unified : b ≡ true → new.next ≡ mid.next → Unifies old new wanted 0
  unified is n =
      let u : SolvedBy mid new found =
      subst (λ x. MatchBool x (SolvedBy mid new found) (Solved found None)) is answer in
      answers-grown old mid new found wanted 0 D.Yes grew (omega (arith, kept)) same
      (record {
        extends = u.extends;
        unifier = u.unifier;
        solved = mgu-Solved found (Some u.unifier) u.solved;
        bound = u.bound;
        places = u.places;
        variables = u.variables;
        next = omega (arith, n);
      })

  pub apart : b ≡ false → mgu wanted ≡ None
  apart is =
      subst (λ es. mgu es ≡ None) same
      (mgu-Solved found None
      (subst (λ x. MatchBool x (SolvedBy mid new found) (Solved found None)) is answer))
