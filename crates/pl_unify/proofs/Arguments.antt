-- The equations of a goal's arguments, one place after another.
use Rattle.std.proofs.Common.{◌≡◌, ◌∙◌, ℕ, zero, suc, ◌+◌, ◌-◌, ◌<◌, ◌≤◌, List, [], ◌∷◌, take, drop, length, get_or, refl, ap, sym, subst, arith, Bool}
use Rattle.std.proofs.lemmas.List.{append-nil, drop_more}
use Rattle.pl_atoms.specs.declared.names.NameId.{NameId}
use Rattle.pl_terms.specs.Trees.{Tree, var}
use Rattle.unifier_model.specs.Unifier.Solved.{solved}
use Rattle.pl_unify.specs.declared.word.Word.{Word}
use Rattle.pl_unify.specs.declared.word.Word.TheVariants.{Var, Int, Name, Comp}
use Rattle.pl_unify.specs.declared.code.CodeWord.{CodeWord}
use Rattle.pl_unify.specs.Prefix.{trees}
use Rattle.pl_unify.specs.State.{State, tree_at, bound, shape, places}
use Rattle.pl_unify.specs.Shape.{arity}
use Rattle.pl_unify.specs.Steps.{pair_span}
use Rattle.pl_unify.specs.Code.{code_tree_in}
use Rattle.pl_unify.specs.Match.{SolvedBy, PairsIn, code_equations}
use Rattle.pl_unify.specs.Arguments.{arguments_of, argument_equations}
use Rattle.pl_unify.proofs.StoreLaws.{Extends-refl}
use Rattle.pl_unify.proofs.Moves.{solved_by}
use Rattle.pl_unify.proofs.Shapes.{length-places, count-args}
use Rattle.pl_unify.proofs.Walk.{tree_at-places}
use Rattle.pl_unify.proofs.Matching.{Answer}

-- the equations of places are those of the arguments that stand there
pub span-arguments : (s : State) (b : ℕ) (ws : List CodeWord) (first at k : ℕ) → first + k ≤ length s.cells
    → code_equations s b ws (pair_span first at k) ≡ argument_equations s b ws at (trees (take k (drop first (places s))))
span-arguments s b ws first at zero h = refl
span-arguments s b ws first at (suc k) h =
    let low : first < length (places s) = omega (arith, length-places s) in
    let t : Tree ℕ = get_or (places s) first (var 0) in
    let one : tree_at s (record { 0 = first }) ≡ t = tree_at-places s first (omega arith) in
    let rest : code_equations s b ws (pair_span (first + 1) (at + 1) k) ≡ argument_equations s b ws (at + 1) (trees (take k (drop (first + 1) (places s)))) =
    span-arguments s b ws (first + 1) (at + 1) k (omega arith) in
    ap (λ u. (u, code_tree_in s b ws at) ∷ code_equations s b ws (pair_span (first + 1) (at + 1) k)) one
    ∙ (ap (λ r. (t, code_tree_in s b ws at) ∷ r) rest
    ∙ ap (λ xs. argument_equations s b ws at (trees (take (suc k) xs))) (sym (drop_more (places s) first (var 0) low)))

pub arguments-answer : (s s' : State) (b : ℕ) (ws : List CodeWord) (at first k : ℕ) (f : NameId) (t : Tree ℕ) (ok : Bool) → t ≡ shape s (Comp k f first) → first + k ≤ length s.cells
    → Answer s s' (code_equations s b ws (pair_span first at k)) ok → Answer s s' (argument_equations s b ws at (arguments_of t)) ok
arguments-answer s s' b ws at first k f t ok e h d =
    subst (λ u. Answer s s' (argument_equations s b ws at (arguments_of u)) ok) (sym e) (subst (λ es. Answer s s' es ok) (span-arguments s b ws first at k h) d)

-- how many arguments a goal has, by its word
pub arguments-count : (s : State) (first k : ℕ) (f : NameId) (t : Tree ℕ) → t ≡ shape s (Comp k f first) → first + k ≤ length s.cells → arity t ≡ k
arguments-count s first k f t e h = ap arity e ∙ count-args s k first h

-- a goal that is no compound has none
pub no-arguments : (s : State) (b : ℕ) (ws : List CodeWord) (at : ℕ) (t : Tree ℕ) (w : Word) → t ≡ shape s w → ((k : ℕ) (f : NameId) (first : ℕ) → w ≡ Comp k f first → ⊥)
    → SolvedBy s s (argument_equations s b ws at (arguments_of t))
no-arguments s b ws at t w e other = subst (λ u. SolvedBy s s (argument_equations s b ws at (arguments_of u))) (sym e) (go w other)
  where
    none : SolvedBy s s []
    none = solved_by s s [] [] (Extends-refl s) solved (sym (append-nil (bound s)))

    go : (x : Word) → ((k : ℕ) (f : NameId) (first : ℕ) → x ≡ Comp k f first → ⊥) → SolvedBy s s (argument_equations s b ws at (arguments_of (shape s x)))
    go (Var n) o = none
    go (Int z) o = none
    go (Name a) o = none
    go (Comp k f first) o = absurd (o k f first refl)

pub span-in : (cells words first at k : ℕ) → first + k ≤ cells → at + k ≤ words → PairsIn cells words (pair_span first at k)
span-in cells words first at zero h g = tt
span-in cells words first at (suc k) h g = (omega arith, omega arith, span-in cells words (first + 1) (at + 1) k (omega arith) (omega arith))

-- the first places of a span
pub span-split : (place q left : ℕ) → (left ≡ 0 → ⊥) → pair_span place q left ≡ (place, q) ∷ pair_span (place + 1) (q + 1) (left - 1)
span-split place q zero h = absurd (h refl)
span-split place q (suc k) h =
    let e : suc k - 1 ≡ k = omega arith in
    ap (λ m. (place, q) ∷ pair_span (place + 1) (q + 1) m) (sym e)
