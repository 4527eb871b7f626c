-- What the parts of `unify` say.
use Rattle.std.specs.Prelude.{◌≡◌, ℕ, zero, suc, ◌+◌, ◌<◌, List, [], ◌∷◌, ◌++◌, length, map, reverse, Option, Some, None, true, false, Bool, nat_eq, if◌then◌else◌}
use Rattle.pl_terms.specs.Trees.{Tree}
use Rattle.unifier_model.specs.Substitution.{occurs, apply}
use Rattle.pl_unify.specs.declared.word.Word.{Word}
use Rattle.pl_unify.specs.declared.word.Word.TheVariants.{Var, Comp}
use Rattle.pl_unify.specs.declared.word.Ref.{Ref}
use Rattle.pl_atoms.specs.declared.names.NameId.{NameId}
use Rattle.pl_unify.specs.declared.store.unify.Turn.{Turn}
use Rattle.pl_unify.specs.declared.store.unify.Turn.TheVariants as T
use Rattle.pl_unify.specs.declared.store.unify.Next.{Next}
use Rattle.pl_unify.specs.declared.store.unify.Next.TheVariants.{Done, Clash, Bind}
use Rattle.pl_unify.specs.Words.{Link, IsFree, WordIn}
use Rattle.pl_unify.specs.State.{State, tree_at, tree_of_word, tree_of_var, bound, Extends, shape}
use Rattle.unifier_model.specs.Mgu.{mgu}
use Rattle.unifier_model.specs.Unifier.{Solved, replaced, binding, IsClash}

-- pairs of places from two places on
abbrev pub pair_span : ℕ → ℕ → ℕ → List (ℕ × ℕ)
pair_span first second zero = []
pair_span first second (suc k) = (first, second) ∷ pair_span (first + 1) (second + 1) k

abbrev pub PairsBelow : ℕ → List (ℕ × ℕ) → Type 0
PairsBelow n [] = Unit {0}
PairsBelow n (p ∷ ps) = (p.0 < n) × (p.1 < n) × PairsBelow n ps

-- the equations of pairs of places, of which the last is the next one
abbrev pub equations : State → List (ℕ × ℕ) → List (Tree ℕ × Tree ℕ)
equations s work = map (λ p. (tree_at s (record { 0 = p.0 }), tree_at s (record { 0 = p.1 }))) (reverse work)

-- the next step of the unifier replaces the variable n by the tree of the word
pub record BindStep (s : State) (old new : List (ℕ × ℕ)) (n : ℕ) (w : Word) : Type 0 where
  pub number : n < s.next
  pub free : IsFree n s.links
  pub within : WordIn (length s.cells) s.next w
  pub ahead : (m : ℕ) → w ≡ Var m → IsFree m s.links
  pub below : PairsBelow (length s.cells) (reverse new)
  pub inside : occurs n (tree_of_word s w) ≡ true → Solved (equations s old) None
  pub binds : (r : Option (List (ℕ × Tree ℕ))) → occurs n (tree_of_word s w) ≡ false → Solved (replaced n (tree_of_word s w) (equations s new)) r → Solved (equations s old) (binding n (tree_of_word s w) r)

abbrev pub IsStep : State → List (ℕ × ℕ) → List (ℕ × ℕ) → Next → Type 0
IsStep s old new Done = Solved (equations s old) (Some [])
IsStep s old new Clash = Solved (equations s old) None
IsStep s old new (Bind n w) = BindStep s old new n w

-- bindings alone were added
pub record OnlyBinds (old new : State) : Type 0 where
  pub extends : Extends old new
  pub cells : new.cells ≡ old.cells
  pub next : new.next ≡ old.next

-- the unifier of two places was applied to all
pub record Unified (old new : State) (a b : Ref) : Type 0 where
  pub only : OnlyBinds old new
  pub unifier : List (ℕ × Tree ℕ)
  pub solved : mgu ((tree_at old a, tree_at old b) ∷ []) ≡ Some unifier
  pub bound : bound new ≡ bound old ++ unifier
  pub places : (r : Ref) → tree_at new r ≡ apply unifier (tree_at old r)
  pub variables : (k : ℕ) → tree_of_var new k ≡ apply unifier (tree_of_var old k)

-- no unifier of two places exists
abbrev pub NotUnified : State → Ref → Ref → Type 0
NotUnified old a b = mgu ((tree_at old a, tree_at old b) ∷ []) ≡ None

abbrev pub is_free : ℕ → List Link → Bool
is_free n [] = true
is_free n (l ∷ ls) = if nat_eq l.var n then false else is_free n ls

-- how many variables below a number are unbound
abbrev pub unbound : ℕ → List Link → ℕ
unbound zero ls = 0
unbound (suc n) ls = (if is_free n ls then 1 else 0) + unbound n ls

-- the words clash whatever the store
abbrev pub WordsClash : Word → Word → Type 0
WordsClash l r = (s : State) → WordIn (length s.cells) s.next l → WordIn (length s.cells) s.next r → IsClash (shape s l) (shape s r)

-- what two words call for
abbrev pub IsTurn : Word → Word → Turn → Type 0
IsTurn l r T.Same = l ≡ r
IsTurn l r T.Clash = WordsClash l r
IsTurn l r (T.Left n) = (l ≡ Var n) × ((m : ℕ) → r ≡ Var m → m < n)
IsTurn l r (T.Right n) = (r ≡ Var n) × ((m : ℕ) → l ≡ Var m → m < n)
IsTurn l r (T.Parts first second k) = (f : NameId) × (l ≡ Comp k f first) × (r ≡ Comp k f second)
