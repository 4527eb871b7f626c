-- What a store stands for.
use Rattle.std.specs.Prelude.{◌≡◌, ℕ, ◌<◌, ◌≤◌, List, [], ◌∷◌, ◌++◌, take, drop, map, length, false, slice_index_or}
use Rattle.pl_terms.specs.Trees.{Tree, var, int, atom, comp}
use Rattle.unifier_model.specs.Substitution.{occurs, replace, apply}
use Rattle.pl_unify.specs.Prefix.{trees}
use Rattle.pl_unify.specs.declared.word.Word.{Word}
use Rattle.pl_unify.specs.declared.word.Word.TheVariants.{Var, Int, Name, Comp}
use Rattle.pl_unify.specs.declared.store.Mark.{Mark}
use Rattle.pl_unify.specs.declared.word.Ref.{Ref}
use Rattle.pl_unify.specs.Words.{word_tree, no_word, bases, bound_onto, Link, no_link, IsFree, WordIn}

-- the words of the places, the bindings from the oldest on, and the next variable's number
pub record State : Type 0 where
  pub cells : List Word
  pub links : List Link
  pub next : ℕ

-- a state, and how many cells, variables and bindings can be added without taking memory
pub record Stored : Type 0 where
  pub state : State
  pub cell_room : ℕ
  pub var_room : ℕ
  pub trail_room : ℕ

abbrev pub base : State → List (Tree ℕ)
base s = bases [] s.cells

abbrev pub bound : State → List (ℕ × Tree ℕ)
bound s = bound_onto (base s) [] s.links

-- the tree of a word, bindings followed
abbrev pub tree_of_word : State → Word → Tree ℕ
tree_of_word s w = apply (bound s) (word_tree (base s) w)

-- the tree of a place
abbrev pub tree_at : State → Ref → Tree ℕ
tree_at s r = apply (bound s) (slice_index_or (base s) r.0 (var 0))

-- the tree of a variable's number
abbrev pub tree_of_var : State → ℕ → Tree ℕ
tree_of_var s n = apply (bound s) (var n)

-- the trees of the places, bindings followed
abbrev pub places : State → List (Tree ℕ)
places s = map (apply (bound s)) (base s)

-- the tree of a word whose variable is unbound
abbrev pub shape : State → Word → Tree ℕ
shape s (Var n) = var n
shape s (Int z) = int z
shape s (Name a) = atom a.0
shape s (Comp k f first) = comp f.0 (trees (take k (drop first (places s))))

-- the place is one of the store
abbrev pub IsRef : State → Ref → Type 0
IsRef s r = r.0 < length s.cells

-- a link is in order behind the older ones: its variable is not bound yet and not in what it is bound to,
-- and a variable that it is bound to is not bound yet
pub record LinkOk (base : List (Tree ℕ)) (older : List Link) (l : Link) : Type 0 where
  pub unused : IsFree l.var older
  pub acyclic : occurs l.var (apply (bound_onto base [] older) (word_tree base l.word)) ≡ false
  pub ahead : (m : ℕ) → l.word ≡ Var m → IsFree m older

pub record LinkIn (cells next : ℕ) (l : Link) : Type 0 where
  pub number : l.var < next
  pub word : WordIn cells next l.word

-- a state that calls of a store make
pub record IsStore (s : State) : Type 0 where
  pub cells_in : (p : ℕ) → p < length s.cells → WordIn p s.next (slice_index_or s.cells p no_word)
  pub links_in : (i : ℕ) → i < length s.links → LinkIn (length s.cells) s.next (slice_index_or s.links i no_link)
  pub links_ok : (i : ℕ) → i < length s.links → LinkOk (bases [] s.cells) (take i s.links) (slice_index_or s.links i no_link)

-- the state that a mark was made in
abbrev pub state_at : Mark → State → State
state_at m s = record { cells = take m.cells s.cells; links = take m.trail s.links; next = m.vars }

-- a mark of this store that no later undo went behind
pub record IsMark (m : Mark) (s : State) : Type 0 where
  pub cells : m.cells ≤ length s.cells
  pub trail : m.trail ≤ length s.links
  pub vars : m.vars ≤ s.next
  pub store : IsStore (state_at m s)

-- the new state has all of the old one, so every mark of the old one keeps its state
pub record Extends (old new : State) : Type 0 where
  pub cells : take (length old.cells) new.cells ≡ old.cells
  pub links : take (length old.links) new.links ≡ old.links
  pub next : old.next ≤ new.next
  pub more_cells : length old.cells ≤ length new.cells
  pub more_links : length old.links ≤ length new.links

-- further places and variables alone were added, and each old tree is as before
pub record Grows (old new : State) : Type 0 where
  pub extends : Extends old new
  pub links : new.links ≡ old.links
  pub bound : bound new ≡ bound old
  pub places : (r : Ref) → IsRef old r → tree_at new r ≡ tree_at old r
  pub variables : (n : ℕ) → tree_of_var new n ≡ tree_of_var old n

-- the bindings as links
abbrev pub links_of : List Word → List ℕ → List Link
links_of vars trail = map (λ n. record { var = n; word = slice_index_or vars n no_word }) trail

-- a variable without a binding has its own word
abbrev pub FreeAreOwn : List Word → List ℕ → Type 0
FreeAreOwn vars trail = (n : ℕ) → n < length vars → IsFree n (links_of vars trail) → slice_index_or vars n no_word ≡ Var n

-- what the fields of a store keep
pub record IsStoreInside (cells vars : List Word) (trail : List ℕ) : Type 0 where
  pub store : IsStore (record { cells = cells; links = links_of vars trail; next = length vars })
  pub free : FreeAreOwn vars trail

-- a binding was added: n is replaced by t everywhere
pub record Binds (old new : State) (n : ℕ) (t : Tree ℕ) : Type 0 where
  pub extends : Extends old new
  pub cells : new.cells ≡ old.cells
  pub next : new.next ≡ old.next
  pub bound : bound new ≡ bound old ++ (n, t) ∷ []
  pub places : (r : Ref) → tree_at new r ≡ replace n t (tree_at old r)
  pub variables : (k : ℕ) → tree_of_var new k ≡ replace n t (tree_of_var old k)

-- what taking bindings off needs: each variable is there and bound once
pub record IsUnbindable (vars : List Word) (trail : List ℕ) : Type 0 where
  pub low : (i : ℕ) → i < length trail → slice_index_or trail i 0 < length vars
  pub once : (i : ℕ) → i < length trail → IsFree (slice_index_or trail i 0) (take i (links_of vars trail))
  pub free : FreeAreOwn vars trail
