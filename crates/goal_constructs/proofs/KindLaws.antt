-- Rows that are not those of procedures of the program.
use Rattle.std.proofs.Common.{◌≡◌, ◌∙◌, ℕ, Bool, true, false, sym, codes, if◌then◌else◌}
use Rattle.pl_terms.specs.Trees.{Tree, var, int, atom, comp, Trees, nil, cons}
use Rattle.pl_unify.specs.declared.word.Ref.{Ref}
use Rattle.pl_unify.specs.declared.word.View.{View}
use Rattle.pl_unify.specs.State.{State, tree_at}
use Rattle.builtin_model.specs.Naming.{Naming}
use Rattle.goal_model.specs.Bodies.{is_named}
use Rattle.goal_model.specs.Rows.{Row, commit, if_then_else, if_then, either, negation, once, calling, in_module, from_context, repeat, throwing, catching, collecting, plain, user, either_row, row_of, name_of}
use Rattle.goal_constructs.specs.declared.row.GoalRow.{GoalRow}
use Rattle.goal_constructs.specs.declared.row.GoalRow.TheVariants as G
use Rattle.goal_constructs.specs.declared.kind.Kind.{Kind}
use Rattle.goal_constructs.specs.declared.kind.Kind.TheVariants as K
use Rattle.goal_constructs.specs.Goals.{IsRow, arguments_of}
use Rattle.goal_constructs.specs.Kinds.{IsNamed, IsRootOf, IsKind}

pub named_root : (r : View) (k : Kind) → IsNamed r → IsRootOf r k
named_root r (K.Plain row) h = h
named_root r K.User h = h
named_root r K.Construct h = tt

-- not a row of a procedure of the program
abbrev pub IsBuilt : Row ℕ → Type 0
IsBuilt (user f ts) = ⊥
IsBuilt r = Unit {0}

pub built_apart : (r q : Row ℕ) (f : ℕ) (ts : Trees ℕ) → q ≡ r → IsBuilt r → q ≡ user f ts → ⊥
built_apart commit q f ts e h g = let x : ◌≡◌ {A = Row ℕ} commit (user f ts) = sym e ∙ g in cc
built_apart (if_then_else a b d) q f ts e h g = let x : ◌≡◌ {A = Row ℕ} (if_then_else a b d) (user f ts) = sym e ∙ g in cc
built_apart (if_then a b) q f ts e h g = let x : ◌≡◌ {A = Row ℕ} (if_then a b) (user f ts) = sym e ∙ g in cc
built_apart (either a b) q f ts e h g = let x : ◌≡◌ {A = Row ℕ} (either a b) (user f ts) = sym e ∙ g in cc
built_apart (negation a) q f ts e h g = let x : ◌≡◌ {A = Row ℕ} (negation a) (user f ts) = sym e ∙ g in cc
built_apart (once a) q f ts e h g = let x : ◌≡◌ {A = Row ℕ} (once a) (user f ts) = sym e ∙ g in cc
built_apart (calling a b) q f ts e h g = let x : ◌≡◌ {A = Row ℕ} (calling a b) (user f ts) = sym e ∙ g in cc
built_apart (in_module a b) q f ts e h g = let x : ◌≡◌ {A = Row ℕ} (in_module a b) (user f ts) = sym e ∙ g in cc
built_apart (from_context a b) q f ts e h g = let x : ◌≡◌ {A = Row ℕ} (from_context a b) (user f ts) = sym e ∙ g in cc
built_apart repeat q f ts e h g = let x : ◌≡◌ {A = Row ℕ} repeat (user f ts) = sym e ∙ g in cc
built_apart (throwing a) q f ts e h g = let x : ◌≡◌ {A = Row ℕ} (throwing a) (user f ts) = sym e ∙ g in cc
built_apart (catching a b d) q f ts e h g = let x : ◌≡◌ {A = Row ℕ} (catching a b d) (user f ts) = sym e ∙ g in cc
built_apart (collecting a b d) q f ts e h g = let x : ◌≡◌ {A = Row ℕ} (collecting a b d) (user f ts) = sym e ∙ g in cc
built_apart (plain a b) q f ts e h g = let x : ◌≡◌ {A = Row ℕ} (plain a b) (user f ts) = sym e ∙ g in cc
built_apart (user a b) q f ts e h g = absurd h

-- a goal of such a row is a construct
pub built : (n : Naming ℕ) (s : State) (at : Ref) (r : Row ℕ) → row_of n (tree_at s at) ≡ r → IsBuilt r → IsKind n s at K.Construct
built n s at r e h = built_apart r (row_of n (tree_at s at)) (name_of n (tree_at s at)) (arguments_of (tree_at s at)) e h

either_cases : (b : Bool) (x y : Row ℕ) → IsBuilt x → IsBuilt y → IsBuilt (if b then x else y)
either_cases true x y h g = h
either_cases false x y h g = g

pub either_built : (n : Naming ℕ) (t u : Tree ℕ) → IsBuilt (either_row n t u)
either_built n (var v) u = tt
either_built n (int z) u = tt
either_built n (atom a) u = tt
either_built n (comp f nil) u = tt
either_built n (comp f (cons a nil)) u = tt
either_built n (comp f (cons a (cons b nil))) u =
    either_cases (is_named n f (codes "->")) (if_then_else a b u) (either (comp f (cons a (cons b nil))) u) tt tt
either_built n (comp f (cons a (cons b (cons d ts)))) u = tt

-- the kind of a goal of a row, where it is neither plain nor of the program's
abbrev pub IsOther : GoalRow → Type 0
IsOther (G.Plain row) = ⊥
IsOther G.User = ⊥
IsOther r = Unit {0}

pub other_kind : (n : Naming ℕ) (s : State) (at : Ref) (r : GoalRow) → IsOther r → IsRow n s at r → IsKind n s at K.Construct
other_kind n s at G.Commit o h = built n s at commit h tt
other_kind n s at (G.IfThenElse c t e) o h = built n s at (if_then_else (tree_at s c) (tree_at s t) (tree_at s e)) h.3 tt
other_kind n s at (G.IfThen c t) o h = built n s at (if_then (tree_at s c) (tree_at s t)) h.2 tt
other_kind n s at (G.Either l r) o h = built n s at (either (tree_at s l) (tree_at s r)) h.2 tt
other_kind n s at (G.Negation g) o h = built n s at (negation (tree_at s g)) h.1 tt
other_kind n s at (G.Once g) o h = built n s at (once (tree_at s g)) h.1 tt
other_kind n s at G.Calling o h = built n s at (calling _ _) h tt
other_kind n s at (G.InModule m g) o h = built n s at (in_module (tree_at s m) (tree_at s g)) h.2 tt
other_kind n s at (G.FromContext g m) o h = built n s at (from_context (tree_at s g) (tree_at s m)) h.2 tt
other_kind n s at G.Repeat o h = built n s at repeat h tt
other_kind n s at (G.Throwing b) o h = built n s at (throwing (tree_at s b)) h.1 tt
other_kind n s at (G.Catching g c r) o h = built n s at (catching (tree_at s g) (tree_at s c) (tree_at s r)) h.3 tt
other_kind n s at (G.Collecting x g z) o h = built n s at (collecting (tree_at s x) (tree_at s g) (tree_at s z)) h.3 tt
other_kind n s at (G.Plain row) o h = absurd o
other_kind n s at G.User o h = absurd o
