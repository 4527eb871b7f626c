-- What the root of a goal tells of it.
use Rattle.std.specs.Prelude.{◌≡◌, ℕ}
use Rattle.pl_unify.specs.declared.word.Ref.{Ref}
use Rattle.pl_unify.specs.declared.word.View.{View}
use Rattle.pl_unify.specs.declared.word.View.TheVariants as V
use Rattle.pl_unify.specs.State.{State, tree_at}
use Rattle.pl_unify.specs.Shape.{root}
use Rattle.builtin_model.specs.Naming.{Naming}
use Rattle.goal_constructs.specs.declared.constructs.Constructs.{Constructs}
use Rattle.goal_constructs.specs.declared.row.GoalRow.TheVariants as G
use Rattle.goal_constructs.specs.declared.kind.Kind.{Kind}
use Rattle.goal_constructs.specs.declared.kind.Kind.TheVariants as K
use Rattle.goal_constructs.specs.Constructs.{AreConstructs}
use Rattle.goal_constructs.specs.Goals.{IsRow}

-- an atom or a compound
abbrev pub IsNamed : View → Type 0
IsNamed (V.Var v) = ⊥
IsNamed (V.Int z) = ⊥
IsNamed (V.Name f) = Unit {0}
IsNamed (V.Comp f k) = Unit {0}

-- built-in predicates and procedures of the program have names
abbrev pub IsRootOf : View → Kind → Type 0
IsRootOf r (K.Plain row) = IsNamed r
IsRootOf r K.User = IsNamed r
IsRootOf r K.Construct = Unit {0}

-- the goal at a place is of a kind
abbrev pub IsKind : Naming ℕ → State → Ref → Kind → Type 0
IsKind n s at (K.Plain row) = IsRow n s at (G.Plain row)
IsKind n s at K.User = IsRow n s at G.User
IsKind n s at K.Construct = IsRow n s at G.User → ⊥

-- each goal with this root is of a kind
abbrev pub AllAre : Constructs → View → Kind → Type 0
AllAre c r k = (n : Naming ℕ) → AreConstructs n c → (s : State) (at : Ref) → root (tree_at s at) ≡ r → IsKind n s at k
