-- Goals of metapredicates (ISO/IEC 13211-2, 6.3).
use Rattle.std.specs.Prelude.{◌≡◌, ℕ, List, codes, Bool, not, ◌&&◌, nat_eq, true, false}
use Rattle.pl_atoms.specs.Names.{same_text}
use Rattle.pl_terms.specs.Trees.{Tree, comp, Trees, nil}
use Rattle.pl_unify.specs.declared.word.View.{View}
use Rattle.pl_unify.specs.declared.word.View.TheVariants.{Var, Int, Name, Comp}
use Rattle.builtin_model.specs.Naming.{Naming}
use Rattle.goal_model.specs.Environments.{is_qualified, qualified}

-- the number is that of the name : and of no other
pub record IsColon (n : Naming ℕ) (colon : ℕ) : Type 0 where
  pub named : n.name (codes ":") ≡ colon
  pub alone : (f : ℕ) → same_text (n.text f) (codes ":") ≡ nat_eq f colon

-- the goal as the metapredicate gets it that is called in a context
abbrev pub qualified_goal : Naming ℕ → List Bool → ℕ → Tree ℕ → Tree ℕ
qualified_goal n modes context (comp f ts) = comp f (qualified n modes context ts)
qualified_goal n modes context t = t

-- a metaargument that says no module
abbrev pub lacks_module : Naming ℕ → Bool → Tree ℕ → Bool
lacks_module n meta t = meta && not (is_qualified n t)

-- the arguments of a goal
abbrev pub arguments_of : Tree ℕ → Trees ℕ
arguments_of (comp f ts) = ts
arguments_of t = nil

abbrev pub is_name : View → Bool
is_name (Name a) = true
is_name (Var n) = false
is_name (Int z) = false
is_name (Comp f k) = false
