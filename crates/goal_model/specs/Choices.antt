-- What is untried in the nodes around a search: the alternatives that may still be taken.
use Rattle.std.specs.Prelude.{◌≡◌, ℕ, ℤ, List, nat_eq, Bool, true, false, ◌&&◌, None, count_by}
use Rattle.std.specs.Ordering.{int_eq}
use Rattle.std.specs.List.{list_any}
use Rattle.pl_terms.specs.Trees.{Tree, var, int, atom, comp, cons, count}
use Rattle.solver_model.specs.Search.{Frame, Tries, Catches, Collects}
use Rattle.builtin_model.specs.Naming.{Naming}
use Rattle.goal_model.specs.Program.{Clause, Clauses}
use Rattle.goal_model.specs.Table.{Resolution, Alternative, leads, resolves, Recovery, Gathering, attempt}

-- what is known of a goal's first argument: its integer, its atom, or its name and number of arguments
pub data Key (N : Type 0) : Type 0 where
  any : Key N
  integer : ℤ → Key N
  name : N → Key N
  compound : N → ℕ → Key N

abbrev pub argument_key : {N : Type 0} → Tree N → Key N
argument_key (var v) = any
argument_key (int z) = integer z
argument_key (atom s) = name s
argument_key (comp f ts) = compound f (count ts)

-- of a goal without arguments nothing is known
abbrev pub key_of : {N : Type 0} → Tree N → Key N
key_of (comp f (cons t ts)) = argument_key t
key_of t = any

-- `same` tells whether two names are one
module _ {N : Type 0} (same : N → N → Bool) where
  -- whether an argument of this key may have a unifier with a clause's
  abbrev pub argument_fits : Key N → Tree N → Bool
  argument_fits any t = true
  argument_fits k (var v) = true
  argument_fits (integer y) (int z) = int_eq y z
  argument_fits (name r) (atom s) = same r s
  argument_fits (compound f k) (comp g ts) = same f g && nat_eq k (count ts)
  argument_fits k t = false

  -- whether a goal of this key may have a unifier with the head
  abbrev pub fits : Key N → Tree N → Bool
  fits k (comp g (cons t ts)) = argument_fits k t
  fits k head = true

  abbrev pub is_untried : Alternative N → Bool
  is_untried (leads s) = true
  is_untried (resolves r clause) = fits (key_of r.goal) clause.head

  -- a catch has its recovery untried, and a nested search what follows it
  abbrev pub is_open : Frame (Alternative N) (Recovery N) (Gathering N) (List (Tree N)) → Bool
  is_open (Tries e alternatives) = list_any is_untried alternatives
  is_open (Catches e r) = true
  is_open (Collects e answers g) = true

  -- how many nodes have something untried
  abbrev pub choices : List (Frame (Alternative N) (Recovery N) (Gathering N) (List (Tree N))) → ℕ
  choices = count_by is_open

-- where names are numbers, a clause that does not fit is no alternative
abbrev pub UnfitFail : Naming ℕ → Type 0
UnfitFail n = (r : Resolution ℕ) (clause : Clause ℕ) (c : Clauses ℕ) → is_untried nat_eq (resolves r clause) ≡ false → attempt n nat_eq (resolves r clause) c ≡ None
