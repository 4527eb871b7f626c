-- Terms as goals (ISO/IEC 13211-1, 7.6.2): their conversion, the errors of it, and the goals of a conjunction.
use Rattle.std.specs.Prelude.{ℕ, List, [], ◌∷◌, ◌++◌, codes, nat_lt, Bool, Option, Some, None, Result, Ok, Err, if◌then◌else◌}
use Rattle.pl_atoms.specs.Names.{same_text}
use Rattle.pl_terms.specs.Trees.{Tree, var, int, atom, comp, Trees, nil, cons, count, append}
use Rattle.unit_model.specs.Directives.{is_control}
use Rattle.solver_model.specs.Search.{Item, Call}
use Rattle.builtin_model.specs.Naming.{Naming}
use Rattle.builtin_model.specs.Faults.{instantiation, max_arity, fault_tree, named, term_of_one, term_of_two, indicator}
use Rattle.goal_model.specs.Environments.{Environment}

-- a goal with its environment, and the depth to which a cut in it cuts
pub record Goal (N : Type 0) : Type 0 where
  pub tree : Tree N
  pub env : Environment N
  pub reach : ℕ

abbrev pub joined : {N : Type 0} → N → Option (Tree N) → Option (Tree N) → Option (Tree N)
joined f None q = None
joined f (Some l) None = None
joined f (Some l) (Some r) = Some (comp f (cons l (cons r nil)))

abbrev pub under : {N : Type 0} → (Tree N → Tree N) → Result (Tree N) (Tree N) → Result (Tree N) (Tree N)
under up (Ok t) = Ok (up t)
under up (Err b) = Err b

module _ {N : Type 0} (n : Naming N) where
  -- whether a name's text is this one
  abbrev pub is_named : N → List ℕ → Bool
  is_named f s = same_text (n.text f) s

  -- a term as a body: each variable in a goal place is the goal that calls it; none where such a place has an integer
  abbrev pub converted : Tree N → Option (Tree N)
  converted (var v) = Some (term_of_one n (codes "call") (var v))
  converted (int z) = None
  converted (comp f (cons l (cons r nil))) =
      if is_control (n.text f) then joined f (converted l) (converted r) else Some (comp f (cons l (cons r nil)))
  converted t = Some t

  -- the ball of a term that is no goal, where the construct f with k arguments takes it for one
  abbrev pub not_callable : Tree N → N → ℕ → Tree N
  not_callable t f k =
      term_of_two n (codes "error") (term_of_two n (codes "type_error") (named n (codes "callable")) t) (indicator n f k)

  abbrev pub convertible : Option (Tree N) → Tree N → N → ℕ → Result (Tree N) (Tree N)
  convertible None t f k = Err (not_callable t f k)
  convertible (Some b) t f k = Ok b

  -- the body of a term that the construct f with k arguments takes for a goal, or the ball of its error
  abbrev pub goal_of : Tree N → N → ℕ → Result (Tree N) (Tree N)
  goal_of (var v) f k = Err (fault_tree n instantiation f k)
  goal_of t f k = convertible (converted t) t f k

  -- the goals of a conjunction, with the depth to which a cut in them cuts
  abbrev pub flat : Tree N → Environment N → ℕ → List (Item (Goal N))
  flat (comp f (cons l (cons r nil))) env d =
      if is_named f (codes ",") then flat l env d ++ flat r env d
      else Call (record { tree = comp f (cons l (cons r nil)); env = env; reach = d }) ∷ []
  flat t env d = Call (record { tree = t; env = env; reach = d }) ∷ []

  -- ---- goals with arguments added

  abbrev pub with_arguments : N → Trees N → N → ℕ → Result (Tree N) (Tree N)
  with_arguments s ts f k = if nat_lt 255 (count ts) then Err (fault_tree n max_arity f k) else Ok (comp s ts)

  -- arguments are added to the innermost term of M:T; `whole` is the term that was given
  abbrev pub added : Tree N → Trees N → Tree N → N → ℕ → Result (Tree N) (Tree N)
  added whole us (var v) f k = Err (fault_tree n instantiation f k)
  added whole us (int z) f k = Err (not_callable whole f k)
  added whole us (atom s) f k = with_arguments s us f k
  added whole us (comp s (cons m (cons t nil))) f k =
      if is_named s (codes ":") then under (λ u. comp s (cons m (cons u nil))) (added whole us t f k)
      else with_arguments s (append (cons m (cons t nil)) us) f k
  added whole us (comp s ts) f k = with_arguments s (append ts us) f k

  abbrev pub goal_with : Result (Tree N) (Tree N) → N → ℕ → Result (Tree N) (Tree N)
  goal_with (Ok t) f k = goal_of t f k
  goal_with (Err b) f k = Err b

  -- the body of a term with arguments added
  abbrev pub called : Tree N → Trees N → N → ℕ → Result (Tree N) (Tree N)
  called t nil f k = goal_of t f k
  called t us f k = goal_with (added t us t f k) f k
