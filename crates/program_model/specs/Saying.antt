-- What units say of modules, entry by entry. N is the type of names, `same` tells whether two are one.
use Rattle.std.specs.Prelude.{List, [], ◌∷◌, map, length, nat_eq, Bool, false, ◌&&◌, Option, Some, None, if◌then◌else◌}
use Rattle.std.specs.List.{flat_map, filter_map}
use Rattle.std.specs.Option.{option_or}
use Rattle.pl_terms.specs.Trees.{Tree, var, int, atom, comp, count}
use Rattle.unit_model.specs.Facts.{Indicator, What, has_modes, clause, Section, Facts, what_by}
use Rattle.goal_model.specs.Program.{Clause}

-- an entry of a module
pub record Said (N : Type 0) : Type 0 where
  pub of : N
  pub what : What N

module _ {N M : Type 0} (f : N → M) where
  abbrev pub said_by : Said N → Said M
  said_by x = record { of = f x.of; what = what_by f x.what }

module _ {N : Type 0} where
  abbrev pub said_of : N → What N → Said N
  said_of m w = record { of = m; what = w }

  abbrev pub said_in : Section N → List (Said N)
  said_in s = map (λ e. said_of s.of e.what) s.entries

  -- the entries of units, in the order of units, sections and entries
  abbrev pub said : List (Facts N) → List (Said N)
  said us = flat_map (λ f. flat_map said_in f.sections) us

  -- the procedure of a head
  abbrev pub head_indicator : Tree N → Option (Indicator N)
  head_indicator (var n) = None
  head_indicator (int z) = None
  head_indicator (atom s) = Some (record { name = s; arity = 0 })
  head_indicator (comp s ts) = Some (record { name = s; arity = count ts })

module _ {N : Type 0} (same : N → N → Bool) where
  abbrev pub same_indicator : Indicator N → Indicator N → Bool
  same_indicator i j = same i.name j.name && nat_eq i.arity j.arity

  abbrev pub is_its : Indicator N → Option (Indicator N) → Bool
  is_its i None = false
  is_its i (Some j) = same_indicator i j

  abbrev pub clause_in : N → Indicator N → N → What N → Option (Clause N)
  clause_in d i m (clause n h b) = if same d m && is_its i (head_indicator h) then Some (record { width = n; head = h; body = b }) else None
  clause_in d i m _ = None

  -- the clauses of d for i, in their order
  abbrev pub clauses_said : List (Said N) → N → Indicator N → List (Clause N)
  clauses_said xs d i = filter_map (λ x. clause_in d i x.of x.what) xs

  abbrev pub modes_in : N → Indicator N → N → What N → Option (List Bool)
  modes_in d i m (has_modes s ms) = if same d m && same_indicator i (record { name = s; arity = length ms }) then Some ms else None
  modes_in d i m _ = None

  -- the last modes that d declares for i
  abbrev pub modes_said : List (Said N) → N → Indicator N → Option (List Bool)
  modes_said [] d i = None
  modes_said (x ∷ xs) d i = option_or (modes_said xs d i) (modes_in d i x.of x.what)
