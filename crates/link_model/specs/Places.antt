-- The entries of units with their places, and what each is for linking.
use Rattle.std.specs.Prelude.{ℕ, suc, List, [], ◌∷◌, ◌++◌, length, map, codes, nat_eq, Bool, ◌&&◌}
use Rattle.pl_terms.specs.Trees.{Tree, var, int, atom, comp, count}
use Rattle.pl_ops.specs.Tables.{same_text}
use Rattle.unit_model.specs.Facts.{Indicator, What, exports, reexports_all, reexports, has_modes, declares, imports_all, imports, clause, Entry, Section, Facts}
use Rattle.unit_model.specs.Directives.{Text}
use Rattle.unit_model.specs.Builtins.{is_builtin}

abbrev pub Ind : Type 0
Ind = Indicator Text

abbrev pub same_ind : Ind → Ind → Bool
same_ind i j = same_text i.name j.name && nat_eq i.arity j.arity

abbrev pub is_built_in : Ind → Bool
is_built_in i = is_builtin i.name i.arity

abbrev pub user : Text
user = codes "user"

abbrev pub system : Text
system = codes "system"

-- What an entry is for linking. N is the type of names.
pub data Role (N : Type 0) : Type 0 where
  defining : Indicator N → Role N
  exporting : Indicator N → Role N
  reexporting_all : N → Role N
  reexporting : N → Indicator N → Role N
  moding : Indicator N → Role N
  importing_all : N → Role N
  importing : N → Indicator N → Role N
  idle : Role N

-- an entry with the number of its unit, that of its section there, its byte and its module
pub record Placed (N : Type 0) : Type 0 where
  pub unit : ℕ
  pub section : ℕ
  pub byte : ℕ
  pub of : N
  pub role : Role N

module _ {N : Type 0} where
  -- by the head of a clause
  abbrev pub defined_by : Tree N → Role N
  defined_by (var n) = idle
  defined_by (int z) = idle
  defined_by (atom s) = defining (record { name = s; arity = 0 })
  defined_by (comp s ts) = defining (record { name = s; arity = count ts })

  abbrev pub role_of : What N → Role N
  role_of (exports i) = exporting i
  role_of (reexports_all m) = reexporting_all m
  role_of (reexports m i) = reexporting m i
  role_of (has_modes s ms) = moding (record { name = s; arity = length ms })
  role_of (declares o) = idle
  role_of (imports_all m) = importing_all m
  role_of (imports m i) = importing m i
  role_of (clause n h b) = defined_by h

  abbrev pub place_of : ℕ → ℕ → N → Entry N → Placed N
  place_of u k m e = record { unit = u; section = k; byte = e.byte; of = m; role = role_of e.what }

  abbrev pub places_in : ℕ → ℕ → Section N → List (Placed N)
  places_in u k s = map (place_of u k s.of) s.entries

  abbrev pub places_from : ℕ → ℕ → List (Section N) → List (Placed N)
  places_from u k [] = []
  places_from u k (s ∷ ss) = places_in u k s ++ places_from u (suc k) ss

  -- the entries of units, in the order of units, sections and entries
  abbrev pub places_of : ℕ → List (Facts N) → List (Placed N)
  places_of u [] = []
  places_of u (f ∷ fs) = places_from u 0 f.sections ++ places_of (suc u) fs

-- each element with those before it
abbrev pub steps : {A : Type 0} → List A → List A → List (List A × A)
steps before [] = []
steps before (x ∷ xs) = (before, x) ∷ steps (before ++ x ∷ []) xs
