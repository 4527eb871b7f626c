-- A linked program: modules, procedures with their clauses, and the procedures that are visible. Names are numbers.
use Rattle.std.specs.Prelude.{ℕ, List, [], ◌∷◌, ◌++◌, codes, slice_index_or, nat_eq, Bool, ◌&&◌, Option, None, find, refl, if◌then◌else◌}
use Rattle.std.specs.List.{list_any}
use Rattle.std.specs.Option.{option_map}
use Rattle.std.specs.Coded.{Coded, code_by, coded×, coded_ℕ, coded_bool, coded_list, coded_option}
use Rattle.pl_atoms.specs.Names.{same_text, with_text}
use Rattle.pl_terms.specs.Trees.{Tree}
use Rattle.pl_terms.specs.TreeCode.{tree_code}
use Rattle.unit_model.specs.Facts.{Indicator}
use Rattle.goal_model.specs.Program.{Clause}
use Rattle.goal_model.specs.Choices.{Key, any, integer, name, compound, fits}
use Rattle.pl_store.specs.declared.key.Key.{Key as CodeKey}
use Rattle.pl_store.specs.declared.key.Key.TheVariants as K

-- a procedure: the module that defines it, its name and number of arguments, and its modes where it is a metapredicate
pub record Procedure : Type 0 where
  pub home : ℕ
  pub indicator : Indicator ℕ
  pub modes : Option (List Bool)

-- a clause, with the number of its procedure
pub record StoredClause : Type 0 where
  pub procedure : ℕ
  pub clause : Clause ℕ

-- a procedure's name and number of arguments, with the number of the procedure that is visible under it from a module
pub record Row : Type 0 where
  pub lookup : ℕ
  pub indicator : Indicator ℕ
  pub procedure : ℕ

-- Procedures have their places as numbers. Clauses stand in the order in which they were added.
pub record Linked : Type 0 where
  pub names : List (List ℕ)
  pub modules : List ℕ
  pub procedures : List Procedure
  pub clauses : List StoredClause
  pub rows : List Row

-- ---- look-ups

abbrev pub same_indicator : Indicator ℕ → Indicator ℕ → Bool
same_indicator i j = nat_eq i.name j.name && nat_eq i.arity j.arity

abbrev pub is_row : ℕ → Indicator ℕ → Row → Bool
is_row m i r = nat_eq m r.lookup && same_indicator i r.indicator

-- the procedure that is visible from a module
abbrev pub visible_in : List Row → ℕ → Indicator ℕ → Option ℕ
visible_in rows m i = option_map (λ r. r.procedure) (find (is_row m i) rows)

abbrev pub is_procedure : ℕ → Indicator ℕ → Procedure → Bool
is_procedure d i p = nat_eq d p.home && same_indicator i p.indicator

abbrev pub is_system : List (List ℕ) → ℕ → Bool
is_system names m = same_text (slice_index_or names m []) (codes "system")

abbrev pub is_module : Linked → ℕ → Bool
is_module l m = list_any (nat_eq m) l.modules

-- stands past the end of the procedures, and of the clauses
abbrev pub no_procedure : Procedure
no_procedure = record { home = 0; indicator = record { name = 0; arity = 0 }; modes = None }

abbrev pub no_clause : StoredClause
no_clause = record { procedure = 0; clause = record { width = 0; head = Rattle.pl_terms.specs.Trees.var 0; body = Rattle.pl_terms.specs.Trees.var 0 } }

abbrev pub procedure_at : Linked → ℕ → Procedure
procedure_at l p = slice_index_or l.procedures p no_procedure

abbrev pub clause_at : Linked → ℕ → StoredClause
clause_at l c = slice_index_or l.clauses c no_clause

-- a key as what is known of a goal's first argument
abbrev pub key_view : CodeKey → Key ℕ
key_view K.Any = any
key_view (K.Int z) = integer z
key_view (K.Name s) = name s.0
key_view (K.Comp s k) = compound s.0 k

-- a clause of the procedure whose first argument may have a unifier with an argument of this key
abbrev pub may_match : ℕ → Key ℕ → StoredClause → Bool
may_match p key c = nat_eq p c.procedure && fits nat_eq key c.clause.head

-- ---- how a program grows

-- no modules
abbrev pub empty : Linked
empty = record { names = []; modules = []; procedures = []; clauses = []; rows = [] }

-- the modules, with this one last unless it is there
abbrev pub with_number : List ℕ → ℕ → List ℕ
with_number ms m = if list_any (nat_eq m) ms then ms else ms ++ m ∷ []

-- with this name, and with a module of this number and name; system is not among the modules
abbrev pub with_module : Linked → List ℕ → ℕ → Linked
with_module l text m = record l {
  names = with_text l.names text;
  modules = if same_text text (codes "system") then l.modules else with_number l.modules m;
}

abbrev pub with_procedure : Linked → Procedure → Linked
with_procedure l p = record l { procedures = l.procedures ++ p ∷ [] }

abbrev pub with_clause : Linked → StoredClause → Linked
with_clause l c = record l { clauses = l.clauses ++ c ∷ [] }

abbrev pub with_row : Linked → Row → Linked
with_row l r = record l { rows = l.rows ++ r ∷ [] }

abbrev pub with_names : Linked → List (List ℕ) → Linked
with_names l names = record l { names = names }

-- ---- how a linked program is stored

abbrev pub indicator_code : Coded (Indicator ℕ)
indicator_code = code_by (ℕ × ℕ) (coded× coded_ℕ coded_ℕ) (λ i. (i.name, i.arity)) (λ p. record { name = p.0; arity = p.1 }) (λ _. refl)

abbrev pub procedure_code : Coded Procedure
procedure_code =
    code_by (ℕ × (Indicator ℕ × Option (List Bool))) (coded× coded_ℕ (coded× indicator_code (coded_option (coded_list coded_bool))))
    (λ p. (p.home, (p.indicator, p.modes))) (λ p. record { home = p.0; indicator = p.1.0; modes = p.1.1 }) (λ _. refl)

abbrev pub clause_code : Coded (Clause ℕ)
clause_code =
    code_by (ℕ × (Tree ℕ × Tree ℕ)) (coded× coded_ℕ (coded× tree_code tree_code))
    (λ c. (c.width, (c.head, c.body))) (λ p. record { width = p.0; head = p.1.0; body = p.1.1 }) (λ _. refl)

abbrev pub entered_code : Coded StoredClause
entered_code =
    code_by (ℕ × Clause ℕ) (coded× coded_ℕ clause_code) (λ c. (c.procedure, c.clause)) (λ p. record { procedure = p.0; clause = p.1 }) (λ _. refl)

abbrev pub row_code : Coded Row
row_code =
    code_by (ℕ × (Indicator ℕ × ℕ)) (coded× coded_ℕ (coded× indicator_code coded_ℕ))
    (λ r. (r.lookup, (r.indicator, r.procedure))) (λ p. record { lookup = p.0; indicator = p.1.0; procedure = p.1.1 }) (λ _. refl)

abbrev pub linked_code : Coded Linked
linked_code =
    code_by (List (List ℕ) × (List ℕ × (List Procedure × (List StoredClause × List Row))))
    (coded× (coded_list (coded_list coded_ℕ)) (coded× (coded_list coded_ℕ) (coded× (coded_list procedure_code) (coded× (coded_list entered_code) (coded_list row_code)))))
    (λ l. (l.names, (l.modules, (l.procedures, (l.clauses, l.rows)))))
    (λ p. record { names = p.0; modules = p.1.0; procedures = p.1.1.0; clauses = p.1.1.1.0; rows = p.1.1.1.1 })
    (λ _. refl)
