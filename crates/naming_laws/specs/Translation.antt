-- Names that stand for other names.
use Rattle.std.specs.Prelude.{◌≡◌, ℕ, List, [], ◌∷◌, codes, Bool, true, map, option_map}
use Rattle.std.specs.List.{list_any}
use Rattle.pl_atoms.specs.Names.{same_text}
use Rattle.pl_terms.specs.Trees.{renamed}
use Rattle.unit_model.specs.Facts.{Indicator, indicator_by}
use Rattle.builtin_model.specs.Naming.{Naming}
use Rattle.goal_model.specs.Program.{Clause, Program}

-- The texts of the names that a run writes into terms, or begins with: those of errors, of control constructs, of lists, of how two terms
-- stand to each other, and of the module user. No run makes another name: functor, =.. and copy_term take the names of their arguments.
abbrev pub written_names : List (List ℕ)
written_names =
    codes "user" ∷ codes "call" ∷ codes ":" ∷ codes "/" ∷ codes "." ∷ codes "[]" ∷ codes "<" ∷ codes "=" ∷ codes ">"
    ∷ codes "error" ∷ codes "instantiation_error" ∷ codes "type_error" ∷ codes "domain_error" ∷ codes "existence_error" ∷ codes "representation_error" ∷ codes "evaluation_error"
    ∷ codes "module" ∷ codes "procedure" ∷ codes "callable" ∷ codes "evaluable" ∷ codes "max_arity"
    ∷ codes "atom" ∷ codes "atomic" ∷ codes "character" ∷ codes "compound" ∷ codes "integer" ∷ codes "list"
    ∷ codes "non_empty_list" ∷ codes "not_less_than_zero" ∷ codes "order"
    ∷ codes "int_overflow" ∷ codes "zero_divisor" ∷ codes "undefined" ∷ []

abbrev pub is_written : List ℕ → Bool
is_written s = list_any (same_text s) written_names

-- each name stands for one of the same text, and so do the names that a run writes
pub record Translates {N M : Type 0} (n : Naming N) (m : Naming M) (f : N → M) : Type 0 where
  pub text : (a : N) → m.text (f a) ≡ n.text a
  pub name : (s : List ℕ) → is_written s ≡ true → f (n.name s) ≡ m.name s

module _ {N M : Type 0} (f : N → M) where
  abbrev pub clause_by : Clause N → Clause M
  clause_by c = record { width = c.width; head = renamed f c.head; body = renamed f c.body }

-- the second program says of the names that stand for those of the first what that says of them
pub record Follows {N M : Type 0} (f : N → M) (p : Program N) (q : Program M) : Type 0 where
  pub exists : (a : N) → q.exists (f a) ≡ p.exists a
  pub visible : (a : N) (i : Indicator N) → q.visible (f a) (indicator_by f i) ≡ option_map f (p.visible a i)
  pub modes : (a : N) (i : Indicator N) → q.modes (f a) (indicator_by f i) ≡ p.modes a i
  pub clauses : (a : N) (i : Indicator N) → q.clauses (f a) (indicator_by f i) ≡ map (clause_by f) (p.clauses a i)
