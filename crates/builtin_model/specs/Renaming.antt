-- What built-in predicates do under other names: each name replaced by its text.
use Rattle.std.specs.Prelude.{◌≡◌, ℕ, List, codes, map}
use Rattle.pl_terms.specs.Trees.{Tree, renamed}
use Rattle.builtin_model.specs.declared.row.Row.{Row}
use Rattle.builtin_model.specs.Naming.{Naming, by_texts}
use Rattle.builtin_model.specs.Faults.{Fault, instantiation, type_fault, domain_fault, max_arity, not_evaluable, evaluation}
use Rattle.builtin_model.specs.Deeds.{Deed, equal, differ, no, raise, halt, deed}
use Rattle.builtin_model.specs.Output.{output}

module _ {N M : Type 0} (f : N → M) where
  abbrev pub fault_renamed : Fault N → Fault M
  fault_renamed instantiation = instantiation
  fault_renamed (type_fault e t) = type_fault e (renamed f t)
  fault_renamed (domain_fault d t) = domain_fault d (renamed f t)
  fault_renamed max_arity = max_arity
  fault_renamed (not_evaluable a k) = not_evaluable (f a) k
  fault_renamed (evaluation e) = evaluation e

  abbrev pub equation_renamed : Tree N × Tree N → Tree M × Tree M
  equation_renamed e = (renamed f e.0, renamed f e.1)

  abbrev pub deed_renamed : Deed N → Deed M
  deed_renamed (equal es k) = equal (map equation_renamed es) k
  deed_renamed (differ t u) = differ (renamed f t) (renamed f u)
  deed_renamed no = no
  deed_renamed (raise e) = raise (fault_renamed e)
  deed_renamed (halt z) = halt z

-- the names that built-in predicates write into terms have their texts
pub record WritesNames {N : Type 0} (n : Naming N) : Type 0 where
  pub less : n.text (n.name (codes "<")) ≡ codes "<"
  pub same : n.text (n.name (codes "=")) ≡ codes "="
  pub greater : n.text (n.name (codes ">")) ≡ codes ">"
  pub dot : n.text (n.name (codes ".")) ≡ codes "."
  pub empty : n.text (n.name (codes "[]")) ≡ codes "[]"

-- with numbers for names, a row does what it does with their texts
abbrev pub DoesByTexts : Type 0
DoesByTexts = (n : Naming ℕ) → WritesNames n → (row : Row) (ts : List (Tree ℕ)) (caller next : ℕ)
    → deed_renamed n.text (deed n row ts caller next) ≡ deed by_texts row (map (renamed n.text) ts) (n.text caller) next

-- and writes the same bytes
abbrev pub WritesByTexts : Type 0
WritesByTexts = (n : Naming ℕ) (row : Row) (ts : List (Tree ℕ)) → output n row ts ≡ output by_texts row (map (renamed n.text) ts)
