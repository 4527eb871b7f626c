-- The errors of built-in predicates, and their terms (ISO/IEC 13211-1, 7.12.2).
use Rattle.std.specs.Prelude.{ℕ, pos, List, codes}
use Rattle.pl_terms.specs.Trees.{Tree, int, atom, comp, nil, cons}
use Rattle.value_model.specs.declared.EvalFault.{EvalFault}
use Rattle.value_model.specs.declared.EvalFault.TheVariants as V
use Rattle.builtin_model.specs.declared.error.Expected.{Expected}
use Rattle.builtin_model.specs.declared.error.Expected.TheVariants as E
use Rattle.builtin_model.specs.declared.error.Domain.{Domain}
use Rattle.builtin_model.specs.declared.error.Domain.TheVariants as D
use Rattle.builtin_model.specs.Naming.{Naming}

pub data Fault (N : Type 0) : Type 0 where
  instantiation : Fault N
  type_fault : Expected → Tree N → Fault N
  domain_fault : Domain → Tree N → Fault N
  -- a compound term would have too many arguments
  max_arity : Fault N
  -- no evaluable functor has this name and number of arguments
  not_evaluable : N → ℕ → Fault N
  -- an operation has no result
  evaluation : EvalFault → Fault N

abbrev pub expected_text : Expected → List ℕ
expected_text E.Atom = codes "atom"
expected_text E.Atomic = codes "atomic"
expected_text E.Character = codes "character"
expected_text E.Compound = codes "compound"
expected_text E.Integer = codes "integer"
expected_text E.List = codes "list"

abbrev pub domain_text : Domain → List ℕ
domain_text D.NonEmptyList = codes "non_empty_list"
domain_text D.NotLessThanZero = codes "not_less_than_zero"
domain_text D.Order = codes "order"

abbrev pub evaluation_text : EvalFault → List ℕ
evaluation_text V.Overflow = codes "int_overflow"
evaluation_text V.ZeroDivisor = codes "zero_divisor"
evaluation_text _ = codes "undefined"

module _ {N : Type 0} (n : Naming N) where
  abbrev pub named : List ℕ → Tree N
  named s = atom (n.name s)

  abbrev pub term_of_one : List ℕ → Tree N → Tree N
  term_of_one s t = comp (n.name s) (cons t nil)

  abbrev pub term_of_two : List ℕ → Tree N → Tree N → Tree N
  term_of_two s t u = comp (n.name s) (cons t (cons u nil))

  -- F/K
  abbrev pub indicator : N → ℕ → Tree N
  indicator f k = term_of_two (codes "/") (atom f) (int (pos k))

  abbrev pub error_term : Fault N → Tree N
  error_term instantiation = named (codes "instantiation_error")
  error_term (type_fault e t) = term_of_two (codes "type_error") (named (expected_text e)) t
  error_term (domain_fault d t) = term_of_two (codes "domain_error") (named (domain_text d)) t
  error_term max_arity = term_of_one (codes "representation_error") (named (codes "max_arity"))
  error_term (not_evaluable f k) = term_of_two (codes "type_error") (named (codes "evaluable")) (indicator f k)
  error_term (evaluation e) = term_of_one (codes "evaluation_error") (named (evaluation_text e))

  -- the ball of an error of the predicate f with k arguments: error(E, F/K)
  abbrev pub fault_tree : Fault N → N → ℕ → Tree N
  fault_tree e f k = term_of_two (codes "error") (error_term e) (indicator f k)
