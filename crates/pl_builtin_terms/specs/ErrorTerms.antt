-- The terms of errors, by the numbers of their names.
use Rattle.std.specs.Prelude.{ℕ, pos, List, codes}
use Rattle.pl_terms.specs.Trees.{Tree, int, atom, comp, nil, cons}
use Rattle.pl_unify.specs.State.{State, tree_at}
use Rattle.builtin_model.specs.Faults.{expected_text, domain_text, evaluation_text}
use Rattle.pl_builtin_ends.specs.declared.done.Raised.{Raised}
use Rattle.pl_builtin_ends.specs.declared.done.Raised.TheVariants as R
use Rattle.pl_builtin_terms.specs.declared.error_term.ErrorNames.{ErrorNames}

abbrev pub kind_text : Raised → List ℕ
kind_text R.Instantiation = codes "instantiation_error"
kind_text (R.Type e at) = codes "type_error"
kind_text (R.Domain d at) = codes "domain_error"
kind_text R.MaxArity = codes "representation_error"
kind_text (R.NotEvaluable f k) = codes "type_error"
kind_text (R.Evaluation e) = codes "evaluation_error"

-- the second name, or the first where there is no second
abbrev pub detail_text : Raised → List ℕ
detail_text R.Instantiation = codes "instantiation_error"
detail_text (R.Type e at) = expected_text e
detail_text (R.Domain d at) = domain_text d
detail_text R.MaxArity = codes "max_arity"
detail_text (R.NotEvaluable f k) = codes "evaluable"
detail_text (R.Evaluation e) = evaluation_text e

abbrev pub slash_tree : ErrorNames → ℕ → ℕ → Tree ℕ
slash_tree n f k = comp n.slash.0 (cons (atom f) (cons (int (pos k)) nil))

abbrev pub formal_tree : ErrorNames → State → Raised → Tree ℕ
formal_tree n s R.Instantiation = atom n.kind.0
formal_tree n s (R.Type e at) = comp n.kind.0 (cons (atom n.detail.0) (cons (tree_at s at) nil))
formal_tree n s (R.Domain d at) = comp n.kind.0 (cons (atom n.detail.0) (cons (tree_at s at) nil))
formal_tree n s R.MaxArity = comp n.kind.0 (cons (atom n.detail.0) nil)
formal_tree n s (R.NotEvaluable f k) = comp n.kind.0 (cons (atom n.detail.0) (cons (slash_tree n f.0 k) nil))
formal_tree n s (R.Evaluation e) = comp n.kind.0 (cons (atom n.detail.0) nil)

abbrev pub error_tree : ErrorNames → State → Raised → ℕ → ℕ → Tree ℕ
error_tree n s r f k = comp n.error.0 (cons (formal_tree n s r) (cons (slash_tree n f k) nil))
