use Rattle.std.proofs.Common.{rules}
use Rattle.std.specs.Ordering.{is_lt}
use Rattle.std.proofs.lemmas.Fn.{always_returns_same}
use Rattle.pl_atoms.specs.CaseTable.{case_of, case_cmp}
use Rattle.pl_atoms.proofs.Cases.{ascends_answer}
use Rattle.pl_atoms.proofs.case_table.ascending.Goals as goal

pub returns : goal.returns
returns c =
    ascends_answer c.args.rows.now c.is_sorted_by.result
    (c.is_sorted_by.ensures.cases (λ x y. is_lt (case_cmp (case_of x) (case_of y))) (always_returns_same _ _ _ (λ a r g call. search rules)))
