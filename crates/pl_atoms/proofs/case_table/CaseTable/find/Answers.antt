use Rattle.std.proofs.Common.{rules, ◌∙◌, ap}
use Rattle.std.proofs.lemmas.Fn.{always_returns_same}
use Rattle.std.specs.declared.cmp.Ordering.{Ordering}
use Rattle.pl_atoms.specs.declared.case_table.CaseRow.{CaseRow}
use Rattle.pl_atoms.specs.CaseTable.{case_of, case_cmp, case_place}
use Rattle.pl_atoms.proofs.Cases.{search_place, sought}
use Rattle.pl_atoms.proofs.case_table.CaseTable.find.Goals as goal

pub returns-clause-place : goal.returns-clause-place
returns-clause-place c =
    let ord : CaseRow → Ordering = λ row. case_cmp (case_of row) (sought c.args.name.now c.args.arity) in
    let found = c.binary_search_by.ensures.position ord (always_returns_same _ _ _ (λ a r g call. search rules)) in
    c.ok.ensures.value
    ∙ search_place _ c.self.invariant c.args.name.now c.args.arity _ c.binary_search_by.ensures.bound found
    ∙ ap (λ cases. case_place cases c.args.name.now c.args.arity) c.self.view_is
