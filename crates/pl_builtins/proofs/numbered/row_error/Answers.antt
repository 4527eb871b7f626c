use Rattle.std.proofs.Common.{◌≡◌, ◌∙◌, ◌<◌, ap, sym, subst, arith, length, get_or}
use Rattle.pl_atoms.specs.CaseTable.{Case, case_of}
use Rattle.builtin_model.specs.Naming.{by_numbers, number_in}
use Rattle.builtin_model.specs.Faults.{fault_tree}
use Rattle.pl_builtin_ends.specs.Meets.{fault_of}
use Rattle.pl_builtin_ends.proofs.Known.{number-kept}
use Rattle.pl_builtin_ends.proofs.Kept.{kept-trans}
use Rattle.pl_builtins.specs.Ends.{row_at}
use Rattle.pl_builtins.proofs.Ended.{no_row, row-is, row-name, row-count, row-few}
use Rattle.pl_builtins.proofs.numbered.row_error.Goals as goal

pub bounds-builtins-row : goal.bounds-builtins-row
bounds-builtins-row c =
    let count : length c.builtins.result.now ≡ 62 = row-count c.builtins.result.now c.builtins.ensures.rows in
    omega (arith, count, c.requires.row)

pub overflow_cast-indicator : goal.overflow_cast-indicator
overflow_cast-indicator c =
    let row = row-is c.builtins.result.now c.args.row c.builtins.ensures.rows in
    let few : (case_of (get_or c.builtins.result.now c.args.row no_row)).arity < 256 = subst (λ x. x.arity < 256) (sym row) (row-few c.args.row) in
    omega (arith, few)

pub returns-clause-tree : goal.returns-clause-tree
returns-clause-tree c =
    let names = c.error_place.new.names in
    let fault = fault_of c.args.store.now.state c.args.fault in
    let found : Case = case_of (get_or c.builtins.result.now c.args.row no_row) in
    let row : found ≡ row_at c.args.row = row-is c.builtins.result.now c.args.row c.builtins.ensures.rows in
    let kept : c.in_ok-name.name.0 ≡ number_in names found.name =
    number-kept c.intern.new.names names c.in_ok-at.ensures.front c.len-count.ensures.distinct found.name c.in_ok-name.name.0 c.in_ok-name.ensures.known in
    c.in_ok-at.ensures.tree
    ∙ (ap (λ f. fault_tree (by_numbers names) fault f found.arity) kept
    ∙ ap (λ x. fault_tree (by_numbers names) fault (number_in names x.name) x.arity) row)

pub returns-in_err-at-clause-kept : goal.returns-in_err-at-clause-kept
returns-in_err-at-clause-kept c =
    let rows = c.builtins.result.now in
    let count : length rows ≡ 62 = row-count rows c.builtins.ensures.rows in
    let low : c.args.row < length rows = omega (arith, count, c.requires.row) in
    kept-trans c.args.names.now c.intern.new.names c.error_place.new.names (λ h. c.intern.ensures.there (h.procedures _ (row-name rows c.args.row c.builtins.ensures.rows low))) c.error_place.ensures.kept

pub returns-clause-kept : goal.returns-clause-kept
returns-clause-kept c =
    let rows = c.builtins.result.now in
    let count : length rows ≡ 62 = row-count rows c.builtins.ensures.rows in
    let low : c.args.row < length rows = omega (arith, count, c.requires.row) in
    kept-trans c.args.names.now c.intern.new.names c.error_place.new.names (λ h. c.intern.ensures.there (h.procedures _ (row-name rows c.args.row c.builtins.ensures.rows low))) c.error_place.ensures.kept
