use Rattle.std.proofs.Common.{◌∙◌, map}
use Rattle.std.proofs.lemmas.List.{append-nil}
use Rattle.pl_unify.specs.State.{tree_at}
use Rattle.builtin_model.specs.Naming.{by_numbers}
use Rattle.pl_builtin_ends.proofs.Kept.{kept-trans}
use Rattle.pl_builtins.proofs.Ended.{row_of-low, kept-text, on_err}
use Rattle.pl_builtins.proofs.numbered.call.Goals as goal

pub row_error-requires-clause-row : goal.row_error-requires-clause-row
row_error-requires-clause-row c = row_of-low c.args.row c.in-Some.known c.in-Some.ensures

pub returns-in_err-at-in-Raise-clause-bytes : goal.returns-in_err-at-in-Raise-clause-bytes
returns-in_err-at-in-Raise-clause-bytes c =
    let old = c.args.store.now.state in
    on_err c.from_residual-in_err-at-in-Raise.result _
    (kept-text (by_numbers c.run.new.names) c.in-Some.known (map (tree_at old) c.args.args.now) c.args.caller.0 old.next old c.run.new.store.state
    c.in_ok-run-in-Some.field-0 c.in-Raise.fault c.args.text.now c.run.new.text c.in_ok-run-in-Some.ensures.done c.in-Raise.is c.in_ok-run-in-Some.ensures.text ∙ append-nil c.args.text.now)

pub returns-in_ok-at-in-Raise-clause-text : goal.returns-in_ok-at-in-Raise-clause-text
returns-in_ok-at-in-Raise-clause-text c =
    let old = c.args.store.now.state in
    kept-text (by_numbers c.run.new.names) c.in-Some.known (map (tree_at old) c.args.args.now) c.args.caller.0 old.next old c.run.new.store.state
    c.in_ok-run-in-Some.field-0 c.in-Raise.fault c.args.text.now c.run.new.text c.in_ok-run-in-Some.ensures.done c.in-Raise.is c.in_ok-run-in-Some.ensures.text

pub returns-in_err-at-in-Raise-clause-kept : goal.returns-in_err-at-in-Raise-clause-kept
returns-in_err-at-in-Raise-clause-kept c = kept-trans c.args.names.now c.run.new.names c.row_error.new.names c.run.ensures.kept c.row_error.ensures.kept

pub returns-in_ok-at-in-Raise-clause-kept : goal.returns-in_ok-at-in-Raise-clause-kept
returns-in_ok-at-in-Raise-clause-kept c = kept-trans c.args.names.now c.run.new.names c.row_error.new.names c.run.ensures.kept c.row_error.ensures.kept
