use Rattle.std.proofs.Common.{ap, cond, ◌∙◌, Some}
use Rattle.std.specs.Map.{lookup}
use Rattle.unit_model.specs.Views.{ind_view}
use Rattle.mod_linker.specs.declared.key.Key.{Key}
use Rattle.mod_linker.specs.Keys.{key, same_key}
use Rattle.mod_linker.proofs.Providing.{is_new, found-provides, new-provides}
use Rattle.mod_linker.proofs.Visibles.{number-known}
use Rattle.mod_linker.proofs.Taking.{arity-of, not-there}
use Rattle.mod_linker.proofs.entering.Linker.procedure.Goals as goal

pub returns-in-Some : goal.returns-in-Some
returns-in-Some c =
    let l = c.args.self.now.program in
    let known = c.args.self.now.known.numbers.entries in
    let e = number-known l known (key c.args.home c.args.ind) c.of-key.result c.get.result c.requires.known c.of-key.ensures c.get.ensures in
    found-provides l c.args.home.0 (ind_view c.args.ind) c.args.declared.now.modes.entries c.in-Some.number known c.requires.known (e ∙ c.in-Some.is)

pub add_procedure-requires-clause-new : goal.add_procedure-requires-clause-new
add_procedure-requires-clause-new c =
    let l = c.args.self.now.program in
    let e = number-known l c.args.self.now.known.numbers.entries (key c.args.home c.args.ind) c.of-key.result c.get.result c.requires.known c.of-key.ensures c.get.ensures in
    is_new l c.args.home.0 (ind_view c.args.ind) (e ∙ not-there c.get.result c.in_default.not-Some)

pub add_procedure-requires-clause-modes : goal.add_procedure-requires-clause-modes
add_procedure-requires-clause-modes c =
    let table = c.args.declared.now.modes.entries in
    arity-of table (key c.args.home c.args.ind) c.in_ok-modes.modes c.requires.arity (c.in_ok-modes.ensures ∙ ap (λ (k : Key). lookup (same_key k) table) c.of-key.ensures)

pub returns : goal.returns
returns c =
    let l = c.args.self.now.program in
    let k = key c.args.home c.args.ind in
    let known = c.args.self.now.known.numbers.entries in
    let table = c.args.declared.now.modes.entries in
    let e = number-known l known k c.of-key.result c.get.result c.requires.known c.of-key.ensures c.get.ensures in
    new-provides l c.names.ensures.linked k c.in_ok-modes.modes table c.in_ok-proc.proc.0 c.add_procedure.new.self known c.put.new.self.numbers.entries c.requires.known (e ∙ not-there c.get.result c.in_default.not-Some)
    (c.in_ok-modes.ensures ∙ ap (λ (j : Key). lookup (same_key j) table) c.of-key.ensures) c.in_ok-proc.ensures.ok c.in_ok-proc.ensures.number
    (λ j. c.in_ok-put.ensures j ∙ ap (λ (i : Key). cond (same_key i j) (Some c.in_ok-proc.proc.0) (lookup (same_key j) known)) c.of-key.ensures)
