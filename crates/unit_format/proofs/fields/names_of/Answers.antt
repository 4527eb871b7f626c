use Rattle.std.proofs.Common.{[]}
use Rattle.std.proofs.lemmas.Result.{err_from_is_err_and}
use Rattle.unit_format.specs.Reading.{names_from}
use Rattle.unit_format.proofs.NameLaws.{goes_on, ends, refuses, is_done}
use Rattle.unit_format.proofs.fields.names_of.Goals as goal

pub returns-in_err-text : goal.returns-in_err-text
returns-in_err-text c =
    let p = err_from_is_err_and c.from_residual.result c.from_residual.ensures.1 in
    rw (p.1, p.2) (ends c.in_err-text.field-0.0 c.loop.names c.args.count c.loop.counter c.loop.rest.now (names_from c.args.count [] c.args.bytes.now) c.loop-test.true c.in_err-text.ensures c.loop.invariant)

pub returns-in_err-add_name : goal.returns-in_err-add_name
returns-in_err-add_name c =
    let p = err_from_is_err_and c.from_residual-in_err-add_name.result c.from_residual-in_err-add_name.ensures.1 in
    rw (p.1, p.2) (refuses c.in_err-add_name.field-0.0 c.loop.names c.args.count c.loop.counter c.loop.rest.now c.in_ok-text.text.now c.in_ok-text.after.now (names_from c.args.count [] c.args.bytes.now) c.loop-test.true c.in_ok-text.ensures c.in_err-add_name.ensures.err c.loop.invariant)

pub loop-preserved : goal.loop-preserved
loop-preserved c =
    rw c.in_ok-add_name.ensures.ok.1 (goes_on c.loop.names c.args.count c.loop.counter c.loop.rest.now c.in_ok-text.text.now c.in_ok-text.after.now (names_from c.args.count [] c.args.bytes.now) c.loop-test.true c.in_ok-text.ensures c.in_ok-add_name.ensures.ok.0 c.loop.invariant)

pub returns : goal.returns
returns c = is_done c.loop.names c.args.count c.loop.counter c.loop.rest.now (names_from c.args.count [] c.args.bytes.now) c.loop-test.false c.loop.invariant
