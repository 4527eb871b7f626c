use Rattle.std.proofs.Common.{Some, length, ap}
use Rattle.pl_store.specs.Linked.{Procedure}
use Rattle.test_runs.proofs.Entered.{is_first, its_place, its_indicator}
use Rattle.test_runs.proofs.tests.facts.enter.Goals as goal

pub add_procedure-requires-clause-module : goal.add_procedure-requires-clause-module
add_procedure-requires-clause-module c = c.is_home.ensures c.if-not-is_home.false

pub add_procedure-requires-clause-new : goal.add_procedure-requires-clause-new
add_procedure-requires-clause-new c =
    is_first c.args.program.now c.args.home.0 (record { name = c.args.name.0; arity = 1 }) (c.is_bare.ensures c.if-not-is_bare.false)

pub add_procedure-requires-clause-modes : goal.add_procedure-requires-clause-modes
add_procedure-requires-clause-modes c = ap length c.in_ok-modes.ensures

pub add_procedure-requires-clause-name : goal.add_procedure-requires-clause-name
add_procedure-requires-clause-name c = c.has_name.ensures c.if-not-has_name.false

pub returns-clause-there : goal.returns-clause-there
returns-clause-there c =
    let made : Procedure = record { home = c.args.home.0; indicator = record { name = c.args.name.0; arity = 1 }; modes = Some c.in_ok-modes.modes } in
    its_place c.args.program.now c.add_procedure.new.self made c.in_ok-proc.proc.0 c.in_ok-proc.ensures.ok c.in_ok-proc.ensures.number

pub returns-clause-its : goal.returns-clause-its
returns-clause-its c =
    let made : Procedure = record { home = c.args.home.0; indicator = record { name = c.args.name.0; arity = 1 }; modes = Some c.in_ok-modes.modes } in
    its_indicator c.args.program.now c.add_procedure.new.self made c.in_ok-proc.proc.0 c.in_ok-proc.ensures.ok c.in_ok-proc.ensures.number
