use Rattle.std.specs.Io.KnownBytes.{Appends}
use Rattle.plm_io.specs.Causes.{AppendsFront}
use Rattle.pl_machine.specs.declared.fault.RunFault.TheVariants.{WriteFault}
use Rattle.goal_runs.proofs.Joining.{ended, put, nothing-put, on-err, handed-on}
use Rattle.goal_runs.proofs.running.run_term.Goals as goal

pub returns-in_err-machine-clause-front : goal.returns-in_err-machine-clause-front
returns-in_err-machine-clause-front g c = on-err c.from_residual.result _ (λ q says. nothing-put _ _)

pub returns-in_err-end-clause-front : goal.returns-in_err-end-clause-front
returns-in_err-end-clause-front g c =
    on-err c.from_residual-in_err-end.result _
    (put c.requires.further c.runs_by_texts.ensures c.args.program c.args.goal.now c.args.budget c.in_ok-machine.machine
    c.requires.linked c.in_ok-machine.ensures c.requires.below
    c.args.show (AppendsFront (g.O.Sink.written c.args.out.now) (g.O.Sink.written c.run.new.out)) c.in_err-end.ensures.front)

pub returns-in_err-end-clause-cause : goal.returns-in_err-end-clause-cause
returns-in_err-end-clause-cause g c =
    handed-on c.from_residual-in_err-end.result c.in_err-end.field-0.0 WriteFault _ c.from_residual-in_err-end.ensures.1 c.in_err-end.ensures.cause

pub returns-clause-finished : goal.returns-clause-finished
returns-clause-finished g c =
    ended c.requires.further c.runs_by_texts.ensures c.args.program c.args.goal.now c.args.budget c.in_ok-machine.machine
    c.requires.linked c.in_ok-machine.ensures c.requires.below
    c.run.new.self c.in_ok-end.end c.in_ok-end.ensures.ran c.in_ok-end.ensures.over

pub returns-clause-shown : goal.returns-clause-shown
returns-clause-shown g c =
    put c.requires.further c.runs_by_texts.ensures c.args.program c.args.goal.now c.args.budget c.in_ok-machine.machine
    c.requires.linked c.in_ok-machine.ensures c.requires.below
    c.args.show (Appends (g.O.Sink.written c.args.out.now) (g.O.Sink.written c.run.new.out)) c.in_ok-end.ensures.all
