use Rattle.std.proofs.Common.{List, refl}
use Rattle.unit_model.specs.Facts.{Facts}
use Rattle.unit_model.specs.Directives.{Text}
use Rattle.mod_linker.specs.Linking.{IsLinkOf}
use Rattle.plmod.specs.declared.status.Status.TheVariants.{WriteFault}
use Rattle.plmod.specs.Growing.{grow_goal}
use Rattle.plmod.specs.Links.{link_lines}
use Rattle.plmod.specs.Last.{HasRun}
use Rattle.plmod.proofs.GrowRuns.{count_after, first_refused}
use Rattle.plmod.proofs.LastLaws.{no_run_for}
use Rattle.plmod.proofs.Tellings.{lines_of_link}
use Rattle.plmod.proofs.grow.grow_program.Goals as goal

pub returns-in-Ok-put-clause-output : goal.returns-in-Ok-put-clause-output
returns-in-Ok-put-clause-output g c = λ us o linked gives.
    count_after (link_lines us) us c.args.budget o c.count_run.result (g.O.Sink.written c.args.out.now) _ (g.O.Sink.written c.count_run.new.out)
    c.count_run.ensures.read (rw (c.as_slice.ensures, c.in-Ok.ensures, lines_of_link us c.args.program linked) at c.in-Ok-put.ensures.all) (λ p h. c.count_run.ensures.output us p linked h) gives

pub returns-in-Err-put-clause-output : goal.returns-in-Err-put-clause-output
returns-in-Err-put-clause-output g c = λ us o linked gives.
    first_refused (link_lines us) us c.args.budget o c.in-Err-put.fault c.write_status.result (g.O.Sink.written c.args.out.now) (g.O.Sink.written c.put.new.self)
    c.write_status.ensures.failed c.write_status.ensures.memory (rw (c.as_slice.ensures, c.in-Ok.ensures, lines_of_link us c.args.program linked) at c.in-Err-put.ensures.front) gives

pub returns-in-Err-put-clause-leaves : goal.returns-in-Err-put-clause-leaves
returns-in-Err-put-clause-leaves g c =
    no_run_for (λ m. (us : List (Facts Text)) → IsLinkOf us c.args.program → HasRun us c.args.budget grow_goal m) c.args.last.now c.in-Err-put.fault c.write_status.result WriteFault refl
    c.write_status.ensures.failed c.write_status.ensures.memory c.requires
