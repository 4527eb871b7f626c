use Rattle.std.proofs.Common.{Err, map, refl, ap}
use Rattle.plmod.specs.declared.status.Status.TheVariants.{ReadFault}
use Rattle.plmod.specs.Meets.{Tells, bytes_under}
use Rattle.plmod.specs.Last.{HasRunOver, AreLinked}
use Rattle.plmod.proofs.CommandLaws.{under_length, run_meets, unread_run}
use Rattle.plmod.proofs.LastLaws.{no_run_for, run_leaves}
use Rattle.plmod.proofs.run.run_units.Goals as goal

pub run_contents-requires-clause-same : goal.run_contents-requires-clause-same
run_contents-requires-clause-same g c = rw c.as_slice.ensures (under_length (g.S.Shelf.file c.args.shelf.now) c.args.units.now c.in-Ok.contents c.in-Ok.ensures.found)

pub returns-in-Ok-clause-meets : goal.returns-in-Ok-clause-meets
returns-in-Ok-clause-meets g c =
    run_meets c.args.budget c.args.goal.now c.args.units.now c.in-Ok.contents c.run_contents.result _ c.in-Ok.ensures.found
    (rw (c.as_slice.ensures, c.as_bytes.ensures) at c.run_contents.ensures.output)
    c.run_contents.ensures.write_fault c.run_contents.ensures.read c.run_contents.ensures.used c.fetch_all.ensures.files

pub returns-in-Err-clause-meets : goal.returns-in-Err-clause-meets
returns-in-Err-clause-meets g c =
    unread_run c.args.budget c.args.goal.now c.args.units.now c.in-Err.fault c.read_status.result _ c.read_status.ensures.failed c.read_status.ensures.memory
    (λ h. c.in-Err.ensures.cause (ap Err h)) c.fetch_all.ensures.files refl

pub returns-in-Ok-clause-leaves : goal.returns-in-Ok-clause-leaves
returns-in-Ok-clause-leaves g c =
    run_leaves c.args.budget c.args.goal.now c.args.units.now c.in-Ok.contents c.run_contents.result (g.S.Shelf.file c.args.shelf.now) c.run_contents.new.last c.in-Ok.ensures.found
    (rw (c.as_slice.ensures, c.as_bytes.ensures) at c.run_contents.ensures.leaves)

pub returns-in-Err-clause-leaves : goal.returns-in-Err-clause-leaves
returns-in-Err-clause-leaves g c =
    no_run_for (λ m. Tells c.args.units.now (g.S.Shelf.file c.args.shelf.now) → HasRunOver (AreLinked (map (bytes_under (g.S.Shelf.file c.args.shelf.now)) c.args.units.now)) c.args.budget c.args.goal.now m)
    c.args.last.now c.in-Err.fault c.read_status.result ReadFault refl c.read_status.ensures.failed c.read_status.ensures.memory c.requires
