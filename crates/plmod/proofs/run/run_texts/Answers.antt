use Rattle.std.proofs.Common.{◌≤◌, length, map, Err, refl, ap}
use Rattle.std.proofs.lemmas.List.Elements.{All-same}
use Rattle.plmod.specs.declared.status.Status.TheVariants.{ReadFault}
use Rattle.plmod.specs.Meets.{Tells, bytes_under}
use Rattle.plmod.specs.Last.{HasRunOver, AreOfTexts}
use Rattle.plmod.proofs.CommandLaws.{under_short, all_meets, unread_all}
use Rattle.plmod.proofs.LastLaws.{no_run_for, all_leaves}
use Rattle.plmod.proofs.run.run_texts.Goals as goal

pub run_whole-requires-clause-short : goal.run_whole-requires-clause-short
run_whole-requires-clause-short g c =
    All-same (λ t. length t ≤ 67108864) c.as_slice.result.now c.in-Ok.contents c.as_slice.ensures (under_short (g.S.Shelf.file c.args.shelf.now) c.args.texts.now c.in-Ok.contents c.in-Ok.ensures.found)

pub returns-in-Ok-clause-meets : goal.returns-in-Ok-clause-meets
returns-in-Ok-clause-meets g c =
    all_meets c.args.budget c.args.goal.now c.args.texts.now c.in-Ok.contents c.run_whole.result _ c.in-Ok.ensures.found
    (rw (c.as_slice.ensures, c.as_bytes.ensures) at c.run_whole.ensures.output)
    c.run_whole.ensures.write_fault c.run_whole.ensures.read c.run_whole.ensures.used c.fetch_all.ensures.files

pub returns-in-Err-clause-meets : goal.returns-in-Err-clause-meets
returns-in-Err-clause-meets g c =
    unread_all c.args.budget c.args.goal.now c.args.texts.now c.in-Err.fault c.read_status.result _ c.read_status.ensures.failed c.read_status.ensures.memory
    (λ h. c.in-Err.ensures.cause (ap Err h)) c.fetch_all.ensures.files refl

pub returns-in-Ok-clause-leaves : goal.returns-in-Ok-clause-leaves
returns-in-Ok-clause-leaves g c =
    all_leaves c.args.budget c.args.goal.now c.args.texts.now c.in-Ok.contents c.run_whole.result (g.S.Shelf.file c.args.shelf.now) c.run_whole.new.last c.in-Ok.ensures.found
    (rw (c.as_slice.ensures, c.as_bytes.ensures) at c.run_whole.ensures.leaves)

pub returns-in-Err-clause-leaves : goal.returns-in-Err-clause-leaves
returns-in-Err-clause-leaves g c =
    no_run_for (λ m. Tells c.args.texts.now (g.S.Shelf.file c.args.shelf.now) → HasRunOver (AreOfTexts (map (bytes_under (g.S.Shelf.file c.args.shelf.now)) c.args.texts.now)) c.args.budget c.args.goal.now m)
    c.args.last.now c.in-Err.fault c.read_status.result ReadFault refl c.read_status.ensures.failed c.read_status.ensures.memory c.requires
