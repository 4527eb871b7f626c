use Rattle.std.proofs.Common.{refl}
use Rattle.plmod.proofs.GrownLaws.{grown_meets}
use Rattle.plmod.proofs.LastLaws.{grow_leaves}
use Rattle.plmod.proofs.top.serve.Goals as goal

pub returns-in-Grow-clause-meets : goal.returns-in-Grow-clause-meets
returns-in-Grow-clause-meets g c =
    rw c.in-Grow.is (grown_meets c.in-Grow.count c.in-Grow.budget c.grow.result _ c.grow.ensures.output c.grow.ensures.write_fault c.grow.ensures.read c.grow.ensures.used refl)

pub returns-in-Grow-clause-leaves : goal.returns-in-Grow-clause-leaves
returns-in-Grow-clause-leaves g c =
    rw c.in-Grow.is (grow_leaves c.in-Grow.count c.in-Grow.budget c.grow.result (g.S.Shelf.file c.args.shelf.now) c.grow.new.last c.grow.ensures.leaves)
