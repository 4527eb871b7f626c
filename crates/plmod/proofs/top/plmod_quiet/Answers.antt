use Rattle.std.proofs.Common.{arith}
use Rattle.plmod.proofs.FetchedLaws.{answers_appends, tells_all, no_faults}
use Rattle.plmod.proofs.top.plmod_quiet.Goals as goal

pub returns-clause-output : goal.returns-clause-output
returns-clause-output c = λ some o h.
    answers_appends c.plmod.result o.status o.bytes _ _ (λ r. (let k = (c.plmod.ensures.meets.read_fault r).2 in absurd (omega (arith, k)))) (λ w. no_faults (c.plmod.ensures.meets.write_fault w)) some
    (c.plmod.ensures.meets.output (tells_all _ _ (λ n. tt)) o h)
