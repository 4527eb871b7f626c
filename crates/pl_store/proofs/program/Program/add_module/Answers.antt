use Rattle.std.proofs.Common.{subst, sym, length, ◌<◌, List, ℕ}
use Rattle.std.proofs.lemmas.Option.{slice_get_within}
use Rattle.pl_store.specs.Facts.{IsLinked}
use Rattle.pl_store.specs.Linked.{with_names}
use Rattle.pl_store.proofs.FactLaws.{module-added}
use Rattle.pl_store.proofs.program.Program.add_module.Goals as goal

pub invariant_of-self-2 : goal.invariant_of-self-2
invariant_of-self-2 c =
    subst IsLinked (sym c.in_ok-id.ensures.ok)
    (module-added (with_names c.self.inside.tables c.self.inside.names) c.args.name.now c.in_ok-id.id.0 c.self.invariant
    (subst (λ (ns : List (List ℕ)). c.in_ok-id.id.0 < length ns) c.in_ok-id.ensures.names (slice_get_within c.add_module.new.names c.in_ok-id.id.0 _ c.in_ok-id.ensures.number)))
