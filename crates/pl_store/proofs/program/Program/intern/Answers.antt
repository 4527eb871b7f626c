use Rattle.std.proofs.Common.{subst, sym, List, ℕ}
use Rattle.pl_store.specs.Facts.{IsLinked}
use Rattle.pl_store.specs.Linked.{with_names}
use Rattle.pl_store.proofs.FactLaws.{name-added}
use Rattle.pl_store.proofs.program.Program.intern.Goals as goal

pub invariant_of-self-2 : goal.invariant_of-self-2
invariant_of-self-2 c =
    subst (λ (ns : List (List ℕ)). IsLinked (with_names c.self.inside.tables ns)) (sym c.in_ok-id.ensures.ok)
    (name-added (with_names c.self.inside.tables c.self.inside.names) c.args.text.now c.self.invariant)
