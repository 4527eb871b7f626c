use Rattle.std.proofs.Common.{sym, subst}
use Rattle.pl_store.specs.Tags.{IsIndex, lists}
use Rattle.pl_store.proofs.TagLaws.{IsIndex-owner}
use Rattle.pl_store.proofs.index.Index.add_owner.Goals as goal

pub invariant_of-self-2 : goal.invariant_of-self-2
invariant_of-self-2 c =
    subst (λ l. IsIndex c.self.inside.entries.items l c.self.inside.tags.keys (lists c.self.inside.groups.items)) (sym c.in_ok-push.ensures.ok)
    (IsIndex-owner _ _ _ _ c.self.invariant)
