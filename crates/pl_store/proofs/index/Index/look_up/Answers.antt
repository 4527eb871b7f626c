use Rattle.std.proofs.Common.{ap, ◌∙◌}
use Rattle.pl_store.specs.Places.{next_place, earlier}
use Rattle.pl_store.specs.Tags.{same_tag}
use Rattle.pl_store.proofs.IndexLaws.{looked-up}
use Rattle.pl_store.proofs.index.Index.look_up.Goals as goal

pub returns : goal.returns
returns c =
    c.earlier.ensures
    ∙ ap (λ o. earlier o c.tagged-open.result) c.tagged-own.ensures
    ∙ ap (earlier (next_place (same_tag (record { owner = c.args.owner; class = c.args.class })) c.args.from c.args.self.now.tags)) c.tagged-open.ensures
    ∙ looked-up c.args.owner c.args.class c.args.from c.args.self.now.tags
