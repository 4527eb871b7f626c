use Rattle.std.proofs.Common.{◌<◌, length, sym, ap, subst, ◌∙◌, arith}
use Rattle.pl_store.specs.Tags.{Indexed}
use Rattle.pl_store.proofs.IndexLaws.{left, scan-none, step-within, step-hit, step-on, step-less}
use Rattle.pl_store.proofs.index.Index.scan.Goals as goal

pub index-entry-requires : goal.index-entry-requires
index-entry-requires c =
    let low = step-within _ _ _ _ c.self.invariant c.args.self.now (ap (λ (x : Indexed). x.tags) c.self.view_is) c.args.owner c.args.class c.args.from c.loop-at.invariant.0 c.in-Some.place c.loop-at.invariant.2 (sym c.in-Some.is ∙ c.loop-at.invariant.1) in
    omega (arith, low, c.self.inside.entries.ok.0)

pub returns-then-is_fit : goal.returns-then-is_fit
returns-then-is_fit c =
    step-hit _ _ _ _ c.self.invariant c.args.self.now (ap (λ (x : Indexed). x.tags) c.self.view_is) c.args.owner c.args.class c.args.from c.loop-at.invariant.0 c.in-Some.place c.loop-at.invariant.2 (sym c.in-Some.is ∙ c.loop-at.invariant.1)
    c.index-entry.result.now c.index-entry.ensures (sym c.is_fit.ensures ∙ c.if-is_fit.true)

pub loop-at-smaller : goal.loop-at-smaller
loop-at-smaller c =
    subst (λ o. left c.index-entry.result.now.next (length c.args.self.now.tags) < left o (length c.args.self.now.tags)) (sym c.in-Some.is)
    (step-less _ _ _ _ c.self.invariant c.args.self.now (ap (λ (x : Indexed). x.tags) c.self.view_is) c.args.owner c.args.class c.args.from c.loop-at.invariant.0 c.in-Some.place c.loop-at.invariant.2 (sym c.in-Some.is ∙ c.loop-at.invariant.1)
    c.index-entry.result.now c.index-entry.ensures)

pub loop-at-preserved : goal.loop-at-preserved
loop-at-preserved c =
    step-on _ _ _ _ c.self.invariant c.args.self.now (ap (λ (x : Indexed). x.tags) c.self.view_is) c.args.owner c.args.class c.args.from c.loop-at.invariant.0 c.in-Some.place c.loop-at.invariant.2 (sym c.in-Some.is ∙ c.loop-at.invariant.1)
    c.index-entry.result.now c.index-entry.ensures (sym c.is_fit.ensures ∙ c.if-is_fit.false)

pub returns : goal.returns
returns c = scan-none c.args.self.now.tags c.args.owner c.args.class c.args.from c.loop-at.invariant.0 c.loop-at.invariant.2 (sym c.in_default.is ∙ c.loop-at.invariant.1)
