use Rattle.std.proofs.Common.{length, refl, ap, sym, ◌∙◌, append-nil}
use Rattle.pl_reader.proofs.Turned.{settled_on, settled_more, settled_empty}
use Rattle.pl_reader.proofs.prefix.settle.Goals as goal

pub settling-init : goal.settling-init
settling-init c = λ ps h. (ps, h, refl)

pub settling-preserved : goal.settling-preserved
settling-preserved c = λ ps h.
    let g = c.settling.invariant ps h in
    settled_more ps g.0 c.pop.new.self.items c.in-Some.last _ _ _ (sym c.in-Some.ensures.items ∙ g.1) g.2 c.if-last-gt1.false c.in_ok-push-2.ensures.items

pub returns-in_ok-push : goal.returns-in_ok-push
returns-in_ok-push c = λ ps h.
    let g = c.settling.invariant ps h in
    settled_on ps g.0 c.pop.new.self.items _ c.in-Some.last _ _ (sym c.in-Some.ensures.items ∙ g.1) g.2 c.if-last-gt1.true c.in_ok-push.ensures.items

pub returns-in_default : goal.returns-in_default
returns-in_default c = λ ps h.
    let g = c.settling.invariant ps h in
    settled_empty ps g.0 c.pop.new.self.items _ _ (sym (ap length g.1) ∙ sym c.settling.pending.ok.0 ∙ c.in_default.ensures.cases.0) (sym (append-nil c.pop.new.self.items) ∙ sym c.in_default.ensures.items ∙ g.1) g.2
