use Rattle.std.proofs.Common.{◌≡◌, length, get_or, ap, ◌∙◌, arith}
use Rattle.pl_reader.proofs.NameLists.{named_more, named_all}
use Rattle.pl_reader.proofs.variables.Variables.into_names.Goals as goal

pub loop-at-preserved : goal.loop-at-preserved
loop-at-preserved c =
    named_more c.args.self.texts c.args.self.numbers.items c.requires.same c.loop-at.names c.push.new.self _ c.loop-at.at c.loop-at.invariant (omega (arith, ap length c.deref-number-items.ensures.value)) c.in_ok-push.ensures.ok (c.in_ok-name.ensures ∙ c.text.ensures) (ap (λ l. get_or l c.loop-at.at 0) c.deref-number-items.ensures.value)

pub returns : goal.returns
returns c =
    named_all c.args.self.texts c.args.self.numbers.items c.requires.same c.loop-at.names c.loop-at.at c.loop-at.invariant (let h : length c.deref-number-items.result.now ≡ length c.args.self.numbers.items = ap length c.deref-number-items.ensures.value in omega arith)
