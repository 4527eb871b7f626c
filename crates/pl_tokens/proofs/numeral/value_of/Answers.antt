use Rattle.std.proofs.Common.{rules}
use Rattle.pl_tokens.proofs.Numbers.{value_over}
use Rattle.pl_tokens.proofs.numeral.value_of.Goals as goal

pub returns-then-next-gt-LIMIT : goal.returns-then-next-gt-LIMIT
returns-then-next-gt-LIMIT c =
    value_over c.args.base c.loop-b.n _ 9223372036854775808 c.loop-b.b-index c.args.digits.now c.requires c.loop-b-test.true c.loop-b.invariant.same (search rules) c.if-next-gt-LIMIT.true
