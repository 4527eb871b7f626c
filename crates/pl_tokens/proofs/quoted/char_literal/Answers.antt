use Rattle.std.proofs.Common.{◌≡◌, ◌+◌, length, arith, ap, subst, length-drop}
use Rattle.pl_tokens.specs.Lexing.{NumberWithin}
use Rattle.pl_tokens.proofs.quoted.char_literal.Goals as goal

pub returns-else-starts-clause-within : goal.returns-else-starts-clause-within
returns-else-starts-clause-within c =
    let e : 2 + length c.tail-after.result.now ≡ length c.args.rest.now = omega (arith, ap length c.tail-after.ensures, length-drop 2 c.args.rest.now) in
    subst (λ n. NumberWithin c.literal_of.result n) e c.literal_of.ensures.within
