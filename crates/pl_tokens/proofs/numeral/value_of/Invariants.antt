use Rattle.std.proofs.Common.{◌≡◌, ◌≤◌, ◌^◌, drop}
use Rattle.text_model.specs.Tokens.{value_after}
use Rattle.pl_tokens.proofs.numeral.value_of.Given as goal

abbrev pub invariant-loop-b : goal.invariant-loop-b
invariant-loop-b l = record {
  bounded : l.n ≤ 2 ^ 63;
  same : value_after l.base 0 l.digits ≡ value_after l.base l.n (drop l.b-index l.digits);
}
