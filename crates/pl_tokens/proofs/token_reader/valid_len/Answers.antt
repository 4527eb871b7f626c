use Rattle.std.proofs.Common.{◌≡◌, ℕ, List, length, take, sym, subst, arith}
use Rattle.std.specs.Str.{IsUtf8}
use Rattle.std.proofs.lemmas.Grind.{common_steps}
use Rattle.std.proofs.lemmas.Str.{utf8_valid_len-IsUtf8}
use Rattle.pl_tokens.proofs.token_reader.valid_len.Goals as goal

take-all : (xs : List ℕ) → take (length xs) xs ≡ xs
take-all xs = grind (arith, common_steps)

pub returns-in-Ok : goal.returns-in-Ok
returns-in-Ok c = record {
  value = sym (utf8_valid_len-IsUtf8 c.args.text.now c.in-Ok.ensures.cases.1);
  utf8 = subst IsUtf8 (sym (take-all c.args.text.now)) c.in-Ok.ensures.cases.1;
}
