use Rattle.std.proofs.Common.{drop}
use Rattle.pl_reader.proofs.CharCodes.{Decoding}
use Rattle.pl_reader.proofs.codes.push_codes.Given as goal

abbrev pub invariant-loop-byte : goal.invariant-loop-byte
invariant-loop-byte l = Decoding l.fn.out.items l.fn.text l.partial.missing l.partial.bits (drop l.byte-index l.rest) l.out.items l.count
