use Rattle.std.proofs.Common.{◌≡◌, [], drop, reverse, ap, ◌∙◌, arith}
use Rattle.pl_reader.specs.Turning.{turned}
use Rattle.pl_reader.proofs.Turned.{turned-whole, reverse-back}
use Rattle.pl_reader.proofs.prefix.to_prefix.Goals as goal

pub returns : goal.returns
returns c = λ num t h.
    let z : c.turning.at ≡ 0 = omega arith in
    c.reverse.ensures.items ∙ ap reverse (c.turning.invariant.cells ∙ ap (λ n. (turned (drop n c.args.cells.now) ([], [])).1) z ∙ ap (λ l. (turned l ([], [])).1) h ∙ ap (λ s. s.1) (turned-whole num t)) ∙ reverse-back _
