use Rattle.std.proofs.Common.{◌+◌, ◌*◌, ◌-◌, get_or, ap, ◌∙◌, arith}
use Rattle.pl_tokens.proofs.Characters.{first_none, first_one, first_two, first_two_short, first_three, first_three_short, first_four, first_four_short}
use Rattle.pl_tokens.proofs.quoted.first_char.Goals as goal

pub returns-then-first-lt128 : goal.returns-then-first-lt128
returns-then-first-lt128 c = first_one c.args.cs.now _ (c.from-first.ensures ∙ c.head_of.ensures.value) c.if-first-lt128.true

pub returns-then-cs-lt2 : goal.returns-then-cs-lt2
returns-then-cs-lt2 c = first_two_short c.args.cs.now _ (c.from-first.ensures ∙ c.head_of.ensures.value) c.if-first-lt128.false c.if-first-lt224.true c.if-cs-lt2.true

pub returns-else-cs-lt2 : goal.returns-else-cs-lt2
returns-else-cs-lt2 c =
    ap (λ x. x * 64 + c.low_bits.result) c.saturating_sub.ensures
    ∙ ap (λ x. (c.from-first.result - 192) * 64 + x) c.low_bits.ensures.value
    ∙ first_two c.args.cs.now _ (c.from-first.ensures ∙ c.head_of.ensures.value) c.if-first-lt128.false c.if-first-lt224.true c.if-cs-lt2.false

pub returns-then-cs-lt3 : goal.returns-then-cs-lt3
returns-then-cs-lt3 c = first_three_short c.args.cs.now _ (c.from-first.ensures ∙ c.head_of.ensures.value) c.if-first-lt224.false c.if-first-lt240.true c.if-cs-lt3.true

pub returns-else-cs-lt3 : goal.returns-else-cs-lt3
returns-else-cs-lt3 c =
    ap (λ x. ((c.from-first.result - 224) * 64 + x) * 64 + c.low_bits-else-cs-lt3-2.result) c.low_bits-else-cs-lt3.ensures.value
    ∙ ap (λ x. ((c.from-first.result - 224) * 64 + (get_or c.args.cs.now 1 0 - 128)) * 64 + x) c.low_bits-else-cs-lt3-2.ensures.value
    ∙ first_three c.args.cs.now _ (c.from-first.ensures ∙ c.head_of.ensures.value) c.if-first-lt224.false c.if-first-lt240.true c.if-cs-lt3.false

pub returns-then-cs-lt4 : goal.returns-then-cs-lt4
returns-then-cs-lt4 c = first_four_short c.args.cs.now _ (omega arith) (c.from-first.ensures ∙ c.head_of.ensures.value) c.if-first-lt240.false c.if-cs-lt4.true

pub returns-else-cs-lt4 : goal.returns-else-cs-lt4
returns-else-cs-lt4 c =
    ap (λ x. (((c.from-first.result - 240) * 64 + x) * 64 + c.low_bits-else-cs-lt4-2.result) * 64 + c.low_bits-else-cs-lt4-3.result) c.low_bits-else-cs-lt4.ensures.value
    ∙ ap (λ x. (((c.from-first.result - 240) * 64 + (get_or c.args.cs.now 1 0 - 128)) * 64 + x) * 64 + c.low_bits-else-cs-lt4-3.result) c.low_bits-else-cs-lt4-2.ensures.value
    ∙ ap (λ x. (((c.from-first.result - 240) * 64 + (get_or c.args.cs.now 1 0 - 128)) * 64 + (get_or c.args.cs.now 2 0 - 128)) * 64 + x) c.low_bits-else-cs-lt4-3.ensures.value
    ∙ first_four c.args.cs.now _ (c.from-first.ensures ∙ c.head_of.ensures.value) c.if-first-lt240.false c.if-cs-lt4.false

pub returns-then-cs-eq0 : goal.returns-then-cs-eq0
returns-then-cs-eq0 c = first_none c.args.cs.now c.if-cs-eq0.true
