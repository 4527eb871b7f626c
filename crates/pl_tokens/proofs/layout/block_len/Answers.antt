use Rattle.std.proofs.Common.{◌+◌, ◌<◌, length, sym, ap, ◌∙◌, arith}
use Rattle.std.specs.Option.{option_map}
use Rattle.pl_tokens.proofs.Comments.{block_next, block_none, not_first, not_second}
use Rattle.pl_tokens.proofs.layout.block_len.Goals as goal
use Rattle.pl_tokens.proofs.layout.block_len.Goals.{else-rest-at-eq42-via-then-rest-at-eq42+else-rest-at-eq47, else-rest-at-eq42-via-else-rest-at-eq42}

pub loop-at-preserved : goal.loop-at-preserved
loop-at-preserved c =
    let h : c.loop-at.at + 1 < length c.args.rest.now = c.loop-at-test.true in
    elim c.else-rest-at-eq42.branch [
      | else-rest-at-eq42-via-then-rest-at-eq42+else-rest-at-eq47 w ↦ record {
        in_range = omega arith;
        before = block_next c.args.rest.now c.loop-at.at h (not_second _ _ 42 47 w.if-rest-at-eq47.false) c.loop-at.invariant.before;
      }
      | else-rest-at-eq42-via-else-rest-at-eq42 w ↦ record {
        in_range = omega arith;
        before = block_next c.args.rest.now c.loop-at.at h (not_first _ _ 42 47 w.if-rest-at-eq42.false) c.loop-at.invariant.before;
      }
    ]

pub returns-clause-value : goal.returns-clause-value
returns-clause-value c = sym (c.loop-at.invariant.before ∙ ap (option_map (λ k. c.loop-at.at + k)) (block_none c.args.rest.now c.loop-at.at (omega arith)))
