use Rattle.std.proofs.Common.{◌≤◌, length, drop, sym, ap, ◌∙◌, arith, length-drop, subst, Some}
use Rattle.text_model.specs.Tokens.{step_of, layout_step}
use Rattle.pl_tokens.proofs.Skipping.{skipped_from-none, skipped_from-unfinished, skipped_from-more, rest_is}
use Rattle.pl_tokens.proofs.layout.skip.Goals as goal

pub returns-in-None-clause-value : goal.returns-in-None-clause-value
returns-in-None-clause-value c =
    skipped_from-unfinished c.args.text.now c.loop-n.at (c.in-None.ensures.step ∙ ap layout_step (rest_is c.args.text.now c.loop-n.at)) ∙ c.loop-n.invariant.same

pub returns-in-Some-eq0-clause-value : goal.returns-in-Some-eq0-clause-value
returns-in-Some-eq0-clause-value c =
    skipped_from-none c.args.text.now c.loop-n.at (sym (ap (λ n. step_of (Some n)) c.in-Some-eq0.field-0-test) ∙ c.in-Some-eq0.ensures.step ∙ ap layout_step (rest_is c.args.text.now c.loop-n.at)) ∙ c.loop-n.invariant.same

pub loop-n-preserved : goal.loop-n-preserved
loop-n-preserved c =
    let fits : c.in-Some.n ≤ length (drop c.loop-n.at c.args.text.now) = subst (λ d. c.in-Some.n ≤ length d) (rest_is c.args.text.now c.loop-n.at) c.in-Some.ensures.within in
    record {
      in_range = omega (arith, length-drop c.loop-n.at c.args.text.now);
      same = skipped_from-more c.args.text.now c.loop-n.at c.in-Some.n c.in-Some.n-test.1 (c.in-Some.ensures.step ∙ ap layout_step (rest_is c.args.text.now c.loop-n.at)) fits ∙ c.loop-n.invariant.same;
    }
