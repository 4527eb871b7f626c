use Rattle.std.proofs.Common.{Ok, Option, List, subst}
use Rattle.pl_tokens.specs.declared.token.Token.{Token}
use Rattle.pl_tokens.specs.Runs.{TakesRun}
use Rattle.prep_texts.proofs.RunLaws.{going-start, going-on, run-fails, token-fails, all-prepared, left-open, token-error, same-error, at-end}
use Rattle.prep_texts.proofs.preparing.draft_of.Goals as goal

pub terms-init : goal.terms-init
terms-init c = going-start c.args.known.now c.args.text.now c.new-tokens.result c.in_ok-draft.draft c.new-tokens.ensures (c.in_ok-draft.ensures.alike c.args.known.now) c.in_ok-draft.ensures.well

pub terms-preserved : goal.terms-preserved
terms-preserved c =
    let takes = subst (λ (o : Option (List Token)). TakesRun c.terms.tokens (Ok o) c.next_run.new.self) c.in-Some.is c.in_ok-run.ensures.takes in
    going-on c.args.known.now c.args.text.now c.terms.tokens c.terms.draft c.terms.invariant c.in-Some.run' takes.0 takes.1
    c.next_run.new.self c.take_run.new.self takes.2 c.in_ok-take_run.ensures.ok c.in_ok-take_run.ensures.well

pub returns-in_err-run-clause-fault : goal.returns-in_err-run-clause-fault
returns-in_err-run-clause-fault c = λ n byte e.
    token-fails c.args.known.now c.args.text.now c.terms.tokens c.terms.draft c.terms.invariant n byte
    (token-error c.in_err-run.field-0.0 c.from_residual-in_err-run.result n byte c.terms.tokens c.next_run.new.self c.from_residual-in_err-run.ensures.1 e c.in_err-run.ensures.takes)

pub returns-in_err-take_run-clause-fault : goal.returns-in_err-take_run-clause-fault
returns-in_err-take_run-clause-fault c = λ n byte e.
    let takes = subst (λ (o : Option (List Token)). TakesRun c.terms.tokens (Ok o) c.next_run.new.self) c.in-Some.is c.in_ok-run.ensures.takes in
    run-fails c.args.known.now c.args.text.now c.terms.tokens c.terms.draft c.terms.invariant c.in-Some.run' takes.0 takes.1 n byte
    (c.in_err-take_run.ensures.fault n byte (same-error c.in_err-take_run.field-0.0 _ c.from_residual-in_err-take_run.result c.from_residual-in_err-take_run.ensures.1 e))

pub returns-clause-ends : goal.returns-clause-ends
returns-clause-ends c =
    let over = at-end c.in_ok-run.field-0 c.terms.tokens c.next_run.new.self c.in_default.not-Some c.in_ok-run.ensures.takes in
    record {
      prepared = all-prepared c.args.known.now c.args.text.now c.terms.tokens c.terms.draft c.terms.invariant over;
      left_open = left-open c.args.known.now c.args.text.now c.terms.tokens c.terms.draft c.terms.invariant over;
    }
