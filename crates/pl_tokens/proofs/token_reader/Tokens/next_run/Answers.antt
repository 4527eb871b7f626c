use Rattle.std.proofs.Common.{◌≡◌, ℕ, suc, List, length, take, nat_lt, ap, sym, ◌∙◌, subst, Ok, Option, Some, arith, Bool}
use Rattle.text_model.specs.Tokens.{run, run_from}
use Rattle.pl_tokens.specs.Views.{tokens_view}
use Rattle.pl_tokens.specs.Runs.{RunGives, RunWithin}
use Rattle.pl_tokens.specs.Reader.{run_of, past_run, Reader, IsStanding}
use Rattle.pl_tokens.specs.declared.token_reader.PlacedRun.{PlacedRun}
use Rattle.pl_tokens.specs.Facts.{IsRun}
use Rattle.pl_tokens.proofs.Reading.{run-progress}
use Rattle.pl_tokens.proofs.Readers.{valid-length, run_of-is, enough-turns, at_of, place-is, place-within, standing-within, stands-at}
use Rattle.pl_tokens.proofs.token_reader.Tokens.next_run.Goals as goal

pub slice_bounds-run_at-end : goal.slice_bounds-run_at-end
slice_bounds-run_at-end c = valid-length c.self.inside.text.now c.self.inside.valid c.self.invariant.valid_is

pub run_at-requires-clause-within : goal.run_at-requires-clause-within
run_at-requires-clause-within c = omega (arith, c.self.invariant.within, valid-length c.self.inside.text.now c.self.inside.valid c.self.invariant.valid_is)

pub returns-in-Some-clause-takes : goal.returns-in-Some-clause-takes
returns-in-Some-clause-takes c =
    let i = c.self.inside in
    let next = c.in-Some.run'.next in
    let seen : run (tokens_view c.in-Some.run'.tokens) next ≡ run_from (suc (length i.text.now)) (nat_lt i.valid (length i.text.now)) i.place.at i.place.direct i.place.minus (take i.valid i.text.now) =
    let P : Option PlacedRun → Type 0 = λ o. RunGives (Ok o) (run_from (suc (length i.text.now)) (nat_lt i.valid (length i.text.now)) i.place.at i.place.direct i.place.minus (take i.valid i.text.now)) in
    subst P c.in-Some.is (c.in_ok-run_at.ensures.view (suc (length i.text.now)) (enough-turns i.text.now i.valid i.place.at)) in (
      next,
      ap run_of (sym c.self.view_is) ∙ sym (seen ∙ run_of-is i.text.now i.valid i.place.at i.place.direct i.place.minus c.self.invariant.valid_is),
      ap (λ r. past_run r next) c.self.view_is,
    )

-- the run that was read, from the reader's fields
read : (r : Reader) (text : List ℕ) (valid at : ℕ) (direct minus : Bool) (q : PlacedRun) (o : Option PlacedRun) → o ≡ Some q → at_of text at direct minus ≡ r → IsStanding text valid at → RunWithin (Ok o) at (take valid text) → IsRun r.at q.next (tokens_view q.tokens) × IsStanding text valid q.next
read r text valid at direct minus q o is same h within =
    let Q : Option PlacedRun → Type 0 = λ o. RunWithin (Ok o) at (take valid text) in
    let inside : RunWithin (Ok (Some q)) at (take valid text) = subst Q is within in (
      subst (λ n. IsRun n q.next (tokens_view q.tokens)) (place-is r text at direct minus same) inside.0,
      stands-at text valid at q.next h inside.1 inside.2,
    )

pub invariant_of-self : goal.invariant_of-self
invariant_of-self c =
    let i = c.self.inside in
    (read c.args.self.now i.text.now i.valid i.place.at i.place.direct i.place.minus c.in-Some.run' c.in_ok-run_at.field-0 c.in-Some.is c.self.view_is c.self.invariant c.in_ok-run_at.ensures.within).1

pub returns-in-Some-clause-tokens : goal.returns-in-Some-clause-tokens
returns-in-Some-clause-tokens c =
    let i = c.self.inside in
    (read c.args.self.now i.text.now i.valid i.place.at i.place.direct i.place.minus c.in-Some.run' c.in_ok-run_at.field-0 c.in-Some.is c.self.view_is c.self.invariant c.in_ok-run_at.ensures.within).0

pub returns-in-Some-clause-progress : goal.returns-in-Some-clause-progress
returns-in-Some-clause-progress c =
    let i = c.self.inside in
    run-progress _ _ _ (read c.args.self.now i.text.now i.valid i.place.at i.place.direct i.place.minus c.in-Some.run' c.in_ok-run_at.field-0 c.in-Some.is c.self.view_is c.self.invariant c.in_ok-run_at.ensures.within).0

pub returns-in-Some-clause-within : goal.returns-in-Some-clause-within
returns-in-Some-clause-within c =
    let i = c.self.inside in
    standing-within i.text.now i.valid c.in-Some.run'.next (read c.args.self.now i.text.now i.valid i.place.at i.place.direct i.place.minus c.in-Some.run' c.in_ok-run_at.field-0 c.in-Some.is c.self.view_is c.self.invariant c.in_ok-run_at.ensures.within).1

pub returns-in_err-run_at-clause-within : goal.returns-in_err-run_at-clause-within
returns-in_err-run_at-clause-within c = let i = c.self.inside in place-within c.args.self.now i.text.now i.valid i.place.at i.place.direct i.place.minus c.self.view_is c.self.invariant

pub returns-in-None-clause-within : goal.returns-in-None-clause-within
returns-in-None-clause-within c = let i = c.self.inside in place-within c.args.self.now i.text.now i.valid i.place.at i.place.direct i.place.minus c.self.view_is c.self.invariant
