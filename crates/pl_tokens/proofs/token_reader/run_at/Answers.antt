use Rattle.std.proofs.Common.{◌≡◌, ◌++◌, ◌∷◌, [], ℕ, List, length, Bool, ap, sym, ◌∙◌, subst, Ok, Err, Some, arith, true, Option}
use Rattle.text_model.specs.Tokens.{placed, placed_at, is_stop, is_minus, run, run_from, none_left, ended, Token}
use Rattle.pl_tokens.specs.declared.token_reader.PlacedToken.{PlacedToken}
use Rattle.pl_tokens.specs.declared.token.Token.{Token as CodeToken}
use Rattle.pl_tokens.specs.Views.{kind_view, token_view, tokens_view}
use Rattle.pl_tokens.specs.Runs.{NextGives, NextWithin, RunGives, after_all}
use Rattle.pl_tokens.specs.declared.token.TokenFault.{TokenFault}
use Rattle.pl_tokens.specs.declared.token.TokenFault.TheVariants.{Fault, NoMemory}
use Rattle.std.proofs.lemmas.Result.{err_from_is_err_and}
use Rattle.pl_tokens.specs.Facts.{IsRun}
use Rattle.pl_tokens.proofs.Sound.{placed_at-sound}
use Rattle.pl_tokens.proofs.Reading.{IsReading, nothing_read, one_more, the_last}
use Rattle.pl_tokens.proofs.Running.{Running, start, further, stopped, faulty, out_of_text, tokens_of-more, fault_run-is, gives_at}
use Rattle.pl_tokens.proofs.token_reader.run_at.Goals as goal

pub taking-init : goal.taking-init
taking-init c = record {
  in_range = c.requires.within;
  begins = c.requires.begins;
  standing = nothing_read c.args.start.at (tokens_view c.new-tokens.result) (ap tokens_view c.new-tokens.ensures);
  running = λ turns h. start turns c.args.marked c.args.start.at c.args.start.direct c.args.start.minus c.args.valid.now _ c.new-tokens.ensures h;
}

failed : (f : TokenFault) (w : Rattle.text_model.specs.Tokens.Run) (marked : Bool) (valid : List ℕ) (ts : List (Rattle.text_model.specs.Tokens.Token (List ℕ))) (at : ℕ) (direct minus : Bool) (p : ℕ) (len : ℕ) → NextGives (Err f) (placed_at marked at direct minus valid) → NextWithin (Err f) p len → Running w marked valid ts at direct minus → RunGives (Err f) w
failed (Fault n byte) w marked valid ts at direct minus p len gives within r = fault_run-is n byte within ∙ faulty w marked valid ts at direct minus n byte r gives
failed NoMemory w marked valid ts at direct minus p len gives within r = tt

pub returns-in_err-placed-clause-view : goal.returns-in_err-placed-clause-view
returns-in_err-placed-clause-view c = λ turns h.
    let p = err_from_is_err_and c.from_residual.result c.from_residual.ensures.1 in
    rw (p.1, p.2) (failed c.in_err-placed.field-0.0 _ _ _ _ _ _ _ _ _ c.in_err-placed.ensures.view c.in_err-placed.ensures.within (c.taking.invariant.running turns h))

pub returns-in_default-clause-view : goal.returns-in_default-clause-view
returns-in_default-clause-view c = λ turns h.
    let none : none_left ≡ placed_at c.args.marked c.taking.place.at c.taking.place.direct c.taking.place.minus c.args.valid.now =
    let P : Option PlacedToken → Type 0 = λ o. NextGives (Ok o) (placed_at c.args.marked c.taking.place.at c.taking.place.direct c.taking.place.minus c.args.valid.now) in
    subst P c.in_default.is c.in_ok-placed.ensures.view in
    gives_at c.run_out.result _ _ (ap (λ l. after_all (tokens_view l) ended) c.as_slice.ensures ∙ out_of_text _ _ _ _ _ _ _ (c.taking.invariant.running turns h) none) c.run_out.ensures.view

pub returns-then-stop-clause-view : goal.returns-then-stop-clause-view
returns-then-stop-clause-view c = λ turns h.
    let seen : placed (token_view c.in-Some.placed.token) c.in-Some.placed.next ≡ placed_at c.args.marked c.taking.place.at c.taking.place.direct c.taking.place.minus c.args.valid.now =
    let P : Option PlacedToken → Type 0 = λ o. NextGives (Ok o) (placed_at c.args.marked c.taking.place.at c.taking.place.direct c.taking.place.minus c.args.valid.now) in
    subst P c.in-Some.is c.in_ok-placed.ensures.view in
    ap (λ l. run l c.in-Some.placed.next) (ap tokens_view c.in_ok-push.ensures.ok ∙ tokens_of-more c.taking.tokens c.in-Some.placed.token)
    ∙ stopped _ _ _ _ _ _ _ (token_view c.in-Some.placed.token) c.in-Some.placed.next (c.taking.invariant.running turns h) seen (sym c.is_stop-stop.ensures ∙ c.if-stop.true)

pub returns-then-stop-clause-within : goal.returns-then-stop-clause-within
returns-then-stop-clause-within c =
    let valid = c.args.valid.now in
    let place = c.taking.place in
    let token = c.in-Some.placed.token in
    let next = c.in-Some.placed.next in
    let seen : placed (token_view token) next ≡ placed_at c.args.marked place.at place.direct place.minus valid =
    let P : Option PlacedToken → Type 0 = λ o. NextGives (Ok o) (placed_at c.args.marked place.at place.direct place.minus valid) in
    subst P c.in-Some.is c.in_ok-placed.ensures.view in
    let inside : NextWithin (Ok (Some c.in-Some.placed)) place.at (length valid) =
    let P : Option PlacedToken → Type 0 = λ o. NextWithin (Ok o) place.at (length valid) in
    subst P c.in-Some.is c.in_ok-placed.ensures.within in
    let kept = placed_at-sound valid c.args.marked place.at place.direct place.minus (token_view token) next seen c.taking.invariant.begins in
    let ran = the_last c.args.start.at place.at next (tokens_view c.taking.tokens) (token_view token) c.taking.invariant.standing kept.0 inside.0 inside.1 (sym c.is_stop-stop.ensures ∙ c.if-stop.true) in
    (subst (IsRun c.args.start.at next) (sym (tokens_of-more c.taking.tokens token) ∙ sym (ap tokens_view c.in_ok-push.ensures.ok)) ran, inside.2, kept.1)

pub taking-preserved : goal.taking-preserved
taking-preserved c =
    let seen : placed (token_view c.in-Some.placed.token) c.in-Some.placed.next ≡ placed_at c.args.marked c.taking.place.at c.taking.place.direct c.taking.place.minus c.args.valid.now =
    let P : Option PlacedToken → Type 0 = λ o. NextGives (Ok o) (placed_at c.args.marked c.taking.place.at c.taking.place.direct c.taking.place.minus c.args.valid.now) in
    subst P c.in-Some.is c.in_ok-placed.ensures.view in
    let inside : NextWithin (Ok (Some c.in-Some.placed)) c.taking.place.at (length c.args.valid.now) =
    let P : Option PlacedToken → Type 0 = λ o. NextWithin (Ok o) c.taking.place.at (length c.args.valid.now) in
    subst P c.in-Some.is c.in_ok-placed.ensures.within in
    let kept = placed_at-sound c.args.valid.now c.args.marked c.taking.place.at c.taking.place.direct c.taking.place.minus (token_view c.in-Some.placed.token) c.in-Some.placed.next seen c.taking.invariant.begins in
    record {
      in_range = inside.2;
      begins = kept.1;
      standing = subst (IsReading c.args.start.at c.in-Some.placed.next) (sym (tokens_of-more c.taking.tokens c.in-Some.placed.token) ∙ sym (ap tokens_view c.in_ok-push.ensures.ok)) (one_more _ _ _ _ (token_view c.in-Some.placed.token) c.taking.invariant.standing kept.0 inside.0 inside.1 (sym c.is_stop-stop.ensures ∙ c.if-stop.false));
      running = λ turns h.
          let whole = run_from turns c.args.marked c.args.start.at c.args.start.direct c.args.start.minus c.args.valid.now in
          let next = further whole c.args.marked c.args.valid.now (tokens_view c.taking.tokens) c.taking.place.at c.taking.place.direct c.taking.place.minus (token_view c.in-Some.placed.token) c.in-Some.placed.next (c.taking.invariant.running turns h) seen (sym c.is_stop-stop.ensures ∙ c.if-stop.false) (omega (arith, inside.0, inside.1)) inside.2 in
          let P : List CodeToken → Type 0 = λ l. Running whole c.args.marked c.args.valid.now (tokens_view l) c.in-Some.placed.next true c.is_minus.result in
          let Q : Bool → Type 0 = λ m. Running whole c.args.marked c.args.valid.now (tokens_view (c.taking.tokens ++ c.in-Some.placed.token ∷ [])) c.in-Some.placed.next true m in
          let R : List (Token (List ℕ)) → Type 0 = λ l. Running whole c.args.marked c.args.valid.now l c.in-Some.placed.next true (is_minus (kind_view c.in-Some.placed.token.kind)) in
          subst P (sym c.in_ok-push.ensures.ok) (subst Q (sym c.is_minus.ensures) (subst R (sym (tokens_of-more c.taking.tokens c.in-Some.placed.token)) next));
    }
