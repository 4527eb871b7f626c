use Rattle.std.proofs.Common.{◌≡◌, ℕ, List, length, take, nat_lt, ap, sym, ◌∙◌, subst, Ok, Option, Some, arith, Bool}
use Rattle.text_model.specs.Tokens.{Token, placed, placed_at}
use Rattle.pl_tokens.specs.Views.{token_view}
use Rattle.pl_tokens.specs.Runs.{NextGives, NextWithin}
use Rattle.pl_tokens.specs.Reader.{next_of, past, Reader, IsStanding}
use Rattle.pl_tokens.specs.declared.token_reader.PlacedToken.{PlacedToken}
use Rattle.pl_tokens.specs.Facts.{IsTokenBetween}
use Rattle.pl_tokens.proofs.Sound.{placed_at-sound}
use Rattle.pl_tokens.proofs.Readers.{valid-length, next_of-is, past-is, at_of, place-is, place-within, standing-within, stands-at}
use Rattle.pl_tokens.proofs.token_reader.Tokens.next.Goals as goal

pub slice_bounds-next_at-end : goal.slice_bounds-next_at-end
slice_bounds-next_at-end c = valid-length c.self.inside.text.now c.self.inside.valid c.self.invariant.valid_is

pub next_at-requires : goal.next_at-requires
next_at-requires c = omega (arith, c.self.invariant.within, valid-length c.self.inside.text.now c.self.inside.valid c.self.invariant.valid_is)

pub returns-in-Some-clause-takes : goal.returns-in-Some-clause-takes
returns-in-Some-clause-takes c =
    let i = c.self.inside in
    let t : Token (List ℕ) = token_view c.in-Some.placed.token in
    let seen : placed t c.in-Some.placed.next ≡ placed_at (nat_lt i.valid (length i.text.now)) i.place.at i.place.direct i.place.minus (take i.valid i.text.now) =
    let P : Option PlacedToken → Type 0 = λ o. NextGives (Ok o) (placed_at (nat_lt i.valid (length i.text.now)) i.place.at i.place.direct i.place.minus (take i.valid i.text.now)) in
    subst P c.in-Some.is c.in_ok-next_at.ensures.view in (
      c.in-Some.placed.next,
      ap next_of (sym c.self.view_is) ∙ sym (seen ∙ next_of-is i.text.now i.valid i.place.at i.place.direct i.place.minus c.self.invariant.valid_is),
      past-is i.text.now i.place.at c.in-Some.placed.next i.place.direct i.place.minus c.is_stop.result c.is_minus.result t c.is_stop.ensures c.is_minus.ensures
          ∙ ap (λ r. past r t c.in-Some.placed.next) c.self.view_is,
    )

-- the token that was found, from the reader's fields
found : (r : Reader) (text : List ℕ) (valid at : ℕ) (direct minus : Bool) (q : PlacedToken) (o : Option PlacedToken) → o ≡ Some q → at_of text at direct minus ≡ r → IsStanding text valid at → NextGives (Ok o) (placed_at (nat_lt valid (length text)) at direct minus (take valid text)) → NextWithin (Ok o) at (length (take valid text)) → IsTokenBetween r.at q.next (token_view q.token) × IsStanding text valid q.next
found r text valid at direct minus q o is same h gives within =
    let P : Option PlacedToken → Type 0 = λ o. NextGives (Ok o) (placed_at (nat_lt valid (length text)) at direct minus (take valid text)) in
    let Q : Option PlacedToken → Type 0 = λ o. NextWithin (Ok o) at (length (take valid text)) in
    let seen : placed (token_view q.token) q.next ≡ placed_at (nat_lt valid (length text)) at direct minus (take valid text) = subst P is gives in
    let inside : NextWithin (Ok (Some q)) at (length (take valid text)) = subst Q is within in
    let kept = placed_at-sound (take valid text) (nat_lt valid (length text)) at direct minus (token_view q.token) q.next seen h.begins in (
      record { lexeme = kept.0; first = omega (arith, inside.0, place-is r text at direct minus same); last = inside.1 },
      stands-at text valid at q.next h inside.2 kept.1,
    )

pub invariant_of-self : goal.invariant_of-self
invariant_of-self c =
    let i = c.self.inside in
    (found c.args.self.now i.text.now i.valid i.place.at i.place.direct i.place.minus c.in-Some.placed c.in_ok-next_at.field-0 c.in-Some.is c.self.view_is c.self.invariant c.in_ok-next_at.ensures.view c.in_ok-next_at.ensures.within).1

pub returns-in-Some-clause-token : goal.returns-in-Some-clause-token
returns-in-Some-clause-token c =
    let i = c.self.inside in
    (found c.args.self.now i.text.now i.valid i.place.at i.place.direct i.place.minus c.in-Some.placed c.in_ok-next_at.field-0 c.in-Some.is c.self.view_is c.self.invariant c.in_ok-next_at.ensures.view c.in_ok-next_at.ensures.within).0

pub returns-in-Some-clause-within : goal.returns-in-Some-clause-within
returns-in-Some-clause-within c =
    let i = c.self.inside in
    standing-within i.text.now i.valid c.in-Some.placed.next (found c.args.self.now i.text.now i.valid i.place.at i.place.direct i.place.minus c.in-Some.placed c.in_ok-next_at.field-0 c.in-Some.is c.self.view_is c.self.invariant c.in_ok-next_at.ensures.view c.in_ok-next_at.ensures.within).1

pub returns-in_err-next_at-clause-within : goal.returns-in_err-next_at-clause-within
returns-in_err-next_at-clause-within c = let i = c.self.inside in place-within c.args.self.now i.text.now i.valid i.place.at i.place.direct i.place.minus c.self.view_is c.self.invariant

pub returns-in-None-clause-within : goal.returns-in-None-clause-within
returns-in-None-clause-within c = let i = c.self.inside in place-within c.args.self.now i.text.now i.valid i.place.at i.place.direct i.place.minus c.self.view_is c.self.invariant
