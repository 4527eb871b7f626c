-- The tokens of a run that were read so far.
use Rattle.std.proofs.Common.{◌≡◌, ℕ, ◌≤◌, ◌<◌, List, [], ◌∷◌, ◌++◌, true, false, refl, sym, arith, subst}
use Rattle.std.specs.List.{All}
use Rattle.std.proofs.lemmas.List.Elements.{All-push, All-nil, All-head, All-tail, All-cons}
use Rattle.text_model.specs.Tokens.{Token, is_stop}
use Rattle.pl_tokens.specs.Facts.{IsLexeme, IsTokenBetween, IsRun}

-- no end among them, and all of them between two places
pub record IsReading (from to : ℕ) (ts : List (Token (List ℕ))) : Type 0 where
  pub later : from ≤ to
  pub unended : All (λ t. is_stop t.lexeme ≡ false) ts
  pub tokens : All (IsTokenBetween from to) ts

pub nothing_read : (at : ℕ) (ts : List (Token (List ℕ))) → ts ≡ [] → IsReading at at ts
nothing_read at ts e = subst (IsReading at at) (sym e) (record { later = omega arith; unended = All-nil _; tokens = All-nil _ })

wider : (from to next : ℕ) (ts : List (Token (List ℕ))) → to ≤ next → All (IsTokenBetween from to) ts → All (IsTokenBetween from next) ts
wider from to next [] h a = All-nil (IsTokenBetween from next)
wider from to next (t ∷ ts) h a =
    let first : IsTokenBetween from to t = All-head (IsTokenBetween from to) t ts a in
    All-cons (IsTokenBetween from next) t ts (record { lexeme = first.lexeme; first = first.first; last = omega (arith, first.last) }) (wider from to next ts h (All-tail (IsTokenBetween from to) t ts a))

more : (from to next : ℕ) (ts : List (Token (List ℕ))) (t : Token (List ℕ)) → IsReading from to ts → IsLexeme t.lexeme → to ≤ t.byte → t.byte < next → All (IsTokenBetween from next) (ts ++ t ∷ [])
more from to next ts t r l h k =
    All-push (IsTokenBetween from next) ts t (wider from to next ts (omega arith) r.tokens) (record { lexeme = l; first = omega (arith, r.later); last = k })

pub one_more : (from to next : ℕ) (ts : List (Token (List ℕ))) (t : Token (List ℕ)) → IsReading from to ts → IsLexeme t.lexeme → to ≤ t.byte → t.byte < next → is_stop t.lexeme ≡ false → IsReading from next (ts ++ t ∷ [])
one_more from to next ts t r l h k no_end = record {
  later = omega (arith, r.later);
  unended = All-push (λ u. is_stop u.lexeme ≡ false) ts t r.unended no_end;
  tokens = more from to next ts t r l h k;
}

pub the_last : (from to next : ℕ) (ts : List (Token (List ℕ))) (t : Token (List ℕ)) → IsReading from to ts → IsLexeme t.lexeme → to ≤ t.byte → t.byte < next → is_stop t.lexeme ≡ true → IsRun from next (ts ++ t ∷ [])
the_last from to next ts t r l h k an_end = record {
  front = ts;
  end = t;
  whole = refl;
  unended = r.unended;
  ended = an_end;
  tokens = more from to next ts t r l h k;
}

-- a run takes at least one byte
pub run-progress : (from to : ℕ) (ts : List (Token (List ℕ))) → IsRun from to ts → from < to
run-progress from to ts r = go ts r.front r.whole r.tokens
  where
    go : (us front : List (Token (List ℕ))) → us ≡ front ++ r.end ∷ [] → All (IsTokenBetween from to) us → from < to
    go [] [] e a = absurd (cc)
    go [] (f ∷ fs) e a = absurd (cc)
    go (u ∷ us) front e a = let first : IsTokenBetween from to u = All-head (IsTokenBetween from to) u us a in omega (arith, first.first, first.last)
