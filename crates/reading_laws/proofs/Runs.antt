-- What the tokens of a run keep.
use Rattle.std.proofs.Common.{◌≡◌, ℕ, zero, suc, ◌+◌, ◌*◌, ◌≤◌, ◌<◌, List, [], ◌∷◌, length, drop, take, Bool, true, false, refl, sym, arith, subst, length-take, if◌then◌else◌}
use Rattle.std.specs.List.{AllByRecursion}
use Rattle.std.specs.Str.{IsUtf8, is_utf8}
use Rattle.std.specs.Str.Lossy.{utf8_valid_len, valid_len_up_to}
use Rattle.std.proofs.lemmas.Str.{IsUtf8-nil, IsUtf8-from_is_utf8}
use Rattle.text_model.specs.Tokens.{Token, Placed, placed, bad_at, none_left, placed_at, is_stop, is_minus, Run, run, run_fault, cut_short, ended, run_from, next_run, after_token, valid_of, is_marked}
use Rattle.unit_model.specs.Prepared.{first_byte}
use Rattle.pl_tokens.specs.Facts.{IsLexeme}
use Rattle.pl_tokens.proofs.Sound.{pick, placed_at-sound}
use Rattle.reading_laws.specs.Places.{StartIsPlace, RunsProceed, RunsEndAtPlaces}
use Rattle.reading_laws.proofs.Sizes.{name_length, FitsPlaced, placed_at-sized}

-- each token takes bytes of the text and has a name that is not much longer; from UTF-8 on each is a lexeme, and UTF-8 follows
pub record IsKept (valid : List ℕ) (from : ℕ) (ts : List (Token (List ℕ))) (next : ℕ) : Type 0 where
  pub first_later : from ≤ first_byte ts
  pub first_before : first_byte ts < next
  pub count : from + length ts ≤ next
  pub within : next ≤ length valid
  pub short : AllByRecursion (λ t. name_length t.lexeme ≤ 4 * length valid) ts
  pub lexemes : IsUtf8 (drop from valid) → IsUtf8 (drop next valid) × AllByRecursion (λ t. IsLexeme t.lexeme) ts

abbrev Keeps : List ℕ → ℕ → Run → Type 0
Keeps valid from (run ts next) = IsKept valid from ts next
Keeps valid from (run_fault n byte) = Unit {0}
Keeps valid from (cut_short byte) = Unit {0}
Keeps valid from ended = Unit {0}

-- what one token keeps
record IsTaken (valid : List ℕ) (at : ℕ) (t : Token (List ℕ)) (next : ℕ) : Type 0 where
  pub fits : FitsPlaced at valid (placed t next)
  pub lexeme : IsUtf8 (drop at valid) → IsLexeme t.lexeme × IsUtf8 (drop next valid)

the_last : (valid : List ℕ) (at next : ℕ) (t : Token (List ℕ)) → IsTaken valid at t next → IsKept valid at (t ∷ []) next
the_last valid at next t h = record {
  first_later = h.fits.0;
  first_before = h.fits.1;
  count = omega (arith, h.fits.0, h.fits.1);
  within = h.fits.2;
  short = (h.fits.3, tt);
  lexemes = λ u. ((h.lexeme u).1, ((h.lexeme u).0, tt));
}

one_before : (valid : List ℕ) (at next : ℕ) (t : Token (List ℕ)) (r : Run) → IsTaken valid at t next → Keeps valid next r → Keeps valid at (after_token t r)
one_before valid at next t (run ts end) h k = record {
  first_later = h.fits.0;
  first_before = omega (arith, h.fits.1, k.first_later, k.first_before);
  count = omega (arith, h.fits.0, h.fits.1, k.count);
  within = k.within;
  short = (h.fits.3, k.short);
  lexemes = λ u. let l = h.lexeme u in let rest = k.lexemes l.1 in (rest.0, (l.0, rest.1));
}
one_before valid at next t (run_fault n byte) h k = tt
one_before valid at next t (cut_short byte) h k = tt
one_before valid at next t ended h k = tt

abbrev after_turn : Placed → ℕ → Bool → List ℕ → Run
after_turn p turns marked valid = elim p [
  | none_left ↦ ended
  | bad_at n byte ↦ run_fault n byte
  | placed t next ↦ if is_stop t.lexeme then run (t ∷ []) next else after_token t (run_from turns marked next true (is_minus t.lexeme) valid)
]

taken : (valid : List ℕ) (marked : Bool) (at : ℕ) (direct minus : Bool) (t : Token (List ℕ)) (next : ℕ) → placed t next ≡ placed_at marked at direct minus valid → IsTaken valid at t next
taken valid marked at direct minus t next e = record {
  fits = subst (FitsPlaced at valid) (sym e) (placed_at-sized valid marked at direct minus);
  lexeme = placed_at-sound valid marked at direct minus t next e;
}

turn-keeps : (turns : ℕ) (marked : Bool) (at : ℕ) (direct minus : Bool) (valid : List ℕ) (p : Placed) → p ≡ placed_at marked at direct minus valid
    → ((next : ℕ) (last : Bool) → Keeps valid next (run_from turns marked next true last valid)) → Keeps valid at (after_turn p turns marked valid)
turn-keeps turns marked at direct minus valid none_left e more = tt
turn-keeps turns marked at direct minus valid (bad_at n byte) e more = tt
turn-keeps turns marked at direct minus valid (placed t next) e more =
    let h : IsTaken valid at t next = taken valid marked at direct minus t next e in
    let rest = run_from turns marked next true (is_minus t.lexeme) valid in
    pick (Keeps valid at) (is_stop t.lexeme) (run (t ∷ []) next) (after_token t rest)
    (λ _. the_last valid at next t h)
    (λ _. one_before valid at next t rest h (more next (is_minus t.lexeme)))

run-keeps : (turns : ℕ) (marked : Bool) (at : ℕ) (direct minus : Bool) (valid : List ℕ) → Keeps valid at (run_from turns marked at direct minus valid)
unfolding run_from
run-keeps zero marked at direct minus valid = tt
run-keeps (suc turns) marked at direct minus valid =
    turn-keeps turns marked at direct minus valid (placed_at marked at direct minus valid) refl (λ next last. run-keeps turns marked next true last valid)

pub kept : (text : List ℕ) (k next : ℕ) (tokens : List (Token (List ℕ))) → next_run text k ≡ run tokens next → IsKept (valid_of text) k tokens next
kept text k next tokens e = subst (Keeps (valid_of text) k) e (run-keeps (suc (length text)) (is_marked text) k false false (valid_of text))

pub valid_le : (text : List ℕ) → length (valid_of text) ≤ length text
valid_le text = omega (arith, length-take (utf8_valid_len text) text)

-- the bytes before the first ill-formed one are UTF-8
front-utf8 : (bs : List ℕ) (m : ℕ) → IsUtf8 (take (valid_len_up_to bs m) bs)
front-utf8 bs zero = IsUtf8-nil
front-utf8 bs (suc m) = pick (λ n. IsUtf8 (take n bs)) (is_utf8 (take (suc m) bs)) (suc m) (valid_len_up_to bs m) (λ t. IsUtf8-from_is_utf8 (take (suc m) bs) t) (λ _. front-utf8 bs m)

valid-utf8 : (text : List ℕ) → IsUtf8 (valid_of text)
unfolding utf8_valid_len
valid-utf8 text = front-utf8 text (length text)

pub StartIsPlace-holds : StartIsPlace
StartIsPlace-holds text = record { within = omega arith; begins = valid-utf8 text }

pub RunsProceed-holds : RunsProceed
RunsProceed-holds text k next tokens e =
    let h = kept text k next tokens e in
    record {
      later = omega (arith, h.first_later, h.first_before);
      within = omega (arith, h.within, valid_le text);
      first_later = h.first_later;
      first_before = h.first_before;
    }

pub RunsEndAtPlaces-holds : RunsEndAtPlaces
RunsEndAtPlaces-holds text k next tokens place e =
    let h = kept text k next tokens e in
    record { within = h.within; begins = (h.lexemes place.begins).0 }
