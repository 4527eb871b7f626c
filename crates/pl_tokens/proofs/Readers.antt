-- A reader of tokens by its fields.
use Rattle.std.proofs.Common.{◌≡◌, ℕ, suc, ◌≤◌, ◌<◌, List, length, drop, take, Bool, true, false, not, nat_lt, refl, ap, ◌∙◌, arith, subst, length-drop, if◌then◌else◌}
use Rattle.std.specs.Str.Lossy.{utf8_valid_len}
use Rattle.std.proofs.lemmas.Str.{utf8_valid_len_le}
use Rattle.std.proofs.lemmas.List.{length-take}
use Rattle.std.proofs.lemmas.Grind.{common_steps}
use Rattle.text_model.specs.Tokens.{Token, placed_at, is_stop, is_minus, run_from}
use Rattle.std.specs.Str.{IsUtf8}
use Rattle.pl_tokens.specs.Reader.{Reader, next_of, run_of, past, IsStanding}

pub valid-length : (text : List ℕ) (valid : ℕ) → valid ≡ utf8_valid_len text → valid ≡ length (take valid text)
valid-length text valid e =
    let le : valid ≤ length text = omega (arith, utf8_valid_len_le text) in
    grind (arith, common_steps)

-- a place that is reached is one of the text
pub standing-within : (text : List ℕ) (valid at : ℕ) → IsStanding text valid at → at ≤ length text
standing-within text valid at h = omega (arith, h.within, h.valid_is, utf8_valid_len_le text)

-- further on, at a character's first byte
pub stands-at : (text : List ℕ) (valid at next : ℕ) → IsStanding text valid at → next ≤ length (take valid text) → IsUtf8 (drop next (take valid text)) → IsStanding text valid next
stands-at text valid at next h l u = record { valid_is = h.valid_is; within = omega (arith, l, valid-length text valid h.valid_is); begins = u }

abbrev pub at_of : List ℕ → ℕ → Bool → Bool → Reader
at_of text at direct minus = record { text = text; at = at; direct = direct; minus = minus }

pub next_of-is : (text : List ℕ) (valid at : ℕ) (direct minus : Bool) → valid ≡ utf8_valid_len text → placed_at (nat_lt valid (length text)) at direct minus (take valid text) ≡ next_of (at_of text at direct minus)
next_of-is text valid at direct minus e = ap (λ v. placed_at (nat_lt v (length text)) at direct minus (take v text)) e

pub run_of-is : (text : List ℕ) (valid at : ℕ) (direct minus : Bool) → valid ≡ utf8_valid_len text → run_from (suc (length text)) (nat_lt valid (length text)) at direct minus (take valid text) ≡ run_of (at_of text at direct minus)
run_of-is text valid at direct minus e = ap (λ v. run_from (suc (length text)) (nat_lt v (length text)) at direct minus (take v text)) e

pub enough-turns : (text : List ℕ) (valid at : ℕ) → length (drop at (take valid text)) < suc (length text)
enough-turns text valid at = omega (arith, length-drop at (take valid text), length-take valid text)

pub past-is : (text : List ℕ) (at next : ℕ) (direct minus stop last : Bool) (t : Token (List ℕ)) → stop ≡ is_stop t.lexeme → last ≡ is_minus t.lexeme → at_of text next (not stop) last ≡ past (at_of text at direct minus) t next
past-is text at next direct minus stop last t e f = ap (λ s. at_of text next (not s) last) e ∙ ap (at_of text next (not (is_stop t.lexeme))) f ∙ ap (λ s. at_of text next s (is_minus t.lexeme)) (not-if (is_stop t.lexeme))
  where
    not-if : (b : Bool) → not b ≡ (if b then false else true)
    not-if true = refl
    not-if false = refl

-- the same for the reader that contracts see
pub place-within : (r : Reader) (text : List ℕ) (valid at : ℕ) (direct minus : Bool) → at_of text at direct minus ≡ r → IsStanding text valid at → r.at ≤ length r.text
place-within r text valid at direct minus e h = subst (λ s. s.at ≤ length s.text) e (standing-within text valid at h)

pub place-is : (r : Reader) (text : List ℕ) (at : ℕ) (direct minus : Bool) → at_of text at direct minus ≡ r → at ≡ r.at
place-is r text at direct minus e = ap (λ s. s.at) e
