-- Runs, a token after the other.
use Rattle.std.proofs.Common.{◌≡◌, ℕ, zero, suc, ◌+◌, ◌≤◌, ◌<◌, List, [], ◌∷◌, length, drop, Bool, true, false, ◌&&◌, if◌then◌else◌, refl, sym, ap, ◌∙◌, arith, nat_eq, nat_lt, length-drop}
use Rattle.std.specs.Prelude.{codes}
use Rattle.std.proofs.lemmas.Bool.{lt-ltb}
use Rattle.std.proofs.lemmas.List.{drop-drop}
use Rattle.text_model.specs.Tokens.{Lexeme, stop, Token, found, token_at, skipped, over, Step, layout, no_layout, unfinished, layout_step, skip, token, nothing, next_token, next_after, shifted, Run, run, run_fault, ended, run_from, after_token, is_minus, is_stop, Placed, placed, bad_at, none_left, put_at}
use Rattle.writing_laws.proofs.Bools.{and-false, if_true, if_false}
use Rattle.writing_laws.proofs.Spells.{at_byte}

-- these bytes, from a place of a text on, give these tokens and end at a place, with turns enough
abbrev pub Runs : List ℕ → ℕ → Bool → Bool → List (Token (List ℕ)) → ℕ → Type 0
Runs bs at direct minus ts n = (text : List ℕ) (turns : ℕ) → drop at text ≡ bs → length bs < turns → run_from turns false at direct minus text ≡ run ts n

and-true : (b : Bool) → (b && true) ≡ b
and-true true = refl
and-true false = refl

skip_none : (turns : ℕ) (bs : List ℕ) → layout_step bs ≡ no_layout → skip turns bs ≡ skipped 0
unfolding skip
skip_none zero bs h = refl
skip_none (suc turns) bs h = ap (λ (s : Step). elim s [ layout n ↦ over (suc n) (skip turns (drop (suc n) bs)) | unfinished ↦ Rattle.text_model.specs.Tokens.bad_comment 0 | no_layout ↦ skipped 0 ]) h

skip_space : (turns : ℕ) (bs : List ℕ) → layout_step bs ≡ no_layout → skip (suc turns) (32 ∷ bs) ≡ skipped 1
unfolding skip
skip_space turns bs h = ap (over 1) (skip_none turns bs h)

next_direct : (bs : List ℕ) (minus : Bool) (l : Lexeme (List ℕ)) (len : ℕ) → layout_step bs ≡ no_layout → token_at false minus bs ≡ found l len → 0 < length bs → next_token false minus bs ≡ token l 0 len
next_direct bs minus l len h k some =
    ap (next_after false minus bs) (skip_none (length bs) bs h)
    ∙ if_true (nat_lt 0 (length bs)) (shifted 0 (token_at false (minus && true) bs)) nothing (lt-ltb 0 (length bs) some)
    ∙ ap (λ m. shifted 0 (token_at false m bs)) (and-true minus)
    ∙ ap (shifted 0) k

next_spaced : (bs : List ℕ) (minus : Bool) (l : Lexeme (List ℕ)) (len : ℕ) → layout_step bs ≡ no_layout → token_at false false bs ≡ found l len → 0 < length bs → next_token false minus (32 ∷ bs) ≡ token l 1 len
next_spaced bs minus l len h k some =
    ap (next_after false minus (32 ∷ bs)) (skip_space (length bs) bs h)
    ∙ if_true (nat_lt 1 (suc (length bs))) (shifted 1 (token_at false (minus && false) bs)) nothing (lt-ltb 1 (suc (length bs)) (omega arith))
    ∙ ap (λ m. shifted 1 (token_at false m bs)) (and-false minus)
    ∙ ap (shifted 1) k

-- what a place gives, and then the run after it
abbrev then_run : ℕ → List ℕ → Placed → Run
then_run turns text x = elim x [
  | none_left ↦ ended
  | bad_at n byte ↦ run_fault n byte
  | placed t next ↦ if is_stop t.lexeme then run (t ∷ []) next else after_token t (run_from turns false next true (is_minus t.lexeme) text)
]

run_placed : (turns at : ℕ) (direct minus : Bool) (text bs : List ℕ) (l : Lexeme (List ℕ)) (k len : ℕ) → drop at text ≡ bs → next_token false minus bs ≡ token l k len → run_from (suc turns) false at direct minus text ≡ then_run turns text (put_at at direct (token l k len))
unfolding run_from
run_placed turns at direct minus text bs l k len here e = ap (λ x. then_run turns text (put_at at direct (next_token false minus x))) here ∙ ap (λ x. then_run turns text (put_at at direct x)) e

run_token : (turns at : ℕ) (direct minus d : Bool) (text bs : List ℕ) (l : Lexeme (List ℕ)) (k len at2 at3 : ℕ) (ts : List (Token (List ℕ))) (n : ℕ) → drop at text ≡ bs → next_token false minus bs ≡ token l k len → is_stop l ≡ false → (direct && nat_eq k 0) ≡ d → at + k ≡ at2 → at2 + len ≡ at3 → run_from turns false at3 true (is_minus l) text ≡ run ts n → run_from (suc turns) false at direct minus text ≡ run (at_byte l at2 d ∷ ts) n
run_token turns at direct minus d text bs l k len at2 at3 ts n here e go ed e2 e3 h =
    run_placed turns at direct minus text bs l k len here e
    ∙ ap (λ x. then_run turns text (placed (record { lexeme = l; byte = at + k; direct = x }) (at + k + len))) ed
    ∙ ap (λ x. then_run turns text (placed (record { lexeme = l; byte = x; direct = d }) (x + len))) e2
    ∙ ap (λ x. then_run turns text (placed (record { lexeme = l; byte = at2; direct = d }) x)) e3
    ∙ if_false (is_stop l) (run (at_byte l at2 d ∷ []) at3) _ go
    ∙ ap (after_token (record { lexeme = l; byte = at2; direct = d })) h

drop_more : (a b : ℕ) (xs ys : List ℕ) → drop a xs ≡ ys → drop (a + b) xs ≡ drop b ys
drop_more a b xs ys h = sym (drop-drop b a xs) ∙ ap (drop b) h

pub runs_direct : (bs : List ℕ) (at : ℕ) (direct minus : Bool) (l : Lexeme (List ℕ)) (len : ℕ) (ts : List (Token (List ℕ))) (n : ℕ) → layout_step bs ≡ no_layout → token_at false minus bs ≡ found l len → is_stop l ≡ false → 1 ≤ len → len ≤ length bs → Runs (drop len bs) (at + len) true (is_minus l) ts n → Runs bs at direct minus (at_byte l at direct ∷ ts) n
runs_direct bs at direct minus l len ts n lay tok go some fits k text zero here h = absurd (omega arith)
runs_direct bs at direct minus l len ts n lay tok go some fits k text (suc turns) here h =
    run_token turns at direct minus direct text bs l 0 len at (at + len) ts n here (next_direct bs minus l len lay tok (omega arith)) go (and-true direct) (omega arith) refl
    (k text turns (drop_more at len text bs here) (omega (arith, length-drop len bs)))

pub runs_spaced : (bs : List ℕ) (at : ℕ) (direct minus : Bool) (l : Lexeme (List ℕ)) (len : ℕ) (ts : List (Token (List ℕ))) (n : ℕ) → layout_step bs ≡ no_layout → token_at false false bs ≡ found l len → is_stop l ≡ false → 1 ≤ len → len ≤ length bs → Runs (drop len bs) (at + 1 + len) true (is_minus l) ts n → Runs (32 ∷ bs) at direct minus (at_byte l (at + 1) false ∷ ts) n
runs_spaced bs at direct minus l len ts n lay tok go some fits k text zero here h = absurd (omega arith)
runs_spaced bs at direct minus l len ts n lay tok go some fits k text (suc turns) here h =
    run_token turns at direct minus false text (32 ∷ bs) l 1 len (at + 1) (at + 1 + len) ts n here (next_spaced bs minus l len lay tok (omega arith)) go (and-false direct) refl refl
    (k text turns (drop_more (at + 1) len text bs (drop_more at 1 text (32 ∷ bs) here)) (omega (arith, length-drop len bs)))

-- the end
end_token : (minus : Bool) → next_token false minus (codes " .") ≡ token stop 1 1
unfolding skip
end_token minus = refl

pub runs_end : (at : ℕ) (direct minus : Bool) → Runs (codes " .") at direct minus (at_byte stop (at + 1) false ∷ []) (at + 2)
runs_end at direct minus text zero here h = absurd (omega arith)
runs_end at direct minus text (suc turns) here h =
    run_placed turns at direct minus text (codes " .") stop 1 1 here (end_token minus)
    ∙ ap (λ d. run (at_byte stop (at + 1) d ∷ []) (at + 1 + 1)) (and-false direct)
    ∙ ap (λ n. run (at_byte stop (at + 1) false ∷ []) n) (let e : at + 1 + 1 ≡ at + 2 = omega arith in e)
