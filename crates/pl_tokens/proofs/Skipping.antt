-- Going over layout and comments, one at a time.
use Rattle.std.proofs.Common.{◌≡◌, ℕ, zero, suc, ◌+◌, ◌-◌, ◌≤◌, List, [], ◌∷◌, length, drop, take, Some, refl, sym, ap, ◌∙◌, arith, length-drop}
use Rattle.text_model.specs.Tokens.{Skipped, skipped, bad_comment, over, Step, layout, unfinished, no_layout, layout_step, skip, skipped_from, step_of}

abbrev after_step : Step → ℕ → List ℕ → Skipped
after_step s turns bs = elim s [
  | layout n ↦ over (suc n) (skip turns (drop (suc n) bs))
  | unfinished ↦ bad_comment 0
  | no_layout ↦ skipped 0
]

over-over : (m n : ℕ) (s : Skipped) → over m (over n s) ≡ over (m + n) s
over-over m n (skipped k) = ap skipped (omega arith)
over-over m n (bad_comment k) = ap bad_comment (omega arith)

skip-enough : (m n : ℕ) (bs : List ℕ) → length bs ≤ m → length bs ≤ n → skip m bs ≡ skip n bs
unfolding skip
skip-enough zero zero bs h k = refl
skip-enough zero (suc n) [] h k = refl
skip-enough zero (suc n) (b ∷ bs) h k = absurd (omega arith)
skip-enough (suc m) zero [] h k = refl
skip-enough (suc m) zero (b ∷ bs) h k = absurd (omega arith)
skip-enough (suc m) (suc n) bs h k = go (layout_step bs) (λ i. skip-enough m n (drop (suc i) bs) (omega (arith, length-drop (suc i) bs)) (omega (arith, length-drop (suc i) bs)))
  where
    go : (s : Step) → ((i : ℕ) → skip m (drop (suc i) bs) ≡ skip n (drop (suc i) bs)) → after_step s m bs ≡ after_step s n bs
    go (layout i) same = ap (over (suc i)) (same i)
    go unfinished same = refl
    go no_layout same = refl

one_turn : (turns : ℕ) (bs : List ℕ) (s : Step) → layout_step bs ≡ s → skip (suc turns) bs ≡ after_step s turns bs
unfolding skip
one_turn turns bs s e = ap (λ t. after_step t turns bs) e

drop-drop : (n m : ℕ) (xs : List ℕ) → drop n (drop m xs) ≡ drop (m + n) xs
drop-drop n m xs = grind (arith, Rattle.std.proofs.lemmas.Grind.common_steps)

at_layout : (bs : List ℕ) (n : ℕ) → layout_step bs ≡ layout n → suc n ≤ length bs → skip (length bs) bs ≡ over (suc n) (skip (length (drop (suc n) bs)) (drop (suc n) bs))
at_layout [] n e h = absurd (omega arith)
at_layout (b ∷ bs) n e h = one_turn (length bs) (b ∷ bs) (layout n) e ∙ ap (over (suc n)) (skip-enough (length bs) (length (drop n bs)) (drop n bs) (omega (arith, length-drop n bs)) (omega arith))

pub skipped_from-layout : (text : List ℕ) (at n : ℕ) → layout_step (drop at text) ≡ layout n → suc n ≤ length (drop at text) → skipped_from at text ≡ skipped_from (at + suc n) text
skipped_from-layout text at n e h =
    ap (over at) (at_layout (drop at text) n e h) ∙ over-over at (suc n) _ ∙ ap (λ d. over (at + suc n) (skip (length d) d)) (drop-drop (suc n) at text)

at_no_layout : (bs : List ℕ) → layout_step bs ≡ no_layout → skip (length bs) bs ≡ skipped 0
unfolding skip
at_no_layout [] e = refl
at_no_layout (b ∷ bs) e = one_turn (length bs) (b ∷ bs) no_layout e

pub skipped_from-none : (text : List ℕ) (at : ℕ) → no_layout ≡ layout_step (drop at text) → skipped at ≡ skipped_from at text
skipped_from-none text at e = sym (ap (over at) (at_no_layout (drop at text) (sym e)) ∙ ap skipped (omega arith))

at_unfinished : (bs : List ℕ) → layout_step bs ≡ unfinished → skip (length bs) bs ≡ bad_comment 0
unfolding skip
at_unfinished [] e = absurd (cc)
at_unfinished (b ∷ bs) e = one_turn (length bs) (b ∷ bs) unfinished e

pub skipped_from-unfinished : (text : List ℕ) (at : ℕ) → unfinished ≡ layout_step (drop at text) → bad_comment at ≡ skipped_from at text
skipped_from-unfinished text at e = sym (ap (over at) (at_unfinished (drop at text) (sym e)) ∙ ap bad_comment (omega arith))

pub skipped_from-more : (text : List ℕ) (at n : ℕ) → (n ≡ 0 → ⊥) → step_of (Some n) ≡ layout_step (drop at text) → n ≤ length (drop at text) → skipped_from (at + n) text ≡ skipped_from at text
skipped_from-more text at zero not e h = absurd (not refl)
skipped_from-more text at (suc n) not e h = sym (skipped_from-layout text at n (sym e) h)

-- the slice from a place on
pub rest_is : (text : List ℕ) (at : ℕ) → take (length text - at) (drop at text) ≡ drop at text
rest_is text at = grind (arith, Rattle.std.proofs.lemmas.Grind.common_steps)
