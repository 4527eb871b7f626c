-- The token after a place.
use Rattle.std.proofs.Common.{◌≡◌, ℕ, ◌+◌, ◌<◌, List, length, drop, Bool, ◌&&◌, nat_eq, nat_lt, refl, sym, ap, ◌∙◌, arith, length-drop}
use Rattle.std.proofs.lemmas.Bool.{lt-ltb, cond-true}
use Rattle.std.proofs.lemmas.Grind.{common_steps}
use Rattle.text_model.specs.Tokens.{Lexeme, Found, found, fault, Skipped, skipped, bad_comment, over, skip, skipped_from, shifted, next_after, token_at, Placed, placed, bad_at, put_at, placed_at}

-- what is found at a place after layout
abbrev pub put_found : ℕ → Bool → Found (Lexeme (List ℕ)) → Placed
put_found at direct (found l len) = placed (record { lexeme = l; byte = at; direct = direct }) (at + len)
put_found at direct (fault n k) = bad_at n (at + k)

put-shifted : (at k : ℕ) (direct : Bool) (f : Found (Lexeme (List ℕ))) → put_found (at + k) (direct && nat_eq k 0) f ≡ put_at at direct (shifted k f)
put-shifted at k direct (found l len) = refl
put-shifted at k direct (fault n j) = ap (bad_at n) (omega arith)

drop-drop : (n m : ℕ) (xs : List ℕ) → drop n (drop m xs) ≡ drop (m + n) xs
drop-drop n m xs = grind (arith, common_steps)

same-test : (at k : ℕ) → nat_eq (at + k) at ≡ nat_eq k 0
same-test at k = grind (arith, common_steps)

at_skipped : (valid : List ℕ) (marked direct minus : Bool) (at k : ℕ) (f : Found (Lexeme (List ℕ))) → at + k < length valid → f ≡ token_at marked (minus && nat_eq (at + k) at) (drop (at + k) valid) → put_found (at + k) (direct && nat_eq (at + k) at) f ≡ put_at at direct (next_after marked minus (drop at valid) (skipped k))
at_skipped valid marked direct minus at k f h e =
    let some : k < length (drop at valid) = omega (arith, length-drop at valid) in
    let same : f ≡ token_at marked (minus && nat_eq k 0) (drop k (drop at valid)) = e ∙ ap (λ b. token_at marked (minus && b) (drop (at + k) valid)) (same-test at k) ∙ ap (token_at marked (minus && nat_eq k 0)) (sym (drop-drop k at valid)) in
    ap (λ b. put_found (at + k) (direct && b) f) (same-test at k) ∙ put-shifted at k direct f ∙ ap (λ g. put_at at direct (shifted k g)) same
    ∙ sym (ap (put_at at direct) (cond-true (nat_lt k (length (drop at valid))) (shifted k (token_at marked (minus && nat_eq k 0) (drop k (drop at valid)))) _ (lt-ltb k (length (drop at valid)) some)))

pub found_after : (valid : List ℕ) (marked direct minus : Bool) (at place : ℕ) (f : Found (Lexeme (List ℕ))) → skipped place ≡ skipped_from at valid → place < length valid → f ≡ token_at marked (minus && nat_eq place at) (drop place valid) → put_found place (direct && nat_eq place at) f ≡ placed_at marked at direct minus valid
found_after valid marked direct minus at place f s h e = go (skip (length (drop at valid)) (drop at valid)) s
  where
    go : (r : Skipped) → skipped place ≡ over at r → put_found place (direct && nat_eq place at) f ≡ put_at at direct (next_after marked minus (drop at valid) r)
    go (skipped k) s =
        let same : place ≡ at + k = cc in
        let h2 : at + k < length valid = omega arith in
        let e2 : f ≡ token_at marked (minus && nat_eq (at + k) at) (drop (at + k) valid) = e ∙ ap (λ p. token_at marked (minus && nat_eq p at) (drop p valid)) same in
        ap (λ p. put_found p (direct && nat_eq p at) f) same ∙ at_skipped valid marked direct minus at k f h2 e2
    go (bad_comment k) s = absurd (cc)
