-- Where a block comment ends.
use Rattle.std.proofs.Common.{◌≡◌, ℕ, suc, ◌+◌, ◌≤◌, ◌<◌, List, [], ◌∷◌, length, drop, get_or, Bool, true, false, ◌&&◌, nat_eq, Option, Some, None, refl, sym, ap, ◌∙◌, arith, if◌then◌else◌, length-drop}
use Rattle.std.specs.Option.{option_map}
use Rattle.std.proofs.Math.Seq.{drop-cons}
use Rattle.std.proofs.lemmas.Bool.{ne_eqb}
use Rattle.text_model.specs.Tokens.{block_len}

two_at : (rest : List ℕ) (at : ℕ) → at + 1 < length rest → drop at rest ≡ get_or rest at 0 ∷ get_or rest (at + 1) 0 ∷ drop (suc (suc at)) rest
two_at rest at h =
    drop-cons rest at 0 (omega arith) ∙ ap (λ l. get_or rest at 0 ∷ l) (drop-cons rest (suc at) 0 (omega arith))
    ∙ ap (λ i. get_or rest at 0 ∷ get_or rest i 0 ∷ drop (suc (suc at)) rest) (omega arith)

next_at : (rest : List ℕ) (at : ℕ) → at + 1 < length rest → drop (at + 1) rest ≡ get_or rest (at + 1) 0 ∷ drop (suc (suc at)) rest
next_at rest at h =
    let e : at + 1 ≡ suc at = omega arith in
    rw e (drop-cons rest (suc at) 0 (omega arith))

pub block_here : (rest : List ℕ) (at : ℕ) → at + 1 < length rest → get_or rest at 0 ≡ 42 → get_or rest (at + 1) 0 ≡ 47 → block_len (drop at rest) ≡ Some 0
block_here rest at h first second = ap block_len (two_at rest at h ∙ ap (λ b. b ∷ get_or rest (at + 1) 0 ∷ drop (suc (suc at)) rest) first ∙ ap (λ b. 42 ∷ b ∷ drop (suc (suc at)) rest) second)

pub block_not : (rest : List ℕ) (at : ℕ) → at + 1 < length rest → (nat_eq (get_or rest at 0) 42 && nat_eq (get_or rest (at + 1) 0) 47) ≡ false → block_len (drop at rest) ≡ option_map suc (block_len (drop (at + 1) rest))
block_not rest at h not =
    ap block_len (two_at rest at h)
    ∙ ap (λ b. if b then Some 0 else option_map suc (block_len (get_or rest (at + 1) 0 ∷ drop (suc (suc at)) rest))) not
    ∙ ap (λ l. option_map suc (block_len l)) (sym (next_at rest at h))

short : (l : List ℕ) → length l ≤ 1 → block_len l ≡ None
short [] h = refl
short (b ∷ []) h = refl
short (b ∷ c ∷ cs) h = absurd (omega arith)

pub block_none : (rest : List ℕ) (at : ℕ) → length rest ≤ at + 1 → block_len (drop at rest) ≡ None
block_none rest at h = short (drop at rest) (omega (arith, length-drop at rest))

shift_map : (at : ℕ) (o : Option ℕ) → option_map (λ k. at + k) (option_map suc o) ≡ option_map (λ k. (at + 1) + k) o
shift_map at None = refl
shift_map at (Some k) = ap Some (omega arith)

pub block_next : (rest : List ℕ) (at : ℕ) → at + 1 < length rest → (nat_eq (get_or rest at 0) 42 && nat_eq (get_or rest (at + 1) 0) 47) ≡ false → block_len rest ≡ option_map (λ k. at + k) (block_len (drop at rest)) → block_len rest ≡ option_map (λ k. (at + 1) + k) (block_len (drop (at + 1) rest))
block_next rest at h not was = was ∙ ap (option_map (λ k. at + k)) (block_not rest at h not) ∙ shift_map at (block_len (drop (at + 1) rest))

pub not_first : (a b m n : ℕ) → (a ≡ m → ⊥) → (nat_eq a m && nat_eq b n) ≡ false
not_first a b m n h = rw (ne_eqb a m h) refl

pub not_second : (a b m n : ℕ) → (b ≡ n → ⊥) → (nat_eq a m && nat_eq b n) ≡ false
not_second a b m n h = rw (ne_eqb b n h) (both_no (nat_eq a m))
  where
    both_no : (x : Bool) → (x && false) ≡ false
    both_no true = refl
    both_no false = refl
