-- Going over a quoted item, piece by piece.
use Rattle.std.proofs.Common.{◌≡◌, ℕ, zero, suc, ◌+◌, ◌≤◌, ◌<◌, List, [], ◌++◌, length, drop, refl, sym, ap, ◌∙◌, arith, append_assoc, append-nil, length-drop, true, false}
use Rattle.text_model.specs.Tokens.{Piece, piece, ends, bad_here, cut_off, line_end, piece_at, Quoted, whole, bad_escape, unclosed, after_piece, body}

-- the item is what was read, and what is left; turns are enough
pub record Going (q : ℕ) (rest : List ℕ) (text : List ℕ) (at : ℕ) : Type 0 where
  pub turns : ℕ
  pub enough : length (drop at rest) < turns
  pub same : body (suc (length rest)) q rest ≡ after_piece text at (body turns q (drop at rest))

pub start : (q : ℕ) (rest : List ℕ) → Going q rest [] 0
start q rest = record { turns = suc (length rest); enough = omega arith; same = sym (nothing (body (suc (length rest)) q rest)) }
  where
    nothing : (r : Quoted) → after_piece [] 0 r ≡ r
    nothing (whole cs n) = ap (whole cs) (omega arith)
    nothing (bad_escape k) = ap bad_escape (omega arith)
    nothing (unclosed by_end) = refl

after-after : (cs ds : List ℕ) (m n : ℕ) (r : Quoted) → after_piece cs m (after_piece ds n r) ≡ after_piece (cs ++ ds) (m + n) r
after-after cs ds m n (whole es k) = ap (λ l. whole l (m + (n + k))) (sym (append_assoc cs ds es)) ∙ ap (whole ((cs ++ ds) ++ es)) (omega arith)
after-after cs ds m n (bad_escape k) = ap bad_escape (omega arith)
after-after cs ds m n (unclosed by_end) = refl

abbrev after_turn : Piece → ℕ → ℕ → List ℕ → Quoted
after_turn p turns q bs = elim p [
  | piece cs n ↦ after_piece cs n (body turns q (drop n bs))
  | ends n ↦ whole [] n
  | bad_here k ↦ bad_escape k
  | cut_off ↦ unclosed true
  | line_end ↦ unclosed false
]

one_turn : (turns q : ℕ) (bs : List ℕ) (p : Piece) → piece_at q bs ≡ p → body (suc turns) q bs ≡ after_turn p turns q bs
unfolding body
one_turn turns q bs p e = ap (λ t. after_turn t turns q bs) e

drop-drop : (n m : ℕ) (xs : List ℕ) → drop n (drop m xs) ≡ drop (m + n) xs
drop-drop n m xs = grind (arith, Rattle.std.proofs.lemmas.Grind.common_steps)

turned : (q : ℕ) (rest text : List ℕ) (at turns : ℕ) (p : Piece) → length (drop at rest) < turns → body (suc (length rest)) q rest ≡ after_piece text at (body turns q (drop at rest)) → p ≡ piece_at q (drop at rest) → (t : ℕ) × (length (drop at rest) ≤ t) × (body (suc (length rest)) q rest ≡ after_piece text at (after_turn p t q (drop at rest)))
turned q rest text at zero p enough same e = absurd (omega arith)
turned q rest text at (suc t) p enough same e = (t, omega arith, same ∙ ap (after_piece text at) (one_turn t q (drop at rest) p (sym e)))

pub further : (q : ℕ) (rest text cs : List ℕ) (at n : ℕ) → Going q rest text at → piece cs n ≡ piece_at q (drop at rest) → 0 < n → n ≤ length (drop at rest) → Going q rest (text ++ cs) (at + n)
further q rest text cs at n g e some within =
    let t = turned q rest text at g.turns (piece cs n) g.enough g.same e in
    record {
      turns = t.0;
      enough = omega (arith, t.1, length-drop at rest, length-drop (at + n) rest);
      same = t.2 ∙ after-after text cs at n (body t.0 q (drop n (drop at rest))) ∙ ap (λ d. after_piece (text ++ cs) (at + n) (body t.0 q d)) (drop-drop n at rest);
    }

pub ended : (q : ℕ) (rest text : List ℕ) (at n : ℕ) → Going q rest text at → ends n ≡ piece_at q (drop at rest) → whole text (at + n) ≡ body (suc (length rest)) q rest
ended q rest text at n g e =
    let t = turned q rest text at g.turns (ends n) g.enough g.same e in
    sym (t.2 ∙ ap (λ l. whole l (at + n)) (append-nil text))

pub spoiled : (q : ℕ) (rest text : List ℕ) (at : ℕ) → Going q rest text at → bad_here 0 ≡ piece_at q (drop at rest) → bad_escape at ≡ body (suc (length rest)) q rest
spoiled q rest text at g e =
    let t = turned q rest text at g.turns (bad_here 0) g.enough g.same e in
    sym (t.2 ∙ ap bad_escape (omega arith))

pub cut : (q : ℕ) (rest text : List ℕ) (at : ℕ) → Going q rest text at → cut_off ≡ piece_at q (drop at rest) → unclosed true ≡ body (suc (length rest)) q rest
cut q rest text at g e = let t = turned q rest text at g.turns cut_off g.enough g.same e in sym t.2

pub at_line_end : (q : ℕ) (rest text : List ℕ) (at : ℕ) → Going q rest text at → line_end ≡ piece_at q (drop at rest) → unclosed false ≡ body (suc (length rest)) q rest
at_line_end q rest text at g e = let t = turned q rest text at g.turns line_end g.enough g.same e in sym t.2
