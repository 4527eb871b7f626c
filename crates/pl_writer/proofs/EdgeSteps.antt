-- What is put after a text, piece by piece.
use Rattle.std.proofs.Common.{◌≡◌, ℕ, suc, ◌-◌, ◌<◌, List, [], ◌∷◌, ◌++◌, length, take, get_or, Bool, true, false, ◌&&◌, refl, sym, ap, ◌∙◌, arith}
use Rattle.std.specs.Prelude.{Result, Ok, Err, OnErr}
use Rattle.std.specs.List.{flat_map}
use Rattle.std.proofs.Math.Seq.{take-append_seam}
use Rattle.text_model.specs.Writing.{name_text, escaped, last_of, is_letters, is_sign, is_before, is_bare}
use Rattle.text_model.specs.declared.Quote.{Quote}
use Rattle.text_model.specs.declared.Quote.TheVariants.{Plain as plain, Quoted as quotes}
use Rattle.text_model.specs.declared.Role.{Role}
use Rattle.pl_writer.specs.Edges.{Begins, quoted_text, needs_quotes, edge_of}
use Rattle.pl_writer.specs.declared.edge.Edge.{Edge}
use Rattle.pl_writer.proofs.Bools.{and-false, if_true, if_false, not-true, not-false}

-- ---- fronts

-- where a call has failed, what holds then
pub keeps : {T E P : Type 0} (r : Result T E) → P → OnErr r P
keeps (Ok x) p = tt
keeps (Err e) p = p

pub begins-same : (old new : List ℕ) → new ≡ old → Begins old new
begins-same old new e = record { front = ap (take (length old)) (e ∙ sym (append-nil old)) ∙ take-append_seam old [] }
  where
    append-nil : (xs : List ℕ) → xs ++ [] ≡ xs
    append-nil [] = refl
    append-nil (x ∷ xs) = ap (λ l. x ∷ l) (append-nil xs)

pub begins-more : (old new more : List ℕ) → new ≡ old ++ more → Begins old new
begins-more old new more e = record { front = ap (take (length old)) e ∙ take-append_seam old more }

take_front : (xs ys zs : List ℕ) → take (length ys) zs ≡ ys → take (length xs) ys ≡ xs → take (length xs) zs ≡ xs
take_front [] ys zs h k = refl
take_front (x ∷ xs) [] zs h k = absurd (cc)
take_front (x ∷ xs) (y ∷ ys) [] h k = absurd (cc)
take_front (x ∷ xs) (y ∷ ys) (z ∷ zs) h k =
    let a : z ≡ y = cc in
    let b : take (length ys) zs ≡ ys = cc in
    let c : y ≡ x = cc in
    let d : take (length xs) ys ≡ xs = cc in
    ap (λ n. n ∷ take (length xs) zs) (a ∙ c) ∙ ap (λ l. x ∷ l) (take_front xs ys zs b d)

pub begins-then : (a b c : List ℕ) → Begins a b → Begins b c → Begins a c
begins-then a b c h k = record { front = take_front a b c k.front h.front }

pub begins-after : (a b c more : List ℕ) → b ≡ a ++ more → Begins b c → Begins a c
begins-after a b c more e k = begins-then a b c (begins-more a b more e) k

-- ---- names

pub last-append : (c : ℕ) (s : List ℕ) (d : ℕ) → last_of c (s ++ d ∷ []) ≡ d
last-append c [] d = refl
last-append c (b ∷ bs) d = last-append b bs d

pub last-at : (c : ℕ) (s : List ℕ) → 0 < length s → last_of c s ≡ get_or s (length s - 1) 0
last-at c [] h = absurd (omega arith)
last-at c (b ∷ []) h = refl
last-at c (b ∷ d ∷ ds) h =
    let here : length (d ∷ ds) - 1 ≡ length ds = omega arith in
    let next : length (b ∷ d ∷ ds) - 1 ≡ suc (length ds) = omega arith in
    last-at c (d ∷ ds) (omega arith) ∙ ap (λ i. get_or (d ∷ ds) i 0) here ∙ ap (λ i. get_or (b ∷ d ∷ ds) i 0) (sym next)

pub quoted-letters : (r : Role) (s : List ℕ) → is_letters (record { text = quoted_text s; role = r }) ≡ false
quoted-letters r s = and-false (is_sign r)

pub quoted-edge : (r : Role) (s : List ℕ) → edge_of (record { text = quoted_text s; role = r }) ≡ record { started = true; last = 39; letters = false; before = is_before r; minus = false }
quoted-edge r s =
    let make : ℕ → Bool → Edge = λ n b. record { started = true; last = n; letters = b; before = is_before r; minus = false } in
    ap (λ n. make n (is_sign r && false)) (last-append 39 (flat_map escaped s) 39) ∙ ap (make 39) (and-false (is_sign r))

pub named-quoted : (q : Quote) (s : List ℕ) → needs_quotes q s ≡ true → name_text q s ≡ quoted_text s
named-quoted plain s h = absurd (cc)
named-quoted quotes s h = if_false (is_bare s) s (quoted_text s) (not-true (is_bare s) h)

pub named-bare : (q : Quote) (s : List ℕ) → needs_quotes q s ≡ false → name_text q s ≡ s
named-bare plain s h = refl
named-bare quotes s h = if_true (is_bare s) s (quoted_text s) (not-false (is_bare s) h)
