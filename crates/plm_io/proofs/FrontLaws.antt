-- Laws of what is appended.
use Rattle.std.specs.Prelude.{◌≡◌, ℕ, ◌+◌, ◌≤◌, List, [], ◌++◌, take, length, Option, Some, None, min}
use Rattle.std.proofs.Common.{sym, ap, ◌∙◌, arith, append-nil, append_assoc, subst}
use Rattle.std.proofs.lemmas.List.{take-append-le, take_min}
use Rattle.std.proofs.Math.Seq.{take-append-add}
use Rattle.std.specs.Io.KnownBytes.{Appends}
use Rattle.plm_io.specs.Causes.{AppendsFront}

pub Appends_nothing : (a : Option (List ℕ)) → Appends a a []
Appends_nothing None = tt
Appends_nothing (Some xs) = sym (append-nil xs)

pub Appends-append : (a b c : Option (List ℕ)) (xs ys : List ℕ) → Appends a b xs → Appends b c ys → Appends a c (xs ++ ys)
Appends-append None b c xs ys p q = tt
Appends-append (Some x) None c xs ys p q = absurd p
Appends-append (Some x) (Some y) None xs ys p q = absurd q
Appends-append (Some x) (Some y) (Some z) xs ys p q = q ∙ ap (λ l. l ++ ys) p ∙ append_assoc x xs ys

pub front_of_nothing : (a : Option (List ℕ)) (xs : List ℕ) → AppendsFront a a xs
front_of_nothing a xs = (0, Appends_nothing a)

take_longer : (n : ℕ) (xs ys : List ℕ) → take (min n (length xs)) (xs ++ ys) ≡ take n xs
take_longer n xs ys =
    let small : min n (length xs) ≤ length xs = omega arith in
    take-append-le (min n (length xs)) xs ys small ∙ take_min n xs

-- a front of the first part
pub front_of_first : (a b : Option (List ℕ)) (xs ys : List ℕ) → AppendsFront a b xs → AppendsFront a b (xs ++ ys)
front_of_first a b xs ys p =
    let P : List ℕ → Type 0 = λ l. Appends a b l in
    (min p.0 (length xs), subst P (sym (take_longer p.0 xs ys)) p.1)

-- the first part, and a front of the second
pub front_of_second : (a b c : Option (List ℕ)) (xs ys : List ℕ) → Appends a b xs → AppendsFront b c ys → AppendsFront a c (xs ++ ys)
front_of_second a b c xs ys p q =
    let P : List ℕ → Type 0 = λ l. Appends a c l in
    (length xs + q.0, subst P (sym (take-append-add xs ys q.0)) (Appends-append a b c xs (take q.0 ys) p q.1))
