-- The texts of the command `grow`, as they are made.
use Rattle.std.proofs.Common.{◌≡◌, ℕ, zero, suc, ◌+◌, ◌-◌, ◌^◌, ◌<◌, ◌≤◌, List, [], ◌∷◌, ◌++◌, length, map, codes, decimal, nat_lt, Bool, true, false, if◌then◌else◌, sym, ap, ◌∙◌, subst, arith, length-append}
use Rattle.std.specs.List.{All}
use Rattle.std.proofs.lemmas.Fmt.{length-decimal-le}
use Rattle.std.proofs.lemmas.List.{map-append}
use Rattle.std.proofs.lemmas.List.Elements.{All-nil, All-cons, All-push}
use Rattle.pl_terms.specs.Occurrence.{from_to}
use Rattle.plmod.specs.Growing.{import_line, rule_line, interface_lines, body_lines, only_after_first, grow_text, last_text, grow_texts}

-- ---- one after the other

from_to_more : (k n : ℕ) → from_to k (suc n) ≡ from_to k n ++ (k + n) ∷ []
from_to_more k zero = let e : k ≡ k + 0 = omega arith in ap (λ x. x ∷ []) e
from_to_more k (suc n) =
    let e : suc k + n ≡ k + suc n = omega arith in
    ap (λ l. k ∷ l) (from_to_more (suc k) n ∙ ap (λ x. from_to (suc k) n ++ x ∷ []) e)

-- one more text
pub texts_more : (texts : List (List ℕ)) (n : ℕ) (text : List ℕ) → texts ≡ map grow_text (from_to 1 n) → text ≡ grow_text (n + 1) → texts ++ text ∷ [] ≡ map grow_text (from_to 1 (n + 1))
texts_more texts n text same is =
    let e : n + 1 ≡ 1 + n = omega arith in
    let f : n + 1 ≡ suc n = omega arith in
    ap (λ l. l ++ text ∷ []) same ∙ ap (λ t. map grow_text (from_to 1 n) ++ t ∷ []) (is ∙ ap grow_text e)
    ∙ sym (ap (λ m. map grow_text (from_to 1 m)) f ∙ ap (map grow_text) (from_to_more 1 n) ∙ map-append grow_text (from_to 1 n) ((1 + n) ∷ []))

-- and the last
pub texts_all : (texts all : List (List ℕ)) (n count : ℕ) (last : List ℕ) → texts ≡ map grow_text (from_to 1 n) → n ≡ count → last ≡ last_text count → all ≡ texts ++ last ∷ [] → all ≡ grow_texts count
texts_all texts all n count last same at is put =
    put ∙ ap (λ l. l ++ last ∷ []) (same ∙ ap (λ m. map grow_text (from_to 1 m)) at) ∙ ap (λ t. map grow_text (from_to 1 count) ++ t ∷ []) is

-- ---- how long they are

-- at most 20 digits
abbrev pub IsDigits : List ℕ → Type 0
IsDigits d = length d ≤ 20

is_digits : (n : ℕ) → n < 2 ^ 64 → IsDigits (decimal n)
is_digits n h = length-decimal-le 20 n (omega arith) (omega arith) h

length_import : (d : List ℕ) → IsDigits d → length (codes ":- import(m" ++ d ++ codes ", [p" ++ d ++ codes "/1]).\n") ≤ 100
length_import d h = simp length-append (omega arith)

length_rule : (d e : List ℕ) → IsDigits d → IsDigits e → length (codes "p" ++ d ++ codes "(X) :- p" ++ e ++ codes "(X).\n") ≤ 100
length_rule d e h k = simp length-append (omega arith)

length_interface : (d : List ℕ) → IsDigits d → length (codes ":- module(m" ++ d ++ codes ").\n:- export(p" ++ d ++ codes "/1).\n:- end_module(m" ++ d ++ codes ").\n") ≤ 200
length_interface d h = simp length-append (omega arith)

length_body : (d x y : List ℕ) → IsDigits d → length x ≤ 100 → length y ≤ 100
    → length (codes ":- body(m" ++ d ++ codes ").\n" ++ (x ++ (codes "p" ++ d ++ codes "(" ++ d ++ codes ").\n" ++ (y ++ (codes ":- end_body(m" ++ d ++ codes ").\n"))))) ≤ 500
length_body d x y h k l = simp length-append (omega arith)

length_last : (i d : List ℕ) → length i ≤ 100 → IsDigits d → length (i ++ codes "go(X) :- p" ++ d ++ codes "(X).\n") ≤ 200
length_last i d h k = simp length-append (omega arith)

length_if : (b : Bool) (line : List ℕ) → length line ≤ 100 → length (if b then line else []) ≤ 100
length_if true line h = h
length_if false line h = omega arith

short_text : (k : ℕ) → k < 2 ^ 64 → length (grow_text k) ≤ 67108864
short_text k h =
    let d : IsDigits (decimal k) = is_digits k h in
    let e : IsDigits (decimal (k - 1)) = is_digits (k - 1) (omega arith) in
    let one : length (interface_lines k) ≤ 200 = length_interface (decimal k) d in
    let two : length (body_lines k) ≤ 500 = length_body (decimal k) (only_after_first k (import_line (k - 1))) (only_after_first k (rule_line k)) d
    (length_if (nat_lt 1 k) (import_line (k - 1)) (length_import (decimal (k - 1)) e)) (length_if (nat_lt 1 k) (rule_line k) (length_rule (decimal k) (decimal (k - 1)) d e)) in
    subst (λ (n : ℕ). n ≤ 67108864) (sym (length-append (interface_lines k) (body_lines k))) (omega (arith, one, two))

short_last : (k : ℕ) → k < 2 ^ 64 → length (last_text k) ≤ 67108864
short_last k h =
    let d : IsDigits (decimal k) = is_digits k h in
    let last : length (last_text k) ≤ 200 = length_last (import_line k) (decimal k) (length_import (decimal k) d) d in
    omega (arith, last)

short_from : (k n : ℕ) → k + n ≤ 2 ^ 64 → All (λ t. length t ≤ 67108864) (map grow_text (from_to k n))
short_from k zero h = All-nil (λ t. length t ≤ 67108864)
short_from k (suc n) h = All-cons (λ t. length t ≤ 67108864) (grow_text k) (map grow_text (from_to (suc k) n)) (short_text k (omega arith)) (short_from (suc k) n (omega arith))

pub all_short : (texts : List (List ℕ)) (n : ℕ) → n < 2 ^ 64 → texts ≡ grow_texts n → All (λ t. length t ≤ 67108864) texts
all_short texts n h same =
    let P : List (List ℕ) → Type 0 = λ l. All (λ t. length t ≤ 67108864) l in
    subst P (sym same) (All-push (λ t. length t ≤ 67108864) (map grow_text (from_to 1 n)) (last_text n) (short_from 1 n (omega arith)) (short_last n h))
