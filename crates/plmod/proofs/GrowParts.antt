-- The texts of the command `grow` from their parts.
use Rattle.std.proofs.Common.{◌≡◌, ℕ, ◌-◌, ◌<◌, ◌≤◌, List, [], ◌++◌, codes, decimal, if◌then◌else◌, sym, ap, ◌∙◌, append_assoc, append-nil}
use Rattle.std.proofs.lemmas.Bool.{lt-ltb, le-ltb}
use Rattle.plmod.specs.Growing.{import_line, fact_line, rule_line, interface_lines, body_lines, only_after_first, grow_text, last_text}

-- ---- parts that are put one after the other

two : (o p q a b : List ℕ) → a ≡ o ++ p → b ≡ a ++ q → b ≡ o ++ (p ++ q)
two o p q a b x y = y ∙ ap (λ l. l ++ q) x ∙ append_assoc o p q

three : (o p q r a b c : List ℕ) → a ≡ o ++ p → b ≡ a ++ q → c ≡ b ++ r → c ≡ o ++ (p ++ (q ++ r))
three o p q r a b c x y z = two o p (q ++ r) a c x (two a q r b c y z)

four : (o p q r s a b c d : List ℕ) → a ≡ o ++ p → b ≡ a ++ q → c ≡ b ++ r → d ≡ c ++ s → d ≡ o ++ (p ++ (q ++ (r ++ s)))
four o p q r s a b c d x y z w = two o p (q ++ (r ++ s)) a d x (three a q r s b c d y z w)

five : (o p q r s t a b c d e : List ℕ) → a ≡ o ++ p → b ≡ a ++ q → c ≡ b ++ r → d ≡ c ++ s → e ≡ d ++ t → e ≡ o ++ (p ++ (q ++ (r ++ (s ++ t))))
five o p q r s t a b c d e x y z w v = two o p (q ++ (r ++ (s ++ t))) a e x (four a q r s t b c d e y z w v)

-- words with a number after each but the last
after_two : (a b c d : List ℕ) → (a ++ d) ++ ((b ++ d) ++ c) ≡ a ++ d ++ b ++ d ++ c
after_two a b c d = simp append_assoc

after_three : (a b c e d : List ℕ) → (a ++ d) ++ ((b ++ d) ++ ((c ++ d) ++ e)) ≡ a ++ d ++ b ++ d ++ c ++ d ++ e
after_three a b c e d = simp append_assoc

after_both : (a b c d e : List ℕ) → (a ++ d) ++ ((b ++ e) ++ c) ≡ a ++ d ++ b ++ e ++ c
after_both a b c d e = simp append_assoc

after_line : (i w d e : List ℕ) → i ++ ((w ++ d) ++ e) ≡ i ++ w ++ d ++ e
after_line i w d e = simp append_assoc

-- ---- the parts of the texts

pub interface_made : (k : ℕ) (o a b c d : List ℕ) → a ≡ o ++ (codes ":- module(m" ++ decimal k) → b ≡ a ++ (codes ").\n:- export(p" ++ decimal k) → c ≡ b ++ (codes "/1).\n:- end_module(m" ++ decimal k)
    → d ≡ c ++ codes ").\n" → d ≡ o ++ interface_lines k
interface_made k o a b c d x y z w =
    four o (codes ":- module(m" ++ decimal k) (codes ").\n:- export(p" ++ decimal k) (codes "/1).\n:- end_module(m" ++ decimal k) (codes ").\n") a b c d x y z w
    ∙ ap (λ l. o ++ l) (after_three (codes ":- module(m") (codes ").\n:- export(p") (codes "/1).\n:- end_module(m") (codes ").\n") (decimal k))

pub import_made : (k : ℕ) (o a b c : List ℕ) → a ≡ o ++ (codes ":- import(m" ++ decimal k) → b ≡ a ++ (codes ", [p" ++ decimal k) → c ≡ b ++ codes "/1]).\n" → c ≡ o ++ import_line k
import_made k o a b c x y z =
    three o (codes ":- import(m" ++ decimal k) (codes ", [p" ++ decimal k) (codes "/1]).\n") a b c x y z
    ∙ ap (λ l. o ++ l) (after_two (codes ":- import(m") (codes ", [p") (codes "/1]).\n") (decimal k))

pub last_made : (k : ℕ) (o a b c : List ℕ) → a ≡ o ++ import_line k → b ≡ a ++ (codes "go(X) :- p" ++ decimal k) → c ≡ b ++ codes "(X).\n" → c ≡ o ++ last_text k
last_made k o a b c x y z =
    three o (import_line k) (codes "go(X) :- p" ++ decimal k) (codes "(X).\n") a b c x y z
    ∙ ap (λ l. o ++ l) (after_line (import_line k) (codes "go(X) :- p") (decimal k) (codes "(X).\n"))

pub fact_made : (k : ℕ) (o a b c : List ℕ) → a ≡ o ++ (codes "p" ++ decimal k) → b ≡ a ++ (codes "(" ++ decimal k) → c ≡ b ++ codes ").\n" → c ≡ o ++ fact_line k
fact_made k o a b c x y z =
    three o (codes "p" ++ decimal k) (codes "(" ++ decimal k) (codes ").\n") a b c x y z
    ∙ ap (λ l. o ++ l) (after_two (codes "p") (codes "(") (codes ").\n") (decimal k))

pub rule_made : (k : ℕ) (o a b c : List ℕ) → a ≡ o ++ (codes "p" ++ decimal k) → b ≡ a ++ (codes "(X) :- p" ++ decimal (k - 1)) → c ≡ b ++ codes "(X).\n" → c ≡ o ++ rule_line k
rule_made k o a b c x y z =
    three o (codes "p" ++ decimal k) (codes "(X) :- p" ++ decimal (k - 1)) (codes "(X).\n") a b c x y z
    ∙ ap (λ l. o ++ l) (after_both (codes "p") (codes "(X) :- p") (codes "(X).\n") (decimal k) (decimal (k - 1)))

pub directive_made : (word o a b : List ℕ) (k : ℕ) → a ≡ o ++ (word ++ decimal k) → b ≡ a ++ codes ").\n" → b ≡ o ++ (word ++ decimal k ++ codes ").\n")
directive_made word o a b k x y = two o (word ++ decimal k) (codes ").\n") a b x y

-- a line of a module that is not the first
pub after_first : (k : ℕ) (line o a : List ℕ) → 1 < k → a ≡ o ++ line → a ≡ o ++ only_after_first k line
after_first k line o a h x = x ∙ ap (λ b. o ++ (if b then line else [])) (sym (lt-ltb 1 k h))

-- the first has none
pub only_first : (k : ℕ) (line o : List ℕ) → k ≤ 1 → o ≡ o ++ only_after_first k line
only_first k line o h = sym (ap (λ b. o ++ (if b then line else [])) (le-ltb 1 k h) ∙ append-nil o)

pub body_made : (k : ℕ) (o a b c d e : List ℕ) → a ≡ o ++ (codes ":- body(m" ++ decimal k ++ codes ").\n") → b ≡ a ++ only_after_first k (import_line (k - 1)) → c ≡ b ++ fact_line k
    → d ≡ c ++ only_after_first k (rule_line k) → e ≡ d ++ (codes ":- end_body(m" ++ decimal k ++ codes ").\n") → e ≡ o ++ body_lines k
body_made k o a b c d e =
    five o (codes ":- body(m" ++ decimal k ++ codes ").\n") (only_after_first k (import_line (k - 1))) (fact_line k) (only_after_first k (rule_line k)) (codes ":- end_body(m" ++ decimal k ++ codes ").\n") a b c d e

-- the text of a module
pub text_made : (k : ℕ) (o a b : List ℕ) → o ≡ [] → a ≡ o ++ interface_lines k → b ≡ a ++ body_lines k → b ≡ grow_text k
text_made k o a b none x y = y ∙ ap (λ l. l ++ body_lines k) (x ∙ ap (λ l. l ++ interface_lines k) none)

-- what is put into an empty text
pub alone : (o a line : List ℕ) → o ≡ [] → a ≡ o ++ line → a ≡ line
alone o a line none x = x ∙ ap (λ l. l ++ line) none
