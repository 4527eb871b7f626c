-- Tables of names: their numbers, and what stays where they grow.
use Rattle.std.proofs.Common.{◌≡◌, ℕ, zero, suc, List, [], ◌∷◌, ◌++◌, length, take, Bool, true, false, Some, refl, sym, ap, ◌∙◌, subst, if◌then◌else◌}
use Rattle.std.specs.Prelude.{slice_get, codes}
use Rattle.std.specs.List.{AllByRecursion, IsDistinct, list_any}
use Rattle.std.proofs.lemmas.Slice.Eq.{bytes_eq-Decides}
use Rattle.pl_atoms.specs.Names.{same_text, with_text, IsFront, AreDistinct}
use Rattle.text_model.specs.Tokens.{Lexeme, name, quoted, variable, integer, text_codes, punctuation, stop, Token as ModelToken}
use Rattle.pl_reader.specs.Standing.{AreNames}
use Rattle.pl_reader.specs.Reads.{Agrees, IsNamed, IsKnown, AreKnown, HasGrammar}
use Rattle.pl_reader.specs.declared.machine.GrammarNames.{GrammarNames}

-- a table that has grown
pub front_get : (old new : List (List ℕ)) (k : ℕ) (s : List ℕ) → IsFront old new → slice_get old k ≡ Some s → slice_get new k ≡ Some s
front_get [] new k s h e = absurd (cc)
front_get (o ∷ os) [] k s h e = absurd (no_cons h)
  where
    no_cons : [] ≡ o ∷ os → ⊥
    no_cons h = cc
front_get (o ∷ os) (x ∷ xs) zero s h e = same h ∙ e
  where
    same : x ∷ take (length os) xs ≡ o ∷ os → Some x ≡ Some o
    same h = cc
front_get (o ∷ os) (x ∷ xs) (suc k) s h e = front_get os xs k s (same h) e
  where
    same : x ∷ take (length os) xs ≡ o ∷ os → take (length os) xs ≡ os
    same h = cc

pub front_itself : (old : List (List ℕ)) → IsFront old old
front_itself [] = refl
front_itself (o ∷ os) = ap (λ l. o ∷ l) (front_itself os)

pub front_then : (a b c : List (List ℕ)) → IsFront a b → IsFront b c → IsFront a c
front_then [] b c h k = refl
front_then (x ∷ xs) [] c h k = absurd (no_cons h)
  where
    no_cons : [] ≡ x ∷ xs → ⊥
    no_cons h = cc
front_then (x ∷ xs) (y ∷ ys) [] h k = absurd (no_cons k)
  where
    no_cons : [] ≡ y ∷ ys → ⊥
    no_cons h = cc
front_then (x ∷ xs) (y ∷ ys) (z ∷ zs) h k = join (front_then xs ys zs (rest h) (rest2 k)) (first h) (first2 k)
  where
    rest : y ∷ take (length xs) ys ≡ x ∷ xs → take (length xs) ys ≡ xs
    rest h = cc

    first : y ∷ take (length xs) ys ≡ x ∷ xs → y ≡ x
    first h = cc

    rest2 : z ∷ take (length ys) zs ≡ y ∷ ys → take (length ys) zs ≡ ys
    rest2 h = cc

    first2 : z ∷ take (length ys) zs ≡ y ∷ ys → z ≡ y
    first2 h = cc

    join : take (length xs) zs ≡ xs → y ≡ x → z ≡ y → z ∷ take (length xs) zs ≡ x ∷ xs
    join a b c = cc

take-front : (xs ys : List (List ℕ)) → take (length xs) (xs ++ ys) ≡ xs
take-front [] ys = refl
take-front (x ∷ xs) ys = ap (λ l. x ∷ l) (take-front xs ys)

front_with : (old : List (List ℕ)) (s : List ℕ) (b : Bool) → IsFront old (if b then old else old ++ s ∷ [])
front_with old s true = front_itself old
front_with old s false = take-front old (s ∷ [])

pub front_grown : (old new : List (List ℕ)) (s : List ℕ) → new ≡ with_text old s → IsFront old new
front_grown old new s e = subst (IsFront old) (sym e) (front_with old s (list_any (same_text s) old))

pub agrees_before : (num : List ℕ → ℕ) (old new : List (List ℕ)) → IsFront old new → Agrees num new → Agrees num old
agrees_before num old new h a = record { at = λ s k e. a.at s k (front_get old new k s h e) }

pub named_after : (old new : List (List ℕ)) (s : List ℕ) → IsFront old new → IsNamed old s → IsNamed new s
named_after old new s h n = (n.0, front_get old new n.0 s h n.1)

known_after : (old new : List (List ℕ)) (l : Lexeme (List ℕ)) → IsFront old new → IsKnown old l → IsKnown new l
known_after old new (name s) h k = named_after old new s h k
known_after old new (quoted s) h k = named_after old new s h k
known_after old new (variable s) h k = tt
known_after old new (integer n) h k = tt
known_after old new (text_codes s) h k = tt
known_after old new (punctuation c) h k = tt
known_after old new stop h k = tt

pub all_known_after : (old new : List (List ℕ)) (ts : List (ModelToken (List ℕ))) → IsFront old new → AreKnown old ts → AreKnown new ts
all_known_after old new [] h k = tt
all_known_after old new (t ∷ ts) h k = (known_after old new t.lexeme h k.0, all_known_after old new ts h k.1)

pub all_known_more : (names : List (List ℕ)) (ts : List (ModelToken (List ℕ))) (t : ModelToken (List ℕ)) → AreKnown names ts → IsKnown names t.lexeme → AreKnown names (ts ++ t ∷ [])
all_known_more names [] t k l = (l, tt)
all_known_more names (u ∷ ts) t k l = (k.0, all_known_more names ts t k.1 l)

pub grammar_after : (old new : List (List ℕ)) (g : GrammarNames) → IsFront old new → HasGrammar old g → HasGrammar new g
grammar_after old new g h k = record {
  comma_at = front_get old new g.comma.0 (codes ",") h k.comma_at;
  nil_at = front_get old new g.nil.0 (codes "[]") h k.nil_at;
  curly_at = front_get old new g.curly.0 (codes "{}") h k.curly_at;
  dot_at = front_get old new g.dot.0 (codes ".") h k.dot_at;
}

pub are_names : (num : List ℕ → ℕ) (names : List (List ℕ)) (g : GrammarNames) → Agrees num names → HasGrammar names g → AreNames num g
are_names num names g a h = record {
  comma_is = ap (λ k. record { 0 = k }) (sym (a.at (codes ",") g.comma.0 h.comma_at));
  nil_is = ap (λ k. record { 0 = k }) (sym (a.at (codes "[]") g.nil.0 h.nil_at));
  curly_is = ap (λ k. record { 0 = k }) (sym (a.at (codes "{}") g.curly.0 h.curly_at));
  dot_is = ap (λ k. record { 0 = k }) (sym (a.at (codes ".") g.dot.0 h.dot_at));
}

-- the number of a text
abbrev pub number_in : List (List ℕ) → List ℕ → ℕ
number_in [] s = 0
number_in (t ∷ ts) s = if same_text t s then 0 else suc (number_in ts s)

all_at : (P : List ℕ → Type 0) (ts : List (List ℕ)) (k : ℕ) (s : List ℕ) → AllByRecursion P ts → slice_get ts k ≡ Some s → P s
all_at P [] k s h e = absurd (cc)
all_at P (t ∷ ts) zero s h e = let same : t ≡ s = cc in subst P same h.0
all_at P (t ∷ ts) (suc k) s h e = all_at P ts k s h.1 e

number_is : (ts : List (List ℕ)) (s : List ℕ) (k : ℕ) → AreDistinct ts → slice_get ts k ≡ Some s → number_in ts s ≡ k
unfolding IsDistinct
number_is [] s k h e = absurd (cc)
number_is (t ∷ ts) s zero h e =
    let same : t ≡ s = cc in
    ap (λ b. if b then 0 else suc (number_in ts s)) ((bytes_eq-Decides t s).1 same)
number_is (t ∷ ts) s (suc k) h e =
    ap (λ b. if b then 0 else suc (number_in ts s)) (all_at (λ u. same_text t u ≡ false) ts k s h.0 e) ∙ ap suc (number_is ts s k h.1 e)

pub agrees : (names : List (List ℕ)) → AreDistinct names → Agrees (number_in names) names
agrees names h = record { at = λ s k e. number_is names s k h e }
