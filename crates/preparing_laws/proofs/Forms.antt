-- The form of a directive of a sound term has names and numbers that fit into a unit.
use Rattle.std.proofs.Common.{◌≡◌, ℕ, suc, ◌<◌, ◌≤◌, ◌^◌, ℤ, pos, negsuc, List, [], ◌∷◌, length, codes, nat_le, Bool, true, false, if◌then◌else◌, Option, Some, None, Ok, Err, option_map, option_and_then, refl, sym, ap, arith, leb-true, subst}
use Rattle.std.specs.List.{AllByRecursion}
use Rattle.pl_terms.specs.Trees.{Tree, var, int, atom, comp, Trees, nil, cons, count}
use Rattle.pl_ops.specs.Tables.{same_text}
use Rattle.unit_model.specs.Facts.{Indicator}
use Rattle.unit_model.specs.Directives.{Text, items_in, first_of, both, single, joined, all_of, several, text_in, integer_in, small, indicator_in, mode_in, modes_in, mode_term_in, indicators_in, mode_terms_in, operator_names_in, Directive, opens, closes, exporting, reexporting, metapredicates, operators, importing, discontiguous, Form, form_of, with_indicators, operator_form, unary_form, binary_form, directive_of}
use Rattle.unit_model.specs.Validity.{IsName, FitsTree, FitsIndicator}
use Rattle.preparing_laws.proofs.Lists.{OfSome, of-map, of-both, of-single, of-first, either-way}

abbrev pub Fits : Tree Text → Type 0
Fits = FitsTree IsName

abbrev pub AreFit : List (Indicator Text) → Type 0
AreFit = AllByRecursion (FitsIndicator IsName)

-- ---- lists of things

items-fit : (t : Tree Text) → Fits t → OfSome (AllByRecursion Fits) (items_in t)
items-fit (atom s) h = either-way (OfSome (AllByRecursion Fits)) (same_text s (codes "[]")) (Some []) None tt tt
items-fit (comp s (cons x (cons t nil))) h =
    either-way (OfSome (AllByRecursion Fits)) (same_text s (codes ".")) (option_map (λ ts. x ∷ ts) (items_in t)) None
    (of-map (AllByRecursion Fits) (AllByRecursion Fits) (λ ts. x ∷ ts) (λ ts k. (h.3.0, k)) (items_in t) (items-fit t h.3.1.0)) tt
items-fit _ h = tt

module _ {A : Type 0} (one : Tree Text → Option A) (P : A → Type 0) (fit : (t : Tree Text) → Fits t → OfSome P (one t)) where
  one-fit : (t : Tree Text) → Fits t → OfSome (AllByRecursion P) (single (one t))
  one-fit t h = of-single P (one t) (fit t h)

  joined-fit : (t : Tree Text) → Fits t → OfSome (AllByRecursion P) (joined one t)
  joined-fit (comp s (cons l (cons r nil))) h =
      of-first (AllByRecursion P) (single (one (comp s (cons l (cons r nil))))) (if same_text s (codes ",") then both (joined one l) (joined one r) else None)
      (one-fit (comp s (cons l (cons r nil))) h)
      (either-way (OfSome (AllByRecursion P)) (same_text s (codes ",")) (both (joined one l) (joined one r)) None
      (of-both P (joined one l) (joined one r) (joined-fit l h.3.0) (joined-fit r h.3.1.0)) tt)
  joined-fit (var n) h = one-fit (var n) h
  joined-fit (int z) h = one-fit (int z) h
  joined-fit (atom s) h = one-fit (atom s) h
  joined-fit (comp s nil) h = one-fit (comp s nil) h
  joined-fit (comp s (cons l nil)) h = one-fit (comp s (cons l nil)) h
  joined-fit (comp s (cons l (cons r (cons t ts)))) h = one-fit (comp s (cons l (cons r (cons t ts)))) h

  all-fit : (ts : List (Tree Text)) → AllByRecursion Fits ts → OfSome (AllByRecursion P) (all_of one ts)
  all-fit [] h = tt
  all-fit (t ∷ ts) h = of-both P (single (one t)) (all_of one ts) (one-fit t h.0) (all-fit ts h.1)

  all-in : (o : Option (List (Tree Text))) → OfSome (AllByRecursion Fits) o → OfSome (AllByRecursion P) (option_and_then (all_of one) o)
  all-in None h = tt
  all-in (Some ts) h = all-fit ts h

  several-fit : (t : Tree Text) → Fits t → OfSome (AllByRecursion P) (several one t)
  several-fit t h =
      of-first (AllByRecursion P) (single (one t)) (first_of (option_and_then (all_of one) (items_in t)) (joined one t)) (one-fit t h)
      (of-first (AllByRecursion P) (option_and_then (all_of one) (items_in t)) (joined one t) (all-in (items_in t) (items-fit t h)) (joined-fit t h))

text-fit : (t : Tree Text) → Fits t → OfSome IsName (text_in t)
text-fit (atom s) h = h
text-fit (var n) h = tt
text-fit (int z) h = tt
text-fit (comp s ts) h = tt

small-fit : (z : ℤ) → OfSome (λ n. n < 2 ^ 8) (small z)
small-fit (pos n) = go (nat_le n 255) refl
  where
    go : (b : Bool) → nat_le n 255 ≡ b → OfSome (λ n. n < 2 ^ 8) (if b then Some n else None)
    go true e = let l : n ≤ 255 = leb-true n 255 e in omega arith
    go false e = tt
small-fit (negsuc n) = tt

indicator-fit : (t : Tree Text) → Fits t → OfSome (FitsIndicator IsName) (indicator_in t)
indicator-fit (comp s (cons (atom n) (cons (int z) nil))) h =
    either-way (OfSome (FitsIndicator IsName)) (same_text s (codes "/")) (option_map (λ a. record { name = n; arity = a }) (small z)) None
    (of-map (λ a. a < 2 ^ 8) (FitsIndicator IsName) (λ a. record { name = n; arity = a }) (λ a k. record { name = h.3.0; arity = k }) (small z) (small-fit z)) tt
indicator-fit _ h = tt

indicators-fit : (t : Tree Text) → Fits t → OfSome AreFit (indicators_in t)
indicators-fit = several-fit indicator_in (FitsIndicator IsName) indicator-fit

-- ---- modes

pub record FitsModes (m : Text × List Bool) : Type 0 where
  pub name : IsName m.0
  pub some : 0 < length m.1
  pub few : length m.1 < 2 ^ 8

one-more : (o : Option Bool) (q : Option (List Bool)) (n : ℕ) → OfSome (λ l. length l ≡ n) q → OfSome (λ l. length l ≡ suc n) (both (single o) q)
one-more None q n h = tt
one-more (Some b) None n h = tt
one-more (Some b) (Some l) n h = ap suc h

modes-as_many : (ts : Trees Text) → OfSome (λ l. length l ≡ count ts) (modes_in ts)
modes-as_many nil = refl
modes-as_many (cons t ts) = one-more (mode_in t) (modes_in ts) (count ts) (modes-as_many ts)

mode_term-fit : (t : Tree Text) → Fits t → OfSome FitsModes (mode_term_in t)
mode_term-fit (var n) h = tt
mode_term-fit (int z) h = tt
mode_term-fit (atom s) h = tt
mode_term-fit (comp s ts) h =
    of-map (λ l. length l ≡ count ts) FitsModes (λ ms. (s, ms))
    (λ ms e. record { name = h.0; some = subst (λ n. 0 < n) (sym e) h.1; few = subst (λ n. n < 2 ^ 8) (sym e) h.2 }) (modes_in ts) (modes-as_many ts)

mode_terms-fit : (t : Tree Text) → Fits t → OfSome (AllByRecursion FitsModes) (mode_terms_in t)
mode_terms-fit = several-fit mode_term_in FitsModes mode_term-fit

names-fit : (t : Tree Text) → Fits t → OfSome (AllByRecursion IsName) (operator_names_in t)
names-fit t h =
    of-first (AllByRecursion IsName) (option_and_then (all_of text_in) (items_in t)) (single (text_in t))
    (all-in text_in IsName text-fit (items_in t) (items-fit t h)) (one-fit text_in IsName text-fit t h)

-- ---- directives

abbrev pub FitsDirective : Directive → Type 0
FitsDirective (opens k m) = OfSome IsName m
FitsDirective (closes k m) = OfSome IsName m
FitsDirective (exporting is) = AreFit is
FitsDirective (reexporting m is) = IsName m × OfSome AreFit is
FitsDirective (metapredicates ms) = AllByRecursion FitsModes ms
FitsDirective (operators p k ns) = AllByRecursion IsName ns
FitsDirective (importing m is) = IsName m × OfSome AreFit is
FitsDirective discontiguous = Unit {0}

abbrev pub FitsForm : Form → Type 0
FitsForm (Err n) = Unit {0}
FitsForm (Ok d) = FitsDirective d

form-fit : (o : Option Directive) → OfSome FitsDirective o → FitsForm (form_of o)
form-fit None h = tt
form-fit (Some d) h = h

either_form : (c : Bool) (x y : Form) → FitsForm x → FitsForm y → FitsForm (if c then x else y)
either_form = either-way FitsForm

unary-fit : (s : Text) (t : Tree Text) → Fits t → FitsForm (unary_form s t)
unary-fit s t h =
    either_form (same_text s (codes "module")) _ _ (text-fit t h)
    (either_form (same_text s (codes "end_module")) _ _ (text-fit t h)
    (either_form (same_text s (codes "body")) _ _ (text-fit t h)
    (either_form (same_text s (codes "end_body")) _ _ (text-fit t h)
    (either_form (same_text s (codes "export")) _ _ (form-fit (option_map exporting (indicators_in t)) (of-map AreFit FitsDirective exporting (λ is k. k) (indicators_in t) (indicators-fit t h)))
    (either_form (same_text s (codes "reexport")) _ _ (form-fit (option_map (λ m. reexporting m None) (text_in t)) (of-map IsName FitsDirective (λ m. reexporting m None) (λ m k. (k, tt)) (text_in t) (text-fit t h)))
    (either_form (same_text s (codes "metapredicate")) _ _ (form-fit (option_map metapredicates (mode_terms_in t)) (of-map (AllByRecursion FitsModes) FitsDirective metapredicates (λ ms k. k) (mode_terms_in t) (mode_terms-fit t h)))
    (either_form (same_text s (codes "import")) _ _ (form-fit (option_map (λ m. importing m None) (text_in t)) (of-map IsName FitsDirective (λ m. importing m None) (λ m k. (k, tt)) (text_in t) (text-fit t h)))
    (either_form (same_text s (codes "discontiguous")) _ _ (form-fit (option_map (λ is. discontiguous) (indicators_in t)) (of-map AreFit FitsDirective (λ is. discontiguous) (λ is k. tt) (indicators_in t) (indicators-fit t h)))
    tt))))))))

with_indicators-fit : (d : Text → Option (List (Indicator Text)) → Directive) → ((m : Text) (is : List (Indicator Text)) → IsName m → AreFit is → FitsDirective (d m (Some is)))
    → (t u : Tree Text) → Fits t → Fits u → FitsForm (with_indicators d t u)
with_indicators-fit d fit t u h k = form-fit (option_and_then (λ s. option_map (λ l. d s (Some l)) (indicators_in u)) (text_in t)) (go (text_in t) (text-fit t h))
  where
    go : (o : Option Text) → OfSome IsName o → OfSome FitsDirective (option_and_then (λ s. option_map (λ l. d s (Some l)) (indicators_in u)) o)
    go None p = tt
    go (Some s) p = of-map AreFit FitsDirective (λ l. d s (Some l)) (λ l q. fit s l p q) (indicators_in u) (indicators-fit u k)

binary-fit : (s : Text) (t u : Tree Text) → Fits t → Fits u → FitsForm (binary_form s t u)
binary-fit s t u h k =
    either_form (same_text s (codes "reexport")) _ _ (with_indicators-fit reexporting (λ m is p q. (p, q)) t u h k)
    (either_form (same_text s (codes "import")) _ _ (with_indicators-fit importing (λ m is p q. (p, q)) t u h k) tt)

operator-fit : (p k ns : Tree Text) → Fits ns → FitsForm (operator_form p k ns)
operator-fit p k ns h = form-fit (option_and_then (λ z. option_and_then (λ s. option_map (operators z s) (operator_names_in ns)) (text_in k)) (integer_in p)) (first (integer_in p))
  where
    second : (z : ℤ) (o : Option Text) → OfSome FitsDirective (option_and_then (λ s. option_map (operators z s) (operator_names_in ns)) o)
    second z None = tt
    second z (Some s) = of-map (AllByRecursion IsName) FitsDirective (operators z s) (λ l q. q) (operator_names_in ns) (names-fit ns h)

    first : (o : Option ℤ) → OfSome FitsDirective (option_and_then (λ z. option_and_then (λ s. option_map (operators z s) (operator_names_in ns)) (text_in k)) o)
    first None = tt
    first (Some z) = second z (text_in k)

pub directive-fit : (t : Tree Text) → Fits t → FitsForm (directive_of t)
directive-fit (comp s (cons t nil)) h = unary-fit s t h.3.0
directive-fit (comp s (cons t (cons u nil))) h = binary-fit s t u h.3.0 h.3.1.0
directive-fit (comp s (cons t (cons u (cons v nil)))) h = either_form (same_text s (codes "op")) _ _ (operator-fit t u v h.3.1.1.0) tt
directive-fit _ h = tt
