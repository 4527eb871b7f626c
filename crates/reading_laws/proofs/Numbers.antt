-- The variables and integers of a term stand in the order of its items.
use Rattle.std.proofs.Common.{◌≡◌, ℕ, ℤ, ◌<◌, ◌^◌, List, [], ◌∷◌, ◌++◌, refl, sym, ap, ◌∙◌, append-nil, append_assoc, arith}
use Rattle.std.specs.Prelude.{FitsSigned, codes}
use Rattle.std.specs.Int.{w64}
use Rattle.std.specs.List.{AllByRecursion}
use Rattle.pl_terms.specs.Trees.{Tree, var, int, atom, comp, Trees, nil, cons}
use Rattle.pl_terms.specs.Occurrence.{occurrences, all_occurrences}
use Rattle.text_model.specs.Grammar.{Bracket, round, curly, square, Item, operand, before, between, after, comma, bar, calls, opens, closes, Parse, leaf, grouped, braced, called, listed, listed_to, prefixed, joined, conjoined, postfixed, Arguments, one, more, yield, all_yield, meaning, all_meaning, list_to, empty_list}
use Rattle.unit_model.specs.Validity.{IsName, FitsTree, FitTrees}
use Rattle.pl_reader.proofs.Fine.{Fine, AllFine}

pub data Number : Type 0 where
  a_variable : ℕ → Number
  an_integer : ℤ → Number

-- the variables and integers of a tree, from the left
abbrev mutual
  pub numbers : Tree (List ℕ) → List Number
  numbers (var n) = a_variable n ∷ []
  numbers (int z) = an_integer z ∷ []
  numbers (atom s) = []
  numbers (comp s ts) = all_numbers ts

  pub all_numbers : Trees (List ℕ) → List Number
  all_numbers nil = []
  all_numbers (cons t ts) = numbers t ++ all_numbers ts

abbrev pub item_numbers : Item → List Number
item_numbers (operand t) = numbers t
item_numbers (before o s) = []
item_numbers (between o s) = []
item_numbers (after o s) = []
item_numbers comma = []
item_numbers bar = []
item_numbers (calls s) = []
item_numbers (opens b) = []
item_numbers (closes b) = []

abbrev pub items_numbers : List Item → List Number
items_numbers [] = []
items_numbers (i ∷ is) = item_numbers i ++ items_numbers is

items-append : (xs ys : List Item) → items_numbers (xs ++ ys) ≡ items_numbers xs ++ items_numbers ys
items-append [] ys = refl
items-append (x ∷ xs) ys = ap (λ ns. item_numbers x ++ ns) (items-append xs ys) ∙ sym (append_assoc (item_numbers x) (items_numbers xs) (items_numbers ys))

before_last : (xs : List Item) (b : Bracket) → items_numbers (xs ++ closes b ∷ []) ≡ items_numbers xs
before_last xs b = items-append xs (closes b ∷ []) ∙ append-nil (items_numbers xs)

pub numbers-list_to : (ts : Trees (List ℕ)) (t : Tree (List ℕ)) → numbers (list_to ts t) ≡ all_numbers ts ++ numbers t
numbers-list_to nil t = refl
numbers-list_to (cons u us) t =
    ap (λ ns. numbers u ++ ns) (append-nil (numbers (list_to us t)) ∙ numbers-list_to us t)
    ∙ sym (append_assoc (numbers u) (all_numbers us) (numbers t))

-- two operands
pair : (l r : Tree (List ℕ)) (s : List ℕ) (xs ys : List Item) (i : Item) → item_numbers i ≡ [] → numbers l ≡ items_numbers xs → numbers r ≡ items_numbers ys
    → numbers (comp s (cons l (cons r nil))) ≡ items_numbers (xs ++ i ∷ ys)
pair l r s xs ys i none e f =
    ap (λ ns. numbers l ++ ns) (append-nil (numbers r))
    ∙ ap (λ ns. ns ++ numbers r) e
    ∙ ap (λ ns. items_numbers xs ++ ns) (f ∙ ap (λ ns. ns ++ items_numbers ys) (sym none))
    ∙ sym (items-append xs (i ∷ ys))

mutual
  pub numbers-meaning : (e : Parse) → numbers (meaning e) ≡ items_numbers (yield e)
  numbers-meaning (leaf t) = sym (append-nil (numbers t))
  numbers-meaning (grouped e) = numbers-meaning e ∙ sym (before_last (yield e) round)
  numbers-meaning (braced e) = append-nil (numbers (meaning e)) ∙ numbers-meaning e ∙ sym (before_last (yield e) curly)
  numbers-meaning (called s es) = numbers-all_meaning es ∙ sym (before_last (all_yield es) round)
  numbers-meaning (listed es) = numbers-list_to (all_meaning es) empty_list ∙ append-nil (all_numbers (all_meaning es)) ∙ numbers-all_meaning es ∙ sym (before_last (all_yield es) square)
  numbers-meaning (listed_to es e) =
      numbers-list_to (all_meaning es) (meaning e)
      ∙ ap (λ ns. ns ++ numbers (meaning e)) (numbers-all_meaning es)
      ∙ ap (λ ns. items_numbers (all_yield es) ++ ns) (numbers-meaning e ∙ sym (before_last (yield e) square))
      ∙ sym (items-append (all_yield es) (bar ∷ (yield e ++ closes square ∷ [])))
  numbers-meaning (prefixed o s e) = append-nil (numbers (meaning e)) ∙ numbers-meaning e
  numbers-meaning (joined l o s r) = pair (meaning l) (meaning r) s (yield l) (yield r) (between o s) refl (numbers-meaning l) (numbers-meaning r)
  numbers-meaning (conjoined l r) = pair (meaning l) (meaning r) (codes ",") (yield l) (yield r) comma refl (numbers-meaning l) (numbers-meaning r)
  numbers-meaning (postfixed l o s) =
      append-nil (numbers (meaning l)) ∙ numbers-meaning l ∙ sym (append-nil (items_numbers (yield l))) ∙ sym (items-append (yield l) (after o s ∷ []))

  pub numbers-all_meaning : (es : Arguments) → all_numbers (all_meaning es) ≡ items_numbers (all_yield es)
  numbers-all_meaning (one e) = append-nil (numbers (meaning e)) ∙ numbers-meaning e
  numbers-all_meaning (more e es) =
      ap (λ ns. ns ++ all_numbers (all_meaning es)) (numbers-meaning e)
      ∙ ap (λ ns. items_numbers (yield e) ++ ns) (numbers-all_meaning es)
      ∙ sym (items-append (yield e) (comma ∷ all_yield es))

-- the variables among them
abbrev pub variables_in : List Number → List ℕ
variables_in [] = []
variables_in (a_variable n ∷ ns) = n ∷ variables_in ns
variables_in (an_integer z ∷ ns) = variables_in ns

pub variables_in-append : (xs ys : List Number) → variables_in (xs ++ ys) ≡ variables_in xs ++ variables_in ys
variables_in-append [] ys = refl
variables_in-append (a_variable n ∷ xs) ys = ap (λ ns. n ∷ ns) (variables_in-append xs ys)
variables_in-append (an_integer z ∷ xs) ys = variables_in-append xs ys

mutual
  pub occurrences-are : (t : Tree (List ℕ)) → occurrences t ≡ variables_in (numbers t)
  occurrences-are (var n) = refl
  occurrences-are (int z) = refl
  occurrences-are (atom s) = refl
  occurrences-are (comp s ts) = all_occurrences-are ts

  all_occurrences-are : (ts : Trees (List ℕ)) → all_occurrences ts ≡ variables_in (all_numbers ts)
  all_occurrences-are nil = refl
  all_occurrences-are (cons t ts) =
      ap (λ ns. ns ++ all_occurrences ts) (occurrences-are t)
      ∙ ap (λ ns. variables_in (numbers t) ++ ns) (all_occurrences-are ts)
      ∙ sym (variables_in-append (numbers t) (all_numbers ts))

-- the integers have 64 bits
abbrev pub FitsInteger : Number → Type 0
FitsInteger (a_variable n) = Unit {0}
FitsInteger (an_integer z) = FitsSigned w64 z

abbrev pub IntegersFit : List Number → Type 0
IntegersFit = AllByRecursion FitsInteger

pub integers-append : (xs ys : List Number) → IntegersFit xs → IntegersFit ys → IntegersFit (xs ++ ys)
integers-append [] ys h k = k
integers-append (x ∷ xs) ys h k = (h.0, integers-append xs ys h.1 k)

abbrev FitsNumber : Number → Type 0
FitsNumber (a_variable n) = n < 2 ^ 32
FitsNumber (an_integer z) = FitsSigned w64 z

abbrev NumbersFit : List Number → Type 0
NumbersFit = AllByRecursion FitsNumber

together : (ns : List Number) → IntegersFit ns → AllByRecursion (λ n. n < 2 ^ 32) (variables_in ns) → NumbersFit ns
together [] h k = tt
together (a_variable n ∷ ns) h k = (k.0, together ns h.1 k.1)
together (an_integer z ∷ ns) h k = (h.0, together ns h.1 k)

split : (xs ys : List Number) → NumbersFit (xs ++ ys) → NumbersFit xs × NumbersFit ys
split [] ys h = (tt, h)
split (x ∷ xs) ys h = let r = split xs ys h.1 in ((h.0, r.0), r.1)

mutual
  tree-fits : (t : Tree (List ℕ)) → Fine IsName t → NumbersFit (numbers t) → FitsTree IsName t
  tree-fits (var n) h k = k.0
  tree-fits (int z) h k = k.0
  tree-fits (atom s) h k = h
  tree-fits (comp s ts) h k = (h.0, h.1, omega (arith, h.2), trees-fit ts h.3 k)

  trees-fit : (ts : Trees (List ℕ)) → AllFine IsName ts → NumbersFit (all_numbers ts) → FitTrees IsName ts
  trees-fit nil h k = tt
  trees-fit (cons t ts) h k = let r = split (numbers t) (all_numbers ts) k in (tree-fits t h.0 r.0, trees-fit ts h.1 r.1)

-- a term fits by its names, arities, integers and variables
pub fits : (t : Tree (List ℕ)) → Fine IsName t → IntegersFit (numbers t) → AllByRecursion (λ n. n < 2 ^ 32) (variables_in (numbers t)) → FitsTree IsName t
fits t h k l = tree-fits t h (together (numbers t) k l)
