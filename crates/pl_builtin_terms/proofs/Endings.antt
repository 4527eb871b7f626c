-- What one look at a list tells.
use Rattle.std.proofs.Common.{◌≡◌, ◌∙◌, ℕ, suc, ◌<◌, List, [], ◌∷◌, ◌++◌, map, refl, ap, sym, subst, arith, codes, Bool, true, false, nat_eq, ◌&&◌, if◌then◌else◌}
use Rattle.std.proofs.lemmas.Bool.{eqb-true}
use Rattle.pl_atoms.specs.Names.{same_text}
use Rattle.pl_terms.specs.Trees.{Tree, var, int, atom, comp, nil, cons, count}
use Rattle.unifier_model.specs.Substitution.{size}
use Rattle.pl_unify.specs.declared.word.Ref.{Ref}
use Rattle.pl_unify.specs.declared.word.View.TheVariants as V
use Rattle.pl_unify.specs.Shape.{root, arity, argument}
use Rattle.pl_unify.specs.State.{State, tree_at}
use Rattle.pl_terms.specs.Order.{text_of}
use Rattle.builtin_model.specs.Naming.{by_numbers}
use Rattle.builtin_model.specs.Lists.{Listing, proper, partial, improper, before, listing}
use Rattle.pl_builtin_terms.specs.declared.items.ListKind.{ListKind}
use Rattle.pl_builtin_terms.specs.declared.items.ListKind.TheVariants as K
use Rattle.pl_builtin_terms.specs.Items.{is_cell, kind_of_end, IsListed, all_before}

pub all_before-partial : (ts : List (Tree ℕ)) → all_before ts partial ≡ partial
all_before-partial [] = refl
all_before-partial (t ∷ ts) = ap (before t) (all_before-partial ts)

pub all_before-improper : (ts : List (Tree ℕ)) → all_before ts improper ≡ improper
all_before-improper [] = refl
all_before-improper (t ∷ ts) = ap (before t) (all_before-improper ts)

pub all_before-proper : (ts : List (Tree ℕ)) → all_before ts (proper []) ≡ proper ts
all_before-proper [] = refl
all_before-proper (t ∷ ts) = ap (before t) (all_before-proper ts)

pub all_before-push : (ts : List (Tree ℕ)) (t : Tree ℕ) (l : Listing ℕ) → all_before (ts ++ t ∷ []) l ≡ all_before ts (before t l)
all_before-push [] t l = refl
all_before-push (u ∷ ts) t l = ap (before u) (all_before-push ts t l)

and-false : (b c : Bool) → b ≡ true → (b && c) ≡ false → c ≡ false
and-false true c e h = h
and-false false c e h = cc

and-left : (b c : Bool) → (b && c) ≡ true → b ≡ true
and-left true c h = refl
and-left false c h = cc

and-right : (b c : Bool) → (b && c) ≡ true → c ≡ true
and-right true c h = h
and-right false c h = cc

same-count : (f g : _) (k j : ℕ) → V.Comp f k ≡ V.Comp g j → k ≡ j
same-count f g k j e = cc

same-name : (f g : _) (k j : ℕ) → V.Comp f k ≡ V.Comp g j → f ≡ g
same-name f g k j e = cc

module _ (names : List (List ℕ)) where
  pub listing-variable : (t : Tree ℕ) (n : ℕ) → V.Var n ≡ root t → partial ≡ listing (by_numbers names) t
  listing-variable (var m) n e = refl
  listing-variable (int z) n e = cc
  listing-variable (atom a) n e = cc
  listing-variable (comp f ts) n e = cc

  pub listing-int : (t : Tree ℕ) (z : _) → V.Int z ≡ root t → improper ≡ listing (by_numbers names) t
  listing-int (var m) n e = cc
  listing-int (int z) n e = refl
  listing-int (atom a) n e = cc
  listing-int (comp f ts) n e = cc

  pub listing-atom : (t : Tree ℕ) (a : _) → V.Name a ≡ root t → listing (by_numbers names) t ≡ (if same_text (text_of names a.0) (codes "[]") then proper [] else improper)
  listing-atom (var m) a e = cc
  listing-atom (int z) a e = cc
  listing-atom (atom b) a e =
      let same : a ≡ record { 0 = b } = cc in
      ap (λ v. if same_text (text_of names v.0) (codes "[]") then proper [] else improper) (sym same)
  listing-atom (comp f ts) a e = cc

  pub listing-open : (t : Tree ℕ) (f : _) (k : ℕ) → V.Comp f k ≡ root t → is_cell (text_of names f.0) k ≡ false → improper ≡ listing (by_numbers names) t
  listing-open (var m) f k e h = cc
  listing-open (int z) f k e h = cc
  listing-open (atom a) f k e h = cc
  listing-open (comp g nil) f k e h = refl
  listing-open (comp g (cons a nil)) f k e h = refl
  listing-open (comp g (cons a (cons b nil))) f k e h =
      let two : nat_eq k 2 ≡ true = ap (λ j. nat_eq j 2) (same-count f (record { 0 = g }) k 2 e) in
      let other : same_text (text_of names g) (codes ".") ≡ false =
      ap (λ x. same_text (text_of names x.0) (codes ".")) (sym (same-name f (record { 0 = g }) k 2 e)) ∙ and-false (nat_eq k 2) (same_text (text_of names f.0) (codes ".")) two h in
      ap (λ q. if q then before a (listing (by_numbers names) b) else improper) (sym other)
  listing-open (comp g (cons a (cons b (cons c ts)))) f k e h = refl

  -- an item in front of the rest
  pub record Cell (t : Tree ℕ) : Type 0 where
    pub arity : arity t ≡ 2
    pub listing : listing (by_numbers names) t ≡ before (argument t 0) (listing (by_numbers names) (argument t 1))
    pub smaller : size (argument t 1) < size t

  not-two : (f g : _) (k j : ℕ) → V.Comp f k ≡ V.Comp g j → is_cell (text_of names f.0) k ≡ true → j ≡ 2
  not-two f g k j e h = sym (same-count f g k j e) ∙ eqb-true k 2 (and-left (nat_eq k 2) (same_text (text_of names f.0) (codes ".")) h)

  pub listing-cell : (t : Tree ℕ) (f : _) (k : ℕ) → V.Comp f k ≡ root t → is_cell (text_of names f.0) k ≡ true → Cell t
  listing-cell (var m) f k e h = cc
  listing-cell (int z) f k e h = cc
  listing-cell (atom a) f k e h = cc
  listing-cell (comp g nil) f k e h = let two = not-two f (record { 0 = g }) k 0 e h in absurd (omega (arith, two))
  listing-cell (comp g (cons a nil)) f k e h = let two = not-two f (record { 0 = g }) k 1 e h in absurd (omega (arith, two))
  listing-cell (comp g (cons a (cons b nil))) f k e h =
      let dot : same_text (text_of names g) (codes ".") ≡ true =
      ap (λ x. same_text (text_of names x.0) (codes ".")) (sym (same-name f (record { 0 = g }) k 2 e)) ∙ and-right (nat_eq k 2) (same_text (text_of names f.0) (codes ".")) h in
      record {
        arity = refl;
        listing = ap (λ q. if q then before a (listing (by_numbers names) b) else improper) dot;
        smaller = omega arith;
      }
  listing-cell (comp g (cons a (cons b (cons c ts)))) f k e h = let two = not-two f (record { 0 = g }) k (suc (suc (suc (count ts)))) e h in absurd (omega (arith, two))

-- an atom at the end
pub listed-end : (s : State) (items : List Ref) (name : List ℕ) (l : Listing ℕ) (kind : ListKind) → l ≡ all_before (map (tree_at s) items) (if same_text name (codes "[]") then proper [] else improper) → kind ≡ kind_of_end name
    → IsListed s l items kind
listed-end s items name l kind e k = subst (IsListed s l items) (sym k) (by (same_text name (codes "[]")) e)
  where
    by : (b : Bool) → l ≡ all_before (map (tree_at s) items) (if b then proper [] else improper) → IsListed s l items (if b then K.Proper else K.Improper)
    by true h = sym (h ∙ all_before-proper (map (tree_at s) items))
    by false h = sym (h ∙ all_before-improper (map (tree_at s) items))
