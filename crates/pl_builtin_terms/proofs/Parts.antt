-- What is done with compounds.
use Rattle.std.proofs.Common.{◌≡◌, ◌∙◌, ℕ, pos, List, [], ◌∷◌, refl, ap}
use Rattle.pl_terms.specs.Trees.{Tree, var, int, atom, comp, count}
use Rattle.pl_unify.specs.declared.word.View.TheVariants as V
use Rattle.pl_unify.specs.Shape.{root}
use Rattle.builtin_model.specs.Naming.{Naming}
use Rattle.builtin_model.specs.Lists.{list_tree, listed}
use Rattle.builtin_model.specs.Deeds.{equal, unify, functor_deed, univ_deed}
use Rattle.pl_builtin_terms.specs.Walk.{arguments_of}

pub functor-comp : (t name k : Tree ℕ) (next : ℕ) (f : _) (n : ℕ) → V.Comp f n ≡ root t → equal ((name, atom f.0) ∷ (k, int (pos n)) ∷ []) 0 ≡ functor_deed t name k next
functor-comp (var m) name k next f n e = cc
functor-comp (int m) name k next f n e = cc
functor-comp (atom m) name k next f n e = cc
functor-comp (comp g ts) name k next f n e =
    let ef : f ≡ record { 0 = g } = cc in
    let en : n ≡ count ts = cc in
    ap (λ x. equal ((name, atom x.0) ∷ (k, int (pos n)) ∷ []) 0) ef ∙ ap (λ x. equal ((name, atom g) ∷ (k, int (pos x)) ∷ []) 0) en

pub univ-comp : (names : Naming ℕ) (t l : Tree ℕ) (f : _) (n : ℕ) → V.Comp f n ≡ root t → unify l (list_tree names (atom f.0 ∷ listed (arguments_of t))) ≡ univ_deed names t l
univ-comp names (var m) l f n e = cc
univ-comp names (int m) l f n e = cc
univ-comp names (atom m) l f n e = cc
univ-comp names (comp g ts) l f n e =
    let ef : f ≡ record { 0 = g } = cc in
    ap (λ x. unify l (list_tree names (atom x.0 ∷ listed ts))) ef

pub univ-other : (names : Naming ℕ) (t l : Tree ℕ) → ((n : ℕ) → root t ≡ V.Var n → ⊥) → ((f : _) (n : ℕ) → root t ≡ V.Comp f n → ⊥) → unify l (list_tree names (t ∷ [])) ≡ univ_deed names t l
univ-other names (var m) l no_var no_comp = absurd (no_var m refl)
univ-other names (int m) l no_var no_comp = refl
univ-other names (atom m) l no_var no_comp = refl
univ-other names (comp g ts) l no_var no_comp = absurd (no_comp (record { 0 = g }) (count ts) refl)

pub two-equal : (a b c d a' b' c' d' : Tree ℕ) → a ≡ a' → b ≡ b' → c ≡ c' → d ≡ d' → ◌≡◌ {A = List (Tree ℕ × Tree ℕ)} ((a, b) ∷ (c, d) ∷ []) ((a', b') ∷ (c', d') ∷ [])
two-equal a b c d a' b' c' d' e f g h = cc
