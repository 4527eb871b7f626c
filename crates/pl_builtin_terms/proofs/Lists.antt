-- Lists of a store.
use Rattle.std.proofs.Common.{◌≡◌, ◌∙◌, ℕ, zero, suc, ◌+◌, ◌<◌, List, [], ◌∷◌, ◌++◌, length, drop, map, get_or, refl, ap, sym, arith, codes}
use Rattle.std.proofs.lemmas.List.{drop_more}
use Rattle.pl_terms.specs.Trees.{Tree, var, atom, comp, nil, cons, back}
use Rattle.pl_unify.specs.declared.word.Ref.{Ref}
use Rattle.pl_unify.specs.Prefix.{trees}
use Rattle.pl_unify.specs.Shape.{arity, argument}
use Rattle.pl_unify.specs.State.{State, tree_at, Grows}
use Rattle.pl_unify.specs.Making.{AreRefs}
use Rattle.pl_unify.proofs.Compounds.{AreRefs-at}
use Rattle.builtin_model.specs.Naming.{by_numbers, number_in}
use Rattle.builtin_model.specs.Lists.{list_tree, listed, arguments, variables_from}
use Rattle.pl_builtin_terms.specs.Walk.{arguments_of}
use Rattle.pl_builtin_terms.specs.Items.{list_from}
use Rattle.pl_builtin_terms.proofs.Walks.{arguments-more}

pub list_more : (s0 s : State) (end dot k j : ℕ) (items : List Ref) (d list : Ref) (t : Tree ℕ) → k < length items → j ≡ k + 1 → AreRefs s0 items → Grows s0 s
    → tree_at s list ≡ list_from end dot (map (tree_at s0) (drop j items)) → t ≡ comp dot (cons (tree_at s (get_or items k d)) (cons (tree_at s list) nil))
    → t ≡ list_from end dot (map (tree_at s0) (drop k items))
list_more s0 s end dot k j items d list t l e h g rest made =
    made
    ∙ (ap (λ u. comp dot (cons u (cons (tree_at s list) nil))) (g.places (get_or items k d) (AreRefs-at s0 items k d l h))
    ∙ (ap (λ u. comp dot (cons (tree_at s0 (get_or items k d)) (cons u nil))) (rest ∙ ap (λ i. list_from end dot (map (tree_at s0) (drop i items))) e)
    ∙ ap (λ rs. list_from end dot (map (tree_at s0) rs)) (sym (drop_more items k d l))))

pub parts_more : (s : State) (end dot k j : ℕ) (u t : Tree ℕ) (arg list : Ref) → k < arity u → j ≡ suc k
    → tree_at s list ≡ list_from end dot (listed (back j (arguments_of u))) → tree_at s arg ≡ argument u k → t ≡ comp dot (cons (tree_at s arg) (cons (tree_at s list) nil))
    → t ≡ list_from end dot (listed (back k (arguments_of u)))
parts_more s end dot k j u t arg list l e rest a made =
    made
    ∙ (ap (λ x. comp dot (cons x (cons (tree_at s list) nil))) a
    ∙ (ap (λ x. comp dot (cons (argument u k) (cons x nil))) (rest ∙ ap (λ i. list_from end dot (listed (back i (arguments_of u)))) e)
    ∙ ap (λ ts. list_from end dot (listed ts)) (sym (arguments-more u k l))))

-- by the numbers of its names a list is the list
pub list_from-tree : (names : List (List ℕ)) (end dot : ℕ) (ts : List (Tree ℕ)) → end ≡ number_in names (codes "[]") → dot ≡ number_in names (codes ".")
    → list_from end dot ts ≡ list_tree (by_numbers names) ts
list_from-tree names end dot [] e f = ap atom e
list_from-tree names end dot (t ∷ ts) e f =
    ap (λ n. comp n (cons t (cons (list_from end dot ts) nil))) f ∙ ap (λ u. comp (number_in names (codes ".")) (cons t (cons u nil))) (list_from-tree names end dot ts e f)

pub trees-arguments : (ts : List (Tree ℕ)) → trees ts ≡ arguments ts
trees-arguments [] = refl
trees-arguments (t ∷ ts) = ap (cons t) (trees-arguments ts)

pub variables_from-last : (n k : ℕ) → variables_from {N = ℕ} n (k + 1) ≡ variables_from n k ++ var (n + k) ∷ []
variables_from-last n zero = let e : n ≡ n + 0 = omega arith in ap (λ m. var m ∷ []) e
variables_from-last n (suc k) =
    let e : suc n + k ≡ n + suc k = omega arith in
    let f : suc k + 1 ≡ suc (k + 1) = omega arith in
    ap (variables_from n) f ∙ ap (λ ts. var n ∷ ts) (variables_from-last (suc n) k ∙ ap (λ m. variables_from (suc n) k ++ var m ∷ []) e)
