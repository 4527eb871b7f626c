-- Laws of `bases` and `bound_onto`: they grow with their lists, and keep what they had.
use Rattle.std.proofs.Common.{◌≡◌, ℕ, suc, ◌+◌, ◌<◌, ◌≤◌, List, [], ◌∷◌, ◌++◌, take, drop, length, get_or, refl, ap, ◌∙◌, sym, arith, append_assoc, add-zero}
use Rattle.std.proofs.lemmas.List.{append-nil, length_push, take_at, take-append-drop, length-take-le, take-append-le, drop-append-le, length-drop}
use Rattle.pl_terms.specs.Trees.{Tree, comp}
use Rattle.pl_unify.specs.Prefix.{trees}
use Rattle.unifier_model.specs.Substitution.{apply}
use Rattle.pl_unify.specs.declared.word.Word.{Word}
use Rattle.pl_unify.specs.declared.word.Word.TheVariants.{Var, Int, Name, Comp}
use Rattle.pl_unify.specs.Words.{word_tree, bases, bound_onto, Link, no_link, WordIn}

pub bases-append : (b : List (Tree ℕ)) (xs ys : List Word) → bases b (xs ++ ys) ≡ bases (bases b xs) ys
bases-append b [] ys = refl
bases-append b (x ∷ xs) ys = bases-append (b ++ word_tree b x ∷ []) xs ys

pub length-bases : (b : List (Tree ℕ)) (xs : List Word) → length (bases b xs) ≡ length b + length xs
length-bases b [] = sym (add-zero (length b))
length-bases b (x ∷ xs) = length-bases (b ++ word_tree b x ∷ []) xs ∙ omega (arith, length_push b (word_tree b x))

-- the first trees stay
pub bases-begins : (b : List (Tree ℕ)) (xs : List Word) → (more : List (Tree ℕ)) × (bases b xs ≡ b ++ more)
bases-begins b [] = ([], sym (append-nil b))
bases-begins b (x ∷ xs) =
    let r : (more : List (Tree ℕ)) × (bases (b ++ word_tree b x ∷ []) xs ≡ (b ++ word_tree b x ∷ []) ++ more) = bases-begins (b ++ word_tree b x ∷ []) xs in
    (word_tree b x ∷ r.0, r.1 ∙ append_assoc b (word_tree b x ∷ []) r.0)

pub take-bases : (n : ℕ) (xs : List Word) → n ≤ length xs → take n (bases [] xs) ≡ bases [] (take n xs)
take-bases n xs h =
    let e : bases [] xs ≡ bases (bases [] (take n xs)) (drop n xs) = ap (bases []) (sym (take-append-drop n xs)) ∙ bases-append [] (take n xs) (drop n xs) in
    let r = bases-begins (bases [] (take n xs)) (drop n xs) in
    ap (take n) (e ∙ r.1) ∙ take_at (bases [] (take n xs)) r.0 n (length-bases [] (take n xs) ∙ omega (arith, length-take-le n xs h))

pub bases-push : (xs : List Word) (w : Word) → bases [] (xs ++ w ∷ []) ≡ bases [] xs ++ word_tree (bases [] xs) w ∷ []
bases-push xs w = bases-append [] xs (w ∷ [])

-- a word whose arguments are there keeps its tree
pub word_tree-append : (b more : List (Tree ℕ)) (w : Word) (next : ℕ) → WordIn (length b) next w → word_tree (b ++ more) w ≡ word_tree b w
word_tree-append b more (Var n) next h = refl
word_tree-append b more (Int n) next h = refl
word_tree-append b more (Name n) next h = refl
word_tree-append b more (Comp k f first) next h =
    let here : first ≤ length b = omega arith in
    let rest : k ≤ length (drop first b) = omega (arith, length-drop first b) in
    ap (λ x. comp f.0 (trees (take k x))) (drop-append-le first b more here)
    ∙ ap (λ x. comp f.0 (trees x)) (take-append-le k (drop first b) more rest)

pub bound_onto-append : (b : List (Tree ℕ)) (done : List (ℕ × Tree ℕ)) (xs ys : List Link) → bound_onto b done (xs ++ ys) ≡ bound_onto b (bound_onto b done xs) ys
bound_onto-append b done [] ys = refl
bound_onto-append b done (x ∷ xs) ys = bound_onto-append b (done ++ (x.var, apply done (word_tree b x.word)) ∷ []) xs ys

pub bound_onto-begins : (b : List (Tree ℕ)) (done : List (ℕ × Tree ℕ)) (xs : List Link) → (more : List (ℕ × Tree ℕ)) × (bound_onto b done xs ≡ done ++ more)
bound_onto-begins b done [] = ([], sym (append-nil done))
bound_onto-begins b done (x ∷ xs) =
    let next : List (ℕ × Tree ℕ) = done ++ (x.var, apply done (word_tree b x.word)) ∷ [] in
    let r = bound_onto-begins b next xs in
    ((x.var, apply done (word_tree b x.word)) ∷ r.0, r.1 ∙ append_assoc done ((x.var, apply done (word_tree b x.word)) ∷ []) r.0)

pub bound_onto-push : (b : List (Tree ℕ)) (xs : List Link) (l : Link) → bound_onto b [] (xs ++ l ∷ []) ≡ bound_onto b [] xs ++ (l.var, apply (bound_onto b [] xs) (word_tree b l.word)) ∷ []
bound_onto-push b xs l = bound_onto-append b [] xs (l ∷ [])

-- links whose words have the same trees make the same replacements
pub bound_onto-same : (b c : List (Tree ℕ)) (done : List (ℕ × Tree ℕ)) (xs : List Link) → ((i : ℕ) → i < length xs → word_tree b (get_or xs i no_link).word ≡ word_tree c (get_or xs i no_link).word) → bound_onto b done xs ≡ bound_onto c done xs
bound_onto-same b c done [] h = refl
bound_onto-same b c done (x ∷ xs) h =
    let e : word_tree b x.word ≡ word_tree c x.word = h 0 (omega arith) in
    ap (λ t. bound_onto b (done ++ (x.var, apply done t) ∷ []) xs) e
    ∙ bound_onto-same b c (done ++ (x.var, apply done (word_tree c x.word)) ∷ []) xs (λ i l. h (suc i) (omega arith))

pub length-bases_nil : (xs : List Word) → length (bases [] xs) ≡ length xs
length-bases_nil xs = omega (arith, length-bases [] xs)
