-- Equations in front of others: their unifier first, then what is left of the others.
use Rattle.std.proofs.Common.{◌≡◌, ℕ, List, [], ◌∷◌, ◌++◌, refl, ap, sym, subst, Option, Some, None}
use Rattle.pl_terms.specs.Trees.{Tree, Trees, var, nil, cons, comp}
use Rattle.unifier_model.specs.Substitution.{replace, apply}
use Rattle.unifier_model.specs.Unifier.{Solved, replaced, pairs, binding}
use Rattle.unifier_model.specs.Unifier.Solved.{solved, same, higher_left, higher_right, left, right, left_inside, right_inside, parts, clash}
use Rattle.pl_unify.specs.Match.{applied, after}

pub after-none : (r : Option (List (ℕ × Tree ℕ))) → after [] r ≡ r
after-none None = refl
after-none (Some bs) = refl

pub applied-nil : (es : List (Tree ℕ × Tree ℕ)) → applied [] es ≡ es
applied-nil [] = refl
applied-nil (e ∷ es) = ap (λ r. e ∷ r) (applied-nil es)

applied-binding : (n : ℕ) (t : Tree ℕ) (bs : List (ℕ × Tree ℕ)) (es : List (Tree ℕ × Tree ℕ)) → applied ((n, t) ∷ bs) es ≡ applied bs (replaced n t es)
applied-binding n t bs [] = refl
applied-binding n t bs (e ∷ es) = ap (λ r. (apply bs (replace n t e.0), apply bs (replace n t e.1)) ∷ r) (applied-binding n t bs es)

replaced-append : (n : ℕ) (t : Tree ℕ) (xs ys : List (Tree ℕ × Tree ℕ)) → replaced n t (xs ++ ys) ≡ replaced n t xs ++ replaced n t ys
replaced-append n t [] ys = refl
replaced-append n t (x ∷ xs) ys = ap (λ r. (replace n t x.0, replace n t x.1) ∷ r) (replaced-append n t xs ys)

pairs-append : (ts us : Trees ℕ) (xs ys : List (Tree ℕ × Tree ℕ)) → pairs ts us xs ++ ys ≡ pairs ts us (xs ++ ys)
pairs-append nil us xs ys = refl
pairs-append (cons t ts) nil xs ys = refl
pairs-append (cons t ts) (cons u us) xs ys = ap (λ r. (t, u) ∷ r) (pairs-append ts us xs ys)

-- what an answer says of the equations with others behind them
abbrev pub Then : Option (List (ℕ × Tree ℕ)) → List (Tree ℕ × Tree ℕ) → List (Tree ℕ × Tree ℕ) → Type 0
Then None es rest = Solved (es ++ rest) None
Then (Some u) es rest = (r : Option (List (ℕ × Tree ℕ))) → Solved (applied u rest) r → Solved (es ++ rest) (after u r)

after-cons : (n : ℕ) (t : Tree ℕ) (u : List (ℕ × Tree ℕ)) (r : Option (List (ℕ × Tree ℕ))) → binding n t (after u r) ≡ after ((n, t) ∷ u) r
after-cons n t u None = refl
after-cons n t u (Some bs) = refl

then_binding : (n : ℕ) (t l r : Tree ℕ) (a : Option (List (ℕ × Tree ℕ))) (es rest : List (Tree ℕ × Tree ℕ))
    → ((x : Option (List (ℕ × Tree ℕ))) → Solved (replaced n t (es ++ rest)) x → Solved ((l, r) ∷ (es ++ rest)) (binding n t x))
    → Then a (replaced n t es) (replaced n t rest) → Then (binding n t a) ((l, r) ∷ es) rest
then_binding n t l r None es rest rule h = rule None (subst (λ x. Solved x None) (sym (replaced-append n t es rest)) h)
then_binding n t l r (Some u) es rest rule h = λ x y.
    subst (Solved ((l, r) ∷ (es ++ rest))) (after-cons n t u x)
    (rule (after u x) (subst (λ z. Solved z (after u x)) (sym (replaced-append n t es rest)) (h x (subst (λ z. Solved z x) (applied-binding n t u rest) y))))

then_more : (l r : Tree ℕ) (a : Option (List (ℕ × Tree ℕ))) (es es' rest : List (Tree ℕ × Tree ℕ))
    → ((x : Option (List (ℕ × Tree ℕ))) → Solved (es' ++ rest) x → Solved ((l, r) ∷ (es ++ rest)) x)
    → Then a es' rest → Then a ((l, r) ∷ es) rest
then_more l r None es es' rest rule h = rule None h
then_more l r (Some u) es es' rest rule h = λ x y. rule (after u x) (h x y)

pub then : {es : List (Tree ℕ × Tree ℕ)} {a : Option (List (ℕ × Tree ℕ))} → Solved es a → (rest : List (Tree ℕ × Tree ℕ)) → Then a es rest
then solved rest = λ r h. subst (Solved rest) (sym (after-none r)) (subst (λ es. Solved es r) (applied-nil rest) h)
then (same {t} {es} {r} h) rest = then_more t t r es es rest (λ x y. same y) (then h rest)
then (higher_left {n} {m} {es} {r} lt h) rest = then_binding n (var m) (var n) (var m) r es rest (λ x y. higher_left lt y) (then h (replaced n (var m) rest))
then (higher_right {n} {m} {es} {r} lt h) rest = then_binding m (var n) (var n) (var m) r es rest (λ x y. higher_right lt y) (then h (replaced m (var n) rest))
then (left {n} {t} {es} {r} other o h) rest = then_binding n t (var n) t r es rest (λ x y. left other o y) (then h (replaced n t rest))
then (right {n} {t} {es} {r} other o h) rest = then_binding n t t (var n) r es rest (λ x y. right other o y) (then h (replaced n t rest))
then (left_inside {n} {t} other o) rest = left_inside other o
then (right_inside {n} {t} other o) rest = right_inside other o
then (parts {f} {ts} {us} {es} {r} c h) rest =
    then_more (comp f ts) (comp f us) r es (pairs ts us es) rest (λ x y. parts c (subst (λ z. Solved z x) (pairs-append ts us es rest) y)) (then h rest)
then (clash c) rest = clash c
