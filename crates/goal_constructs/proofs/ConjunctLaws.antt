-- Steps of a walk over the goals of a conjunction.
use Rattle.std.proofs.Common.{◌≡◌, ◌∙◌, ℕ, suc, ◌+◌, true, false, nat_eq, List, [], ◌∷◌, ◌++◌, map, reverse, length, refl, sym, ap, arith, if◌then◌else◌}
use Rattle.std.proofs.lemmas.List.{append_assoc, map-append, reverse-append}
use Rattle.pl_atoms.specs.declared.names.NameId.{NameId}
use Rattle.pl_terms.specs.Trees.{Tree, comp, cons, nil}
use Rattle.unifier_model.specs.Substitution.{size}
use Rattle.pl_unify.specs.declared.word.Ref.{Ref}
use Rattle.pl_unify.specs.declared.word.View.TheVariants as V
use Rattle.pl_unify.specs.Shape.{root, argument}
use Rattle.pl_unify.specs.State.{State, tree_at, IsRef}
use Rattle.pl_unify.specs.Making.{AreRefs}
use Rattle.goal_code.specs.declared.shape.ControlNames.{ControlNames}
use Rattle.goal_code.specs.Shapes.{conjuncts}
use Rattle.goal_code.proofs.Shaping.{binary_root}
use Rattle.goal_constructs.specs.Conjuncts.{Appends, AreSides, goals_at, UnderWay}

pub reverse-push : {X : Type 0} (xs : List X) (x : X) → reverse (xs ++ x ∷ []) ≡ x ∷ reverse xs
reverse-push xs x = reverse-append xs (x ∷ [])

pub empty-list : {X : Type 0} (xs : List X) → length xs ≡ 0 → xs ≡ []
empty-list [] h = refl
empty-list (x ∷ xs) h = absurd (omega (arith, h))

append-empty : {X : Type 0} (xs : List X) → xs ++ [] ≡ xs
append-empty [] = refl
append-empty (x ∷ xs) = ap (λ ys. x ∷ ys) (append-empty xs)

pub AreRefs-push : (s : State) (rs : List Ref) (r : Ref) → AreRefs s rs → IsRef s r → AreRefs s (rs ++ r ∷ [])
AreRefs-push s [] r h k = (k, tt)
AreRefs-push s (q ∷ rs) r h k = (h.0, AreRefs-push s rs r h.1 k)

pub pair-size : (t : Tree ℕ) (f : NameId) → root t ≡ V.Comp f 2 → size t ≡ suc (size (argument t 0) + size (argument t 1))
pair-size t f h = ap size (binary_root t f h) ∙ omega arith

module _ (c : ControlNames) (s : State) where
  pub sides-are : (t : Tree ℕ) (f : NameId) (l r : Ref) → root t ≡ V.Comp f 2 → nat_eq f.0 c.conjunction.0 ≡ true → IsRef s l → IsRef s r → tree_at s l ≡ argument t 0 → tree_at s r ≡ argument t 1 → AreSides c s t l r
  sides-are t f l r h e pl pr tl tr = record {
    left = pl;
    right = pr;
    goals = ap (conjuncts c) (binary_root t f h)
        ∙ (ap (λ b. if b then conjuncts c (argument t 0) ++ conjuncts c (argument t 1) else comp f.0 (cons (argument t 0) (cons (argument t 1) nil)) ∷ []) e
        ∙ (ap (λ x. conjuncts c x ++ conjuncts c (argument t 1)) (sym tl) ∙ ap (λ x. conjuncts c (tree_at s l) ++ conjuncts c x) (sym tr)));
    smaller = omega (arith, pair-size t f h, ap size tl, ap size tr);
  }

  pub single : (t : Tree ℕ) (f : NameId) → root t ≡ V.Comp f 2 → nat_eq f.0 c.conjunction.0 ≡ false → conjuncts c t ≡ t ∷ []
  single t f h e =
      ap (conjuncts c) (binary_root t f h)
      ∙ (ap (λ b. if b then conjuncts c (argument t 0) ++ conjuncts c (argument t 1) else comp f.0 (cons (argument t 0) (cons (argument t 1) nil)) ∷ []) e
      ∙ ap (λ x. x ∷ []) (sym (binary_root t f h)))

  module _ (old : List Ref) (ts : List (Tree ℕ)) where
    pub under-first : (at : Ref) → IsRef s at → ts ≡ conjuncts c (tree_at s at) → UnderWay c s old old at [] ts
    under-first at h e = record {
      items = [];
      list = sym (append-empty old);
      places = tt;
      here = h;
      waiting = tt;
      goals = e ∙ sym (append-empty (conjuncts c (tree_at s at)));
    }

    pub under-left : (new : List Ref) (at l r : Ref) (stack : List Ref) → UnderWay c s old new at stack ts → AreSides c s (tree_at s at) l r → UnderWay c s old new l (r ∷ stack) ts
    under-left new at l r stack u sides =
        let left : List (Tree ℕ) = conjuncts c (tree_at s l) in
        let right : List (Tree ℕ) = conjuncts c (tree_at s r) in
        let rest : List (Tree ℕ) = goals_at c s stack in
        record {
          items = u.items;
          list = u.list;
          places = u.places;
          here = sides.left;
          waiting = (sides.right, u.waiting);
          goals = u.goals ∙ ap (λ xs. map (tree_at s) u.items ++ xs) (ap (λ xs. xs ++ rest) sides.goals ∙ append_assoc left right rest);
        }

    more : (new new' : List Ref) (items : List Ref) (at : Ref) → new ≡ old ++ items → new' ≡ new ++ at ∷ [] → new' ≡ old ++ (items ++ at ∷ [])
    more new new' items at e p = p ∙ (ap (λ xs. xs ++ at ∷ []) e ∙ append_assoc old items (at ∷ []))

    pub under-next : (new new' : List Ref) (at next : Ref) (stack : List Ref) → UnderWay c s old new at (next ∷ stack) ts → conjuncts c (tree_at s at) ≡ tree_at s at ∷ [] → new' ≡ new ++ at ∷ []
        → UnderWay c s old new' next stack ts
    under-next new new' at next stack u one p =
        let rest : List (Tree ℕ) = conjuncts c (tree_at s next) ++ goals_at c s stack in
        record {
          items = u.items ++ at ∷ [];
          list = more new new' u.items at u.list p;
          places = AreRefs-push s u.items at u.places u.here;
          here = u.waiting.0;
          waiting = u.waiting.1;
          goals = u.goals ∙ (ap (λ xs. map (tree_at s) u.items ++ (xs ++ rest)) one
              ∙ (sym (append_assoc (map (tree_at s) u.items) (tree_at s at ∷ []) rest) ∙ ap (λ xs. xs ++ rest) (sym (map-append (tree_at s) u.items (at ∷ [])))));
        }

    pub under-end : (new new' : List Ref) (at : Ref) → UnderWay c s old new at [] ts → conjuncts c (tree_at s at) ≡ tree_at s at ∷ [] → new' ≡ new ++ at ∷ [] → Appends s old new' ts
    under-end new new' at u one p = record {
      items = u.items ++ at ∷ [];
      list = more new new' u.items at u.list p;
      places = AreRefs-push s u.items at u.places u.here;
      trees = map-append (tree_at s) u.items (at ∷ []) ∙ (ap (λ xs. map (tree_at s) u.items ++ xs) (sym (append-empty (tree_at s at ∷ [])) ∙ ap (λ xs. xs ++ []) (sym one)) ∙ sym u.goals);
    }
