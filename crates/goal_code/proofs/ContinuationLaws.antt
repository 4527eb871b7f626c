-- What continuations in the code of bodies stand for.
use Rattle.std.proofs.Common.{◌≡◌, ℕ, zero, suc, ◌<◌, ◌≤◌, Bool, true, false, List, [], ◌∷◌, ◌++◌, Option, Some, None, refl, sym, ap, ◌∙◌, subst, arith, map}
use Rattle.std.specs.Prelude.{nat_eq, if◌then◌else◌}
use Rattle.std.proofs.lemmas.List.{map-append}
use Rattle.pl_terms.specs.Trees.{Tree, var, int, atom, comp, nil, cons}
use Rattle.unifier_model.specs.Substitution.{apply, raise}
use Rattle.pl_unify.specs.declared.code.CodeWord.{CodeWord}
use Rattle.pl_unify.specs.Code.{code_tree}
use Rattle.solver_model.specs.Search.{Item}
use Rattle.goal_model.specs.Environments.{Environment}
use Rattle.goal_model.specs.Bodies.{Goal}
use Rattle.goal_model.specs.Table.{item_under}
use Rattle.goal_code.specs.declared.instruction.Instruction.{Instruction}
use Rattle.goal_code.specs.declared.instruction.Instruction.TheVariants.{Goal as Other, Cut as Commit, Either, If, EndIf}
use Rattle.goal_code.specs.declared.shape.ControlNames.{ControlNames}
use Rattle.goal_code.specs.Shapes.{conjuncts, body_goals}
use Rattle.goal_code.specs.Runs.{instruction_at, is_goal, next_of, goal_of, IsRun, IsSound}
use Rattle.goal_code.specs.Denotation.{called}
use Rattle.goal_code.specs.Continuations.{Running, call_of, follow, items_within, items_from, ItemsFollow, RunsFirst, BodyItems}
use Rattle.goal_code.proofs.Running.{Begins, begins}
use Rattle.goal_code.proofs.DenotationLaws.{items_are_goals}

module _ (r : Running) (s : ControlNames) (after : List (Item (Goal ℕ))) (outer : ℕ → List (Item (Goal ℕ))) where
  abbrev Items : Type 0
  Items = List (Item (Goal ℕ))

  -- what follows is read at the next place alone
  follow_same : (c : Instruction) (f g : ℕ → List (Item (Goal ℕ))) → f (next_of c) ≡ g (next_of c) → follow r after outer c f ≡ follow r after outer c g
  follow_same (Other p n) f g h = ap (λ l. call_of r (code_tree r.words p) ∷ l) h
  follow_same (Commit p n) f g h = ap (λ l. call_of r (code_tree r.words p) ∷ l) h
  follow_same (Either p x y n) f g h = ap (λ l. call_of r (code_tree r.words p) ∷ l) h
  follow_same (If p x m o n) f g h = ap (λ l. call_of r (code_tree r.words p) ∷ l) h
  follow_same (EndIf n) f g h = refl

  follow_goal : (c : Instruction) (f : ℕ → List (Item (Goal ℕ))) → is_goal c ≡ true → follow r after outer c f ≡ call_of r (code_tree r.words (goal_of c)) ∷ f (next_of c)
  follow_goal (Other p n) f h = refl
  follow_goal (Commit p n) f h = refl
  follow_goal (Either p x y n) f h = refl
  follow_goal (If p x m o n) f h = refl
  follow_goal (EndIf n) f h = cc

  module _ (sound : IsSound s r.words r.code) where
    -- more instructions than places change nothing
    enough : (k j pc : ℕ) → pc ≤ k → pc ≤ j → items_within r after outer k pc ≡ items_within r after outer j pc
    enough zero zero pc a b = refl
    enough zero (suc j) pc a b = let e : 0 ≡ pc = omega (arith, a) in subst (λ p. after ≡ items_within r after outer (suc j) p) e refl
    enough (suc k) zero pc a b = let e : 0 ≡ pc = omega (arith, b) in subst (λ p. items_within r after outer (suc k) p ≡ after) e refl
    enough (suc k) (suc j) pc a b = go (instruction_at r.code pc) refl (λ n l. enough k j n (omega (arith, a, l)) (omega (arith, b, l)))
      where
        go : (o : Option Instruction) → instruction_at r.code pc ≡ o → ((n : ℕ) → n < pc → items_within r after outer k n ≡ items_within r after outer j n)
            → (elim o as (λ _. List (Item (Goal ℕ))) [ None ↦ after | Some c ↦ follow r after outer c (items_within r after outer k) ])
            ≡ elim o as (λ _. List (Item (Goal ℕ))) [ None ↦ after | Some c ↦ follow r after outer c (items_within r after outer j) ]
        go None e ih = refl
        go (Some c) e ih = follow_same c (items_within r after outer k) (items_within r after outer j) (ih (next_of c) (sound pc c e).0)

    pub reads : (pc : ℕ) (c : Instruction) → instruction_at r.code pc ≡ Some c → items_from r after outer pc ≡ follow r after outer c (items_from r after outer)
    reads zero c e = cc
    reads (suc k) c e =
        ap (λ o. elim o as (λ _. List (Item (Goal ℕ))) [ None ↦ after | Some c ↦ follow r after outer c (items_within r after outer k) ]) e
        ∙ follow_same c (items_within r after outer k) (items_from r after outer) (let l : next_of c < suc k = (sound (suc k) c e).0 in enough k (next_of c) (next_of c) (omega (arith, l)) (omega arith))

    pub runs_first : (stop pc : ℕ) (ts : List (Tree ℕ)) → IsRun r.words r.code stop pc ts → items_from r after outer pc ≡ map (call_of r) ts ++ items_from r after outer stop
    runs_first stop pc [] h = ap (items_from r after outer) h
    runs_first stop pc (t ∷ ts) h =
        let b : Begins r.words r.code stop pc t ts = begins r.words r.code stop pc t ts h in
        reads pc b.first b.is
        ∙ (follow_goal b.first (items_from r after outer) b.goal
        ∙ (ap (λ u. call_of r u ∷ items_from r after outer (next_of b.first)) b.tree
        ∙ ap (λ l. call_of r t ∷ l) (runs_first stop (next_of b.first) ts b.rest)))

pub items_follow : ItemsFollow
items_follow r s after outer pc c sound e = reads r s after outer sound pc c e

pub runs_come_first : RunsFirst
runs_come_first r s after outer stop pc ts sound h = runs_first r s after outer sound stop pc ts h

-- raising variables keeps which terms are goals
raised_conjuncts : (s : ControlNames) (base : ℕ) (t : Tree ℕ) → conjuncts s (raise base t) ≡ map (raise base) (conjuncts s t)
raised_conjuncts s base (var n) = refl
raised_conjuncts s base (int z) = refl
raised_conjuncts s base (atom a) = refl
raised_conjuncts s base (comp f nil) = refl
raised_conjuncts s base (comp f (cons l nil)) = refl
raised_conjuncts s base (comp f (cons l (cons u nil))) = go (nat_eq f s.conjunction.0) (raised_conjuncts s base l) (raised_conjuncts s base u)
  where
    go : (b : Bool) → conjuncts s (raise base l) ≡ map (raise base) (conjuncts s l) → conjuncts s (raise base u) ≡ map (raise base) (conjuncts s u)
        → (if b then conjuncts s (raise base l) ++ conjuncts s (raise base u) else comp f (cons (raise base l) (cons (raise base u) nil)) ∷ [])
        ≡ map (raise base) (if b then conjuncts s l ++ conjuncts s u else comp f (cons l (cons u nil)) ∷ [])
    go true h i = ap (λ x. x ++ conjuncts s (raise base u)) h ∙ (ap (λ x. map (raise base) (conjuncts s l) ++ x) i ∙ sym (map-append (raise base) (conjuncts s l) (conjuncts s u)))
    go false h i = refl
raised_conjuncts s base (comp f (cons l (cons u (cons v vs)))) = refl

raised_goals : (s : ControlNames) (base : ℕ) (t : Tree ℕ) → body_goals s (raise base t) ≡ map (raise base) (body_goals s t)
raised_goals s base (var n) = refl
raised_goals s base (int z) = refl
raised_goals s base (atom a) = go (nat_eq a s.truth.0)
  where
    go : (b : Bool) → (if b then [] else atom a ∷ []) ≡ map (raise base) (if b then [] else atom a ∷ [])
    go true = refl
    go false = refl
raised_goals s base (comp f ts) = raised_conjuncts s base (comp f ts)

calls_under : (bs : List (ℕ × Tree ℕ)) (base : ℕ) (words : List CodeWord) (code : List Instruction) (env : Environment ℕ) (d : ℕ) (ts : List (Tree ℕ))
    → map (call_of (record { words = words; code = code; up = λ u. apply bs (raise base u); env = env; reach = d })) ts ≡ map (item_under bs) (map (called env d) (map (raise base) ts))
calls_under bs base words code env d [] = refl
calls_under bs base words code env d (t ∷ ts) = ap (λ l. called env d (apply bs (raise base t)) ∷ l) (calls_under bs base words code env d ts)

pub body_items_are : BodyItems
body_items_are n s words code start t are body base bs env d after outer =
    let r : Running = record { words = words; code = code; up = λ u. apply bs (raise base u); env = env; reach = d } in
    runs_first r s after outer body.sound 0 start (body_goals s t) body.run
    ∙ ap (λ l. l ++ after) (calls_under bs base words code env d (body_goals s t)
    ∙ ap (map (item_under bs)) (ap (map (called env d)) (sym (raised_goals s base t)) ∙ sym (items_are_goals n s are (raise base t) env d)))
