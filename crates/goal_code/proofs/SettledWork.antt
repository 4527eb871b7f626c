-- The steps of a compilation keep that all goals are settled.
use Rattle.std.specs.Prelude.{nat_eq, ◌&&◌, ◌||◌, if◌then◌else◌}
use Rattle.std.specs.List.{All}
use Rattle.std.proofs.Common.{◌≡◌, ℕ, zero, suc, Bool, true, false, List, [], ◌∷◌, ◌++◌, reverse, Some, refl, sym, ap, ◌∙◌, subst, ◌⊎◌, inl, inr}
use Rattle.std.proofs.lemmas.List.Elements.{All-nil, All-cons, All-head, All-tail}
use Rattle.pl_terms.specs.Trees.{Tree, var, int, atom, comp, nil, cons}
use Rattle.pl_unify.specs.declared.code.CodeWord.{CodeWord}
use Rattle.pl_unify.specs.Code.{code_tree}
use Rattle.goal_code.specs.declared.instruction.Instruction.{Instruction}
use Rattle.goal_code.specs.declared.shape.ControlNames.{ControlNames}
use Rattle.goal_code.specs.declared.shape.Parts.TheVariants as P
use Rattle.goal_code.specs.declared.work.Task.{Task}
use Rattle.goal_code.specs.declared.work.Task.TheVariants.{Goals}
use Rattle.goal_code.specs.declared.work.Work.{Work}
use Rattle.goal_code.specs.Shapes.{Shape, conjunction, disjunction, if_then_else, if_then, cut, other, shape_of, disjunction_shape}
use Rattle.goal_code.specs.Parts.{HasShape}
use Rattle.goal_code.specs.Runs.{instruction_at, is_goal, goal_of}
use Rattle.goal_code.specs.Settled.{is_settled, SettledAt, AreSettled, PartsSettled}
use Rattle.goal_code.specs.Tasks.{TaskSettled, WorkSettled}
use Rattle.goal_code.specs.Steps.{IsLed, IsAdded}
use Rattle.goal_code.proofs.Running.{at_either}
use Rattle.goal_code.proofs.SettledLaws.{both-true, arrow_parts}

module _ (s : ControlNames) where
  disjunction_parts : (l r : Tree ℕ) → is_settled s l ≡ true → is_settled s r ≡ true → PartsSettled s (disjunction_shape s l r)
  disjunction_parts (comp g (cons c (cons t nil))) r h k = go (nat_eq g s.implication.0) refl
    where
      go : (b : Bool) → nat_eq g s.implication.0 ≡ b → PartsSettled s (if b then if_then_else c t r else disjunction (comp g (cons c (cons t nil))) r)
      go true e = let z = arrow_parts s g c t e h in (z.0, z.1, k)
      go false e = (h, k)
  disjunction_parts (var v) r h k = (h, k)
  disjunction_parts (int z) r h k = (h, k)
  disjunction_parts (atom a) r h k = (h, k)
  disjunction_parts (comp g nil) r h k = (h, k)
  disjunction_parts (comp g (cons c nil)) r h k = (h, k)
  disjunction_parts (comp g (cons c (cons t (cons u us)))) r h k = (h, k)

  -- the parts of a settled construct are settled
  pub parts_settled : (t : Tree ℕ) → is_settled s t ≡ true → PartsSettled s (shape_of s t)
  parts_settled (var v) h = tt
  parts_settled (int z) h = tt
  parts_settled (atom a) h = go (nat_eq a s.cut.0)
    where
      go : (b : Bool) → PartsSettled s (if b then cut else other)
      go true = tt
      go false = tt
  parts_settled (comp f nil) h = tt
  parts_settled (comp f (cons l nil)) h = tt
  parts_settled (comp f (cons l (cons r nil))) h = go (nat_eq f s.conjunction.0) (nat_eq f s.disjunction.0) (nat_eq f s.implication.0) h
    where
      go : (a b c : Bool) → (if (a || (b || c)) then is_settled s l && is_settled s r else true) ≡ true
          → PartsSettled s (if a then conjunction l r else (if b then disjunction_shape s l r else (if c then if_then l r else other)))
      go true b c k = both-true (is_settled s l) (is_settled s r) k
      go false true c k = let z = both-true (is_settled s l) (is_settled s r) k in disjunction_parts l r z.0 z.1
      go false false true k = both-true (is_settled s l) (is_settled s r) k
      go false false false k = tt
  parts_settled (comp f (cons l (cons r (cons u us)))) h = tt

  module _ (ws : List CodeWord) where
    at_place : (p : ℕ) (t : Tree ℕ) → code_tree ws p ≡ t → is_settled s t ≡ true → SettledAt s ws p
    at_place p t e h = ap (is_settled s) e ∙ h

    pub conjunction_settled : (p a b : ℕ) → HasShape ws (shape_of s (code_tree ws p)) (P.Conjunction a b) → SettledAt s ws p → SettledAt s ws a × SettledAt s ws b
    conjunction_settled p a b h i = go (shape_of s (code_tree ws p)) h (parts_settled (code_tree ws p) i)
      where
        go : (x : Shape) → HasShape ws x (P.Conjunction a b) → PartsSettled s x → SettledAt s ws a × SettledAt s ws b
        go (conjunction x y) k l = (at_place a x k.0.1 l.0, at_place b y k.1.1 l.1)
        go x k l = absurd k

    pub disjunction_settled : (p a b : ℕ) → HasShape ws (shape_of s (code_tree ws p)) (P.Disjunction a b) → SettledAt s ws p → SettledAt s ws a × SettledAt s ws b
    disjunction_settled p a b h i = go (shape_of s (code_tree ws p)) h (parts_settled (code_tree ws p) i)
      where
        go : (x : Shape) → HasShape ws x (P.Disjunction a b) → PartsSettled s x → SettledAt s ws a × SettledAt s ws b
        go (disjunction x y) k l = (at_place a x k.0.1 l.0, at_place b y k.1.1 l.1)
        go x k l = absurd k

    pub if_then_else_settled : (p a b d : ℕ) → HasShape ws (shape_of s (code_tree ws p)) (P.IfThenElse a b d) → SettledAt s ws p → SettledAt s ws a × SettledAt s ws b × SettledAt s ws d
    if_then_else_settled p a b d h i = go (shape_of s (code_tree ws p)) h (parts_settled (code_tree ws p) i)
      where
        go : (x : Shape) → HasShape ws x (P.IfThenElse a b d) → PartsSettled s x → SettledAt s ws a × SettledAt s ws b × SettledAt s ws d
        go (if_then_else x y z) k l = (at_place a x k.0.1 l.0, at_place b y k.1.1 l.1, at_place d z k.2.1 l.2)
        go x k l = absurd k

    pub if_then_settled : (p a b : ℕ) → HasShape ws (shape_of s (code_tree ws p)) (P.IfThen a b) → SettledAt s ws p → SettledAt s ws a × SettledAt s ws b
    if_then_settled p a b h i = go (shape_of s (code_tree ws p)) h (parts_settled (code_tree ws p) i)
      where
        go : (x : Shape) → HasShape ws x (P.IfThen a b) → PartsSettled s x → SettledAt s ws a × SettledAt s ws b
        go (if_then x y) k l = (at_place a x k.0.1 l.0, at_place b y k.1.1 l.1)
        go x k l = absurd k

    -- ---- steps

    led_on : (old new : Work) (task : Task) (goals place : ℕ) → IsLed old new task goals place → SettledAt s ws goals → TaskSettled s ws task
        → AreSettled s ws old.instructions.items → All (TaskSettled s ws) (reverse old.tasks.items) → WorkSettled s ws new.instructions.items (reverse new.tasks.items)
    led_on old new task goals place l g t i q = record {
      goals = subst (λ c. AreSettled s ws c) (ap (λ v. v.items) (sym l.instructions)) i;
      left =
          subst (All (TaskSettled s ws)) (sym l.tasks)
          (All-cons (TaskSettled s ws) (Goals goals) (task ∷ reverse old.tasks.items) g (All-cons (TaskSettled s ws) task (reverse old.tasks.items) t q));
    }

    goals_more : (code : List Instruction) (c : Instruction) → (is_goal c ≡ true → SettledAt s ws (goal_of c)) → AreSettled s ws code → AreSettled s ws (code ++ c ∷ [])
    goals_more code c h i k x is goal = go (at_either code c k x is)
      where
        go : (instruction_at code k ≡ Some x) ⊎ (x ≡ c) → SettledAt s ws (goal_of x)
        go (inl a) = i k x a goal
        go (inr e) = subst (λ y. SettledAt s ws (goal_of y)) (sym e) (h (sym (ap is_goal e) ∙ goal))

    added_on : (old new : Work) (c : Instruction) → IsAdded old new c → (is_goal c ≡ true → SettledAt s ws (goal_of c))
        → AreSettled s ws old.instructions.items → All (TaskSettled s ws) (reverse old.tasks.items) → WorkSettled s ws new.instructions.items (reverse new.tasks.items)
    added_on old new c a h i q = record {
      goals = subst (λ k. AreSettled s ws k) (sym a.instructions) (goals_more old.instructions.items c h i);
      left = subst (λ v. All (TaskSettled s ws) v) (ap (λ v. reverse v.items) (sym a.tasks)) q;
    }

    module _ (old : Work) (t : Task) (w : WorkSettled s ws old.instructions.items (t ∷ reverse old.tasks.items)) where
      -- the next task and those behind it
      next_settled : TaskSettled s ws t
      next_settled = All-head (TaskSettled s ws) t (reverse old.tasks.items) w.left

      later_settled : All (TaskSettled s ws) (reverse old.tasks.items)
      later_settled = All-tail (TaskSettled s ws) t (reverse old.tasks.items) w.left

      -- a task that leads to the goals of a term, and then to another task
      pub leads_on : (new : Work) (task : Task) (goals place : ℕ) → IsLed old new task goals place → (TaskSettled s ws t → SettledAt s ws goals × TaskSettled s ws task)
          → WorkSettled s ws new.instructions.items (reverse new.tasks.items)
      leads_on new task goals place l h = let z = h next_settled in led_on old new task goals place l z.0 z.1 w.goals later_settled

      -- a task that puts an instruction
      pub adds_on : (new : Work) (c : Instruction) → IsAdded old new c → (TaskSettled s ws t → is_goal c ≡ true → SettledAt s ws (goal_of c))
          → WorkSettled s ws new.instructions.items (reverse new.tasks.items)
      adds_on new c a h = added_on old new c a (h next_settled) w.goals later_settled

      -- one that does both
      pub adds_and_leads : (mid new : Work) (c : Instruction) (task : Task) (goals place : ℕ) → IsAdded old mid c → IsLed mid new task goals place → (TaskSettled s ws t → is_goal c ≡ true → SettledAt s ws (goal_of c))
          → (TaskSettled s ws t → SettledAt s ws goals × TaskSettled s ws task) → WorkSettled s ws new.instructions.items (reverse new.tasks.items)
      adds_and_leads mid new c task goals place a l h k =
          let m = adds_on mid c a h in
          let z = k next_settled in
          led_on mid new task goals place l z.0 z.1 m.goals m.left

    -- ---- the beginning and the end

    nothing : AreSettled s ws []
    nothing zero c h g = cc
    nothing (suc k) c h g = cc

    pub starts_settled : (code : List Instruction) (tasks ts : List Task) → code ≡ [] → tasks ≡ ts → All (TaskSettled s ws) (reverse ts) → WorkSettled s ws code (reverse tasks)
    starts_settled code tasks ts e f h = record { goals = subst (λ c. AreSettled s ws c) (sym e) nothing; left = subst (λ q. All (TaskSettled s ws) (reverse q)) (sym f) h }

    pub nothing_left : All (TaskSettled s ws) []
    nothing_left = All-nil (TaskSettled s ws)

    pub goals_left : (p : ℕ) → SettledAt s ws p → All (TaskSettled s ws) (Goals p ∷ [])
    goals_left p h = All-cons (TaskSettled s ws) (Goals p) [] h nothing_left
