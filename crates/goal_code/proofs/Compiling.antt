-- The steps of a compilation keep what it leads to.
use Rattle.std.specs.Prelude.{if◌then◌else◌}
use Rattle.std.proofs.Common.{◌≡◌, ℕ, zero, suc, ◌<◌, ◌≤◌, true, false, List, [], ◌∷◌, ◌++◌, length, reverse, Option, Some, None, Result, Ok, Err, OnOk, refl, sym, ap, ◌∙◌, subst, arith, length-append, append_assoc, append-nil}
use Rattle.pl_terms.specs.Trees.{Tree}
use Rattle.pl_unify.specs.declared.code.CodeWord.{CodeWord}
use Rattle.pl_unify.specs.Code.{code_tree}
use Rattle.goal_code.specs.declared.instruction.Instruction.{Instruction}
use Rattle.goal_code.specs.declared.instruction.Instruction.TheVariants.{Goal, Cut, Either, If, EndIf}
use Rattle.goal_code.specs.declared.shape.ControlNames.{ControlNames}
use Rattle.goal_code.specs.declared.shape.Parts.TheVariants as P
use Rattle.goal_code.specs.declared.work.Task.{Task}
use Rattle.goal_code.specs.declared.work.Task.TheVariants.{Goals, Left, Disjunction, Then, Condition, Conditional}
use Rattle.goal_code.specs.declared.work.Work.{Work}
use Rattle.goal_code.specs.Shapes.{Shape, conjunction, disjunction, if_then_else, if_then, cut, other, shape_of, conjuncts, is_truth, body_goals}
use Rattle.goal_code.specs.Parts.{HasShape}
use Rattle.goal_code.specs.Runs.{instruction_at, is_goal, next_of, goal_of, IsRun, Runs, EndsIf, HasParts, IsSound}
use Rattle.goal_code.specs.Tasks.{TaskIn, term_of, after, IsPart, Awaits, UnderWay}
use Rattle.goal_code.specs.Steps.{IsLed, IsAdded}
use Rattle.goal_code.proofs.Shaping.{Sized, sized}
use Rattle.goal_code.proofs.Running.{at_last, run_of, run_more, ends_more, sound_more}

pub OnOk-then : {A E P Q : Type 0} (r : Result A E) → (P → Q) → OnOk r P → OnOk r Q
OnOk-then (Ok a) f h = f h
OnOk-then (Err e) f h = tt

module _ (s : ControlNames) (ws : List CodeWord) where
  part_more : (code more : List Instruction) (t : Task) (stop : ℕ) (gs : List (Tree ℕ)) (x : Shape) → IsPart s ws code t stop gs x → IsPart s ws (code ++ more) t stop gs x
  part_more code more (Left g l n) stop gs (disjunction x y) h = h
  part_more code more (Disjunction g r n) stop gs (disjunction x y) h = (h.0, run_more ws code more n r (conjuncts s y) h.1, h.2)
  part_more code more (Then g c t n) stop gs (if_then_else x y z) h = h
  part_more code more (Condition g c (Some o) n) stop gs (if_then_else x y z) h = (h.0, h.1, run_more ws code more n o (conjuncts s z) h.2, h.3)
  part_more code more (Condition g c None n) stop gs (if_then x y) h = h
  part_more code more (Conditional g m (Some o) n) stop gs (if_then_else x y z) h = (h.0, ends_more ws s code more n m y h.1, run_more ws code more n o (conjuncts s z) h.2, h.3)
  part_more code more (Conditional g m None n) stop gs (if_then x y) h = (h.0, ends_more ws s code more n m y h.1, h.2)
  part_more code more t stop gs x h = absurd h

  abbrev Outer : List Instruction → List (Tree ℕ) → Task → List Task → Type 0
  Outer code final t ts = (outer : ℕ) × (hs : List (Tree ℕ)) × IsRun ws code outer (after t) hs × Awaits s ws code final ts outer (code_tree ws (term_of t) ∷ hs)

  awaits_more : (code more : List Instruction) (final : List (Tree ℕ)) (ts : List Task) (stop : ℕ) (gs : List (Tree ℕ)) → Awaits s ws code final ts stop gs → Awaits s ws (code ++ more) final ts stop gs
  awaits_more code more final [] stop gs h = h
  awaits_more code more final (Goals p ∷ ts) stop gs h = (h.0, awaits_more code more final ts stop (conjuncts s (code_tree ws p) ++ gs) h.1)
  awaits_more code more final (t ∷ ts) stop gs h = (
    part_more code more t stop gs (shape_of s (code_tree ws (term_of t))) h.0,
    h.1,
    (let l : after t ≤ length code = h.2 in omega (arith, l, length-append code more)),
    (h.3.0, h.3.1, run_more ws code more h.3.0 (after t) h.3.1 h.3.2, awaits_more code more final ts h.3.0 (code_tree ws (term_of t) ∷ h.3.1) h.3.3),
  )

  -- ---- tasks

  module _ (final : List (Tree ℕ)) (code : List Instruction) (at : ℕ) (ts : List Task) where
    -- a run up to a place whose goals are those of a term
    runs : (stop n : ℕ) (gs : List (Tree ℕ)) (t : Tree ℕ) → IsRun ws code stop at gs → stop ≡ n → gs ≡ conjuncts s t → Runs s ws code n at t
    runs stop n gs t r e f = subst (λ z. IsRun ws code z at (conjuncts s t)) e (subst (λ l. IsRun ws code stop at l) f r)

    pub left_goes : (g l n : ℕ) → UnderWay s ws final code at (Left g l n ∷ ts) → UnderWay s ws final code n (Goals l ∷ Disjunction g at n ∷ ts)
    left_goes g l n u = go (shape_of s (code_tree ws g)) refl u.awaits.0
      where
        go : (x : Shape) → shape_of s (code_tree ws g) ≡ x → IsPart s ws code (Left g l n) u.stop u.goals x → UnderWay s ws final code n (Goals l ∷ Disjunction g at n ∷ ts)
        go (disjunction x y) e h = record {
          stop = n;
          goals = [];
          low = u.awaits.2;
          run = refl;
          awaits = (
            h.1.0,
            (
              subst (IsPart s ws code (Disjunction g at n) n (conjuncts s (code_tree ws l) ++ [])) (sym e)
                  (refl, runs u.stop n u.goals y u.run h.0 h.2, append-nil (conjuncts s (code_tree ws l)) ∙ ap (conjuncts s) h.1.1),
              u.awaits.1,
              u.awaits.2,
              u.awaits.3,
            ),
          );
          sound = u.sound;
        }
        go x e h = absurd h

    pub then_goes : (g c t n : ℕ) → UnderWay s ws final code at (Then g c t n ∷ ts) → UnderWay s ws final code n (Goals t ∷ Condition g c (Some at) n ∷ ts)
    then_goes g c t n u = go (shape_of s (code_tree ws g)) refl u.awaits.0
      where
        go : (x : Shape) → shape_of s (code_tree ws g) ≡ x → IsPart s ws code (Then g c t n) u.stop u.goals x → UnderWay s ws final code n (Goals t ∷ Condition g c (Some at) n ∷ ts)
        go (if_then_else x y z) e h = record {
          stop = n;
          goals = [];
          low = u.awaits.2;
          run = refl;
          awaits = (
            h.2.0,
            (
              subst (IsPart s ws code (Condition g c (Some at) n) n (conjuncts s (code_tree ws t) ++ [])) (sym e)
                  (refl, h.1, runs u.stop n u.goals z u.run h.0 h.3, append-nil (conjuncts s (code_tree ws t)) ∙ ap (conjuncts s) h.2.1),
              u.awaits.1,
              u.awaits.2,
              u.awaits.3,
            ),
          );
          sound = u.sound;
        }
        go x e h = absurd h

    -- a goal is put before what a construct leads to
    puts_goal : (c : Instruction) (stop : ℕ) (gs : List (Tree ℕ)) → is_goal c ≡ true → IsRun ws code stop (next_of c) gs → next_of c ≤ length code
        → Awaits s ws code final ts stop (code_tree ws (goal_of c) ∷ gs) → IsSound s ws code
        → goal_of c < length ws → HasParts s ws (code ++ c ∷ []) c (shape_of s (code_tree ws (goal_of c)))
        → UnderWay s ws final (code ++ c ∷ []) (length (code ++ c ∷ [])) ts
    puts_goal c stop gs is run low a sound i parts =
        let e : length (code ++ c ∷ []) ≡ suc (length code) = omega (arith, length-append code (c ∷ [])) in
        record {
          stop = stop;
          goals = code_tree ws (goal_of c) ∷ gs;
          low = omega arith;
          run = subst (λ z. IsRun ws (code ++ c ∷ []) stop z (code_tree ws (goal_of c) ∷ gs)) (sym e)
              (run_of ws (code ++ c ∷ []) stop (suc (length code)) (code_tree ws (goal_of c)) gs
              (record { first = c; is = at_last code c; goal = is; low = omega (arith, low); tree = refl; rest = run_more ws code (c ∷ []) stop (next_of c) gs run }));
          awaits = awaits_more code (c ∷ []) final ts stop (code_tree ws (goal_of c) ∷ gs) a;
          sound = sound_more ws s code c sound (omega (arith, low), λ _. (i, parts));
        }

    pub disjunction_goes : (g r n : ℕ) → UnderWay s ws final code at (Disjunction g r n ∷ ts) → UnderWay s ws final (code ++ Either g at r n ∷ []) (length (code ++ Either g at r n ∷ [])) ts
    disjunction_goes g r n u =
        puts_goal (Either g at r n) u.awaits.3.0 u.awaits.3.1 refl u.awaits.3.2 u.awaits.2 u.awaits.3.3 u.sound u.awaits.1 (go (shape_of s (code_tree ws g)) u.awaits.0)
      where
        go : (x : Shape) → IsPart s ws code (Disjunction g r n) u.stop u.goals x → HasParts s ws (code ++ Either g at r n ∷ []) (Either g at r n) x
        go (disjunction x y) h =
            (run_more ws code (Either g at r n ∷ []) n at (conjuncts s x) (runs u.stop n u.goals x u.run h.0 h.2), run_more ws code (Either g at r n ∷ []) n r (conjuncts s y) h.1)
        go x h = absurd h

    pub condition_goes : (g c : ℕ) (o : Option ℕ) (n : ℕ) → UnderWay s ws final code at (Condition g c o n ∷ ts)
        → UnderWay s ws final (code ++ EndIf at ∷ []) (length (code ++ EndIf at ∷ [])) (Goals c ∷ Conditional g (length (code ++ EndIf at ∷ [])) o n ∷ ts)
    condition_goes g c o n u = go (shape_of s (code_tree ws g)) o refl u.awaits.0
      where
        ends : (y : Tree ℕ) → Runs s ws code n at y → EndsIf s ws (code ++ EndIf at ∷ []) n y (instruction_at (code ++ EndIf at ∷ []) (length (code ++ EndIf at ∷ [])))
        ends y r =
            let e : suc (length code) ≡ length (code ++ EndIf at ∷ []) = omega (arith, length-append code (EndIf at ∷ [])) in
            subst (EndsIf s ws (code ++ EndIf at ∷ []) n y) (sym (at_last code (EndIf at)) ∙ ap (instruction_at (code ++ EndIf at ∷ [])) e)
            (run_more ws code (EndIf at ∷ []) n at (conjuncts s y) r)

        made : (o : Option ℕ) → c < length ws → IsPart s ws (code ++ EndIf at ∷ []) (Conditional g (length (code ++ EndIf at ∷ [])) o n) (length (code ++ EndIf at ∷ [])) (conjuncts s (code_tree ws c) ++ []) (shape_of s (code_tree ws g))
            → (outer : ℕ) → (hs : List (Tree ℕ)) → IsRun ws code outer n hs → Awaits s ws code final ts outer (code_tree ws g ∷ hs)
            → UnderWay s ws final (code ++ EndIf at ∷ []) (length (code ++ EndIf at ∷ [])) (Goals c ∷ Conditional g (length (code ++ EndIf at ∷ [])) o n ∷ ts)
        made o i part outer hs r a = record {
          stop = length (code ++ EndIf at ∷ []);
          goals = [];
          low = omega arith;
          run = refl;
          awaits = (
            i,
            (
              part,
              u.awaits.1,
              (let l : n ≤ length code = u.awaits.2 in omega (arith, l, length-append code (EndIf at ∷ []))),
              (outer, hs, run_more ws code (EndIf at ∷ []) outer n hs r, awaits_more code (EndIf at ∷ []) final ts outer (code_tree ws g ∷ hs) a),
            ),
          );
          sound = sound_more ws s code (EndIf at) u.sound (let l : at ≤ length code = u.low in omega (arith, l), λ f. let z : false ≡ true = f in cc);
        }

        go : (x : Shape) (o' : Option ℕ) → shape_of s (code_tree ws g) ≡ x → IsPart s ws code (Condition g c o' n) u.stop u.goals x
            → UnderWay s ws final (code ++ EndIf at ∷ []) (length (code ++ EndIf at ∷ [])) (Goals c ∷ Conditional g (length (code ++ EndIf at ∷ [])) o' n ∷ ts)
        go (if_then_else x y z) (Some p) e h =
            made (Some p) h.1.0
            (subst (IsPart s ws (code ++ EndIf at ∷ []) (Conditional g (length (code ++ EndIf at ∷ [])) (Some p) n) (length (code ++ EndIf at ∷ [])) (conjuncts s (code_tree ws c) ++ [])) (sym e)
            (refl, ends y (runs u.stop n u.goals y u.run h.0 h.3), run_more ws code (EndIf at ∷ []) n p (conjuncts s z) h.2, append-nil (conjuncts s (code_tree ws c)) ∙ ap (conjuncts s) h.1.1))
            u.awaits.3.0 u.awaits.3.1 u.awaits.3.2 u.awaits.3.3
        go (if_then x y) None e h =
            made None h.1.0
            (subst (IsPart s ws (code ++ EndIf at ∷ []) (Conditional g (length (code ++ EndIf at ∷ [])) None n) (length (code ++ EndIf at ∷ [])) (conjuncts s (code_tree ws c) ++ [])) (sym e)
            (refl, ends y (runs u.stop n u.goals y u.run h.0 h.2), append-nil (conjuncts s (code_tree ws c)) ∙ ap (conjuncts s) h.1.1))
            u.awaits.3.0 u.awaits.3.1 u.awaits.3.2 u.awaits.3.3
        go x (Some p) e h = absurd h
        go x None e h = absurd h

    pub conditional_goes : (g m : ℕ) (o : Option ℕ) (n : ℕ) → UnderWay s ws final code at (Conditional g m o n ∷ ts) → UnderWay s ws final (code ++ If g at m o n ∷ []) (length (code ++ If g at m o n ∷ [])) ts
    conditional_goes g m o n u =
        puts_goal (If g at m o n) u.awaits.3.0 u.awaits.3.1 refl u.awaits.3.2 u.awaits.2 u.awaits.3.3 u.sound u.awaits.1 (go (shape_of s (code_tree ws g)) o u.awaits.0)
      where
        go : (x : Shape) (o' : Option ℕ) → IsPart s ws code (Conditional g m o' n) u.stop u.goals x → HasParts s ws (code ++ If g at m o n ∷ []) (If g at m o' n) x
        go (if_then_else x y z) (Some p) h =
            (run_more ws code (If g at m o n ∷ []) m at (conjuncts s x) (runs u.stop m u.goals x u.run h.0 h.3), ends_more ws s code (If g at m o n ∷ []) n m y h.1, run_more ws code (If g at m o n ∷ []) n p (conjuncts s z) h.2)
        go (if_then x y) None h =
            (run_more ws code (If g at m o n ∷ []) m at (conjuncts s x) (runs u.stop m u.goals x u.run h.0 h.2), ends_more ws s code (If g at m o n ∷ []) n m y h.1)
        go x (Some p) h = absurd h
        go x None h = absurd h

    -- ---- terms

    module _ (p : ℕ) (u : UnderWay s ws final code at (Goals p ∷ ts)) where
      whole : conjuncts s (code_tree ws p) ≡ code_tree ws p ∷ [] → Awaits s ws code final ts u.stop (code_tree ws p ∷ u.goals)
      whole e = subst (λ l. Awaits s ws code final ts u.stop (l ++ u.goals)) e u.awaits.1

      sized_as : (x : Shape) → shape_of s (code_tree ws p) ≡ x → Sized s (code_tree ws p) x
      sized_as x e = subst (Sized s (code_tree ws p)) e (sized s (code_tree ws p))

      pub conjunction_splits : (a b : ℕ) → HasShape ws (shape_of s (code_tree ws p)) (P.Conjunction a b) → UnderWay s ws final code at (Goals b ∷ Goals a ∷ ts)
      conjunction_splits a b h = go (shape_of s (code_tree ws p)) refl h
        where
          go : (x : Shape) → shape_of s (code_tree ws p) ≡ x → HasShape ws x (P.Conjunction a b) → UnderWay s ws final code at (Goals b ∷ Goals a ∷ ts)
          go (conjunction x y) e i = record {
            stop = u.stop;
            goals = u.goals;
            low = u.low;
            run = u.run;
            awaits = (
              i.1.0,
              (
                i.0.0,
                subst (λ l. Awaits s ws code final ts u.stop l)
                    (ap (λ l. l ++ u.goals) ((sized_as (conjunction x y) e).0 ∙ (ap (λ t. conjuncts s t ++ conjuncts s y) (sym i.0.1) ∙ ap (λ t. conjuncts s (code_tree ws a) ++ conjuncts s t) (sym i.1.1)))
                    ∙ append_assoc (conjuncts s (code_tree ws a)) (conjuncts s (code_tree ws b)) u.goals)
                    u.awaits.1,
              ),
            );
            sound = u.sound;
          }
          go x e i = absurd i

      pub disjunction_splits : (a b : ℕ) → HasShape ws (shape_of s (code_tree ws p)) (P.Disjunction a b) → UnderWay s ws final code at (Goals b ∷ Left p a at ∷ ts)
      disjunction_splits a b h = go (shape_of s (code_tree ws p)) refl h
        where
          go : (x : Shape) → shape_of s (code_tree ws p) ≡ x → HasShape ws x (P.Disjunction a b) → UnderWay s ws final code at (Goals b ∷ Left p a at ∷ ts)
          go (disjunction x y) e i = record {
            stop = at;
            goals = [];
            low = u.low;
            run = refl;
            awaits = (
              i.1.0,
              (
                subst (IsPart s ws code (Left p a at) at (conjuncts s (code_tree ws b) ++ [])) (sym e) (refl, i.0, append-nil (conjuncts s (code_tree ws b)) ∙ ap (conjuncts s) i.1.1),
                u.awaits.0,
                u.low,
                (u.stop, u.goals, u.run, whole (sized_as (disjunction x y) e).0),
              ),
            );
            sound = u.sound;
          }
          go x e i = absurd i

      pub if_then_else_splits : (a b d : ℕ) → HasShape ws (shape_of s (code_tree ws p)) (P.IfThenElse a b d) → UnderWay s ws final code at (Goals d ∷ Then p a b at ∷ ts)
      if_then_else_splits a b d h = go (shape_of s (code_tree ws p)) refl h
        where
          go : (x : Shape) → shape_of s (code_tree ws p) ≡ x → HasShape ws x (P.IfThenElse a b d) → UnderWay s ws final code at (Goals d ∷ Then p a b at ∷ ts)
          go (if_then_else x y z) e i = record {
            stop = at;
            goals = [];
            low = u.low;
            run = refl;
            awaits = (
              i.2.0,
              (
                subst (IsPart s ws code (Then p a b at) at (conjuncts s (code_tree ws d) ++ [])) (sym e) (refl, i.0, i.1, append-nil (conjuncts s (code_tree ws d)) ∙ ap (conjuncts s) i.2.1),
                u.awaits.0,
                u.low,
                (u.stop, u.goals, u.run, whole (sized_as (if_then_else x y z) e).0),
              ),
            );
            sound = u.sound;
          }
          go x e i = absurd i

      pub if_then_splits : (a b : ℕ) → HasShape ws (shape_of s (code_tree ws p)) (P.IfThen a b) → UnderWay s ws final code at (Goals b ∷ Condition p a None at ∷ ts)
      if_then_splits a b h = go (shape_of s (code_tree ws p)) refl h
        where
          go : (x : Shape) → shape_of s (code_tree ws p) ≡ x → HasShape ws x (P.IfThen a b) → UnderWay s ws final code at (Goals b ∷ Condition p a None at ∷ ts)
          go (if_then x y) e i = record {
            stop = at;
            goals = [];
            low = u.low;
            run = refl;
            awaits = (
              i.1.0,
              (
                subst (IsPart s ws code (Condition p a None at) at (conjuncts s (code_tree ws b) ++ [])) (sym e) (refl, i.0, append-nil (conjuncts s (code_tree ws b)) ∙ ap (conjuncts s) i.1.1),
                u.awaits.0,
                u.low,
                (u.stop, u.goals, u.run, whole (sized_as (if_then x y) e).0),
              ),
            );
            sound = u.sound;
          }
          go x e i = absurd i

      pub cut_added : HasShape ws (shape_of s (code_tree ws p)) P.Cut → UnderWay s ws final (code ++ Cut p at ∷ []) (length (code ++ Cut p at ∷ [])) ts
      cut_added h = go (shape_of s (code_tree ws p)) refl h
        where
          go : (x : Shape) → shape_of s (code_tree ws p) ≡ x → HasShape ws x P.Cut → UnderWay s ws final (code ++ Cut p at ∷ []) (length (code ++ Cut p at ∷ [])) ts
          go cut e i = puts_goal (Cut p at) u.stop u.goals refl u.run u.low (whole (sized_as cut e)) u.sound u.awaits.0 (subst (HasParts s ws (code ++ Cut p at ∷ []) (Cut p at)) (sym e) tt)
          go x e i = absurd i

      pub goal_added : HasShape ws (shape_of s (code_tree ws p)) P.Other → UnderWay s ws final (code ++ Goal p at ∷ []) (length (code ++ Goal p at ∷ [])) ts
      goal_added h = go (shape_of s (code_tree ws p)) refl h
        where
          go : (x : Shape) → shape_of s (code_tree ws p) ≡ x → HasShape ws x P.Other → UnderWay s ws final (code ++ Goal p at ∷ []) (length (code ++ Goal p at ∷ [])) ts
          go other e i = puts_goal (Goal p at) u.stop u.goals refl u.run u.low (whole (sized_as other e)) u.sound u.awaits.0 (subst (HasParts s ws (code ++ Goal p at ∷ []) (Goal p at)) (sym e) tt)
          go x e i = absurd i

  -- ---- work

  pub led : (final : List (Tree ℕ)) (old new : Work) (task : Task) (goals place : ℕ) → IsLed old new task goals place
      → UnderWay s ws final old.instructions.items place (Goals goals ∷ task ∷ reverse old.tasks.items)
      → UnderWay s ws final new.instructions.items new.at (reverse new.tasks.items)
  led final old new task goals place l u =
      subst (λ c. UnderWay s ws final c new.at (reverse new.tasks.items)) (ap (λ v. v.items) (sym l.instructions))
      (subst (λ a. UnderWay s ws final old.instructions.items a (reverse new.tasks.items)) (sym l.at)
      (subst (λ q. UnderWay s ws final old.instructions.items place q) (sym l.tasks) u))

  pub was_added : (final : List (Tree ℕ)) (old new : Work) (c : Instruction) → IsAdded old new c
      → UnderWay s ws final (old.instructions.items ++ c ∷ []) (length (old.instructions.items ++ c ∷ [])) (reverse old.tasks.items)
      → UnderWay s ws final new.instructions.items new.at (reverse new.tasks.items)
  was_added final old new c a u =
      subst (λ q. UnderWay s ws final new.instructions.items new.at q) (ap (λ v. reverse v.items) (sym a.tasks))
      (subst (λ n. UnderWay s ws final new.instructions.items n (reverse old.tasks.items)) (sym a.at)
      (subst (λ k. UnderWay s ws final k (length k) (reverse old.tasks.items)) (sym a.instructions) u))

  pub task_in : (final : List (Tree ℕ)) (code : List Instruction) (at : ℕ) (t : Task) (ts : List Task) → UnderWay s ws final code at (t ∷ ts) → TaskIn ws t
  task_in final code at (Goals p) ts u = u.awaits.0
  task_in final code at t ts u = tt

  -- a body whose goals are all compiled
  pub compiled : (final : List (Tree ℕ)) (code : List Instruction) (at : ℕ) (ts : List Task) → UnderWay s ws final code at ts → ts ≡ [] → IsSound s ws code × IsRun ws code 0 at final
  compiled final code at [] u e = (u.sound, subst (λ g. IsRun ws code 0 at g) u.awaits.1 (subst (λ n. IsRun ws code n at u.goals) u.awaits.0 u.run))
  compiled final code at (t ∷ ts) u e = cc

  pub condition_done : (final : List (Tree ℕ)) (old mid new : Work) (g c : ℕ) (o : Option ℕ) (n : ℕ) → IsAdded old mid (EndIf old.at) → IsLed mid new (Conditional g mid.at o n) c mid.at
      → UnderWay s ws final old.instructions.items old.at (Condition g c o n ∷ reverse old.tasks.items) → UnderWay s ws final new.instructions.items new.at (reverse new.tasks.items)
  condition_done final old mid new g c o n a l u =
      led final mid new (Conditional g mid.at o n) c mid.at l
      (subst (λ q. UnderWay s ws final mid.instructions.items mid.at (Goals c ∷ Conditional g mid.at o n ∷ q)) (ap (λ v. reverse v.items) (sym a.tasks))
      (subst (λ m. UnderWay s ws final mid.instructions.items m (Goals c ∷ Conditional g m o n ∷ reverse old.tasks.items)) (sym a.at)
      (subst (λ k. UnderWay s ws final k (length k) (Goals c ∷ Conditional g (length k) o n ∷ reverse old.tasks.items)) (sym a.instructions)
      (condition_goes final old.instructions.items old.at (reverse old.tasks.items) g c o n u))))

  -- ---- the beginning

  nothing_sound : IsSound s ws []
  nothing_sound zero c h = cc
  nothing_sound (suc k) c h = cc

  pub starts_true : (t : Tree ℕ) → is_truth s t ≡ true → UnderWay s ws (body_goals s t) [] 0 []
  starts_true t e = record { stop = 0; goals = []; low = omega arith; run = refl; awaits = (refl, sym (ap (λ b. if b then [] else conjuncts s t) e)); sound = nothing_sound }

  pub starts_goals : (p : ℕ) → p < length ws → is_truth s (code_tree ws p) ≡ false → UnderWay s ws (body_goals s (code_tree ws p)) [] 0 (Goals p ∷ [])
  starts_goals p i e = record {
    stop = 0;
    goals = [];
    low = omega arith;
    run = refl;
    awaits = (i, (refl, append-nil (conjuncts s (code_tree ws p)) ∙ sym (ap (λ b. if b then [] else conjuncts s (code_tree ws p)) e)));
    sound = nothing_sound;
  }

  pub from_empty : (final : List (Tree ℕ)) (code : List Instruction) (at : ℕ) (q ts : List Task) → code ≡ [] → at ≡ 0 → q ≡ ts → UnderWay s ws final [] 0 (reverse ts) → UnderWay s ws final code at (reverse q)
  from_empty final code at q ts e1 e2 e3 u =
      subst (λ c. UnderWay s ws final c at (reverse q)) (sym e1) (subst (λ n. UnderWay s ws final [] n (reverse q)) (sym e2) (subst (λ x. UnderWay s ws final [] 0 (reverse x)) (sym e3) u))
