-- What a move does whatever the number of steps left.
use Rattle.std.proofs.Common.{◌≡◌, ℕ, ◌+◌, ◌<◌, List, [], ◌∷◌, refl, ap, ◌∙◌, subst, arith, length, length-append}
use Rattle.goal_model.specs.Table.{shown}
use Rattle.goal_state.specs.Frames.{IsLinked}
use Rattle.goal_state.specs.Well.{IsCompiled}
use Rattle.goal_moves.specs.declared.standing.Stand.{Stand}
use Rattle.pl_machine.specs.declared.machine.Machine.{Machine}
use Rattle.pl_machine.specs.declared.moves.Part.TheVariants as P
use Rattle.pl_machine.specs.declared.moves.Progress.TheVariants as G
use Rattle.pl_machine.specs.Fronts.{IsFirst}
use Rattle.pl_machine.specs.Running.{Outcomes, Remains, with_left}
use Rattle.pl_machine.specs.Parts.{Acted}
use Rattle.pl_machine.specs.Further.{Does, Further, WentOne}
use Rattle.pl_machine.proofs.EndLaws.{ended_spent}
use Rattle.pl_machine.proofs.WentLaws.{one_after, gives_shown, gives_quiet}

-- an answer takes no step
pub further_answer : (old new : Machine) (before after : List ℕ) → new.left ≡ old.left
    → ((left : ℕ) → Does (Remains (with_left old left)) (with_left old left) (with_left new left) before after P.Shown) → Further old new before after G.Shown
further_answer old new before after same d =
    let D : (left : ℕ) → ℕ → Type 0 = λ left k. Does (Remains (with_left old k)) (with_left old k) (with_left new left) before after P.Shown in
    let at : (left : ℕ) → D left (0 + left) = λ left. let none : left ≡ 0 + left = omega arith in subst (D left) none (d left) in
    record {
      used = 0;
      taken = omega (arith, same);
      gives = λ left. ((at left).0, λ r h. ((at left).1 r h).went);
      one = λ left. (at left).1;
      fewer = λ left few r h. absurd (omega (arith, few));
    }

-- what is written is one event
shown_one : (bytes : List ℕ) → 0 < length bytes → length (shown {N = ℕ} bytes) ≡ 1
shown_one [] some = absurd (omega (arith, some))
shown_one (b ∷ bytes) some = refl

-- an activation takes one step
module _ (old mid new : Machine) (before text after : List ℕ) (stand : Stand)
    (d : (left : ℕ) → Does (Remains (with_left old left)) (with_left old left) (with_left mid left) before text (P.Waits stand))
    (a : (left : ℕ) → Acted (with_left mid (left + 1)) stand (with_left new left) text after)
    (compiled : IsCompiled mid.compiled) (linked : IsLinked mid.path.frames) (first : IsFirst mid.compiled mid.path stand)
    (same : mid.left ≡ old.left) (one : new.left + 1 ≡ mid.left) where
  acts : (left : ℕ) → Acted (with_left mid (1 + left)) stand (with_left new left) text after
  acts left = let next : left + 1 ≡ 1 + left = omega arith in subst (λ k. Acted (with_left mid k) stand (with_left new left) text after) next (a left)

  -- where no step is left, nothing more is shown
  none_shown : (left : ℕ) → left < 1 → (r : Outcomes) → Remains (with_left old left) r → r.events ≡ []
  none_shown left few r h =
      let none : left ≡ 0 = omega (arith, few) in
      (ended_spent (with_left mid left) mid.compiled mid.path r left stand compiled linked first refl none ((d left).1 r h)).events

  shows_one : length text < length after → (left : ℕ) (r : Outcomes) → Remains (with_left old (1 + left)) r → WentOne (with_left old (1 + left)) (with_left new left) before after r
  shows_one grew left r h =
      let m : Machine = with_left old (1 + left) in
      let l : Machine = with_left mid (1 + left) in
      let n : Machine = with_left new left in
      let act : Acted l stand n text after = acts left in
      let so = (d (1 + left)).1 r h in
      let some : 0 < length act.bytes = omega (arith, grew, ap length act.text, length-append text act.bytes) in
      one_after m l n before text after r (d (1 + left)).0 (record { went = act.went r so; one = ap length (act.shows r so) ∙ shown_one act.bytes some })

  pub further_shown : length text < length after → Further old new before after G.Shown
  further_shown grew = record {
    used = 1;
    taken = omega (arith, same, one);
    gives = λ left. gives_shown (with_left old (1 + left)) (with_left mid (1 + left)) (with_left new left) before text after stand (d (1 + left)) (acts left);
    one = shows_one grew;
    fewer = none_shown;
  }

  pub further_quiet : after ≡ text → Further old new before after G.Goal
  further_quiet quiet = record {
    used = 1;
    taken = omega (arith, same, one);
    gives = λ left. gives_quiet (with_left old (1 + left)) (with_left mid (1 + left)) (with_left new left) before text after stand (d (1 + left)) (acts left) quiet;
    one = λ left. tt;
    fewer = none_shown;
  }
