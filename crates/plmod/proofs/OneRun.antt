-- What the commands that run a goal give is one outcome.
use Rattle.std.proofs.Common.{◌≡◌, ℕ, List, ◌++◌, Option, Some, None, refl, sym, ap, ◌∙◌, subst}
use Rattle.unit_model.specs.Facts.{Facts}
use Rattle.unit_model.specs.Directives.{Text}
use Rattle.link_model.specs.Faults.{Fault, first_link}
use Rattle.link_model.specs.Texts.{Whole, prep_fault, link_fault, program}
use Rattle.needs_laws.specs.Wholes.{OneWhole}
use Rattle.prep_report.specs.Lines.{not_unit_text}
use Rattle.goal_runs.specs.Goals.{GoalsAreDecided}
use Rattle.goal_runs.specs.Runs.{run_over}
use Rattle.plmod.specs.declared.status.Status.TheVariants.{NotUnit, GoalFault}
use Rattle.plmod.specs.Outcome.{Outcome, told}
use Rattle.plmod.specs.Links.{link_lines}
use Rattle.plmod.specs.Growing.{grow_texts, grow_goal}
use Rattle.plmod.specs.Runs.{goal_line, ran, status_of, counted, GoalGives, no_goal, runs, LinkedGives, faulty_link, linked, RunGives, no_unit, units, AllGives, CountGives, no_count, counts, GrowGives}
use Rattle.plmod.proofs.Firsts.{same_units, same_first, no_first}
use Rattle.plmod.proofs.WholeGives.{WholeGives, InWhole, of_all, GrownGives, InGrown, of_grow}

module _ (decided : GoalsAreDecided) (one_whole : OneWhole) where
  pub one_of_goal : (us : List (Facts Text)) (budget : ℕ) (goal : List ℕ) (o p : Outcome) → GoalGives us budget goal o → GoalGives us budget goal p → o ≡ p
  one_of_goal us budget goal o p (no_goal n a h) (no_goal m b k) =
      let same = (decided goal).one_fault n m a b h k in
      ap (λ x. told (goal_line x a) GoalFault) same.0 ∙ ap (λ x. told (goal_line m x) GoalFault) same.1
  one_of_goal us budget goal o p (no_goal n a h) (runs t names k) = absurd ((decided goal).not_both t names n a k h)
  one_of_goal us budget goal o p (runs t names h) (no_goal n a k) = absurd ((decided goal).not_both t names n a h k)
  one_of_goal us budget goal o p (runs t ms h) (runs u ns k) =
      let same = (decided goal).one_goal t u ms ns h k in
      ap (λ x. ran ms (run_over us x budget)) same.0 ∙ ap (λ x. ran x (run_over us u budget)) same.1

  pub one_of_link : (names : List (List ℕ)) (us : List (Facts Text)) (budget : ℕ) (goal : List ℕ) (first : Option Fault) (o p : Outcome)
      → LinkedGives names us budget goal first o → LinkedGives names us budget goal first p → o ≡ p
  one_of_link names us budget goal None o p (linked _ g) (linked _ h) = one_of_goal us budget goal o p g h
  one_of_link names us budget goal (Some f) o p (faulty_link _) (faulty_link _) = refl

  -- over files that are to be units
  pub one_run : (names contents : List (List ℕ)) (budget : ℕ) (goal : List ℕ) (o p : Outcome) → RunGives names contents budget goal o → RunGives names contents budget goal p → o ≡ p
  one_run names contents budget goal o p (no_unit a first) (no_unit b other) = ap (λ s. told (not_unit_text s) NotUnit) (same_first names contents a b first other)
  one_run names contents budget goal o p (no_unit a first) (units us _ are h) = absurd (no_first names contents us a are first)
  one_run names contents budget goal o p (units us _ are h) (no_unit a first) = absurd (no_first names contents us a are first)
  one_run names contents budget goal o p (units us _ are g) (units vs _ more h) =
      let P : List (Facts Text) → Type 0 = λ l. LinkedGives names l budget goal (first_link l) p in
      one_of_link names us budget goal (first_link us) o p g (subst P (same_units contents vs us more are) h)

  one_of_whole : (names : List (List ℕ)) (budget : ℕ) (goal : List ℕ) (w : Whole) (o p : Outcome) → WholeGives names budget goal w o → WholeGives names budget goal w p → o ≡ p
  one_of_whole names budget goal (prep_fault n text byte) o p g h = g ∙ sym h
  one_of_whole names budget goal (link_fault f) o p g h = g ∙ sym h
  one_of_whole names budget goal (program us) o p g h = one_of_goal us budget goal o p g h

  -- over texts
  pub one_all : (names contents : List (List ℕ)) (budget : ℕ) (goal : List ℕ) (o p : Outcome) → AllGives names contents budget goal o → AllGives names contents budget goal p → o ≡ p
  one_all names contents budget goal o p g h =
      let a : InWhole names contents budget goal o = of_all names contents budget goal o g in
      let b : InWhole names contents budget goal p = of_all names contents budget goal p h in
      let P : Whole → Type 0 = λ w. WholeGives names budget goal w p in
      one_of_whole names budget goal a.whole o p a.gives (subst P (one_whole contents b.whole a.whole b.is a.is) b.gives)

  one_of_counts : (us : List (Facts Text)) (budget : ℕ) (o p : Outcome) → CountGives (link_lines us) us budget o → CountGives (link_lines us) us budget p → o ≡ p
  one_of_counts us budget o p (no_count n a h) (no_count m b k) =
      let same = (decided grow_goal).one_fault n m a b h k in
      ap (λ x. told (link_lines us ++ goal_line x a) GoalFault) same.0 ∙ ap (λ x. told (link_lines us ++ goal_line m x) GoalFault) same.1
  one_of_counts us budget o p (no_count n a h) (counts t names k) = absurd ((decided grow_goal).not_both t names n a k h)
  one_of_counts us budget o p (counts t names h) (no_count n a k) = absurd ((decided grow_goal).not_both t names n a h k)
  one_of_counts us budget o p (counts t ms h) (counts u ns k) =
      ap (λ x. told (counted us budget (run_over us x budget)) (status_of (run_over us x budget))) ((decided grow_goal).one_goal t u ms ns h k).0

  one_of_grown : (budget : ℕ) (w : Whole) (o p : Outcome) → GrownGives budget w o → GrownGives budget w p → o ≡ p
  one_of_grown budget (prep_fault n text byte) o p g h = g ∙ sym h
  one_of_grown budget (link_fault f) o p g h = g ∙ sym h
  one_of_grown budget (program us) o p g h = one_of_counts us budget o p g h

  -- over the texts of so many modules
  pub one_grown : (count budget : ℕ) (o p : Outcome) → GrowGives count budget o → GrowGives count budget p → o ≡ p
  one_grown count budget o p g h =
      let a : InGrown count budget o = of_grow count budget o g in
      let b : InGrown count budget p = of_grow count budget p h in
      let P : Whole → Type 0 = λ w. GrownGives budget w p in
      one_of_grown budget a.whole o p a.gives (subst P (one_whole (grow_texts count) b.whole a.whole b.is a.is) b.gives)
