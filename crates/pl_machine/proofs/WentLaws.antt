-- Machines that went on, one move after the other.
use Rattle.std.proofs.Common.{◌≡◌, ℕ, ◌+◌, ◌^◌, ◌<◌, true, List, [], ◌++◌, refl, sym, ap, ◌∙◌, subst, arith, length, append_assoc, append-nil, length-append}
use Rattle.std.proofs.lemmas.List.{nil_from_length}
use Rattle.goal_state.specs.declared.path.Path.{Path}
use Rattle.solver_model.specs.Search.{answers_of}
use Rattle.goal_model.specs.Table.{shown}
use Rattle.goal_moves.specs.declared.standing.Stand.{Stand}
use Rattle.prep_report.specs.declared.end.End2.{End2}
use Rattle.pl_machine.specs.declared.machine.Machine.{Machine}
use Rattle.pl_machine.specs.declared.moves.Part.{Part}
use Rattle.pl_machine.specs.declared.moves.Part.TheVariants as P
use Rattle.pl_machine.specs.declared.moves.Progress.{Progress}
use Rattle.pl_machine.specs.declared.moves.Progress.TheVariants as G
use Rattle.goal_state.specs.Denotation.{point_here}
use Rattle.pl_machine.specs.Fronts.{first_at}
use Rattle.pl_machine.specs.Machine.{IsWaiting}
use Rattle.pl_machine.specs.Moving.{Activates, Stepped, Peaked, Stopped, noted, leaves_at, first_leaves}
use Rattle.pl_machine.specs.Running.{Outcomes, Remains, Same, Went, Goes, Gives, Ended, Ran, text_shown, stopped}
use Rattle.pl_machine.specs.Parts.{Kept, Did, Awaits, Acted}
use Rattle.pl_machine.specs.Further.{WentOne}
use Rattle.pl_machine.proofs.ShownLaws.{text-same}
use Rattle.pl_machine.proofs.MoveLaws.{waiting_remains, remains_waiting}

pub same_then : (a b c : Machine) → Same a b → Same b c → Same a c
same_then a b c s t = (t.0 ∙ s.0, t.1 ∙ s.1, t.2 ∙ s.2)

pub kept_none : (m : Machine) (text : List ℕ) → Kept m m text text
kept_none m text = record { text = refl; same = (refl, refl, refl); answers = refl }

pub kept_then : (a b c : Machine) (t u v : List ℕ) → Kept a b t u → Kept b c u v → Kept a c t v
kept_then a b c t u v k l = record { text = l.text ∙ k.text; same = same_then a b c k.same l.same; answers = l.answers ∙ k.answers }

-- what one part keeps after another
pub others_then : (a b c : Machine) → b ≡ record a { path = b.path; going = b.going; answers = b.answers } → c ≡ record b { path = c.path; going = c.going; answers = c.answers } → c ≡ record a { path = c.path; going = c.going; answers = c.answers }
others_then a b c h k = k ∙ ap (λ (m : Machine). record m { path = c.path; going = c.going; answers = c.answers }) h

-- nothing was shown, and the same is left
pub went_none : (old new : Machine) (before after : List ℕ) (r : Outcomes) → old.answers < 2 ^ 64 → Kept old new before after → Remains new r → Went old new before after r
went_none old new before after r few k remains = record {
  events = [];
  rest = r;
  remains = remains;
  all = refl;
  text = k.text ∙ sym (append-nil before);
  answers = let same = k.answers in omega (arith, same, few);
}

-- after what showed nothing
pub went_after : (a b c : Machine) (t u v : List ℕ) (r : Outcomes) → Kept a b t u → Went b c u v r → Went a c t v r
went_after a b c t u v r k w = record {
  events = w.events;
  rest = w.rest;
  remains = w.remains;
  all = w.all;
  text = w.text ∙ ap (λ l. l ++ text_shown b w.events) k.text ∙ ap (λ l. t ++ l) (text-same a b w.events k.same);
  answers = w.answers ∙ ap (λ n. stopped (n + length (answers_of w.events))) k.answers;
}

-- the same where one event was shown
pub one_after : (a b c : Machine) (t u v : List ℕ) (r : Outcomes) → Kept a b t u → WentOne b c u v r → WentOne a c t v r
unfolding went_after
one_after a b c t u v r k w = record { went = went_after a b c t u v r k w.went; one = w.one }

-- one part after others that showed nothing
pub did_then : (X Y : Outcomes → Type 0) (a b c : Machine) (t u v : List ℕ) (part : Part) → Kept a b t u → ((r : Outcomes) → X r → Y r) → Did Y b c u v part → Did X a c t v part
did_then X Y a b c t u v P.Shown k f d = (same_then a b c k.same d.0, λ r x. went_after a b c t u v r k (d.1 r (f r x)))
did_then X Y a b c t u v P.Quiet k f d = (kept_then a b c t u v k d.0, λ r x. d.1 r (f r x))
did_then X Y a b c t u v (P.Waits stand) k f d = (kept_then a b c t u v k d.0, λ r x. d.1 r (f r x))
did_then X Y a b c t u v (P.Ended e) k f d = (kept_then a b c t u v k d.0, λ r x. d.1 r (f r x))

-- ---- moves

pub gives_goal : (old new : Machine) (before after : List ℕ) → old.answers < 2 ^ 64 → Did (Remains old) old new before after P.Quiet → Gives old new before after G.Goal
gives_goal old new before after few d = (d.0.text, (d.0.same, λ r x. went_none old new before after r few d.0 (d.1 r x)))

pub gives_ended : (old new : Machine) (before after : List ℕ) (e : End2) → Did (Remains old) old new before after (P.Ended e) → Gives old new before after (G.Ended e)
gives_ended old new before after e d = (d.0.text, d.0.same, d.0.answers, d.1)

module _ (old mid new : Machine) (before text after : List ℕ) (stand : Stand) (d : Did (Remains old) old mid before text (P.Waits stand)) (a : Acted mid stand new text after) where
  goes_acted : Goes old new before after
  goes_acted = (same_then old mid new d.0.same a.same, λ r x. went_after old mid new before text after r d.0 (a.went r (d.1 r x)))

  pub gives_shown : Gives old new before after G.Shown
  gives_shown = goes_acted

  pub gives_quiet : after ≡ text → Gives old new before after G.Goal
  gives_quiet e = (e ∙ d.0.text, goes_acted)

-- what is shown is put after other bytes
went_behind : (old new : Machine) (front before after : List ℕ) (r : Outcomes) → Went old new before after r → Went old new (front ++ before) (front ++ after) r
went_behind old new front before after r w = record {
  events = w.events;
  rest = w.rest;
  remains = w.remains;
  all = w.all;
  text = ap (λ l. front ++ l) w.text ∙ sym (append_assoc front before (text_shown old w.events));
  answers = w.answers;
}

pub gives_behind : (old new : Machine) (front shown after : List ℕ) (p : Progress) → after ≡ front ++ shown → Gives old new [] shown p → Gives old new front after p
gives_behind old new front shown after p e g =
    subst (λ l. Gives old new l after p) (append-nil front) (subst (λ l. Gives old new (front ++ []) l p) (sym e) (behind p g))
  where
    behind : (p : Progress) → Gives old new [] shown p → Gives old new (front ++ []) (front ++ shown) p
    behind G.Goal g = (ap (λ l. front ++ l) g.0, (g.1.0, λ r x. went_behind old new front [] shown r (g.1.1 r x)))
    behind G.Shown g = (g.0, λ r x. went_behind old new front [] shown r (g.1 r x))
    behind (G.Ended e) g = (ap (λ l. front ++ l) g.0, g.1, g.2, g.3)

-- ---- goals that stand first

-- nothing was shown, and a goal stands first
pub gives_waiting : (old new : Machine) (before after : List ℕ) (stand : Stand) → old.answers < 2 ^ 64 → IsWaiting new (P.Waits stand) → Did (Remains old) old new before after (P.Waits stand) → Gives old new before after G.Goal
gives_waiting old new before after stand few waits d = gives_goal old new before after few (d.0, λ r x. waiting_remains new stand r waits (d.1 r x))

-- what comes after parts that showed nothing
pub gives_after : (a b c : Machine) (t u v : List ℕ) (p : Progress) → Kept a b t u → ((r : Outcomes) → Remains a r → Remains b r) → Gives b c u v p → Gives a c t v p
gives_after a b c t u v G.Goal k f g = (g.0 ∙ k.text, (same_then a b c k.same g.1.0, λ r x. went_after a b c t u v r k (g.1.1 r (f r x))))
gives_after a b c t u v G.Shown k f g = (same_then a b c k.same g.0, λ r x. went_after a b c t u v r k (g.1 r (f r x)))
gives_after a b c t u v (G.Ended e) k f g = (g.0 ∙ k.text, same_then a b c k.same g.1, g.2 ∙ k.answers, λ r x. g.3 r (f r x))

-- an activation that showed nothing
module _ (old new : Machine) (stand : Stand) (before after : List ℕ) (a : Acted old stand new before after) (quiet : after ≡ before) where
  no_bytes : a.bytes ≡ []
  no_bytes = nil_from_length a.bytes (omega (arith, ap length (sym quiet ∙ a.text), length-append before a.bytes))

  pub quiet_kept : Kept old new before after
  quiet_kept = record { text = quiet; same = a.same; answers = a.answers }

  pub quiet_remains : (r : Outcomes) → Awaits old stand r → Remains new r
  quiet_remains r so =
      let w : Went old new before after r = a.went r so in
      let none : w.events ≡ [] = a.shows r so ∙ ap shown no_bytes in
      let is : r ≡ w.rest = w.all ∙ ap (λ l. let all : Outcomes = record { events = l ++ w.rest.events; left = w.rest.left; clauses = w.rest.clauses; ended = w.rest.ended } in all) none in
      subst (Remains new) (sym is) w.remains

-- a machine that has ended gives the same
pub gives_over : (old new : Machine) (before after : List ℕ) (e : End2) → Gives old new before after (G.Ended e) → Gives old (record new { over = true }) before after (G.Ended e)
gives_over old new before after e g = (g.0, g.1, g.2, λ r h. let d : Ended new e r = g.3 r h in record { events = d.events; ended = d.ended; left = d.left })

pub ran_over : (old new : Machine) (e : End2) (r : Outcomes) → Ran old new e r → Ran old (record new { over = true }) e r
ran_over old new e r h = record { same = h.same; ended = h.ended; left = h.left; answers = h.answers }

-- ---- steps

pub stepped_one : (old new : Machine) → Activates old → new.left + 1 ≡ old.left → Stepped old new
stepped_one old new a one = record { activated = λ h. one; none = λ h. absurd (h a) }

pub stepped_none : (old new : Machine) → (Activates old → ⊥) → new.left ≡ old.left → Stepped old new
stepped_none old new n same = record { activated = λ h. absurd (n h); none = λ h. same }

pub stepped_from : (old mid new : Machine) → mid.left ≡ old.left → (Activates old → Activates mid) → (Activates mid → Activates old) → Stepped mid new → Stepped old new
stepped_from old mid new same there back s = record { activated = λ h. s.activated (there h) ∙ same; none = λ h. s.none (λ m. h (back m)) ∙ same }

-- what stands first is noted by the place before it
pub first_noted : (m : Machine) (stand : Stand) (peak : ℕ) → first_at m.compiled m.path stand ≡ point_here m.compiled m.path
    → peak ≡ noted m.peak (length m.path.choices.items) (leaves_at m (first_at m.compiled m.path stand)) → peak ≡ noted m.peak (length m.path.choices.items) (first_leaves m)
first_noted m stand peak at e = e ∙ ap (λ x. noted m.peak (length m.path.choices.items) (leaves_at m x)) at

pub peaked_one : (old new : Machine) → Activates old → new.peak ≡ noted old.peak (length old.path.choices.items) (first_leaves old) → Peaked old new
peaked_one old new a more = record { activated = λ h. more; none = λ h. absurd (h a) }

pub peaked_none : (old new : Machine) → (Activates old → ⊥) → new.peak ≡ old.peak → Peaked old new
peaked_none old new n same = record { activated = λ h. absurd (n h); none = λ h. same }

pub peaked_from : (old mid new : Machine) → mid.peak ≡ old.peak → length mid.path.choices.items ≡ length old.path.choices.items → first_leaves mid ≡ first_leaves old → (Activates old → Activates mid) → (Activates mid → Activates old) → Peaked mid new → Peaked old new
peaked_from old mid new same records leaves there back s = record {
  activated = λ h. s.activated (there h) ∙ ap (λ p. noted p (length mid.path.choices.items) (first_leaves mid)) same ∙ ap (λ k. noted old.peak k (first_leaves mid)) records ∙ ap (noted old.peak (length old.path.choices.items)) leaves;
  none = λ h. s.none (λ m. h (back m)) ∙ same;
}

-- ---- what stands after a move

pub stopped_behind : (new : Machine) (front shown after : List ℕ) (p : Progress) → after ≡ front ++ shown → Stopped new [] shown p → Stopped new front after p
stopped_behind new front shown after G.Goal e s = s
stopped_behind new front shown after G.Shown e s = (omega (arith, s.0, ap length e, length-append front shown), s.1)
stopped_behind new front shown after (G.Ended k) e s = s

-- after parts that showed nothing
pub stopped_after : (new : Machine) (t u v : List ℕ) (p : Progress) → u ≡ t → Stopped new u v p → Stopped new t v p
stopped_after new t u v p e s = subst (λ l. Stopped new l v p) e s

-- a move that shows what its goal writes
pub gives_acted : (old new : Machine) (before after : List ℕ) (stand : Stand) → IsWaiting old (P.Waits stand) → Acted old stand new before after → Gives old new before after G.Shown
gives_acted old new before after stand waits a = (a.same, λ r h. a.went r (remains_waiting old stand r waits h))

-- what a move keeps that takes no step
pub quiet_others : (m n : Machine) → n ≡ record m { path = n.path; going = n.going; answers = n.answers } → n ≡ record m { path = n.path; going = n.going; answers = n.answers; over = n.over }
quiet_others m n h = h ∙ ap (λ o. record m { path = n.path; going = n.going; answers = n.answers; over = o }) (sym (ap (λ (x : Machine). x.over) h))

pub over_others : (m n : Machine) → n ≡ record m { path = n.path; going = n.going; answers = n.answers } → record n { over = true } ≡ record m { path = n.path; going = n.going; answers = n.answers; over = true }
over_others m n h = ap (λ (x : Machine). record x { over = true }) h

module _ (a b c : Machine) (h : c ≡ record b { path = c.path; going = c.going; answers = c.answers; over = c.over }) where
  pub quiet_left : b.left + 1 ≡ a.left → c.left + 1 ≡ a.left
  quiet_left e = ap (λ (x : Machine). x.left + 1) h ∙ e

  pub quiet_peak : (most : ℕ) → b.peak ≡ most → c.peak ≡ most
  quiet_peak most e = ap (λ (x : Machine). x.peak) h ∙ e

-- the path alone is another
pub placed_kept : (m n : Machine) (q : Path) (text : List ℕ) → n ≡ record m { path = q } → Kept m n text text
placed_kept m n q text h = record {
  text = refl;
  same = (ap (λ (x : Machine). x.compiled) h, ap (λ (x : Machine). x.variables) h, ap (λ (x : Machine). x.budget) h);
  answers = ap (λ (x : Machine). x.answers) h;
}
