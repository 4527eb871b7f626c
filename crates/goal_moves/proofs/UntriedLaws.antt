-- Whether there are more records than before.
use Rattle.std.proofs.Common.{◌≡◌, ℕ, suc, ◌+◌, ◌≤◌, List, [], ◌∷◌, ◌++◌, ◌∙◌, Bool, true, false, ap, arith, length, reverse, length-append, lt-ltb, le-ltb}
use Rattle.std.specs.Prelude.{nat_lt, if◌then◌else◌}
use Rattle.std.proofs.lemmas.List.{length-reverse}
use Rattle.goal_model.specs.Table.{Items}
use Rattle.goal_state.specs.declared.frames.Setting.{Setting}
use Rattle.goal_state.specs.declared.choice.Choice.{Choice}
use Rattle.goal_state.specs.declared.choice.ChoiceKind.{ChoiceKind}
use Rattle.goal_state.specs.declared.compiled.CompiledProgram.{CompiledProgram}
use Rattle.goal_state.specs.declared.path.Path.{Path}
use Rattle.goal_state.specs.Steps.{kept}
use Rattle.goal_moves.specs.declared.active.Rest.{Rest}
use Rattle.goal_moves.specs.Control.{Grew, OpenedHere}
use Rattle.goal_moves.specs.Moves.{Entered}
use Rattle.goal_moves.specs.Untried.{has_more, TakesOff}

pub no_more : (old new : Path) → length new.choices.items ≤ length old.choices.items → has_more old new ≡ false
no_more old new le = le-ltb (length old.choices.items) (length new.choices.items) le

pub one_more : (old new : Path) → length new.choices.items ≡ length old.choices.items + 1 → has_more old new ≡ true
one_more old new more = lt-ltb (length old.choices.items) (length new.choices.items) (omega (arith, more))

pub put_one : (old new : Path) (c : Choice) → new.choices.items ≡ old.choices.items ++ c ∷ [] → has_more old new ≡ true
put_one old new c h = one_more old new (ap length h ∙ length-append old.choices.items (c ∷ []))

pub same_records : (old new : Path) → new.choices ≡ old.choices → has_more old new ≡ false
same_records old new same = let e = ap (λ cs. length cs.items) same in no_more old new (omega (arith, e))

-- where a path has at most one record more, one is taken off
pub taken_off : (old p new : Path) → length p.choices.items ≤ suc (length old.choices.items) → TakesOff p new → has_more old new ≡ false
taken_off old p new le off = no_more old new (off (length old.choices.items) le)

pub same_taken_off : (old p new : Path) → p.choices ≡ old.choices → TakesOff p new → has_more old new ≡ false
same_taken_off old p new same off = let e = ap (λ cs. length cs.items) same in taken_off old p new (omega (arith, e)) off

-- ---- steps that leave the records as they are

pub grew_records : (p q : Path) → Grew p q → q.choices ≡ p.choices
grew_records p q g = ap (λ r. r.choices) g.others

pub entered_records : (b : CompiledProgram) (p q : Path) (rest at : Rest) (items : Items ℕ) → Entered b p q rest at items → q.choices ≡ p.choices
entered_records b p q rest at items h = ap (λ r. r.choices) h.others

-- ---- a record is opened

pub opened_length : (old p q new : Path) (kind : ChoiceKind) (parent ppc : ℕ) (setting : Setting) (depth : ℕ) → p.choices ≡ old.choices → OpenedHere p q kind parent ppc setting depth → new.choices ≡ q.choices
    → length new.choices.items ≡ length old.choices.items + 1
opened_length old p q new kind parent ppc setting depth before o after =
    let record_of : Choice = record { kind = kind; mark = o.mark; rest = o.opened.rest; depth = depth } in
    let e = ap (λ cs. length cs.items) after in
    let pushed = ap length o.opened.choices in
    let counted = length-append p.choices.items (record_of ∷ []) in
    let s = ap (λ cs. length cs.items) before in
    omega (arith, e, pushed, counted, s)

pub opened_more : (old p q new : Path) (kind : ChoiceKind) (parent ppc : ℕ) (setting : Setting) (depth : ℕ) → p.choices ≡ old.choices → OpenedHere p q kind parent ppc setting depth → new.choices ≡ q.choices → has_more old new ≡ true
opened_more old p q new kind parent ppc setting depth before o after = one_more old new (opened_length old p q new kind parent ppc setting depth before o after)

-- ---- records are cut

kept_or : (d : ℕ) (c : Choice) (cs : List Choice) (x : Bool) → length (kept d cs) ≤ length cs → length (if x then c ∷ cs else kept d cs) ≤ suc (length cs)
kept_or d c cs true le = omega arith
kept_or d c cs false le = omega (arith, le)

kept_fewer : (d : ℕ) (cs : List Choice) → length (kept d cs) ≤ length cs
kept_fewer d [] = omega arith
kept_fewer d (c ∷ cs) = kept_or d c cs (nat_lt c.depth d) (kept_fewer d cs)

pub cut_no_more : (old q : Path) (d : ℕ) → reverse q.choices.items ≡ kept d (reverse old.choices.items) → has_more old q ≡ false
cut_no_more old q d cut =
    let e = ap length cut in
    let le = kept_fewer d (reverse old.choices.items) in
    no_more old q (omega (arith, e, le, length-reverse q.choices.items, length-reverse old.choices.items))
