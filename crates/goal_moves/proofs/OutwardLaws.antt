-- A ball that goes outward, record by record.
use Rattle.std.proofs.Common.{◌≡◌, ℕ, suc, ◌≤◌, [], ◌∷◌, refl, sym, ap, ◌∙◌, subst, arith, length, reverse, Box, Vec, Global}
use Rattle.std.proofs.lemmas.List.{length-reverse}
use Rattle.pl_terms.specs.Trees.{Tree}
use Rattle.solver_model.specs.Search.{Over, Thrown, has, pops}
use Rattle.solver_model.specs.Configurations.{Configuration, Falling, Turns}
use Rattle.solver_model.proofs.TurnLaws.{turns_none, turns_then}
use Rattle.goal_state.specs.Frames.{items_of}
use Rattle.goal_state.specs.declared.choice.Choice.{Choice}
use Rattle.goal_state.specs.declared.compiled.CompiledProgram.{CompiledProgram}
use Rattle.goal_state.specs.declared.path.Path.{Path}
use Rattle.goal_state.specs.Denotation.{bodies, linked, language_of, state_of, frames_on, search_at}
use Rattle.goal_state.specs.Well.{Stand, IsWell, mark_of, collects}
use Rattle.goal_moves.specs.declared.active.Rest.{Rest}
use Rattle.goal_moves.specs.declared.going.Going.TheVariants.{On, Uncaught}
use Rattle.goal_moves.specs.Moves.{search_with, resumed, thrown, Moved}
use Rattle.goal_moves.specs.declared.raising.Passing.{Passing}
use Rattle.goal_moves.specs.declared.raising.Passing.TheVariants as P
use Rattle.goal_moves.specs.Throwing.{exits_here, Throws, Meets, Passed, Taken, Hands}
use Rattle.goal_moves.specs.Untried.{TakesOff}
use Rattle.goal_moves.proofs.RetryLaws.{popped_turns}

-- where a ball starts
pub throws_first : (b : CompiledProgram) (p : Path) (ball : Tree ℕ) (at : Rest) (left : ℕ) → Throws b (thrown b p ball (exits_here b p at) left) p ball at left
throws_first b p ball at left = record {
  active = exits_here b p at;
  agrees = λ k lt. refl;
  falls = λ s. s.0.1;
  goes = turns_none (language_of b) (thrown b p ball (exits_here b p at) left);
}

-- a record is taken off
pub meets_next : (b : CompiledProgram) (old mid : Path) (c : Choice) → reverse old.choices.items ≡ c ∷ reverse mid.choices.items → mid ≡ record old { choices = mid.choices } → (x : Configuration (language_of b)) (ball : Tree ℕ) (at : Rest) (left : ℕ) → Throws b x old ball at left → Meets b x mid c ball at left
meets_next b old mid c is others x ball at left t =
    let same : exits_here b old at ≡ exits_here b mid at = ap (λ (y : Path). pops (items_of (bodies b) (state_of y) y.frames at.f at.pc)) (sym others) in
    let deep : mid.depth ≡ old.depth = ap (λ (y : Path). y.depth) others in
    record {
      active = t.active;
      agrees = λ k lt. t.agrees k (omega (arith, lt, deep)) ∙ ap (λ l. has l k) same;
      falls = λ s. subst (Falling (language_of b)) same (t.falls s);
      goes = turns_then (language_of b) x (search_at b old (Over (Thrown ball t.active)) left) (resumed b mid c (Over (Thrown ball t.active)) left) t.goes (popped_turns b old mid c is others (Over (Thrown ball t.active)) left);
    }

-- what is kept while a ball goes outward from where it was thrown
pub record Outward (b : CompiledProgram) (first old : Path) (ball : Tree ℕ) (at : Rest) (x : ℕ → Configuration (language_of b)) : Type 0 where
  pub well : IsWell b old
  pub low : old.depth ≤ first.depth
  pub width : old.width ≡ first.width
  pub fewer : length old.choices.items ≤ length first.choices.items
  pub goes : (left : ℕ) → Throws b (x left) old ball at left

pub outward_first : (b : CompiledProgram) (p : Path) (ball : Tree ℕ) (at : Rest) → IsWell b p → Outward b p p ball at (thrown b p ball (exits_here b p at))
outward_first b p ball at w = record { well = w; low = omega arith; width = refl; fewer = omega arith; goes = throws_first b p ball at }

module _ (b : CompiledProgram) (first old mid new : Path) (c : Choice) (is : reverse old.choices.items ≡ c ∷ reverse mid.choices.items) (others : mid ≡ record old { choices = mid.choices }) (ball : Tree ℕ) (at : Rest) (x : ℕ → Configuration (language_of b)) (o : Outward b first old ball at x) where
  deep : mid.depth ≡ old.depth
  deep = ap (λ (y : Path). y.depth) others

  wide : mid.width ≡ old.width
  wide = ap (λ (y : Path). y.width) others

  -- the record that was taken off is one
  one : length old.choices.items ≡ suc (length mid.choices.items)
  one =
      let e = ap length is in
      let l = length-reverse old.choices.items in
      let r = length-reverse mid.choices.items in
      omega (arith, e, l, r)

  pub outward_on : (other : Tree ℕ) (next : Rest) → Passed b mid new c ball at other next → Outward b first new other next x
  outward_on other next h = record {
    well = h.well;
    low = omega (arith, h.low, deep, o.low);
    width = h.width ∙ wide ∙ o.width;
    fewer =
        let same : length new.choices.items ≡ length mid.choices.items = ap (λ cs. length cs.items) h.choices in
        let off = one in
        let le = o.fewer in
        omega (arith, same, off, le);
    goes = λ left. h.goes left (x left) (meets_next b old mid c is others (x left) ball at left (o.goes left));
  }

  pub moved_taken : Taken b mid new c ball at → Moved b first new x On
  moved_taken h = record {
    well = h.well;
    low = omega (arith, h.low, deep, o.low);
    width = h.width ∙ wide ∙ o.width;
    goes = λ left. h.goes left (x left) (meets_next b old mid c is others (x left) ball at left (o.goes left));
  }

  -- by what the record did with the ball
  pub took : (r : Passing) → r ≡ P.Takes → Hands b mid new c ball at r → Moved b first new x On
  took r e h = moved_taken (subst (Hands b mid new c ball at) e h)

  pub took_off : (r : Passing) → r ≡ P.Takes → Hands b mid new c ball at r → TakesOff first new
  took_off r e h = λ n few.
      let t : Taken b mid new c ball at = subst (Hands b mid new c ball at) e h in
      let same : length new.choices.items ≡ length mid.choices.items = ap (λ cs. length cs.items) t.choices in
      let off = one in
      let le = o.fewer in
      omega (arith, same, off, le, few)

  pub passed_on : (r : Passing) (next : Rest) → r ≡ P.Passes next → Hands b mid new c ball at r → Outward b first new ball next x
  passed_on r next e h = outward_on ball next (subst (Hands b mid new c ball at) e h)

  pub raised_on : (r : Passing) (other : Tree ℕ) (next : Rest) → r ≡ P.Raises other next → Hands b mid new c ball at r → Outward b first new other next x
  raised_on r other next e h = outward_on other next (subst (Hands b mid new c ball at) e h)

-- no record is left
pub moved_out : (b : CompiledProgram) (first old : Path) (v : Vec Choice Global) (ball : Box (Tree ℕ) Global) (at : Rest) (x : ℕ → Configuration (language_of b)) → v.items ≡ old.choices.items → v.items ≡ [] → Outward b first old ball.value at x → Moved b first (record old { choices = v }) x (Uncaught ball)
moved_out b first old v ball at x is none o = record {
  well = (let w = o.well in record { store = w.store; frames = w.frames; template = w.template; wide = w.wide; records = subst (λ l. Stand (linked b) old.width (state_of old) old.frames (length old.frames) old.depth (mark_of (state_of old)) (reverse l) old.template) (sym is) w.records; gathered = ap (λ l. collects (reverse l)) is ∙ w.gathered });
  low = o.low;
  width = o.width;
  goes = λ left. let t = o.goes left in (t.active, none, subst (λ l. Turns (language_of b) (x left) (search_with b old (Over (Thrown ball.value t.active)) (frames_on b old (reverse l)) left)) (sym is) t.goes);
}

pub none_left : (first old : Path) (v : Vec Choice Global) → v.items ≡ [] → TakesOff first (record old { choices = v })
none_left first old v none = λ n few. let e : length v.items ≡ 0 = ap length none in omega (arith, e)
