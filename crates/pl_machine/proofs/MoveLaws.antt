-- The parts of moves, by what the moves of a run promise.
use Rattle.std.proofs.Common.{◌≡◌, ℕ, suc, ◌+◌, ◌^◌, ◌<◌, List, [], ◌∷◌, ◌++◌, None, refl, sym, ap, ◌∙◌, subst, arith, length, map}
use Rattle.pl_terms.specs.Order.{texts_of}
use Rattle.pl_ops.specs.Standard.{standard}
use Rattle.pl_ops.specs.Tables.{operator}
use Rattle.solver_model.specs.Search.{Ans, At}
use Rattle.solver_model.specs.Configurations.{Configuration}
use Rattle.goal_model.specs.Table.{shown}
use Rattle.goal_state.specs.declared.compiled.CompiledProgram.{CompiledProgram}
use Rattle.goal_state.specs.declared.path.Path.{Path}
use Rattle.goal_state.specs.Denotation.{language_of, state_of, template_of, items_here, world_here, search_at}
use Rattle.goal_state.specs.Well.{IsWell}
use Rattle.goal_moves.specs.declared.going.Going.{Going}
use Rattle.goal_moves.specs.declared.going.Going.TheVariants.{On, Fails}
use Rattle.goal_moves.specs.declared.standing.Stand.{Stand}
use Rattle.goal_moves.specs.Moves.{Stays, Moved, Activated, answering}
use Rattle.pl_unify.specs.State.{Extends}
use Rattle.pl_machine.specs.declared.machine.Machine.{Machine}
use Rattle.pl_machine.specs.Shown.{answer_shown}
use Rattle.pl_machine.specs.Running.{Outcomes, Remains, Same, Went, stopped}
use Rattle.goal_moves.specs.Walking.{Walked}
use Rattle.pl_machine.specs.declared.moves.Part.TheVariants as P
use Rattle.pl_machine.specs.Fronts.{first_at}
use Rattle.pl_machine.specs.Machine.{IsWaiting}
use Rattle.pl_machine.specs.Parts.{IsSo, StandsSo, Searching, Answering, Awaits, Acted}
use Rattle.pl_machine.specs.Further.{WentOne}
use Rattle.pl_machine.proofs.EndLaws.{stays_so, Rest, stays_rest}
use Rattle.pl_machine.proofs.FrontLaws.{Placed, placed_walked, walked_so}
use Rattle.pl_machine.proofs.ShownLaws.{text-written, text-answer, answers-written}
use Rattle.pl_machine.proofs.AnswerLaws.{tells_answer}

-- how a machine's search goes on, by its field
pub remains_at : (m : Machine) (g : Going) (r : Outcomes) → m.going ≡ g → Remains m r → Stays m.compiled (λ x. IsSo m.compiled x r) m.path m.left g
remains_at m g r e h = subst (Stays m.compiled (λ x. IsSo m.compiled x r) m.path m.left) e h

pub remains_of : (m : Machine) (g : Going) (r : Outcomes) → m.going ≡ g → Stays m.compiled (λ x. IsSo m.compiled x r) m.path m.left g → Remains m r
remains_of m g r e h = subst (Stays m.compiled (λ x. IsSo m.compiled x r) m.path m.left) (sym e) h

-- ---- where a move led

pub moved_remains : (b : CompiledProgram) (old new : Path) (x : ℕ → Configuration (language_of b)) (left : ℕ) (g : Going) (r : Outcomes) → Moved b old new x g → IsSo b (x left) r → Stays b (λ y. IsSo b y r) new left g
moved_remains b old new x left g r m so = stays_so b (x left) new left g r so (m.goes left)

-- ---- an answer of the run

pub went_answer : (old new : Machine) (before after line : List ℕ) (r : Outcomes)
    → IsWell old.compiled old.path → old.path.template ≡ None → new.compiled ≡ old.compiled → new.path ≡ record old.path { store = new.path.store } → Extends (state_of old.path) (state_of new.path)
    → new.left ≡ old.left → new.going ≡ Fails → new.answers ≡ stopped (old.answers + 1) → after ≡ before ++ line
    → line ≡ answer_shown (operator standard) old.variables.items (map (texts_of old.compiled.names) (template_of (state_of old.path) old.path.width None))
    → Answering old r → WentOne old new before after r
went_answer old new before after line r well none compiled others more left going answers text is so =
    let b : CompiledProgram = old.compiled in
    let told = tells_answer b old.path new.path well none others more old.left in
    let rest : Rest b (Ans (template_of (state_of old.path) old.path.width None) ∷ []) new.path old.left Fails r =
    stays_rest b (Ans (template_of (state_of old.path) old.path.width None) ∷ []) (answering b old.path old.left) new.path old.left Fails r so told in
    let P : CompiledProgram → ℕ → Type 0 = λ l k. Stays l (λ y. IsSo l y rest.rest) new.path k Fails in
    let there : Stays b (λ y. IsSo b y rest.rest) new.path new.left Fails = subst (P b) (sym left) rest.stays in
    record {
      went = record {
        events = Ans (template_of (state_of old.path) old.path.width None) ∷ [];
        rest = rest.rest;
        remains = remains_of new Fails rest.rest going (subst (λ l. P l new.left) (sym compiled) there);
        all = rest.all;
        text = text ∙ ap (λ l. before ++ l) (is ∙ sym (text-answer old (template_of (state_of old.path) old.path.width None)));
        answers = answers;
      };
      one = refl;
    }

-- ---- a goal that was activated

pub acted_by : (old new : Machine) (stand : Stand) (p : Path) (x : ℕ → Configuration (language_of old.compiled)) (before after : List ℕ)
    → Same old new → old.answers < 2 ^ 64 → new.answers ≡ old.answers → new.left + 1 ≡ old.left → ((k : ℕ) → x k ≡ search_at old.compiled old.path (first_at old.compiled old.path stand) (suc k))
    → Activated old.compiled p new.path x before after new.going → Acted old stand new before after
acted_by old new stand p x before after same few answers one starts a = record {
  same = same;
  answers = answers;
  shows = λ r so. refl;
  bytes = a.bytes;
  text = a.text;
  went = λ r so.
      let b : CompiledProgram = old.compiled in
      let next : old.left ≡ suc new.left = omega (arith, one) in
      let here : IsSo b (x new.left) r = subst (λ y. IsSo b y r) (sym (starts new.left)) (subst (λ k. IsSo b (search_at b old.path (first_at b old.path stand) k) r) next so) in
      let rest : Rest b (shown a.bytes) new.path new.left new.going r = stays_rest b (shown a.bytes) (x new.left) new.path new.left new.going r here (a.goes new.left) in
      let P : CompiledProgram → Type 0 = λ l. Stays l (λ y. IsSo l y rest.rest) new.path new.left new.going in
      record {
        events = shown a.bytes;
        rest = rest.rest;
        remains = subst P (sym same.0) rest.stays;
        all = rest.all;
        text = a.text ∙ ap (λ l. before ++ l) (sym (text-written old a.bytes));
        answers = let none = ap length (answers-written a.bytes) in omega (arith, answers, few, none);
      };
}

-- how many records there were changes nothing
pub acted_noted : (old new : Machine) (stand : Stand) (before after : List ℕ) (peak : ℕ) → Acted old stand new before after → Acted old stand (record new { peak = peak }) before after
acted_noted old new stand before after peak a = record {
  same = a.same;
  answers = a.answers;
  shows = a.shows;
  bytes = a.bytes;
  text = a.text;
  went = λ r so.
      let w : Went old new before after r = a.went r so in
      record { events = w.events; rest = w.rest; remains = w.remains; all = w.all; text = w.text; answers = w.answers };
}

-- ---- a goal that stands first

-- what stands first where a part of a move waits is what the search has before it
pub waiting_remains : (m : Machine) (stand : Stand) (r : Outcomes) → IsWaiting m (P.Waits stand) → Awaits m stand r → Remains m r
waiting_remains m stand r w so = remains_of m On r w.0 (subst (λ point. StandsSo m point r) w.1.2 so)

pub remains_waiting : (m : Machine) (stand : Stand) (r : Outcomes) → IsWaiting m (P.Waits stand) → Remains m r → Awaits m stand r
remains_waiting m stand r w h = subst (λ point. StandsSo m point r) (sym w.1.2) (remains_at m On r w.0 h)

-- a search whose path went on, without a step
pub walked_remains : (m : Machine) (q : Path) (g : Going) (r : Outcomes) → g ≡ On → Walked m.compiled m.path q → Searching m r → Remains (record m { path = q; going = g }) r
walked_remains m q g r is w so = remains_of (record m { path = q; going = g }) On r is (walked_so m.compiled m.path q m.left r w so)

-- a search whose path stands elsewhere, before the same items
pub placed_remains : (m : Machine) (q : Path) → IsWell m.compiled m.path → Placed m.compiled m.path q → m.going ≡ On → (r : Outcomes) → Remains m r → Remains (record m { path = q }) r
placed_remains m q well h is r so = walked_remains m q m.going r is (placed_walked m.compiled m.path q well h) (remains_at m On r is so)

-- where nothing stands first, there is an answer
pub nothing_answers : (m : Machine) (r : Outcomes) → items_here m.compiled m.path m.path.f m.path.pc ≡ [] → Searching m r → Answering m r
nothing_answers m r none so = subst (λ items. StandsSo m (At (record { depth = m.path.depth; items = items; world = world_here m.compiled m.path })) r) none so
