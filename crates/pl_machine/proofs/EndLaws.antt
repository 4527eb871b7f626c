-- What is known of a search that moves, and of one that has come to its end.
use Rattle.std.proofs.Common.{◌≡◌, ℕ, ℤ, List, [], ◌∷◌, refl, sym, ap, ◌∙◌, subst}
use Rattle.std.specs.Prelude.{reverse}
use Rattle.pl_terms.specs.Trees.{Tree}
use Rattle.solver_model.specs.Search.{Event, Item, Call, Failed, Thrown, Halted, Spent, At, Over, Language, OutcomeOf, FrameOf, prepend}
use Rattle.solver_model.specs.Configurations.{Configuration, Sane, value_of, Turns, Tells}
use Rattle.solver_model.proofs.TurnLaws.{stands, turn_halted, turn_spent, turn_spent_out, turns_then}
use Rattle.pl_store.specs.Runs.{program_of}
use Rattle.pl_unify.specs.State.{tree_at}
use Rattle.goal_code.specs.Runs.{next_of}
use Rattle.goal_state.specs.Frames.{IsLinked, env_of}
use Rattle.goal_state.specs.declared.compiled.CompiledProgram.{CompiledProgram}
use Rattle.goal_state.specs.declared.path.Path.{Path}
use Rattle.goal_state.specs.Denotation.{linked, language_of, state_of, items_here, world_here, frames_on, point_here, search_at}
use Rattle.goal_state.specs.Well.{IsCompiled}
use Rattle.goal_moves.specs.declared.going.Going.{Going}
use Rattle.goal_moves.specs.declared.going.Going.TheVariants.{On, Fails, Halts, Uncaught}
use Rattle.goal_moves.specs.declared.standing.Stand.{Stand}
use Rattle.goal_moves.specs.declared.standing.Stand.TheVariants as S
use Rattle.goal_moves.specs.Moves.{Stays}
use Rattle.goal_moves.proofs.CodeMoves.{first_goal, first_items}
use Rattle.goal_moves.proofs.PlainLaws.{stays_then}
use Rattle.prep_report.specs.declared.end.End2.TheVariants as E
use Rattle.pl_machine.specs.declared.machine.Machine.{Machine}
use Rattle.pl_machine.specs.Fronts.{IsFirst, first_at}
use Rattle.pl_machine.specs.Running.{Outcomes, Ended, end_of}
use Rattle.pl_machine.specs.Parts.{IsSo}

-- ---- moves

module _ (L : Language) (x y : Configuration L) (r : OutcomeOf L) where
  -- what is given stays the same over a move without events
  pub so_turned : Turns L x y → Sane L x × (value_of L x ≡ r) → Sane L y × (value_of L y ≡ r)
  so_turned t so = (t.sane so.0, t.value so.0 ∙ so.1)

  -- what is heard, and then what is given afterwards
  pub so_told : (events : List (Event L.Answer)) → Tells L events x y → Sane L x × (value_of L x ≡ r) → Sane L y × (r ≡ prepend L events (value_of L y))
  so_told events t so = (t.sane so.0, sym so.1 ∙ t.value so.0)

-- a path on which a search stays gives the same
pub stays_so : (b : CompiledProgram) (x : Configuration (language_of b)) (p : Path) (left : ℕ) (g : Going) (r : Outcomes) → IsSo b x r → Stays b (Turns (language_of b) x) p left g → Stays b (λ y. IsSo b y r) p left g
stays_so b x p left g r so h = stays_then b (Turns (language_of b) x) (λ y. IsSo b y r) p left g (λ y t. so_turned (language_of b) x y r t so) h

-- what a search gives after events
pub record Rest (b : CompiledProgram) (events : List (Event (List (Tree ℕ)))) (p : Path) (left : ℕ) (g : Going) (r : Outcomes) : Type 0 where
  pub rest : Outcomes
  pub stays : Stays b (λ y. IsSo b y rest) p left g
  pub all : r ≡ prepend (language_of b) events rest

pub stays_rest : (b : CompiledProgram) (events : List (Event (List (Tree ℕ)))) (x : Configuration (language_of b)) (p : Path) (left : ℕ) (g : Going) (r : Outcomes) → IsSo b x r → Stays b (Tells (language_of b) events x) p left g → Rest b events p left g r
stays_rest b events x p left On r so h =
    let y : Configuration (language_of b) = search_at b p (point_here b p) left in
    let told = so_told (language_of b) x y r events h so in
    record { rest = value_of (language_of b) y; stays = (told.0, refl); all = told.1 }
stays_rest b events x p left Fails r so h =
    let y : Configuration (language_of b) = search_at b p (Over Failed) left in
    let told = so_told (language_of b) x y r events h so in
    record { rest = value_of (language_of b) y; stays = (told.0, refl); all = told.1 }
stays_rest b events x p left (Halts z) r so h =
    let y : Configuration (language_of b) = search_at b p (Over (Halted z)) left in
    let told = so_told (language_of b) x y r events h so in
    record { rest = value_of (language_of b) y; stays = (told.0, refl); all = told.1 }
stays_rest b events x p left (Uncaught t) r so h =
    let y : Configuration (language_of b) = search_at b p (Over (Thrown t.value h.0)) left in
    let told = so_told (language_of b) x y r events h.2 so in
    record { rest = value_of (language_of b) y; stays = (h.0, h.1, (told.0, refl)); all = told.1 }

-- ---- ends

-- where a search stands that has ended with this, over no records
no_frames : (b : CompiledProgram) (p : Path) → p.choices.items ≡ [] → frames_on b p (reverse p.choices.items) ≡ []
no_frames b p e = ap (λ cs. frames_on b p (reverse cs)) e

module _ (m : Machine) (b : CompiledProgram) (p : Path) (r : Outcomes) where
  pub ended_failed : (left : ℕ) → m.left ≡ left → p.choices.items ≡ [] → IsSo b (search_at b p (Over Failed) left) r → Ended m E.Exhausted r
  ended_failed left same none so =
      let is : value_of (language_of b) (stands (language_of b) (Over Failed) left (program_of (linked b)).clauses []) ≡ r =
      ap (λ fs. value_of (language_of b) (stands (language_of b) (Over Failed) left (program_of (linked b)).clauses fs)) (sym (no_frames b p none)) ∙ so.1 in
      record { events = sym (ap (λ o. o.events) is); ended = ap (λ o. end_of o.ended) is; left = same ∙ ap (λ o. o.left) is }

  pub ended_thrown : (left : ℕ) (ball : Tree ℕ) (active : List ℕ) → m.left ≡ left → p.choices.items ≡ [] → IsSo b (search_at b p (Over (Thrown ball active)) left) r → Ended m (E.Uncaught ball) r
  ended_thrown left ball active same none so =
      let is : value_of (language_of b) (stands (language_of b) (Over (Thrown ball active)) left (program_of (linked b)).clauses []) ≡ r =
      ap (λ fs. value_of (language_of b) (stands (language_of b) (Over (Thrown ball active)) left (program_of (linked b)).clauses fs)) (sym (no_frames b p none)) ∙ so.1 in
      record { events = sym (ap (λ o. o.events) is); ended = ap (λ o. end_of o.ended) is; left = same ∙ ap (λ o. o.left) is }

  pub ended_halted : (left : ℕ) (z : ℤ) → m.left ≡ left → IsSo b (search_at b p (Over (Halted z)) left) r → Ended m (E.Halted z) r
  ended_halted left z same so =
      let fs : List (FrameOf (language_of b)) = frames_on b p (reverse p.choices.items) in
      let is : value_of (language_of b) (stands (language_of b) (Over (Halted z)) left (program_of (linked b)).clauses []) ≡ r =
      Turns.value (turn_halted (language_of b) z left (program_of (linked b)).clauses fs) so.0 ∙ so.1 in
      record { events = sym (ap (λ o. o.events) is); ended = ap (λ o. end_of o.ended) is; left = same ∙ ap (λ o. o.left) is }

  -- a goal where no step is left
  spent_call : (depth : ℕ) (g : _) (rest : List (Item (Language.Goal (language_of b)))) (w : _) → m.left ≡ 0 → IsSo b (search_at b p (At (record { depth = depth; items = Call g ∷ rest; world = w })) 0) r → Ended m E.Spent r
  spent_call depth g rest w same so =
      let fs : List (FrameOf (language_of b)) = frames_on b p (reverse p.choices.items) in
      let c = (program_of (linked b)).clauses in
      let x : Configuration (language_of b) = stands (language_of b) (At (record { depth = depth; items = Call g ∷ rest; world = w })) 0 c fs in
      let mid : Configuration (language_of b) = stands (language_of b) (Over Spent) 0 c fs in
      let out : Configuration (language_of b) = stands (language_of b) (Over Spent) 0 c [] in
      let t : Turns (language_of b) x out = turns_then (language_of b) x mid out (turn_spent (language_of b) depth w c g rest fs) (turn_spent_out (language_of b) 0 c fs) in
      let is : value_of (language_of b) out ≡ r = t.value so.0 ∙ so.1 in
      record { events = sym (ap (λ o. o.events) is); ended = ap (λ o. end_of o.ended) is; left = same ∙ ap (λ o. o.left) is }

  spent_first : (stand : Stand) → IsCompiled b → IsLinked p.frames → IsFirst b p stand → m.left ≡ 0 → IsSo b (search_at b p (first_at b p stand) 0) r → Ended m E.Spent r
  spent_first (S.Code c st) compiled linked first same so =
      let items = first_items b p c st first compiled linked in
      spent_call p.depth (first_goal b p c st first) (items_here b p p.f (next_of c)) (world_here b p) same (subst (λ i. IsSo b (search_at b p (At (record { depth = p.depth; items = i; world = world_here b p })) 0) r) items so)
  spent_first (S.Term goal st rest) compiled linked first same so =
      spent_call p.depth (record { tree = tree_at (state_of p) goal; env = env_of st; reach = st.depth }) (items_here b p rest.f rest.pc) (world_here b p) same so

  pub ended_spent : (left : ℕ) (stand : Stand) → IsCompiled b → IsLinked p.frames → IsFirst b p stand → m.left ≡ left → left ≡ 0 → IsSo b (search_at b p (first_at b p stand) left) r → Ended m E.Spent r
  ended_spent left stand compiled linked first same none so =
      spent_first stand compiled linked first (same ∙ none) (subst (λ k. IsSo b (search_at b p (first_at b p stand) k) r) none so)
