-- Control constructs that run from the instructions of a clause's body.
use Rattle.std.proofs.Common.{◌≡◌, ℕ, ◌+◌, ◌-◌, ◌≤◌, List, [], ◌∷◌, ◌++◌, Option, Some, None, refl, sym, ap, ◌∙◌, subst, arith, length, reverse}
use Rattle.std.specs.Prelude.{Bool, true, false}
use Rattle.pl_terms.specs.Trees.{Tree}
use Rattle.pl_unify.specs.declared.code.CodeWord.{CodeWord}
use Rattle.pl_unify.specs.Code.{code_tree}
use Rattle.pl_unify.specs.State.{bound}
use Rattle.solver_model.specs.Search.{Call, Cut, FrameOf, Tries}
use Rattle.goal_model.specs.Bodies.{Goal, flat}
use Rattle.goal_model.specs.Rows.{Row, commit, if_then_else as if_then_else_row, if_then as if_then_row, either, row_of}
use Rattle.goal_model.specs.Table.{Items, node as node_of, on}
use Rattle.goal_code.specs.declared.instruction.Instruction.{Instruction}
use Rattle.goal_code.specs.declared.instruction.Instruction.TheVariants as I
use Rattle.goal_code.specs.declared.shape.ControlNames.{ControlNames}
use Rattle.goal_code.specs.Denotation.{AreControlNames}
use Rattle.goal_code.specs.Shapes.{Shape, disjunction, if_then_else, if_then, cut, shape_of, conjuncts}
use Rattle.goal_code.specs.Runs.{instruction_at, goal_of, next_of, Runs, EndsIf, HasParts, IsSound}
use Rattle.goal_code.specs.Settled.{is_settled, standing, IsRow, PartsSettled}
use Rattle.goal_code.specs.Continuations.{Running, items_from}
use Rattle.goal_code.proofs.ContinuationLaws.{items_follow, runs_come_first}
use Rattle.goal_code.proofs.SettledLaws.{rows_stay, goals_stay}
use Rattle.goal_constructs.proofs.NameLaws.{control_names}
use Rattle.goal_state.specs.declared.frames.Setting.{Setting}
use Rattle.goal_state.specs.declared.frames.Part.TheVariants as P
use Rattle.goal_state.specs.Frames.{env_of, running, IsLinked}
use Rattle.goal_state.proofs.FrameLaws.{frames_read}
use Rattle.goal_state.specs.declared.choice.ChoiceKind.TheVariants.{Branch}
use Rattle.goal_state.specs.declared.compiled.CompiledProgram.{CompiledProgram}
use Rattle.goal_state.specs.declared.path.Path.{Path}
use Rattle.goal_state.specs.Denotation.{naming, bodies, language_of, state_of, answers_of, items_here, world_here}
use Rattle.goal_state.specs.Well.{IsCompiled, IsWellWith, floor_of}
use Rattle.goal_state.specs.Steps.{link_to, kept, template_kept, answers_kept}
use Rattle.goal_state.proofs.PathLaws.{put_within}
use Rattle.goal_moves.specs.declared.going.Going.TheVariants.{On}
use Rattle.goal_moves.specs.Branching.{condition_from}
use Rattle.goal_moves.specs.Control.{OpenedHere}
use Rattle.goal_moves.specs.Moves.{called, IsCode, Moved, Entered, here}
use Rattle.goal_moves.specs.Untried.{has_more, Leaves}
use Rattle.goal_moves.proofs.Steady.{Steady, floor_fits, steady_here, steady_entered, steady_branch, steady_at, opened_place, opened_state}
use Rattle.goal_moves.proofs.CutMoves.{moved_cut}
use Rattle.goal_moves.proofs.Turning.{stack_of, goal_does, goal_done_by, goal_acts, goal_goes_one, goal_goes_two, goal_moved_on}
use Rattle.goal_moves.proofs.UntriedRows.{leaves_of, leaves_goal}
use Rattle.goal_moves.proofs.CodeMoves.{code_sound, code_settled, code_base, first_goal, first_items}

-- an end of a condition, which leads to the goals of a term
pub record Ends (s : ControlNames) (ws : List CodeWord) (code : List Instruction) (stop m : ℕ) (t : Tree ℕ) : Type 0 where
  behind : ℕ
  is : instruction_at code m ≡ Some (I.EndIf behind)
  run : Runs s ws code stop behind t

ends : (s : ControlNames) (ws : List CodeWord) (code : List Instruction) (stop m : ℕ) (t : Tree ℕ) → EndsIf s ws code stop t (instruction_at code m) → Ends s ws code stop m t
ends s ws code stop m t h = go (instruction_at code m) refl h
  where
    go : (o : Option Instruction) → instruction_at code m ≡ o → EndsIf s ws code stop t o → Ends s ws code stop m t
    go (Some (I.EndIf n)) e i = record { behind = n; is = e; run = i }
    go o e i = absurd i

-- an instruction stands first on a path
module _ (b : CompiledProgram) (lib : IsCompiled b) (p : Path) (c : Instruction) (st : Setting) (code : IsCode b p c st) (chained : IsLinked p.frames) where
  abbrev names : ControlNames
  names = b.constructs.names.control

  abbrev words : List CodeWord
  words = (bodies b st.clause).words

  abbrev instructions : List Instruction
  instructions = (bodies b st.clause).code

  -- a term of the clause, as it stands on the path
  abbrev up : Tree ℕ → Tree ℕ
  up t = standing (bound (state_of p)) st.base t

  abbrev calls_of : ℕ → Tree ℕ → Items ℕ
  calls_of depth t = flat (naming b) (up t) (env_of st) depth

  abbrev around : ℕ → Items ℕ
  around pc = items_here b p p.f pc

  are : AreControlNames (naming b) names
  are = control_names (naming b) b.constructs lib.constructs

  sound : IsSound names words instructions
  sound = code_sound b p c st code lib

  abbrev first_tree : Tree ℕ
  first_tree = code_tree words (goal_of c)

  first_settled : is_settled names first_tree ≡ true
  first_settled = code_settled b p c st code lib p.pc c code.code code.goal

  first_parts : HasParts names words instructions c (shape_of names first_tree)
  first_parts = ((sound p.pc c code.code).1 code.goal).1

  first_row : IsRow up (shape_of names first_tree) (row_of (naming b) (up first_tree)) × PartsSettled names (shape_of names first_tree)
  first_row = rows_stay (naming b) names are first_tree first_settled (bound (state_of p)) st.base

  -- the goals of a part come before what stands where it leads
  part_items : (depth : ℕ) (after : Items ℕ) (outer : ℕ → Items ℕ) (stop pc : ℕ) (t : Tree ℕ) → is_settled names t ≡ true → Runs names words instructions stop pc t
      → items_from (running (bodies b) (state_of p) (record st { depth = depth })) after outer pc
      ≡ calls_of depth t ++ items_from (running (bodies b) (state_of p) (record st { depth = depth })) after outer stop
  part_items depth after outer stop pc t settled run =
      let r : Running = running (bodies b) (state_of p) (record st { depth = depth }) in
      runs_come_first r names after outer stop pc (conjuncts names t) sound run
      ∙ ap (λ l. l ++ items_from r after outer stop) (sym (goals_stay (naming b) names are t settled (bound (state_of p)) st.base (env_of st) depth))

  read_from : (pc : ℕ) → around pc ≡ items_from (running (bodies b) (state_of p) st) (items_here b p code.parent code.ppc) (items_here b p code.parent) pc
  read_from pc = frames_read (bodies b) (state_of p) p.frames p.f pc (record { parent = code.parent; ppc = code.ppc; part = P.Body; setting = st }) chained code.frame

  side_items : (stop pc : ℕ) (t : Tree ℕ) → is_settled names t ≡ true → Runs names words instructions stop pc t → around pc ≡ calls_of st.depth t ++ around stop
  side_items stop pc t settled run =
      read_from pc
      ∙ part_items st.depth (items_here b p code.parent code.ppc) (items_here b p code.parent) stop pc t settled run
      ∙ ap (λ l. calls_of st.depth t ++ l) (sym (read_from stop))

  -- a condition, the cut at its end, and the goals behind the arrow
  abbrev chosen : ℕ → Tree ℕ → Tree ℕ → Items ℕ → Items ℕ
  chosen node x y after = calls_of (node + 1) x ++ (Cut node ∷ (calls_of st.depth y ++ after))

  chosen_items : (node stop m n : ℕ) (x y : Tree ℕ) → is_settled names x ≡ true → is_settled names y ≡ true → Runs names words instructions m n x → Ends names words instructions stop m y
      → condition_from (bodies b) (state_of p) st (node + 1) around stop n ≡ chosen node x y (around stop)
  chosen_items node stop m n x y hx hy run e =
      let r : Running = running (bodies b) (state_of p) (record st { depth = node + 1 }) in
      let low : (node + 1) - 1 ≡ node = omega arith in
      part_items (node + 1) (around stop) around m n x hx run
      ∙ ap (λ l. calls_of (node + 1) x ++ l)
      (items_follow r names (around stop) around m (I.EndIf e.behind) sound e.is
      ∙ ap (λ k. Cut k ∷ around e.behind) low
      ∙ ap (λ l. Cut node ∷ l) (side_items stop e.behind y hy e.run))

  -- what the instruction is moved from
  abbrev from : Items ℕ
  from = Call (first_goal b p c st code) ∷ around (next_of c)

  stands : (node : ℕ) (new : Path) → Moved b p new (called b p node from) On → Moved b p new (called b p node (items_here b p p.f p.pc)) On
  stands node new m = subst (λ l. Moved b p new (called b p node l) On) (sym (first_items b p c st code lib chained)) m

  -- what the instruction leaves untried, where the row of its goal is known
  leaves_from : (node : ℕ) (new : Path) (r : Row ℕ) (x : Bool) → row_of (naming b) (first_goal b p c st code).tree ≡ r → leaves_of b (goal_done_by b p node (first_goal b p c st code) (around (next_of c)) r) ≡ x → has_more p new ≡ x
      → Leaves b p new (called b p node (items_here b p p.f p.pc))
  leaves_from node new r x is says more =
      subst (λ l. Leaves b p new (called b p node l)) (sym (first_items b p c st code lib chained)) (leaves_goal b p new node (first_goal b p c st code) (around (next_of c)) r x is says more)

  module _ (node : ℕ) (well : IsWellWith b p (reverse p.choices.items) node) (deep : p.depth ≡ node + 1) where
    -- ---- a record of another part, which goes on at a place of the same frame

    module _ (q : Path) (other : ℕ) (o : OpenedHere p q Branch p.f other st node) where
      abbrev front : FrameOf (language_of b)
      front = Tries node (on node (world_here b p) (around other) ∷ [])

      pub opened_steady : Steady b p q (node + 1) (front ∷ stack_of b p)
      opened_steady = steady_branch b p p q p.f other st node (stack_of b p) (around other) o (code_base b p c st code node well) (steady_here b p node well) refl

      pub opened_f : q.f ≡ p.f
      opened_f = ap (λ r. r.f) o.opened.others

      pub opened_around : (pc : ℕ) → items_here b q q.f pc ≡ around pc
      opened_around pc = ap (λ f. items_here b q f pc) opened_f ∙ opened_place b p q Branch p.f other st node o p.f pc (omega arith)

      pub opened_within : q.f ≤ length q.frames
      opened_within =
          let within = put_within b p (record p { frames = q.frames }) (link_to p.f other st) o.opened.rest o.opened.put in
          omega (arith, within.0, opened_f)

      pub opened_floor : floor_of (reverse q.choices.items) ≤ length q.frames
      opened_floor = floor_fits b q (node + 1) opened_steady.well

      pub opened_base : st.base ≤ (state_of q).next
      opened_base = let le = code_base b p c st code node well in let same = opened_steady.next in omega (arith, le, same)

      pub moved_two : (new : Path) (items rest : Items ℕ) → Steady b p new (node + 1) (front ∷ stack_of b p) → items_here b new new.f new.pc ≡ items
          → goal_does b p node (first_goal b p c st code) (around (next_of c)) ≡ node_of node (on node (world_here b p) items ∷ on node (world_here b p) rest ∷ [])
          → around other ≡ rest → Moved b p new (called b p node (items_here b p p.f p.pc)) On
      moved_two new items rest s is does same =
          stands node new
          (goal_moved_on b p node (first_goal b p c st code) (around (next_of c)) new (node + 1) (front ∷ stack_of b p) items deep s (omega arith) is
          (goal_goes_two b p node (first_goal b p c st code) (around (next_of c)) items (around other)
          (does ∙ ap (λ l. node_of node (on node (world_here b p) items ∷ on node (world_here b p) l ∷ [])) (sym same))))

  -- ---- the frame of a condition

  module _ (q new : Path) (node stop n : ℕ) (same_state : state_of q ≡ state_of p) (same : (pc : ℕ) → items_here b q q.f pc ≡ around pc) (depth : q.depth ≡ node + 1)
      (h : Entered b q new (record { f = q.f; pc = stop }) (here new) (condition_from (bodies b) (state_of q) st q.depth (items_here b q q.f) stop n)) where
    pub entered_chosen : (m : ℕ) (x y : Tree ℕ) → is_settled names x ≡ true → is_settled names y ≡ true → Runs names words instructions m n x → Ends names words instructions stop m y
        → items_here b new new.f new.pc ≡ chosen node x y (around stop)
    entered_chosen m x y hx hy run e =
        h.goes
        ∙ (λ i. condition_from (bodies b) (same_state i) st (depth i) (λ pc. same pc i) stop n)
        ∙ chosen_items node stop m n x y hx hy run e

-- ---- the constructs

-- a cut stands first
cut_row : (b : CompiledProgram) (lib : IsCompiled b) (p : Path) (g n : ℕ) (st : Setting) (code : IsCode b p (I.Cut g n) st) → IsLinked p.frames → row_of (naming b) (first_goal b p (I.Cut g n) st code).tree ≡ commit
cut_row b lib p g n st code chained = go (shape_of b.constructs.names.control (first_tree b lib p (I.Cut g n) st code chained)) (first_parts b lib p (I.Cut g n) st code chained) (first_row b lib p (I.Cut g n) st code chained).0
  where
    go : (x : Shape) → HasParts b.constructs.names.control (bodies b st.clause).words (bodies b st.clause).code (I.Cut g n) x
        → IsRow (up b lib p (I.Cut g n) st code chained) x (row_of (naming b) (first_goal b p (I.Cut g n) st code).tree) → row_of (naming b) (first_goal b p (I.Cut g n) st code).tree ≡ commit
    go cut h r = r
    go x h r = absurd h

pub moved_cut_from : (b : CompiledProgram) (lib : IsCompiled b) (p : Path) (g n : ℕ) (st : Setting) → IsCode b p (I.Cut g n) st → IsLinked p.frames → (node : ℕ) → IsWellWith b p (reverse p.choices.items) node → p.depth ≡ node + 1
    → (q : Path) → reverse q.choices.items ≡ kept st.depth (reverse p.choices.items) → q.template ≡ template_kept st.depth (reverse p.choices.items) p.template → answers_of q ≡ answers_kept st.depth (reverse p.choices.items) (answers_of p)
    → q ≡ record p { choices = q.choices; template = q.template; gathered = q.gathered } → Moved b p (record q { pc = n }) (called b p node (items_here b p p.f p.pc)) On
moved_cut_from b lib p g n st code chained node well deep q choices template answers others =
    let f : p.f ≡ q.f = ap (λ r. r.f) (sym others) in
    stands b lib p (I.Cut g n) st code chained node (record q { pc = n })
    (moved_cut b p q node (first_goal b p (I.Cut g n) st code) (items_here b p p.f n) deep well choices template answers others q.f n (cut_row b lib p g n st code chained) (ap (λ k. items_here b p k n) (sym f)))

pub leaves_cut_from : (b : CompiledProgram) (lib : IsCompiled b) (p : Path) (g n : ℕ) (st : Setting) → IsCode b p (I.Cut g n) st → IsLinked p.frames → (node : ℕ) (new : Path) → has_more p new ≡ false → Leaves b p new (called b p node (items_here b p p.f p.pc))
leaves_cut_from b lib p g n st code chained node new more = leaves_from b lib p (I.Cut g n) st code chained node new commit false (cut_row b lib p g n st code chained) refl more

-- a disjunction stands first
module _ (b : CompiledProgram) (lib : IsCompiled b) (p : Path) (g l r n : ℕ) (st : Setting) (code : IsCode b p (I.Either g l r n) st) (chained : IsLinked p.frames)
    (node : ℕ) (well : IsWellWith b p (reverse p.choices.items) node) (deep : p.depth ≡ node + 1) (q : Path) (o : OpenedHere p q Branch p.f r st node) where
  abbrev either_goal : Goal ℕ
  either_goal = first_goal b p (I.Either g l r n) st code

  abbrev side : Tree ℕ → Items ℕ
  side t = flat (naming b) (standing (bound (state_of p)) st.base t) (env_of st) st.depth ++ items_here b p p.f n

  record Sides : Type 0 where
    first : Tree ℕ
    second : Tree ℕ
    row : row_of (naming b) either_goal.tree ≡ either (standing (bound (state_of p)) st.base first) (standing (bound (state_of p)) st.base second)
    on_left : items_here b p p.f l ≡ side first
    on_right : items_here b p p.f r ≡ side second

  sides : Sides
  sides =
      go (shape_of b.constructs.names.control (first_tree b lib p (I.Either g l r n) st code chained)) (first_parts b lib p (I.Either g l r n) st code chained)
      (first_row b lib p (I.Either g l r n) st code chained).0 (first_row b lib p (I.Either g l r n) st code chained).1
    where
      go : (x : Shape) → HasParts b.constructs.names.control (bodies b st.clause).words (bodies b st.clause).code (I.Either g l r n) x
          → IsRow (up b lib p (I.Either g l r n) st code chained) x (row_of (naming b) either_goal.tree) → PartsSettled b.constructs.names.control x → Sides
      go (disjunction x y) h row s = record {
        first = x;
        second = y;
        row = row;
        on_left = side_items b lib p (I.Either g l r n) st code chained n l x s.0 h.0;
        on_right = side_items b lib p (I.Either g l r n) st code chained n r y s.1 h.1;
      }
      go x h row s = absurd h

  pub moved_either_from : Moved b p (record q { pc = l }) (called b p node (items_here b p p.f p.pc)) On
  moved_either_from =
      moved_two b lib p (I.Either g l r n) st code chained node well deep q r o (record q { pc = l }) (side sides.first) (side sides.second)
      (steady_at b p q (node + 1) q.f l (front b lib p (I.Either g l r n) st code chained node well deep q r o ∷ stack_of b p) (opened_steady b lib p (I.Either g l r n) st code chained node well deep q r o))
      (opened_around b lib p (I.Either g l r n) st code chained node well deep q r o l ∙ sides.on_left)
      (goal_acts b p node either_goal (items_here b p p.f n) (either (standing (bound (state_of p)) st.base sides.first) (standing (bound (state_of p)) st.base sides.second)) sides.row)
      sides.on_right

  pub leaves_either_from : (new : Path) → has_more p new ≡ true → Leaves b p new (called b p node (items_here b p p.f p.pc))
  leaves_either_from new more =
      leaves_from b lib p (I.Either g l r n) st code chained node new (either (standing (bound (state_of p)) st.base sides.first) (standing (bound (state_of p)) st.base sides.second)) true sides.row refl more

-- an if-then-else or an if-then stands first
module _ (b : CompiledProgram) (lib : IsCompiled b) (p : Path) (g k m : ℕ) (o : Option ℕ) (n : ℕ) (st : Setting) (code : IsCode b p (I.If g k m o n) st) (chained : IsLinked p.frames)
    (node : ℕ) (well : IsWellWith b p (reverse p.choices.items) node) (deep : p.depth ≡ node + 1) where
  abbrev if_goal : Goal ℕ
  if_goal = first_goal b p (I.If g k m o n) st code

  abbrev on_path : Tree ℕ → Tree ℕ
  on_path t = standing (bound (state_of p)) st.base t

  abbrev rest_of : Items ℕ
  rest_of = items_here b p p.f n

  abbrev part : Tree ℕ → Items ℕ
  part t = flat (naming b) (on_path t) (env_of st) st.depth ++ rest_of

  abbrev chosen_of : Tree ℕ → Tree ℕ → Items ℕ
  chosen_of x y = chosen b lib p (I.If g k m o n) st code chained node x y rest_of

  abbrev clause_names : ControlNames
  clause_names = b.constructs.names.control

  abbrev clause_words : List CodeWord
  clause_words = (bodies b st.clause).words

  abbrev clause_instructions : List Instruction
  clause_instructions = (bodies b st.clause).code

  -- the condition and the goals behind the arrow
  record Arrow (x y : Tree ℕ) : Type 0 where
    condition_settled : is_settled clause_names x ≡ true
    behind_settled : is_settled clause_names y ≡ true
    condition_run : Runs clause_names clause_words clause_instructions m k x
    end : Ends clause_names clause_words clause_instructions n m y

  -- a path on which the frame of the condition was put
  abbrev Conditioned : Path → Path → Type 0
  Conditioned q new = Entered b q new (record { f = q.f; pc = n }) (here new) (condition_from (bodies b) (state_of q) st q.depth (items_here b q q.f) n k)

  arrow_items : (q new : Path) (x y : Tree ℕ) → Arrow x y → state_of q ≡ state_of p → ((pc : ℕ) → items_here b q q.f pc ≡ items_here b p p.f pc) → q.depth ≡ p.depth → Conditioned q new
      → items_here b new new.f new.pc ≡ chosen_of x y
  arrow_items q new x y a state same depth h =
      entered_chosen b lib p (I.If g k m o n) st code chained q new node n k state same (depth ∙ deep) h m x y a.condition_settled a.behind_settled a.condition_run a.end

  -- ---- without another part

  record Then : Type 0 where
    condition : Tree ℕ
    behind : Tree ℕ
    row : row_of (naming b) if_goal.tree ≡ if_then_row (on_path condition) (on_path behind)
    arrow : Arrow condition behind

  then_parts : o ≡ None → Then
  then_parts e =
      go o e (shape_of clause_names (first_tree b lib p (I.If g k m o n) st code chained)) (first_parts b lib p (I.If g k m o n) st code chained)
      (first_row b lib p (I.If g k m o n) st code chained).0 (first_row b lib p (I.If g k m o n) st code chained).1
    where
      go : (o' : Option ℕ) → o' ≡ None → (x : Shape) → HasParts clause_names clause_words clause_instructions (I.If g k m o' n) x → IsRow on_path x (row_of (naming b) if_goal.tree) → PartsSettled clause_names x → Then
      go None e (if_then x y) h row s = record {
        condition = x;
        behind = y;
        row = row;
        arrow = record { condition_settled = s.0; behind_settled = s.1; condition_run = h.0; end = ends clause_names clause_words clause_instructions n m y h.1 };
      }
      go None e x h row s = absurd h
      go (Some a) e x h row s = cc

  pub moved_then_from : o ≡ None → (new : Path) → Conditioned p new → Moved b p new (called b p node (items_here b p p.f p.pc)) On
  moved_then_from none new h =
      let t : Then = then_parts none in
      let items : Items ℕ = chosen_of t.condition t.behind in
      stands b lib p (I.If g k m o n) st code chained node new
      (goal_moved_on b p node if_goal rest_of new node (stack_of b p) items deep
      (steady_entered b p new (record { f = p.f; pc = n }) (here new) (condition_from (bodies b) (state_of p) st p.depth (items_here b p p.f) n k) h p node (stack_of b p) (steady_here b p node well)) (omega arith)
      (arrow_items p new t.condition t.behind t.arrow refl (λ pc. refl) refl h)
      (goal_goes_one b p node if_goal rest_of items (goal_acts b p node if_goal rest_of (if_then_row (on_path t.condition) (on_path t.behind)) t.row)))

  pub leaves_then_from : o ≡ None → (new : Path) → has_more p new ≡ false → Leaves b p new (called b p node (items_here b p p.f p.pc))
  leaves_then_from none new more =
      let t : Then = then_parts none in
      leaves_from b lib p (I.If g k m o n) st code chained node new (if_then_row (on_path t.condition) (on_path t.behind)) false t.row refl more

  -- ---- with another part

  record Else (z' : ℕ) : Type 0 where
    condition : Tree ℕ
    behind : Tree ℕ
    other : Tree ℕ
    row : row_of (naming b) if_goal.tree ≡ if_then_else_row (on_path condition) (on_path behind) (on_path other)
    arrow : Arrow condition behind
    on_other : items_here b p p.f z' ≡ part other

  else_parts : (place : ℕ) → o ≡ Some place → Else place
  else_parts place e =
      go o e (shape_of clause_names (first_tree b lib p (I.If g k m o n) st code chained)) (first_parts b lib p (I.If g k m o n) st code chained)
      (first_row b lib p (I.If g k m o n) st code chained).0 (first_row b lib p (I.If g k m o n) st code chained).1
    where
      go : (o' : Option ℕ) → o' ≡ Some place → (x : Shape) → HasParts clause_names clause_words clause_instructions (I.If g k m o' n) x → IsRow on_path x (row_of (naming b) if_goal.tree) → PartsSettled clause_names x → Else place
      go (Some a) e (if_then_else x y z) h row s =
          let same : a ≡ place = cc in
          record {
            condition = x;
            behind = y;
            other = z;
            row = row;
            arrow = record { condition_settled = s.0; behind_settled = s.1; condition_run = h.0; end = ends clause_names clause_words clause_instructions n m y h.1 };
            on_other = ap (items_here b p p.f) (sym same) ∙ side_items b lib p (I.If g k m o n) st code chained n a z s.2 h.2;
          }
      go (Some a) e x h row s = absurd h
      go None e x h row s = cc

  pub moved_else_from : (place : ℕ) → o ≡ Some place → (q new : Path) → OpenedHere p q Branch p.f place st node → Conditioned q new → Moved b p new (called b p node (items_here b p p.f p.pc)) On
  moved_else_from place some q new opened h =
      let t : Else place = else_parts place some in
      let items : Items ℕ = chosen_of t.condition t.behind in
      let fs : List (FrameOf (language_of b)) = front b lib p (I.If g k m o n) st code chained node well deep q place opened ∷ stack_of b p in
      moved_two b lib p (I.If g k m o n) st code chained node well deep q place opened new items (part t.other)
      (steady_entered b q new (record { f = q.f; pc = n }) (here new) (condition_from (bodies b) (state_of q) st q.depth (items_here b q q.f) n k) h p (node + 1) fs (opened_steady b lib p (I.If g k m o n) st code chained node well deep q place opened))
      (arrow_items q new t.condition t.behind t.arrow (opened_state b p q Branch p.f place st node opened)
      (opened_around b lib p (I.If g k m o n) st code chained node well deep q place opened) (ap (λ r. r.depth) opened.opened.others) h)
      (goal_acts b p node if_goal rest_of (if_then_else_row (on_path t.condition) (on_path t.behind) (on_path t.other)) t.row)
      t.on_other

  pub leaves_else_from : (place : ℕ) → o ≡ Some place → (new : Path) → has_more p new ≡ true → Leaves b p new (called b p node (items_here b p p.f p.pc))
  leaves_else_from place some new more =
      let t : Else place = else_parts place some in
      leaves_from b lib p (I.If g k m o n) st code chained node new (if_then_else_row (on_path t.condition) (on_path t.behind) (on_path t.other)) true t.row refl more
