-- The goals of instructions.
use Rattle.std.proofs.Common.{◌≡◌, ℕ, zero, suc, ◌+◌, ◌<◌, ◌≤◌, List, [], ◌∷◌, Some, refl, sym, ap, ◌∙◌, subst, arith, length, reverse, inl, inr}
use Rattle.std.specs.Prelude.{true, nat_lt}
use Rattle.std.proofs.lemmas.Bool.{cases_lt}
use Rattle.std.proofs.lemmas.List.{get_or_past, length-reverse}
use Rattle.pl_unify.specs.declared.word.Ref.{Ref}
use Rattle.pl_unify.specs.Code.{code_tree, code_tree_in}
use Rattle.pl_unify.specs.State.{tree_at, IsRef}
use Rattle.solver_model.specs.Search.{Call, At}
use Rattle.solver_model.specs.Configurations.{Tells}
use Rattle.goal_model.specs.Bodies.{Goal}
use Rattle.goal_model.specs.Table.{Items, shown}
use Rattle.pl_store.specs.Runs.{program_of}
use Rattle.goal_code.specs.declared.instruction.Instruction.{Instruction}
use Rattle.goal_code.specs.declared.instruction.Instruction.TheVariants as I
use Rattle.goal_code.specs.Runs.{instruction_at, is_goal, next_of, goal_of, IsSound}
use Rattle.goal_code.specs.Settled.{AreSettled}
use Rattle.goal_code.specs.Continuations.{Running, call_of, follow, items_from}
use Rattle.goal_code.proofs.ContinuationLaws.{items_follow}
use Rattle.goal_state.specs.declared.frames.Frame.{Frame}
use Rattle.goal_state.specs.declared.frames.Setting.{Setting}
use Rattle.goal_state.specs.declared.frames.Part.TheVariants as P
use Rattle.goal_state.specs.Frames.{env_of, running, IsLinked}
use Rattle.goal_state.proofs.FrameLaws.{frames_read}
use Rattle.goal_state.proofs.FramePlaces.{place_within}
use Rattle.goal_state.proofs.StoreLaws.{fits_read}
use Rattle.clause_code.specs.Codes.{no_code}
use Rattle.goal_state.specs.declared.compiled.CompiledProgram.{CompiledProgram}
use Rattle.goal_state.specs.declared.path.Path.{Path}
use Rattle.goal_state.specs.Denotation.{bodies, linked as linked_of, language_of, state_of, items_here, frames_on}
use Rattle.goal_state.specs.Well.{IsCompiled, IsWellWith}
use Rattle.goal_moves.specs.declared.active.Active.{Active}
use Rattle.goal_moves.specs.declared.going.Going.{Going}
use Rattle.goal_moves.specs.Control.{Grew, GoalHere}
use Rattle.goal_moves.specs.Moves.{Stays, called, goal_items, IsCode, Activated}
use Rattle.goal_moves.specs.Untried.{Leaves, leaves_untried}
use Rattle.goal_moves.proofs.Steady.{Steady, steady_here, steady_grown, grown_items, grown_length}

no_instruction : (pc : ℕ) (c : Instruction) → instruction_at [] pc ≡ Some c → ⊥
no_instruction zero c e = cc
no_instruction (suc k) c e = cc

-- the item of a goal's instruction, and what follows it
follow_goal : (r : Running) (after : Items ℕ) (outer : ℕ → Items ℕ) (c : Instruction) (more : ℕ → Items ℕ) → is_goal c ≡ true → follow r after outer c more ≡ call_of r (code_tree r.words (goal_of c)) ∷ more (next_of c)
follow_goal r after outer (I.Goal g n) more e = refl
follow_goal r after outer (I.Cut g n) more e = refl
follow_goal r after outer (I.Either g l t n) more e = refl
follow_goal r after outer (I.If g c m o n) more e = refl
follow_goal r after outer (I.EndIf n) more e = cc

module _ (b : CompiledProgram) (p : Path) (c : Instruction) (st : Setting) (code : IsCode b p c st) where
  pub clause_there : st.clause < length b.codes
  clause_there = elim (cases_lt st.clause (length b.codes)) [
    | inl lt ↦ lt
    | inr ge ↦ absurd (no_instruction p.pc c (sym (ap (λ k. instruction_at k.goals.code p.pc) (get_or_past b.codes st.clause no_code ge)) ∙ code.code))
  ]

  pub code_sound : IsCompiled b → IsSound b.constructs.names.control (bodies b st.clause).words (bodies b st.clause).code
  code_sound compiled =
      let count = compiled.codes.count in
      let lt = clause_there in
      (compiled.codes.each st.clause (omega (arith, count, lt))).goals.sound

  pub code_settled : IsCompiled b → AreSettled b.constructs.names.control (bodies b st.clause).words (bodies b st.clause).code
  code_settled compiled =
      let count = compiled.codes.count in
      let lt = clause_there in
      (compiled.codes.each st.clause (omega (arith, count, lt))).each_settled

  pub goal_there : IsCompiled b → goal_of c < length (bodies b st.clause).words
  goal_there compiled = ((code_sound compiled p.pc c code.code).1 code.goal).0

  pub code_base : (d : ℕ) → IsWellWith b p (reverse p.choices.items) d → st.base ≤ (state_of p).next
  code_base d w = (fits_read (state_of p) p.f p.frames (record { parent = code.parent; ppc = code.ppc; part = P.Body; setting = st }) w.frames code.frame).0

  pub frame_there : p.f ≤ length p.frames
  frame_there = let le = place_within (reverse p.frames) p.f (record { parent = code.parent; ppc = code.ppc; part = P.Body; setting = st }) code.frame in let same = length-reverse p.frames in omega (arith, le, same)

  -- the goal that stands first
  abbrev pub first_goal : Goal ℕ
  first_goal = record { tree = code_tree_in (state_of p) st.base (bodies b st.clause).words (goal_of c); env = env_of st; reach = st.depth }

  pub first_items : IsCompiled b → IsLinked p.frames → items_here b p p.f p.pc ≡ Call first_goal ∷ items_here b p p.f (next_of c)
  first_items compiled linked =
      let fr : Frame = record { parent = code.parent; ppc = code.ppc; part = P.Body; setting = st } in
      let after : Items ℕ = items_here b p code.parent code.ppc in
      let outer : ℕ → Items ℕ = items_here b p code.parent in
      let r : Running = running (bodies b) (state_of p) st in
      frames_read (bodies b) (state_of p) p.frames p.f p.pc fr linked code.frame
      ∙ items_follow r b.constructs.names.control after outer p.pc c (code_sound compiled) code.code
      ∙ follow_goal r after outer c (items_from r after outer) code.goal
      ∙ ap (λ l. Call first_goal ∷ l) (sym (frames_read (bodies b) (state_of p) p.frames p.f (next_of c) fr linked code.frame))

  -- the goal was put into the store
  pub goal_placed : (q : Path) (node : ℕ) (at : Ref) (f pc next : ℕ) → IsCompiled b → IsLinked p.frames → IsWellWith b p (reverse p.choices.items) node → p.depth ≡ node + 1 → Grew p q
      → IsRef (state_of q) at → tree_at (state_of q) at ≡ code_tree_in (state_of p) st.base (bodies b st.clause).words (goal_of c)
      → next ≡ next_of c → items_here b p f pc ≡ items_here b p p.f next → f ≤ p.f
      → GoalHere b p q node (record { goal = at; setting = st; rest = record { f = f; pc = pc }; node = node })
  goal_placed q node at f pc next compiled linked well deep g place tree next_is items low =
      let s : Steady b p q node (frames_on b p (reverse p.choices.items)) = steady_grown b p q g p node (frames_on b p (reverse p.choices.items)) (steady_here b p node well) in
      let rest : items_here b q f pc ≡ items_here b p p.f (next_of c) = grown_items b p q g node f pc well ∙ items ∙ ap (items_here b p p.f) next_is in
      let stands = first_items compiled linked in
      record {
        ready = record {
          well = s.well;
          depth = s.depth ∙ deep;
          goal = place;
          rest = let same = grown_length b p q g in let within = frame_there in omega (arith, same, within, low);
          base = let same = s.next in let le = code_base node well in omega (arith, same, le);
        };
        same = λ left. (λ i. record {
          point = At (record { depth = node; items = Call (record { tree = tree i; env = env_of st; reach = st.depth }) ∷ rest i; world = s.world i });
          left = suc left;
          clauses = (program_of (linked_of b)).clauses;
          frames = s.frames i;
        }) ∙ ap (λ l. called b p node l left) (sym stands);
        depth = s.depth;
        width = s.width;
        choices = ap (λ r. r.choices) g.others;
      }

-- an activation from there is one from before
pub activated_here : (b : CompiledProgram) (old mid new : Path) (node : ℕ) (a : Active) (before after : List ℕ) (g : Going) → GoalHere b old mid node a
    → Activated b mid new (called b mid a.node (goal_items b mid a)) before after g → Activated b old new (called b old node (items_here b old old.f old.pc)) before after g
activated_here b old mid new node a before after g h m = record {
  bytes = m.bytes;
  text = m.text;
  well = m.well;
  low = let low = m.low in let same = h.depth in omega (arith, low, same);
  width = m.width ∙ h.width;
  goes = λ left. subst (λ x. Stays b (Tells (language_of b) (shown m.bytes) x) new left g) (h.same left) (m.goes left);
}

-- what is left untried is so too
pub leaves_here : (b : CompiledProgram) (old mid new : Path) (node : ℕ) (a : Active) → GoalHere b old mid node a → Leaves b mid new (called b mid a.node (goal_items b mid a)) → Leaves b old new (called b old node (items_here b old old.f old.pc))
leaves_here b old mid new node a h m = λ left.
    ap (λ cs. nat_lt (length cs.items) (length new.choices.items)) (sym h.choices)
    ∙ m left
    ∙ ap (leaves_untried b) (h.same left)
