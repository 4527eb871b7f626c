-- Catches.
use Rattle.std.proofs.Common.{◌≡◌, ℕ, ◌+◌, ◌≤◌, List, [], ◌∷◌, ◌++◌, Result, refl, sym, ap, ◌∙◌, subst, arith, length}
use Rattle.pl_terms.specs.Trees.{Tree}
use Rattle.pl_terms.specs.Occurrence.{canon}
use Rattle.pl_atoms.specs.declared.names.NameId.{NameId}
use Rattle.pl_unify.specs.declared.word.Ref.{Ref}
use Rattle.pl_unify.specs.State.{tree_at, IsRef}
use Rattle.solver_model.specs.Search.{Pop, At, Over, Opens, Catches, Thrown, FrameOf, pops}
use Rattle.goal_model.specs.Bodies.{flat}
use Rattle.goal_model.specs.Environments.{argument_place}
use Rattle.goal_model.specs.Rows.{catching, row_of}
use Rattle.goal_model.specs.Table.{Items, Moved as Activation, place, caught}
use Rattle.goal_state.specs.declared.frames.Setting.{Setting}
use Rattle.goal_state.specs.Frames.{env_of, items_of}
use Rattle.goal_state.specs.declared.choice.ChoiceKind.TheVariants.{Catch}
use Rattle.goal_state.specs.declared.compiled.CompiledProgram.{CompiledProgram}
use Rattle.goal_state.specs.declared.path.Path.{Path}
use Rattle.goal_state.specs.Denotation.{bodies, linked, naming, language_of, state_of, items_here, world_here, world_of}
use Rattle.goal_state.specs.Well.{IsWell}
use Rattle.goal_state.specs.Steps.{link_to}
use Rattle.goal_state.proofs.PathLaws.{opened_frames_on, put_within}
use Rattle.goal_constructs.specs.Calling.{IsCalled}
use Rattle.goal_constructs.specs.declared.calling.Called.{Called}
use Rattle.goal_constructs.specs.declared.calling.Called.TheVariants as C
use Rattle.goal_moves.specs.declared.active.Rest.{Rest}
use Rattle.goal_moves.specs.declared.active.Active.{Active}
use Rattle.goal_moves.specs.declared.going.Going.{Going}
use Rattle.goal_moves.specs.declared.going.Going.TheVariants.{On}
use Rattle.goal_moves.specs.Control.{Grew, OpenedHere, goal_at}
use Rattle.goal_moves.specs.Moves.{goal_items, called, thrown, IsReady, Moved, Entered, here}
use Rattle.goal_moves.proofs.Steady.{Steady, IsPlain, steady_opened, steady_entered, opened_place, opened_state}
use Rattle.goal_moves.proofs.Committing.{Goals, entered_items}
use Rattle.goal_moves.proofs.Turning.{stack_of, acts, reach_open, moved_on, moved_raised}
use Rattle.goal_moves.proofs.RowMoves.{steady_well}
use Rattle.goal_moves.proofs.TakenMoves.{grown_steady, grown_rest}
use Rattle.goal_moves.proofs.ArgumentMoves.{name_at, taken_at}

-- what a catch leaves as its record
abbrev pub catch_frame : (b : CompiledProgram) → Path → Active → Ref → Ref → FrameOf (language_of b)
catch_frame b p a catcher recovery = Catches a.node (record {
  depth = a.node;
  catcher = tree_at (state_of p) catcher;
  recovery = tree_at (state_of p) recovery;
  name = name_at b p a;
  env = argument_place (env_of a.setting);
  rest = items_here b p a.rest.f a.rest.pc;
  world = world_here b p;
})

module _ (b : CompiledProgram) (old p : Path) (a : Active) (ready : IsReady b old a) (g : Grew old p) (name : NameId) (catcher recovery : Ref) (catcher_is : IsRef (state_of old) catcher) (recovery_is : IsRef (state_of old) recovery) (name_is : name.0 ≡ name_at b old a)
    (depth : ℕ) (inner : Setting) (deep : depth ≡ a.node + 1) (inner_is : inner ≡ record a.setting { lookup = a.setting.context; depth = depth }) (q : Path) (o : OpenedHere p q (Catch name catcher recovery) a.rest.f a.rest.pc inner a.node) where
  more_cells : (r : Ref) → IsRef (state_of old) r → IsRef (state_of p) r
  more_cells r le = let more = g.grows.extends.more_cells in omega (arith, le, more)

  inner_base : inner.base ≤ (state_of p).next
  inner_base = let same = g.next in let le = ready.base in let is = ap (λ st. st.base) inner_is in omega (arith, same, le, is)

  pub caught_steady : Steady b old q (a.node + 1) (catch_frame b old a catcher recovery ∷ stack_of b old)
  caught_steady =
      let st : Steady b old p a.node (stack_of b old) = grown_steady b old p a ready g in
      let plain : IsPlain (linked b) (state_of p) (Catch name catcher recovery) p.template = record { fits = (more_cells catcher catcher_is, more_cells recovery recovery_is); outer = refl; counts = λ m r d cs. refl } in
      let cs : tree_at (state_of p) catcher ≡ tree_at (state_of old) catcher = g.grows.places catcher catcher_is in
      let rs : tree_at (state_of p) recovery ≡ tree_at (state_of old) recovery = g.grows.places recovery recovery_is in
      let env : env_of inner ≡ argument_place (env_of a.setting) = ap env_of inner_is in
      let rest : items_here b p a.rest.f a.rest.pc ≡ items_here b old a.rest.f a.rest.pc = grown_rest b old p a ready g in
      steady_opened b p q (Catch name catcher recovery) a.rest.f a.rest.pc inner a.node o old (stack_of b old) (catch_frame b old a catcher recovery) inner_base plain st
      (opened_frames_on b p q (Catch name catcher recovery) o.mark a.rest.f a.rest.pc inner a.node o.opened a.node st.well
      ∙ ap (λ σ. Catches a.node (record { depth = a.node; catcher = tree_at σ catcher; recovery = tree_at σ recovery; name = name.0; env = env_of inner; rest = items_of (bodies b) σ p.frames a.rest.f a.rest.pc; world = world_of σ p.width p.template }) ∷ stack_of b p) o.at_mark
      ∙ (λ i. Catches a.node (record { depth = a.node; catcher = cs i; recovery = rs i; name = name_is i; env = env i; rest = rest i; world = st.world i }) ∷ stack_of b p))

  pub caught_rest : items_here b q a.rest.f a.rest.pc ≡ items_here b old a.rest.f a.rest.pc
  caught_rest = opened_place b p q (Catch name catcher recovery) a.rest.f a.rest.pc inner a.node o a.rest.f a.rest.pc (omega arith) ∙ grown_rest b old p a ready g

  pub caught_within : a.rest.f ≤ length q.frames
  caught_within =
      let within = put_within b p (record p { frames = q.frames }) (link_to a.rest.f a.rest.pc inner) o.opened.rest o.opened.put in
      omega (arith, within.0)

  pub caught_well : IsWell b q
  caught_well = steady_well b old q a (catch_frame b old a catcher recovery ∷ stack_of b old) (a.node + 1) ready (omega arith) caught_steady

  pub caught_base : (outer : Setting) → outer ≡ record a.setting { depth = a.node } → outer.base ≤ (state_of q).next
  caught_base outer is = let same = caught_steady.next in let le = ready.base in let e = ap (λ st. st.base) is in omega (arith, same, le, e)

  caught_state : state_of q ≡ state_of p
  caught_state = opened_state b p q (Catch name catcher recovery) a.rest.f a.rest.pc inner a.node o

  -- the exit was put before what follows
  module _ (outer : Setting) (outer_is : outer ≡ record a.setting { depth = a.node }) (r : Path) (exit : Rest) (e : Entered b q r a.rest exit (Pop outer.depth ∷ items_here b q a.rest.f a.rest.pc)) where
    pub exit_steady : Steady b old r (a.node + 1) (catch_frame b old a catcher recovery ∷ stack_of b old)
    exit_steady = steady_entered b q r a.rest exit (Pop outer.depth ∷ items_here b q a.rest.f a.rest.pc) e old (a.node + 1) (catch_frame b old a catcher recovery ∷ stack_of b old) caught_steady

    pub exit_well : IsWell b r
    exit_well = steady_well b old r a (catch_frame b old a catcher recovery ∷ stack_of b old) (a.node + 1) ready (omega arith) exit_steady

    exit_state : state_of r ≡ state_of p
    exit_state = ap (λ x. state_of x) e.others ∙ caught_state

    pub exit_base : inner.base ≤ (state_of r).next
    exit_base = subst (λ s. inner.base ≤ s.next) (sym exit_state) inner_base

    exit_items : items_here b r exit.f exit.pc ≡ Pop a.node ∷ items_here b old a.rest.f a.rest.pc
    exit_items = e.goes ∙ (λ i. Pop ((ap (λ st. st.depth) outer_is) i) ∷ caught_rest i)

    module _ (term : Ref) (c : Called) (is : IsCalled (state_of p) (taken_at b old a term) c) (row : row_of (naming b) (tree_at (state_of old) a.goal) ≡ catching (tree_at (state_of old) term) (tree_at (state_of old) catcher) (tree_at (state_of old) recovery)) where
      abbrev point_or : Result (Tree ℕ) (Tree ℕ) → Activation ℕ
      point_or taken = Opens [] (caught (naming b) a.node (goal_at old a) (items_here b old a.rest.f a.rest.pc) (world_here b old) taken) (catch_frame b old a catcher recovery)

      pub caught_goal_ref : (body : Ref) → c ≡ C.Goal body → IsRef (state_of r) body
      caught_goal_ref body k = subst (λ s. IsRef s body) (sym exit_state) (subst (IsCalled (state_of p) (taken_at b old a term)) k is).0

      pub caught_ball_ref : (ball : Ref) → c ≡ C.Ball ball → IsRef (state_of r) ball
      caught_ball_ref ball k = subst (λ s. IsRef s ball) (sym exit_state) (subst (IsCalled (state_of p) (taken_at b old a term)) k is).0

      pub caught_goal : (new : Path) (body : Ref) → c ≡ C.Goal body → Goals b r new exit body inner → Moved b old new (called b old a.node (goal_items b old a)) On
      caught_goal new body k h =
          let t : Tree ℕ = tree_at (state_of p) body in
          let fs : List (FrameOf (language_of b)) = catch_frame b old a catcher recovery ∷ stack_of b old in
          let items : Items ℕ = flat (naming b) t (argument_place (env_of a.setting)) (a.node + 1) ++ (Pop a.node ∷ items_here b old a.rest.f a.rest.pc) in
          let taken = subst (IsCalled (state_of p) (taken_at b old a term)) k is in
          moved_on b old a new (a.node + 1) fs items ready.depth
          (steady_entered b r new exit (here new) (entered_items b r body inner (items_here b r exit.f exit.pc)) h old (a.node + 1) fs exit_steady) (omega arith)
          (h.goes
          ∙ ap (λ st. entered_items b r body st (items_here b r exit.f exit.pc)) inner_is
          ∙ ap (λ d. entered_items b r body (record a.setting { lookup = a.setting.context; depth = d }) (items_here b r exit.f exit.pc)) deep
          ∙ (λ i. flat (naming b) (tree_at (exit_state i) body) (argument_place (env_of a.setting)) (a.node + 1) ++ exit_items i))
          (reach_open b old a (At (place a.node items (world_here b old))) (catch_frame b old a catcher recovery)
          (acts b old a (catching (tree_at (state_of old) term) (tree_at (state_of old) catcher) (tree_at (state_of old) recovery)) row ∙ ap point_or taken.1))

      pub caught_ball : (new : Path) (ball : Ref) (going : Going) → c ≡ C.Ball ball
          → Moved b r new (thrown b r (canon (tree_at (state_of r) ball)) (pops (items_here b r exit.f exit.pc))) going → Moved b old new (called b old a.node (goal_items b old a)) going
      caught_ball new ball going k m =
          let t : Tree ℕ = tree_at (state_of p) ball in
          let fs : List (FrameOf (language_of b)) = catch_frame b old a catcher recovery ∷ stack_of b old in
          let taken = subst (IsCalled (state_of p) (taken_at b old a term)) k is in
          moved_raised b old r new a (a.node + 1) fs (canon t) (canon (tree_at (state_of r) ball)) (a.node ∷ pops (items_here b old a.rest.f a.rest.pc)) (pops (items_here b r exit.f exit.pc)) going
          exit_steady (ap (λ s. canon (tree_at s ball)) exit_state) (ap pops exit_items)
          (reach_open b old a (Over (Thrown (canon t) (a.node ∷ pops (items_here b old a.rest.f a.rest.pc)))) (catch_frame b old a catcher recovery)
          (acts b old a (catching (tree_at (state_of old) term) (tree_at (state_of old) catcher) (tree_at (state_of old) recovery)) row ∙ ap point_or taken.1))
          m
