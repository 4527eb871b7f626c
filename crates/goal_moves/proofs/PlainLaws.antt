-- Goals of built-in predicates that are no control constructs.
use Rattle.std.proofs.Common.{◌≡◌, ℕ, ℤ, ◌+◌, ◌≤◌, List, [], ◌∷◌, ◌++◌, Option, Some, None, refl, sym, ap, ◌∙◌, subst, arith, length, reverse, map, Result, Ok, Err, IfOk}
use Rattle.std.specs.Prelude.{nat_eq}
use Rattle.std.proofs.lemmas.List.{take_all}
use Rattle.pl_atoms.specs.Names.{IsFront, AreDistinct}
use Rattle.pl_atoms.proofs.Numbers.{length-front}
use Rattle.pl_terms.specs.Trees.{Tree}
use Rattle.pl_terms.specs.Occurrence.{canon, from_to}
use Rattle.unifier_model.specs.Substitution.{apply}
use Rattle.unifier_model.specs.Mgu.{mgu, unifier}
use Rattle.pl_unify.specs.declared.word.Ref.{Ref}
use Rattle.pl_unify.specs.State.{State, Stored, tree_at, tree_of_var, IsRef, IsStore, Extends}
use Rattle.solver_model.specs.Search.{Event, End, At, Over, Failed, Thrown, Halted, Tries, Ends, Opens, Call, FrameOf, Language, ActivationOf, pops, prepend}
use Rattle.solver_model.specs.Configurations.{Configuration, Turns, Tells}
use Rattle.solver_model.proofs.TurnLaws.{turn_last, turn_done, turns_then, turns_same}
use Rattle.solver_model.proofs.TellLaws.{tell_call, tell_ends}
use Rattle.builtin_model.specs.Naming.{by_numbers, number_in}
use Rattle.builtin_model.specs.Faults.{fault_tree}
use Rattle.builtin_model.specs.Deeds.{Deed, equal, differ, no, raise, halt, deed}
use Rattle.builtin_model.specs.Output.{output}
use Rattle.builtin_model.specs.Rows.{row_of as builtin_row}
use Rattle.builtin_model.specs.declared.row.Row.{Row as Builtin}
use Rattle.pl_builtin_ends.specs.Meets.{Unifies, Succeeds, Fails as Failing}
use Rattle.pl_builtins.specs.declared.numbered.Outcome.{Outcome}
use Rattle.pl_builtins.specs.declared.numbered.Outcome.TheVariants as O
use Rattle.pl_builtins.specs.Ends.{deed_of, output_of, row_at, Throws, Ends as Ending, written_by}
use Rattle.goal_model.specs.Bodies.{Goal}
use Rattle.goal_model.specs.Rows.{plain, row_of, name_of, arity_of}
use Rattle.goal_model.specs.Table.{World, Items, Alternative, leads, item_under, bound, apart, shown, done, row, activate}
use Rattle.goal_model.proofs.ItemLaws.{outs_of-shown}
use Rattle.goal_model.proofs.SaneProofs.{table_sane}
use Rattle.goal_state.specs.declared.frames.Setting.{Setting}
use Rattle.goal_state.specs.Frames.{env_of, items_of}
use Rattle.goal_state.proofs.StoreLaws.{items_move, items_stay}
use Rattle.pl_store.specs.Runs.{program_of}
use Rattle.goal_state.specs.declared.compiled.CompiledProgram.{CompiledProgram}
use Rattle.goal_state.specs.declared.path.Path.{Path}
use Rattle.goal_state.specs.Denotation.{linked, naming, bodies, language_of, answers_of, state_of, template_of, world_of, items_here, world_here, frames_by, frames_on, point_here, search_at}
use Rattle.goal_state.specs.Well.{IsWell, IsWellWith, TemplateFits, mark_of, floor_of}
use Rattle.goal_state.proofs.PathLaws.{grown_frames_on, grown_well}
use Rattle.goal_state.proofs.RecordLaws.{stand_wider}
use Rattle.goal_moves.specs.declared.going.Going.{Going}
use Rattle.goal_moves.specs.declared.going.Going.TheVariants.{On, Fails, Halts, Uncaught}
use Rattle.goal_moves.specs.Moves.{Stays, called, thrown, Moved, Activated}
use Rattle.goal_moves.proofs.RowNames.{row_name}
use Rattle.goal_moves.proofs.WalkLaws.{elsewhere_well}
use Rattle.pl_unify.proofs.StoreLaws.{Extends-refl}

-- ---- searches

-- a move that is heard, and then one without events
pub tells_turns : (L : Language) (events : List (Event L.Answer)) (x y z : Configuration L) → Tells L events x y → Turns L y z → Tells L events x z
tells_turns L events x y z t u = record {
  value = λ s. t.value s ∙ ap (prepend L events) (sym (u.value (t.sane s)));
  sane = λ s. u.sane (t.sane s);
  left = omega (arith, t.left, u.left);
  lighter = λ e.
      let i : y.left ≡ x.left = omega (arith, e, t.left, u.left) in
      let j : z.left ≡ y.left = omega (arith, e, t.left, u.left) in
      omega (arith, t.lighter i, u.lighter j);
}

-- what holds of where a move leads holds where its configuration is related otherwise
pub stays_then : (b : CompiledProgram) (R S : Configuration (language_of b) → Type 0) (p : Path) (left : ℕ) (g : Going) → ((y : Configuration (language_of b)) → R y → S y) → Stays b R p left g → Stays b S p left g
stays_then b R S p left On h r = h _ r
stays_then b R S p left Fails h r = h _ r
stays_then b R S p left (Halts z) h r = h _ r
stays_then b R S p left (Uncaught t) h r = (r.0, r.1, h _ r.2)

-- a path is well for deeper nodes too
pub deeper : (b : CompiledProgram) (p : Path) (d e : ℕ) → d ≤ e → IsWellWith b p (reverse p.choices.items) d → IsWellWith b p (reverse p.choices.items) e
deeper b p d e le w = record {
  store = w.store;
  frames = w.frames;
  template = w.template;
  wide = w.wide;
  records =
      stand_wider (linked b) p.width (state_of p) p.frames (length p.frames) (length p.frames) d e (mark_of (state_of p)) (mark_of (state_of p)) (reverse p.choices.items) p.template
      (floor (reverse p.choices.items) w) le (record { cells = omega arith; trail = omega arith; vars = omega arith }) w.records;
  gathered = w.gathered;
}
  where
    floor : (cs : _) → IsWellWith b p cs d → floor_of cs ≤ length p.frames
    floor [] w = omega arith
    floor (c ∷ cs) w = w.records.0.rest

-- ---- names that were there

pub front_same : (old new : List (List ℕ)) → IsFront old new → length new ≡ length old → new ≡ old
front_same old new front e = sym (take_all (length old) new (omega (arith, e))) ∙ front

pub between_same : (old mid new : List (List ℕ)) → IsFront old mid → IsFront mid new → new ≡ old → mid ≡ old
between_same old mid new low high e =
    let up : length mid ≤ length new = length-front mid new high in
    let down : length old ≤ length mid = length-front old mid low in
    front_same old mid low (omega (arith, up, down, ap length e))

-- ---- the terms that an answer is made of

variables-under : (s s' : State) (bs : List (ℕ × Tree ℕ)) (ns : List ℕ) → ((n : ℕ) → tree_of_var s' n ≡ apply bs (tree_of_var s n)) → map (tree_of_var s') ns ≡ map (apply bs) (map (tree_of_var s) ns)
variables-under s s' bs [] h = refl
variables-under s s' bs (n ∷ ns) h = ap (λ t. t ∷ map (tree_of_var s') ns) (h n) ∙ ap (λ l. apply bs (tree_of_var s n) ∷ l) (variables-under s s' bs ns h)

pub template-under : (s s' : State) (v : ℕ) (t : Option Ref) (bs : List (ℕ × Tree ℕ)) → TemplateFits s t → ((n : ℕ) → tree_of_var s' n ≡ apply bs (tree_of_var s n)) → ((r : Ref) → IsRef s r → tree_at s' r ≡ apply bs (tree_at s r))
    → template_of s' v t ≡ map (apply bs) (template_of s v t)
template-under s s' v None bs fits h g = variables-under s s' bs (from_to 0 v) h
template-under s s' v (Some r) bs fits h g = ap (λ u. u ∷ []) (g r fits)

-- ---- the goal of a row

solved : (es : List (Tree ℕ × Tree ℕ)) (o : Option (List (ℕ × Tree ℕ))) → mgu es ≡ o → unifier nat_eq es ≡ o
unfolding mgu
solved es o e = e

-- a goal with this tree and setting, which is a row's, in a node of this depth before what follows from a place on
module _ (b : CompiledProgram) (p : Path) (tree : Tree ℕ) (setting : Setting) (node f pc : ℕ) (deep : p.depth ≡ node + 1) (well : IsWellWith b p (reverse p.choices.items) node) (k : Builtin) (ts : List (Tree ℕ)) (its : row_of (naming b) tree ≡ plain k ts) where
  abbrev goal : Goal ℕ
  goal = record { tree = tree; env = env_of setting; reach = setting.depth }

  abbrev rest : Items ℕ
  rest = items_here b p f pc

  abbrev world : World ℕ
  world = world_here b p

  abbrev written : List ℕ
  written = output (naming b) k ts

  abbrev does : Deed ℕ
  does = deed (naming b) k ts setting.caller.0 (state_of p).next

  abbrev records : List (FrameOf (language_of b))
  records = frames_on b p (reverse p.choices.items)

  abbrev started : ℕ → Configuration (language_of b)
  started = called b p node (Call goal ∷ rest)

  abbrev ended : Deed ℕ → ActivationOf (language_of b)
  ended d = done (naming b) nat_eq node (name_of (naming b) goal.tree) (arity_of (naming b) goal.tree) rest world written d

  activates : (d : Deed ℕ) → does ≡ d → activate (naming b) nat_eq (program_of (linked b)) node goal rest world (program_of (linked b)).clauses ≡ ended d
  activates d e =
      ap (row (naming b) nat_eq (program_of (linked b)) node goal (name_of (naming b) goal.tree) (arity_of (naming b) goal.tree) rest world (program_of (linked b)).clauses) its
      ∙ ap ended e

  -- a search at these places of the rest, in a state
  abbrev standing : Stored → ℕ → Configuration (language_of b)
  standing st left = search_at b (record p { store = st; f = f; pc = pc }) (point_here b (record p { store = st; f = f; pc = pc })) left

  abbrev tried : List (Alternative ℕ) → ℕ → Configuration (language_of b)
  tried alts left = record { point = Over Failed; left = left; clauses = (program_of (linked b)).clauses; frames = Tries node alts ∷ records }

  tells-tries : (d : Deed ℕ) (alts : List (Alternative ℕ)) (left : ℕ) → does ≡ d → ended d ≡ Opens (shown written) (Over Failed) (Tries node alts) → Tells (language_of b) (shown written) (started left) (tried alts left)
  tells-tries d alts left e opens =
      tell_call (language_of b) node left world (program_of (linked b)).clauses goal rest records (shown written) (Over Failed) (Tries node alts) (outs_of-shown written) (activates d e ∙ opens) (table_sane (naming b) nat_eq (program_of (linked b)))

  tells-ends : (d : Deed ℕ) (bytes : List ℕ) (x : End (Tree ℕ)) (left : ℕ) → does ≡ d → ended d ≡ Ends (shown bytes) x → Tells (language_of b) (shown bytes) (started left) (search_at b p (Over x) left)
  tells-ends d bytes x left e ends =
      tell_ends (language_of b) node left world (program_of (linked b)).clauses goal rest records (shown bytes) x (outs_of-shown bytes) (activates d e ∙ ends) (table_sane (naming b) nat_eq (program_of (linked b)))

  -- one alternative is left, which leads to a place
  takes : (items : Items ℕ) (w : World ℕ) (left : ℕ) → Turns (language_of b) (tried (leads (record { depth = node + 1; items = items; world = w }) ∷ []) left) (record { point = At (record { depth = node + 1; items = items; world = w }); left = left; clauses = (program_of (linked b)).clauses; frames = records })
  takes items w left =
      turn_last (language_of b) node left (program_of (linked b)).clauses (program_of (linked b)).clauses (leads (record { depth = node + 1; items = items; world = w })) items w records refl

  gives-up : (left : ℕ) → Turns (language_of b) (tried [] left) (search_at b p (Over Failed) left)
  gives-up left = turn_done (language_of b) node left (program_of (linked b)).clauses records

  -- ---- it succeeds

  module _ (st : Stored) where
    abbrev moved : Path
    moved = record p { store = st }

    abbrev gone : Path
    gone = record p { store = st; f = f; pc = pc }

    unified : (es : List (Tree ℕ × Tree ℕ)) (n : ℕ) (u : Unifies (state_of p) st.state es n) (left : ℕ)
        → record { point = At (record { depth = node + 1; items = map (item_under u.unifier) rest; world = record { template = map (apply u.unifier) world.template; next = world.next + n } }); left = left; clauses = (program_of (linked b)).clauses; frames = records }
        ≡ standing st left
    unified es n u left =
        ap (λ d. record { point = At (record { depth = d; items = map (item_under u.unifier) rest; world = record { template = map (apply u.unifier) world.template; next = world.next + n } }); left = left; clauses = (program_of (linked b)).clauses; frames = records }) (sym deep)
        ∙ ap (λ i. record { point = At (record { depth = p.depth; items = i; world = record { template = map (apply u.unifier) world.template; next = world.next + n } }); left = left; clauses = (program_of (linked b)).clauses; frames = records })
        (sym (items_move (bodies b) (state_of p) st.state u.unifier p.frames f pc u.bound u.places well.frames))
        ∙ ap (λ t. record { point = At (record { depth = p.depth; items = items_of (bodies b) st.state p.frames f pc; world = record { template = t; next = world.next + n } }); left = left; clauses = (program_of (linked b)).clauses; frames = records })
        (sym (template-under (state_of p) st.state p.width p.template u.unifier well.template u.variables u.places))
        ∙ ap (λ x. record { point = At (record { depth = p.depth; items = items_of (bodies b) st.state p.frames f pc; world = record { template = template_of st.state p.width p.template; next = x } }); left = left; clauses = (program_of (linked b)).clauses; frames = records })
        (sym u.next)
        ∙ ap (λ fs. record { point = At (record { depth = p.depth; items = items_of (bodies b) st.state p.frames f pc; world = world_of st.state p.width p.template }); left = left; clauses = (program_of (linked b)).clauses; frames = fs })
        (sym (grown_frames_on b p moved refl u.extends (reverse p.choices.items) node well))

    -- a state that is as before
    abbrev in_state : State → ℕ → Configuration (language_of b)
    in_state σ left = record {
      point = At (record { depth = p.depth; items = items_of (bodies b) σ p.frames f pc; world = world_of σ p.width p.template });
      left = left;
      clauses = (program_of (linked b)).clauses;
      frames = frames_by b p.width σ p.frames (reverse p.choices.items) p.template (answers_of p);
    }

    unchanged : st.state ≡ state_of p → (left : ℕ)
        → record { point = At (record { depth = node + 1; items = rest; world = world }); left = left; clauses = (program_of (linked b)).clauses; frames = records } ≡ standing st left
    unchanged e left =
        ap (λ d. record { point = At (record { depth = d; items = rest; world = world }); left = left; clauses = (program_of (linked b)).clauses; frames = records }) (sym deep)
        ∙ ap (λ σ. in_state σ left) (sym e)

    over-same : st.state ≡ state_of p → (x : End (Tree ℕ)) (left : ℕ) → search_at b p (Over x) left ≡ search_at b moved (Over x) left
    over-same e x left =
        ap (λ σ. record { point = Over x; left = left; clauses = (program_of (linked b)).clauses; frames = frames_by b p.width σ p.frames (reverse p.choices.items) p.template (answers_of p) }) (sym e)

    pub succeeds : (d : Deed ℕ) → does ≡ d → Succeeds (state_of p) st.state d → (left : ℕ) → Tells (language_of b) (shown written) (started left) (standing st left)
    succeeds (equal es n) e u left =
        let to = At (record { depth = node + 1; items = map (item_under u.unifier) rest; world = record { template = map (apply u.unifier) world.template; next = world.next + n } }) in
        let mid : Configuration (language_of b) = record { point = to; left = left; clauses = (program_of (linked b)).clauses; frames = records } in
        let alts : List (Alternative ℕ) = leads (record { depth = node + 1; items = map (item_under u.unifier) rest; world = record { template = map (apply u.unifier) world.template; next = world.next + n } }) ∷ [] in
        tells_turns (language_of b) (shown written) (started left) (tried alts left) (standing st left)
        (tells-tries (equal es n) alts left e (ap (λ o. Opens (shown written) (Over Failed) (Tries node (bound node o rest world (world.next + n)))) (solved es (Some u.unifier) u.solved)))
        (turns_then (language_of b) (tried alts left) mid (standing st left) (takes _ _ left) (turns_same (language_of b) mid (standing st left) (unified es n u left)))
    succeeds (differ t u) e h left =
        let mid : Configuration (language_of b) = record { point = At (record { depth = node + 1; items = rest; world = world }); left = left; clauses = (program_of (linked b)).clauses; frames = records } in
        let alts : List (Alternative ℕ) = leads (record { depth = node + 1; items = rest; world = world }) ∷ [] in
        tells_turns (language_of b) (shown written) (started left) (tried alts left) (standing st left)
        (tells-tries (differ t u) alts left e (ap (λ o. Opens (shown written) (Over Failed) (Tries node (apart node o rest world))) (solved ((t, u) ∷ []) None h.1)))
        (turns_then (language_of b) (tried alts left) mid (standing st left) (takes rest world left) (turns_same (language_of b) mid (standing st left) (unchanged h.0 left)))
    succeeds no e h left = absurd h
    succeeds (raise f) e h left = absurd h
    succeeds (halt z) e h left = absurd h

    -- ---- it fails

    fails-by : (d : Deed ℕ) → does ≡ d → ended d ≡ Opens (shown written) (Over Failed) (Tries node []) → st.state ≡ state_of p → (left : ℕ) → Tells (language_of b) (shown written) (started left) (search_at b moved (Over Failed) left)
    fails-by d e opens same left =
        tells_turns (language_of b) (shown written) (started left) (tried [] left) (search_at b moved (Over Failed) left)
        (tells-tries d [] left e opens)
        (turns_then (language_of b) (tried [] left) (search_at b p (Over Failed) left) (search_at b moved (Over Failed) left) (gives-up left) (turns_same (language_of b) (search_at b p (Over Failed) left) (search_at b moved (Over Failed) left) (over-same same Failed left)))

    pub fails : (d : Deed ℕ) → does ≡ d → st.state ≡ state_of p → Failing d → (left : ℕ) → Tells (language_of b) (shown written) (started left) (search_at b moved (Over Failed) left)
    fails (equal es n) e same h left =
        fails-by (equal es n) e (ap (λ o. Opens (shown written) (Over Failed) (Tries node (bound node o rest world (world.next + n)))) (solved es None h)) same left
    fails (differ t u) e same h left =
        fails-by (differ t u) e (ap (λ o. Opens (shown written) (Over Failed) (Tries node (apart node o rest world))) (solved ((t, u) ∷ []) (Some h.0) h.1)) same left
    fails no e same h left = fails-by no e refl same left
    fails (raise f) e same h left = absurd h
    fails (halt z) e same h left = absurd h

    -- ---- it ends the run

    pub halts : (z : ℤ) → halt z ≡ does → st.state ≡ state_of p → (left : ℕ) → Tells (language_of b) (shown written) (started left) (search_at b moved (Over (Halted z)) left)
    halts z e same left = subst (Tells (language_of b) (shown written) (started left)) (over-same same (Halted z) left) (tells-ends (halt z) written (Halted z) left (sym e) refl)

    -- ---- what is promised

    module _ (store : IsStore st.state) (before after : List ℕ) where
      pub stored_well : Extends (state_of p) st.state → IsWell b moved
      stored_well e = grown_well b p moved refl e (reverse p.choices.items) p.depth store (deeper b p node p.depth (omega (arith, deep)) well)

      extends-same : st.state ≡ state_of p → Extends (state_of p) st.state
      extends-same e = subst (Extends (state_of p)) (sym e) (Extends-refl (state_of p))

      extends-of : (d : Deed ℕ) → Succeeds (state_of p) st.state d → Extends (state_of p) st.state
      extends-of (equal es n) u = u.extends
      extends-of (differ t u) h = extends-same h.0
      extends-of no h = absurd h
      extends-of (raise f) h = absurd h
      extends-of (halt z) h = absurd h

      pub yes-does : (d : Deed ℕ) → does ≡ d → Succeeds (state_of p) st.state d → after ≡ before ++ written → Activated b p gone started before after On
      yes-does d e ends text = record {
        bytes = written;
        text = text;
        well = elsewhere_well b moved f pc (stored_well (extends-of d ends));
        low = omega arith;
        width = refl;
        goes = succeeds d e ends;
      }

      pub no-does : (d : Deed ℕ) → does ≡ d → st.state ≡ state_of p → Failing d → after ≡ before ++ written → Activated b p moved started before after Fails
      no-does d e same ends text = record {
        bytes = written;
        text = text;
        well = stored_well (extends-same same);
        low = omega arith;
        width = refl;
        goes = fails d e same ends;
      }

      -- ---- by the row's number

      module _ (r : ℕ) (is : builtin_row r ≡ Some k) (distinct : AreDistinct b.names) (more : List (List ℕ)) (kept : more ≡ b.names) (args : List (Tree ℕ)) (given : args ≡ ts) where
        abbrev asked : List (List ℕ) → Deed ℕ
        asked names = deed_of (by_numbers names) (builtin_row r) args setting.caller.0 (state_of p).next

        asked_is : (names : List (List ℕ)) → names ≡ b.names → asked names ≡ does
        asked_is names e =
            ap asked e
            ∙ ap (λ o. deed_of (naming b) o args setting.caller.0 (state_of p).next) is
            ∙ ap (λ l. deed (naming b) k l setting.caller.0 (state_of p).next) given

        throws : (at : Ref) → Throws (state_of p) st.state b.names more asked r at → (left : ℕ)
            → Tells (language_of b) [] (started left) (thrown b moved (canon (tree_at st.state at)) (pops (items_here b moved f pc)) left)
        throws at t left =
            let does_is : raise t.fault ≡ does = t.raised ∙ asked_is t.done (between_same b.names t.done more t.before t.after kept) in
            let names = row_name b.names distinct goal.tree r k ts setting.caller.0 (state_of p).next t.fault is its does_is in
            let ball : fault_tree (naming b) t.fault (name_of (naming b) goal.tree) (arity_of (naming b) goal.tree) ≡ tree_at st.state at =
            sym (
            t.tree
            ∙ ap (λ ns. fault_tree (by_numbers ns) t.fault (number_in ns (row_at r).name) (row_at r).arity) kept
            ∙ ap (λ f. fault_tree (naming b) t.fault f (row_at r).arity) names.0
            ∙ ap (fault_tree (naming b) t.fault (name_of (naming b) goal.tree)) names.1
            ) in
            let items : items_here b moved f pc ≡ rest = items_stay (bodies b) (state_of p) st.state p.frames f pc t.grows well.frames in
            subst (Tells (language_of b) [] (started left))
            (ap (λ u. search_at b p (Over (Thrown (canon u) (pops rest))) left) ball
            ∙ ap (λ i. search_at b p (Over (Thrown (canon (tree_at st.state at)) (pops i))) left) (sym items)
            ∙ ap (λ fs. record { point = Over (Thrown (canon (tree_at st.state at)) (pops (items_here b moved f pc))); left = left; clauses = (program_of (linked b)).clauses; frames = fs })
            (sym (grown_frames_on b p moved refl t.grows.extends (reverse p.choices.items) node well)))
            (tells-ends (raise t.fault) [] (Thrown (canon (fault_tree (naming b) t.fault (name_of (naming b) goal.tree) (arity_of (naming b) goal.tree))) (pops rest)) left (sym does_is) refl)

        abbrev wrote : List ℕ
        wrote = output_of (by_numbers more) (builtin_row r) args

        wrote_is : wrote ≡ written
        wrote_is =
            ap (λ ns. output_of (by_numbers ns) (builtin_row r) args) kept
            ∙ ap (λ o. output_of (naming b) o args) is
            ∙ ap (output (naming b) k) given

        pub yes-done : Ending (state_of p) st.state b.names more asked r O.Yes → after ≡ before ++ written_by wrote O.Yes → Activated b p gone started before after On
        yes-done ends text = yes-does (asked more) (sym (asked_is more kept)) ends (text ∙ ap (λ l. before ++ l) wrote_is)

        pub no-done : Ending (state_of p) st.state b.names more asked r O.No → after ≡ before ++ written_by wrote O.No → Activated b p moved started before after Fails
        no-done ends text = no-does (asked more) (sym (asked_is more kept)) ends.0 ends.1 (text ∙ ap (λ l. before ++ l) wrote_is)

        pub halt-done : (z : ℤ) → Ending (state_of p) st.state b.names more asked r (O.Halt z) → after ≡ before ++ written_by wrote (O.Halt z) → Activated b p moved started before after (Halts z)
        halt-done z ends text = record {
          bytes = written;
          text = text ∙ ap (λ l. before ++ l) wrote_is;
          well = stored_well (extends-same ends.0);
          low = omega arith;
          width = refl;
          goes = halts z (ends.1 ∙ asked_is more kept) ends.0;
        }

        pub error-done : (at : Ref) (q : Path) (g : Going) → Ending (state_of p) st.state b.names more asked r (O.Error at) → after ≡ before ++ written_by wrote (O.Error at)
            → Moved b moved q (thrown b moved (canon (tree_at st.state at)) (pops (items_here b moved f pc))) g → Activated b p q started before after g
        error-done at q g ends text m = record {
          bytes = [];
          text = text;
          well = m.well;
          low = m.low;
          width = m.width;
          goes = λ left.
              let from : Configuration (language_of b) = thrown b moved (canon (tree_at st.state at)) (pops (items_here b moved f pc)) left in
              stays_then b (Turns (language_of b) from) (Tells (language_of b) [] (started left)) q left g
              (λ y t. tells_turns (language_of b) [] (started left) from y (throws at ends left) t)
              (m.goes left);
        }

        -- the same for an outcome that is one of these
        abbrev Ended : Outcome → Type 0
        Ended o = Ending (state_of p) st.state b.names more asked r o

        abbrev Told : Outcome → Type 0
        Told o = after ≡ before ++ written_by wrote o

        pub yes-of : (o : Outcome) → o ≡ O.Yes → Ended o → Told o → Activated b p gone started before after On
        yes-of o e ends text = yes-done (subst Ended e ends) (subst Told e text)

        pub no-of : (o : Outcome) → o ≡ O.No → Ended o → Told o → Activated b p moved started before after Fails
        no-of o e ends text = no-done (subst Ended e ends) (subst Told e text)

        pub halt-of : (z : ℤ) (o : Outcome) → o ≡ O.Halt z → Ended o → Told o → Activated b p moved started before after (Halts z)
        halt-of z o e ends text = halt-done z (subst Ended e ends) (subst Told e text)

        pub error-well : (at : Ref) (o : Outcome) → o ≡ O.Error at → Ended o → IsWell b moved × IsRef st.state at
        error-well at o e ends =
            let t : Throws (state_of p) st.state b.names more asked r at = subst Ended e ends in
            (stored_well t.grows.extends, t.place)

        pub error-of : (at : Ref) (q : Path) (l : CompiledProgram) (o : Outcome) (g : Going) → o ≡ O.Error at → Ended o → Told o → l ≡ b
            → Moved l moved q (thrown l moved (canon (tree_at st.state at)) (pops (items_here l moved f pc))) g → Activated b p q started before after g
        error-of at q l o g e ends text same m =
            error-done at q g (subst Ended e ends) (subst Told e text)
            (subst (λ x. Moved x moved q (thrown x moved (canon (tree_at st.state at)) (pops (items_here x moved f pc))) g) same m)

-- a compiled whose names are as before
pub compiled_same : (b : CompiledProgram) (names : List (List ℕ)) → names ≡ b.names → record b { names = names } ≡ b
compiled_same b names e = ap (λ n. record b { names = n }) e

pub if_ok : {A E : Type 0} (P Q : A → Type 0) (r : Result A E) → ((x : A) → P x → Q x) → IfOk r P → IfOk r Q
if_ok P Q (Ok x) h i = h x i
if_ok P Q (Err e) h i = tt
