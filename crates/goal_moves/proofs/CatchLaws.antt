-- Catches that are active for a ball.
use Rattle.std.proofs.Common.{◌≡◌, ℕ, ◌+◌, ◌<◌, ◌≤◌, true, List, [], ◌∷◌, ◌++◌, Option, Some, None, Result, Ok, Err, refl, sym, ap, ◌∙◌, subst, arith, length, reverse, take, map, inr, length-take}
use Rattle.std.specs.Prelude.{nat_eq}
use Rattle.std.proofs.lemmas.List.{map-append}
use Rattle.pl_terms.specs.Trees.{Tree}
use Rattle.pl_terms.specs.Occurrence.{canon}
use Rattle.pl_atoms.specs.declared.names.NameId.{NameId}
use Rattle.unifier_model.specs.Substitution.{apply}
use Rattle.unifier_model.specs.Mgu.{mgu, unifier}
use Rattle.unifier_model.proofs.LawProofs.{Solved-idempotent}
use Rattle.unifier_model.proofs.MguProofs.{Solved-mgu}
use Rattle.unifier_model.specs.UnifierLaws.{IsIdempotent}
use Rattle.pl_unify.specs.declared.word.Ref.{Ref}
use Rattle.pl_unify.specs.State.{Stored, state_at, tree_at, IsRef, IsStore, Extends, Grows}
use Rattle.pl_unify.specs.Steps.{NotUnified}
use Rattle.solver_model.specs.Search.{At, Over, Thrown, Catches, Language, PointOf, FrameOf, has, pops}
use Rattle.solver_model.specs.Configurations.{Configuration, Falling, Turns}
use Rattle.solver_model.proofs.TurnLaws.{turns_then, turns_same, turn_throw_on, turn_caught}
use Rattle.goal_model.specs.Bodies.{goal_of, flat}
use Rattle.goal_model.specs.Table.{Items, World, Recovery, copy_from, variable_count, item_under, recovered, recovery_point}
use Rattle.pl_store.specs.Runs.{program_of}
use Rattle.goal_state.specs.declared.frames.Setting.{Setting}
use Rattle.goal_state.specs.Frames.{place_get, env_of, items_of}
use Rattle.goal_state.proofs.FrameLaws.{items_take}
use Rattle.goal_state.specs.declared.choice.Choice.{Choice}
use Rattle.goal_state.specs.declared.choice.ChoiceKind.TheVariants.{Catch}
use Rattle.goal_state.specs.declared.compiled.CompiledProgram.{CompiledProgram}
use Rattle.goal_state.specs.declared.path.Path.{Path}
use Rattle.goal_state.specs.Denotation.{bodies, linked, naming, language_of, state_of, answers_of, items_here, world_here, frames_on, frame_from, setting_in, search_at, point_here, first}
use Rattle.goal_state.specs.Well.{KindFits, IsWell, IsWellWith}
use Rattle.goal_state.proofs.PathLaws.{grown_frames_on, grown_well}
use Rattle.goal_constructs.specs.Calling.{IsCalled}
use Rattle.goal_constructs.specs.declared.calling.Called.{Called}
use Rattle.goal_constructs.specs.declared.calling.Called.TheVariants as C
use Rattle.goal_moves.specs.declared.active.Rest.{Rest}
use Rattle.goal_moves.specs.Moves.{search_with, resumed, Entered, here}
use Rattle.goal_moves.specs.Throwing.{exits_here, Meets, Leads, Passed, Taken, Hands, GoesOn, Recovered, Recovers}
use Rattle.goal_moves.specs.declared.raising.Passing.{Passing}
use Rattle.goal_moves.specs.declared.raising.Passing.TheVariants as P
use Rattle.goal_moves.proofs.RetryLaws.{IsInside, inside_catch, retried_frames, retried_well, placed_well, setting_low}
use Rattle.goal_moves.proofs.GatherLaws.{mgu_is}
use Rattle.goal_moves.proofs.UnderLaws.{IsUnder}
use Rattle.goal_moves.proofs.StayLaws.{flat_stays, goal_stays}
use Rattle.goal_moves.proofs.ExitLaws.{exits_same}
use Rattle.goal_moves.proofs.Steady.{Steady, steady_here, steady_entered}

mgu_twice : (es : List (Tree ℕ × Tree ℕ)) → IsIdempotent (mgu es)
mgu_twice es = Solved-idempotent es (mgu es) (Solved-mgu es)

-- the recovery is a goal, which goes on in the setting of its catch
pub recovers_goal : (b : CompiledProgram) (p new : Path) (c : Choice) (goal : Ref) (rest : Rest) (st : Setting) (called : Called) → GoesOn p c rest → st ≡ setting_in (place_get (reverse p.frames) c.rest)
    → Entered b (record p { depth = c.depth + 1 }) new rest (here new) (flat (naming b) (tree_at (state_of p) goal) (env_of st) (c.depth + 1) ++ items_here b p rest.f rest.pc) → called ≡ C.Goal goal → Recovers b p new c called P.Takes
recovers_goal b p new c goal rest st called same is entered e =
    subst (λ k. Recovers b p new c k P.Takes) (sym e) (record {
      rest = rest;
      same = same;
      entered = subst (λ s. Entered b (record p { depth = c.depth + 1 }) new rest (here new) (flat (naming b) (tree_at (state_of p) goal) (env_of s) (c.depth + 1) ++ items_here b p rest.f rest.pc)) is entered;
    })

-- a path that went back to a catch that is active for a ball
module _ (b : CompiledProgram) (p q : Path) (c : Choice) (name : NameId) (catcher recovery : Ref) (is : c.kind ≡ Catch name catcher recovery) (w : IsWellWith b p (c ∷ reverse p.choices.items) p.depth)
    (state : state_of q ≡ state_at c.mark (state_of p)) (frames : q.frames ≡ take c.rest p.frames) (others : q ≡ record p { store = q.store; frames = q.frames }) where
  abbrev L : Language
  L = language_of b

  inside : IsInside p c
  inside = inside_catch p c name catcher recovery is

  shallow : c.depth < p.depth
  shallow = w.records.0.shallow

  pub back_well : IsWellWith b q (reverse q.choices.items) c.depth
  back_well = retried_well b p q c inside w state frames others

  kind : KindFits (linked b) (state_of q) (Catch name catcher recovery) p.template
  kind = subst (λ σ. KindFits (linked b) σ (Catch name catcher recovery) p.template) (sym state) (subst (λ k. KindFits (linked b) (state_at c.mark (state_of p)) k p.template) is w.records.0.kind)

  pub catcher_fits : IsRef (state_of q) catcher
  catcher_fits = kind.0

  pub recovery_fits : IsRef (state_of q) recovery
  recovery_fits = kind.1

  -- what the catch is, where what follows goes on from a place
  abbrev recovering : Rest → Recovery ℕ
  recovering at = record {
    depth = c.depth;
    catcher = tree_at (state_of q) catcher;
    recovery = tree_at (state_of q) recovery;
    name = name.0;
    env = env_of (setting_in (place_get (reverse q.frames) c.rest));
    rest = items_here b q at.f at.pc;
    world = world_here b q;
  }

  same_frames : (at : Rest) → GoesOn q c at → frames_on b p (c ∷ reverse p.choices.items) ≡ Catches c.depth (recovering at) ∷ frames_on b q (reverse q.choices.items)
  same_frames at h =
      retried_frames b p q c inside w state frames others at.f at.pc h
      ∙ ap (λ k. frame_from b q.width k c.depth (state_of q) (items_here b q at.f at.pc) (env_of (setting_in (place_get (reverse q.frames) c.rest))) q.template (first (answers_of p)) ∷ frames_on b q (reverse q.choices.items)) is

  -- the catch stands in front
  fronted : (at : Rest) → GoesOn q c at → (point : PointOf L) (left : ℕ) → Turns L (resumed b p c point left) (search_with b p point (Catches c.depth (recovering at) ∷ frames_on b q (reverse q.choices.items)) left)
  fronted at h point left =
      turns_same L (resumed b p c point left) (search_with b p point (Catches c.depth (recovering at) ∷ frames_on b q (reverse q.choices.items)) left)
      (ap (λ fs. search_with b p point fs left) (same_frames at h))

  -- a path that stands at the depth of the catch
  at_depth : (r : Path) → IsWellWith b r (reverse r.choices.items) c.depth → IsWell b (record r { depth = c.depth })
  at_depth r v = placed_well b r (reverse r.choices.items) c.depth c.depth r.f r.pc c.depth (omega arith) v

  module _ (ball : Tree ℕ) (S1 : Stored) (copy : Ref) (grows : Grows (state_of q) S1.state) (tree : tree_at S1.state copy ≡ copy_from (state_of q).next ball) where
    recover_is : (at : Rest) (o : Option (List (ℕ × Tree ℕ))) → mgu ((tree_at S1.state copy, tree_at S1.state catcher) ∷ []) ≡ o → L.recover (recovering at) ball ≡ recovered (naming b) (recovering at) ((state_of q).next + variable_count ball) o
    recover_is at o e =
        ap (λ t. recovered (naming b) (recovering at) ((state_of q).next + variable_count ball) (unifier nat_eq ((t, tree_at (state_of q) catcher) ∷ []))) (sym tree)
        ∙ ap (λ t. recovered (naming b) (recovering at) ((state_of q).next + variable_count ball) (unifier nat_eq ((tree_at S1.state copy, t) ∷ []))) (sym (grows.places catcher catcher_fits))
        ∙ ap (recovered (naming b) (recovering at) ((state_of q).next + variable_count ball)) (sym (mgu_is ((tree_at S1.state copy, tree_at S1.state catcher) ∷ [])) ∙ e)

    -- the ball does not unify with the catcher
    module _ (S2 : Stored) (extends : Extends (state_of q) S2.state) (store : IsStore S2.state) (differ : NotUnified S1.state copy catcher) where
      abbrev on : Path
      on = record q { store = S2; depth = c.depth }

      on_well : IsWell b on
      on_well = at_depth (record q { store = S2 }) (grown_well b q (record q { store = S2 }) refl extends (reverse q.choices.items) c.depth store back_well)

      pub not_caught : (at next : Rest) → Leads b p at next c.depth → next.f ≤ c.rest → Passed b p on c ball at ball next
      not_caught at next leads low = record {
        well = on_well;
        low = omega (arith, shallow);
        width = ap (λ (x : Path). x.width) others;
        choices = ap (λ (x : Path). x.choices) others;
        goes = λ left x m.
            let fs : List (FrameOf L) = frames_on b q (reverse q.choices.items) in
            let front : List (FrameOf L) = Catches c.depth (recovering (record { f = c.rest; pc = 0 })) ∷ fs in
            let within : c.rest ≤ length p.frames = w.records.0.rest in
            let exits : exits_here b p next ≡ exits_here b on next =
            exits_same (bodies b) (state_of p) S2.state p.frames next.f next.pc
            ∙ ap pops (sym (items_take (bodies b) S2.state p.frames c.rest next.f next.pc low within))
            ∙ ap (λ l. pops (items_of (bodies b) S2.state l next.f next.pc)) (sym frames) in
            let same : frames_on b on (reverse on.choices.items) ≡ fs = grown_frames_on b q (record q { store = S2 }) refl extends (reverse q.choices.items) c.depth back_well in
            record {
              active = m.active;
              agrees = λ k lt. m.agrees k (omega (arith, lt, shallow)) ∙ leads.agrees k lt ∙ ap (λ l. has l k) exits;
              falls = λ s. subst (Falling L) exits (leads.falls (m.falls s));
              goes =
                  turns_then L x (resumed b p c (Over (Thrown ball m.active)) left) (search_at b on (Over (Thrown ball m.active)) left) m.goes
                  (turns_then L (resumed b p c (Over (Thrown ball m.active)) left) (search_with b p (Over (Thrown ball m.active)) front left) (search_at b on (Over (Thrown ball m.active)) left)
                  (fronted (record { f = c.rest; pc = 0 }) (λ x s. refl) (Over (Thrown ball m.active)) left)
                  (turns_then L (search_with b p (Over (Thrown ball m.active)) front left) (search_with b p (Over (Thrown ball m.active)) fs left) (search_at b on (Over (Thrown ball m.active)) left)
                  (turn_throw_on L ball m.active c.depth left (program_of (linked b)).clauses (recovering (record { f = c.rest; pc = 0 })) fs (inr (recover_is (record { f = c.rest; pc = 0 }) None differ)))
                  (turns_same L (search_with b p (Over (Thrown ball m.active)) fs left) (search_at b on (Over (Thrown ball m.active)) left) (ap (λ gs. search_with b p (Over (Thrown ball m.active)) gs left) (sym same)))));
            };
      }

    -- it unifies: replacements were made, and the recovery was taken for a goal
    module _ (bs : List (ℕ × Tree ℕ)) (solved : mgu ((tree_at S1.state copy, tree_at S1.state catcher) ∷ []) ≡ Some bs) (term : Tree ℕ) (replaced : term ≡ apply bs (tree_at (state_of q) recovery)) (S3 : Stored)
        (under : IsUnder b q (record q { store = S3 }) c.depth bs ((state_of q).next + variable_count ball)) where
      abbrev end : Path
      end = record q { store = S3 }

      abbrev moved_world : World ℕ
      moved_world = record { template = map (apply bs) (world_here b q).template; next = (state_of q).next + variable_count ball }

      term_stays : apply bs term ≡ term
      term_stays = ap (apply bs) replaced ∙ subst IsIdempotent solved (mgu_twice ((tree_at S1.state copy, tree_at S1.state catcher) ∷ [])) (tree_at (state_of q) recovery) ∙ sym replaced

      point_is : (at : Rest) (r : Result (Tree ℕ) (Tree ℕ)) → goal_of (naming b) term name.0 3 ≡ r → L.recover (recovering at) ball ≡ Some (recovery_point (naming b) (recovering at) r bs ((state_of q).next + variable_count ball))
      point_is at r e =
          recover_is at (Some bs) solved
          ∙ ap (λ t. Some (recovery_point (naming b) (recovering at) (goal_of (naming b) t name.0 3) bs ((state_of q).next + variable_count ball))) (sym replaced)
          ∙ ap (λ k. Some (recovery_point (naming b) (recovering at) k bs ((state_of q).next + variable_count ball))) e

      pub recovery_base : (setting_in (place_get (reverse q.frames) c.rest)).base ≤ S3.state.next
      recovery_base =
          let within : c.rest ≤ length p.frames = w.records.0.rest in
          let l : length q.frames ≡ length (take c.rest p.frames) = ap length frames in
          setting_low S3.state q.frames c.rest w.records.0.some (omega (arith, within, l, length-take c.rest p.frames)) under.well.frames

      caught_turns : (at : Rest) → GoesOn q c at → (point : PointOf L) → L.recover (recovering at) ball ≡ Some point → (from : Rest) → has (exits_here b p from) c.depth ≡ true → (left : ℕ) (x : Configuration L) → Meets b x p c ball from left
          → Turns L x (search_with b p point (frames_on b end (reverse end.choices.items)) left)
      caught_turns at h point e from active left x m =
          let fs : List (FrameOf L) = frames_on b q (reverse q.choices.items) in
          let front : List (FrameOf L) = Catches c.depth (recovering at) ∷ fs in
          turns_then L x (resumed b p c (Over (Thrown ball m.active)) left) (search_with b p point (frames_on b end (reverse end.choices.items)) left) m.goes
          (turns_then L (resumed b p c (Over (Thrown ball m.active)) left) (search_with b p (Over (Thrown ball m.active)) front left) (search_with b p point (frames_on b end (reverse end.choices.items)) left)
          (fronted at h (Over (Thrown ball m.active)) left)
          (turns_then L (search_with b p (Over (Thrown ball m.active)) front left) (search_with b p point fs left) (search_with b p point (frames_on b end (reverse end.choices.items)) left)
          (turn_caught L ball m.active c.depth left (program_of (linked b)).clauses (recovering at) point fs (m.agrees c.depth shallow ∙ active) e)
          (turns_same L (search_with b p point fs left) (search_with b p point (frames_on b end (reverse end.choices.items)) left) (ap (λ gs. search_with b p point gs left) (sym under.frames)))))

      -- the recovery goes on
      pub is_taken : (goal : Ref) (new : Path) (from : Rest) → goal_of (naming b) term name.0 3 ≡ Ok (tree_at S3.state goal) → has (exits_here b p from) c.depth ≡ true → Recovered b end new c goal → Taken b p new c ball from
      is_taken goal new from e active r =
          let env = env_of (setting_in (place_get (reverse q.frames) c.rest)) in
          let t : Tree ℕ = tree_at S3.state goal in
          let items : Items ℕ = flat (naming b) t env (c.depth + 1) ++ items_here b end r.rest.f r.rest.pc in
          let deep : Path = record end { depth = c.depth + 1 } in
          let deep_well : IsWellWith b deep (reverse deep.choices.items) (c.depth + 1) = placed_well b end (reverse end.choices.items) c.depth (c.depth + 1) end.f end.pc (c.depth + 1) (omega arith) under.well in
          let st : Steady b deep new (c.depth + 1) (frames_on b deep (reverse deep.choices.items)) =
          steady_entered b deep new r.rest (here new) items r.entered deep (c.depth + 1) (frames_on b deep (reverse deep.choices.items)) (steady_here b deep (c.depth + 1) deep_well) in
          let stays : apply bs t ≡ t = goal_stays (naming b) bs term t name.0 3 term_stays e in
          let moved : map (item_under bs) (flat (naming b) t env (c.depth + 1) ++ items_here b q r.rest.f r.rest.pc) ≡ items =
          map-append (item_under bs) (flat (naming b) t env (c.depth + 1)) (items_here b q r.rest.f r.rest.pc)
          ∙ ap (λ l. l ++ map (item_under bs) (items_here b q r.rest.f r.rest.pc)) (flat_stays (naming b) bs t env (c.depth + 1) stays)
          ∙ ap (λ l. flat (naming b) t env (c.depth + 1) ++ l) (sym (under.items r.rest)) in
          let point : L.recover (recovering r.rest) ball ≡ Some (At (record { depth = c.depth + 1; items = items; world = world_here b end })) =
          point_is r.rest (Ok t) e
          ∙ ap (λ i. Some (At (record { depth = c.depth + 1; items = i; world = moved_world }))) moved
          ∙ ap (λ v. Some (At (record { depth = c.depth + 1; items = items; world = v }))) (sym under.world) in
          let depth : new.depth ≡ c.depth + 1 = st.depth in
          record {
            well = subst (λ d. IsWellWith b new (reverse new.choices.items) d) (sym depth) st.well;
            low = omega (arith, depth, shallow);
            width = st.width ∙ ap (λ (x : Path). x.width) others;
            choices = ap (λ (x : Path). x.choices) r.entered.others ∙ ap (λ (x : Path). x.choices) others;
            goes = λ left x m.
                turns_then L x (search_with b p (At (record { depth = c.depth + 1; items = items; world = world_here b end })) (frames_on b end (reverse end.choices.items)) left) (search_at b new (point_here b new) left)
                (caught_turns r.rest r.same (At (record { depth = c.depth + 1; items = items; world = world_here b end })) point from active left x m)
                (turns_same L (search_with b p (At (record { depth = c.depth + 1; items = items; world = world_here b end })) (frames_on b end (reverse end.choices.items)) left) (search_at b new (point_here b new) left)
                (λ i. search_with b p (At (record { depth = sym depth i; items = sym r.entered.goes i; world = sym st.world i })) (sym st.frames i) left));
          }

      -- the recovery is no goal
      pub is_other : (place : Ref) (from next : Rest) → goal_of (naming b) term name.0 3 ≡ Err (tree_at S3.state place) → has (exits_here b p from) c.depth ≡ true → GoesOn q c next
          → Passed b p (record end { depth = c.depth }) c ball from (canon (tree_at S3.state place)) next
      is_other place from next e active h =
          let other : Tree ℕ = canon (tree_at S3.state place) in
          let exits : List ℕ = exits_here b q next in
          let same : exits ≡ exits_here b end next = exits_same (bodies b) (state_of q) S3.state q.frames next.f next.pc in
          record {
            well = at_depth end under.well;
            low = omega (arith, shallow);
            width = ap (λ (x : Path). x.width) others;
            choices = ap (λ (x : Path). x.choices) others;
            goes = λ left x m.
                let turn : Turns L x (search_with b p (Over (Thrown other exits)) (frames_on b end (reverse end.choices.items)) left) = caught_turns next h (Over (Thrown other exits)) (point_is next (Err (tree_at S3.state place)) e) from active left x m in
                record {
                  active = exits;
                  agrees = λ k lt. ap (λ l. has l k) same;
                  falls = λ s. subst (Falling L) same (turn.sane s).0.1;
                  goes = turn;
                };
          }

      -- what is made of the recovery
      pub handed : (called : Called) (new : Path) (from : Rest) (r : Passing) → IsCalled S3.state (goal_of (naming b) term name.0 3) called → has (exits_here b p from) c.depth ≡ true → Recovers b end new c called r → Hands b p new c ball from r
      handed (C.Goal goal) new from P.Takes i active h = is_taken goal new from i.1 active h
      handed (C.Goal goal) new from (P.Passes next) i active h = absurd h
      handed (C.Goal goal) new from (P.Raises other next) i active h = absurd h
      handed (C.Ball place) new from P.Takes i active h = absurd h
      handed (C.Ball place) new from (P.Passes next) i active h = absurd h
      handed (C.Ball place) new from (P.Raises other next) i active h =
          subst (λ t. Passed b p new c ball from t next) (sym h.1)
          (subst (λ y. Passed b p y c ball from (canon (tree_at S3.state place)) next) (sym h.0) (is_other place from next i.1 active h.2))
