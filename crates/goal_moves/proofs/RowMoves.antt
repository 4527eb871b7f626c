-- What the rows of control constructs do, as paths go.
use Rattle.std.proofs.Common.{◌≡◌, ℕ, ◌+◌, ◌≤◌, List, [], ◌∷◌, ◌++◌, sym, ap, ◌∙◌, subst, arith, length, reverse}
use Rattle.pl_terms.specs.Trees.{Tree}
use Rattle.pl_unify.specs.declared.word.Ref.{Ref}
use Rattle.pl_unify.specs.State.{tree_at, IsRef}
use Rattle.solver_model.specs.Search.{Call, Cut, FrameOf, Tries}
use Rattle.goal_model.specs.Bodies.{flat}
use Rattle.goal_model.specs.Rows.{if_then_else, if_then, either, repeat, row_of}
use Rattle.goal_model.specs.Table.{Items, node, on}
use Rattle.goal_state.specs.Frames.{env_of}
use Rattle.goal_state.specs.declared.choice.ChoiceKind.TheVariants.{Branch}
use Rattle.goal_state.specs.declared.compiled.CompiledProgram.{CompiledProgram}
use Rattle.goal_state.specs.declared.path.Path.{Path}
use Rattle.goal_state.specs.Denotation.{naming, language_of, state_of, items_here, world_here}
use Rattle.goal_moves.specs.declared.active.Rest.{Rest}
use Rattle.goal_moves.specs.declared.active.Active.{Active}
use Rattle.goal_moves.specs.declared.going.Going.TheVariants.{On}
use Rattle.goal_moves.specs.Control.{OpenedHere, goal_at, condition_items}
use Rattle.goal_moves.specs.Moves.{goal_items, called, IsReady, Moved, Entered, here}
use Rattle.goal_moves.proofs.Steady.{Steady, well_deeper, steady_here, steady_entered, steady_branch, steady_at, opened_place, opened_state}
use Rattle.goal_moves.proofs.Committing.{Goals, entered_items}
use Rattle.goal_moves.proofs.Turning.{stack_of, acts, reach_one, reach_two, moved_on}
use Rattle.goal_state.specs.Well.{IsWell}
use Rattle.goal_state.specs.Steps.{link_to}
use Rattle.goal_state.proofs.PathLaws.{put_within}

-- a path on which a goal is activated is in order for what follows the goal
pub ready_well : (b : CompiledProgram) (p : Path) (a : Active) → IsReady b p a → IsWell b p
ready_well b p a ready = let deep = ready.depth in well_deeper b p (reverse p.choices.items) a.node p.depth (omega (arith, deep)) ready.well

pub steady_well : (b : CompiledProgram) (old p : Path) (a : Active) (fs : List (FrameOf (language_of b))) (d : ℕ) → IsReady b old a → d ≤ a.node + 1 → Steady b old p d fs → IsWell b p
steady_well b old p a fs d ready le s = let deep = ready.depth in let same = s.depth in well_deeper b p (reverse p.choices.items) d p.depth (omega (arith, deep, same, le)) s.well

-- goals in front of what follows a goal, with the record of another way
pub moved_if_then : (b : CompiledProgram) (old : Path) (a : Active) (new : Path) (c t : Ref) → IsReady b old a → row_of (naming b) (tree_at (state_of old) a.goal) ≡ if_then (tree_at (state_of old) c) (tree_at (state_of old) t)
    → Entered b old new a.rest (here new) (condition_items b old a c t (items_here b old a.rest.f a.rest.pc)) → Moved b old new (called b old a.node (goal_items b old a)) On
moved_if_then b old a new c t ready is h =
    let items : Items ℕ = condition_items b old a c t (items_here b old a.rest.f a.rest.pc) in
    moved_on b old a new a.node (stack_of b old) items ready.depth (steady_entered b old new a.rest (here new) items h old a.node (stack_of b old) (steady_here b old a.node ready.well)) (omega arith) h.goes
    (reach_one b old a items (acts b old a (if_then (tree_at (state_of old) c) (tree_at (state_of old) t)) is))

-- items were put, and a record opened that goes on with them
module _ (b : CompiledProgram) (old : Path) (a : Active) (ready : IsReady b old a) (p q : Path) (at : Rest) (other : Items ℕ) (g : Entered b old p a.rest at other) (o : OpenedHere p q Branch at.f at.pc a.setting a.node) where
  pub branch_steady : Steady b old q (a.node + 1) (Tries a.node (on a.node (world_here b old) other ∷ []) ∷ stack_of b old)
  branch_steady =
      steady_branch b old p q at.f at.pc a.setting a.node (stack_of b old) other o ready.base
      (steady_entered b old p a.rest at other g old a.node (stack_of b old) (steady_here b old a.node ready.well)) g.goes

  pub branch_rest : items_here b q a.rest.f a.rest.pc ≡ items_here b old a.rest.f a.rest.pc
  branch_rest = opened_place b p q Branch at.f at.pc a.setting a.node o a.rest.f a.rest.pc g.above ∙ g.older a.rest.f a.rest.pc (omega arith)

  pub branch_state : state_of q ≡ state_of old
  branch_state = opened_state b p q Branch at.f at.pc a.setting a.node o ∙ ap (λ r. state_of r) g.others

  pub branch_well : IsWell b q
  branch_well = steady_well b old q a (Tries a.node (on a.node (world_here b old) other ∷ []) ∷ stack_of b old) (a.node + 1) ready (omega arith) branch_steady

  pub branch_within : a.rest.f ≤ length q.frames
  branch_within =
      let within = put_within b p (record p { frames = q.frames }) (link_to at.f at.pc a.setting) o.opened.rest o.opened.put in
      let above = g.above in
      omega (arith, within.0, above)

  pub branch_ref : (r : Ref) → IsRef (state_of old) r → IsRef (state_of q) r
  branch_ref r le = subst (λ s. IsRef s r) (sym branch_state) le

  pub branch_base : a.setting.base ≤ (state_of q).next
  branch_base = subst (λ s. a.setting.base ≤ s.next) (sym branch_state) ready.base

  pub moved_if_then_else : (new : Path) (c t : Ref) (u : Tree ℕ) → row_of (naming b) (tree_at (state_of old) a.goal) ≡ if_then_else (tree_at (state_of old) c) (tree_at (state_of old) t) u
      → other ≡ flat (naming b) u (env_of a.setting) a.setting.depth ++ items_here b old a.rest.f a.rest.pc
      → Entered b q new a.rest (here new) (condition_items b q a c t (items_here b q a.rest.f a.rest.pc)) → Moved b old new (called b old a.node (goal_items b old a)) On
  moved_if_then_else new c t u is same h =
      let front : FrameOf (language_of b) = Tries a.node (on a.node (world_here b old) other ∷ []) in
      let items : Items ℕ = condition_items b old a c t (items_here b old a.rest.f a.rest.pc) in
      moved_on b old a new (a.node + 1) (front ∷ stack_of b old) items ready.depth
      (steady_entered b q new a.rest (here new) (condition_items b q a c t (items_here b q a.rest.f a.rest.pc)) h old (a.node + 1) (front ∷ stack_of b old) branch_steady) (omega arith)
      (h.goes ∙ (λ i. flat (naming b) (tree_at (branch_state i) c) (env_of a.setting) (a.node + 1) ++ (Cut a.node ∷ (flat (naming b) (tree_at (branch_state i) t) (env_of a.setting) a.setting.depth ++ branch_rest i))))
      (reach_two b old a items other
      (acts b old a (if_then_else (tree_at (state_of old) c) (tree_at (state_of old) t) u) is
      ∙ ap (λ l. node a.node (on a.node (world_here b old) items ∷ on a.node (world_here b old) l ∷ [])) (sym same)))

  pub moved_either : (new : Path) (l : Ref) (u : Tree ℕ) → row_of (naming b) (tree_at (state_of old) a.goal) ≡ either (tree_at (state_of old) l) u
      → other ≡ flat (naming b) u (env_of a.setting) a.setting.depth ++ items_here b old a.rest.f a.rest.pc
      → Goals b q new a.rest l a.setting → Moved b old new (called b old a.node (goal_items b old a)) On
  moved_either new l u is same h =
      let front : FrameOf (language_of b) = Tries a.node (on a.node (world_here b old) other ∷ []) in
      let items : Items ℕ = entered_items b old l a.setting (items_here b old a.rest.f a.rest.pc) in
      moved_on b old a new (a.node + 1) (front ∷ stack_of b old) items ready.depth
      (steady_entered b q new a.rest (here new) (entered_items b q l a.setting (items_here b q a.rest.f a.rest.pc)) h old (a.node + 1) (front ∷ stack_of b old) branch_steady) (omega arith)
      (h.goes ∙ (λ i. flat (naming b) (tree_at (branch_state i) l) (env_of a.setting) a.setting.depth ++ branch_rest i))
      (reach_two b old a items other
      (acts b old a (either (tree_at (state_of old) l) u) is
      ∙ ap (λ l. node a.node (on a.node (world_here b old) items ∷ on a.node (world_here b old) l ∷ [])) (sym same)))

  pub moved_repeat : row_of (naming b) (tree_at (state_of old) a.goal) ≡ repeat
      → other ≡ Call (goal_at old a) ∷ items_here b old a.rest.f a.rest.pc
      → Moved b old (record q { f = a.rest.f; pc = a.rest.pc }) (called b old a.node (goal_items b old a)) On
  moved_repeat is same =
      let front : FrameOf (language_of b) = Tries a.node (on a.node (world_here b old) other ∷ []) in
      let items : Items ℕ = items_here b old a.rest.f a.rest.pc in
      moved_on b old a (record q { f = a.rest.f; pc = a.rest.pc }) (a.node + 1) (front ∷ stack_of b old) items ready.depth
      (steady_at b old q (a.node + 1) a.rest.f a.rest.pc (front ∷ stack_of b old) branch_steady) (omega arith)
      branch_rest
      (reach_two b old a items other
      (acts b old a repeat is
      ∙ ap (λ l. node a.node (on a.node (world_here b old) items ∷ on a.node (world_here b old) l ∷ [])) (sym same)))
