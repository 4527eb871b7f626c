-- Goals that are entered in front of a cut.
use Rattle.std.proofs.Common.{◌≡◌, ℕ, ◌+◌, ◌≤◌, ◌∷◌, ◌++◌, Result, Ok, Err, IfOk, OnOk, sym, ap, ◌∙◌, subst, length, reverse}
use Rattle.pl_unify.specs.declared.word.Ref.{Ref}
use Rattle.pl_unify.specs.State.{tree_at, IsRef}
use Rattle.solver_model.specs.Search.{Cut}
use Rattle.goal_model.specs.Bodies.{flat}
use Rattle.goal_model.specs.Environments.{argument_place}
use Rattle.goal_model.specs.Table.{Items}
use Rattle.goal_state.specs.declared.frames.Setting.{Setting}
use Rattle.goal_state.specs.Frames.{env_of}
use Rattle.goal_state.specs.declared.compiled.CompiledProgram.{CompiledProgram}
use Rattle.goal_state.specs.declared.path.Path.{Path}
use Rattle.goal_state.specs.Denotation.{naming, state_of, items_here}
use Rattle.goal_state.specs.Well.{IsWellWith, floor_of}
use Rattle.goal_moves.specs.declared.active.Rest.{Rest}
use Rattle.goal_moves.specs.declared.active.Active.{Active}
use Rattle.goal_moves.specs.Moves.{Entered, here}
use Rattle.goal_moves.specs.Control.{committing, condition_items}
use Rattle.goal_moves.proofs.Steady.{floor_fits, entered_state, entered_then}

pub OnOk-then : {X E P Q : Type 0} (r : Result X E) → OnOk r P → (P → Q) → OnOk r Q
OnOk-then (Ok x) h f = f h
OnOk-then (Err e) h f = tt

pub IfOk-then : {X E : Type 0} {P Q : X → Type 0} (r : Result X E) → IfOk r P → ((x : X) → P x → Q x) → IfOk r Q
IfOk-then (Ok x) h f = f x h
IfOk-then (Err e) h f = tt

-- what a call owes after goals were put before what is to be run
module _ (b : CompiledProgram) (p q : Path) (rest at : Rest) (items : Items ℕ) (h : Entered b p q rest at items) where
  pub after_floor : (d : ℕ) → IsWellWith b p (reverse p.choices.items) d → floor_of (reverse q.choices.items) ≤ length q.frames
  after_floor d w = floor_fits b q d (h.well d w)

  pub after_ref : (r : Ref) → IsRef (state_of p) r → IsRef (state_of q) r
  after_ref r le = subst (λ s. IsRef s r) (sym (entered_state b p q rest at items h)) le

  pub after_base : (n : ℕ) → n ≤ (state_of p).next → n ≤ (state_of q).next
  after_base n le = subst (λ s. n ≤ s.next) (sym (entered_state b p q rest at items h)) le

  pub after_tree : (r : Ref) → tree_at (state_of q) r ≡ tree_at (state_of p) r
  after_tree r = ap (λ s. tree_at s r) (entered_state b p q rest at items h)

abbrev pub entered_items : (b : CompiledProgram) → Path → Ref → Setting → Items ℕ → Items ℕ
entered_items b p body st after = flat (naming b) (tree_at (state_of p) body) (env_of st) st.depth ++ after

-- a cut that was put before what is to be run
abbrev pub Cutting : (b : CompiledProgram) → Path → Path → Rest → Rest → Setting → Type 0
Cutting b p q rest at st = Entered b p q rest at (Cut st.depth ∷ items_here b p rest.f rest.pc)

abbrev pub Goals : (b : CompiledProgram) → Path → Path → Rest → Ref → Setting → Type 0
Goals b p q rest term st = Entered b p q rest (here q) (entered_items b p term st (items_here b p rest.f rest.pc))

pub entered_committing : (b : CompiledProgram) (p q r : Path) (a : Active) (body : Ref) (after cut : Rest) (depth : ℕ) (inner outer : Setting) → depth ≡ a.node + 1 → inner ≡ record a.setting { lookup = a.setting.context; depth = depth } → outer ≡ record a.setting { depth = a.node }
    → Cutting b p q after cut outer → Goals b q r cut body inner
    → Entered b p r after (here r) (committing b p a body (items_here b p after.f after.pc))
entered_committing b p q r a body after cut depth inner outer deep is out h k =
    let cutting : Items ℕ = Cut outer.depth ∷ items_here b p after.f after.pc in
    let same : entered_items b q body inner (items_here b q cut.f cut.pc) ≡ committing b p a body (items_here b p after.f after.pc) =
    ap (λ x. entered_items b q body x (items_here b q cut.f cut.pc)) is
    ∙ ap (λ x. entered_items b q body (record a.setting { lookup = a.setting.context; depth = x }) (items_here b q cut.f cut.pc)) deep
    ∙ ap (λ t. flat (naming b) t (argument_place (env_of a.setting)) (a.node + 1) ++ items_here b q cut.f cut.pc) (after_tree b p q after cut cutting h body)
    ∙ ap (λ l. flat (naming b) (tree_at (state_of p) body) (argument_place (env_of a.setting)) (a.node + 1) ++ l) (h.goes ∙ ap (λ x. Cut x.depth ∷ items_here b p after.f after.pc) out) in
    entered_then b p q after cut cutting h r (here r) (committing b p a body (items_here b p after.f after.pc)) (subst (Entered b q r cut (here r)) same k)

pub entered_condition : (b : CompiledProgram) (p q r s : Path) (a : Active) (condition «then» : Ref) (cut : Rest) (depth : ℕ) (inner outer : Setting) → depth ≡ a.node + 1 → inner ≡ record a.setting { depth = depth } → outer ≡ record a.setting { depth = a.node }
    → Goals b p q a.rest «then» a.setting → Cutting b q r (here q) cut outer → Goals b r s cut condition inner
    → Entered b p s a.rest (here s) (condition_items b p a condition «then» (items_here b p a.rest.f a.rest.pc))
entered_condition b p q r s a condition «then» cut depth inner outer deep is out g h k =
    let rest : Items ℕ = items_here b p a.rest.f a.rest.pc in
    let behind : Items ℕ = entered_items b p «then» a.setting rest in
    let cutting : Items ℕ = Cut outer.depth ∷ items_here b q q.f q.pc in
    let m : Entered b p r a.rest cut cutting = entered_then b p q a.rest (here q) behind g r cut cutting h in
    let same : entered_items b r condition inner (items_here b r cut.f cut.pc) ≡ condition_items b p a condition «then» rest =
    ap (λ x. entered_items b r condition x (items_here b r cut.f cut.pc)) is
    ∙ ap (λ x. entered_items b r condition (record a.setting { depth = x }) (items_here b r cut.f cut.pc)) deep
    ∙ ap (λ t. flat (naming b) t (env_of a.setting) (a.node + 1) ++ items_here b r cut.f cut.pc) (after_tree b p r a.rest cut cutting m condition)
    ∙ ap (λ l. flat (naming b) (tree_at (state_of p) condition) (env_of a.setting) (a.node + 1) ++ l) (h.goes ∙ ap (λ x. Cut x.depth ∷ items_here b q q.f q.pc) out ∙ ap (λ l. Cut a.node ∷ l) g.goes) in
    entered_then b p r a.rest cut cutting m s (here s) (condition_items b p a condition «then» rest) (subst (Entered b r s cut (here s)) same k)
