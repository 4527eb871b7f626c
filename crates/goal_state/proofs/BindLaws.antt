-- Paths on which a unifier is applied to all.
use Rattle.std.proofs.Common.{◌≡◌, ℕ, ◌+◌, List, [], ◌∷◌, ◌++◌, Option, Some, None, refl, ap, ◌∙◌, map}
use Rattle.pl_terms.specs.Trees.{Tree}
use Rattle.pl_terms.specs.Occurrence.{from_to}
use Rattle.unifier_model.specs.Substitution.{apply}
use Rattle.pl_unify.specs.declared.word.Ref.{Ref}
use Rattle.pl_unify.specs.State.{State, tree_of_var, Grows, bound}
use Rattle.goal_model.specs.Table.{World, item_under}
use Rattle.goal_state.specs.Frames.{items_of, FramesFit, PlacesMove}
use Rattle.goal_state.proofs.StoreLaws.{items_move, items_stay}
use Rattle.goal_state.specs.declared.compiled.CompiledProgram.{CompiledProgram}
use Rattle.goal_state.specs.declared.path.Path.{Path}
use Rattle.goal_state.specs.Denotation.{bodies, state_of, template_of, items_here, world_here}
use Rattle.goal_state.specs.Well.{TemplateFits}

abbrev pub world_from : List (Tree ℕ) → ℕ → World ℕ
world_from l k = record { template = l; next = k }

vars_under : (s s' : State) (bs : List (ℕ × Tree ℕ)) → ((n : ℕ) → tree_of_var s' n ≡ apply bs (tree_of_var s n)) → (ns : List ℕ) → map (tree_of_var s') ns ≡ map (apply bs) (map (tree_of_var s) ns)
vars_under s s' bs h [] = refl
vars_under s s' bs h (n ∷ ns) = ap (λ t. t ∷ map (tree_of_var s') ns) (h n) ∙ ap (λ l. apply bs (tree_of_var s n) ∷ l) (vars_under s s' bs h ns)

vars_same : (s s' : State) → ((n : ℕ) → tree_of_var s' n ≡ tree_of_var s n) → (ns : List ℕ) → map (tree_of_var s') ns ≡ map (tree_of_var s) ns
vars_same s s' h [] = refl
vars_same s s' h (n ∷ ns) = ap (λ t. t ∷ map (tree_of_var s') ns) (h n) ∙ ap (λ l. tree_of_var s n ∷ l) (vars_same s s' h ns)

-- what an answer is made of, under a unifier
pub template_under : (s s' : State) (bs : List (ℕ × Tree ℕ)) (v : ℕ) (t : Option Ref) → PlacesMove s s' bs → ((n : ℕ) → tree_of_var s' n ≡ apply bs (tree_of_var s n)) → TemplateFits s t
    → template_of s' v t ≡ map (apply bs) (template_of s v t)
template_under s s' bs v None places vars fit = vars_under s s' bs vars (from_to 0 v)
template_under s s' bs v (Some r) places vars fit = ap (λ x. x ∷ []) (places r fit)

pub template_same : (s s' : State) (v : ℕ) (t : Option Ref) → Grows s s' → TemplateFits s t → template_of s' v t ≡ template_of s v t
template_same s s' v None grows fit = vars_same s s' grows.variables (from_to 0 v)
template_same s s' v (Some r) grows fit = ap (λ x. x ∷ []) (grows.places r fit)

-- ---- a store that grows

module _ (b : CompiledProgram) (p q : Path) (others : q ≡ record p { store = q.store }) (grows : Grows (state_of p) (state_of q)) where
  pub grown_items : (f pc : ℕ) → FramesFit (state_of p) p.frames → items_here b q f pc ≡ items_here b p f pc
  grown_items f pc fit = ap (λ r. items_of (bodies b) (state_of q) r.frames f pc) others ∙ items_stay (bodies b) (state_of p) (state_of q) p.frames f pc grows fit

  pub grown_world : (state_of q).next ≡ (state_of p).next → TemplateFits (state_of p) p.template → world_here b q ≡ world_here b p
  grown_world next fit =
      ap (λ r. world_from (template_of (state_of q) r.width r.template) (state_of q).next) others
      ∙ ap (λ l. world_from l (state_of q).next) (template_same (state_of p) (state_of q) p.width p.template grows fit)
      ∙ ap (λ k. world_from (template_of (state_of p) p.width p.template) k) next

-- ---- a unifier that is applied to all

module _ (b : CompiledProgram) (p q : Path) (bs : List (ℕ × Tree ℕ)) (others : q ≡ record p { store = q.store }) (is_bound : bound (state_of q) ≡ bound (state_of p) ++ bs) (places : PlacesMove (state_of p) (state_of q) bs) where
  pub bound_items : (f pc : ℕ) → FramesFit (state_of p) p.frames → items_here b q f pc ≡ map (item_under bs) (items_here b p f pc)
  bound_items f pc fit = ap (λ r. items_of (bodies b) (state_of q) r.frames f pc) others ∙ items_move (bodies b) (state_of p) (state_of q) bs p.frames f pc is_bound places fit

  pub bound_world : (next : ℕ) → ((n : ℕ) → tree_of_var (state_of q) n ≡ apply bs (tree_of_var (state_of p) n)) → (state_of q).next ≡ next → TemplateFits (state_of p) p.template
      → world_here b q ≡ record { template = map (apply bs) (world_here b p).template; next = next }
  bound_world next vars is fit =
      ap (λ r. world_from (template_of (state_of q) r.width r.template) (state_of q).next) others
      ∙ ap (λ l. world_from l (state_of q).next) (template_under (state_of p) (state_of q) bs p.width p.template places vars fit)
      ∙ ap (λ k. world_from (map (apply bs) (template_of (state_of p) p.width p.template)) k) is
