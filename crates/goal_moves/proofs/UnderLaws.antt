-- Paths in whose store two places were unified, where the store grew before and after.
use Rattle.std.proofs.Common.{◌≡◌, ℕ, List, refl, ap, ◌∙◌, reverse, map}
use Rattle.pl_terms.specs.Trees.{Tree}
use Rattle.unifier_model.specs.Substitution.{apply}
use Rattle.pl_unify.specs.declared.word.Ref.{Ref}
use Rattle.pl_unify.specs.State.{Stored, tree_at, IsRef, IsStore, Extends, Grows}
use Rattle.pl_unify.specs.Steps.{Unified}
use Rattle.pl_unify.proofs.StoreLaws.{Extends-trans}
use Rattle.goal_model.specs.Table.{item_under}
use Rattle.goal_state.specs.declared.compiled.CompiledProgram.{CompiledProgram}
use Rattle.goal_state.specs.declared.path.Path.{Path}
use Rattle.goal_state.specs.Denotation.{state_of, items_here, world_here, frames_on}
use Rattle.goal_state.specs.Well.{IsWellWith}
use Rattle.goal_state.proofs.PathLaws.{grown_frames_on, grown_well}
use Rattle.goal_state.proofs.BindLaws.{grown_items, grown_world, bound_items, bound_world, template_same}
use Rattle.goal_moves.specs.declared.active.Rest.{Rest}

-- a path on which replacements were made, with the number of the next new variable
pub record IsUnder (b : CompiledProgram) (q end : Path) (depth : ℕ) (bs : List (ℕ × Tree ℕ)) (next : ℕ) : Type 0 where
  pub well : IsWellWith b end (reverse end.choices.items) depth
  pub frames : frames_on b end (reverse end.choices.items) ≡ frames_on b q (reverse q.choices.items)
  pub items : (at : Rest) → items_here b end at.f at.pc ≡ map (item_under bs) (items_here b q at.f at.pc)
  pub world : world_here b end ≡ record { template = map (apply bs) (world_here b q).template; next = next }

module _ (b : CompiledProgram) (q : Path) (depth : ℕ) (w : IsWellWith b q (reverse q.choices.items) depth) (S1 S2 S3 : Stored) (grows : Grows (state_of q) S1.state) (left right : Ref) (un : Unified S1.state S2.state left right) (grew : Grows S2.state S3.state)
    (store1 : IsStore S1.state) (store2 : IsStore S2.state) (store3 : IsStore S3.state) (k : ℕ) (next : S1.state.next ≡ k) (same_next : S3.state.next ≡ S2.state.next) where
  abbrev one : Path
  one = record q { store = S1 }

  abbrev two : Path
  two = record q { store = S2 }

  abbrev end : Path
  end = record q { store = S3 }

  before : Extends (state_of q) S2.state
  before = Extends-trans (state_of q) S1.state S2.state grows.extends un.only.extends

  extends : Extends (state_of q) S3.state
  extends = Extends-trans (state_of q) S2.state S3.state before grew.extends

  one_well : IsWellWith b one (reverse q.choices.items) depth
  one_well = grown_well b q one refl grows.extends (reverse q.choices.items) depth store1 w

  two_well : IsWellWith b two (reverse q.choices.items) depth
  two_well = grown_well b q two refl before (reverse q.choices.items) depth store2 w

  moves : (r : Ref) → IsRef S1.state r → tree_at S2.state r ≡ apply un.unifier (tree_at S1.state r)
  moves r h = un.places r

  pub tree_under : (r : Ref) → IsRef (state_of q) r → tree_at S2.state r ≡ apply un.unifier (tree_at (state_of q) r)
  tree_under r h = un.places r ∙ ap (apply un.unifier) (grows.places r h)

  pub path_under : IsUnder b q end depth un.unifier k
  path_under = record {
    well = grown_well b q end refl extends (reverse q.choices.items) depth store3 w;
    frames = grown_frames_on b q end refl extends (reverse q.choices.items) depth w;
    items = λ at.
        grown_items b two end refl grew at.f at.pc two_well.frames
        ∙ bound_items b one two un.unifier refl un.bound moves at.f at.pc one_well.frames
        ∙ ap (map (item_under un.unifier)) (grown_items b q one refl grows at.f at.pc w.frames);
    world =
        grown_world b two end refl grew same_next two_well.template
        ∙ bound_world b one two un.unifier refl un.bound moves k un.variables (un.only.next ∙ next) one_well.template
        ∙ ap (λ l. record { template = map (apply un.unifier) l; next = k }) (template_same (state_of q) S1.state q.width q.template grows w.template);
  }
