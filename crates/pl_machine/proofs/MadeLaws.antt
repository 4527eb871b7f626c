-- A path that is made over a store with a goal's term.
use Rattle.std.proofs.Common.{◌≡◌, ℕ, ◌<◌, List, [], None, sym, ap, ◌∙◌, subst, length}
use Rattle.std.specs.List.{All}
use Rattle.pl_terms.specs.Trees.{Tree}
use Rattle.pl_terms.specs.Cells.{cells}
use Rattle.pl_terms.specs.Occurrence.{variables, from_to}
use Rattle.pl_terms.specs.declared.read_term.VarName.{VarName}
use Rattle.unifier_model.specs.Substitution.{apply, raise}
use Rattle.pl_unify.specs.Words.{bound_onto}
use Rattle.pl_unify.specs.Load.{NewInOrder, next_after}
use Rattle.pl_unify.specs.State.{State, Grows, base, bound}
use Rattle.goal_state.specs.declared.path.Path.{Path}
use Rattle.goal_state.specs.Denotation.{state_of}
use Rattle.pl_machine.specs.Starting.{IsFresh}
use Rattle.pl_machine.proofs.Numbered.{raise-none, order-numbered, next-numbered}

-- the term of a place over a store without bindings
pub made_tree : (s : State) (goal t : Tree ℕ) → s.links ≡ [] → t ≡ apply (bound s) (raise 0 goal) → t ≡ goal
made_tree s goal t none is = is ∙ ap (λ l. apply (bound_onto (base s) [] l) (raise 0 goal)) none ∙ raise-none goal

-- a goal may be put into a store without variables
pub made_order : (s : State) (goal : Tree ℕ) → variables goal ≡ from_to 0 (length (variables goal)) → s.next ≡ 0 → NewInOrder 0 s.next (cells goal)
made_order s goal numbered none = subst (λ n. NewInOrder 0 n (cells goal)) (sym none) (order-numbered goal numbered)

-- a goal was put into a store without variables
pub record Loaded (first s : State) (goal : Tree ℕ) : Type 0 where
  pub empty : first.links ≡ []
  pub none : first.next ≡ 0
  pub grows : Grows first s
  pub next : s.next ≡ next_after 0 first.next (cells goal)

pub loaded_next : (first s : State) (goal : Tree ℕ) → variables goal ≡ from_to 0 (length (variables goal)) → Loaded first s goal → s.next ≡ length (variables goal)
loaded_next first s goal numbered h = h.next ∙ ap (λ n. next_after 0 n (cells goal)) h.none ∙ next-numbered goal numbered

-- a path was made over it
pub record IsBare (p : Path) (s : State) : Type 0 where
  pub store : state_of p ≡ s
  pub width : p.width ≡ s.next
  pub depth : p.depth ≡ 0
  pub choices : p.choices.items ≡ []
  pub template : p.template ≡ None
  pub frames : p.frames ≡ []

pub made_fresh : (first s : State) (p : Path) (goal : Tree ℕ) → variables goal ≡ from_to 0 (length (variables goal)) → Loaded first s goal → IsBare p s → IsFresh p goal
made_fresh first s p goal numbered loaded bare = record {
  depth = bare.depth;
  choices = bare.choices;
  template = bare.template;
  frames = bare.frames;
  width = bare.width ∙ loaded_next first s goal numbered loaded;
  next = ap (λ (x : State). x.next) bare.store ∙ loaded_next first s goal numbered loaded;
  links = ap (λ (x : State). x.links) bare.store ∙ loaded.grows.links ∙ loaded.empty;
}

-- the named variables are those of the goal
pub named_below : (names : List VarName) (vs : List VarName) (n width : ℕ) → vs ≡ names → width ≡ n → All (λ v. v.number < n) names → All (λ v. v.number < width) vs
named_below names vs n width same is h = subst (λ w. All (λ v. v.number < w) vs) (sym is) (subst (All (λ v. v.number < n)) (sym same) h)
