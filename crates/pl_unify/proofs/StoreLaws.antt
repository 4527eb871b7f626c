-- What callers need of states and marks.
use Rattle.std.specs.Prelude.{◌≡◌, ℕ, take, length, refl}
use Rattle.std.proofs.Common.{ap, ◌∙◌, sym, arith}
use Rattle.std.proofs.lemmas.List.{take-take, take_all}
use Rattle.pl_terms.specs.Trees.{Tree, var, int, atom, comp}
use Rattle.pl_unify.specs.declared.store.Mark.{Mark}
use Rattle.pl_unify.specs.declared.word.View.TheVariants as V
use Rattle.pl_unify.specs.State.{State, Extends, IsMark, state_at}
use Rattle.pl_unify.specs.Shape.{root, arity}
use Rattle.pl_unify.specs.Steps.{OnlyBinds}

pub Extends-trans : (a b c : State) → Extends a b → Extends b c → Extends a c
Extends-trans a b c h g = record {
  cells = sym (take-take (length a.cells) (length b.cells) c.cells h.more_cells) ∙ (ap (take (length a.cells)) g.cells ∙ h.cells);
  links = sym (take-take (length a.links) (length b.links) c.links h.more_links) ∙ (ap (take (length a.links)) g.links ∙ h.links);
  next = omega (arith, h.next, g.next);
  more_cells = omega (arith, h.more_cells, g.more_cells);
  more_links = omega (arith, h.more_links, g.more_links);
}

pub Extends-refl : (a : State) → Extends a a
Extends-refl a = record {
  cells = take_all (length a.cells) a.cells (omega arith);
  links = take_all (length a.links) a.links (omega arith);
  next = omega arith;
  more_cells = omega arith;
  more_links = omega arith;
}

-- a mark keeps its state over all that extends the store
pub state_at-extends : (m : Mark) (a b : State) → Extends a b → IsMark m a → state_at m b ≡ state_at m a
state_at-extends m a b e k =
    let cells : take m.cells b.cells ≡ take m.cells a.cells = sym (take-take m.cells (length a.cells) b.cells k.cells) ∙ ap (take m.cells) e.cells in
    let links : take m.trail b.links ≡ take m.trail a.links = sym (take-take m.trail (length a.links) b.links k.trail) ∙ ap (take m.trail) e.links in
    rw (cells, links)

pub IsMark-extends : (m : Mark) (a b : State) → Extends a b → IsMark m a → IsMark m b
IsMark-extends m a b e k = record {
  cells = omega (arith, k.cells, e.more_cells);
  trail = omega (arith, k.trail, e.more_links);
  vars = omega (arith, k.vars, e.next);
  store = rw (state_at-extends m a b e k) k.store;
}

pub OnlyBinds-refl : (a : State) → OnlyBinds a a
OnlyBinds-refl a = record { extends = Extends-refl a; cells = refl; next = refl }

-- the arguments of what a view shows
pub arity-root : (t : Tree ℕ) (f : _) (k : ℕ) → V.Comp f k ≡ root t → arity t ≡ k
arity-root (var n) f k e = cc
arity-root (int n) f k e = cc
arity-root (atom n) f k e = cc
arity-root (comp g ts) f k e = cc
