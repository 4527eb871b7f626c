use Rattle.std.proofs.Common.{◌≡◌, ◌∙◌, ◌-◌, ap, sym, refl, arith}
use Rattle.pl_unify.specs.Shape.{arity, argument}
use Rattle.pl_unify.specs.State.{State, Grows, IsRef, tree_at}
use Rattle.pl_unify.proofs.Loading.{Grows-refl, Grows-trans}
use Rattle.builtin_model.specs.Lists.{listed}
use Rattle.pl_builtin_terms.specs.Walk.{arguments_of}
use Rattle.pl_builtin_terms.specs.Items.{list_from}
use Rattle.pl_builtin_terms.proofs.Walks.{back-none, arity-count}
use Rattle.pl_builtin_terms.proofs.Lists.{parts_more}
use Rattle.pl_builtin_terms.proofs.univ_row.parts_of.Goals as goal
use Rattle.pl_builtin_terms.proofs.univ_row.parts_of.Goals.{In_ok-parts}

-- the term before the loop
before : (c : In_ok-parts) → tree_at c.place_of_name-2.new.self.state c.args.term ≡ tree_at c.args.store.now.state c.args.term
before c =
    (Grows-trans c.args.store.now.state c.place_of_name.new.self.state c.place_of_name-2.new.self.state c.place_of_name.ensures.grows c.place_of_name-2.ensures.grows).places c.args.term c.requires.place

-- all places that were made before the loop
first_grows : (c : In_ok-parts) → Grows c.args.store.now.state c.place_of_name-2.new.self.state
first_grows c = Grows-trans c.args.store.now.state c.place_of_name.new.self.state c.place_of_name-2.new.self.state c.place_of_name.ensures.grows c.place_of_name-2.ensures.grows

pub loop-left-init : goal.loop-left-init
loop-left-init c =
    let s : State = c.place_of_name-2.new.self.state in
    let count : c.args.count ≡ arity (tree_at s c.args.term) = c.requires.count ∙ ap arity (sym (before c)) in
    record {
      few = omega arith;
      grows = Grows-refl s;
      next = refl;
      place = c.in_ok-parts.ensures.place;
      tree = c.in_ok-parts.ensures.tree
          ∙ ap (λ ts. list_from c.args.symbols.nil.0 c.args.symbols.dot.0 (listed ts)) (sym (back-none (arguments_of (tree_at s c.args.term)) c.args.count (count ∙ arity-count (tree_at s c.args.term))));
    }

pub returns-in_err-parts-2-clause-grows : goal.returns-in_err-parts-2-clause-grows
returns-in_err-parts-2-clause-grows c =
    Grows-trans c.args.store.now.state c.place_of_name-2.new.self.state c.list_cell.new.store.state (first_grows (goal.at.returns-in_err-parts-2-clause-grows c).In_ok-parts)
    (Grows-trans c.place_of_name-2.new.self.state c.loop-left.store.state c.list_cell.new.store.state c.loop-left.invariant.grows c.list_cell.ensures.grows)

pub loop-left-preserved : goal.loop-left-preserved
loop-left-preserved c =
    let s0 : State = c.place_of_name-2.new.self.state in
    let on : tree_at s0 c.args.term ≡ tree_at c.args.store.now.state c.args.term = before (goal.at.loop-left-preserved c).In_ok-parts in
    let count : c.args.count ≡ arity (tree_at s0 c.args.term) = c.requires.count ∙ ap arity (sym on) in
    let ref : IsRef s0 c.args.term = omega (arith, c.requires.place, (first_grows (goal.at.loop-left-preserved c).In_ok-parts).extends.more_cells) in
    record {
      few = omega arith;
      grows = Grows-trans s0 c.loop-left.store.state c.list_cell.new.store.state c.loop-left.invariant.grows c.list_cell.ensures.grows;
      next = c.list_cell.ensures.next ∙ c.loop-left.invariant.next;
      place = c.in_ok-parts-2.ensures.place;
      tree = parts_more c.loop-left.store.state c.args.symbols.nil.0 c.args.symbols.dot.0 (c.loop-left.left - 1) c.loop-left.left (tree_at s0 c.args.term) _ c.arg-argument.result c.loop-left.parts
          (omega (arith, count)) (omega arith) c.loop-left.invariant.tree (c.arg-argument.ensures.tree ∙ ap (λ t. argument t (c.loop-left.left - 1)) (c.loop-left.invariant.grows.places c.args.term ref)) c.in_ok-parts-2.ensures.tree;
    }

pub returns-clause-grows : goal.returns-clause-grows
returns-clause-grows c =
    Grows-trans c.args.store.now.state c.place_of_name-2.new.self.state c.list_cell-2.new.store.state (first_grows (goal.at.returns-clause-grows c).In_ok-parts)
    (Grows-trans c.place_of_name-2.new.self.state c.loop-left.store.state c.list_cell-2.new.store.state c.loop-left.invariant.grows c.list_cell-2.ensures.grows)
