use Rattle.std.proofs.Common.{◌≡◌, ◌∙◌, [], ◌∷◌, ◌++◌, ap, sym, subst, map, List, ℕ, codes, if◌then◌else◌, arith, true, false}
use Rattle.std.proofs.lemmas.List.{map-append}
use Rattle.pl_atoms.specs.Names.{same_text}
use Rattle.pl_terms.specs.Trees.{Tree}
use Rattle.pl_terms.specs.Order.{text_of}
use Rattle.unifier_model.specs.Substitution.{size}
use Rattle.pl_unify.specs.Shape.{argument}
use Rattle.pl_unify.specs.State.{State, tree_at}
use Rattle.pl_unify.specs.Making.{AreRefs}
use Rattle.builtin_model.specs.Naming.{by_numbers}
use Rattle.builtin_model.specs.Lists.{Listing, listing, before, proper, improper}
use Rattle.pl_builtin_terms.specs.Items.{all_before, is_cell}
use Rattle.pl_builtin_terms.proofs.Walks.{AreRefs-push}
use Rattle.pl_builtin_terms.proofs.Endings.{all_before-partial, all_before-improper, all_before-push, listing-variable, listing-int, listing-atom, listing-open, Cell, listing-cell, listed-end}
use Rattle.pl_builtin_terms.proofs.items.list_items.Goals as goal

pub returns-in-Var-clause-kind : goal.returns-in-Var-clause-kind
returns-in-Var-clause-kind c =
    let ts : List (Tree ℕ) = map (tree_at c.args.store.now.state) c.items.items.items in
    sym (c.items.invariant.whole ∙ (ap (all_before ts) (sym (listing-variable c.args.names.now (tree_at c.args.store.now.state c.items.rest) c.in-Var.field-0 c.in-Var.ensures)) ∙ all_before-partial ts))

pub returns-in-Int-clause-kind : goal.returns-in-Int-clause-kind
returns-in-Int-clause-kind c =
    let ts : List (Tree ℕ) = map (tree_at c.args.store.now.state) c.items.items.items in
    sym (c.items.invariant.whole ∙ (ap (all_before ts) (sym (listing-int c.args.names.now (tree_at c.args.store.now.state c.items.rest) c.in-Int.field-0 c.in-Int.ensures)) ∙ all_before-improper ts))

pub returns-in-Name-clause-kind : goal.returns-in-Name-clause-kind
returns-in-Name-clause-kind c =
    let ts : List (Tree ℕ) = map (tree_at c.args.store.now.state) c.items.items.items in
    listed-end c.args.store.now.state c.items.items.items c.text_of.result.now (listing (by_numbers c.args.names.now) (tree_at c.args.store.now.state c.args.list)) c.kind_of_end.result
    (c.items.invariant.whole ∙ (ap (all_before ts) (listing-atom c.args.names.now (tree_at c.args.store.now.state c.items.rest) c.in-Name.name c.in-Name.ensures)
    ∙ ap (λ s. all_before ts (if same_text s (codes "[]") then proper [] else improper)) (sym c.text_of.ensures)))
    c.kind_of_end.ensures

pub returns-then-not-is_cell-clause-kind : goal.returns-then-not-is_cell-clause-kind
returns-then-not-is_cell-clause-kind c =
    let ts : List (Tree ℕ) = map (tree_at c.args.store.now.state) c.items.items.items in
    let open_cell : is_cell (text_of c.args.names.now c.in-Comp.name.0) c.in-Comp.arity ≡ false = ap (λ s. is_cell s c.in-Comp.arity) (sym c.text_of-in-Comp.ensures) ∙ (sym c.is_cell.ensures ∙ c.if-not-is_cell.true) in
    sym (c.items.invariant.whole
    ∙ (ap (all_before ts) (sym (listing-open c.args.names.now (tree_at c.args.store.now.state c.items.rest) c.in-Comp.name c.in-Comp.arity c.in-Comp.ensures open_cell)) ∙ all_before-improper ts))

pub items-preserved : goal.items-preserved
items-preserved c =
    let s : State = c.args.store.now.state in
    let ts : List (Tree ℕ) = map (tree_at s) c.items.items.items in
    let is : is_cell (text_of c.args.names.now c.in-Comp.name.0) c.in-Comp.arity ≡ true = ap (λ x. is_cell x c.in-Comp.arity) (sym c.text_of-in-Comp.ensures) ∙ (sym c.is_cell.ensures ∙ c.if-not-is_cell.false) in
    let cell : Cell c.args.names.now (tree_at s c.items.rest) = listing-cell c.args.names.now (tree_at s c.items.rest) c.in-Comp.name c.in-Comp.arity c.in-Comp.ensures is in
    let pushed : map (tree_at s) c.push.new.self.items ≡ ts ++ tree_at s c.arg.result ∷ [] =
    ap (map (tree_at s)) c.in_ok-push-in-Comp.ensures.items ∙ map-append (tree_at s) c.items.items.items (c.arg.result ∷ []) in
    let rest : Listing ℕ = listing (by_numbers c.args.names.now) (tree_at s c.arg-rest.result) in
    record {
      place = c.arg-rest.ensures.place;
      places = subst (AreRefs s) (sym c.in_ok-push-in-Comp.ensures.items) (AreRefs-push s c.items.items.items c.arg.result c.items.invariant.places c.arg.ensures.place);
      whole = c.items.invariant.whole
          ∙ (ap (all_before ts) (cell.listing ∙ (ap (λ t. before t (listing (by_numbers c.args.names.now) (argument (tree_at s c.items.rest) 1))) (sym c.arg.ensures.tree)
          ∙ ap (λ t. before (tree_at s c.arg.result) (listing (by_numbers c.args.names.now) t)) (sym c.arg-rest.ensures.tree)))
          ∙ (sym (all_before-push ts (tree_at s c.arg.result) rest) ∙ ap (λ us. all_before us rest) (sym pushed)));
    }

pub items-smaller : goal.items-smaller
items-smaller c =
    let s : State = c.args.store.now.state in
    let is : is_cell (text_of c.args.names.now c.in-Comp.name.0) c.in-Comp.arity ≡ true = ap (λ x. is_cell x c.in-Comp.arity) (sym c.text_of-in-Comp.ensures) ∙ (sym c.is_cell.ensures ∙ c.if-not-is_cell.false) in
    let cell : Cell c.args.names.now (tree_at s c.items.rest) = listing-cell c.args.names.now (tree_at s c.items.rest) c.in-Comp.name c.in-Comp.arity c.in-Comp.ensures is in
    omega (arith, cell.smaller, ap size c.arg-rest.ensures.tree)
