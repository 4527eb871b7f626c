use Rattle.std.proofs.Common.{◌<◌, length, Bool, Some, None, sym, ap, ◌∙◌, subst, All, if◌then◌else◌}
use Rattle.std.proofs.lemmas.List.Elements.{All-push}
use Rattle.pl_atoms.specs.declared.names.NameId.{NameId}
use Rattle.pl_terms.specs.Order.{text_of}
use Rattle.term_walk.proofs.NameBounds.{entered_below}
use Rattle.mod_directives.specs.Operators.{texts}
use Rattle.mod_directives.proofs.Naming.{names-more, names-none, names-end}
use Rattle.mod_directives.proofs.operators.listed_names.Goals as goal

pub returns-in_default-clause-names : goal.returns-in_default-clause-names
returns-in_default-clause-names c =
    let f = text_of c.args.names.now in
    let absent = c.in_default.ensures.text f in
    names-none f c.args.list c.items.list c.enter.new.self c.items.found c.new-found.result c.is_functor.result c.new-found.ensures c.is_functor.ensures c.items-test.true c.enter.ensures.trees absent c.items.invariant.found

pub items-preserved : goal.items-preserved
items-preserved c =
    let f = text_of c.args.names.now in
    let n = length c.args.names.now in
    let Below : NameId → Type 0 = λ id. id.0 < n in
    record {
      found = names-more f c.items.list c.enter.new.self c.enter-in-items.new.self c.items.found c.push.new.self c.in-Some.name c.is_functor.result _ c.is_functor.ensures c.items-test.true c.enter.ensures.trees
          (c.in-Some.ensures.text f) c.in_ok-push.ensures.ok c.enter-in-items.ensures.trees c.items.invariant.found;
      below = entered_below n c.enter.new.self c.enter-in-items.new.self c.enter-in-items.ensures.trees (entered_below n c.items.list c.enter.new.self c.enter.ensures.trees c.items.invariant.below);
      bound = subst (All Below) (sym c.in_ok-push.ensures.ok) (All-push Below c.items.found c.in-Some.name c.items.invariant.bound (c.in-Some.ensures.below n (entered_below n c.items.list c.enter.new.self c.enter.ensures.trees c.items.invariant.below)));
    }

pub returns-else-is_end-clause-names : goal.returns-else-is_end-clause-names
returns-else-is_end-clause-names c =
    let f = text_of c.args.names.now in
    ap (λ (b : Bool). if b then Some (texts f c.items.found) else None) (sym c.if-is_end.false)
    ∙ names-end f c.args.list c.items.list c.items.found c.new-found.result c.is_functor.result c.is_end.result c.new-found.ensures c.is_functor.ensures c.items-test.false c.is_end.ensures c.items.invariant.found
