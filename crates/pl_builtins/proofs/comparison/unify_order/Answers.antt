use Rattle.std.proofs.Common.{◌≡◌, ◌∙◌, ℕ, List, ap}
use Rattle.std.specs.declared.cmp.Ordering.{Ordering}
use Rattle.std.specs.declared.cmp.Ordering.TheVariants.{Less, Equal, Greater}
use Rattle.pl_terms.specs.Trees.{atom}
use Rattle.pl_unify.specs.State.{tree_at}
use Rattle.builtin_model.specs.Naming.{number_in}
use Rattle.builtin_model.specs.Deeds.{unify, order_text}
use Rattle.pl_builtins.specs.declared.comparison.OrderNames.{OrderNames}
use Rattle.pl_builtins.specs.Answers.{name_of, AreNamed}
use Rattle.pl_builtins.proofs.Deeds.{deed_if}
use Rattle.pl_builtins.proofs.comparison.unify_order.Goals as goal

number-of : (names : List (List ℕ)) (n : OrderNames) (o : Ordering) → AreNamed names n → (name_of n o).0 ≡ number_in names (order_text o)
number-of names n Less h = h.0
number-of names n Equal h = h.1
number-of names n Greater h = h.2

pub returns-clause-done : goal.returns-clause-done
returns-clause-done c =
    let s = c.args.store.now.state in
    let t = tree_at s c.args.at in
    let names = c.args.names.now in
    deed_if s c.unify_name.new.store.state c.unify_name.result (unify t (atom c.name_of.result.0)) _
    (ap (λ n. unify t (atom n.0)) c.name_of.ensures ∙ ap (λ k. unify t (atom k)) (number-of names c.args.symbols c.in_ok-found.found c.requires.names ∙ ap (λ o. number_in names (order_text o)) c.in_ok-found.ensures))
    c.unify_name.ensures.done
