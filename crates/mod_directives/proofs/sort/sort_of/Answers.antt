use Rattle.pl_terms.specs.Order.{text_of}
use Rattle.mod_directives.proofs.Sorting.{sort-directive, sort-query, sort-clause}
use Rattle.mod_directives.proofs.sort.sort_of.Goals as goal

pub returns-then-is_functor : goal.returns-then-is_functor
returns-then-is_functor c = sort-directive (text_of c.args.names.now) c.args.walk.now c.is_functor.result c.is_functor.ensures c.if-is_functor.true

pub returns-then-is_functor-2 : goal.returns-then-is_functor-2
returns-then-is_functor-2 c =
    sort-query (text_of c.args.names.now) c.args.walk.now c.is_functor.result c.is_functor-else-is_functor.result
    c.is_functor.ensures c.if-is_functor.false c.is_functor-else-is_functor.ensures c.if-is_functor-2.true

pub returns-else-is_functor-2 : goal.returns-else-is_functor-2
returns-else-is_functor-2 c =
    sort-clause (text_of c.args.names.now) c.args.walk.now c.is_functor.result c.is_functor-else-is_functor.result
    c.is_functor.ensures c.if-is_functor.false c.is_functor-else-is_functor.ensures c.if-is_functor-2.false
