use Rattle.std.proofs.Common.{◌≡◌, refl, Some}
use Rattle.pl_terms.specs.declared.cell.Cell.TheVariants.{Name}
use Rattle.term_walk.proofs.NameBounds.{name_below, entered_below}
use Rattle.term_walk.proofs.items.indicator_parts.Goals as goal

pub returns-in_ok-arity-in-Some-Name-Some-Int-clause-below : goal.returns-in_ok-arity-in-Some-Name-Some-Int-clause-below
returns-in_ok-arity-in-Some-Name-Some-Int-clause-below c n k =
    let is : c.peek-name.result ≡ Some (Name c.in-Some-Name-Some-Int.name) = cc in
    name_below n c.enter.new.self c.enter.new.self c.peek-name.result c.in-Some-Name-Some-Int.name refl c.peek-name.ensures is
    (entered_below n c.args.walk c.enter.new.self c.enter.ensures.trees k)
