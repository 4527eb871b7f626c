use Rattle.std.proofs.Common.{◌≡◌, [], map, take}
use Rattle.pl_atoms.specs.Names.{with_texts}
use Rattle.unit_model.specs.Encoding.{text_at}
use Rattle.unit_order.proofs.ordering.table_of.Given as goal

abbrev pub invariant-loop-number : goal.invariant-loop-number
invariant-loop-number l = l.table ≡ with_texts [] (map (text_at l.names) (take l.number-index l.numbers))
