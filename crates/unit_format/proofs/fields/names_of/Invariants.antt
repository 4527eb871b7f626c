use Rattle.std.proofs.Common.{◌≡◌, ◌-◌, []}
use Rattle.unit_format.specs.Reading.{names_from}
use Rattle.unit_format.proofs.fields.names_of.Given as goal

abbrev pub invariant-loop : goal.invariant-loop
invariant-loop l = names_from (l.count - l.counter) l.names l.rest ≡ names_from l.count [] l.bytes
