-- The operators that every text begins with.
use Rattle.pl_ops.specs.Tables.{Operators, operator}
use Rattle.pl_ops.specs.Standard.{standard}

abbrev pub look : Operators
look = operator standard
