-- The answers of a comparison.
use Rattle.std.specs.Prelude.{◌≡◌, ℕ, List, codes}
use Rattle.std.specs.declared.cmp.Ordering.{Ordering}
use Rattle.std.specs.declared.cmp.Ordering.TheVariants.{Less, Equal, Greater}
use Rattle.pl_atoms.specs.declared.names.NameId.{NameId}
use Rattle.builtin_model.specs.Naming.{number_in}
use Rattle.pl_builtins.specs.declared.comparison.OrderNames.{OrderNames}

abbrev pub name_of : OrderNames → Ordering → NameId
name_of n Less = n.less
name_of n Equal = n.equal
name_of n Greater = n.greater

-- these are the numbers of `<`, `=` and `>` in the table
abbrev pub AreNamed : List (List ℕ) → OrderNames → Type 0
AreNamed names n = (n.less.0 ≡ number_in names (codes "<")) × (n.equal.0 ≡ number_in names (codes "=")) × (n.greater.0 ≡ number_in names (codes ">"))
