-- When names and facts by number are a unit.
use Rattle.std.specs.Prelude.{ℕ, List}
use Rattle.unit_model.specs.Encoding.{facts_in, IsInOrder}
use Rattle.unit_model.specs.Validity.{IsValid}
use Rattle.unit_model.specs.Views.{facts_view}
use Rattle.unit_model.specs.declared.facts.Facts.{Facts}

-- the names stand in the order of first use, and the facts are valid
pub record IsUnitOf (names : List (List ℕ)) (facts : Facts) : Type 0 where
  pub order : IsInOrder names (facts_view facts)
  pub valid : IsValid (facts_in names (facts_view facts))
