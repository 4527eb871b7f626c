-- Counts that fit into four bytes.
use Rattle.std.specs.Prelude.{ℕ, ◌^◌, length, nat_lt, Bool, ◌&&◌}
use Rattle.std.specs.List.{list_all}
use Rattle.unit_model.specs.declared.facts.Need.{Need}
use Rattle.unit_model.specs.declared.facts.Section.{Section}
use Rattle.unit_model.specs.declared.facts.Facts.{Facts}

abbrev pub is_few : ℕ → Bool
is_few n = nat_lt n (2 ^ 32)

abbrev pub few_ops : Need → Bool
few_ops n = is_few (length n.ops)

abbrev pub few_entries : Section → Bool
few_entries s = is_few (length s.entries)

abbrev pub are_few : ℕ → Facts → Bool
are_few names f = is_few names && is_few (length f.needs) && is_few (length f.sections) && list_all few_ops f.needs && list_all few_entries f.sections
