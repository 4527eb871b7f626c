-- Bytes that are a unit, and bytes that are none.
use Rattle.std.proofs.Common.{◌≡◌, [], ◌∷◌, true, false, refl}
use Rattle.std.specs.Prelude.{is_some}
use Rattle.std.specs.Str.{chars, is_utf8}
use lib.Utf8.{encode}
use Rattle.pl_ops.specs.Standard.{standard}
use Rattle.unit_format.specs.Reading.{raw_of, parts_at, names_at, names_from, counted_at, items_at, text_at, need_at, section_at, section_kind_at, entry_at, what_at, clause_at, tree_at, cells_at, cell_at, operator_at, indicator_at, passed_at, with_modes_at, modes_at, flag_at, kind_at}
use Rattle.unit_format.specs.Decoding.{decoded}

whole : is_some (decoded (80 ∷ 76 ∷ 77 ∷ 85 ∷ 1 ∷ 0 ∷ 0 ∷ 0 ∷ 3 ∷ 0 ∷ 0 ∷ 0 ∷ 4 ∷ 117 ∷ 115 ∷ 101 ∷ 114 ∷ 0 ∷ 0 ∷ 0 ∷ 1 ∷ 97 ∷ 0 ∷ 0 ∷ 0 ∷ 4 ∷ 116 ∷ 114 ∷ 117 ∷ 101 ∷ 0 ∷ 0 ∷ 0 ∷ 0 ∷ 0 ∷ 0 ∷ 0 ∷ 1 ∷ 2 ∷ 0 ∷ 0 ∷ 0 ∷ 0 ∷ 0 ∷ 0 ∷ 0 ∷ 0 ∷ 0 ∷ 0 ∷ 0 ∷ 1 ∷ 8 ∷ 0 ∷ 0 ∷ 0 ∷ 0 ∷ 0 ∷ 0 ∷ 0 ∷ 0 ∷ 2 ∷ 0 ∷ 0 ∷ 0 ∷ 1 ∷ 2 ∷ 0 ∷ 0 ∷ 0 ∷ 2 ∷ [])) ≡ true
unfolding decoded raw_of parts_at names_at names_from counted_at items_at text_at need_at section_at section_kind_at entry_at what_at clause_at tree_at cells_at cell_at operator_at indicator_at passed_at with_modes_at modes_at flag_at kind_at is_utf8 chars encode standard
whole = refl

without_last : is_some (decoded (80 ∷ 76 ∷ 77 ∷ 85 ∷ 1 ∷ 0 ∷ 0 ∷ 0 ∷ 3 ∷ 0 ∷ 0 ∷ 0 ∷ 4 ∷ 117 ∷ 115 ∷ 101 ∷ 114 ∷ 0 ∷ 0 ∷ 0 ∷ 1 ∷ 97 ∷ 0 ∷ 0 ∷ 0 ∷ 4 ∷ 116 ∷ 114 ∷ 117 ∷ 101 ∷ 0 ∷ 0 ∷ 0 ∷ 0 ∷ 0 ∷ 0 ∷ 0 ∷ 1 ∷ 2 ∷ 0 ∷ 0 ∷ 0 ∷ 0 ∷ 0 ∷ 0 ∷ 0 ∷ 0 ∷ 0 ∷ 0 ∷ 0 ∷ 1 ∷ 8 ∷ 0 ∷ 0 ∷ 0 ∷ 0 ∷ 0 ∷ 0 ∷ 0 ∷ 0 ∷ 2 ∷ 0 ∷ 0 ∷ 0 ∷ 1 ∷ 2 ∷ 0 ∷ 0 ∷ 0 ∷ [])) ≡ false
unfolding decoded raw_of parts_at names_at names_from counted_at items_at text_at need_at section_at section_kind_at entry_at what_at clause_at tree_at cells_at cell_at operator_at indicator_at passed_at with_modes_at modes_at flag_at kind_at is_utf8 chars encode standard
without_last = refl

exchanged : is_some (decoded (80 ∷ 76 ∷ 77 ∷ 85 ∷ 1 ∷ 0 ∷ 0 ∷ 0 ∷ 3 ∷ 0 ∷ 0 ∷ 0 ∷ 4 ∷ 117 ∷ 115 ∷ 101 ∷ 114 ∷ 0 ∷ 0 ∷ 0 ∷ 1 ∷ 97 ∷ 0 ∷ 0 ∷ 0 ∷ 4 ∷ 116 ∷ 114 ∷ 117 ∷ 101 ∷ 0 ∷ 0 ∷ 0 ∷ 0 ∷ 0 ∷ 0 ∷ 0 ∷ 1 ∷ 2 ∷ 0 ∷ 0 ∷ 0 ∷ 0 ∷ 0 ∷ 0 ∷ 0 ∷ 0 ∷ 0 ∷ 0 ∷ 0 ∷ 1 ∷ 8 ∷ 0 ∷ 0 ∷ 0 ∷ 0 ∷ 0 ∷ 0 ∷ 0 ∷ 0 ∷ 2 ∷ 0 ∷ 0 ∷ 0 ∷ 2 ∷ 2 ∷ 0 ∷ 0 ∷ 0 ∷ 1 ∷ [])) ≡ false
unfolding decoded raw_of parts_at names_at names_from counted_at items_at text_at need_at section_at section_kind_at entry_at what_at clause_at tree_at cells_at cell_at operator_at indicator_at passed_at with_modes_at modes_at flag_at kind_at is_utf8 chars encode standard
exchanged = refl
