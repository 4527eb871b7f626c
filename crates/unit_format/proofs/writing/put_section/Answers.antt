use Rattle.std.proofs.Common.{sym, subst}
use Rattle.std.specs.List.{AllByRecursion}
use Rattle.unit_model.specs.Validity.{FitsEntry}
use Rattle.unit_model.specs.Views.{entry_view}
use Rattle.unit_format.specs.Spelling.{IsPlace}
use Rattle.unit_format.proofs.PutLaws.{unview, put_section_is}
use Rattle.unit_format.proofs.writing.put_section.Goals as goal

pub put_entries-requires : goal.put_entries-requires
put_entries-requires c = subst (AllByRecursion (λ x. FitsEntry IsPlace (entry_view x))) (sym c.as_slice-entries.ensures) (unview (FitsEntry IsPlace) entry_view c.args.section.now.entries c.requires.entries)

pub returns : goal.returns
returns c = put_section_is c.args.section.now c.as_slice-entries.result.now c.section_byte.result c.args.out.now c.push.new.self c.put_place.new.out c.put_u32.new.out c.put_entries.new.out c.as_slice-entries.ensures c.section_byte.ensures c.in_ok-push.ensures.ok c.in_ok-put_place.ensures c.in_ok-put_u32.ensures c.in_ok-put_entries.ensures
