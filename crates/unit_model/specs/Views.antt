-- How facts in memory stand for facts whose names are numbers.
use Rattle.std.specs.Prelude.{ℕ, List, map}
use Rattle.unit_model.specs.Facts.{Indicator, OperatorOf, Need as NeedOf, What as WhatOf, exports, reexports_all, reexports, has_modes, declares, imports_all, imports, clause, Entry as EntryOf, SectionKind as KindOf, interface, body, Section as SectionOf, Facts as FactsOf}
use Rattle.unit_model.specs.declared.facts.Ind.{Ind}
use Rattle.unit_model.specs.declared.facts.OpDecl.{OpDecl}
use Rattle.unit_model.specs.declared.facts.Need.{Need}
use Rattle.unit_model.specs.declared.facts.What.{What}
use Rattle.unit_model.specs.declared.facts.What.TheVariants.{Export, ReexportAll, Reexport, Meta, Operator, ImportAll, Import, Clause}
use Rattle.unit_model.specs.declared.facts.Entry.{Entry}
use Rattle.unit_model.specs.declared.facts.SectionKind.{SectionKind}
use Rattle.unit_model.specs.declared.facts.SectionKind.TheVariants.{Interface, Body}
use Rattle.unit_model.specs.declared.facts.Section.{Section}
use Rattle.unit_model.specs.declared.facts.Facts.{Facts}

abbrev pub ind_view : Ind → Indicator ℕ
ind_view i = record { name = i.name.0; arity = i.arity }

abbrev pub op_view : OpDecl → OperatorOf ℕ
op_view o = record { op = record { priority = o.priority; kind = o.kind }; name = o.name.0 }

abbrev pub ops_view : List OpDecl → List (OperatorOf ℕ)
ops_view = map op_view

abbrev pub need_view : Need → NeedOf ℕ
need_view n = record { byte = n.byte; of = n.module.0; operators = ops_view n.ops }

abbrev pub what_view : What → WhatOf ℕ
what_view (Export i) = exports (ind_view i)
what_view (ReexportAll m) = reexports_all m.0
what_view (Reexport m i) = reexports m.0 (ind_view i)
what_view (Meta s ms) = has_modes s.0 ms
what_view (Operator o) = declares (op_view o)
what_view (ImportAll m) = imports_all m.0
what_view (Import m i) = imports m.0 (ind_view i)
what_view (Clause n h b) = clause n h b

abbrev pub entry_view : Entry → EntryOf ℕ
entry_view e = record { byte = e.byte; what = what_view e.what }

abbrev pub entries_view : List Entry → List (EntryOf ℕ)
entries_view = map entry_view

abbrev pub kind_view : SectionKind → KindOf
kind_view Interface = interface
kind_view Body = body

abbrev pub section_view : Section → SectionOf ℕ
section_view s = record { kind = kind_view s.kind; byte = s.byte; of = s.module.0; entries = entries_view s.entries }

abbrev pub facts_view : Facts → FactsOf ℕ
facts_view f = record { needs = map need_view f.needs; sections = map section_view f.sections }
