-- The names and the variables that facts in memory use, from the left.
use Rattle.std.specs.Prelude.{ℕ, List, [], ◌∷◌, ◌++◌}
use Rattle.std.specs.List.{flat_map}
use Rattle.pl_terms.specs.declared.cell.Cell.{Cell}
use Rattle.pl_terms.specs.declared.cell.Cell.TheVariants.{Var, Int, Name, Comp}
use Rattle.unit_model.specs.Facts.{tree_names}
use Rattle.unit_model.specs.declared.facts.OpDecl.{OpDecl}
use Rattle.unit_model.specs.declared.facts.Need.{Need}
use Rattle.unit_model.specs.declared.facts.What.{What}
use Rattle.unit_model.specs.declared.facts.What.TheVariants.{Export, ReexportAll, Reexport, Meta, Operator, ImportAll, Import, Clause}
use Rattle.unit_model.specs.declared.facts.Entry.{Entry}
use Rattle.unit_model.specs.declared.facts.Section.{Section}
use Rattle.unit_model.specs.declared.facts.Facts.{Facts}

abbrev pub cell_names : Cell → List ℕ
cell_names (Var n) = []
cell_names (Int z) = []
cell_names (Name s) = s.0 ∷ []
cell_names (Comp s k) = s.0 ∷ []

abbrev pub cell_variables : Cell → List ℕ
cell_variables (Var n) = n ∷ []
cell_variables (Int z) = []
cell_variables (Name s) = []
cell_variables (Comp s k) = []

abbrev pub op_uses : OpDecl → List ℕ
op_uses o = o.name.0 ∷ []

abbrev pub need_uses : Need → List ℕ
need_uses n = n.module.0 ∷ flat_map op_uses n.ops

abbrev pub what_uses : What → List ℕ
what_uses (Export i) = i.name.0 ∷ []
what_uses (ReexportAll m) = m.0 ∷ []
what_uses (Reexport m i) = m.0 ∷ i.name.0 ∷ []
what_uses (Meta s ms) = s.0 ∷ []
what_uses (Operator o) = o.name.0 ∷ []
what_uses (ImportAll m) = m.0 ∷ []
what_uses (Import m i) = m.0 ∷ i.name.0 ∷ []
what_uses (Clause n h b) = tree_names h ++ tree_names b

abbrev pub entry_uses : Entry → List ℕ
entry_uses e = what_uses e.what

abbrev pub section_uses : Section → List ℕ
section_uses s = s.module.0 ∷ flat_map entry_uses s.entries

abbrev pub facts_uses : Facts → List ℕ
facts_uses f = flat_map need_uses f.needs ++ flat_map section_uses f.sections
