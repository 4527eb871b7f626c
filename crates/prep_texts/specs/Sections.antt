-- Directives that open and end sections, and directives that take from modules, as the code reads them.
use Rattle.std.specs.Prelude.{ℕ, ◌<◌, List, codes, nat_eq, ◌||◌, Option, Some, None, Ok, if◌then◌else◌, option_map}
use Rattle.pl_ops.specs.Tables.{same_text}
use Rattle.pl_terms.specs.declared.cell.Cell.{Cell}
use Rattle.pl_terms.specs.declared.cell.Cell.TheVariants.{Name, Comp}
use Rattle.pl_atoms.specs.declared.names.NameId.{NameId}
use Rattle.unit_model.specs.Directives.{Text, Directive, opens, closes}
use Rattle.unit_model.specs.Encoding.{text_at}
use Rattle.unit_model.specs.Preparing.{Sort, a_directive, Source, no_module, passing, taking}
use Rattle.unit_model.specs.Views.{kind_view}
use Rattle.unit_model.specs.declared.facts.SectionKind.TheVariants.{Interface, Body}
use Rattle.prep_texts.specs.declared.directives.SectionDirective.{SectionDirective}
use Rattle.prep_texts.specs.declared.directives.SectionDirective.TheVariants.{Opens, Ends}
use Rattle.prep_texts.specs.declared.directives.ModuleSource.{ModuleSource}
use Rattle.prep_texts.specs.declared.directives.ModuleSource.TheVariants.{Passing, Taking}

abbrev pub module_text : List Text → Option NameId → Option Text
module_text names = option_map (λ m. text_at names m.0)

abbrev pub directive_view : List Text → SectionDirective → Directive
directive_view names (Opens k m) = opens (kind_view k) (module_text names m)
directive_view names (Ends k m) = closes (kind_view k) (module_text names m)

-- the directive, where it is one of a section
abbrev pub section_part : Sort → Option Directive
section_part (a_directive (Ok (opens k m))) = Some (opens k m)
section_part (a_directive (Ok (closes k m))) = Some (closes k m)
section_part _ = None

-- the name of a compound with one argument, of one with one or two, and of an atom
abbrev pub unary_name : Option Cell → Option NameId
unary_name (Some (Comp s k)) = if nat_eq k 1 then Some s else None
unary_name _ = None

abbrev pub short_name : Option Cell → Option NameId
short_name (Some (Comp s k)) = if nat_eq k 1 || nat_eq k 2 then Some s else None
short_name _ = None

abbrev pub atom_name : Option Cell → Option NameId
atom_name (Some (Name s)) = Some s
atom_name _ = None

-- the directive of a section that this word names
abbrev pub section_word : Text → Option NameId → Option SectionDirective
section_word w m =
    if same_text w (codes "module") then Some (Opens Interface m)
    else if same_text w (codes "end_module") then Some (Ends Interface m)
    else if same_text w (codes "body") then Some (Opens Body m)
    else if same_text w (codes "end_body") then Some (Ends Body m)
    else None

abbrev pub source_view : List Text → Option ModuleSource → Source
source_view names None = no_module
source_view names (Some (Passing m)) = passing (text_at names m.0)
source_view names (Some (Taking m)) = taking (text_at names m.0)

-- where a directive of this word takes from
abbrev pub source_word : Text → NameId → Option ModuleSource
source_word w m =
    if same_text w (codes "reexport") then Some (Passing m)
    else if same_text w (codes "import") then Some (Taking m)
    else None

-- the module's name is below a number
abbrev pub SourceBelow : ℕ → ModuleSource → Type 0
SourceBelow n (Passing m) = m.0 < n
SourceBelow n (Taking m) = m.0 < n

abbrev pub DirectiveBelow : ℕ → SectionDirective → Type 0
DirectiveBelow n (Opens k None) = Unit {0}
DirectiveBelow n (Opens k (Some m)) = m.0 < n
DirectiveBelow n (Ends k m) = Unit {0}
