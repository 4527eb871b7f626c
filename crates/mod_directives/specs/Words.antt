-- The names of directives.
use Rattle.std.specs.Prelude.{codes, if◌then◌else◌}
use Rattle.pl_ops.specs.Tables.{same_text}
use Rattle.unit_model.specs.Directives.{Text}
use Rattle.mod_directives.specs.declared.words.Unary.{Unary}
use Rattle.mod_directives.specs.declared.words.Unary.TheVariants.{Export, Reexport, Metapredicate, Import, Discontiguous, Unknown}
use Rattle.mod_directives.specs.declared.words.Binary.{Binary}
use Rattle.mod_directives.specs.declared.words.Binary.TheVariants.{Reexport as reexport, Import as import, Unknown as unknown}

-- the directive of this name with one argument, but for those of sections
abbrev pub unary_word : Text → Unary
unary_word s =
    if same_text s (codes "export") then Export
    else (if same_text s (codes "reexport") then Reexport
    else (if same_text s (codes "metapredicate") then Metapredicate
    else (if same_text s (codes "import") then Import
    else (if same_text s (codes "discontiguous") then Discontiguous
    else Unknown))))

abbrev pub binary_word : Text → Binary
binary_word s = if same_text s (codes "reexport") then reexport else (if same_text s (codes "import") then import else unknown)
