-- How what a term is stands in memory.
use Rattle.pl_terms.specs.Trees.{Tree}
use Rattle.unit_model.specs.Directives.{Text, directive_of}
use Rattle.unit_model.specs.Preparing.{Sort as SortOf, a_directive, a_query, a_clause}
use Rattle.mod_directives.specs.declared.sort.Sort.{Sort}
use Rattle.mod_directives.specs.declared.sort.Sort.TheVariants.{Directive, Query, Clause}

-- with the directive's own term
abbrev pub sort_view : Sort → Tree Text → SortOf
sort_view Directive d = a_directive (directive_of d)
sort_view Query d = a_query
sort_view Clause d = a_clause
