use Rattle.std.proofs.Common.{rules, arith, ◌++◌, ap, ◌∙◌}
use Rattle.pl_terms.specs.Order.{texts_of}
use Rattle.prep_texts.specs.Drafts.{opens_interface}
use Rattle.prep_texts.proofs.TermLaws.{mid-well, source-fault, leads, put-well}
use Rattle.prep_texts.proofs.draft.Draft.take_other.Goals as goal

pub take_source-requires-clause-well : goal.take_source-requires-clause-well
take_source-requires-clause-well c =
    let old = c.args.self.now in
    mid-well c.args.known.now old (texts_of old.names c.args.term.now.term) c.args.term.now.byte c.requires.other c.entries_said.new.self c.in_ok-entries.entries c.requires.well
    c.in_ok-entries.ensures.names c.in_ok-entries.ensures.same c.in_ok-entries.ensures.ok

pub returns-in_err-take_source-clause-fault : goal.returns-in_err-take_source-clause-fault
returns-in_err-take_source-clause-fault c = λ n e.
    let old = c.args.self.now in
    let says = c.in_ok-entries.ensures.ok in
    source-fault c.args.known.now old (texts_of old.names c.args.term.now.term) c.args.term.now.byte c.requires.other c.entries_said.new.self c.in_ok-entries.entries c.requires.well
    c.in_ok-entries.ensures.names c.in_ok-entries.ensures.same says c.module_source-source.result c.module_source-source.ensures.below
    (c.module_source-source.ensures.source (opens_interface old.section) old.table says.what says.said_is) n (c.take_source.ensures.fault n (first_of (search rules, grind arith)))

pub returns-clause-ok : goal.returns-clause-ok
returns-clause-ok c =
    let old = c.args.self.now in
    let says = c.in_ok-entries.ensures.ok in
    let last = c.take_source.new.self in
    leads c.args.known.now old (texts_of old.names c.args.term.now.term) c.args.term.now.byte c.requires.other c.entries_said.new.self c.in_ok-entries.entries c.requires.well
    c.in_ok-entries.ensures.names c.in_ok-entries.ensures.same says c.module_source-source.result c.module_source-source.ensures.below
    (c.module_source-source.ensures.source (opens_interface old.section) old.table says.what says.said_is)
    last (record last { entries = c.append.new.into }) c.in_ok-take_source.ensures.names c.in_ok-entries.ensures.below c.in_ok-take_source.ensures.well c.in_ok-take_source.ensures.ok
    (ap (λ es. record last { entries = es }) (c.in_ok-append.ensures ∙ ap (λ es. last.entries ++ es) c.as_slice.ensures))

pub returns-clause-well : goal.returns-clause-well
returns-clause-well c =
    let last = c.take_source.new.self in
    put-well last c.entries_said.new.self.names c.in_ok-entries.entries c.append.new.into c.in_ok-take_source.ensures.well c.in_ok-take_source.ensures.names c.in_ok-entries.ensures.below
    (c.in_ok-append.ensures ∙ ap (λ es. last.entries ++ es) c.as_slice.ensures)
