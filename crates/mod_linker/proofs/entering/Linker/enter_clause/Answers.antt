use Rattle.std.proofs.Common.{◌∷◌, [], ℕ, ap, sym, subst, ◌∙◌, slice_index}
use Rattle.pl_terms.specs.Trees.{Tree, renamed}
use Rattle.unit_model.specs.Facts.{clause, What as WhatOf}
use Rattle.unit_model.specs.Views.{ind_view}
use Rattle.program_model.specs.Saying.{said_of}
use Rattle.mod_linker.specs.Entering.{Takes}
use Rattle.mod_linker.proofs.Taking.{uses, view, takes-clause, clause-taken}
use Rattle.mod_linker.proofs.entering.Linker.enter_clause.Goals as goal

pub mapped-requires-2 : goal.mapped-requires-2
mapped-requires-2 c = (uses c.args.self.now.program.names c.args.item.now c.args.vars c.args.head.now c.args.body.now c.requires.what c.requires.item).1

pub add_clause-requires-clause-clause : goal.add_clause-requires-clause-clause
add_clause-requires-clause-clause c =
    clause-taken c.args.self.now.program c.procedure.new.self.program c.args.item.now c.args.vars c.args.head.now c.args.body.now c.requires.what c.requires.item c.in_ok-head.head c.in_ok-body.body c.in_ok-head.ensures c.in_ok-body.ensures
    c.args.item.now.home.0 (ind_view c.indicator-ind.result) c.args.declared.now.modes.entries c.in_ok-proc.proc.0 c.procedure.new.self.known.numbers.entries c.indicator-ind.ensures c.in_ok-proc.ensures

pub returns : goal.returns
returns c =
    let taken = takes-clause c.args.self.now.program c.procedure.new.self.program c.add_clause.new.self c.names.ensures.linked c.args.item.now.home.0 (ind_view c.indicator-ind.result) c.args.declared.now.modes.entries c.in_ok-proc.proc.0 c.procedure.new.self.known.numbers.entries
    (record { width = c.args.vars; head = c.in_ok-head.head; body = c.in_ok-body.body }) c.in_ok-proc.ensures c.indicator-ind.ensures c.in_ok-add_clause.ensures.ok in
    let same = view c.args.self.now.program.names c.args.item.now c.args.vars c.args.head.now c.args.body.now c.requires.what c.requires.item in
    let head = ap (λ (t : Tree ℕ). clause c.args.vars t c.in_ok-body.body) c.in_ok-head.ensures in
    let body = ap (λ (t : Tree ℕ). clause c.args.vars (renamed (slice_index c.args.item.now.remap.now) c.args.head.now) t) c.in_ok-body.ensures in
    subst (λ (w : WhatOf ℕ). Takes (said_of c.args.item.now.home.0 w ∷ []) c.args.declared.now.modes.entries c.args.self.now.program c.add_clause.new.self c.procedure.new.self.known.numbers.entries) (head ∙ body ∙ sym same) taken
