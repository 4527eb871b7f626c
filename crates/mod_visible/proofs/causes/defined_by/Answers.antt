use Rattle.std.proofs.Common.{[], sym, subst}
use Rattle.mod_visible.proofs.DefiningLaws.{DefinedSoFar, defined_start, defined_step, defined_end}
use Rattle.mod_visible.proofs.causes.defined_by.Goals as goal

pub loop-entry-init : goal.loop-entry-init
loop-entry-init c = λ names table. subst (λ k. DefinedSoFar names [] k c.args.causes.now.items c.args.causes.now.items) (sym c.new-defined.ensures) (defined_start names c.args.causes.now.items)

pub loop-entry-preserved : goal.loop-entry-preserved
loop-entry-preserved c = λ names table. defined_step names c.args.entries.now c.loop-entry.entry-index _ c.loop-entry.defined.procedures.keys c.define.new.defined.procedures.keys c.args.causes.now.items c.loop-entry.causes.items c.define.new.causes.items c.loop-entry-test.true table (c.loop-entry.invariant names table) c.in_ok-define.ensures.keys c.in_ok-define.ensures.causes

pub returns-clause-defined : goal.returns-clause-defined
returns-clause-defined c = λ names table. (defined_end names c.args.entries.now c.loop-entry.entry-index c.loop-entry.defined.procedures.keys c.args.causes.now.items c.loop-entry.causes.items c.loop-entry-test.false (c.loop-entry.invariant names table)).defined

pub returns-clause-causes : goal.returns-clause-causes
returns-clause-causes c = λ names table. (defined_end names c.args.entries.now c.loop-entry.entry-index c.loop-entry.defined.procedures.keys c.args.causes.now.items c.loop-entry.causes.items c.loop-entry-test.false (c.loop-entry.invariant names table)).causes_are

pub returns-clause-named : goal.returns-clause-named
returns-clause-named c = λ names table. (defined_end names c.args.entries.now c.loop-entry.entry-index c.loop-entry.defined.procedures.keys c.args.causes.now.items c.loop-entry.causes.items c.loop-entry-test.false (c.loop-entry.invariant names table)).named
