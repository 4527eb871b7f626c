use Rattle.std.proofs.Common.{[], refl, sym, subst}
use Rattle.mod_faults.specs.Bodies.{AreDefined}
use Rattle.mod_faults.proofs.Taking.{defined_step, defined_end}
use Rattle.mod_faults.proofs.bodies.Defined.of.Goals as goal

pub loop-entry-init : goal.loop-entry-init
loop-entry-init c = λ names table. subst (AreDefined names []) (sym c.new-defined.ensures) (λ m n a hm hn. refl)

pub loop-entry-preserved : goal.loop-entry-preserved
loop-entry-preserved c = λ names table. defined_step names c.args.entries.now c.loop-entry.entry-index _ c.loop-entry.defined.procedures.keys c.add_entry.new.self.procedures.keys c.loop-entry-test.true table (c.loop-entry.invariant names table) c.in_ok-add_entry.ensures

pub returns : goal.returns
returns c = λ names table. defined_end names c.args.entries.now c.loop-entry.entry-index c.loop-entry.defined.procedures.keys c.loop-entry-test.false (c.loop-entry.invariant names table)
