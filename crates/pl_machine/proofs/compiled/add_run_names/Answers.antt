use Rattle.pl_atoms.specs.Names.{IsFront}
use Rattle.pl_atoms.proofs.Numbers.{IsFront-trans}
use Rattle.pl_builtin_ends.proofs.Kept.{HasNames-front}
use Rattle.pl_machine.proofs.NamesLaws.{has-front, written_there}
use Rattle.pl_machine.proofs.compiled.add_run_names.Goals as goal

pub returns-clause-front : goal.returns-clause-front
returns-clause-front c =
    IsFront-trans c.args.names.now c.write_names.new.names c.of.new.names c.write_names.ensures.front
    (IsFront-trans c.write_names.new.names c.add_names.new.names c.of.new.names c.add_names.ensures.front c.of.ensures.front)

pub returns-clause-made : goal.returns-clause-made
returns-clause-made c = HasNames-front c.add_names.new.names c.of.new.names c.of.ensures.front c.in_ok-add_names.ensures.ok

pub returns-clause-written : goal.returns-clause-written
returns-clause-written c =
    let front : IsFront c.write_names.new.names c.of.new.names = IsFront-trans c.write_names.new.names c.add_names.new.names c.of.new.names c.add_names.ensures.front c.of.ensures.front in
    has-front c.write_names.new.names c.of.new.names front c.len-after.ensures.distinct
    (written_there c.args.names.now c.write_names.new.names c.len-before.ensures.distinct c.in_ok-write_names.ensures.ok)
