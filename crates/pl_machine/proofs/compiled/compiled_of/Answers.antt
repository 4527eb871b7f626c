use Rattle.pl_machine.proofs.NamesLaws.{more_names}
use Rattle.pl_machine.proofs.compiled.compiled_of.Goals as goal

pub codes_of-requires-clause-linked : goal.codes_of-requires-clause-linked
codes_of-requires-clause-linked c =
    (more_names c.facts_stay.ensures c.args.program c.into_parts-old.result.1 c.into_parts-old.result.0 c.add_run_names.new.names c.into_parts-old.ensures.whole c.into_parts-old.ensures.linked c.in_ok-constructs.ensures.front c.in_ok-constructs.ensures.distinct).0

pub returns-clause-compiled : goal.returns-clause-compiled
returns-clause-compiled c =
    record {
      facts = (more_names c.facts_stay.ensures c.args.program c.into_parts-old.result.1 c.into_parts-old.result.0 c.add_run_names.new.names c.into_parts-old.ensures.whole c.into_parts-old.ensures.linked c.in_ok-constructs.ensures.front c.in_ok-constructs.ensures.distinct).0;
      made = c.in_ok-constructs.ensures.made;
      constructs = c.in_ok-constructs.ensures.constructs;
      codes = c.in_ok-codes.ensures.codes;
      targets = c.in_ok-codes.ensures.targets;
    }
