use Rattle.pl_store.specs.Linked.{with_names}
use Rattle.clause_code.proofs.ReadyLaws.{all-ready}
use Rattle.clause_code.proofs.codes.Codes.of.Goals as goal

pub all_codes-requires : goal.all_codes-requires
all_codes-requires c = all-ready (with_names c.args.tables.now c.args.names.now) c.args.control c.requires.linked c.requires.control
