use Rattle.pl_reader.proofs.OneTree.{OneTreeOfTokens-holds}
use Rattle.pl_reader.proofs.laws.one_tree_of_tokens.Goals as goal

pub returns : goal.returns
returns c = OneTreeOfTokens-holds
