use Rattle.pl_terms.specs.Forest.{forest-all_cells}
use Rattle.pl_terms.proofs.laws.forest_law.Goals as goal

pub returns : goal.returns
returns c = forest-all_cells
