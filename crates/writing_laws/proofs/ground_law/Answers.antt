use Rattle.writing_laws.proofs.Ground.{ground-term}
use Rattle.writing_laws.proofs.ground_law.Goals as goal

pub returns : goal.returns
returns c = λ names utf8 none. ground-term names c.args.term.now c.cells.result.now c.cells.ensures.same c.cells.ensures.whole c.all_ranged.ensures utf8 none
