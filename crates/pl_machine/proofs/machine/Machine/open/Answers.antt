use Rattle.std.proofs.Common.{◌∙◌, ap}
use Rattle.pl_machine.proofs.RoomLaws.{opened_well, opened_deep}
use Rattle.pl_machine.proofs.machine.Machine.open.Goals as goal

pub returns-clause-others : goal.returns-clause-others
returns-clause-others c = ap (λ p. record c.args.self.now { path = p }) c.open.ensures.others

pub returns-clause-well : goal.returns-clause-well
returns-clause-well c = opened_deep c.args.self.now.compiled c.args.self.now.path c.open.new.self c.args.choice c.open.ensures.others c.open.ensures.choices c.requires.inside

pub returns-clause-inside : goal.returns-clause-inside
returns-clause-inside c = λ node inside well. record {
  compiled = inside.compiled;
  well = opened_well c.args.self.now.compiled c.args.self.now.path c.open.new.self c.args.choice c.open.ensures.others c.open.ensures.choices node well;
  depth = ap (λ p. p.depth) c.open.ensures.others ∙ inside.depth;
}
