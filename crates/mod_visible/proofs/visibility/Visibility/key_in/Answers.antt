use Rattle.std.proofs.Common.{sym}
use Rattle.pl_atoms.proofs.Texts.{slice_get-place}
use Rattle.mod_visible.proofs.NameLaws.{no_place}
use Rattle.mod_visible.proofs.visibility.Visibility.key_in.Goals as goal

pub returns-in-Some-clause-some : goal.returns-in-Some-clause-some
returns-in-Some-clause-some c = record {
  name = c.in-Some.name.0;
  called = slice_get-place c.args.self.now.names c.args.name.now c.in-Some.name.0 (sym c.in-Some.ensures);
  is = c.with.ensures;
}

pub returns-in-None-clause-none : goal.returns-in-None-clause-none
returns-in-None-clause-none c = λ n at. no_place c.args.self.now.names c.args.name.now n (sym c.in-None.ensures) at
