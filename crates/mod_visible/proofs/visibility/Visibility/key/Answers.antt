use Rattle.std.proofs.Common.{sym}
use Rattle.pl_atoms.proofs.Texts.{slice_get-place}
use Rattle.mod_visible.proofs.NameLaws.{no_place, some_key, none_key}
use Rattle.mod_visible.proofs.visibility.Visibility.key.Goals as goal

pub returns-in-Some-clause-some : goal.returns-in-Some-clause-some
returns-in-Some-clause-some c =
    let names = c.args.self.now.names in
    let home = c.in-Some.home.0 in
    some_key names c.args.sort c.args.home.now c.args.name.now c.args.arity home (slice_get-place names c.args.home.now home (sym c.in-Some.ensures)) c.key_in.result c.key_in.ensures.some

pub returns-in-Some-clause-none : goal.returns-in-Some-clause-none
returns-in-Some-clause-none c =
    let names = c.args.self.now.names in
    let home = c.in-Some.home.0 in
    none_key names c.args.sort c.args.home.now c.args.name.now c.args.arity home (slice_get-place names c.args.home.now home (sym c.in-Some.ensures)) c.key_in.result c.key_in.ensures.none

pub returns-in-None-clause-none : goal.returns-in-None-clause-none
returns-in-None-clause-none c = λ k for. no_place c.args.self.now.names c.args.home.now for.home (sym c.in-None.ensures) for.of
