use Rattle.std.proofs.Common.{sym, ◌∙◌}
use Rattle.mod_visible.specs.Finding.{indicator}
use Rattle.mod_visible.proofs.LookLaws.{absent, finds_built_in, finds_first, finds_none}
use Rattle.mod_visible.proofs.visibility.Visibility.lookup.Goals as goal

pub returns-then-is_builtin-clause-found : goal.returns-then-is_builtin-clause-found
returns-then-is_builtin-clause-found c = λ units v.
    let s = c.args.self.now in
    finds_built_in units s.names c.args.home.now (indicator c.args.name.now c.args.arity) (sym (v.modules c.args.home.now) ∙ sym c.exists.ensures ∙ c.if-not-exists.false) (sym c.is_builtin.ensures ∙ c.if-is_builtin.true) s.system.0 v.system

pub returns-in-Some-clause-found : goal.returns-in-Some-clause-found
returns-in-Some-clause-found c = λ units v.
    let s = c.args.self.now in
    finds_first units s.names c.args.home.now (indicator c.args.name.now c.args.arity) (sym (v.modules c.args.home.now) ∙ sym c.exists.ensures ∙ c.if-not-exists.false) (sym c.is_builtin.ensures ∙ c.if-is_builtin.false) c.in-Some.cause (c.in-Some.ensures units v)

pub returns-in-None-clause-none : goal.returns-in-None-clause-none
returns-in-None-clause-none c = λ units v.
    finds_none units c.args.self.now.names c.args.home.now (indicator c.args.name.now c.args.arity) (sym c.is_builtin.ensures ∙ c.if-is_builtin.false) (c.in-None.ensures units v)

pub returns-then-not-exists-clause-none : goal.returns-then-not-exists-clause-none
returns-then-not-exists-clause-none c = λ units v.
    absent units c.args.self.now.names c.args.home.now (indicator c.args.name.now c.args.arity) (sym (v.modules c.args.home.now) ∙ sym c.exists.ensures ∙ c.if-not-exists.true)
