use Rattle.std.proofs.Common.{◌≡◌, ◌∙◌, rules}
use Rattle.pl_unify.specs.declared.code.CodeWord.TheVariants.{Var, Int, Name, Comp}
use Rattle.pl_unify.specs.declared.word.View.TheVariants as V
use Rattle.pl_unify.proofs.CodeMaking.{root_seen}
use Rattle.pl_unify.proofs.code.Code.view.Goals as goal

pub returns-in-Var : goal.returns-in-Var
returns-in-Var c = root_seen c.args.self.now.words c.args.self.now.vars c.args.p (Var c.in-Var.n) c.word.ensures.code c.requires c.in-Var.ensures.word

pub returns-in-Int : goal.returns-in-Int
returns-in-Int c =
    let e : c.int_view.result ≡ V.Int c.in-Int.value = search rules in
    e ∙ root_seen c.args.self.now.words c.args.self.now.vars c.args.p (Int c.in-Int.value) c.word.ensures.code c.requires c.in-Int.ensures.word

pub returns-in-Name : goal.returns-in-Name
returns-in-Name c = root_seen c.args.self.now.words c.args.self.now.vars c.args.p (Name c.in-Name.name) c.word.ensures.code c.requires c.in-Name.ensures.word

pub returns-in-Comp : goal.returns-in-Comp
returns-in-Comp c = root_seen c.args.self.now.words c.args.self.now.vars c.args.p (Comp c.in-Comp.arity c.in-Comp.name c.in-Comp.field-2 c.in-Comp.field-3) c.word.ensures.code c.requires c.in-Comp.ensures.word
