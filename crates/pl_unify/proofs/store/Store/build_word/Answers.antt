use Rattle.std.proofs.Common.{◌≡◌, ◌∙◌, ap, sym, subst, arith, ◌+◌, rules}
use Rattle.pl_unify.specs.declared.code.CodeWord.TheVariants as K
use Rattle.pl_unify.specs.declared.word.Word.TheVariants as W
use Rattle.pl_unify.specs.Code.{CodeIn}
use Rattle.pl_unify.specs.State.{tree_of_word}
use Rattle.pl_unify.proofs.Building.{built_comp}
use Rattle.pl_unify.proofs.Matching.{code_word, code_var}
use Rattle.pl_unify.proofs.store.Store.build_word.Goals as goal

pub overflow_add-result-in-Comp : goal.overflow_add-result-in-Comp
overflow_add-result-in-Comp c =
    let within : CodeIn c.args.code.now.words c.args.code.now.vars c.args.p (K.Comp c.in-Comp.arity c.in-Comp.name c.in-Comp.first c.in-Comp.from) = subst (CodeIn c.args.code.now.words c.args.code.now.vars c.args.p) (sym c.in-Comp.ensures.word) (c.word.ensures.code.words_in c.args.p c.requires.place) in
    omega (arith, within.1, c.requires.place, c.in-Comp.ensures.small, c.in_ok-at-in-Comp.ensures.at.2)

pub returns-in_ok-make_below-in-Var-clause-tree : goal.returns-in_ok-make_below-in-Var-clause-tree
returns-in_ok-make_below-in-Var-clause-tree c =
    c.make_below.ensures.grows.variables (c.in-Var.n + c.args.base)
    ∙ sym (code_var c.args.self.now.state c.args.base c.args.code.now.words c.args.code.now.vars c.args.p c.in-Var.n c.word.ensures.code c.requires.place c.in-Var.ensures.word)

pub returns-in-Int-clause-tree : goal.returns-in-Int-clause-tree
returns-in-Int-clause-tree c =
    let e : c.int_word.result ≡ W.Int c.in-Int.value = search rules in
    ap (tree_of_word c.args.self.now.state) e
    ∙ sym (code_word c.args.self.now.state c.args.base c.args.code.now.words c.args.code.now.vars c.args.p (K.Int c.in-Int.value) c.word.ensures.code c.requires.place c.in-Int.ensures.word)

pub returns-in-Name-clause-tree : goal.returns-in-Name-clause-tree
returns-in-Name-clause-tree c =
    sym (code_word c.args.self.now.state c.args.base c.args.code.now.words c.args.code.now.vars c.args.p (K.Name c.in-Name.name) c.word.ensures.code c.requires.place c.in-Name.ensures.word)

pub returns-in_ok-at-in-Comp-clause-tree : goal.returns-in_ok-at-in-Comp-clause-tree
returns-in_ok-at-in-Comp-clause-tree c =
    built_comp c.args.self.now.state c.build_range.new.self.state c.args.base c.args.code.now.words c.args.code.now.vars c.args.p c.in-Comp.arity c.in-Comp.name c.in-Comp.first c.in-Comp.from c.in_ok-at-in-Comp.at
    c.word.ensures.code c.requires.place c.in-Comp.ensures.word c.build_range.ensures.grows c.in_ok-at-in-Comp.ensures.at.1 c.in_ok-at-in-Comp.ensures.trees
