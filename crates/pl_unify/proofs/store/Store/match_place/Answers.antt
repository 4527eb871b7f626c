use Rattle.std.proofs.Common.{◌≡◌, ◌∙◌, ◌∷◌, [], ◌+◌, ap, sym, subst, refl, true, arith, rules}
use Rattle.std.specs.Int.{w64}
use Rattle.std.specs.Int.RustNames.{FitsSigned}
use Rattle.std.proofs.lemmas.Int.{to_z-of_z}
use Rattle.pl_terms.specs.Trees.{int}
use Rattle.unifier_model.proofs.Replaced.{apply-int, apply-atom}
use Rattle.pl_unify.specs.declared.code.CodeWord.TheVariants as K
use Rattle.pl_unify.specs.declared.store.head.Met.TheVariants as M
use Rattle.pl_unify.specs.Code.{code_tree_in}
use Rattle.pl_unify.specs.State.{bound, tree_at, tree_of_var}
use Rattle.pl_unify.specs.Match.{SolvedBy}
use Rattle.pl_unify.proofs.Matching.{Answer, code_var, code_word, first-tree, met_answer}
use Rattle.pl_unify.proofs.store.Store.match_place.Goals as goal
use Rattle.pl_unify.proofs.store.Store.match_place.Goals.{In-Var}

variable : (c : In-Var) → code_tree_in c.args.self.now.state c.args.base c.args.code.now.words c.args.p ≡ tree_of_var c.args.self.now.state (c.in-Var.n + c.args.base)
variable c =
    code_var c.args.self.now.state c.args.base c.args.code.now.words c.args.code.now.vars c.args.p c.in-Var.n c.word.ensures.code c.requires.code c.in-Var.ensures.word

pub returns-then-next-number-clause-met : goal.returns-then-next-number-clause-met
returns-then-next-number-clause-met c =
    let e = variable (goal.at.returns-then-next-number-clause-met c).In-Var in
    met_answer c.args.self.now.state c.match_new_variable.new.self.state c.args.base c.args.code.now.words (tree_at c.args.self.now.state (record { 0 = c.args.place })) c.args.p true M.Done refl
    (subst (λ u. SolvedBy c.args.self.now.state c.match_new_variable.new.self.state ((tree_at c.args.self.now.state (record { 0 = c.args.place }), u) ∷ []))
    (first-tree c.args.self.now.state c.args.base c.args.code.now.words c.args.p (c.in-Var.n + c.args.base) c.next_var-next.ensures.store (omega (arith, c.next_var-next.ensures.next)) e)
    c.in_ok-match_new_variable-in-Var.ensures.solved)

pub returns-in_ok-yes-in-Var-clause-met : goal.returns-in_ok-yes-in-Var-clause-met
returns-in_ok-yes-in-Var-clause-met c =
    let e = variable (goal.at.returns-in_ok-yes-in-Var-clause-met c).In-Var in
    met_answer c.args.self.now.state c.match_variable.new.self.state c.args.base c.args.code.now.words (tree_at c.args.self.now.state (record { 0 = c.args.place })) c.args.p c.in_ok-yes-in-Var.yes c.met_by.result c.met_by.ensures
    (subst (λ u. Answer c.args.self.now.state c.match_variable.new.self.state ((tree_at c.args.self.now.state (record { 0 = c.args.place }), u) ∷ []) c.in_ok-yes-in-Var.yes) (sym e) c.in_ok-yes-in-Var.ensures.answer)

pub returns-in_ok-yes-in-Int-clause-met : goal.returns-in_ok-yes-in-Int-clause-met
returns-in_ok-yes-in-Int-clause-met c =
    let fits : FitsSigned w64 c.in-Int.value = search rules in
    let e = code_word c.args.self.now.state c.args.base c.args.code.now.words c.args.code.now.vars c.args.p (K.Int c.in-Int.value) c.word.ensures.code c.requires.code c.in-Int.ensures.word
    ∙ (apply-int (bound c.args.self.now.state) c.in-Int.value ∙ ap int (sym (to_z-of_z w64 c.in-Int.value fits))) in
    met_answer c.args.self.now.state c.match_int.new.self.state c.args.base c.args.code.now.words (tree_at c.args.self.now.state (record { 0 = c.args.place })) c.args.p c.in_ok-yes-in-Int.yes c.met_by-in-Int.result c.met_by-in-Int.ensures
    (subst (λ u. Answer c.args.self.now.state c.match_int.new.self.state ((tree_at c.args.self.now.state (record { 0 = c.args.place }), u) ∷ []) c.in_ok-yes-in-Int.yes) (sym e) c.in_ok-yes-in-Int.ensures.answer)

pub returns-in_ok-yes-in-Name-clause-met : goal.returns-in_ok-yes-in-Name-clause-met
returns-in_ok-yes-in-Name-clause-met c =
    let e = code_word c.args.self.now.state c.args.base c.args.code.now.words c.args.code.now.vars c.args.p (K.Name c.in-Name.name) c.word.ensures.code c.requires.code c.in-Name.ensures.word
    ∙ apply-atom (bound c.args.self.now.state) c.in-Name.name.0 in
    met_answer c.args.self.now.state c.match_name.new.self.state c.args.base c.args.code.now.words (tree_at c.args.self.now.state (record { 0 = c.args.place })) c.args.p c.in_ok-yes-in-Name.yes c.met_by-in-Name.result c.met_by-in-Name.ensures
    (subst (λ u. Answer c.args.self.now.state c.match_name.new.self.state ((tree_at c.args.self.now.state (record { 0 = c.args.place }), u) ∷ []) c.in_ok-yes-in-Name.yes) (sym e) c.in_ok-yes-in-Name.ensures.answer)
