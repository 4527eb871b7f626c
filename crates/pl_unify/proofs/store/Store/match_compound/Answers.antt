use Rattle.std.proofs.Common.{◌≡◌, ◌∙◌, ap, sym, subst, inl, inr, not, rules, length}
use Rattle.std.proofs.lemmas.Bool.{eq-eqb, false≢true}
use Rattle.pl_atoms.specs.declared.names.NameId.{NameId}
use Rattle.pl_unify.specs.declared.word.Word.TheVariants.{Comp}
use Rattle.pl_unify.specs.Words.{WordIn}
use Rattle.pl_unify.specs.State.{tree_at, shape}
use Rattle.pl_unify.specs.Match.{code_equation}
use Rattle.pl_unify.proofs.Matching.{met_answer, matched_parts, matched_clash, Answer}
use Rattle.pl_unify.proofs.store.Store.match_compound.Goals as goal

pub returns-then-ne-clause-met : goal.returns-then-ne-clause-met
returns-then-ne-clause-met c =
    matched_clash c.args.self.now.state c.args.base c.args.code.now.words c.args.code.now.vars (tree_at c.args.self.now.state (record { 0 = c.args.place })) (Comp c.in-Comp.count c.in-Comp.other c.in-Comp.place) c.args.p c.args.arity c.args.name c.args.first c.requires.compound.0
    c.requires.layout c.requires.code c.requires.compound.1 c.in-Comp.ensures.shape c.in-Comp.ensures.within (λ n q. cc)
    (λ j g place q. inl (λ e.
    let same : c.in-Comp.other ≡ g = cc in
    false≢true (ap not (sym (eq-eqb c.args.name.0 c.in-Comp.other.0 (ap (λ (n : NameId). n.0) (e ∙ sym same)))) ∙ (sym c.ne.ensures ∙ c.if-ne.true))))

pub returns-then-arity-count-clause-met : goal.returns-then-arity-count-clause-met
returns-then-arity-count-clause-met c =
    matched_clash c.args.self.now.state c.args.base c.args.code.now.words c.args.code.now.vars (tree_at c.args.self.now.state (record { 0 = c.args.place })) (Comp c.in-Comp.count c.in-Comp.other c.in-Comp.place) c.args.p c.args.arity c.args.name c.args.first c.requires.compound.0
    c.requires.layout c.requires.code c.requires.compound.1 c.in-Comp.ensures.shape c.in-Comp.ensures.within (λ n q. cc)
    (λ j g place q. inr (λ e. let same : c.in-Comp.count ≡ j = cc in c.if-arity-count.true (e ∙ sym same)))

pub returns-else-arity-count-clause-met : goal.returns-else-arity-count-clause-met
returns-else-arity-count-clause-met c =
    let name : c.in-Comp.other ≡ c.args.name = search rules in
    let count : c.in-Comp.count ≡ c.args.arity = search rules in
    let word : Comp c.in-Comp.count c.in-Comp.other c.in-Comp.place ≡ Comp c.args.arity c.args.name c.in-Comp.place = cc in
    matched_parts c.args.self.now.state c.args.base c.args.code.now.words c.args.code.now.vars (tree_at c.args.self.now.state (record { 0 = c.args.place })) c.args.p c.args.arity c.args.name c.in-Comp.place c.args.first c.requires.compound.0
    c.requires.layout c.requires.code c.requires.compound.1 (c.in-Comp.ensures.shape ∙ ap (shape c.args.self.now.state) word) (subst (WordIn (length c.args.self.now.state.cells) c.args.self.now.state.next) word c.in-Comp.ensures.within)

pub returns-in_ok-yes-in-Var-clause-met : goal.returns-in_ok-yes-in-Var-clause-met
returns-in_ok-yes-in-Var-clause-met c =
    met_answer c.args.self.now.state c.bind_built.new.self.state c.args.base c.args.code.now.words (tree_at c.args.self.now.state (record { 0 = c.args.place })) c.args.p c.in_ok-yes-in-Var.yes c.met_by.result c.met_by.ensures
    (subst (λ t. Answer c.args.self.now.state c.bind_built.new.self.state (code_equation c.args.self.now.state c.args.base c.args.code.now.words t c.args.p) c.in_ok-yes-in-Var.yes) (sym c.in-Var.ensures.shape) c.in_ok-yes-in-Var.ensures.answer)

pub returns-in_default-clause-met : goal.returns-in_default-clause-met
returns-in_default-clause-met c =
    matched_clash c.args.self.now.state c.args.base c.args.code.now.words c.args.code.now.vars (tree_at c.args.self.now.state (record { 0 = c.args.place })) c.word_at.result c.args.p c.args.arity c.args.name c.args.first c.requires.compound.0
    c.requires.layout c.requires.code c.requires.compound.1 c.word_at.ensures.shape c.word_at.ensures.within c.in_default.not-Var
    (λ j g place q. absurd (c.in_default.not-Comp j g place q))
