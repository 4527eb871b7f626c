use Rattle.pl_unify.proofs.Matching.{IfOk-two, built-answer}
use Rattle.pl_unify.proofs.store.Store.bind_built.Goals as goal

pub returns-clause-answer : goal.returns-clause-answer
returns-clause-answer c =
    IfOk-two c.bind_word.result _ _ _
    (λ ok made absent. built-answer c.args.self.now.state c.build_word.new.self.state c.bind_word.new.self.state c.args.n c.in_ok-built.built c.args.base c.args.code.now.words c.args.p ok
    c.build_word.ensures.grows c.requires.number c.requires.free c.in_ok-built.ensures.within (c.in_ok-built.ensures.compound c.requires.compound) c.in_ok-built.ensures.tree c.bind_word.ensures.only made absent)
    c.bind_word.ensures.bound c.bind_word.ensures.inside
