use Rattle.std.proofs.Common.{arith, length}
use Rattle.pl_unify.proofs.Arguments.{arguments-answer, arguments-count, no-arguments, span-in}
use Rattle.pl_unify.proofs.Matching.{IfOk-one}
use Rattle.pl_unify.specs.State.{tree_at}
use Rattle.pl_unify.proofs.StoreLaws.{Extends-refl}
use Rattle.pl_unify.proofs.store.Store.head_of.Goals as goal

pub match_span-requires-clause-span : goal.match_span-requires-clause-span
match_span-requires-clause-span c =
    span-in (length c.args.self.now.state.cells) (length c.args.code.now.words) c.in-Comp.first c.args.at c.in-Comp.count c.in-Comp.ensures.within.0
    (omega (arith, c.requires.places, arguments-count c.args.self.now.state c.in-Comp.first c.in-Comp.count c.in-Comp.field-1 (tree_at c.args.self.now.state c.args.goal) c.in-Comp.ensures.shape c.in-Comp.ensures.within.0))

pub returns-in-Comp-clause-answer : goal.returns-in-Comp-clause-answer
returns-in-Comp-clause-answer c =
    IfOk-one c.match_span.result _ _
    (λ ok d. arguments-answer c.args.self.now.state c.match_span.new.self.state c.args.base c.args.code.now.words c.args.at c.in-Comp.first c.in-Comp.count c.in-Comp.field-1 (tree_at c.args.self.now.state c.args.goal) ok
    c.in-Comp.ensures.shape c.in-Comp.ensures.within.0 d)
    c.match_span.ensures.answer

pub returns-in_default : goal.returns-in_default
returns-in_default c = record {
  extends = Extends-refl c.args.self.now.state;
  next = omega arith;
  answer = no-arguments c.args.self.now.state c.args.base c.args.code.now.words c.args.at (tree_at c.args.self.now.state c.args.goal) c.word_at.result c.word_at.ensures.shape
      (λ k f first e. c.in_default.not-Comp k f first e);
}
