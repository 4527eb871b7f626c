use Rattle.pl_reader.proofs.TokenSteps.{text_taken, text_refused}
use Rattle.pl_reader.proofs.tokens_taken.take_text.Goals as goal

pub returns-in_ok-last : goal.returns-in_ok-last
returns-in_ok-last c = λ num look t following ts whole stack contexts are h g.
    text_taken num look following whole c.args.state c.in_ok-last.last c.args.text.now t ts stack contexts c.args.out.now.items c.take_codes.new.out.items c.requires c.if-state.true h (λ F s. c.in_ok-last.ensures num look F stack contexts are s) g

pub returns-else-state : goal.returns-else-state
returns-else-state c = λ num look t following ts whole stack contexts are h g.
    text_refused num look following whole c.args.state c.failed.result c.args.text.now t ts stack contexts c.args.out.now.items c.requires c.if-state.false h c.failed.ensures g
