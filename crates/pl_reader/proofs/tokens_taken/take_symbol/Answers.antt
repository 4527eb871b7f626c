use Rattle.pl_ops.specs.Tables.{operator}
use Rattle.pl_reader.proofs.TokenSteps.{refused, moved}
use Rattle.pl_reader.proofs.tokens_taken.take_symbol.Goals as goal

pub returns-in-None : goal.returns-in-None
returns-in-None c = λ num t following ts whole are h n a g.
    refused num (operator c.args.table.now) following whole c.args.state c.failed.result t ts c.args.waiting.now.items c.args.contexts.now.items c.args.out.now.items c.requires.ready (c.in-None.ensures num t _ _ are h n a) c.failed.ensures g

pub returns-in_ok-last-in-Some : goal.returns-in_ok-last-in-Some
returns-in_ok-last-in-Some c = λ num t following ts whole are h n a g.
    moved num (operator c.args.table.now) following whole c.args.state c.in-Some.moved c.in_ok-last-in-Some.last t ts c.args.waiting.now.items _ c.args.contexts.now.items _ c.args.out.now.items _ c.requires.ready (c.in-Some.ensures num t _ _ are h n a) (λ F i k s. c.in_ok-last-in-Some.ensures num F i are k s) g
