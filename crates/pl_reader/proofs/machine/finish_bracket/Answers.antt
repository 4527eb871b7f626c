use Rattle.std.proofs.Common.{sym, ◌∙◌}
use Rattle.pl_reader.proofs.Contexts.{bracket_round, bracket_curly, bracket_call, bracket_call_full, bracket_list, bracket_tail}
use Rattle.pl_reader.proofs.machine.finish_bracket.Goals as goal

pub returns-in-Round : goal.returns-in-Round
returns-in-Round c = λ num o q b are k h. bracket_round num o q b _ (sym c.in-Round.is ∙ k) h

pub returns-in_ok-push-in-Curly : goal.returns-in_ok-push-in-Curly
returns-in_ok-push-in-Curly c = λ num o q b are k h. bracket_curly num o q b _ _ _ (sym c.in-Curly.is ∙ k) h are.curly_is c.in_ok-push-in-Curly.ensures.items

pub returns-in_ok-push-in-Call : goal.returns-in_ok-push-in-Call
returns-in_ok-push-in-Call c = λ num o q b are k h. bracket_call num o q b _ _ c.in-Call.name c.in-Call.n (sym c.in-Call.is ∙ k) h c.if-n-lt255.true c.in_ok-push-in-Call.ensures.items

pub returns-else-n-lt255 : goal.returns-else-n-lt255
returns-else-n-lt255 c = λ num o q b are k h. bracket_call_full num o q c.in-Call.name c.in-Call.n (sym c.in-Call.is ∙ k) c.if-n-lt255.false

pub returns-in_ok-push-in-List-2 : goal.returns-in_ok-push-in-List-2
returns-in_ok-push-in-List-2 c = λ num o q b are k h. bracket_list num o q b _ _ _ _ c.args.names c.in-List.n (sym c.in-List.is ∙ k) h are c.in_ok-push-in-List.ensures.items c.in_ok-push_dots-in-List.ensures c.in_ok-push-in-List-2.ensures.items

pub returns-in_ok-push-in-Tail : goal.returns-in_ok-push-in-Tail
returns-in_ok-push-in-Tail c = λ num o q b are k h. bracket_tail num o q b _ _ _ c.args.names c.in-Tail.n (sym c.in-Tail.is ∙ k) h are c.in_ok-push_dots-in-Tail.ensures c.in_ok-push-in-Tail.ensures.items
