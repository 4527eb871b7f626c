use Rattle.std.proofs.lemmas.Result.{err_from_is_err_and}
use Rattle.pl_terms.specs.Order.{text_of}
use Rattle.mod_body.proofs.Steps.{done-at, done-term, done-is, refused-at, not_so}
use Rattle.mod_body.proofs.convert.converted.Goals as goal

pub returns-in_err-convert_goal-clause-none : goal.returns-in_err-convert_goal-clause-none
returns-in_err-convert_goal-clause-none c =
    let p = err_from_is_err_and c.from_residual.result c.from_residual.ensures.1 in
    rw (p.1, p.2) (λ e. refused-at (text_of c.args.names.now) c.args.call.0 c.args.goals c.loop-goals.goals c.loop-goals.out c.new-out.result c.new-out.ensures c.requires c.loop-goals.invariant.cells
    (c.in_err-convert_goal.ensures.none e))

pub end_whole-requires : goal.end_whole-requires
end_whole-requires c =
    let f = text_of c.args.names.now in
    let d = done-at f c.args.call.0 c.args.goals c.loop-goals.goals c.loop-goals.out c.new-out.result c.new-out.ensures c.requires (not_so c.has_more.result c.loop-goals-test.false c.has_more.ensures.1) c.loop-goals.invariant.cells in
    done-term f c.args.call.0 c.loop-goals.out _ d c.loop-goals.invariant.are

pub returns-clause-ok : goal.returns-clause-ok
returns-clause-ok c =
    let f = text_of c.args.names.now in
    let d = done-at f c.args.call.0 c.args.goals c.loop-goals.goals c.loop-goals.out c.new-out.result c.new-out.ensures c.requires (not_so c.has_more.result c.loop-goals-test.false c.has_more.ensures.1) c.loop-goals.invariant.cells in
    done-is f c.args.call.0 c.loop-goals.out _ c.end_whole.result d c.end_whole.ensures
