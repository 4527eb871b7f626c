use Rattle.std.proofs.Common.{◌∙◌, ap, subst}
use Rattle.pl_terms.specs.Occurrence.{canon}
use Rattle.goal_moves.specs.Moves.{thrown, Moved}
use Rattle.goal_moves.specs.Throwing.{exits_here}
use Rattle.goal_moves.proofs.Committing.{IfOk-then}
use Rattle.goal_moves.proofs.raising.raise.Goals as goal

pub returns-clause-moved : goal.returns-clause-moved
returns-clause-moved c =
    let b = c.args.compiled.now in
    let p = c.args.path.now in
    IfOk-then c.throw.result c.throw.ensures.moved (λ g m. subst (λ t. Moved b p c.throw.new.path (thrown b p t (exits_here b p c.args.rest)) g) (c.in_ok-term.ensures ∙ ap canon c.in_ok-copy.ensures) m)
