use Rattle.std.proofs.Common.{◌∙◌, ap, sym, arith}
use Rattle.pl_unify.specs.State.{tree_at}
use Rattle.goal_model.specs.Rows.{calling}
use Rattle.goal_constructs.specs.Goals.{is_call, called_term, more_arguments}
use Rattle.goal_constructs.proofs.OtherRows.{calling-row}
use Rattle.goal_constructs.proofs.KindLaws.{built}
use Rattle.goal_constructs.proofs.constructs.Constructs.compound_kind.Goals as goal

pub returns-then-is_call : goal.returns-then-is_call
returns-then-is_call c = λ n are s at h.
    built n s at (calling (called_term (tree_at s at)) (more_arguments (tree_at s at)))
    (calling-row n (tree_at s at) c.args.name c.args.arity h (ap (λ b. is_call b c.args.arity) (are.names.call.known c.args.name.0) ∙ (sym c.is_call.ensures ∙ c.if-is_call.true))) tt

pub returns-in_default : goal.returns-in_default
returns-in_default c = λ n are s at h.
    let call = ap (λ b. is_call b c.args.arity) (are.names.call.known c.args.name.0) ∙ (sym c.is_call.ensures ∙ c.if-is_call.false) in
    let d = c.in_default in
    c.kind_of.ensures n s at (c.other_row.ensures.row n s at c.args.name c.args.arity h (λ e. omega (arith, d, e)) (λ e. omega (arith, d, e)) (λ e. omega (arith, d, e)) (c.place-place.ensures ∙ are.rows c.args.name.0 c.args.arity) call)
