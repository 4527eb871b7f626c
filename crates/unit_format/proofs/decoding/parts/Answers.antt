use Rattle.std.proofs.Common.{arith, sym, ◌∙◌}
use Rattle.std.proofs.lemmas.Result.{err_from_is_err_and}
use Rattle.unit_format.specs.Views.{raw_view}
use Rattle.unit_format.proofs.Decodes.{too_long, unread, unordered, broken, kept}
use Rattle.unit_format.proofs.decoding.parts.Goals as goal

pub returns-then-bytes-gt-LIMIT : goal.returns-then-bytes-gt-LIMIT
returns-then-bytes-gt-LIMIT c = too_long c.args.bytes.now (omega arith)

pub returns-in_err-names : goal.returns-in_err-names
returns-in_err-names c =
    let p = err_from_is_err_and c.from_residual.result c.from_residual.ensures.1 in
    rw (p.1, p.2) (unread c.in_err-names.field-0.0 c.args.bytes.now (omega arith) c.in_err-names.ensures)

pub returns-then-not-is_in_order : goal.returns-then-not-is_in_order
returns-then-not-is_in_order c =
    unordered c.args.bytes.now (raw_view (c.in_ok-names.names, c.in_ok-names.facts)) (omega arith) c.in_ok-names.ensures (sym c.is_in_order.ensures ∙ c.if-not-is_in_order.true)

pub returns-then-not-branch : goal.returns-then-not-branch
returns-then-not-branch c =
    broken c.args.bytes.now c.in_ok-names.names c.in_ok-names.facts (omega arith) (λ i. omega (arith, c.type_inv.bytes i)) c.in_ok-names.ensures (sym c.is_in_order.ensures ∙ c.if-not-is_in_order.false) (sym c.if-not-branch.true ∙ c.in_ok-keeps_rules.ensures)

pub returns : goal.returns
returns c =
    kept c.args.bytes.now c.in_ok-names.names c.in_ok-names.facts (omega arith) (λ i. omega (arith, c.type_inv.bytes i)) c.in_ok-names.ensures (sym c.is_in_order.ensures ∙ c.if-not-is_in_order.false) (sym c.if-not-branch.false ∙ c.in_ok-keeps_rules.ensures)
