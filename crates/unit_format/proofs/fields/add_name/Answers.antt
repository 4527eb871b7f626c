use Rattle.std.proofs.Common.{arith, sym, ◌∙◌}
use Rattle.unit_format.proofs.NameLaws.{is_kept, is_put}
use Rattle.unit_format.proofs.fields.add_name.Goals as goal

pub returns-then-len-before-clause-err : goal.returns-then-len-before-clause-err
returns-then-len-before-clause-err c = is_kept c.args.names.now c.intern.new.self c.args.text.now c.in_ok-intern.ensures.ok (omega (arith, c.len.ensures.length, c.len-before.ensures.length, c.if-len-before.true))

pub returns-clause-ok : goal.returns-clause-ok
returns-clause-ok c = is_put c.args.names.now c.intern.new.self c.args.text.now (sym c.is_utf8.ensures ∙ c.if-not-is_utf8.false) c.in_ok-intern.ensures.ok (λ e. c.if-len-before.false (omega (arith, c.len.ensures.length, c.len-before.ensures.length, e)))
