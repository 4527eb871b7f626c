use Rattle.std.proofs.Common.{sym, ◌∙◌}
use Rattle.unit_format.proofs.SetLaws.{modules_fail, modules_are}
use Rattle.unit_format.proofs.modules.are_modules_known.Goals as goal

pub returns-then-not-branch : goal.returns-then-not-branch
returns-then-not-branch c =
    modules_fail c.args.names.now c.args.facts.now c.in_ok-known.known.ids.keys c.as_slice-sections.result.now c.as_slice.result.now c.as_slice-sections.ensures c.as_slice.ensures c.in_ok-known.ensures (sym c.if-not-branch.true ∙ c.in_ok-add_needs.ensures.test)

pub returns : goal.returns
returns c =
    modules_are c.args.names.now c.args.facts.now c.in_ok-known.known.ids.keys c.add_needs.new.known.ids.keys c.as_slice-sections.result.now c.as_slice.result.now c.all_known.result c.as_slice-sections.ensures c.as_slice.ensures c.in_ok-known.ensures
    (sym c.if-not-branch.false ∙ c.in_ok-add_needs.ensures.test) (c.in_ok-add_needs.ensures.known c.if-not-branch.false) c.all_known.ensures
