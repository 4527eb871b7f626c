use Rattle.std.proofs.Common.{map, sym, ap, ◌∙◌}
use Rattle.unit_format.specs.Views.{unit_facts}
use Rattle.link_model.specs.Faults.{fault, first_link}
use Rattle.plmod.specs.Links.{link_lines, link_faulty, linked_outcome}
use Rattle.plmod.proofs.GoalLaws.{made_same}
use Rattle.plmod.proofs.Tellings.{of_none, lines_of_link}
use Rattle.plmod.proofs.link.counts_told.Goals as goal

pub returns-in_ok-count_line-in-Ok-clause-gives : goal.returns-in_ok-count_line-in-Ok-clause-gives
returns-in_ok-count_line-in-Ok-clause-gives c =
    let us = map unit_facts c.args.units.now in
    of_none _ (link_lines us) c.args.names.now (first_link us) (sym c.in-Ok.ensures.none) (c.in_ok-count_line-in-Ok.ensures ∙ lines_of_link us c.in-Ok.program c.in-Ok.ensures.program)

pub returns-in-Err-Fault-clause-gives : goal.returns-in-Err-Fault-clause-gives
returns-in-Err-Fault-clause-gives c =
    let us = map unit_facts c.args.units.now in
    let f = fault c.in-Err-Fault.unit c.in-Err-Fault.byte c.in-Err-Fault.number in
    made_same c.faulty_link.result (link_faulty c.args.names.now f) (linked_outcome (link_lines us) c.args.names.now (first_link us))
    (ap (linked_outcome (link_lines us) c.args.names.now) (sym (rw c.in-Err-Fault.field-0-is at c.in-Err-Fault.ensures.fault))) c.faulty_link.ensures.gives
