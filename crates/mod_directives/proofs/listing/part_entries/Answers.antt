use Rattle.std.proofs.Common.{◌≡◌, length, ap, ◌∙◌, arith, ◌-◌}
use Rattle.pl_terms.specs.Order.{text_of}
use Rattle.pl_terms.specs.Trees.{count, back}
use Rattle.term_walk.proofs.NameBounds.{entered_below}
use Rattle.term_walk.proofs.Walking.{count-back}
use Rattle.mod_directives.proofs.Naming.{atom-passed}
use Rattle.mod_directives.proofs.Reading.{part-is}
use Rattle.mod_directives.proofs.listing.part_entries.Goals as goal

pub list_entries-requires-clause-one : goal.list_entries-requires-clause-one
list_entries-requires-clause-one c =
    let f = text_of c.args.names.now in
    let next : c.enter.new.self ≡ back 1 c.args.args = c.enter.ensures.trees ∙ atom-passed f c.args.args (f c.in-Some.module.0) (c.in-Some.ensures.text f) in
    let left : count (back 1 c.args.args) ≡ count c.args.args - 1 = count-back 1 c.args.args in
    let same : count c.enter.new.self ≡ count (back 1 c.args.args) = ap count next in
    omega arith

pub list_entries-requires-clause-below : goal.list_entries-requires-clause-below
list_entries-requires-clause-below c = entered_below (length c.args.names.now) c.args.args c.enter.new.self c.enter.ensures.trees c.requires.below

pub returns : goal.returns
returns c =
    let f = text_of c.args.names.now in
    let next : c.enter.new.self ≡ back 1 c.args.args = c.enter.ensures.trees ∙ atom-passed f c.args.args (f c.in-Some.module.0) (c.in-Some.ensures.text f) in
    part-is c.args.names.now c.args.whole c.args.byte c.args.args c.enter.new.self c.in-Some.module c.part.result c.list_entries.result c.part.ensures (c.in-Some.ensures.text f) next c.list_entries.ensures
