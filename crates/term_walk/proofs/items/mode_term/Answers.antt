use Rattle.std.proofs.Common.{◌≡◌, ap, sym, ◌∙◌, Some, List, Bool}
use Rattle.std.specs.Option.{option_map}
use Rattle.pl_terms.specs.Order.{text_of}
use Rattle.pl_terms.specs.declared.cell.Cell.TheVariants.{Comp}
use Rattle.term_walk.proofs.Readings.{mode_term-is}
use Rattle.term_walk.proofs.items.mode_term.Goals as goal

pub returns-in-Some-clause-form : goal.returns-in-Some-clause-form
returns-in-Some-clause-form c =
    let f = text_of c.args.names.now in
    let cell : c.peek.result ≡ Some (Comp c.in-Some-Comp.name c.in-Some-Comp.count) = cc in
    let is = mode_term-is f c.args.walk.now c.again-args.result c.enter.new.self c.peek.result c.in-Some-Comp.name c.in-Some-Comp.count _ cell c.peek.ensures c.again-args.ensures c.enter.ensures.trees c.in_ok-modes.ensures in
    ap (option_map (λ (ms : List Bool). (f c.in-Some-Comp.name.0, ms))) (sym c.in-Some.is) ∙ is

pub returns-in-None-clause-form : goal.returns-in-None-clause-form
returns-in-None-clause-form c =
    let f = text_of c.args.names.now in
    let cell : c.peek.result ≡ Some (Comp c.in-Some-Comp.name c.in-Some-Comp.count) = cc in
    let is = mode_term-is f c.args.walk.now c.again-args.result c.enter.new.self c.peek.result c.in-Some-Comp.name c.in-Some-Comp.count _ cell c.peek.ensures c.again-args.ensures c.enter.ensures.trees c.in_ok-modes.ensures in
    ap (option_map (λ (ms : List Bool). (f c.in-Some-Comp.name.0, ms))) (sym c.in-None.is) ∙ is
