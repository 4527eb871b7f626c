use Rattle.std.proofs.Common.{◌≡◌, length, codes, Some, true, false, ap, sym, ◌∙◌, refl, arith, subst}
use Rattle.pl_ops.specs.Tables.{same_text}
use Rattle.pl_terms.specs.Cells.{first}
use Rattle.pl_terms.specs.Trees.{back, count}
use Rattle.pl_terms.specs.Order.{text_of, texts_of}
use Rattle.pl_terms.specs.declared.cell.Cell.TheVariants.{Comp}
use Rattle.unit_model.specs.Directives.{Form, unary_form, binary_form, directive_of}
use Rattle.unit_model.specs.Preparing.{form_said, a_directive}
use Rattle.unit_model.specs.Saying.{IsSectionDirective}
use Rattle.term_walk.proofs.NameBounds.{entered_below}
use Rattle.mod_directives.proofs.Telling.{Tells-same, fault-tells}
use Rattle.mod_directives.proofs.Dispatch.{applied, unary-at, binary-at, op-at, no_op-at, none-at}
use Rattle.mod_directives.proofs.directive.directive_entries.Goals as goal

pub unary_entries-requires-clause-one : goal.unary_entries-requires-clause-one
unary_entries-requires-clause-one c =
    let names = c.args.names.now in
    let f = text_of names in
    let cell : c.peek.result ≡ Some (Comp c.in-Some-Comp.name c.in-Some-Comp.arity) = cc in
    let a = applied f c.args.directive c.enter.new.self c.peek.result c.in-Some-Comp.name c.in-Some-Comp.arity c.requires.one c.peek.ensures cell c.enter.ensures.trees in
    let n : count c.enter.new.self ≡ c.in-Some-Comp.arity = a.number in
    omega arith

pub binary_entries-requires-clause-two : goal.binary_entries-requires-clause-two
binary_entries-requires-clause-two c =
    let names = c.args.names.now in
    let f = text_of names in
    let cell : c.peek.result ≡ Some (Comp c.in-Some-Comp.name c.in-Some-Comp.arity) = cc in
    let a = applied f c.args.directive c.enter.new.self c.peek.result c.in-Some-Comp.name c.in-Some-Comp.arity c.requires.one c.peek.ensures cell c.enter.ensures.trees in
    let n : count c.enter.new.self ≡ c.in-Some-Comp.arity = a.number in
    omega arith

pub operator_entries-requires-clause-three : goal.operator_entries-requires-clause-three
operator_entries-requires-clause-three c =
    let names = c.args.names.now in
    let f = text_of names in
    let cell : c.peek.result ≡ Some (Comp c.in-Some-Comp.name c.in-Some-Comp.arity) = cc in
    let a = applied f c.args.directive c.enter.new.self c.peek.result c.in-Some-Comp.name c.in-Some-Comp.arity c.requires.one c.peek.ensures cell c.enter.ensures.trees in
    let n : count c.enter.new.self ≡ c.in-Some-Comp.arity = a.number in
    omega arith

pub unary_entries-requires-clause-below : goal.unary_entries-requires-clause-below
unary_entries-requires-clause-below c = entered_below (length c.args.names.now) c.args.directive c.enter.new.self c.enter.ensures.trees c.requires.below

pub binary_entries-requires-clause-below : goal.binary_entries-requires-clause-below
binary_entries-requires-clause-below c = entered_below (length c.args.names.now) c.args.directive c.enter.new.self c.enter.ensures.trees c.requires.below

pub operator_entries-requires-clause-below : goal.operator_entries-requires-clause-below
operator_entries-requires-clause-below c = entered_below (length c.args.names.now) c.args.directive c.enter.new.self c.enter.ensures.trees c.requires.below

pub unary_entries-requires-clause-other : goal.unary_entries-requires-clause-other
unary_entries-requires-clause-other c =
    let names = c.args.names.now in
    let f = text_of names in
    let cell : c.peek.result ≡ Some (Comp c.in-Some-Comp.name c.in-Some-Comp.arity) = cc in
    let a = applied f c.args.directive c.enter.new.self c.peek.result c.in-Some-Comp.name c.in-Some-Comp.arity c.requires.one c.peek.ensures cell c.enter.ensures.trees in
    let t = texts_of names (first c.enter.new.self) in
    let is : directive_of (texts_of names (first c.args.directive)) ≡ unary_form c.text-name.result.now t =
    unary-at f (first c.args.directive) c.in-Some-Comp.name c.in-Some-Comp.arity c.enter.new.self a c.in-1.is ∙ ap (λ s. unary_form s t) (sym c.text-name.ensures) in
    λ h. c.requires.other (subst (λ (form : Form). IsSectionDirective (a_directive form)) (sym is) h)

pub returns-in-1 : goal.returns-in-1
returns-in-1 c =
    let names = c.args.names.now in
    let f = text_of names in
    let cell : c.peek.result ≡ Some (Comp c.in-Some-Comp.name c.in-Some-Comp.arity) = cc in
    let a = applied f c.args.directive c.enter.new.self c.peek.result c.in-Some-Comp.name c.in-Some-Comp.arity c.requires.one c.peek.ensures cell c.enter.ensures.trees in
    let t = texts_of names (first c.enter.new.self) in
    let is : directive_of (texts_of names (first c.args.directive)) ≡ unary_form c.text-name.result.now t =
    unary-at f (first c.args.directive) c.in-Some-Comp.name c.in-Some-Comp.arity c.enter.new.self a c.in-1.is ∙ ap (λ s. unary_form s t) (sym c.text-name.ensures) in
    Tells-same names c.args.byte _ _ c.args.table.now _ _ (ap (λ (form : Form). form_said c.args.in_interface form c.args.table.now) is) refl (c.unary_entries.ensures c.args.table.now)

pub returns-in-2 : goal.returns-in-2
returns-in-2 c =
    let names = c.args.names.now in
    let f = text_of names in
    let cell : c.peek.result ≡ Some (Comp c.in-Some-Comp.name c.in-Some-Comp.arity) = cc in
    let a = applied f c.args.directive c.enter.new.self c.peek.result c.in-Some-Comp.name c.in-Some-Comp.arity c.requires.one c.peek.ensures cell c.enter.ensures.trees in
    let t = texts_of names (first c.enter.new.self) in
    let u = texts_of names (first (back 1 c.enter.new.self)) in
    let is : directive_of (texts_of names (first c.args.directive)) ≡ binary_form c.text-name.result.now t u =
    binary-at f (first c.args.directive) c.in-Some-Comp.name c.in-Some-Comp.arity c.enter.new.self a c.in-2.is ∙ ap (λ s. binary_form s t u) (sym c.text-name.ensures) in
    Tells-same names c.args.byte _ _ c.args.table.now _ _ (ap (λ (form : Form). form_said c.args.in_interface form c.args.table.now) is) refl (c.binary_entries.ensures c.args.table.now)

pub returns-then-is_op : goal.returns-then-is_op
returns-then-is_op c =
    let names = c.args.names.now in
    let f = text_of names in
    let cell : c.peek.result ≡ Some (Comp c.in-Some-Comp.name c.in-Some-Comp.arity) = cc in
    let a = applied f c.args.directive c.enter.new.self c.peek.result c.in-Some-Comp.name c.in-Some-Comp.arity c.requires.one c.peek.ensures cell c.enter.ensures.trees in
    let op : same_text (f c.in-Some-Comp.name.0) (codes "op") ≡ true = ap (λ s. same_text s (codes "op")) (sym c.text-name.ensures) ∙ sym c.is_op.ensures ∙ c.if-is_op.true in
    let is = op-at f (first c.args.directive) c.in-Some-Comp.name c.in-Some-Comp.arity c.enter.new.self a c.in-3.is op in
    Tells-same names c.args.byte _ _ c.operator_entries.new.table _ _ (ap (λ (form : Form). form_said c.args.in_interface form c.args.table.now) is) refl c.operator_entries.ensures

pub returns-else-is_op : goal.returns-else-is_op
returns-else-is_op c =
    let names = c.args.names.now in
    let f = text_of names in
    let cell : c.peek.result ≡ Some (Comp c.in-Some-Comp.name c.in-Some-Comp.arity) = cc in
    let a = applied f c.args.directive c.enter.new.self c.peek.result c.in-Some-Comp.name c.in-Some-Comp.arity c.requires.one c.peek.ensures cell c.enter.ensures.trees in
    let op : same_text (f c.in-Some-Comp.name.0) (codes "op") ≡ false = ap (λ s. same_text s (codes "op")) (sym c.text-name.ensures) ∙ sym c.is_op.ensures ∙ c.if-is_op.false in
    let is = no_op-at f (first c.args.directive) c.in-Some-Comp.name c.in-Some-Comp.arity c.enter.new.self a c.in-3.is op in
    fault-tells names c.args.byte c.args.in_interface c.args.table.now 8 _ (ap (λ (form : Form). form_said c.args.in_interface form c.args.table.now) is)

pub returns-in_default-arity : goal.returns-in_default-arity
returns-in_default-arity c =
    let names = c.args.names.now in
    let f = text_of names in
    let cell : c.peek.result ≡ Some (Comp c.in-Some-Comp.name c.in-Some-Comp.arity) = cc in
    let a = applied f c.args.directive c.enter.new.self c.peek.result c.in-Some-Comp.name c.in-Some-Comp.arity c.requires.one c.peek.ensures cell c.enter.ensures.trees in
    let is = none-at f (first c.args.directive) c.in-Some-Comp.name c.in-Some-Comp.arity c.enter.new.self a (λ h. omega arith) (λ h. omega arith) (λ h. omega arith) in
    fault-tells names c.args.byte c.args.in_interface c.args.table.now 8 _ (ap (λ (form : Form). form_said c.args.in_interface form c.args.table.now) is)
