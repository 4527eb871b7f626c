use Rattle.std.proofs.Common.{◌+◌, ◌++◌, ◌∷◌, [], sym, ap, ◌∙◌, subst}
use Rattle.unit_model.specs.Encoding.{text_at}
use Rattle.unit_model.specs.Preparing.{Interface, operators_of}
use Rattle.unit_model.specs.Entries.{entries_in}
use Rattle.prep_texts.specs.Interfaces.{interfaces_view}
use Rattle.prep_texts.proofs.GivenLaws.{Giving, gives-one, gives-none}
use Rattle.prep_texts.proofs.known.add_interfaces.Goals as goal
use Rattle.prep_texts.proofs.known.add_interfaces.Goals.{then-is_interface+in_ok-interface+in_ok-push, else-is_interface}

pub adding-preserved : goal.adding-preserved
adding-preserved c = elim c.if-is_interface.branch [
  | then-is_interface+in_ok-interface+in_ok-push w ↦
      let names = c.args.unit.now.names in
      let s = c.section-item.result in
      subst (λ i. Giving names c.args.interfaces.now i c.as_slice-section-items.result.now (c.adding.section-index + 1)) (sym w.interfaces-is)
      (gives-one names c.args.interfaces.now c.adding.interfaces c.as_slice-section-items.result.now c.adding.section-index s c.adding-test.true c.section-item.is c.adding.invariant
      (sym w.if-is_interface.ensures) w.push.new.self
      (w.in_ok-push.ensures.ok ∙ ap (λ (i : Interface). interfaces_view c.adding.interfaces ++ i ∷ [])
      (w.in_ok-interface.ensures ∙ ap (λ es. record { of = text_at names s.module.0; operators = operators_of (entries_in names es) }) w.as_slice.ensures))
      w.in_ok-push.ensures.indexed w.in_ok-push.ensures.grown)
  | else-is_interface w ↦
      let names = c.args.unit.now.names in
      subst (λ i. Giving names c.args.interfaces.now i c.as_slice-section-items.result.now (c.adding.section-index + 1)) (sym w.interfaces-is)
      (gives-none names c.args.interfaces.now c.adding.interfaces c.as_slice-section-items.result.now c.adding.section-index c.section-item.result c.adding-test.true c.section-item.is c.adding.invariant (sym w.if-is_interface.ensures))
]
