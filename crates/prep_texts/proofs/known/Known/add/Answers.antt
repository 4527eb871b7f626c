use Rattle.std.proofs.Common.{is_err, false, ◌≡◌, sym, subst, ◌++◌}
use Rattle.unit_model.specs.Known.{AreGood, interfaces_of}
use Rattle.unit_format.specs.Views.{unit_facts}
use Rattle.prep_texts.specs.Interfaces.{interfaces_view, IsIndexed}
use Rattle.prep_texts.proofs.SoundLaws.{good-append, unit-good, when-ok}
use Rattle.prep_texts.proofs.known.Known.add.Goals as goal

pub invariant_of-self-else-is_err : goal.invariant_of-self-else-is_err
invariant_of-self-else-is_err c =
    let unit = c.args.unit.now in
    let new = c.add_interfaces-added.new.interfaces in
    let old = c.self.inside.interfaces in
    let ok : is_err c.add_interfaces-added.result ≡ false = sym c.if-is_err.ensures.value in (
      when-ok (IsIndexed new) c.add_interfaces-added.result ok c.add_interfaces-added.ensures.indexed,
      subst AreGood (sym (when-ok (interfaces_view new ≡ interfaces_view old ++ interfaces_of (unit_facts unit)) c.add_interfaces-added.result ok c.add_interfaces-added.ensures.ok))
          (good-append (interfaces_view old) (interfaces_of (unit_facts unit)) c.self.invariant.1 (unit-good unit.names unit.facts unit.valid)),
    )
