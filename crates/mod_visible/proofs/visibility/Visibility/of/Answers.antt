use Rattle.std.proofs.Common.{List, [], map, sym, subst}
use Rattle.unit_model.specs.Directives.{Text}
use Rattle.unit_format.specs.Views.{unit_facts}
use Rattle.link_model.specs.Places.{system}
use Rattle.mod_visible.specs.declared.cause.Cause.{Cause}
use Rattle.mod_visible.specs.declared.keys.Key.{Key}
use Rattle.mod_visible.specs.declared.placed.Placed.{Placed}
use Rattle.mod_visible.specs.Causing.{IsTable, AreCauses}
use Rattle.mod_visible.specs.Leasts.{AreLeasts}
use Rattle.mod_visible.specs.Visibility.{HasCauses}
use Rattle.mod_visible.proofs.LookLaws.{has_causes}
use Rattle.mod_visible.proofs.visibility.Visibility.of.Goals as goal

pub returns : goal.returns
returns c =
    let us = map unit_facts c.args.units.now in
    let names = c.intern.new.self in
    let cs = c.in_ok-causes.causes.items in
    let firsts = c.in_ok-firsts.firsts.causes.entries in
    let are = subst (λ (es : List Placed). (ns : List Text) → IsTable ns es → AreCauses ns es cs) c.as_slice.ensures.value c.in_ok-causes.ensures in
    let has = has_causes c.in_ok-flat.flat.names names system c.in_ok-flat.flat.entries.items us cs c.in_ok-system.ensures.ok c.in_ok-flat.ensures are in
    let first =
    subst (λ (l : List Cause). AreLeasts [] l firsts) c.as_slice-2.ensures.value
    (subst (λ (t : List (Key × Cause)). AreLeasts t c.as_slice-2.result.now firsts) c.new-none.ensures c.in_ok-firsts.ensures) in
    record {
      causes = has;
      modules = c.in_ok-modules.ensures;
      system = c.in_ok-system.ensures.number;
      firsts = first;
      clashes = c.in_ok-clashes.ensures us (subst (HasCauses us names) (sym c.as_slice-3.ensures.value) has) (subst (λ (l : List Cause). AreLeasts [] l firsts) (sym c.as_slice-3.ensures.value) first);
    }
