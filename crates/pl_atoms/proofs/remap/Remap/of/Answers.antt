use Rattle.std.proofs.Common.{◌<◌, length, arith, ◌∷◌, [], map, ap, sym, subst, ◌∙◌, ℕ}
use Rattle.std.proofs.lemmas.List.{map-append}
use Rattle.pl_atoms.specs.declared.names.NameId.{NameId}
use Rattle.pl_atoms.specs.Names.{IsFront, Remaps}
use Rattle.pl_atoms.proofs.Numbers.{IsFront-grown, IsFront-trans, with_texts-more, Remaps-more}
use Rattle.pl_atoms.proofs.remap.Remap.of.Goals as goal

number : NameId → ℕ
number id = id.0

pub loop-place-preserved : goal.loop-place-preserved
unfolding number
loop-place-preserved c =
    let within : c.loop-place.place < length c.args.from.now = omega (arith, c.loop-place-test.true, c.len-count.ensures.length) in
    let grown : IsFront c.loop-place.into c.intern.new.self = IsFront-grown _ _ c.text.result.now c.in_ok-id.ensures.ok in
    let numbers = Remaps-more _ c.loop-place.place within c.text.result.now c.text.ensures _ _ _ c.in_ok-id.id.0 grown c.loop-place.invariant.numbers c.in_ok-id.ensures.number in
    record {
      texts = with_texts-more _ c.loop-place.place within c.text.result.now c.text.ensures _ _ _ c.loop-place.invariant.texts c.in_ok-id.ensures.ok;
      front = IsFront-trans _ c.loop-place.into _ c.loop-place.invariant.front grown;
      numbers = subst (Remaps _ _) (sym (ap (map number) c.in_ok-push.ensures.items ∙ map-append number c.loop-place.ids.items (c.in_ok-id.id ∷ []))) numbers;
    }
