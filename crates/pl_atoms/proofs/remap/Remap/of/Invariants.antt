use Rattle.std.proofs.Common.{◌≡◌, take, map}
use Rattle.pl_atoms.specs.Names.{with_texts, IsFront, Remaps}
use Rattle.pl_atoms.proofs.remap.Remap.of.Given as goal

abbrev pub invariant-loop-place : goal.invariant-loop-place
invariant-loop-place l = record {
  texts : l.into ≡ with_texts l.initial.into (take l.place l.from);
  front : IsFront l.initial.into l.into;
  numbers : Remaps (take l.place l.from) l.into (map (λ id. id.0) l.ids.items);
}
