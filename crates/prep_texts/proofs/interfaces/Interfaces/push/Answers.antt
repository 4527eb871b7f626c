use Rattle.std.proofs.Common.{◌≡◌, [], ◌∷◌, ap, sym, ◌∙◌, take, length, ◌++◌, true, false}
use Rattle.std.proofs.Math.Seq.{take-append_seam}
use Rattle.std.specs.Prelude.{is_some}
use Rattle.prep_texts.proofs.InterfaceLaws.{places-known, places-new, entries-new}
use Rattle.prep_texts.proofs.interfaces.Interfaces.push.Goals as goal

pub returns-then-is_some-clause-indexed : goal.returns-then-is_some-clause-indexed
returns-then-is_some-clause-indexed c =
    let h : is_some c.get.result ≡ true = cc in
    places-known c.args.self.now.firsts.entries c.args.self.now.all.items c.push.new.self.items c.args.interface c.as_slice.result.now c.get.result
    c.requires c.as_slice.ensures c.get.ensures.value c.in_ok-push.ensures.items h

pub returns-clause-indexed : goal.returns-clause-indexed
returns-clause-indexed c =
    let h : is_some c.get.result ≡ false = cc in
    places-new c.args.self.now.firsts.entries c.args.self.now.all.items c.push-2.new.self.items c.args.interface c.as_slice.result.now c.get.result
    c.requires c.as_slice.ensures c.get.ensures.value c.in_ok-push-2.ensures.items
    c.in_ok-key.key (length c.as_slice-place.result.now) c.insert.new.self.entries
    (c.in_ok-key.ensures.items ∙ c.as_slice-2.ensures ∙ sym c.as_slice.ensures) (ap length c.as_slice-place.ensures.value) c.in_ok-insert.ensures.entries h

pub returns-clause-grown : goal.returns-clause-grown
returns-clause-grown c =
    let h : is_some c.get.result ≡ false = cc in
    let all : c.push-2.new.self.items ≡ c.args.self.now.all.items ++ c.args.interface ∷ [] = c.in_ok-push-2.ensures.items in
    let entries = entries-new c.args.self.now.firsts.entries c.args.self.now.all.items c.push-2.new.self.items c.args.interface c.as_slice.result.now c.get.result
    c.requires c.as_slice.ensures c.get.ensures.value c.in_ok-push-2.ensures.items
    c.in_ok-key.key (length c.as_slice-place.result.now) c.insert.new.self.entries
    (c.in_ok-key.ensures.items ∙ c.as_slice-2.ensures ∙ sym c.as_slice.ensures) (ap length c.as_slice-place.ensures.value) c.in_ok-insert.ensures.entries h in
    record {
      all = ap (take (length c.args.self.now.all.items)) all ∙ take-append_seam c.args.self.now.all.items (c.args.interface ∷ []);
      firsts = ap (take (length c.args.self.now.firsts.entries)) entries ∙ take-append_seam c.args.self.now.firsts.entries _;
    }
