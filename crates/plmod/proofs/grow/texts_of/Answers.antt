use Rattle.std.proofs.Common.{◌≡◌, ◌+◌, ◌∙◌, arith}
use Rattle.plmod.specs.Growing.{grow_texts, last_text}
use Rattle.plmod.proofs.GrowTexts.{texts_more, texts_all, all_short}
use Rattle.plmod.proofs.GrowParts.{text_made, alone}
use Rattle.plmod.proofs.grow.texts_of.Goals as goal

pub loop-before-preserved : goal.loop-before-preserved
loop-before-preserved c = record {
  so_far = c.in_ok-push.ensures.ok
      ∙ texts_more _ c.loop-before.before _ c.loop-before.invariant.so_far (text_made (c.loop-before.before + 1) _ _ _ c.new-text.ensures c.in_ok-push_interface.ensures c.in_ok-push_body.ensures);
}

pub returns : goal.returns
returns c =
    let all : c.push-2.new.self ≡ grow_texts c.args.count = texts_all c.loop-before.texts c.push-2.new.self c.loop-before.before c.args.count c.push_last.new.text c.loop-before.invariant.so_far (omega arith)
    (alone c.new-last.result c.push_last.new.text (last_text c.args.count) c.new-last.ensures c.in_ok-push_last.ensures) c.in_ok-push-2.ensures.ok in
    record { texts = all; short = all_short c.push-2.new.self c.args.count (omega arith) all }
