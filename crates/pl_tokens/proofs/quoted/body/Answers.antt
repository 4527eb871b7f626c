use Rattle.std.proofs.Common.{◌≡◌, ◌+◌, ◌-◌, ◌++◌, ℕ, List, length, drop, take, arith, ap, subst, sym, length-drop, ◌∙◌}
use Rattle.text_model.specs.Tokens.{piece_at}
use Rattle.pl_tokens.specs.Lexing.{piece_view, PieceWithin, part_bytes}
use Rattle.pl_tokens.proofs.Skipping.{rest_is}
use Rattle.pl_tokens.proofs.Bodies.{Going, further, ended, spoiled, cut, at_line_end}
use Rattle.pl_tokens.specs.declared.quoted.ItemPiece.{ItemPiece}
use Rattle.pl_tokens.specs.declared.quoted.ItemPiece.TheVariants.{Text, Ends, Bad, CutOff, LineEnd}
use Rattle.pl_tokens.proofs.quoted.body.Goals as goal

viewed : (rest : List ℕ) (at q : ℕ) (p : ItemPiece) → piece_view (take (length rest - at) (drop at rest)) p ≡ piece_at q (take (length rest - at) (drop at rest)) → piece_view (drop at rest) p ≡ piece_at q (drop at rest)
viewed rest at q p h = subst (λ d. piece_view d p ≡ piece_at q d) (rest_is rest at) h

pub loop-part-preserved : goal.loop-part-preserved
loop-part-preserved c =
    let rest = c.args.rest.now in
    let at = c.loop-part.at in
    let e = viewed rest at c.args.quote (Text c.in-Text.part c.in-Text.n) c.in-Text.ensures.view in
    let w : PieceWithin (Text c.in-Text.part c.in-Text.n) (length (drop at rest)) = subst (λ d. PieceWithin (Text c.in-Text.part c.in-Text.n) (length d)) (rest_is rest at) c.in-Text.ensures.within in
    let g = further c.args.quote rest c.loop-part.text (part_bytes c.in-Text.part c.in-Text.n (drop at rest)) at c.in-Text.n c.loop-part.invariant.going e w.0 w.1 in
    record {
      in_range = omega (arith, w.1, length-drop at rest);
      going = subst (λ t. Going c.args.quote rest t (at + c.in-Text.n)) (sym (c.in_ok-append-in-Text.ensures ∙ ap (λ d. c.loop-part.text ++ part_bytes c.in-Text.part c.in-Text.n d) (rest_is rest at))) g;
    }

pub returns-in-Ends-clause-view : goal.returns-in-Ends-clause-view
returns-in-Ends-clause-view c =
    ended c.args.quote c.args.rest.now c.loop-part.text c.loop-part.at c.in-Ends.n c.loop-part.invariant.going (viewed c.args.rest.now c.loop-part.at c.args.quote (Ends c.in-Ends.n) c.in-Ends.ensures.view)

pub returns-in-Bad-clause-view : goal.returns-in-Bad-clause-view
returns-in-Bad-clause-view c = spoiled c.args.quote c.args.rest.now c.loop-part.text c.loop-part.at c.loop-part.invariant.going (viewed c.args.rest.now c.loop-part.at c.args.quote Bad c.in-Bad.ensures.view)

pub returns-in-CutOff-clause-view : goal.returns-in-CutOff-clause-view
returns-in-CutOff-clause-view c = cut c.args.quote c.args.rest.now c.loop-part.text c.loop-part.at c.loop-part.invariant.going (viewed c.args.rest.now c.loop-part.at c.args.quote CutOff c.in-CutOff.ensures.view)

pub returns-in-LineEnd-clause-view : goal.returns-in-LineEnd-clause-view
returns-in-LineEnd-clause-view c = at_line_end c.args.quote c.args.rest.now c.loop-part.text c.loop-part.at c.loop-part.invariant.going (viewed c.args.rest.now c.loop-part.at c.args.quote LineEnd c.in-LineEnd.ensures.view)
