use Rattle.std.proofs.Common.{◌≡◌, ◌∙◌, ◌+◌, ◌-◌, ◌++◌, ◌∷◌, [], ℕ, ap, arith, reverse, sym, take, drop, length}
use Rattle.std.proofs.lemmas.List.{append_assoc}
use Rattle.pl_unify.specs.Code.{piece_words, start_of}
use Rattle.pl_unify.proofs.CodeMaking.{piece_head, reverse-piece}
use Rattle.pl_unify.proofs.code.move_pieces.Goals as goal

pub loop-left-preserved-in-Continue-1 : goal.loop-left-preserved-in-Continue-1
loop-left-preserved-in-Continue-1 c =
    let m : ℕ = c.args.count - c.loop-left.left in
    let all = reverse c.args.pieces.now.items in
    let next : m + 1 ≡ c.args.count - (c.loop-left.left - 1) = omega arith in
    let split : drop m all ≡ (c.in-Some.word, c.in-Some.start) ∷ reverse c.pop.new.self.items =
    sym c.loop-left.invariant.pieces ∙ (ap reverse c.in-Some.ensures.items ∙ reverse-piece c.pop.new.self.items (c.in-Some.word, c.in-Some.start)) in
    let r = piece_head m (length c.args.words.now.items) all (reverse c.pop.new.self.items) c.in-Some.word c.in-Some.start split in
    record {
      few = omega arith;
      enough = omega (arith, c.in-Some.ensures.cases);
      words = c.in_ok-push.ensures.ok ∙ (ap (λ cs. cs ++ c.in-Some.word ∷ []) c.loop-left.invariant.words
          ∙ (append_assoc c.args.words.now.items (piece_words (take m all)) (c.in-Some.word ∷ [])
          ∙ ap (λ ws. c.args.words.now.items ++ ws) (sym r.0 ∙ ap (λ k. piece_words (take k all)) next)));
      pieces = sym r.1 ∙ ap (λ k. drop k all) next;
      start = sym r.2 ∙ ap (λ k. start_of k (length c.args.words.now.items) all) next;
    }
