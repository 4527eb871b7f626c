use Rattle.std.proofs.Common.{◌≡◌, ◌∙◌, ◌+◌, ◌-◌, ◌++◌, ◌∷◌, [], ℕ, ap, arith, reverse, sym, take, drop}
use Rattle.std.proofs.lemmas.List.{append_assoc}
use Rattle.pl_unify.proofs.Loading.{drop_head, reverse-word}
use Rattle.pl_unify.proofs.store.load.move_words.Goals as goal

pub loop-left-preserved-in-Some : goal.loop-left-preserved-in-Some
loop-left-preserved-in-Some c =
    let m : ℕ = c.args.count - c.loop-left.left in
    let next : m + 1 ≡ c.args.count - (c.loop-left.left - 1) = omega arith in
    let split : drop m (reverse c.args.words.now.items) ≡ c.in-Some.word ∷ reverse c.pop.new.self.items =
    sym c.loop-left.invariant.words ∙ (ap reverse c.in-Some.ensures.items ∙ reverse-word c.pop.new.self.items c.in-Some.word) in
    let r = drop_head m (reverse c.args.words.now.items) (reverse c.pop.new.self.items) c.in-Some.word split in
    record {
      few = omega arith;
      enough = omega (arith, c.in-Some.ensures.cases);
      room = omega (arith, c.put.ensures.len, c.put.ensures.capacity);
      cells = c.put.ensures.items ∙ (ap (λ cs. cs ++ c.in-Some.word ∷ []) c.loop-left.invariant.cells
          ∙ (append_assoc c.args.cells.now.items (take m (reverse c.args.words.now.items)) (c.in-Some.word ∷ [])
          ∙ ap (λ ws. c.args.cells.now.items ++ ws) (sym r.0 ∙ ap (λ k. take k (reverse c.args.words.now.items)) next)));
      words = sym r.1 ∙ ap (λ k. drop k (reverse c.args.words.now.items)) next;
    }
