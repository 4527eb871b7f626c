use Rattle.std.proofs.Common.{◌≡◌, ◌∙◌, ◌∷◌, ◌++◌, ◌+◌, ◌-◌, ◌<◌, [], ap, subst, arith, refl, length, reverse}
use Rattle.std.proofs.lemmas.List.{nil_from_length}
use Rattle.pl_unify.specs.State.{tree_at}
use Rattle.pl_unify.specs.Steps.{pair_span}
use Rattle.pl_unify.specs.Match.{Matched, PairsIn, code_equations}
use Rattle.pl_unify.specs.Spans.{IsMet, pairs_of, all_pairs}
use Rattle.pl_unify.proofs.Arguments.{span-split}
use Rattle.pl_unify.proofs.Matching.{matching_done, turn-none, turn-matching, turn-in, turn-smaller}
use Rattle.pl_unify.proofs.store.Store.match_spans.Goals as goal
use Rattle.pl_unify.proofs.store.Store.match_spans.Goals.{After-next_var-next, In-Parts, In-Done}

front : (c : After-next_var-next) → pairs_of c.turns.now ++ all_pairs (reverse c.turns.work.items)
    ≡ (c.turns.now.place, c.turns.now.code) ∷ (pair_span (c.turns.now.place + 1) (c.turns.now.code + 1) (c.turns.now.left - 1) ++ all_pairs (reverse c.turns.work.items))
front c = ap (λ ps. ps ++ all_pairs (reverse c.turns.work.items)) (span-split c.turns.now.place c.turns.now.code c.turns.now.left c.if-now-eq0.false)

first : (c : After-next_var-next) → c.turns.now.place < length c.turns.self.state.cells
first c = (subst (PairsIn (length c.turns.self.state.cells) (length c.args.code.now.words)) (front c) c.turns.invariant.below).0

solved : (c : In-Done) → Matched c.turns.self.state c.match_place.new.self.state c.args.base c.args.code.now.words (tree_at c.turns.self.state (record { 0 = c.turns.now.place })) c.turns.now.code []
solved c = subst (IsMet c.turns.self.state c.match_place.new.self.state c.args.base c.args.code.now.words (tree_at c.turns.self.state (record { 0 = c.turns.now.place })) c.turns.now.code) c.in-Done.is c.in_ok-match_place.ensures.met

split_up : (c : In-Parts) → Matched c.turns.self.state c.match_place.new.self.state c.args.base c.args.code.now.words (tree_at c.turns.self.state (record { 0 = c.turns.now.place })) c.turns.now.code (pairs_of c.in-Parts.parts)
split_up c = subst (IsMet c.turns.self.state c.match_place.new.self.state c.args.base c.args.code.now.words (tree_at c.turns.self.state (record { 0 = c.turns.now.place })) c.turns.now.code) c.in-Parts.is c.in_ok-match_place.ensures.met

pub returns-in_default-clause-answer : goal.returns-in_default-clause-answer
returns-in_default-clause-answer c =
    let none : c.turns.work.items ≡ [] = nil_from_length c.turns.work.items (omega (arith, c.in_default.ensures.cases, c.turns.work.ok.0)) in
    let ended : pairs_of c.turns.now ++ all_pairs (reverse c.turns.work.items) ≡ [] =
    ap (λ k. pair_span c.turns.now.place c.turns.now.code k ++ all_pairs (reverse c.turns.work.items)) c.if-now-eq0.true ∙ ap (λ x. all_pairs (reverse x)) none in
    matching_done c.args.self.now.state c.turns.self.state c.args.base c.args.code.now.words (code_equations c.args.self.now.state c.args.base c.args.code.now.words (pairs_of c.args.span))
    (code_equations c.turns.self.state c.args.base c.args.code.now.words (pairs_of c.turns.now ++ all_pairs (reverse c.turns.work.items))) c.turns.invariant.matching
    (ap (code_equations c.turns.self.state c.args.base c.args.code.now.words) ended)

pub rest_of-now-requires-clause-place : goal.rest_of-now-requires-clause-place
rest_of-now-requires-clause-place c = omega (arith, first (goal.at.rest_of-now-requires-clause-place c).After-next_var-next, c.next_var-next.ensures.few)

pub rest_of-requires-clause-place : goal.rest_of-requires-clause-place
rest_of-requires-clause-place c = omega (arith, first (goal.at.rest_of-requires-clause-place c).After-next_var-next, c.next_var-next.ensures.few)

pub turns-preserved-in-Done : goal.turns-preserved-in-Done
turns-preserved-in-Done c =
    let at = (goal.at.turns-preserved-in-Done c).In-Done in
    let later = all_pairs (reverse c.turns.work.items) in
    let cut = ap (λ ps. ps ++ later) c.rest_of-now.ensures in
    record {
      matching = turn-matching c.args.self.now.state c.turns.self.state c.match_place.new.self.state c.args.base c.args.code.now.words (code_equations c.args.self.now.state c.args.base c.args.code.now.words (pairs_of c.args.span))
          (pairs_of c.turns.now ++ later) (pairs_of c.rest_of-now.result ++ later) c.turns.now.place c.turns.now.code c.turns.invariant.matching cut c.turns.invariant.below
          [] (pairs_of c.rest_of-now.result ++ later) refl (solved at);
      below = turn-in c.args.self.now.state c.turns.self.state c.match_place.new.self.state c.args.base c.args.code.now.words (code_equations c.args.self.now.state c.args.base c.args.code.now.words (pairs_of c.args.span))
          (pairs_of c.turns.now ++ later) (pairs_of c.rest_of-now.result ++ later) c.turns.now.place c.turns.now.code c.turns.invariant.matching cut c.turns.invariant.below
          [] (pairs_of c.rest_of-now.result ++ later) refl (solved at);
      next = omega (arith, c.match_place.ensures.next, c.turns.invariant.next);
    }

pub returns-in-Clash-clause-answer : goal.returns-in-Clash-clause-answer
returns-in-Clash-clause-answer c =
    let at = (goal.at.returns-in-Clash-clause-answer c).After-next_var-next in
    let later = all_pairs (reverse c.turns.work.items) in
    turn-none c.args.self.now.state c.turns.self.state c.turns.self.state c.args.base c.args.code.now.words (code_equations c.args.self.now.state c.args.base c.args.code.now.words (pairs_of c.args.span))
    (pairs_of c.turns.now ++ later) (pair_span (c.turns.now.place + 1) (c.turns.now.code + 1) (c.turns.now.left - 1) ++ later) c.turns.now.place c.turns.now.code c.turns.invariant.matching (front at) c.turns.invariant.below
    (subst (IsMet c.turns.self.state c.match_place.new.self.state c.args.base c.args.code.now.words (tree_at c.turns.self.state (record { 0 = c.turns.now.place })) c.turns.now.code) c.in-Clash.is c.in_ok-match_place.ensures.met)

pub turns-smaller : goal.turns-smaller
turns-smaller c =
    let at = (goal.at.turns-smaller c).In-Parts in
    let later = all_pairs (reverse c.turns.work.items) in
    let less = turn-smaller c.args.self.now.state c.turns.self.state c.match_place.new.self.state c.args.base c.args.code.now.words (code_equations c.args.self.now.state c.args.base c.args.code.now.words (pairs_of c.args.span))
    (pairs_of c.turns.now ++ later) (pairs_of c.rest_of.result ++ later) c.turns.now.place c.turns.now.code c.turns.invariant.matching (ap (λ ps. ps ++ later) c.rest_of.ensures) c.turns.invariant.below
    (pairs_of c.in-Parts.parts) (pairs_of c.in-Parts.parts ++ all_pairs (reverse c.keep_rest.new.work.items)) (ap (λ ps. pairs_of c.in-Parts.parts ++ ps) c.in_ok-keep_rest-in-Parts.ensures.pairs) (split_up at) in
    omega (arith, less, c.in_ok-keep_rest-in-Parts.ensures.one)

pub turns-preserved : goal.turns-preserved
turns-preserved c =
    let at = (goal.at.turns-preserved c).In-Parts in
    let later = all_pairs (reverse c.turns.work.items) in
    let cut = ap (λ ps. ps ++ later) c.rest_of.ensures in
    let more = ap (λ ps. pairs_of c.in-Parts.parts ++ ps) c.in_ok-keep_rest-in-Parts.ensures.pairs in
    record {
      matching = turn-matching c.args.self.now.state c.turns.self.state c.match_place.new.self.state c.args.base c.args.code.now.words (code_equations c.args.self.now.state c.args.base c.args.code.now.words (pairs_of c.args.span))
          (pairs_of c.turns.now ++ later) (pairs_of c.rest_of.result ++ later) c.turns.now.place c.turns.now.code c.turns.invariant.matching cut c.turns.invariant.below
          (pairs_of c.in-Parts.parts) (pairs_of c.in-Parts.parts ++ all_pairs (reverse c.keep_rest.new.work.items)) more (split_up at);
      below = turn-in c.args.self.now.state c.turns.self.state c.match_place.new.self.state c.args.base c.args.code.now.words (code_equations c.args.self.now.state c.args.base c.args.code.now.words (pairs_of c.args.span))
          (pairs_of c.turns.now ++ later) (pairs_of c.rest_of.result ++ later) c.turns.now.place c.turns.now.code c.turns.invariant.matching cut c.turns.invariant.below
          (pairs_of c.in-Parts.parts) (pairs_of c.in-Parts.parts ++ all_pairs (reverse c.keep_rest.new.work.items)) more (split_up at);
      next = omega (arith, c.match_place.ensures.next, c.turns.invariant.next);
    }
