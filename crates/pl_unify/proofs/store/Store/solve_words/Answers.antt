use Rattle.std.proofs.Common.{◌≡◌, ◌∙◌, ◌++◌, ◌≤◌, ◌+◌, ap, sym, subst, reverse, length, arith}
use Rattle.std.proofs.lemmas.List.{append-nil}
use Rattle.pl_unify.specs.declared.word.Word.TheVariants.{Comp}
use Rattle.pl_unify.specs.Steps.{pair_span, PairsBelow}
use Rattle.pl_unify.specs.Words.{WordIn}
use Rattle.pl_unify.specs.State.{State}
use Rattle.pl_unify.proofs.Solving.{PairsBelow-span}
use Rattle.pl_unify.proofs.Matching.{IfOk-one, IfOk-two, answer-moved, Found, sides-same, sides-clash, sides-left, sides-right, sides-parts}
use Rattle.pl_unify.proofs.store.Store.solve_words.Goals as goal
use Rattle.pl_unify.proofs.store.Store.solve_words.Goals.{After-turn_of, In_ok-push_pairs-in-Parts, In-Parts}

lefts : (c : After-turn_of) → Found c.args.self.now.state c.args.left c.resolve-left.result
lefts c = record { same = c.resolve-left.ensures.same; within = c.resolve-left.ensures.within; free = c.resolve-left.ensures.free }

rights : (c : After-turn_of) → Found c.args.self.now.state c.args.right c.resolve-right.result
rights c = record { same = c.resolve-right.ensures.same; within = c.resolve-right.ensures.within; free = c.resolve-right.ensures.free }

pushed : (c : In_ok-push_pairs-in-Parts) → reverse c.push_pairs.new.work.items ≡ pair_span c.in-Parts.first c.in-Parts.second c.in-Parts.count
pushed c = c.in_ok-push_pairs-in-Parts.ensures ∙ (ap (λ w. pair_span c.in-Parts.first c.in-Parts.second c.in-Parts.count ++ reverse w) c.take_equations-work.ensures.empty ∙ append-nil _)

left_in : (c : In-Parts) → c.in-Parts.first + c.in-Parts.count ≤ length c.args.self.now.state.cells
left_in c = (subst (WordIn (length c.args.self.now.state.cells) c.args.self.now.state.next) c.in-Parts.ensures.1 c.resolve-left.ensures.within).0

right_in : (c : In-Parts) → c.in-Parts.second + c.in-Parts.count ≤ length c.args.self.now.state.cells
right_in c = (subst (WordIn (length c.args.self.now.state.cells) c.args.self.now.state.next) c.in-Parts.ensures.2 c.resolve-right.ensures.within).0

pub push_pairs-requires-clause-first : goal.push_pairs-requires-clause-first
push_pairs-requires-clause-first c = omega (arith, left_in (goal.at.push_pairs-requires-clause-first c).In-Parts, c.next_var-next.ensures.few)

pub push_pairs-requires-clause-second : goal.push_pairs-requires-clause-second
push_pairs-requires-clause-second c = omega (arith, right_in (goal.at.push_pairs-requires-clause-second c).In-Parts, c.next_var-next.ensures.few)

pub solve-solved-requires : goal.solve-solved-requires
solve-solved-requires c =
    let at = goal.at.solve-solved-requires c in
    subst (λ (s : State). PairsBelow (length s.cells) (reverse c.push_pairs.new.work.items)) (sym c.take_equations-work.ensures.state)
    (subst (PairsBelow (length c.args.self.now.state.cells)) (sym (pushed at.In_ok-push_pairs-in-Parts)) (PairsBelow-span (length c.args.self.now.state.cells) c.in-Parts.first c.in-Parts.second c.in-Parts.count (left_in at.In-Parts) (right_in at.In-Parts)))

pub returns-in-Same-clause-answer : goal.returns-in-Same-clause-answer
returns-in-Same-clause-answer c =
    let k = (goal.at.returns-in-Same-clause-answer c).After-turn_of in
    sides-same _ _ _ _ _ (lefts k) (rights k) c.in-Same.ensures

pub returns-in-Clash-clause-answer : goal.returns-in-Clash-clause-answer
returns-in-Clash-clause-answer c =
    let k = (goal.at.returns-in-Clash-clause-answer c).After-turn_of in
    sides-clash _ _ _ _ _ (lefts k) (rights k) (c.in-Clash.ensures c.args.self.now.state (lefts k).within (rights k).within)

pub returns-in-Left-clause-answer : goal.returns-in-Left-clause-answer
returns-in-Left-clause-answer c =
    let k = (goal.at.returns-in-Left-clause-answer c).After-turn_of in
    IfOk-two c.bind_word.result _ _ _
    (λ ok made absent. sides-left c.args.self.now.state c.bind_word.new.self.state c.args.left c.args.right c.resolve-left.result c.resolve-right.result c.in-Left.n ok (lefts k) (rights k) c.in-Left.ensures.0 c.in-Left.ensures.1 c.bind_word.ensures.only made absent)
    c.bind_word.ensures.bound c.bind_word.ensures.inside

pub returns-in-Right-clause-answer : goal.returns-in-Right-clause-answer
returns-in-Right-clause-answer c =
    let k = (goal.at.returns-in-Right-clause-answer c).After-turn_of in
    IfOk-two c.bind_word-in-Right.result _ _ _
    (λ ok made absent. sides-right c.args.self.now.state c.bind_word-in-Right.new.self.state c.args.left c.args.right c.resolve-left.result c.resolve-right.result c.in-Right.n ok (lefts k) (rights k) c.in-Right.ensures.0 c.in-Right.ensures.1 c.bind_word-in-Right.ensures.only made absent)
    c.bind_word-in-Right.ensures.bound c.bind_word-in-Right.ensures.inside

pub returns-in_ok-push_pairs-in-Parts-clause-answer : goal.returns-in_ok-push_pairs-in-Parts-clause-answer
returns-in_ok-push_pairs-in-Parts-clause-answer c =
    let at = goal.at.returns-in_ok-push_pairs-in-Parts-clause-answer c in
    let l : Found c.args.self.now.state c.args.left (Comp c.in-Parts.count c.in-Parts.ensures.0 c.in-Parts.first) = subst (Found c.args.self.now.state c.args.left) c.in-Parts.ensures.1 (lefts at.After-turn_of) in
    let r : Found c.args.self.now.state c.args.right (Comp c.in-Parts.count c.in-Parts.ensures.0 c.in-Parts.second) = subst (Found c.args.self.now.state c.args.right) c.in-Parts.ensures.2 (rights at.After-turn_of) in
    IfOk-one c.solve-solved.result _ _
    (λ ok d. sides-parts c.args.self.now.state c.keep_equations.new.self.state c.args.left c.args.right c.push_pairs.new.work.items c.in-Parts.ensures.0 c.in-Parts.count c.in-Parts.first c.in-Parts.second ok l r (pushed at.In_ok-push_pairs-in-Parts)
    (answer-moved c.args.self.now.state c.take_equations-work.new.self.state c.solve-solved.new.self.state c.keep_equations.new.self.state c.push_pairs.new.work.items ok c.take_equations-work.ensures.state c.keep_equations.ensures d))
    c.solve-solved.ensures.answer
