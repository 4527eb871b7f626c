use Rattle.std.proofs.Common.{◌≡◌, [], sym, subst, arith, Some}
use Rattle.std.proofs.lemmas.List.{nil_from_length}
use Rattle.unifier_model.specs.Unifier.{Solved}
use Rattle.unifier_model.specs.Unifier.Solved.{solved}
use Rattle.pl_unify.specs.Steps.{equations}
use Rattle.pl_unify.proofs.Solving.{Looked, Parted, looked-below, looked-same, looked-clash, looked_bind_left, looked_bind_right, looked-parts}
use Rattle.pl_unify.proofs.store.Store.next_binding.Goals as goal
use Rattle.pl_unify.proofs.store.Store.next_binding.Goals.{After-turn_of, In_ok-push_pairs-in-Parts}

look : (c : After-turn_of) → Looked c.args.self.now.state c.args.work.now.items c.loop-p.work.items c.pop.new.self.items c.in-Some.p c.in-Some.q c.word_at-left.result c.word_at-right.result
look c = record {
  split = c.in-Some.ensures.items;
  below = c.loop-p.invariant.below;
  reduces = c.loop-p.invariant.reduces;
  left_shape = c.word_at-left.ensures.shape;
  right_shape = c.word_at-right.ensures.shape;
  left_within = c.word_at-left.ensures.within;
  right_within = c.word_at-right.ensures.within;
  left_free = c.word_at-left.ensures.free;
  right_free = c.word_at-right.ensures.free;
}

pub loop-p-preserved-in-Same : goal.loop-p-preserved-in-Same
loop-p-preserved-in-Same c =
    let k = look (goal.at.loop-p-preserved-in-Same c).After-turn_of in
    record {
      below = looked-below _ _ _ _ _ _ _ _ k;
      reduces = looked-same _ _ _ _ _ _ _ _ k c.in-Same.ensures;
    }

pub returns-in-Clash : goal.returns-in-Clash
returns-in-Clash c =
    let k = look (goal.at.returns-in-Clash c).After-turn_of in
    looked-clash _ _ _ _ _ _ _ _ k (c.in-Clash.ensures c.args.self.now.state k.left_within k.right_within)

pub returns-in-Left : goal.returns-in-Left
returns-in-Left c =
    let k = look (goal.at.returns-in-Left c).After-turn_of in
    looked_bind_left _ _ _ _ _ _ _ _ k c.in-Left.n c.in-Left.ensures.0 c.in-Left.ensures.1

pub returns-in-Right : goal.returns-in-Right
returns-in-Right c =
    let k = look (goal.at.returns-in-Right c).After-turn_of in
    looked_bind_right _ _ _ _ _ _ _ _ k c.in-Right.n c.in-Right.ensures.0 c.in-Right.ensures.1

parted : (c : In_ok-push_pairs-in-Parts)
    → (k : Looked c.args.self.now.state c.args.work.now.items c.loop-p.work.items c.pop.new.self.items c.in-Some.p c.in-Some.q c.word_at-left.result c.word_at-right.result)
    → Parted c.args.self.now.state c.args.work.now.items c.loop-p.work.items c.pop.new.self.items c.in-Some.p c.in-Some.q c.word_at-left.result c.word_at-right.result k c.push_pairs.new.work.items
parted c k = looked-parts _ _ _ _ _ _ _ _ k c.push_pairs.new.work.items c.in-Parts.count c.in-Parts.first c.in-Parts.second c.in-Parts.ensures.0 c.in-Parts.ensures.1 c.in-Parts.ensures.2 c.in_ok-push_pairs-in-Parts.ensures

pub loop-p-smaller : goal.loop-p-smaller
loop-p-smaller c = (parted c (look (goal.at.loop-p-smaller c).After-turn_of)).smaller

pub loop-p-preserved : goal.loop-p-preserved
loop-p-preserved c =
    let r = parted c (look (goal.at.loop-p-preserved c).After-turn_of) in
    record { below = r.below; reduces = r.reduces }

pub returns : goal.returns
returns c =
    let none : c.loop-p.work.items ≡ [] = nil_from_length c.loop-p.work.items (omega (arith, c.in_default.ensures.cases, c.loop-p.work.ok.0)) in
    c.loop-p.invariant.reduces (Some []) (subst (λ w. Solved (equations c.args.self.now.state w) (Some [])) (sym none) solved)
