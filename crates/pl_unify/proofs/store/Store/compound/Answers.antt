use Rattle.std.proofs.Common.{◌≡◌, ◌∙◌, ◌+◌, ℕ, List, [], ◌∷◌, ◌++◌, ap, sym, subst, arith, rules, length, map, take, get_or}
use Rattle.std.proofs.lemmas.List.{take_more, map-append, take_all, length-map}
use Rattle.pl_terms.specs.Trees.{Tree, comp}
use Rattle.pl_unify.specs.declared.word.Ref.{Ref}
use Rattle.pl_unify.specs.Prefix.{trees}
use Rattle.pl_unify.specs.State.{State, Stored, IsRef, Grows, tree_at}
use Rattle.pl_unify.specs.Making.{AreRefs}
use Rattle.pl_unify.proofs.Loading.{Grows-trans}
use Rattle.pl_unify.proofs.Compounds.{AreRefs-at, Copied, copied-none, copied-more, copied_compound}
use Rattle.pl_unify.proofs.store.Store.compound.Goals as goal

pub loop-at-init : goal.loop-at-init
loop-at-init c = record { copied = copied-none c.reserve.new.self.state; room = omega (arith, c.in_ok-reserve.ensures.room.0) }

pub cell-requires : goal.cell-requires
cell-requires c =
    let there : AreRefs c.reserve.new.self.state c.args.args.now = rw c.reserve.ensures.state c.requires.places in
    omega (arith, AreRefs-at c.reserve.new.self.state c.args.args.now c.loop-at.at-index (record { 0 = 0 }) c.loop-at-test.true there, c.loop-at.invariant.copied.grows.extends.more_cells)

pub loop-at-preserved : goal.loop-at-preserved
loop-at-preserved c =
    let s0 : State = c.reserve.new.self.state in
    let r : Ref = get_or c.args.args.now c.loop-at.at-index (record { 0 = 0 }) in
    let there : AreRefs s0 c.args.args.now = rw c.reserve.ensures.state c.requires.places in
    let one : IsRef s0 r = AreRefs-at s0 c.args.args.now c.loop-at.at-index (record { 0 = 0 }) c.loop-at-test.true there in
    let more : map (tree_at s0) (take (c.loop-at.at-index + 1) c.args.args.now) ≡ map (tree_at s0) (take c.loop-at.at-index c.args.args.now) ++ tree_at s0 r ∷ [] =
    ap (map (tree_at s0)) (take_more c.args.args.now c.loop-at.at-index (record { 0 = 0 }) c.loop-at-test.true) ∙ map-append (tree_at s0) (take c.loop-at.at-index c.args.args.now) (r ∷ []) in
    record {
      copied = subst (λ ts. Copied s0 c.put_word.new.self.state ts) (sym more)
          (copied-more s0 c.loop-at.self.state c.put_word.new.self.state (map (tree_at s0) (take c.loop-at.at-index c.args.args.now)) c.resolve-word.result (tree_at s0 r)
          c.loop-at.invariant.copied c.put_word.ensures.grows c.put_word.ensures.next c.put_word.ensures.base c.put_word.ensures.count
          (c.resolve-word.ensures.same ∙ (c.cell.ensures.tree ∙ c.loop-at.invariant.copied.grows.places r one)));
      room = omega (arith, c.loop-at.invariant.room, c.put_word.ensures.room);
    }

pub returns-clause-grows : goal.returns-clause-grows
returns-clause-grows c =
    subst (λ s. Grows s c.put_word-2.new.self.state) c.reserve.ensures.state
    (Grows-trans c.reserve.new.self.state c.loop-at.self.state c.put_word-2.new.self.state c.loop-at.invariant.copied.grows c.put_word-2.ensures.grows)

pub returns-clause-tree : goal.returns-clause-tree
returns-clause-tree c =
    let s0 : State = c.reserve.new.self.state in
    let place : c.len-place.result ≡ length c.loop-at.self.state.cells = rw (ap (λ (v : Stored). v.state) (sym c.self-2.view_is)) (search rules) in
    let first : c.len-first.result ≡ length s0.cells = rw (c.reserve.ensures.state, ap (λ (v : Stored). v.state) (sym c.self.view_is)) (search rules) in
    let all : take c.loop-at.at-index c.args.args.now ≡ c.args.args.now = take_all c.loop-at.at-index c.args.args.now c.loop-at-test.false in
    let ts : List (Tree ℕ) = map (tree_at s0) (take c.loop-at.at-index c.args.args.now) in
    let count : length c.args.args.now ≡ length ts = ap length (sym all) ∙ sym (length-map (take c.loop-at.at-index c.args.args.now) (tree_at s0)) in
    ap (λ n. tree_at c.put_word-2.new.self.state (record { 0 = n })) place
    ∙ (copied_compound s0 c.loop-at.self.state c.put_word-2.new.self.state ts c.args.name (length c.args.args.now) c.loop-at.invariant.copied c.put_word-2.ensures.grows count
    (rw (← first) c.put_word-2.ensures.base)
    ∙ (ap (λ xs. comp c.args.name.0 (trees (map (tree_at s0) xs))) all ∙ ap (λ s. comp c.args.name.0 (trees (map (tree_at s) c.args.args.now))) c.reserve.ensures.state))
