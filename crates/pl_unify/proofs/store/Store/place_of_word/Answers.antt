use Rattle.std.proofs.Common.{◌≡◌, ◌∙◌, ap, sym, length, rules}
use Rattle.pl_unify.specs.State.{Stored, tree_at, tree_of_word}
use Rattle.pl_unify.proofs.Compounds.{put_tree}
use Rattle.pl_unify.proofs.store.Store.place_of_word.Goals as goal

pub returns-clause-tree : goal.returns-clause-tree
returns-clause-tree c =
    let place : c.len-place.result ≡ length c.reserve.new.self.state.cells = rw (c.reserve.ensures.state, ap (λ (v : Stored). v.state) (sym c.self.view_is)) (search rules) in
    ap (λ n. tree_at c.put_word.new.self.state (record { 0 = n })) place
    ∙ (put_tree c.reserve.new.self.state c.put_word.new.self.state c.args.word c.put_word.ensures.grows c.put_word.ensures.base
    ∙ ap (λ s. tree_of_word s c.args.word) c.reserve.ensures.state)
