use Rattle.std.proofs.Common.{◌≡◌, ◌∙◌, ap, sym, length, rules}
use Rattle.unifier_model.proofs.Replaced.{apply-atom}
use Rattle.pl_unify.specs.State.{Stored, tree_at, bound}
use Rattle.pl_unify.specs.declared.word.Word.TheVariants.{Name}
use Rattle.pl_unify.proofs.Compounds.{put_tree}
use Rattle.pl_unify.proofs.store.Store.place_of_name.Goals as goal

pub returns-clause-tree : goal.returns-clause-tree
returns-clause-tree c =
    let place : c.len-place.result ≡ length c.reserve.new.self.state.cells = rw (c.reserve.ensures.state, ap (λ (v : Stored). v.state) (sym c.self.view_is)) (search rules) in
    ap (λ n. tree_at c.put_word.new.self.state (record { 0 = n })) place
    ∙ (put_tree c.reserve.new.self.state c.put_word.new.self.state (Name c.args.name) c.put_word.ensures.grows c.put_word.ensures.base
    ∙ apply-atom (bound c.reserve.new.self.state) c.args.name.0)
