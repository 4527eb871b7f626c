use Rattle.std.proofs.Common.{◌≡◌, ◌∙◌, ap, sym, length, rules}
use Rattle.unifier_model.proofs.Replaced.{apply-int}
use Rattle.pl_unify.specs.declared.word.Word.TheVariants.{Int}
use Rattle.pl_unify.specs.State.{Stored, tree_at, tree_of_word, bound}
use Rattle.pl_unify.proofs.Compounds.{put_tree}
use Rattle.pl_unify.proofs.store.Store.place_of_int.Goals as goal

pub returns-clause-tree : goal.returns-clause-tree
returns-clause-tree c =
    let place : c.len-place.result ≡ length c.reserve.new.self.state.cells = rw (c.reserve.ensures.state, ap (λ (v : Stored). v.state) (sym c.self.view_is)) (search rules) in
    let word : c.int_word.result ≡ Int c.args.value = search rules in
    ap (λ n. tree_at c.put_word.new.self.state (record { 0 = n })) place
    ∙ (put_tree c.reserve.new.self.state c.put_word.new.self.state c.int_word.result c.put_word.ensures.grows c.put_word.ensures.base
    ∙ (ap (tree_of_word c.reserve.new.self.state) word ∙ apply-int (bound c.reserve.new.self.state) c.args.value))
