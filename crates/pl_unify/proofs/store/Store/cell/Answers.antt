use Rattle.std.proofs.Common.{◌≡◌, ◌∙◌, rules, sym, ap, get_or}
use Rattle.std.proofs.lemmas.List.{get_or_read}
use Rattle.pl_unify.specs.State.{IsStore, tree_of_word}
use Rattle.pl_unify.specs.Words.{no_word}
use Rattle.pl_unify.proofs.Shapes.{tree_at-word}
use Rattle.pl_unify.proofs.store.Store.cell.Goals as goal

pub returns-clause-tree : goal.returns-clause-tree
returns-clause-tree c =
    let st : IsStore c.args.self.now.state = rw (← c.self.view_is) c.self.invariant.inside.store in
    let cells : c.args.self.now.state.cells ≡ c.self.inside.cells.items = search rules in
    let e : c.index.result.now ≡ get_or c.args.self.now.state.cells c.args.place no_word = get_or_read c.args.self.now.state.cells c.args.place c.index.result.now c.requires (rw cells c.index.ensures) no_word in
    ap (tree_of_word c.args.self.now.state) e ∙ sym (tree_at-word c.args.self.now.state c.args.place st c.requires)
