use Rattle.std.proofs.Common.{◌+◌, reverse, length, arith}
use Rattle.pl_unify.specs.declared.word.Word.TheVariants.{Var}
use Rattle.pl_unify.specs.Load.{WordsIn}
use Rattle.pl_unify.proofs.Loading.{OnOk-map, WordsIn-push, WordsIn-grown}
use Rattle.pl_unify.proofs.store.Store.add_cell.Goals as goal

pub returns-in_ok-make_variable-in-Var-clause-words : goal.returns-in_ok-make_variable-in-Var-clause-words
returns-in_ok-make_variable-in-Var-clause-words c =
    let s = c.make_variable.new.self.state in
    OnOk-map c.push.result _ (WordsIn (length s.cells) s.next (reverse c.push.new.list.items))
    (λ e. WordsIn-push (length s.cells) s.next c.args.words.now.items c.push.new.list.items (Var (c.in-Var.n + c.args.base)) e
    (omega (arith, c.in_ok-make_variable-in-Var.ensures.next))
    (WordsIn-grown c.args.self.now.state s (reverse c.args.words.now.items) c.make_variable.ensures.grows c.requires.words))
    c.push.ensures.ok
