use Rattle.std.proofs.Common.{◌≡◌, ◌∙◌, sym, rules}
use Rattle.std.specs.Int.{w64}
use Rattle.std.specs.Int.RustNames.{FitsSigned}
use Rattle.std.proofs.lemmas.Int.{to_z-of_z}
use Rattle.pl_unify.specs.Code.{code_tree_in}
use Rattle.pl_unify.specs.State.{State}
use Rattle.pl_unify.proofs.StoreLaws.{Extends-trans}
use Rattle.pl_builtin_ends.proofs.Ends.{undone}
use Rattle.pl_builtins.proofs.Integers.{unified, apart}
use Rattle.pl_builtins.proofs.unification.unify_code_int.Goals as goal

pub returns-then-not-branch : goal.returns-then-not-branch
returns-then-not-branch c =
    let old : State = c.args.store.now.state in
    let mid : State = c.build.new.self.state in
    let new : State = c.solve_words.new.self.state in
    let fits : FitsSigned w64 c.args.value = search rules in
    let kept : mid.next ≡ old.next = sym c.next_var.ensures.next ∙ c.if-next_var-before.false ∙ c.next_var-before.ensures.next in (
      undone c.mark-mark.result old new c.undo.new.self.state c.mark-mark.ensures.valid c.mark-mark.ensures.state
          (Extends-trans old mid new c.in_ok-left.ensures.grows.extends c.in_ok-solve_words.ensures.only.extends) c.undo.ensures.state,
      apart old mid new (code_tree_in old c.args.base c.args.code.now.words c.args.place) c.in_ok-left.left c.args.value c.in_ok-solve_words.field-0 c.in_ok-left.ensures.grows kept c.in_ok-left.ensures.tree
          (simp to_z-of_z at c.in_ok-solve_words.ensures.answer) c.if-not-branch.true,
    )

pub returns : goal.returns
returns c =
    let old : State = c.args.store.now.state in
    let mid : State = c.build.new.self.state in
    let new : State = c.solve_words.new.self.state in
    let fits : FitsSigned w64 c.args.value = search rules in
    let kept : mid.next ≡ old.next = sym c.next_var.ensures.next ∙ c.if-next_var-before.false ∙ c.next_var-before.ensures.next in
    unified old mid new (code_tree_in old c.args.base c.args.code.now.words c.args.place) c.in_ok-left.left c.args.value c.in_ok-solve_words.field-0 c.in_ok-left.ensures.grows kept c.in_ok-left.ensures.tree
    (simp to_z-of_z at c.in_ok-solve_words.ensures.answer) c.if-not-branch.false c.in_ok-solve_words.ensures.only.next
