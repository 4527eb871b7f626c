use Rattle.std.proofs.Common.{◌∙◌, ◌≤◌, ℕ, List, Ok, Err, true, false, length, map, sym, ap, subst, arith}
use Rattle.std.proofs.lemmas.Bool.{lt-ltb, le-ltb}
use Rattle.pl_terms.specs.Trees.{Trees, comp, append, count}
use Rattle.pl_unify.specs.Prefix.{trees}
use Rattle.pl_unify.specs.State.{State, tree_at}
use Rattle.pl_unify.specs.Making.{AreRefs}
use Rattle.pl_unify.specs.declared.word.Ref.{Ref}
use Rattle.goal_constructs.specs.Goals.{arguments_of, more_arguments}
use Rattle.goal_constructs.proofs.CallingLaws.{Parts, parts-are, some-parts, too-many, few-enough, trees-listed}
use Rattle.goal_constructs.proofs.constructs.Constructs.longer.Goals as goal
use Rattle.goal_constructs.proofs.constructs.Constructs.longer.Goals.{In_ok-push_arguments-2}

parts : (c : In_ok-push_arguments-2)
    → Parts c.args.store.now.state c.push_arguments-2.new.parts.items (append (arguments_of (tree_at c.args.store.now.state c.args.inner)) (more_arguments (tree_at c.args.store.now.state c.args.goal)))
parts c =
    let s : State = c.args.store.now.state in
    parts-are s c.new-parts.result.items c.push_arguments.new.parts.items c.push_arguments-2.new.parts.items (tree_at s c.args.inner) (tree_at s c.args.goal)
    c.new-parts.ensures.items c.in_ok-push_arguments.ensures c.in_ok-push_arguments-2.ensures

pub returns-then-len-gt255-clause-made : goal.returns-then-len-gt255-clause-made
returns-then-len-gt255-clause-made c = λ n are.
    let s : State = c.args.store.now.state in
    let p = parts (goal.at.returns-then-len-gt255-clause-made c).In_ok-push_arguments-2 in
    let ts : Trees ℕ = append (arguments_of (tree_at s c.args.inner)) (more_arguments (tree_at s c.args.goal)) in (
      c.in_ok-ball.ensures.place,
      too-many n c.args.functor.0 ts c.args.name.0 c.args.arity (lt-ltb 255 (count ts) (omega (arith, p.count, c.len.ensures, c.push_arguments-2.new.parts.ok.0, c.if-len-gt255.true)))
          ∙ ap Err (sym (c.in_ok-ball.ensures.tree n are)),
    )

pub compound-requires-clause-places : goal.compound-requires-clause-places
compound-requires-clause-places c = subst (AreRefs c.args.store.now.state) (sym c.as_slice.ensures.value) (parts (goal.at.compound-requires-clause-places c).In_ok-push_arguments-2).places

pub compound-requires-clause-some : goal.compound-requires-clause-some
compound-requires-clause-some c =
    let s : State = c.args.store.now.state in
    let k : 1 ≤ length c.push_arguments-2.new.parts.items = some-parts s c.push_arguments-2.new.parts.items (tree_at s c.args.inner) (tree_at s c.args.goal) (parts (goal.at.compound-requires-clause-some c).In_ok-push_arguments-2) c.requires.more in
    omega (arith, k, ap (λ (xs : List Ref). length xs) c.as_slice.ensures.value)

pub returns-clause-made : goal.returns-clause-made
returns-clause-made c = λ n are.
    let s : State = c.args.store.now.state in
    let p = parts (goal.at.returns-clause-made c).In_ok-push_arguments-2 in
    let ts : Trees ℕ = append (arguments_of (tree_at s c.args.inner)) (more_arguments (tree_at s c.args.goal)) in (
      c.in_ok-made.ensures.place,
      few-enough n c.args.functor.0 ts c.args.name.0 c.args.arity (le-ltb 255 (count ts) (omega (arith, p.count, c.len.ensures, c.push_arguments-2.new.parts.ok.0, c.if-len-gt255.false)))
          ∙ ap Ok (sym (c.in_ok-made.ensures.tree ∙ (ap (λ xs. comp c.args.functor.0 (trees (map (tree_at s) xs))) c.as_slice.ensures.value
          ∙ (ap (λ xs. comp c.args.functor.0 (trees xs)) p.trees ∙ ap (comp c.args.functor.0) (trees-listed ts))))),
    )
