use Rattle.std.proofs.Common.{◌≡◌, ◌∙◌, ◌∷◌, [], ◌++◌, ℕ, List, length, sym, ap, subst, reverse, refl, arith}
use Rattle.pl_terms.specs.Trees.{Tree}
use Rattle.pl_unify.specs.declared.word.Ref.{Ref}
use Rattle.pl_unify.specs.State.{State, tree_at}
use Rattle.pl_unify.proofs.Loading.{Grows-refl}
use Rattle.goal_constructs.specs.declared.conversion.Task.{Task}
use Rattle.goal_constructs.specs.declared.conversion.Task.TheVariants.{Convert}
use Rattle.goal_constructs.specs.Conversion.{Converting}
use Rattle.goal_constructs.proofs.ConjunctLaws.{reverse-push, empty-list}
use Rattle.goal_constructs.proofs.ConversionLaws.{begin, no-body, body}
use Rattle.goal_constructs.proofs.constructs.Constructs.convert_parts.Goals as goal

pub loop-task-init : goal.loop-task-init
loop-task-init c =
    let s : State = c.args.store.now.state in
    let t : Tree ℕ = tree_at s c.args.term in
    let tasks : reverse c.push.new.list.items ≡ Convert c.args.term ∷ [] = ap reverse (c.in_ok-push.ensures.ok ∙ ap (λ xs. xs ++ Convert c.args.term ∷ []) c.new-tasks.ensures.items) in
    let done : reverse c.new-done.result.items ≡ [] = ap reverse c.new-done.ensures.items in
    record {
      grows = Grows-refl s;
      next = refl;
      goes = subst (λ us. Converting c.args.self.now s us (reverse c.new-done.result.items) t) (sym tasks)
          (subst (λ ds. Converting c.args.self.now s (Convert c.args.term ∷ []) ds t) (sym done) (begin c.args.self.now s c.args.term c.requires));
    }

pub returns-then-not-branch-clause-converted : goal.returns-then-not-branch-clause-converted
returns-then-not-branch-clause-converted c = λ n are.
    let s : State = c.loop-task.store.state in
    let t : Tree ℕ = tree_at c.args.store.now.state c.args.term in
    let done : List Ref = reverse c.loop-task.done.items in
    let ts : List Task = reverse c.pop.new.self.items in
    let tasks : reverse c.loop-task.tasks.items ≡ c.in-Some.task ∷ ts = ap reverse c.in-Some.ensures.items ∙ reverse-push c.pop.new.self.items c.in-Some.task in
    let step = rw c.if-not-branch.true at c.in_ok-carry_out.ensures.step in
    no-body c.args.self.now s (c.in-Some.task ∷ ts) done t (subst (λ us. Converting c.args.self.now s us done t) tasks c.loop-task.invariant.goes) n are (step n are)

pub returns-clause-converted : goal.returns-clause-converted
returns-clause-converted c = λ n are.
    let s : State = c.loop-task.store.state in
    let t : Tree ℕ = tree_at c.args.store.now.state c.args.term in
    let made : Ref = c.in-Some-pop.made in
    let few : length c.loop-task.tasks.items ≡ 0 = omega (arith, c.loop-task.tasks.ok.0, c.in_default.ensures.cases.0) in
    let none : reverse c.loop-task.tasks.items ≡ [] = ap reverse (empty-list c.loop-task.tasks.items few) in
    let last : reverse c.loop-task.done.items ≡ made ∷ reverse c.pop-2.new.self.items = ap reverse c.in-Some-pop.ensures.items ∙ reverse-push c.pop-2.new.self.items made in
    let all : Converting c.args.self.now s [] (made ∷ reverse c.pop-2.new.self.items) t =
    subst (λ us. Converting c.args.self.now s us (made ∷ reverse c.pop-2.new.self.items) t) none (subst (λ ds. Converting c.args.self.now s (reverse c.loop-task.tasks.items) ds t) last c.loop-task.invariant.goes) in
    let one : length (reverse c.pop-2.new.self.items) ≡ 0 = omega (arith, all.sound.tasks) in
    let only : Converting c.args.self.now s [] (made ∷ []) t = subst (λ ds. Converting c.args.self.now s [] (made ∷ ds) t) (empty-list (reverse c.pop-2.new.self.items) one) all in
    (only.sound.places.0, body c.args.self.now s made t only n are)
