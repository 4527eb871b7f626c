use Rattle.std.proofs.Common.{◌++◌, ◌∙◌, List, ℕ, [], ap, subst}
use Rattle.pl_machine.specs.declared.machine.Machine.{Machine}
use Rattle.pl_machine.specs.Running.{Gives}
use Rattle.pl_machine.specs.Moving.{Stopped}
use Rattle.pl_machine.proofs.WentLaws.{gives_behind, stopped_behind}
use Rattle.pl_machine.proofs.machine.Machine.advance.Goals as goal

pub returns-clause-gives : goal.returns-clause-gives
returns-clause-gives c =
    let m : Machine = c.args.self.now in
    let n : Machine = c.step.new.self in
    let t : List ℕ = c.args.text.now in
    let u : List ℕ = c.step.new.text in
    let gives : Gives m n [] u c.in_ok-progress.progress = subst (λ b. Gives m n b u c.in_ok-progress.progress) c.new-shown.ensures c.in_ok-progress.ensures.gives in
    gives_behind m n t u c.extend_from_slice.new.self c.in_ok-progress.progress (c.in_ok-extend_from_slice.ensures.ok ∙ ap (λ l. t ++ l) c.as_slice.ensures) gives

pub returns-clause-stops : goal.returns-clause-stops
returns-clause-stops c =
    let n : Machine = c.step.new.self in
    let u : List ℕ = c.step.new.text in
    stopped_behind n c.args.text.now u c.extend_from_slice.new.self c.in_ok-progress.progress (c.in_ok-extend_from_slice.ensures.ok ∙ ap (λ l. c.args.text.now ++ l) c.as_slice.ensures)
    (subst (λ b. Stopped n b u c.in_ok-progress.progress) c.new-shown.ensures c.in_ok-progress.ensures.stops)
