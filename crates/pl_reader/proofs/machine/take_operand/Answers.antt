use Rattle.std.proofs.Common.{◌≡◌, ℕ, List, refl, subst}
use Rattle.text_model.specs.Grammar.{Item}
use Rattle.pl_reader.specs.Standing.{ItemIs}
use Rattle.pl_reader.specs.declared.machine.ParseItem.{ParseItem}
use Rattle.pl_reader.proofs.ItemSteps.{late, step_operand, step_before, step_calls, step_opens}
use Rattle.pl_reader.proofs.machine.take_operand.Goals as goal

at_item : (num : List ℕ → ℕ) (x y : ParseItem) (i : Item) → x ≡ y → ItemIs num x i → ItemIs num y i
at_item num x y i e h = subst (λ z. ItemIs num z i) e h

pub returns-in_ok-push-in-Operand : goal.returns-in_ok-push-in-Operand
returns-in_ok-push-in-Operand c = λ num cs fs i h k. step_operand num c.in-Operand.cell i cs fs _ _ _ _ (at_item num _ _ i c.in-Operand.is h) k c.in_ok-push-in-Operand.ensures.items

pub returns-in_ok-push-in-Before : goal.returns-in_ok-push-in-Before
returns-in_ok-push-in-Before c = λ num cs fs i h k. step_before num c.in-Before.op c.in-Before.name i cs fs _ _ _ _ (at_item num _ _ i c.in-Before.is h) k c.in_ok-push-in-Before.ensures.items

pub returns-in_ok-open-in-Calls : goal.returns-in_ok-open-in-Calls
returns-in_ok-open-in-Calls c = λ num cs fs i h k. step_calls num c.in-Calls.name i cs fs _ _ _ _ _ (at_item num _ _ i c.in-Calls.is h) k c.in_ok-open-in-Calls.ensures.stack c.in_ok-open-in-Calls.ensures.contexts

pub returns-in_ok-open-in-Opens : goal.returns-in_ok-open-in-Opens
returns-in_ok-open-in-Opens c = λ num cs fs i h k. step_opens num c.in-Opens.bracket _ i cs fs _ _ _ _ _ (at_item num _ _ i c.in-Opens.is h) (c.opening.ensures num) k c.in_ok-open-in-Opens.ensures.stack c.in_ok-open-in-Opens.ensures.contexts

pub returns-in-Between : goal.returns-in-Between
returns-in-Between c = λ num cs fs i h k. late num c.args.item _ i cs fs c.in-Between.is refl h

pub returns-in-After : goal.returns-in-After
returns-in-After c = λ num cs fs i h k. late num c.args.item _ i cs fs c.in-After.is refl h

pub returns-in-Comma : goal.returns-in-Comma
returns-in-Comma c = λ num cs fs i h k. late num c.args.item _ i cs fs c.in-Comma.is refl h

pub returns-in-Bar : goal.returns-in-Bar
returns-in-Bar c = λ num cs fs i h k. late num c.args.item _ i cs fs c.in-Bar.is refl h

pub returns-in-Closes : goal.returns-in-Closes
returns-in-Closes c = λ num cs fs i h k. late num c.args.item _ i cs fs c.in-Closes.is refl h
