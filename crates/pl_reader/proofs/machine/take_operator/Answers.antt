use Rattle.std.proofs.Common.{◌≡◌, ℕ, List, Bool, Option, Some, refl, sym, subst, ◌∷◌}
use Rattle.text_model.specs.Grammar.{Item, Parse}
use Rattle.pl_reader.specs.Standing.{ItemIs, Steps, EndsTerm, ClosesBracket, after_bracket, bracket_of}
use Rattle.pl_reader.specs.declared.machine.ParseItem.{ParseItem}
use Rattle.pl_reader.specs.declared.machine.Stepped.{Stepped}
use Rattle.pl_reader.specs.Machine.{run, Frame, Context as Opened}
use Rattle.pl_reader.specs.declared.machine.Entry.{Entry}
use Rattle.pl_reader.specs.declared.machine.Context.{Context}
use Rattle.pl_terms.specs.declared.cell.Cell.{Cell}
use Rattle.pl_reader.proofs.ItemSteps.{none_ended, early, step_between, step_after, step_after_fails, step_comma, step_bar, step_closes, step_closes_fails}
use Rattle.pl_reader.specs.declared.machine.LastTerm.{LastTerm}
use Rattle.pl_reader.proofs.machine.take_operator.Goals as goal

at_item : (num : List ℕ → ℕ) (x y : ParseItem) (i : Item) → x ≡ y → ItemIs num x i → ItemIs num y i
at_item num x y i e h = subst (λ z. ItemIs num z i) e h

stepped_as : (num : List ℕ → ℕ) (cs : List Opened) (fs : List Frame) (e : Parse) (i : Item) (r t : Stepped) (stack : List Entry) (contexts : List Context) (out : List Cell) → r ≡ t → Steps num (λ is. run cs fs (Some e) (i ∷ is)) t stack contexts out → Steps num (λ is. run cs fs (Some e) (i ∷ is)) r stack contexts out
stepped_as num cs fs e i r t stack contexts out h s = let P : Stepped → Type 0 = λ x. Steps num (λ is. run cs fs (Some e) (i ∷ is)) x stack contexts out in subst P (sym h) s

pub returns-in_ok-went_on-in-Between : goal.returns-in_ok-went_on-in-Between
returns-in_ok-went_on-in-Between c = λ num cs fs e i are h k s.
    stepped_as num cs fs e i c.to_operand.result _ _ _ _ c.to_operand.ensures (step_between num c.in-Between.op c.in-Between.name i cs fs e c.in_ok-went_on-in-Between.went_on c.join.new.waiting.items c.args.contexts.now.items c.join.new.out.items (at_item num _ _ i c.in-Between.is h) k (λ frame m. c.in_ok-went_on-in-Between.ensures num cs fs e frame m s))

pub returns-in-None : goal.returns-in-None
returns-in-None c = λ num cs fs e i are h k s.
    let x = at_item num _ _ i c.in-After.is h in
    step_after_fails num c.in-After.op c.in-After.name i cs fs e x (none_ended num c.in-After.op c.in-After.name i cs fs e c.in_ok-ended-in-After.ended c.postfix.new.waiting.items c.postfix.new.out.items x c.in-None.is (λ w m. c.in_ok-ended-in-After.ensures num cs fs e w m s))

pub returns-in-Some : goal.returns-in-Some
returns-in-Some c = λ num cs fs e i are h k s.
    let P : List ℕ → Option LastTerm → Type 0 = λ w r. EndsTerm num c.in-After.op w cs fs e r c.postfix.new.waiting.items c.postfix.new.out.items in
    step_after num c.in-After.op c.in-After.name i cs fs e c.in-Some.last c.postfix.new.waiting.items c.args.contexts.now.items c.postfix.new.out.items (at_item num _ _ i c.in-After.is h) k (λ w m. subst (P w) c.in-Some.is (c.in_ok-ended-in-After.ensures num cs fs e w m s))

pub returns-in_ok-went_on-in-Comma : goal.returns-in_ok-went_on-in-Comma
returns-in_ok-went_on-in-Comma c = λ num cs fs e i are h k s.
    stepped_as num cs fs e i c.to_operand-in-Comma.result _ _ _ _ c.to_operand-in-Comma.ensures (step_comma num i cs fs e c.in_ok-went_on-in-Comma.went_on c.comma.new.waiting.items c.comma.new.contexts.items c.comma.new.out.items (at_item num _ _ i c.in-Comma.is h) (c.in_ok-went_on-in-Comma.ensures num cs fs e are.comma_is k s))

pub returns-in_ok-went_on-in-Bar : goal.returns-in_ok-went_on-in-Bar
returns-in_ok-went_on-in-Bar c = λ num cs fs e i are h k s.
    stepped_as num cs fs e i c.to_operand-in-Bar.result _ _ _ _ c.to_operand-in-Bar.ensures (step_bar num i cs fs e c.in_ok-went_on-in-Bar.went_on c.bar.new.waiting.items c.bar.new.contexts.items c.bar.new.out.items (at_item num _ _ i c.in-Bar.is h) (c.in_ok-went_on-in-Bar.ensures num cs fs e k s))

pub returns-then-closed : goal.returns-then-closed
returns-then-closed c = λ num cs fs e i are h k s.
    let P : Bool → Type 0 = λ b. ClosesBracket num (after_bracket (bracket_of c.in-Closes.bracket) cs fs e) b c.close_bracket.new.waiting.items c.close_bracket.new.contexts.items c.close_bracket.new.out.items in
    step_closes num c.in-Closes.bracket i cs fs e _ _ _ (at_item num _ _ i c.in-Closes.is h) (subst P c.if-closed.true (c.in_ok-closed-in-Closes.ensures num cs fs e are k s))

pub returns-else-closed : goal.returns-else-closed
returns-else-closed c = λ num cs fs e i are h k s.
    let P : Bool → Type 0 = λ b. ClosesBracket num (after_bracket (bracket_of c.in-Closes.bracket) cs fs e) b c.close_bracket.new.waiting.items c.close_bracket.new.contexts.items c.close_bracket.new.out.items in
    step_closes_fails num c.in-Closes.bracket i cs fs e (at_item num _ _ i c.in-Closes.is h) (subst P c.if-closed.false (c.in_ok-closed-in-Closes.ensures num cs fs e are k s))

pub returns-in-Operand : goal.returns-in-Operand
returns-in-Operand c = λ num cs fs e i are h k s. early num c.args.item _ i cs fs e c.in-Operand.is refl h

pub returns-in-Before : goal.returns-in-Before
returns-in-Before c = λ num cs fs e i are h k s. early num c.args.item _ i cs fs e c.in-Before.is refl h

pub returns-in-Calls : goal.returns-in-Calls
returns-in-Calls c = λ num cs fs e i are h k s. early num c.args.item _ i cs fs e c.in-Calls.is refl h

pub returns-in-Opens : goal.returns-in-Opens
returns-in-Opens c = λ num cs fs e i are h k s. early num c.args.item _ i cs fs e c.in-Opens.is refl h
