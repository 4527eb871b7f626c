use Rattle.std.proofs.Common.{◌-◌, List, Bool, true, false, subst, sym, arith}
use Rattle.pl_ops.specs.Tables.{operator}
use Rattle.pl_reader.specs.Standing.{Steps, Finishes}
use Rattle.pl_reader.proofs.RunSteps.{Going, At, at_place, start, advance, none_going, wants_operand, ends_none, ends_found, all_known, all_met}
use Rattle.pl_reader.specs.declared.machine.Context.{Context}
use Rattle.pl_reader.proofs.reading.read_cells.Goals as goal
use Rattle.pl_reader.proofs.reading.read_cells.Goals.{In_ok-state}

pub reading-init : goal.reading-init
reading-init c = start c.args.tokens.now (operator c.args.table.now) c.args.names.now c.args.grammar c.args.variables.now _ _ _ c.requires.paired c.requires.none c.new-waiting.ensures.items c.new-contexts.ensures.items c.new-out.ensures.items

next : (c : In_ok-state) → Going c.args.tokens.now (operator c.args.table.now) c.args.names.now c.args.grammar (Rattle.std.proofs.Common.◌+◌ c.reading.at 1) c.in_ok-state.state c.take_token.new.names c.take_token.new.variables c.take_token.new.waiting.items c.take_token.new.contexts.items c.take_token.new.out.items
next c =
    let a : At c.args.tokens.now c.reading.at c.index-tokens-at.result c.index-tokens-at-in-reading.result c.after_next-after.result.now = at_place c.args.tokens.now c.reading.at c.index-tokens-at.result c.index-tokens-at-in-reading.result c.after_next-after.result.now (omega arith) c.index-tokens-at.is c.index-tokens-at-in-reading.is c.after_next-after.ensures.within c.after_next-after.ensures.past in
    advance c.args.tokens.now (operator c.args.table.now) c.args.names.now c.args.grammar c.requires.run c.requires.grammar c.reading.at c.index-tokens-at.result c.index-tokens-at-in-reading.result c.after_next-after.result.now c.reading.state c.in_ok-state.state c.reading.names c.take_token.new.names c.reading.variables c.take_token.new.variables _ _ _ _ _ _ a c.reading.invariant c.in_ok-state.ensures.goes c.in_ok-state.ensures.met c.in_ok-state.ensures.paired c.in_ok-state.ensures.known c.in_ok-state.ensures.front

pub reading-preserved : goal.reading-preserved
reading-preserved c = next (goal.at.reading-preserved c).In_ok-state

pub returns-in-Fails-clause-none : goal.returns-in-Fails-clause-none
returns-in-Fails-clause-none c =
    none_going c.args.tokens.now (operator c.args.table.now) c.args.names.now c.args.grammar c.requires.run c.requires.grammar _ c.in_ok-state.state c.take_token.new.names c.take_token.new.variables _ _ _ (next (goal.at.returns-in-Fails-clause-none c).In_ok-state) c.in-Fails.is

pub returns-then-state-clause-none : goal.returns-then-state-clause-none
returns-then-state-clause-none c =
    wants_operand c.args.tokens.now (operator c.args.table.now) c.args.names.now c.args.grammar c.requires.run c.requires.grammar c.reading.at c.reading.state c.reading.names c.reading.variables _ _ _ c.reading.invariant c.reading-test.false c.if-state.true

pub returns-clause-none : goal.returns-clause-none
returns-clause-none c =
    ends_none c.args.tokens.now (operator c.args.table.now) c.args.names.now c.args.grammar c.requires.run c.requires.grammar c.reading.at c.reading.state c.reading.names c.reading.variables _ _ _ c.reading.invariant c.reading-test.false c.if-state.false c.take_end.new.out.items
    (λ num F s.
    let P : List Context → Type 0 = λ l. Steps num F c.reading.state.last c.reading.waiting.items l c.reading.out.items in
    let Q : Bool → Type 0 = λ b. Finishes num F b c.take_end.new.out.items in
    subst Q c.if-ended.false (c.in_ok-ended.ensures num F (subst P (sym c.as_slice.ensures.value) s)))

pub returns-then-ended-clause-found : goal.returns-then-ended-clause-found
returns-then-ended-clause-found c =
    ends_found c.args.tokens.now (operator c.args.table.now) c.args.names.now c.args.grammar c.requires.run c.requires.grammar c.reading.at c.reading.state c.reading.names c.reading.variables _ _ _ c.reading.invariant c.reading-test.false c.if-state.false c.take_end.new.out.items
    (λ num F s.
    let P : List Context → Type 0 = λ l. Steps num F c.reading.state.last c.reading.waiting.items l c.reading.out.items in
    let Q : Bool → Type 0 = λ b. Finishes num F b c.take_end.new.out.items in
    subst Q c.if-ended.true (c.in_ok-ended.ensures num F (subst P (sym c.as_slice.ensures.value) s)))

pub returns-then-ended-clause-known : goal.returns-then-ended-clause-known
returns-then-ended-clause-known c =
    all_known c.args.tokens.now (operator c.args.table.now) c.args.names.now c.args.grammar c.requires.run c.requires.grammar c.reading.at c.reading.state c.reading.names c.reading.variables _ _ _ c.reading.invariant c.reading-test.false

pub returns-then-ended-clause-met : goal.returns-then-ended-clause-met
returns-then-ended-clause-met c =
    all_met c.args.tokens.now (operator c.args.table.now) c.args.names.now c.args.grammar c.requires.run c.requires.grammar c.reading.at c.reading.state c.reading.names c.reading.variables _ _ _ c.reading.invariant c.reading-test.false
