use Rattle.std.proofs.Common.{List, map, Option, Ok, subst}
use Rattle.pl_terms.specs.Order.{texts_of}
use Rattle.pl_tokens.specs.declared.token.Token.{Token}
use Rattle.pl_tokens.specs.Runs.{TakesRun}
use Rattle.goal_runs.specs.Goals.{VariableNames, IsGoal}
use Rattle.goal_runs.specs.GoalFaults.{token_fault, IsFault}
use Rattle.goal_runs.proofs.GoalFaults.{handed_on, taken-none, no-run, run-fault, term-fault, is-goal, left-fault}
use Rattle.goal_runs.proofs.Variables.{goal-named, in_order, numbers-below}
use Rattle.goal_runs.proofs.goal.read_goal.Goals as goal

pub returns-in_err-run-clause-fault : goal.returns-in_err-run-clause-fault
returns-in_err-run-clause-fault c =
    handed_on (IsFault c.args.text.now) (token_fault c.in_err-run.field-0.0) c.from_residual.result c.from_residual.ensures.1
    (run-fault c.args.text.now c.new-tokens.result c.next_run.new.self c.new-tokens.ensures c.in_err-run.field-0.0 c.in_err-run.ensures.takes)

pub returns-in_default-clause-fault : goal.returns-in_default-clause-fault
returns-in_default-clause-fault c =
    no-run c.args.text.now c.new-tokens.result c.next_run.new.self c.new-tokens.ensures
    (taken-none c.in_ok-run.field-0 c.new-tokens.result c.next_run.new.self c.in_default.not-Some c.in_ok-run.ensures.takes)

pub returns-in_err-goal-clause-fault : goal.returns-in_err-goal-clause-fault
returns-in_err-goal-clause-fault c =
    let taken = subst (λ (o : Option (List Token)). TakesRun c.new-tokens.result (Ok o) c.next_run.new.self) c.in-Some.is c.in_ok-run.ensures.takes in
    handed_on (IsFault c.args.text.now) c.in_err-goal.field-0.0 c.from_residual-in_err-goal.result c.from_residual-in_err-goal.ensures.1
    (term-fault c.args.text.now c.new-tokens.result c.next_run.new.self c.new-tokens.ensures c.in-Some.run' taken c.in_err-goal.field-0.0 c.in_err-goal.ensures.fault)

pub returns-in_err-nothing_left-clause-fault : goal.returns-in_err-nothing_left-clause-fault
returns-in_err-nothing_left-clause-fault c =
    let taken = subst (λ (o : Option (List Token)). TakesRun c.new-tokens.result (Ok o) c.next_run.new.self) c.in-Some.is c.in_ok-run.ensures.takes in
    let names : VariableNames = map (λ v. (v.name, v.number)) c.in_ok-goal.goal.names in
    handed_on (IsFault c.args.text.now) c.in_err-nothing_left.field-0.0 c.from_residual-in_err-nothing_left.result c.from_residual-in_err-nothing_left.ensures.1
    (left-fault c.args.text.now c.new-tokens.result c.next_run.new.self c.new-tokens.ensures c.in-Some.run' taken (texts_of c.term_of.new.names c.in_ok-goal.goal.term) names
    c.in_ok-goal.ensures.term c.in_err-nothing_left.field-0.0 c.in_err-nothing_left.ensures.fault)

pub returns-clause-goal : goal.returns-clause-goal
returns-clause-goal c =
    let taken = subst (λ (o : Option (List Token)). TakesRun c.new-tokens.result (Ok o) c.next_run.new.self) c.in-Some.is c.in_ok-run.ensures.takes in
    let names : VariableNames = map (λ v. (v.name, v.number)) c.in_ok-goal.goal.names in
    let t = texts_of c.term_of.new.names c.in_ok-goal.goal.term in
    is-goal c.args.text.now c.new-tokens.result c.next_run.new.self c.new-tokens.ensures c.in-Some.run' taken t names c.in_ok-goal.ensures.term c.in_ok-nothing_left.ensures.none

pub returns-clause-variables : goal.returns-clause-variables
returns-clause-variables c =
    let taken = subst (λ (o : Option (List Token)). TakesRun c.new-tokens.result (Ok o) c.next_run.new.self) c.in-Some.is c.in_ok-run.ensures.takes in
    let names : VariableNames = map (λ v. (v.name, v.number)) c.in_ok-goal.goal.names in
    let t = texts_of c.term_of.new.names c.in_ok-goal.goal.term in
    let is : IsGoal c.args.text.now t names =
    is-goal c.args.text.now c.new-tokens.result c.next_run.new.self c.new-tokens.ensures c.in-Some.run' taken t names c.in_ok-goal.ensures.term c.in_ok-nothing_left.ensures.none in
    in_order c.term_of.new.names c.in_ok-goal.goal.term names (goal-named c.args.text.now t names is)

pub returns-clause-numbers : goal.returns-clause-numbers
returns-clause-numbers c =
    let taken = subst (λ (o : Option (List Token)). TakesRun c.new-tokens.result (Ok o) c.next_run.new.self) c.in-Some.is c.in_ok-run.ensures.takes in
    let names : VariableNames = map (λ v. (v.name, v.number)) c.in_ok-goal.goal.names in
    let t = texts_of c.term_of.new.names c.in_ok-goal.goal.term in
    let is : IsGoal c.args.text.now t names =
    is-goal c.args.text.now c.new-tokens.result c.next_run.new.self c.new-tokens.ensures c.in-Some.run' taken t names c.in_ok-goal.ensures.term c.in_ok-nothing_left.ensures.none in
    numbers-below c.term_of.new.names c.in_ok-goal.goal.term c.in_ok-goal.goal.names (goal-named c.args.text.now t names is)
