use Rattle.goal_runs.proofs.running.run_goal.Goals as goal

pub read_and_run-requires-clause-decided : goal.read_and_run-requires-clause-decided
read_and_run-requires-clause-decided g c = c.goals_are_decided.ensures

pub read_and_run-requires-clause-further : goal.read_and_run-requires-clause-further
read_and_run-requires-clause-further g c = c.says_same_further.ensures

pub returns-clause-ends : goal.returns-clause-ends
returns-clause-ends g c = c.read_and_run.ensures.ends

pub returns-clause-front : goal.returns-clause-front
returns-clause-front g c = c.read_and_run.ensures.front
