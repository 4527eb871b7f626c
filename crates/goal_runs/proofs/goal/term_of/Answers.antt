use Rattle.std.proofs.Common.{refl, ap, ◌∙◌, Err}
use Rattle.pl_ops.specs.Tables.{operator}
use Rattle.goal_runs.proofs.GoalRuns.{reads_as, reads_none}
use Rattle.reading_laws.proofs.RunTokens.{first-same, within-below}
use Rattle.goal_runs.proofs.goal.term_of.Goals as goal

pub returns-in-Ok-clause-term : goal.returns-in-Ok-clause-term
returns-in-Ok-clause-term c = reads_as c.args.run.now c.requires (operator c.in_ok-table.table) c.in_ok-table.ensures _ _ c.in-Ok.ensures.ok c.in-Ok.ensures.variables

pub returns-in-Ok-clause-below : goal.returns-in-Ok-clause-below
returns-in-Ok-clause-below c = within-below _ _ c.in-Ok.ensures.within

pub returns-in-Err-NoTerm-clause-fault : goal.returns-in-Err-NoTerm-clause-fault
returns-in-Err-NoTerm-clause-fault c = record {
  number = refl;
  first = c.first_byte.ensures ∙ first-same c.args.run.now;
  none = reads_none c.args.run.now c.requires (operator c.in_ok-table.table) c.in_ok-table.ensures (c.in-Err-NoTerm.ensures.no_term (ap (λ x. Err x) c.in-Err-NoTerm.field-0-is));
}
