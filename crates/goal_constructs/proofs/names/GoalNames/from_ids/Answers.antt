use Rattle.std.proofs.Common.{◌≡◌, subst}
use Rattle.goal_constructs.proofs.Tables.{spread, spread-all}
use Rattle.goal_constructs.proofs.names.GoalNames.from_ids.Goals as goal

pub returns : goal.returns
returns c = subst (λ k. spread c.args.ids.now (record { 0 = 0 }) k 0 ≡ c.args.ids.now) c.requires (spread-all c.args.ids.now (record { 0 = 0 }))
