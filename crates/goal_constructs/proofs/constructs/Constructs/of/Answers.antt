use Rattle.std.proofs.Common.{◌∙◌, List, ℕ, map, ap}
use Rattle.pl_atoms.specs.Names.{AreDistinct, IsFront}
use Rattle.pl_atoms.specs.CaseTable.{cases_of}
use Rattle.pl_atoms.proofs.Numbers.{IsFront-trans, IsFront-itself}
use Rattle.builtin_model.specs.Naming.{by_numbers}
use Rattle.goal_constructs.specs.Numbers.{goal_texts, numbers_in, entry_place}
use Rattle.goal_constructs.specs.Constructs.{AreConstructs}
use Rattle.goal_constructs.proofs.Tables.{AreIn-front}
use Rattle.goal_constructs.proofs.Lookups.{constructs}
use Rattle.goal_constructs.proofs.constructs.Constructs.of.Goals as goal
use Rattle.goal_constructs.proofs.constructs.Constructs.of.Goals.{After-drop-ids-2}

lasting : (c : After-drop-ids-2) (table : List (List ℕ)) → AreDistinct table → IsFront c.number_cases.new.names table
    → AreConstructs (by_numbers table) (record { names = c.in_ok-goal_names.goal_names; rows = c.in_ok-rows.rows })
lasting c table distinct front =
    constructs table distinct (record { names = c.in_ok-goal_names.goal_names; rows = c.in_ok-rows.rows }) c.builtins-cases.result.now c.in_ok-ids.ids.items
    (AreIn-front c.of.new.names table (IsFront-trans c.of.new.names c.number_cases.new.names table c.in_ok-ids.ensures.front front) goal_texts (numbers_in c.in_ok-goal_names.goal_names) c.in_ok-goal_names.ensures.numbers)
    c.builtins-cases.ensures.rows
    (AreIn-front c.number_cases.new.names table front (map (λ r. r.name.now) c.builtins-cases.result.now) c.in_ok-ids.ids.items c.in_ok-ids.ensures.numbers)
    (λ f k. c.in_ok-rows.ensures f k ∙ ap (λ ids. entry_place ids (cases_of c.builtins-cases.result.now) f k 0) c.as_slice.ensures.value)

pub returns-clause-constructs : goal.returns-clause-constructs
returns-clause-constructs c = lasting c c.number_cases.new.names c.len-count.ensures.distinct (IsFront-itself c.number_cases.new.names)

pub returns-clause-lasting : goal.returns-clause-lasting
returns-clause-lasting c = lasting c
