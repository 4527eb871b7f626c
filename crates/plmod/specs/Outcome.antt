-- What a command writes, puts and answers.
use Rattle.std.specs.Prelude.{ℕ, List, Option, None, codes}
use Rattle.plmod.specs.declared.status.Status.{Status}
use Rattle.plmod.specs.declared.status.Status.TheVariants.{Usage}

-- what is written, the status, and what is put under the command's name, if anything
pub record Outcome : Type 0 where
  pub bytes : List ℕ
  pub status : Status
  pub stored : Option (List ℕ)

-- lines alone
abbrev pub told : List ℕ → Status → Outcome
told lines status = record { bytes = lines; status = status; stored = None }

abbrev pub usage_text : List ℕ
usage_text = codes "usage: plmod prepare OUT TEXT KNOWN.. , link UNIT.. , run BUDGET GOAL UNIT.. , all BUDGET GOAL TEXT.. , show UNIT.. , grow N BUDGET\n"

-- words that are no command
abbrev pub usage : Outcome
usage = told usage_text Usage
