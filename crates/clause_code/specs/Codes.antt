-- The codes of clauses.
use Rattle.std.specs.Prelude.{◌≡◌, ℕ, ◌<◌, ◌^◌, List, [], ◌++◌, length, true, slice_index_or}
use Rattle.pl_terms.specs.Occurrence.{occurrences, first_after, from_to}
use Rattle.pl_unify.specs.Code.{Layout, last_tree}
use Rattle.goal_model.specs.Program.{Clause}
use Rattle.goal_code.specs.declared.shape.ControlNames.{ControlNames}
use Rattle.goal_code.specs.Runs.{IsBody}
use Rattle.goal_code.specs.Settled.{is_settled, AreSettled}
use Rattle.goal_code.specs.BodyCode.{BodyCode}
use Rattle.pl_store.specs.Linked.{StoredClause, no_clause}
use Rattle.clause_code.specs.declared.codes.ClauseCode.{ClauseCode}

-- a clause that has a code: its variables are 0, 1, 2 and so on, and its goals are known before they run
pub record IsReady (s : ControlNames) (e : StoredClause) : Type 0 where
  pub numbered : first_after [] (occurrences e.clause.head ++ occurrences e.clause.body) ≡ from_to 0 e.clause.width
  pub width : e.clause.width < 2 ^ 63
  pub settled : is_settled s e.clause.body ≡ true

-- the code of a clause: its head and its body as the last terms of their codes, with all of its variables, and the body's goals
pub record IsCoded (s : ControlNames) (c : Clause ℕ) (k : ClauseCode) : Type 0 where
  pub head_some : 0 < length k.head.words
  pub head : last_tree k.head.words ≡ c.head
  pub head_vars : k.head.vars ≡ c.width
  pub body_some : 0 < length k.body.words
  pub body : last_tree k.body.words ≡ c.body
  pub body_vars : k.body.vars ≡ c.width
  pub goals : IsBody s k.body.words k.goals.code k.goals.start c.body
  pub settled : is_settled s c.body ≡ true
  pub each_settled : AreSettled s k.body.words k.goals.code

abbrev pub no_layout : Layout
no_layout = record { words = []; vars = 0 }

-- stands past the end of the codes
abbrev pub no_code : ClauseCode
no_code = record { head = no_layout; body = no_layout; goals = record { code = []; start = 0 } }

abbrev pub code_at : List ClauseCode → ℕ → ClauseCode
code_at ks c = slice_index_or ks c no_code

-- each clause has its code at its number
pub record IsCodes (s : ControlNames) (cs : List StoredClause) (ks : List ClauseCode) : Type 0 where
  pub count : length ks ≡ length cs
  pub each : (c : ℕ) → c < length cs → IsCoded s (slice_index_or cs c no_clause).clause (code_at ks c)

-- the bodies of clauses by number, as frames read them
abbrev pub codes_of : List ClauseCode → ℕ → BodyCode
codes_of ks c = record { words = (code_at ks c).body.words; code = (code_at ks c).goals.code }
