-- Worked texts that are goals, and the faults of others.
use Rattle.std.proofs.Common.{ℕ, Bool, true, false, List, [], ◌∷◌, ◌++◌, refl, arith}
use Rattle.std.specs.Prelude.{codes}
use Rattle.std.specs.Str.{chars, is_utf8}
use Rattle.std.specs.Str.Lossy.{utf8_valid_len}
use lib.Utf8.{encode}
use Rattle.pl_terms.specs.Trees.{Tree, var, atom, comp, nil, cons}
use Rattle.pl_ops.specs.Tables.{operator}
use Rattle.pl_ops.specs.Standard.{standard}
use Rattle.text_model.specs.Tokens.{Token, Lexeme, name, variable, punctuation, stop, skip, body, run_from}
use Rattle.text_model.specs.Grammar.{round, operand, comma, calls, closes, leaf, called, one, more}
use Rattle.unit_model.specs.Directives.{Text}
use Rattle.unit_model.specs.Prepared.{ReadsRun}
use Rattle.goal_runs.specs.Goals.{IsGoal, IsGoalFault, unfinished, empty, a_token_more, no_token_more}

abbrev token_at : Lexeme Text → ℕ → Bool → Token Text
token_at l byte direct = record { lexeme = l; byte = byte; direct = direct }

-- `p.`
abbrev name_and_end : List (Token Text)
name_and_end = token_at (name (codes "p")) 0 false ∷ token_at stop 1 true ∷ []

abbrev p : Tree Text
p = atom (codes "p")

unfoldable reads_p : ReadsRun (operator standard) name_and_end p
unfolding standard
reads_p = record {
  before = token_at (name (codes "p")) 0 false ∷ [];
  end_byte = 1;
  direct = true;
  split = refl;
  reads = record {
    items = operand p ∷ [];
    classified = refl;
    reads = record { parse = leaf p; spelled = refl; within = omega arith; good = tt; tree = refl };
  };
}

a_name : IsGoal (codes "p. % c") p []
unfolding run_from skip body chars utf8_valid_len is_utf8 encode reads_p
a_name = record { tokens = name_and_end; next = 2; first = refl; term = record { reads = reads_p; named = refl }; last = refl }

a_variable : IsGoal (codes "X.") (var 0) ((codes "X", 0) ∷ [])
unfolding run_from skip body chars utf8_valid_len is_utf8 encode standard
a_variable = record {
  tokens = token_at (variable (codes "X")) 0 false ∷ token_at stop 1 true ∷ [];
  next = 2;
  first = refl;
  term = record {
    reads = record {
      before = token_at (variable (codes "X")) 0 false ∷ [];
      end_byte = 1;
      direct = true;
      split = refl;
      reads = record {
        items = operand (var 0) ∷ [];
        classified = refl;
        reads = record { parse = leaf (var 0); spelled = refl; within = omega arith; good = tt; tree = refl };
      };
    };
    named = refl;
  };
  last = refl;
}

-- `p(X,Y)`
abbrev two_arguments : List (Token Text)
two_arguments =
    token_at (name (codes "p")) 0 false ∷ token_at (punctuation 40) 1 true ∷ token_at (variable (codes "X")) 2 true ∷ token_at (punctuation 44) 3 true ∷
    token_at (variable (codes "Y")) 4 true ∷ token_at (punctuation 41) 5 true ∷ []

two_variables : IsGoal (codes "p(X,Y). % c") (comp (codes "p") (cons (var 0) (cons (var 1) nil))) ((codes "X", 0) ∷ (codes "Y", 1) ∷ [])
unfolding run_from skip body chars utf8_valid_len is_utf8 encode standard
two_variables = record {
  tokens = two_arguments ++ token_at stop 6 true ∷ [];
  next = 7;
  first = refl;
  term = record {
    reads = record {
      before = two_arguments;
      end_byte = 6;
      direct = true;
      split = refl;
      reads = record {
        items = calls (codes "p") ∷ operand (var 0) ∷ comma ∷ operand (var 1) ∷ closes round ∷ [];
        classified = refl;
        reads = record {
          parse = called (codes "p") (more (leaf (var 0)) (one (leaf (var 1))));
          spelled = refl;
          within = omega arith;
          good = (omega arith, (omega arith, tt, (omega arith, tt)));
          tree = refl;
        };
      };
    };
    named = refl;
  };
  last = refl;
}

no_text : IsGoalFault [] 6 0
unfolding run_from skip body chars utf8_valid_len is_utf8 encode
no_text = empty refl

comment_alone : IsGoalFault (codes " % c") 6 4
unfolding run_from skip body chars utf8_valid_len is_utf8 encode
comment_alone = empty refl

no_end : IsGoalFault (codes " p") 6 1
unfolding run_from skip body chars utf8_valid_len is_utf8 encode
no_end = unfinished refl

another_goal : IsGoalFault (codes "p. q.") 5 3
unfolding run_from skip body chars utf8_valid_len is_utf8 encode
another_goal = a_token_more {next = 2} {after = 4} name_and_end p (token_at (name (codes "q")) 3 false) refl reads_p refl

a_quote_more : IsGoalFault (codes "p. '") 2 3
unfolding run_from skip body chars utf8_valid_len is_utf8 encode
a_quote_more = no_token_more {next = 2} {n = 2} {byte = 3} name_and_end p refl reads_p refl

an_ill_formed_byte_more : IsGoalFault (112 ∷ 46 ∷ 32 ∷ 255 ∷ []) 1 3
unfolding run_from skip body chars utf8_valid_len is_utf8 encode
an_ill_formed_byte_more = no_token_more {next = 2} {n = 1} {byte = 3} name_and_end p refl reads_p refl
