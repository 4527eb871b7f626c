-- The bytes of events.
use Rattle.std.proofs.Common.{◌≡◌, ℕ, ◌+◌, List, [], ◌∷◌, ◌++◌, refl, sym, ap, ◌∙◌, map, length, append_assoc, append-nil, arith}
use Rattle.std.proofs.lemmas.List.{map-append}
use Rattle.pl_terms.specs.Trees.{Tree}
use Rattle.pl_terms.specs.Order.{text_of, texts_of}
use Rattle.pl_terms.specs.declared.read_term.VarName.{VarName}
use Rattle.pl_ops.specs.Standard.{standard}
use Rattle.pl_ops.specs.Tables.{operator, Operators}
use Rattle.solver_model.specs.Search.{Event, Out, Ans, answers_of}
use Rattle.goal_model.specs.Table.{shown}
use Rattle.naming_laws.specs.SameRun.{event_by}
use Rattle.pl_machine.specs.declared.machine.Machine.{Machine}
use Rattle.pl_machine.specs.declared.run.Show.{Show}
use Rattle.pl_machine.specs.declared.run.Show.TheVariants.{Lines, Count}
use Rattle.pl_machine.specs.Shown.{event_shown, events_shown, answer_shown}
use Rattle.pl_machine.specs.Running.{Same, text_shown, bytes_by, shown_by}

abbrev Events : Type 0
Events = List (Event (List (Tree ℕ)))

events-append : (look : Operators) (vs : List VarName) (a b : List (Event (List (Tree (List ℕ))))) → events_shown look vs (a ++ b) ≡ events_shown look vs a ++ events_shown look vs b
events-append look vs [] b = refl
events-append look vs (e ∷ a) b =
    ap (λ l. event_shown look vs e ++ l) (events-append look vs a b) ∙ sym (append_assoc (event_shown look vs e) (events_shown look vs a) (events_shown look vs b))

pub text-append : (m : Machine) (a b : Events) → text_shown m (a ++ b) ≡ text_shown m a ++ text_shown m b
text-append m a b =
    ap (events_shown (operator standard) m.variables.items) (map-append (event_by (text_of m.compiled.names)) a b)
    ∙ events-append (operator standard) m.variables.items (map (event_by (text_of m.compiled.names)) a) (map (event_by (text_of m.compiled.names)) b)

-- a machine that kept its names and variables shows events alike
pub text-same : (old new : Machine) (events : Events) → Same old new → text_shown new events ≡ text_shown old events
text-same old new events s =
    ap (λ b. events_shown (operator standard) new.variables.items (map (event_by (text_of b.names)) events)) s.0
    ∙ ap (λ v. events_shown (operator standard) v.items (map (event_by (text_of old.compiled.names)) events)) s.1

-- what is written is shown as it is
pub text-written : (m : Machine) (bytes : List ℕ) → text_shown m (shown bytes) ≡ bytes
text-written m [] = refl
text-written m (b ∷ bytes) = append-nil (b ∷ bytes)

pub text-answer : (m : Machine) (ts : List (Tree ℕ)) → text_shown m (Ans ts ∷ []) ≡ answer_shown (operator standard) m.variables.items (map (texts_of m.compiled.names) ts)
text-answer m ts = append-nil (answer_shown (operator standard) m.variables.items (map (texts_of m.compiled.names) ts))

-- ---- answers

pub answers-append : (a b : Events) → length (answers_of (a ++ b)) ≡ length (answers_of a) + length (answers_of b)
answers-append [] b = omega arith
answers-append (Out bytes ∷ a) b = answers-append a b
answers-append (Ans ts ∷ a) b = omega (arith, answers-append a b)

pub answers-written : (bytes : List ℕ) → answers_of (shown {N = ℕ} bytes) ≡ []
answers-written [] = refl
answers-written (b ∷ bytes) = refl

-- ---- what is put of them

pub by-append : (show : Show) (a b : List ℕ) → bytes_by show (a ++ b) ≡ bytes_by show a ++ bytes_by show b
by-append Lines a b = refl
by-append Count a b = refl

pub by-nothing : (show : Show) → bytes_by show [] ≡ []
by-nothing Lines = refl
by-nothing Count = refl

pub shown-append : (m : Machine) (show : Show) (a b : Events) → shown_by m show (a ++ b) ≡ shown_by m show a ++ shown_by m show b
shown-append m show a b = ap (bytes_by show) (text-append m a b) ∙ by-append show (text_shown m a) (text_shown m b)
