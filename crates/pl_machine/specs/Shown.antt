-- What a run shows, over texts.
use Rattle.std.specs.Prelude.{ℕ, List, [], ◌∷◌, ◌++◌, codes, slice_index_or, Bool, true, false, if◌then◌else◌}
use Rattle.pl_terms.specs.Trees.{Tree, var}
use Rattle.pl_terms.specs.declared.read_term.VarName.{VarName}
use Rattle.pl_ops.specs.Tables.{Operators}
use Rattle.text_model.specs.Writing.{written}
use Rattle.text_model.specs.declared.Quote.TheVariants.{Quoted as quotes}
use Rattle.solver_model.specs.Search.{Event, Out, Ans}
use Rattle.prep_report.specs.Lines.{is_shown}

-- the value of a variable in an answer
abbrev pub value_in : List (Tree (List ℕ)) → ℕ → Tree (List ℕ)
value_in ts n = slice_index_or ts n (var 0)

module _ (look : Operators) where
  abbrev pub binding_shown : List ℕ → Tree (List ℕ) → List ℕ
  binding_shown name t = name ++ codes " = " ++ written look quotes 699 t

  -- a binding, where others stand before it or not
  abbrev pub next_shown : Bool → List ℕ → Tree (List ℕ) → List ℕ
  next_shown some name t = if is_shown name then (if some then codes ", " else []) ++ binding_shown name t else []

  -- the bindings of an answer's named variables
  abbrev pub bindings_shown : Bool → List VarName → List (Tree (List ℕ)) → List ℕ
  bindings_shown some [] ts = if some then [] else codes "true"
  bindings_shown some (v ∷ vs) ts = next_shown some v.name (value_in ts v.number) ++ bindings_shown (if is_shown v.name then true else some) vs ts

  -- the line of an answer
  abbrev pub answer_shown : List VarName → List (Tree (List ℕ)) → List ℕ
  answer_shown vs ts = bindings_shown false vs ts ++ codes " ;\n"

  abbrev pub event_shown : List VarName → Event (List (Tree (List ℕ))) → List ℕ
  event_shown vs (Out bytes) = bytes
  event_shown vs (Ans ts) = answer_shown vs ts

  -- output and the lines of answers, in their order
  abbrev pub events_shown : List VarName → List (Event (List (Tree (List ℕ)))) → List ℕ
  events_shown vs [] = []
  events_shown vs (e ∷ es) = event_shown vs e ++ events_shown vs es
