-- The lines that a run prints, each with its newline.
use Rattle.std.specs.Prelude.{ℕ, List, [], ◌∷◌, ◌++◌, codes, decimal, nat_eq, Bool, true, false, if◌then◌else◌}
use Rattle.pl_terms.specs.Order.{texts_of}
use Rattle.pl_ops.specs.Tables.{Operators}
use Rattle.text_model.specs.Tokens.{head_of}
use Rattle.text_model.specs.Writing.{written, int_text}
use Rattle.text_model.specs.declared.Quote.TheVariants.{Quoted as quotes}
use Rattle.prep_report.specs.declared.answer.Binding.{Binding}
use Rattle.prep_report.specs.declared.end.End2.{End2}
use Rattle.prep_report.specs.declared.end.End2.TheVariants.{Exhausted, Spent, Uncaught, Halted}

abbrev pub fault_text : ℕ → ℕ → List ℕ → ℕ → List ℕ
fault_text letter number place byte = codes "fault " ++ letter ∷ (decimal number ++ codes " in " ++ place ++ codes " at byte " ++ decimal byte ++ codes "\n")

abbrev pub not_unit_text : List ℕ → List ℕ
not_unit_text name = codes "not a unit: " ++ name ++ codes "\n"

abbrev pub prepared_text : ℕ → ℕ → List ℕ
prepared_text sections clauses = codes "prepared " ++ decimal sections ++ codes " sections " ++ decimal clauses ++ codes " clauses\n"

abbrev pub linked_text : ℕ → ℕ → List ℕ
linked_text modules procedures = codes "linked " ++ decimal modules ++ codes " modules " ++ decimal procedures ++ codes " procedures\n"

abbrev pub count_text : ℕ → ℕ → List ℕ
count_text answers steps = codes "answers " ++ decimal answers ++ codes " steps " ++ decimal steps ++ codes "\n"

-- a variable is shown unless its name begins with _
abbrev pub is_shown : List ℕ → Bool
is_shown name = if nat_eq (head_of name) 95 then false else true

module _ (look : Operators) (names : List (List ℕ)) where
  abbrev pub binding_text : Binding → List ℕ
  binding_text b = b.name ++ codes " = " ++ written look quotes 699 (texts_of names b.term)

  -- a binding, where others stand before it or not
  abbrev pub next_text : Bool → Binding → List ℕ
  next_text some b = if is_shown b.name then (if some then codes ", " else []) ++ binding_text b else []

  abbrev pub bindings_text : Bool → List Binding → List ℕ
  bindings_text some [] = if some then [] else codes "true"
  bindings_text some (b ∷ bs) = next_text some b ++ bindings_text (if is_shown b.name then true else some) bs

  abbrev pub answer_text : List Binding → List ℕ
  answer_text bs = bindings_text false bs ++ codes " ;\n"

  abbrev pub end_text : End2 → List ℕ
  end_text Exhausted = codes "no more\n"
  end_text Spent = codes "budget spent\n"
  end_text (Uncaught t) = codes "uncaught: " ++ written look quotes 1200 (texts_of names t) ++ codes "\n"
  end_text (Halted n) = codes "halted " ++ int_text n ++ codes "\n"
