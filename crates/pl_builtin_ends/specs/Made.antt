-- The texts of the names that built-in predicates put into terms.
use Rattle.std.specs.Prelude.{◌≡◌, ℕ, List, [], ◌∷◌, map, codes, true}
use Rattle.std.specs.List.{list_any}
use Rattle.pl_atoms.specs.CaseTable.{Case}
use Rattle.pl_atoms.specs.Names.{same_text}
use Rattle.unit_model.specs.Builtins.{builtins}

-- of errors, of lists and of the answers of a comparison
unfoldable pub made_texts : List (List ℕ)
made_texts =
    codes "error"
    ∷ codes "/"
    ∷ codes "instantiation_error"
    ∷ codes "type_error"
    ∷ codes "domain_error"
    ∷ codes "representation_error"
    ∷ codes "evaluation_error"
    ∷ codes "atom"
    ∷ codes "atomic"
    ∷ codes "character"
    ∷ codes "compound"
    ∷ codes "integer"
    ∷ codes "list"
    ∷ codes "non_empty_list"
    ∷ codes "not_less_than_zero"
    ∷ codes "order"
    ∷ codes "max_arity"
    ∷ codes "evaluable"
    ∷ codes "int_overflow"
    ∷ codes "zero_divisor"
    ∷ codes "undefined"
    ∷ codes "[]"
    ∷ codes "."
    ∷ codes "<"
    ∷ codes "="
    ∷ codes ">"
    ∷ []

abbrev pub procedure_names : List Case → List (List ℕ)
procedure_names = map (λ procedure. procedure.name)

-- the text is one of these
abbrev pub HasText : List (List ℕ) → List ℕ → Type 0
HasText texts text = list_any (same_text text) texts ≡ true

-- a table has each text that built-in predicates put into terms, and the name of each built-in procedure
pub record HasNames (names : List (List ℕ)) : Type 0 where
  pub made : (text : List ℕ) → HasText made_texts text → HasText names text
  pub procedures : (text : List ℕ) → HasText (procedure_names builtins) text → HasText names text
