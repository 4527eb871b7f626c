-- The names of trees: texts, or anything that stands for texts.
use Rattle.std.specs.Prelude.{ℕ, List, length, unwrap_or}
use Rattle.pl_atoms.specs.Names.{text_place}
use Rattle.pl_terms.specs.Order.{text_of}

-- the text of each name, and the name of each text that built-in predicates write into terms
pub record Naming (N : Type 0) : Type 0 where
  pub text : N → List ℕ
  pub name : List ℕ → N

-- names are texts
abbrev pub by_texts : Naming (List ℕ)
by_texts = record { text = λ s. s; name = λ s. s }

-- the number of a text in a table, or one that the table does not have
abbrev pub number_in : List (List ℕ) → List ℕ → ℕ
number_in names s = unwrap_or (text_place names s) (length names)

-- names are numbers of a table
abbrev pub by_numbers : List (List ℕ) → Naming ℕ
by_numbers names = record { text = text_of names; name = number_in names }
