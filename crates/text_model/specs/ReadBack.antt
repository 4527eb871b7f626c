-- What is written under the standard table reads back as the same tree.
use Rattle.std.specs.Prelude.{◌≡◌, ℕ, ℤ, pos, negsuc, ◌<◌, ◌≤◌, ◌^◌, List, [], ◌∷◌, ◌++◌, length, codes, IsUtf8, false}
use Rattle.pl_terms.specs.Trees.{Tree, var, int, atom, comp, Trees, nil, cons, count}
use Rattle.pl_ops.specs.Tables.{operator}
use Rattle.pl_ops.specs.Standard.{standard}
use Rattle.text_model.specs.Tokens.{Token, stop, run, next_run}
use Rattle.text_model.specs.Grammar.{max_priority, max_arity}
use Rattle.text_model.specs.Reading.{numbered, ReadsTokens}
use Rattle.text_model.specs.Writing.{written}
use Rattle.text_model.specs.declared.Quote.TheVariants.{Quoted as quotes}

abbrev pub IsInt : ℤ → Type 0
IsInt (pos n) = n < 2 ^ 63
IsInt (negsuc n) = n < 2 ^ 63

-- A tree without variables, as terms have them: names are UTF-8, integers have 64 bits, and an arity is from 1 to 255.
abbrev mutual
  pub IsGround : Tree (List ℕ) → Type 0
  IsGround (var n) = ⊥
  IsGround (int z) = IsInt z
  IsGround (atom s) = IsUtf8 s
  IsGround (comp s ts) = IsUtf8 s × (1 ≤ count ts) × (count ts ≤ max_arity) × AreGround ts

  pub AreGround : Trees (List ℕ) → Type 0
  AreGround nil = Unit {0}
  AreGround (cons t ts) = IsGround t × AreGround ts

-- The text is one run, whose tokens before the end read as the tree.
pub record ReadsText (text : List ℕ) (t : Tree (List ℕ)) : Type 0 where
  pub tokens : List (Token (List ℕ))
  pub end_byte : ℕ
  pub runs : next_run text 0 ≡ run (tokens ++ record { lexeme = stop; byte = end_byte; direct = false } ∷ []) (length text)
  pub reads : ReadsTokens (operator standard) (numbered [] 0 tokens).tokens (record { lexeme = stop; byte = end_byte; direct = false }) max_priority t

abbrev pub ReadsBack : Type 0
ReadsBack = (t : Tree (List ℕ)) → IsGround t → ReadsText (written (operator standard) quotes max_priority t ++ codes " .") t
