-- How far a run has been read, and what its tree is.
use Rattle.std.specs.Prelude.{◌≡◌, ℕ, ◌<◌, ◌≤◌, List, [], ◌∷◌, Option, Some, None, codes, slice_get}
use Rattle.std.specs.List.{AllByRecursion}
use Rattle.pl_terms.specs.Trees.{Tree, var, int, atom, comp, Trees, nil, cons, count}
use Rattle.pl_ops.specs.Tables.{Operators}
use Rattle.text_model.specs.Tokens.{Lexeme, name, quoted, variable, integer, text_codes, punctuation, stop, Token as ModelToken}
use Rattle.text_model.specs.Grammar.{Parse, Item, max_priority, max_arity}
use Rattle.text_model.specs.Reading.{items_of, at_operand, numbered, ReadsTokens, peek, peek_second}
use Rattle.pl_tokens.specs.declared.token.Token.{Token}
use Rattle.pl_reader.specs.Runs.{body_of, end_of}
use Rattle.pl_terms.specs.declared.cell.Cell.{Cell}
use Rattle.pl_reader.specs.Machine.{parsed}
use Rattle.pl_reader.specs.Standing.{Steps}
use Rattle.pl_reader.specs.Stands.{output}
use Rattle.pl_reader.specs.Moves.{place_of, TokenIs}
use Rattle.pl_reader.specs.Numbering.{Met, numbered_from}
use Rattle.pl_reader.specs.declared.machine.Entry.{Entry}
use Rattle.pl_reader.specs.declared.machine.Context.{Context}
use Rattle.pl_reader.specs.declared.machine.GrammarNames.{GrammarNames}
use Rattle.pl_reader.specs.declared.tokens_taken.ReadState.{ReadState}

-- what comes of items, where there are any
abbrev pub bound : Option (List Item) → (List Item → Option Parse) → Option Parse
bound None F = None
bound (Some is) F = F is

-- the whole run is what the tokens from here on make of what was read
pub record Goes (num : List ℕ → ℕ) (look : Operators) (following : ModelToken ℕ) (whole : Option Parse) (state : ReadState) (tokens : List (ModelToken ℕ)) (stack : List Entry) (contexts : List Context) (out : List Cell) : Type 0 where
  pub onward : List Item → Option Parse
  pub same : whole ≡ bound (items_of look following state.more (place_of state.to_operand) tokens) onward
  pub stands : Steps num onward state.last stack contexts out

-- what stands after a token: the next one and the one after it, or the end
pub record Follows (look : Operators) (next after_next : Token) (tokens : List (ModelToken (List ℕ))) (following : ModelToken ℕ) : Type 0 where
  pub first : (m : Met) → TokenIs next (peek look (numbered_from m tokens).tokens following)
  pub second : (m : Met) → TokenIs after_next (peek_second look (numbered_from m tokens).tokens following)

-- the numbers that a function gives are those of a table of names
pub record Agrees (num : List ℕ → ℕ) (names : List (List ℕ)) : Type 0 where
  pub at : (s : List ℕ) (k : ℕ) → slice_get names k ≡ Some s → num s ≡ k

-- a text of the table
abbrev pub IsNamed : List (List ℕ) → List ℕ → Type 0
IsNamed names s = (k : ℕ) × (slice_get names k ≡ Some s)

-- the name of a token is in the table, where it has one
abbrev pub IsKnown : List (List ℕ) → Lexeme (List ℕ) → Type 0
IsKnown names (name s) = IsNamed names s
IsKnown names (quoted s) = IsNamed names s
IsKnown names (variable s) = Unit {0}
IsKnown names (integer n) = Unit {0}
IsKnown names (text_codes s) = Unit {0}
IsKnown names (punctuation c) = Unit {0}
IsKnown names stop = Unit {0}

abbrev pub AreKnown : List (List ℕ) → List (ModelToken (List ℕ)) → Type 0
AreKnown names = AllByRecursion (λ t. IsKnown names t.lexeme)

-- the numbers of the names that the grammar itself gives to terms
pub record HasGrammar (names : List (List ℕ)) (g : GrammarNames) : Type 0 where
  pub comma_at : slice_get names g.comma.0 ≡ Some (codes ",")
  pub nil_at : slice_get names g.nil.0 ≡ Some (codes "[]")
  pub curly_at : slice_get names g.curly.0 ≡ Some (codes "{}")
  pub dot_at : slice_get names g.dot.0 ≡ Some (codes ".")

-- the tokens of a run before its end, with numbers for variables
abbrev pub run_tokens : List Token → List (ModelToken ℕ)
run_tokens run = (numbered [] 0 (body_of run)).tokens

-- what the whole run is written as, where it is a term
abbrev pub run_parse : Operators → List Token → Option Parse
run_parse look run = bound (items_of look (end_of run) 0 at_operand (run_tokens run)) parsed

-- what the code found of it: the cells of the term, each compound behind its arguments
abbrev pub Found : (List ℕ → ℕ) → Option Parse → List Cell → Type 0
Found num whole out = (e : Parse) × (whole ≡ Some e) × (out ≡ output num e)

-- the run reads as the tree
abbrev pub ReadsRun : Operators → List Token → Tree (List ℕ) → Type 0
ReadsRun look run = ReadsTokens look (run_tokens run) (end_of run) max_priority

-- the byte of the first token
abbrev pub first_byte : List Token → ℕ
first_byte [] = 0
first_byte (t ∷ ts) = t.byte

-- a term as terms are: names below a number, arities from 1 to 255
abbrev mutual
  pub IsWithin : ℕ → Tree ℕ → Type 0
  IsWithin n (var v) = Unit {0}
  IsWithin n (int z) = Unit {0}
  IsWithin n (atom s) = s < n
  IsWithin n (comp s ts) = (s < n) × (1 ≤ count ts) × (count ts ≤ max_arity) × AreWithin n ts

  pub AreWithin : ℕ → Trees ℕ → Type 0
  AreWithin n nil = Unit {0}
  AreWithin n (cons t ts) = IsWithin n t × AreWithin n ts
