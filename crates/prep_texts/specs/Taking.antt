-- How the run of a term leads from one state to another.
use Rattle.std.specs.Prelude.{◌≡◌, ℕ, List, length, Some, None, Ok, Err, ◌⊎◌}
use Rattle.pl_terms.specs.Trees.{Tree}
use Rattle.pl_ops.specs.Tables.{operator}
use Rattle.text_model.specs.Tokens.{Token}
use Rattle.unit_model.specs.Directives.{Text}
use Rattle.unit_model.specs.Preparing.{Interface, State, table_in, facts_of, step}
use Rattle.unit_model.specs.Prepared.{ReadsRun, first_byte, Prepared, FirstFault}
use Rattle.prep_texts.specs.Seen.{seen, next_seen}
use Rattle.prep_texts.specs.Drafts.{state_of}
use Rattle.prep_texts.specs.declared.draft.Draft.{Draft}
use Rattle.prep_texts.specs.declared.draft.OpenSection.{OpenSection}

-- the tokens read as a term, which leads to a state like the second
pub record TakesRun (tokens : List (Token Text)) (old new : State) : Type 0 where
  pub term : Tree Text
  pub reads : ReadsRun (operator (table_in old)) tokens term
  pub leads : next_seen (step term (first_byte tokens) old) ≡ Ok (seen new)

-- the tokens read as no term
pub record IsNoTerm (tokens : List (Token Text)) (old : State) (n byte : ℕ) : Type 0 where
  pub number : n ≡ 5
  pub none : (t : Tree Text) → ReadsRun (operator (table_in old)) tokens t → ⊥
  pub first : byte ≡ first_byte tokens

-- the tokens read as a term that has a fault
pub record IsWrongTerm (tokens : List (Token Text)) (old : State) (n byte : ℕ) : Type 0 where
  pub term : Tree Text
  pub reads : ReadsRun (operator (table_in old)) tokens term
  pub wrong : next_seen (step term (first_byte tokens) old) ≡ Err n
  pub first : byte ≡ first_byte tokens

abbrev pub FailsRun : List (Token Text) → State → ℕ → ℕ → Type 0
FailsRun tokens old n byte = IsNoTerm tokens old n byte ⊎ IsWrongTerm tokens old n byte

-- the text's terms end with this draft
pub record EndsWith (known : List Interface) (text : List ℕ) (d : Draft) : Type 0 where
  pub prepared : d.section ≡ None → Prepared known text (facts_of (state_of known d))
  pub left_open : (o : OpenSection) → d.section ≡ Some o → FirstFault known text 7 (length text)
