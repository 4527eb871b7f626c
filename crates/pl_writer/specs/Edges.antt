-- The pieces of a written term, and the spaces between them, from what they depend on of the piece before.
use Rattle.std.specs.Prelude.{◌≡◌, ℕ, List, [], ◌∷◌, ◌++◌, length, take, codes, nat_eq, Bool, true, false, ◌&&◌, ◌||◌, if◌then◌else◌}
use Rattle.std.specs.Fmt.{decimal}
use Rattle.std.specs.List.{flat_map}
use Rattle.pl_terms.specs.Order.{text_of}
use Rattle.pl_ops.specs.Tables.{same_text}
use Rattle.text_model.specs.Tokens.{is_alnum, is_digit, is_symbol, head_of}
use Rattle.text_model.specs.Writing.{Piece, plain_piece, name_text, int_text, signed, escaped, is_bare, last_of, is_letters, is_sign_before}
use Rattle.text_model.specs.declared.Quote.{Quote}
use Rattle.text_model.specs.declared.Quote.TheVariants.{Plain as plain, Quoted as quotes}
use Rattle.text_model.specs.declared.Role.{Role}
use Rattle.pl_writer.specs.declared.edge.Part.{Part}
use Rattle.pl_writer.specs.declared.edge.Part.TheVariants.{Mark, Name, Sign, Variable, Integer}
use Rattle.pl_writer.specs.declared.edge.Edge.{Edge}

-- the second list begins with the first
pub record Begins (old new : List ℕ) : Type 0 where
  pub front : take (length old) new ≡ old

-- ---- names

abbrev pub quoted_text : List ℕ → List ℕ
quoted_text s = 39 ∷ (flat_map escaped s ++ 39 ∷ [])

abbrev pub needs_quotes : Quote → List ℕ → Bool
needs_quotes plain s = false
needs_quotes quotes s = if is_bare s then false else true

-- ---- pieces

abbrev pub named_piece : Quote → Role → List ℕ → Piece
named_piece q r s = record { text = name_text q s; role = r }

abbrev pub piece_of : List (List ℕ) → Quote → Part → Piece
piece_of names q (Mark c) = plain_piece (c ∷ [])
piece_of names q (Name s) = plain_piece (name_text q (text_of names s.0))
piece_of names q (Sign s r) = signed q r (text_of names s.0)
piece_of names q (Variable n) = plain_piece (codes "_G" ++ decimal n)
piece_of names q (Integer z) = plain_piece (int_text z)

-- ---- spaces

-- a space has to stand before a piece that begins with this byte, and is an opening bracket or an operator of letters or not
abbrev pub meets : Edge → ℕ → Bool → Bool → Bool
meets e first bracket letters =
    (is_alnum e.last && is_alnum first)
    || ((is_symbol e.last && is_symbol first)
    || ((e.letters || letters)
    || ((e.before && bracket)
    || ((e.before && (e.minus && is_digit first))
    || (nat_eq e.last 39 && nat_eq first 39)))))

abbrev pub gap_by : Edge → ℕ → Bool → Bool → List ℕ
gap_by e first bracket letters = if e.started && meets e first bracket letters then 32 ∷ [] else []

-- a piece after its space
abbrev pub gapped : Edge → Piece → List ℕ
gapped e r = gap_by e (head_of r.text) (same_text r.text (codes "(")) (is_letters r) ++ r.text

abbrev pub edge_of : Piece → Edge
edge_of p = record { started = true; last = last_of 256 p.text; letters = is_letters p; before = is_sign_before p; minus = same_text p.text (codes "-") }

abbrev pub spaced_by : Edge → List Piece → List ℕ
spaced_by e [] = []
spaced_by e (r ∷ rs) = gapped e r ++ spaced_by (edge_of r) rs

-- before the first piece
abbrev pub no_edge : Edge
no_edge = record { started = false; last = 256; letters = false; before = false; minus = false }
