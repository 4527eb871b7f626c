-- What a run reads as is a term as units have them.
use Rattle.std.proofs.Common.{◌≡◌, ℕ, zero, suc, ◌*◌, ◌<◌, ◌≤◌, ◌^◌, List, [], ◌∷◌, ◌++◌, length, Some, sym, ap, ◌∙◌, subst, arith, length-append}
use Rattle.std.specs.List.{AllByRecursion}
use Rattle.std.specs.Str.{IsAscii}
use Rattle.std.proofs.lemmas.Str.{IsUtf8-from_ascii}
use Rattle.pl_terms.specs.Trees.{Tree}
use Rattle.pl_terms.specs.Occurrence.{first_after, from_to, variables}
use Rattle.pl_ops.specs.Tables.{Operators}
use Rattle.text_model.specs.Tokens.{Lexeme, name, quoted, variable, integer, text_codes, punctuation, stop, Token, valid_of}
use Rattle.text_model.specs.Grammar.{max_priority}
use Rattle.text_model.specs.Reading.{items_of, at_operand, Numbered, ReadsTokens}
use Rattle.unit_model.specs.Validity.{IsName}
use Rattle.unit_model.specs.Entries.{IsSoundTerm}
use Rattle.pl_tokens.specs.Facts.{IsLexeme}
use Rattle.pl_reader.specs.Numbering.{Met, lexeme_at, met_after, numbered_from}
use Rattle.pl_reader.proofs.TokenSteps.{numbered-step}
use Rattle.pl_reader.proofs.Fine.{Fine, FineItems, FineLexeme, FineTokens, FineGrammar, FineSome, fine_items, fine_meaning}
use Rattle.reading_laws.specs.Places.{ReadingIsSound}
use Rattle.reading_laws.proofs.Sizes.{name_length}
use Rattle.reading_laws.proofs.Numbers.{numbers, items_numbers, numbers-meaning, variables_in, occurrences-are, IntegersFit, fits}
use Rattle.reading_laws.proofs.Moves.{FitsLexeme, TokensFit, tokens_variables, KeepsItems, keep_items}
use Rattle.reading_laws.proofs.Variables.{IsCounted, counted, length-from_to, none_seen}
use Rattle.reading_laws.proofs.Runs.{IsKept, kept, valid_le}

-- a lexeme whose name is one of a unit
abbrev IsNamed : Lexeme (List ℕ) → Type 0
IsNamed (name s) = IsName s
IsNamed (quoted s) = IsName s
IsNamed (variable s) = Unit {0}
IsNamed (integer n) = Unit {0}
IsNamed (text_codes s) = Unit {0}
IsNamed (punctuation c) = Unit {0}
IsNamed stop = Unit {0}

named : (l : Lexeme (List ℕ)) → IsLexeme l → name_length l < 2 ^ 32 → IsNamed l
named (name s) h k = (h, k)
named (quoted s) h k = (h, k)
named (variable s) h k = tt
named (integer n) h k = tt
named (text_codes s) h k = tt
named (punctuation c) h k = tt
named stop h k = tt

fine : (m : Met) (l : Lexeme (List ℕ)) → IsNamed l → FineLexeme IsName (lexeme_at m l)
fine m (name s) h = h
fine m (quoted s) h = h
fine m (variable s) h = tt
fine m (integer n) h = tt
fine m (text_codes s) h = tt
fine m (punctuation c) h = tt
fine m stop h = tt

within : (m : Met) (l : Lexeme (List ℕ)) → IsLexeme l → FitsLexeme (lexeme_at m l)
within m (name s) h = tt
within m (quoted s) h = tt
within m (variable s) h = tt
within m (integer n) h = h
within m (text_codes s) h = h
within m (punctuation c) h = tt
within m stop h = tt

-- the tokens of a run, each a lexeme with a name
abbrev AreNamed : List (Token (List ℕ)) → Type 0
AreNamed = AllByRecursion (λ t. IsLexeme t.lexeme × IsNamed t.lexeme)

are_named : (limit : ℕ) (ts : List (Token (List ℕ))) → limit < 2 ^ 32 → AllByRecursion (λ t. name_length t.lexeme ≤ limit) ts → AllByRecursion (λ t. IsLexeme t.lexeme) ts → AreNamed ts
are_named limit [] h k l = tt
are_named limit (t ∷ ts) h k l = ((l.0, named t.lexeme l.0 (omega (arith, k.0))), are_named limit ts h k.1 l.1)

in_front : (ts us : List (Token (List ℕ))) → AreNamed (ts ++ us) → AreNamed ts
in_front [] us h = tt
in_front (t ∷ ts) us h = (h.0, in_front ts us h.1)

fine_tokens : (m : Met) (ts : List (Token (List ℕ))) → AreNamed ts → FineTokens IsName (numbered_from m ts).tokens
fine_tokens m [] h = tt
fine_tokens m (t ∷ ts) h =
    let P : Numbered → Type 0 = λ r. FineTokens IsName r.tokens in
    subst P (sym (numbered-step m t ts)) (fine m t.lexeme h.0.1, fine_tokens (met_after m t.lexeme) ts h.1)

tokens_fit : (m : Met) (ts : List (Token (List ℕ))) → AreNamed ts → TokensFit (numbered_from m ts).tokens
tokens_fit m [] h = tt
tokens_fit m (t ∷ ts) h =
    let P : Numbered → Type 0 = λ r. TokensFit r.tokens in
    subst P (sym (numbered-step m t ts)) (within m t.lexeme h.0.0, tokens_fit (met_after m t.lexeme) ts h.1)

-- the names that the grammar itself gives
one_sign : (c : ℕ) → c < 128 → IsName (c ∷ [])
one_sign c h = (IsUtf8-from_ascii (c ∷ []) ascii, omega arith)
  where
    ascii : IsAscii (c ∷ [])
    ascii zero = h
    ascii (suc i) = omega arith

two_signs : (c d : ℕ) → c < 128 → d < 128 → IsName (c ∷ d ∷ [])
two_signs c d h k = (IsUtf8-from_ascii (c ∷ d ∷ []) ascii, omega arith)
  where
    ascii : IsAscii (c ∷ d ∷ [])
    ascii zero = h
    ascii (suc zero) = k
    ascii (suc (suc i)) = omega arith

own : FineGrammar IsName
own = record {
  comma_fine = one_sign 44 (omega arith);
  nil_fine = two_signs 91 93 (omega arith) (omega arith);
  curly_fine = two_signs 123 125 (omega arith) (omega arith);
  dot_fine = one_sign 46 (omega arith);
}

abbrev none_met : Met
none_met = record { names = []; next = 0 }

below : (a b : ℕ) (vs : List ℕ) → a ≤ b → AllByRecursion (λ n. n < a) vs → AllByRecursion (λ n. n < b) vs
below a b [] h k = tt
below a b (v ∷ vs) h k = (omega (arith, k.0), below a b vs h k.1)

module _ (look : Operators) (before : List (Token (List ℕ))) (following : Token ℕ) (t : Tree (List ℕ)) (few : length before < 2 ^ 32) (h : AreNamed before)
    (last : FitsLexeme following.lexeme) (r : ReadsTokens look (numbered_from none_met before).tokens following max_priority t) where
  abbrev numbered_tokens : List (Token ℕ)
  numbered_tokens = (numbered_from none_met before).tokens

  fine_tree : Fine IsName t
  fine_tree =
      let some : FineSome IsName own look (items_of look following 0 at_operand numbered_tokens) = fine_items IsName own look following numbered_tokens (fine_tokens none_met before h) 0 at_operand in
      let items : FineItems IsName r.items = subst (FineSome IsName own look) r.classified some in
      subst (Fine IsName) r.reads.tree (fine_meaning IsName own r.reads.parse r.reads.good (subst (FineItems IsName) (sym r.reads.spelled) items))

  items_kept : KeepsItems look following (tokens_variables numbered_tokens) (Some r.items)
  items_kept =
      subst (KeepsItems look following (tokens_variables numbered_tokens)) r.classified (keep_items look following last numbered_tokens (tokens_fit none_met before h) 0 at_operand tt)

  numbers-are : numbers t ≡ items_numbers r.items
  numbers-are = sym (ap numbers r.reads.tree) ∙ numbers-meaning r.reads.parse ∙ ap items_numbers r.reads.spelled

  variables-are : variables_in (numbers t) ≡ tokens_variables numbered_tokens
  variables-are = ap variables_in numbers-are ∙ items_kept.0

  sound : IsSoundTerm t
  sound =
      let c : IsCounted (length before) [] 0 (tokens_variables numbered_tokens) = counted (length before) before none_met [] tt none_seen (omega arith) in
      let seen : variables t ≡ from_to 0 c.count = ap (first_after []) (occurrences-are t ∙ variables-are) ∙ c.numbers in
      let count : length (variables t) ≡ c.count = ap length seen ∙ length-from_to 0 c.count in
      record {
        fits = fits t fine_tree (subst IntegersFit (sym numbers-are) items_kept.1) (subst (AllByRecursion (λ n. n < 2 ^ 32)) (sym variables-are) (below (length before) (2 ^ 32) (tokens_variables numbered_tokens) (omega arith) c.below));
        numbered = seen ∙ ap (from_to 0) (sym count);
        few = omega (arith, count, c.enough);
      }

pub ReadingIsSound-holds : ReadingIsSound
ReadingIsSound-holds text k next tokens look t small place e r =
    let g : IsKept (valid_of text) k tokens next = kept text k next tokens e in
    let last : Token (List ℕ) = record { lexeme = stop; byte = r.end_byte; direct = r.direct } in
    let limit : 4 * length (valid_of text) < 2 ^ 32 = omega (arith, valid_le text) in
    let all : AreNamed tokens = are_named (4 * length (valid_of text)) tokens limit g.short (g.lexemes place.begins).1 in
    let few : length r.before < 2 ^ 32 = omega (arith, ap length r.split, length-append r.before (last ∷ []), g.count, g.within, valid_le text) in
    sound look r.before (record { lexeme = stop; byte = r.end_byte; direct = r.direct }) t few (in_front r.before (last ∷ []) (subst AreNamed r.split all)) tt r.reads
