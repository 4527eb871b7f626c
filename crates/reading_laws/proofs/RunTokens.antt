-- The tokens of a run in memory, as the tokens of a run of a text, and the terms that are read from them.
use Rattle.std.proofs.Common.{◌≡◌, ℕ, ◌<◌, List, [], ◌∷◌, ◌++◌, length, Bool, refl, sym, ap, ◌∙◌, subst, arith, length-append}
use Rattle.pl_terms.specs.Trees.{Tree, var, int, atom, comp, Trees, nil, cons}
use Rattle.pl_terms.specs.NameBounds.{NamesBelow, AllNamesBelow}
use Rattle.pl_ops.specs.Tables.{Operators}
use Rattle.text_model.specs.Tokens.{Token as ModelToken, stop}
use Rattle.text_model.specs.Grammar.{max_priority}
use Rattle.text_model.specs.Reading.{numbered, ReadsTokens}
use Rattle.pl_tokens.specs.declared.token.Token.{Token}
use Rattle.pl_tokens.specs.declared.token.TokenKind.TheVariants.{End}
use Rattle.pl_tokens.specs.Views.{token_view, tokens_view, kind_view}
use Rattle.pl_reader.specs.Runs.{IsRead, last_of, body_of}
use Rattle.pl_reader.specs.Reads.{ReadsRun as ReadsCode, first_byte as code_first_byte, IsWithin, AreWithin}
use Rattle.pl_reader.proofs.RunFacts.{has_end}
use Rattle.unit_model.specs.Directives.{Text}
use Rattle.unit_model.specs.Prepared.{ReadsRun, first_byte}

abbrev pub an_end : ℕ → Bool → ModelToken Text
an_end byte direct = record { lexeme = stop; byte = byte; direct = direct }

pub split_run : (ts : List Token) → 0 < length ts → (last_of ts).kind ≡ End → tokens_view ts ≡ body_of ts ++ an_end (last_of ts).byte (last_of ts).direct ∷ []
split_run [] some e = absurd (omega arith)
split_run (t ∷ []) some e = ap (λ k. record { lexeme = kind_view k; byte = t.byte; direct = t.direct } ∷ []) e
split_run (t ∷ u ∷ ts) some e = ap (λ (l : List (ModelToken Text)). token_view t ∷ l) (split_run (u ∷ ts) (omega arith) e)

-- two ways to take the last one off
one_way : (xs ys : List (ModelToken Text)) (x y : ModelToken Text) → xs ++ x ∷ [] ≡ ys ++ y ∷ [] → (xs ≡ ys) × (x ≡ y)
one_way [] [] x y e = let same : x ≡ y = cc in (refl, same)
one_way [] (z ∷ ys) x y e = absurd (omega (arith, ap length e, length-append ys (y ∷ [])))
one_way (z ∷ xs) [] x y e = absurd (omega (arith, ap length e, length-append xs (x ∷ [])))
one_way (z ∷ xs) (w ∷ ys) x y e =
    let head : z ≡ w = cc in
    let tail : xs ++ x ∷ [] ≡ ys ++ y ∷ [] = cc in
    let r = one_way xs ys x y tail in
    (ap (λ (t : ModelToken Text). t ∷ xs) head ∙ ap (λ (l : List (ModelToken Text)). w ∷ l) r.0, r.1)

pub from_code : (look : Operators) (ts : List Token) (t : Tree Text) → IsRead ts → ReadsCode look ts t → ReadsRun look (tokens_view ts) t
from_code look ts t is reads =
    let e = has_end ts is in
    record { before = body_of ts; end_byte = (last_of ts).byte; direct = (last_of ts).direct; split = split_run ts e.some e.ends; reads = reads }

pub to_code : (look : Operators) (ts : List Token) (t : Tree Text) → IsRead ts → ReadsRun look (tokens_view ts) t → ReadsCode look ts t
to_code look ts t is r =
    let e = has_end ts is in
    let w = one_way r.before (body_of ts) (an_end r.end_byte r.direct) (an_end (last_of ts).byte (last_of ts).direct) (sym r.split ∙ split_run ts e.some e.ends) in
    let P : List (ModelToken Text) → ℕ → Bool → Type 0 = λ l b d. ReadsTokens look (numbered [] 0 l).tokens (record { lexeme = stop; byte = b; direct = d }) max_priority t in
    let Q : List (ModelToken Text) → ModelToken Text → Type 0 = λ l x. P l x.byte x.direct in
    subst (Q (body_of ts)) w.1 (subst (λ l. Q l (an_end r.end_byte r.direct)) w.0 r.reads)

pub first-same : (ts : List Token) → code_first_byte ts ≡ first_byte (tokens_view ts)
first-same [] = refl
first-same (t ∷ ts) = refl

-- the names of a term that is read
mutual
  pub within-below : (n : ℕ) (t : Tree ℕ) → IsWithin n t → NamesBelow n t
  within-below n (var v) h = tt
  within-below n (int z) h = tt
  within-below n (atom s) h = h
  within-below n (comp s ts) h = (h.0, all_within-below n ts h.3)

  all_within-below : (n : ℕ) (ts : Trees ℕ) → AreWithin n ts → AllNamesBelow n ts
  all_within-below n nil h = tt
  all_within-below n (cons t ts) h = (within-below n t h.0, all_within-below n ts h.1)
