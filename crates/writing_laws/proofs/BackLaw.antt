-- What is written under the standard table reads back.
use Rattle.std.proofs.Common.{◌≡◌, ℕ, suc, ◌+◌, List, [], ◌∷◌, ◌++◌, length, take, Bool, true, false, Some, refl, sym, ap, ◌∙◌, arith, subst, nat_lt, append_assoc, append-nil, length-append}
use Rattle.std.specs.Prelude.{codes, IsUtf8}
use Rattle.std.specs.Str.Lossy.{utf8_valid_len}
use Rattle.std.proofs.lemmas.Str.{utf8_valid_len-IsUtf8}
use Rattle.std.proofs.lemmas.Bool.{le-ltb}
use Rattle.pl_terms.specs.Trees.{Tree}
use Rattle.text_model.specs.Tokens.{Token, run, next_run, run_from, is_marked}
use Rattle.text_model.specs.Grammar.{max_priority, yield}
use Rattle.text_model.specs.Reading.{numbered, items_of, at_operand}
use Rattle.text_model.specs.Writing.{shown, Piece, spaced, spaced_after}
use Rattle.text_model.specs.declared.Quote.TheVariants.{Quoted as quotes}
use Rattle.text_model.specs.ReadBack.{ReadsText, ReadsBack}
use Rattle.writing_laws.proofs.Look.{look}
use Rattle.writing_laws.proofs.Spells.{Spell, word, in_quotes, number, negative_number, sign, square_pair, curly_pair, text_in, piece_in, pieces_in, tokens_in, tokens_after, tokens_from, at_byte, first_begins, Safe, AreSpells, gap, follows_directly}
use Rattle.writing_laws.proofs.NamesBack.{end_at, items}
use Rattle.writing_laws.proofs.Told.{Told}
use Rattle.writing_laws.proofs.Tells.{tells}
use Rattle.writing_laws.proofs.Runs.{Runs}
use Rattle.writing_laws.proofs.ChainBack.{lexes, chain, ends_of, after_text, end_tokens, tokens_in-more, utf8_all}

-- ---- numbers for variables, of which there are none

with_tokens : (u : Spell) (at : ℕ) (direct : Bool) (ts : List (Token (List ℕ))) (us : List (Token ℕ)) → (numbered [] 0 ts).tokens ≡ us → (numbered [] 0 (tokens_in u at direct ts)).tokens ≡ tokens_in u at direct us
with_tokens (word r s) at direct ts us h = ap (λ l. at_byte (Rattle.text_model.specs.Tokens.name s) at direct ∷ l) h
with_tokens (in_quotes r s) at direct ts us h = ap (λ l. at_byte (Rattle.text_model.specs.Tokens.quoted s) at direct ∷ l) h
with_tokens (number n) at direct ts us h = ap (λ l. at_byte (Rattle.text_model.specs.Tokens.integer n) at direct ∷ l) h
with_tokens (negative_number n) at direct ts us h = ap (λ l. at_byte (Rattle.text_model.specs.Tokens.name (45 ∷ [])) at direct ∷ at_byte (Rattle.text_model.specs.Tokens.integer (suc n)) (at + 1) true ∷ l) h
with_tokens (sign c) at direct ts us h = ap (λ l. at_byte (Rattle.text_model.specs.Tokens.punctuation c) at direct ∷ l) h
with_tokens square_pair at direct ts us h = ap (λ l. at_byte (Rattle.text_model.specs.Tokens.punctuation 91) at direct ∷ at_byte (Rattle.text_model.specs.Tokens.punctuation 93) (at + 1) true ∷ l) h
with_tokens curly_pair at direct ts us h = ap (λ l. at_byte (Rattle.text_model.specs.Tokens.punctuation 123) at direct ∷ at_byte (Rattle.text_model.specs.Tokens.punctuation 125) (at + 1) true ∷ l) h

numbered-after : (at : ℕ) (u : Spell) (vs : List Spell) → (numbered [] 0 (tokens_after {V = List ℕ} at u vs)).tokens ≡ tokens_after {V = ℕ} at u vs
numbered-after at u [] = refl
numbered-after at u (v ∷ vs) = with_tokens v (at + gap u v) (follows_directly u v) (tokens_after (at + gap u v + length (text_in v)) v vs) (tokens_after (at + gap u v + length (text_in v)) v vs) (numbered-after (at + gap u v + length (text_in v)) v vs)

numbered-from : (at : ℕ) (direct : Bool) (us : List Spell) → (numbered [] 0 (tokens_from {V = List ℕ} at direct us)).tokens ≡ tokens_from {V = ℕ} at direct us
numbered-from at direct [] = refl
numbered-from at direct (u ∷ us) = with_tokens u at direct (tokens_after (at + length (text_in u)) u us) (tokens_after (at + length (text_in u)) u us) (numbered-after (at + length (text_in u)) u us)

-- ---- the run

whole_run : (text : List ℕ) (ts : List (Token (List ℕ))) (n : ℕ) → IsUtf8 text → Runs text 0 false false ts n → next_run text 0 ≡ run ts n
whole_run text ts n utf8 h =
    let valid : take (utf8_valid_len text) text ≡ text = ap (λ k. take k text) (utf8_valid_len-IsUtf8 text utf8) ∙ take-all text in
    let unmarked : is_marked text ≡ false = ap (λ k. nat_lt k (length text)) (utf8_valid_len-IsUtf8 text utf8) ∙ le-ltb (length text) (length text) (omega arith) in
    ap (λ v. run_from (suc (length text)) (is_marked text) 0 false false v) valid
    ∙ ap (λ b. run_from (suc (length text)) b 0 false false text) unmarked
    ∙ h text (suc (length text)) refl (omega arith)
  where
    take-all : (xs : List ℕ) → take (length xs) xs ≡ xs
    take-all [] = refl
    take-all (x ∷ xs) = ap (λ l. x ∷ l) (take-all xs)

-- What was written, as spells.
record Spelled (u : Spell) (us : List Spell) (text : List ℕ) : Type 0 where
  long : ℕ
  size : length text ≡ long
  whole : length (text ++ codes " .") ≡ long + 2
  runs : Runs (text ++ codes " .") 0 false false (tokens_from 0 false (u ∷ us) ++ end_tokens long) (long + 2)
  utf8 : IsUtf8 (text ++ codes " .")

spelled : (u : Spell) (us : List Spell) → AreSpells (u ∷ us) → Safe u us → Spelled u us (spaced (pieces_in (u ∷ us)))
spelled u us h safe =
    let tail = spaced_after (piece_in u) (pieces_in us) in
    let text = text_in u ++ tail in
    let e = length text in
    let same : text ++ codes " ." ≡ text_in u ++ after_text u us = append_assoc (text_in u) tail (codes " .") in
    let total : 0 + length (text_in u) + length tail ≡ e = omega (arith, length-append (text_in u) tail) in
    record {
      long = e;
      size = refl;
      whole = length-append text (codes " .");
      runs =
          subst (λ x. Runs x 0 false false (tokens_from 0 false (u ∷ us) ++ end_tokens e) (e + 2)) (sym same)
          (subst (λ x. Runs (text_in u ++ after_text u us) 0 false false x (e + 2)) (sym (tokens_in-more u 0 false (tokens_after (0 + length (text_in u)) u us) (end_tokens e)))
          (lexes false u (after_text u us) 0 false false (tokens_after (0 + length (text_in u)) u us ++ end_tokens e) (e + 2) h.0 (ends_of u us h.0 h.1 safe)
          (λ m. chain us u (0 + length (text_in u)) e h.1 safe total m)));
      utf8 = subst IsUtf8 (sym same) (utf8_all u us h.0 h.1);
    }

reads_spelled : (t : Tree (List ℕ)) (ps : List Piece) (d : Told t max_priority false ps) (us : List Spell) → d.spells ≡ us → ReadsText (spaced ps ++ codes " .") t
reads_spelled t ps d [] e = absurd (let b = d.begins in let c : first_begins d.spells ≡ false = ap first_begins e in let f : true ≡ false = sym b ∙ c in cc)
reads_spelled t ps d (u ∷ us) e =
    let are : AreSpells (u ∷ us) = subst AreSpells e d.are in
    let safe : Safe (sign 40) ((u ∷ us) ++ []) = subst (λ x. Safe (sign 40) (x ++ [])) e (d.safe (sign 40) [] refl (λ q. tt)) in
    let safe2 : Safe u us = subst (Safe u) (append-nil us) safe.1 in
    let k = spelled u us are safe2 in
    let same : pieces_in (u ∷ us) ≡ ps = ap pieces_in (sym e) ∙ d.same in
    let end = k.long + 1 in
    let first : items end at_operand (tokens_from {V = ℕ} 0 false (d.spells ++ [])) ≡ Some (yield d.parse ++ []) = d.classes end [] [] refl (λ at direct. refl) 0 false in
    let second : items end at_operand (tokens_from {V = ℕ} 0 false (u ∷ us)) ≡ Some (yield d.parse) =
    ap (λ x. items end at_operand (tokens_from {V = ℕ} 0 false x)) (sym e ∙ sym (append-nil d.spells)) ∙ first ∙ ap Some (append-nil (yield d.parse)) in
    subst (λ x. ReadsText (spaced x ++ codes " .") t) same (record {
      tokens = tokens_from 0 false (u ∷ us);
      end_byte = end;
      runs = whole_run (spaced (pieces_in (u ∷ us)) ++ codes " .") (tokens_from 0 false (u ∷ us) ++ end_tokens k.long) (k.long + 2) k.utf8 k.runs ∙ ap (run (tokens_from 0 false (u ∷ us) ++ end_tokens k.long)) (sym k.whole);
      reads = record {
        items = yield d.parse;
        classified = ap (items_of look (end_at end) 0 at_operand) (numbered-from 0 false (u ∷ us)) ∙ second;
        reads = record { parse = d.parse; spelled = refl; within = d.fits; good = d.good; tree = d.means };
      };
    })

pub ReadsBack-holds : ReadsBack
ReadsBack-holds t h =
    let d = (tells t h).term max_priority false in
    reads_spelled t ((shown look quotes t).term max_priority false) d d.spells refl
