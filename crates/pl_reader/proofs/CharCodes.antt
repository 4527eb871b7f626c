-- The characters of a text, byte by byte.
use Rattle.std.proofs.Common.{◌≡◌, ℕ, zero, suc, ◌+◌, ◌-◌, ◌*◌, ◌<◌, List, [], ◌∷◌, ◌++◌, length, refl, sym, ap, ◌∙◌, arith, append_assoc, append-nil, pos}
use Rattle.std.specs.Str.{chars, chars_after, continuation_len, lead_bits}
use Rattle.pl_terms.specs.declared.cell.Cell.{Cell}
use Rattle.pl_terms.specs.declared.cell.Cell.TheVariants.{Int}
use Rattle.pl_reader.specs.CodeTexts.{code_cells}

pub code_cells-append : (xs ys : List ℕ) → code_cells (xs ++ ys) ≡ code_cells xs ++ code_cells ys
code_cells-append [] ys = refl
code_cells-append (x ∷ xs) ys = ap (λ l. Int (pos x) ∷ l) (code_cells-append xs ys)

-- what has been read of a text, and what is left
pub record Decoding (start : List Cell) (text : List ℕ) (missing bits : ℕ) (rest : List ℕ) (out : List Cell) (count : ℕ) : Type 0 where
  pub cells : out ++ code_cells (chars_after missing bits rest) ≡ start ++ code_cells (chars text)
  pub counted : count + length (chars_after missing bits rest) ≡ length (chars text)

pub no_text : (out : List Cell) (text : List ℕ) → length text ≡ 0 → (out ≡ out ++ code_cells (chars text)) × (0 ≡ length (chars text))
unfolding chars
no_text out [] h = (sym (append-nil out), refl)
no_text out (b ∷ bs) h = absurd (omega arith)

pub decode_begins : (start : List Cell) (text rest : List ℕ) (b missing bits : ℕ) → text ≡ b ∷ rest → missing ≡ continuation_len b → bits ≡ lead_bits b → Decoding start text missing bits rest start 0
unfolding chars
decode_begins start text rest b missing bits e m c =
    let same : chars_after missing bits rest ≡ chars text = ap (λ n. chars_after n bits rest) m ∙ ap (λ n. chars_after (continuation_len b) n rest) c ∙ ap chars (sym e) in
    record { cells = ap (λ l. start ++ code_cells l) same; counted = omega (arith, ap length same) }

module _ (start : List Cell) (text : List ℕ) (bits b : ℕ) (rest : List ℕ) (out : List Cell) (count : ℕ) where
  pub decode_next : (missing missing2 bits2 : ℕ) (out2 : List Cell) (count2 : ℕ) → Decoding start text missing bits (b ∷ rest) out count → missing ≡ 0 → out2 ≡ out ++ code_cells (bits ∷ []) → count2 ≡ count + 1 → missing2 ≡ continuation_len b → bits2 ≡ lead_bits b → Decoding start text missing2 bits2 rest out2 count2
  decode_next missing missing2 bits2 out2 count2 d z o n m c =
      let same : chars_after missing bits (b ∷ rest) ≡ bits ∷ chars_after missing2 bits2 rest = ap (λ k. chars_after k bits (b ∷ rest)) z ∙ ap (λ k. bits ∷ chars_after k (lead_bits b) rest) (sym m) ∙ ap (λ k. bits ∷ chars_after missing2 k rest) (sym c) in
      record {
        cells = ap (λ l. l ++ code_cells (chars_after missing2 bits2 rest)) o ∙ append_assoc out (code_cells (bits ∷ [])) (code_cells (chars_after missing2 bits2 rest)) ∙ ap (λ l. out ++ code_cells l) (sym same) ∙ d.cells;
        counted = omega (arith, ap length same, d.counted);
      }

  pub decode_more : (missing missing2 bits2 : ℕ) → Decoding start text missing bits (b ∷ rest) out count → missing2 + 1 ≡ missing → bits2 ≡ bits * 64 + (b - 128) → Decoding start text missing2 bits2 rest out count
  decode_more missing missing2 bits2 d m c =
      let k : missing ≡ suc missing2 = omega arith in
      let same : chars_after missing bits (b ∷ rest) ≡ chars_after missing2 bits2 rest = ap (λ n. chars_after n bits (b ∷ rest)) k ∙ ap (λ n. chars_after missing2 n rest) (sym c) in
      record { cells = ap (λ l. out ++ code_cells l) (sym same) ∙ d.cells; counted = omega (arith, ap length same, d.counted) }

module _ (start : List Cell) (text : List ℕ) (bits : ℕ) (rest : List ℕ) (out : List Cell) (count : ℕ) where
  pub decode_ends : (missing : ℕ) (out2 : List Cell) (count2 : ℕ) → length rest ≡ 0 → Decoding start text missing bits rest out count → missing ≡ 0 → out2 ≡ out ++ code_cells (bits ∷ []) → count2 ≡ count + 1 → (out2 ≡ start ++ code_cells (chars text)) × (count2 ≡ length (chars text))
  decode_ends missing out2 count2 none d z o n = go rest none d
    where
      go : (rest : List ℕ) → length rest ≡ 0 → Decoding start text missing bits rest out count → (out2 ≡ start ++ code_cells (chars text)) × (count2 ≡ length (chars text))
      go [] h d =
          let same : chars_after missing bits [] ≡ bits ∷ [] = ap (λ k. chars_after k bits []) z in
          (o ∙ ap (λ l. out ++ code_cells l) (sym same) ∙ d.cells, omega (arith, ap length same, d.counted))
      go (x ∷ xs) h d = absurd (omega arith)

  pub decode_cut : (missing : ℕ) → length rest ≡ 0 → Decoding start text missing bits rest out count → 0 < missing → (out ≡ start ++ code_cells (chars text)) × (count ≡ length (chars text))
  decode_cut missing none d some = go missing rest none some d
    where
      go : (m : ℕ) (rest : List ℕ) → length rest ≡ 0 → 0 < m → Decoding start text m bits rest out count → (out ≡ start ++ code_cells (chars text)) × (count ≡ length (chars text))
      go zero rest h k d = absurd (omega arith)
      go (suc m) [] h k d = (sym (append-nil out) ∙ d.cells, omega (arith, d.counted))
      go (suc m) (x ∷ xs) h k d = absurd (omega arith)
