-- The list of the variables' names with their numbers.
use Rattle.std.proofs.Common.{◌≡◌, ℕ, zero, suc, ◌+◌, ◌<◌, List, [], ◌∷◌, ◌++◌, length, get_or, map, take, refl, sym, ap, ◌∙◌, arith}
use Rattle.std.proofs.lemmas.List.{take_more, map-append}
use Rattle.std.proofs.Math.Seq.{take-length}
use Rattle.pl_terms.specs.declared.read_term.VarName.{VarName}
use Rattle.pl_reader.specs.Numbering.{paired}

abbrev pub named : List VarName → List (List ℕ × ℕ)
named = map (λ v. (v.name, v.number))

length-paired : (texts : List (List ℕ)) (numbers : List ℕ) → length texts ≡ length numbers → length (paired texts numbers) ≡ length numbers
length-paired [] [] e = refl
length-paired [] (n ∷ ns) e = absurd (omega arith)
length-paired (t ∷ ts) [] e = absurd (omega arith)
length-paired (t ∷ ts) (n ∷ ns) e = ap suc (length-paired ts ns (omega arith))

paired-at : (texts : List (List ℕ)) (numbers : List ℕ) (i d : ℕ) → length texts ≡ length numbers → i < length numbers → get_or (paired texts numbers) i ([], d) ≡ (get_or texts i [], get_or numbers i d)
paired-at [] [] i d e h = absurd (omega arith)
paired-at [] (n ∷ ns) i d e h = absurd (omega arith)
paired-at (t ∷ ts) [] i d e h = absurd (omega arith)
paired-at (t ∷ ts) (n ∷ ns) zero d e h = refl
paired-at (t ∷ ts) (n ∷ ns) (suc i) d e h = paired-at ts ns i d (omega arith) (omega arith)

module _ (texts : List (List ℕ)) (numbers : List ℕ) (same : length texts ≡ length numbers) where
  pub named_more : (names new : List VarName) (v : VarName) (i : ℕ) → named names ≡ take i (paired texts numbers) → i < length numbers → new ≡ names ++ v ∷ [] → v.name ≡ get_or texts i [] → v.number ≡ get_or numbers i 0 → named new ≡ take (i + 1) (paired texts numbers)
  named_more names new v i h l e n m =
      let here : (v.name, v.number) ≡ get_or (paired texts numbers) i ([], 0) = ap (λ s. (s, v.number)) n ∙ ap (λ k. (get_or texts i [], k)) m ∙ sym (paired-at texts numbers i 0 same l) in
      let within : i < length (paired texts numbers) = omega (arith, length-paired texts numbers same) in
      ap named e ∙ map-append (λ v. (v.name, v.number)) names (v ∷ []) ∙ ap (λ l. l ++ (v.name, v.number) ∷ []) h ∙ ap (λ x. take i (paired texts numbers) ++ x ∷ []) here ∙ sym (take_more (paired texts numbers) i ([], 0) within)

  pub named_all : (names : List VarName) (i : ℕ) → named names ≡ take i (paired texts numbers) → i ≡ length numbers → named names ≡ paired texts numbers
  named_all names i h e = h ∙ ap (λ n. take n (paired texts numbers)) (e ∙ sym (length-paired texts numbers same)) ∙ take-length (paired texts numbers)
