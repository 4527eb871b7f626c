-- Terms without variables, of cells whose numbers are in their ranges.
use Rattle.std.proofs.Common.{◌≡◌, ℕ, zero, suc, ◌≤◌, ◌<◌, List, [], ◌∷◌, ◌++◌, get_or, All, refl, sym, ap, ◌∙◌, arith, subst, append_assoc, append-nil}
use Rattle.std.specs.Prelude.{IsUtf8}
use Rattle.std.proofs.lemmas.Str.{IsUtf8-nil}
use Rattle.pl_terms.specs.Trees.{Tree, var, int, atom, comp, Trees, nil, cons, count, renamed, all_renamed}
use Rattle.pl_terms.specs.Cells.{cells, all_cells, IsForest, IsTerm}
use Rattle.pl_terms.specs.Order.{text_of, texts_of}
use Rattle.pl_terms.specs.Occurrence.{occurrences, all_occurrences, variables, first_after}
use Rattle.pl_terms.specs.declared.cell.Cell.{Cell}
use Rattle.pl_terms.specs.declared.cell.Cell.TheVariants.{Var, Int, Name, Comp}
use Rattle.text_model.specs.ReadBack.{IsGround, AreGround}
use Rattle.writing_laws.specs.Ranges.{IsRanged}

-- cells in their ranges, of whole trees
abbrev AreRanged : List Cell → Type 0
AreRanged [] = Unit {0}
AreRanged (c ∷ cs) = IsRanged c × AreRanged cs

are_ranged : (cs : List Cell) → ((k : ℕ) (d : Cell) → k < Rattle.std.proofs.Common.length cs → IsRanged (get_or cs k d)) → AreRanged cs
are_ranged [] h = tt
are_ranged (c ∷ cs) h = (h 0 c (omega arith), are_ranged cs (λ k d lt. h (suc k) d (omega arith)))

record Fit (cs : List Cell) : Type 0 where
  ranged : AreRanged cs
  whole : IsForest cs

fit-rest : (c : Cell) (cs : List Cell) → Fit (c ∷ cs) → Fit cs
fit-rest (Var n) cs h = record { ranged = h.ranged.1; whole = h.whole }
fit-rest (Int z) cs h = record { ranged = h.ranged.1; whole = h.whole }
fit-rest (Name s) cs h = record { ranged = h.ranged.1; whole = h.whole }
fit-rest (Comp s k) cs h = record { ranged = h.ranged.1; whole = h.whole.2 }

fit-back : (xs ys : List Cell) → Fit (xs ++ ys) → Fit ys
fit-back [] ys h = h
fit-back (x ∷ xs) ys h = fit-back xs ys (fit-rest x (xs ++ ys) h)

count-renamed : (f : ℕ → List ℕ) (ts : Trees ℕ) → count (all_renamed f ts) ≡ count ts
count-renamed f nil = refl
count-renamed f (cons t ts) = ap suc (count-renamed f ts)

none_first : (xs ys : List ℕ) → xs ++ ys ≡ [] → xs ≡ []
none_first [] ys h = refl
none_first (x ∷ xs) ys h = absurd (cc)

none_second : (xs ys : List ℕ) → xs ++ ys ≡ [] → ys ≡ []
none_second [] ys h = h
none_second (x ∷ xs) ys h = absurd (cc)

mutual
  ground : (f : ℕ → List ℕ) → ((n : ℕ) → IsUtf8 (f n)) → (t : Tree ℕ) (cs : List Cell) → Fit (cells t ++ cs) → occurrences t ≡ [] → IsGround (renamed f t)
  ground f u (var n) cs h e = absurd (cc)
  ground f u (int z) cs h e = h.ranged.0
  ground f u (atom s) cs h e = u s
  ground f u (comp s ts) cs h e =
      let c = count-renamed f ts in
      let some : 0 < count ts = h.whole.0 in
      let most : count ts ≤ 255 = h.ranged.0 in
      (u s, omega arith, omega arith, all_ground f u ts cs (fit-rest (Comp (record { 0 = s }) (count ts)) (all_cells ts ++ cs) h) e)

  all_ground : (f : ℕ → List ℕ) → ((n : ℕ) → IsUtf8 (f n)) → (ts : Trees ℕ) (cs : List Cell) → Fit (all_cells ts ++ cs) → all_occurrences ts ≡ [] → AreGround (all_renamed f ts)
  all_ground f u nil cs h e = tt
  all_ground f u (cons t ts) cs h e =
      let k : Fit (cells t ++ (all_cells ts ++ cs)) = subst Fit (append_assoc (cells t) (all_cells ts) cs) h in
      (ground f u t (all_cells ts ++ cs) k (none_first (occurrences t) (all_occurrences ts) e), all_ground f u ts cs (fit-back (cells t) (all_cells ts ++ cs) k) (none_second (occurrences t) (all_occurrences ts) e))

no_occurrence : (ns : List ℕ) → first_after [] ns ≡ [] → ns ≡ []
no_occurrence [] h = refl
no_occurrence (n ∷ ns) h = absurd (cc)

text-utf8 : (names : List (List ℕ)) → ((k : ℕ) (d : List ℕ) → k < Rattle.std.proofs.Common.length names → IsUtf8 (get_or names k d)) → (n : ℕ) → IsUtf8 (text_of names n)
text-utf8 [] h n = IsUtf8-nil
text-utf8 (s ∷ ss) h zero = h 0 s (omega arith)
text-utf8 (s ∷ ss) h (suc n) = text-utf8 ss (λ k d lt. h (suc k) d (omega arith)) n

pub ground-term : (names : List (List ℕ)) (t : Tree ℕ) (cs : List Cell) → cs ≡ cells t → IsTerm cs → All IsRanged cs → All IsUtf8 names → variables t ≡ [] → IsGround (texts_of names t)
ground-term names t cs e w r u none =
    let same : cs ≡ cells t ++ [] = e ∙ sym (append-nil (cells t)) in
    ground (text_of names) (text-utf8 names u) t [] (record { ranged = subst AreRanged same (are_ranged cs r); whole = subst IsForest same w.whole }) (no_occurrence (occurrences t) none)
