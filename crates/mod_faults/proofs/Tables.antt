-- One table for the names of all units, unit by unit.
use Rattle.std.proofs.Common.{◌≡◌, ℕ, zero, suc, ◌+◌, ◌<◌, ◌≤◌, List, [], ◌∷◌, ◌++◌, length, map, take, get_or, slice_index, refl, sym, ap, subst, ◌∙◌, arith, length-append}
use Rattle.std.proofs.lemmas.List.{take_all, length-map, map-append, get_or-map}
use Rattle.std.proofs.lemmas.Option.{get_or_from_slice_get, slice_get_within}
use Rattle.pl_atoms.specs.Names.{IsFront, Remaps}
use Rattle.pl_atoms.proofs.Numbers.{Remaps-front, slice_get-Remaps, length-Remaps}
use Rattle.unit_model.specs.Directives.{Text}
use Rattle.unit_model.specs.Encoding.{text_at}
use Rattle.unit_format.specs.declared.unit.Unit.{Unit as ReadUnit}
use Rattle.mod_faults.specs.Tables.{AreTaken}
use Rattle.mod_faults.proofs.Units.{more_taken}

abbrev pub tables : List ReadUnit → List (List Text)
tables = map (λ u. u.names)

pub taken_none : (names : List Text) → AreTaken [] names []
taken_none names = record { count = refl; each = λ k lt. absurd (omega arith) }

get_or-left : {A : Type 0} (xs ys : List A) (k : ℕ) (d : A) → k < length xs → get_or (xs ++ ys) k d ≡ get_or xs k d
get_or-left [] ys k d lt = absurd (omega arith)
get_or-left (x ∷ xs) ys zero d lt = refl
get_or-left (x ∷ xs) ys (suc k) d lt = get_or-left xs ys k d (omega arith)

get_or-last : {A : Type 0} (xs : List A) (x d : A) → get_or (xs ++ x ∷ []) (length xs) d ≡ x
get_or-last [] x d = refl
get_or-last (y ∷ xs) x d = get_or-last xs x d

taken_more : (froms : List (List Text)) (from old new : List Text) (numbers : List (List ℕ)) (ns : List ℕ) → AreTaken froms old numbers → IsFront old new → Remaps from new ns → AreTaken (froms ++ from ∷ []) new (numbers ++ ns ∷ [])
taken_more froms from old new numbers ns h front here = record {
  count = omega (arith, length-append froms (from ∷ []), length-append numbers (ns ∷ []), h.count);
  each = λ k lt. at k (omega (arith, length-append froms (from ∷ [])));
}
  where
    earlier : (k : ℕ) → k < length froms → Remaps (get_or (froms ++ from ∷ []) k []) new (get_or (numbers ++ ns ∷ []) k [])
    earlier k lt =
        subst (λ f. Remaps f new (get_or (numbers ++ ns ∷ []) k [])) (sym (get_or-left froms (from ∷ []) k [] lt))
        (subst (λ n. Remaps (get_or froms k []) new n) (sym (get_or-left numbers (ns ∷ []) k [] (omega (arith, h.count))))
        (Remaps-front (get_or froms k []) old new (get_or numbers k []) front (h.each k lt)))

    last : (k : ℕ) → k ≡ length froms → Remaps (get_or (froms ++ from ∷ []) k []) new (get_or (numbers ++ ns ∷ []) k [])
    last k e =
        let there : k ≡ length numbers = omega (arith, h.count) in
        subst (λ f. Remaps f new (get_or (numbers ++ ns ∷ []) k [])) (sym (ap (λ i. get_or (froms ++ from ∷ []) i []) e ∙ get_or-last froms from []))
        (subst (λ n. Remaps from new n) (sym (ap (λ i. get_or (numbers ++ ns ∷ []) i []) there ∙ get_or-last numbers ns [])) here)

    at : (k : ℕ) → k < length froms + 1 → Remaps (get_or (froms ++ from ∷ []) k []) new (get_or (numbers ++ ns ∷ []) k [])
    at k lt = elim (Rattle.std.proofs.Common.nat_lt k (length froms)) as (λ b. Rattle.std.proofs.Common.nat_lt k (length froms) ≡ b → Remaps (get_or (froms ++ from ∷ []) k []) new (get_or (numbers ++ ns ∷ []) k [])) [
      | Rattle.std.proofs.Common.true ↦ λ e. earlier k (Rattle.std.proofs.Common.ltb-true k (length froms) e)
      | Rattle.std.proofs.Common.false ↦ λ e. let h' : length froms ≤ k = Rattle.std.proofs.Common.ltb-false k (length froms) e in last k (omega arith)
    ] refl

pub taken_unit : (units : List ReadUnit) (k : ℕ) (u : ReadUnit) (old new : List Text) (numbers numbers' : List (List ℕ)) (ns : List ℕ) → k < length units → u ≡ get_or units k u → AreTaken (tables (take k units)) old numbers → IsFront old new → Remaps u.names new ns
    → numbers' ≡ numbers ++ ns ∷ [] → AreTaken (tables (take (k + 1) units)) new numbers'
taken_unit units k u old new numbers numbers' ns lt is h front here step =
    subst (λ l. AreTaken (tables l) new numbers') (sym (more_taken units k u lt is))
    (subst (λ l. AreTaken l new numbers') (sym (map-append (λ (v : ReadUnit). v.names) (take k units) (u ∷ [])))
    (subst (AreTaken (tables (take k units) ++ u.names ∷ []) new) (sym step) (taken_more (tables (take k units)) u.names old new numbers ns h front here)))

pub taken_units : (units : List ReadUnit) (k : ℕ) (names : List Text) (numbers : List (List ℕ)) → length units ≤ k → AreTaken (tables (take k units)) names numbers → AreTaken (tables units) names numbers
taken_units units k names numbers le h = subst (λ l. AreTaken (tables l) names numbers) (take_all k units le) h

-- one of them
pub taken_at : (units : List ReadUnit) (k : ℕ) (u : ReadUnit) (names : List Text) (numbers : List (List ℕ)) (ns : List ℕ) → k < length units → u ≡ get_or units k u → ns ≡ get_or numbers k ns → AreTaken (tables units) names numbers → Remaps u.names names ns
taken_at units k u names numbers ns lt is number h =
    let within : k < length (tables units) = omega (arith, length-map units (λ (v : ReadUnit). v.names)) in
    let table : get_or (tables units) k [] ≡ u.names = get_or-map (λ (v : ReadUnit). v.names) units k u [] lt ∙ ap (λ v. v.names) (sym is) in
    let there : get_or numbers k [] ≡ ns = any_default numbers k [] ns (omega (arith, h.count)) ∙ sym number in
    subst (λ f. Remaps f names ns) table (subst (λ n. Remaps (get_or (tables units) k []) names n) there (h.each k within))
  where
    any_default : (xs : List (List ℕ)) (k : ℕ) (d e : List ℕ) → k < length xs → get_or xs k d ≡ get_or xs k e
    any_default [] k d e lt = absurd (omega arith)
    any_default (x ∷ xs) zero d e lt = refl
    any_default (x ∷ xs) (suc k) d e lt = any_default xs k d e (omega arith)

-- what a number taken into the table stands for
module _ (from into : List Text) (numbers : List ℕ) (e : Remaps from into numbers) (n : ℕ) (lt : n < length numbers) where
  pub text_there : text_at into (slice_index numbers n) ≡ text_at from n
  text_there = get_or_from_slice_get into (get_or numbers n 0) (get_or from n []) [] (slice_get-Remaps from into numbers e n (omega (arith, length-Remaps from into numbers e)))

  pub number_there : slice_index numbers n < length into
  number_there = slice_get_within into (get_or numbers n 0) (get_or from n []) (slice_get-Remaps from into numbers e n (omega (arith, length-Remaps from into numbers e)))
