-- The numbers of a list, each at its first place alone, one more at a time.
use Rattle.std.proofs.Common.{◌≡◌, ℕ, List, [], ◌∷◌, ◌++◌, Bool, true, false, refl, sym, ap, ◌∙◌, ◌||◌, if◌then◌else◌, nat_eq}
use Rattle.std.specs.List.{list_any}
use Rattle.std.proofs.lemmas.Bool.{eqb-true, false≢true}
use Rattle.indexmap.specs.IndexSet.{insert_key}
use Rattle.pl_terms.specs.Occurrence.{is_in, unless_seen, first_after}

-- what is in the list is kept, unless it was seen
kept_seen : (e s A B : Bool) → (e ≡ true → s ≡ true) → ((e || s) || A) ≡ ((e || s) || B) → (s || A) ≡ (s || (e || B))
kept_seen true true A B known h = refl
kept_seen true false A B known h = absurd (false≢true (known refl))
kept_seen false true A B known h = refl
kept_seen false false A B known h = h

kept_new : (e s A B : Bool) → ((e || s) || A) ≡ ((e || s) || B) → (s || (e || A)) ≡ (s || (e || B))
kept_new true true A B h = refl
kept_new true false A B h = refl
kept_new false true A B h = refl
kept_new false false A B h = h

kept_step : (n m : ℕ) (rest : List ℕ) (b s B : Bool) → (nat_eq n m ≡ true → s ≡ b) → ((nat_eq n m || s) || is_in n rest) ≡ ((nat_eq n m || s) || B)
    → (s || is_in n (unless_seen b m rest)) ≡ (s || (nat_eq n m || B))
kept_step n m rest true s B known h = kept_seen (nat_eq n m) s (is_in n rest) B known h
kept_step n m rest false s B known h = kept_new (nat_eq n m) s (is_in n rest) B h

is_in-first_after : (n : ℕ) (seen ns : List ℕ) → (is_in n seen || is_in n (first_after seen ns)) ≡ (is_in n seen || is_in n ns)
is_in-first_after n seen [] = refl
is_in-first_after n seen (m ∷ ns) =
    kept_step n m (first_after (m ∷ seen) ns) (is_in m seen) (is_in n seen) (is_in n ns) (λ e. ap (λ k. is_in k seen) (eqb-true n m e)) (is_in-first_after n (m ∷ seen) ns)

-- one more goes last, unless it was seen
more_step : (m n : ℕ) (rest : List ℕ) (b e s k : Bool)
    → unless_seen b m (if (e || s) || k then rest else rest ++ n ∷ []) ≡ (if s || (e || k) then unless_seen b m rest else unless_seen b m rest ++ n ∷ [])
more_step m n rest true true true k = refl
more_step m n rest true true false k = refl
more_step m n rest true false true k = refl
more_step m n rest true false false true = refl
more_step m n rest true false false false = refl
more_step m n rest false true true k = refl
more_step m n rest false true false k = refl
more_step m n rest false false true k = refl
more_step m n rest false false false true = refl
more_step m n rest false false false false = refl

more_alone : (b : Bool) (n : ℕ) → unless_seen b n [] ≡ (if b || false then [] else n ∷ [])
more_alone true n = refl
more_alone false n = refl

more : (seen ns : List ℕ) (n : ℕ) → first_after seen (ns ++ n ∷ []) ≡ (if is_in n seen || is_in n ns then first_after seen ns else first_after seen ns ++ n ∷ [])
more seen [] n = more_alone (is_in n seen) n
more seen (m ∷ ns) n =
    ap (unless_seen (is_in m seen) m) (more (m ∷ seen) ns n)
    ∙ more_step m n (first_after (m ∷ seen) ns) (is_in m seen) (nat_eq n m) (is_in n seen) (is_in n ns)

list_any-is_in : (n : ℕ) (ns : List ℕ) → list_any (nat_eq n) ns ≡ is_in n ns
list_any-is_in n [] = refl
list_any-is_in n (m ∷ ns) = ap (λ b. nat_eq n m || b) (list_any-is_in n ns)

-- a set of the numbers so far, with one more put in
pub insert_key-first_after : (ns : List ℕ) (n : ℕ) → insert_key nat_eq (first_after [] ns) n ≡ first_after [] (ns ++ n ∷ [])
insert_key-first_after ns n =
    ap (λ b. if b then first_after [] ns else first_after [] ns ++ n ∷ []) (list_any-is_in n (first_after [] ns) ∙ is_in-first_after n [] ns)
    ∙ sym (more [] ns n)
