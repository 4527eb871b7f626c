-- What a place in the table of built-in procedures says of a name and a number of arguments.
use Rattle.std.proofs.Common.{◌≡◌, ◌∙◌, ℕ, zero, suc, ◌+◌, ◌<◌, ◌≢◌, Bool, true, false, nat_eq, ◌&&◌, ◌||◌, List, [], ◌∷◌, length, get_or, Option, Some, None, is_some, codes, refl, sym, ap, subst, arith, position}
use Rattle.std.proofs.lemmas.Bool.{eqb-true, and_parts, false≢true, false_from_ne_true}
use Rattle.std.proofs.lemmas.List.Quantifiers.{position-Some}
use Rattle.pl_atoms.specs.Names.{same_text}
use Rattle.pl_atoms.specs.CaseTable.{Case, is_case, case_place}
use Rattle.pl_atoms.proofs.Texts.{same_text-is}
use Rattle.unit_model.specs.Builtins.{builtins}
use Rattle.builtin_model.specs.Rows.{row_of as builtin_row}
use Rattle.builtin_model.specs.declared.row.Row.{Row as Builtin}
use Rattle.goal_constructs.specs.Goals.{is_call}

abbrev pub no_case : Case
no_case = record { name = []; arity = 0; value = 0 }

abbrev pub case_at : ℕ → Case
case_at p = get_or builtins p no_case

-- the name and the number of arguments of the case at a place that is found
pub record Found (s : List ℕ) (k p : ℕ) : Type 0 where
  pub within : p < length builtins
  pub name : s ≡ (case_at p).name
  pub arity : k ≡ (case_at p).arity

pub found : (s : List ℕ) (k p : ℕ) → Some p ≡ case_place builtins s k → Found s k p
found s k p e =
    let h = position-Some (is_case s k) builtins p no_case (sym e) in
    let both = and_parts (same_text s (case_at p).name) (nat_eq k (case_at p).arity) h.1 in
    record {
      within = h.0;
      name = same_text-is s (case_at p).name both.0;
      arity = eqb-true k (case_at p).arity both.1;
    }

-- a name that has another place, or none, is another name
pub other-name : (s w : List ℕ) (k u : ℕ) (o : Option ℕ) → o ≡ case_place builtins s k → case_place builtins w k ≡ Some u → (o ≡ Some u → ⊥) → same_text s w ≡ false
other-name s w k u o e at apart = false_from_ne_true (same_text s w) (λ h. apart (e ∙ (ap (λ x. case_place builtins x k) (same_text-is s w h) ∙ at)))

-- ---- procedures that are no control constructs

abbrev pub any_is : ℕ → List ℕ → Bool
any_is p [] = false
any_is p (x ∷ xs) = nat_eq p x || any_is p xs

abbrev pub constructs : List ℕ
constructs = 0 ∷ 1 ∷ 2 ∷ 3 ∷ 4 ∷ 14 ∷ 19 ∷ 35 ∷ 41 ∷ 52 ∷ 54 ∷ 56 ∷ []

abbrev pub AllApart : ℕ → List ℕ → Type 0
AllApart p [] = Unit {0}
AllApart p (x ∷ xs) = (p ≡ x → ⊥) × AllApart p xs

any-apart : (p : ℕ) (xs : List ℕ) → AllApart p xs → any_is p xs ≡ false
any-apart p [] h = refl
any-apart p (x ∷ xs) h = ap (λ b. b || any_is p xs) (false_from_ne_true (nat_eq p x) (λ e. h.0 (eqb-true p x e))) ∙ any-apart p xs h.1

abbrev pub is_sorted_out : ℕ → Case → Bool
is_sorted_out i c = is_some (builtin_row i) || (any_is i constructs || is_call (same_text c.name (codes "call")) c.arity)

abbrev pub all_sorted_out : ℕ → List Case → Bool
all_sorted_out i [] = true
all_sorted_out i (c ∷ cs) = is_sorted_out i c && all_sorted_out (suc i) cs

builtins-sorted : all_sorted_out 0 builtins ≡ true
unfolding builtins
builtins-sorted = refl

sorted-at : (cs : List Case) (i p : ℕ) → p < length cs → all_sorted_out i cs ≡ true → is_sorted_out (p + i) (get_or cs p no_case) ≡ true
sorted-at [] i p h e = absurd (omega arith)
sorted-at (c ∷ cs) i zero h e =
    let n : i ≡ 0 + i = omega arith in
    subst (λ j. is_sorted_out j c ≡ true) n (and_parts (is_sorted_out i c) (all_sorted_out (suc i) cs) e).0
sorted-at (c ∷ cs) i (suc p) h e =
    let rest : is_sorted_out (p + suc i) (get_or cs p no_case) ≡ true = sorted-at cs (suc i) p (omega arith) (and_parts (is_sorted_out i c) (all_sorted_out (suc i) cs) e).1 in
    let n : p + suc i ≡ suc p + i = omega arith in
    subst (λ j. is_sorted_out j (get_or cs p no_case) ≡ true) n rest

or-left : (a b c : Bool) → (a || (b || c)) ≡ true → b ≡ false → c ≡ false → a ≡ true
or-left true b c h e f = refl
or-left false b c h e f = sym (ap (λ x. x || c) e ∙ f) ∙ h

some-of : (o : Option Builtin) → is_some o ≡ true → (b : Builtin) × (o ≡ Some b)
some-of (Some b) h = (b, refl)
some-of None h = absurd (false≢true h)

pub plain-found : (s : List ℕ) (k p : ℕ) → Found s k p → AllApart p constructs → is_call (same_text s (codes "call")) k ≡ false → (b : Builtin) × (builtin_row p ≡ Some b)
plain-found s k p f apart call =
    let zero-more : p + 0 ≡ p = omega arith in
    let out : is_sorted_out p (case_at p) ≡ true = subst (λ j. is_sorted_out j (case_at p) ≡ true) zero-more (sorted-at builtins 0 p f.within builtins-sorted) in
    let none : is_call (same_text (case_at p).name (codes "call")) (case_at p).arity ≡ false =
    ap (λ x. is_call (same_text x (codes "call")) (case_at p).arity) (sym f.name) ∙ (ap (λ x. is_call (same_text s (codes "call")) x) (sym f.arity) ∙ call) in
    some-of (builtin_row p) (or-left (is_some (builtin_row p)) (any_is p constructs) (is_call (same_text (case_at p).name (codes "call")) (case_at p).arity) out (any-apart p constructs apart) none)
