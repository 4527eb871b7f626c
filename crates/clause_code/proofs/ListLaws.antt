-- Targets that are put last, one after another.
use Rattle.std.proofs.Common.{◌≡◌, ℕ, zero, suc, ◌+◌, ◌<◌, ◌≤◌, List, [], ◌∷◌, ◌++◌, Option, Some, None, length, get_or, sym, ap, subst, ◌∙◌, inl, inr, arith}
use Rattle.std.specs.List.{slice_get}
use Rattle.std.proofs.lemmas.Bool.{cases_lt}
use Rattle.std.proofs.lemmas.List.{get_or_append_left, length_push}
use Rattle.std.proofs.lemmas.Option.{slice_get_within, slice_get-get_or}
use Rattle.std.proofs.Math.Seq.{get_or-append_seam}
use Rattle.goal_code.specs.declared.instruction.Instruction.{Instruction}
use Rattle.goal_code.specs.Runs.{instruction_at}
use Rattle.goal_constructs.specs.declared.constructs.Constructs.{Constructs}
use Rattle.pl_store.specs.Linked.{Row}
use Rattle.clause_code.specs.declared.codes.ClauseCode.{ClauseCode}
use Rattle.clause_code.specs.declared.target.Target.{Target}
use Rattle.clause_code.specs.declared.target.Target.TheVariants as T
use Rattle.clause_code.specs.Led.{Led}
use Rattle.clause_code.specs.Targets.{HasTarget, HaveTargets, target_in, led_at, no_targets}

none_zero : (code : List Instruction) (i : Instruction) → instruction_at code 0 ≡ Some i → ⊥
none_zero code i e = cc

some_same : (o : Option Instruction) (i j : Instruction) → o ≡ Some i → o ≡ Some j → i ≡ j
some_same o i j e f = let same : ◌≡◌ {A = Option Instruction} (Some i) (Some j) = sym e ∙ f in cc

none_past : (code : List Instruction) (n k : ℕ) (i : Instruction) → instruction_at code (n + 1) ≡ None → n ≤ k → instruction_at code (suc k) ≡ Some i → ⊥
none_past code n k i none le some =
    let lt : k < length code = slice_get_within code k i some in
    let there : slice_get code n ≡ Some (get_or code n i) = slice_get-get_or code n i (omega (arith, lt, le)) in
    let next : suc n ≡ n + 1 = omega arith in
    let apart : ◌≡◌ {A = Option Instruction} None (Some (get_or code n i)) = sym none ∙ (sym (ap (instruction_at code) next) ∙ there) in
    cc

pub place_within : (code : List Instruction) (n : ℕ) (i : Instruction) → instruction_at code (n + 1) ≡ Some i → n < length code
place_within code n i some =
    let next : suc n ≡ n + 1 = omega arith in
    slice_get_within code n i (ap (instruction_at code) next ∙ some)

module _ (c : Constructs) (rows : List Row) (m : ℕ) (code : ClauseCode) where
  -- the instructions up to a place have their targets
  abbrev pub HaveUpTo : ℕ → List Target → Type 0
  HaveUpTo n ts = (k : ℕ) (i : Instruction) → k ≤ n → instruction_at code.goals.code k ≡ Some i → HasTarget c rows m code.body.words i (target_in ts k)

  pub have_none : HaveUpTo 0 []
  have_none zero i le e = absurd (none_zero code.goals.code i e)
  have_none (suc k) i le e = absurd (omega (arith, le))

  pub have_more : (ts : List Target) (t : Target) (i : Instruction) → HaveUpTo (length ts) ts → instruction_at code.goals.code (length ts + 1) ≡ Some i → HasTarget c rows m code.body.words i t
      → HaveUpTo (length (ts ++ t ∷ [])) (ts ++ t ∷ [])
  have_more ts t i h e has zero j le is = absurd (none_zero code.goals.code j is)
  have_more ts t i h e has (suc k) j le is = elim (cases_lt k (length ts)) [
    | inl lt ↦ subst (HasTarget c rows m code.body.words j) (sym (get_or_append_left ts (t ∷ []) T.Construct k lt)) (h (suc k) j (omega (arith, lt)) is)
    | inr ge ↦
        let more : length (ts ++ t ∷ []) ≡ length ts + 1 = length_push ts t in
        let same : k ≡ length ts = omega (arith, more, le, ge) in
        let next : suc k ≡ length ts + 1 = omega (arith, same) in
        let ij : i ≡ j = some_same (instruction_at code.goals.code (suc k)) i j (ap (instruction_at code.goals.code) next ∙ e) is in
        let at : get_or (ts ++ t ∷ []) k T.Construct ≡ t = ap (λ x. get_or (ts ++ t ∷ []) x T.Construct) same ∙ get_or-append_seam ts t [] T.Construct in
        subst (λ x. HasTarget c rows m code.body.words x (target_in (ts ++ t ∷ []) (suc k))) ij (subst (HasTarget c rows m code.body.words i) (sym at) has)
  ]

  pub have_all : (ts : List Target) → HaveUpTo (length ts) ts → instruction_at code.goals.code (length ts + 1) ≡ None → HaveTargets c rows m code ts
  have_all ts h none zero i is = absurd (none_zero code.goals.code i is)
  have_all ts h none (suc k) i is = elim (cases_lt k (length ts)) [
    | inl lt ↦ h (suc k) i (omega (arith, lt)) is
    | inr ge ↦ absurd (none_past code.goals.code (length ts) k i none ge is)
  ]

-- one clause more
pub led_push : (P : ℕ → Led → Type 0) (ls : List Led) (x : Led) (n : ℕ) → length ls ≡ n → ((k : ℕ) → k < n → P k (led_at ls k)) → P n x → (k : ℕ) → k < n + 1 → P k (led_at (ls ++ x ∷ []) k)
led_push P ls x n count each last k lt = elim (cases_lt k n) [
  | inl less ↦ subst (P k) (sym (get_or_append_left ls (x ∷ []) no_targets k (omega (arith, less, count)))) (each k less)
  | inr ge ↦
      let same : n ≡ k = omega (arith, lt, ge) in
      let at : led_at (ls ++ x ∷ []) k ≡ x = ap (led_at (ls ++ x ∷ [])) (sym same ∙ sym count) ∙ get_or-append_seam ls x [] no_targets in
      subst (P k) (sym at) (subst (λ y. P y x) same last)
]
