-- Runs of goals in instructions to which more are added.
use Rattle.std.proofs.Common.{◌≡◌, ℕ, zero, suc, ◌<◌, ◌≤◌, true, List, [], ◌∷◌, ◌++◌, length, Option, Some, None, refl, sym, ap, subst, ◌⊎◌, inl, inr, arith}
use Rattle.std.specs.Prelude.{slice_get}
use Rattle.pl_terms.specs.Trees.{Tree}
use Rattle.pl_unify.specs.declared.code.CodeWord.{CodeWord}
use Rattle.pl_unify.specs.Code.{code_tree}
use Rattle.goal_code.specs.declared.instruction.Instruction.{Instruction}
use Rattle.goal_code.specs.declared.instruction.Instruction.TheVariants.{Goal, Cut, Either, If, EndIf}
use Rattle.goal_code.specs.declared.shape.ControlNames.{ControlNames}
use Rattle.goal_code.specs.Shapes.{Shape, disjunction, if_then_else, if_then, cut, other, shape_of, conjuncts}
use Rattle.goal_code.specs.Runs.{instruction_at, is_goal, next_of, goal_of, IsRun, EndsIf, HasParts, Fits, IsSound}

get_more : {A : Type 0} (xs more : List A) (k : ℕ) (x : A) → slice_get xs k ≡ Some x → slice_get (xs ++ more) k ≡ Some x
get_more [] more zero x h = cc
get_more [] more (suc k) x h = cc
get_more (y ∷ xs) more zero x h = h
get_more (y ∷ xs) more (suc k) x h = get_more xs more k x h

get_last : {A : Type 0} (xs : List A) (x : A) → slice_get (xs ++ x ∷ []) (length xs) ≡ Some x
get_last [] x = refl
get_last (y ∷ xs) x = get_last xs x

get_within : {A : Type 0} (xs : List A) (k : ℕ) (x : A) → slice_get xs k ≡ Some x → k < length xs
get_within [] zero x h = cc
get_within [] (suc k) x h = cc
get_within (y ∷ xs) zero x h = omega arith
get_within (y ∷ xs) (suc k) x h = let l : k < length xs = get_within xs k x h in omega (arith, l)

-- what stands at a place stood there, or was put last
get_either : {A : Type 0} (xs : List A) (y : A) (k : ℕ) (x : A) → slice_get (xs ++ y ∷ []) k ≡ Some x → (slice_get xs k ≡ Some x) ⊎ ((k ≡ length xs) × (x ≡ y))
get_either [] y zero x h = inr (refl, cc)
get_either [] y (suc zero) x h = cc
get_either [] y (suc (suc k)) x h = cc
get_either (z ∷ xs) y zero x h = inl h
get_either (z ∷ xs) y (suc k) x h = go (get_either xs y k x h)
  where
    go : (slice_get xs k ≡ Some x) ⊎ ((k ≡ length xs) × (x ≡ y)) → (slice_get xs k ≡ Some x) ⊎ ((suc k ≡ suc (length xs)) × (x ≡ y))
    go (inl a) = inl a
    go (inr b) = inr (ap suc b.0, b.1)

pub at_more : (code more : List Instruction) (k : ℕ) (c : Instruction) → instruction_at code k ≡ Some c → instruction_at (code ++ more) k ≡ Some c
at_more code more zero c h = cc
at_more code more (suc k) c h = get_more code more k c h

pub at_within : (code : List Instruction) (k : ℕ) (c : Instruction) → instruction_at code k ≡ Some c → k ≤ length code
at_within code zero c h = cc
at_within code (suc k) c h = let l : k < length code = get_within code k c h in omega (arith, l)

pub at_last : (code : List Instruction) (c : Instruction) → instruction_at (code ++ c ∷ []) (suc (length code)) ≡ Some c
at_last code c = get_last code c

-- the instruction at a place stood there, or was put last
pub at_either : (code : List Instruction) (c : Instruction) (k : ℕ) (x : Instruction) → instruction_at (code ++ c ∷ []) k ≡ Some x → (instruction_at code k ≡ Some x) ⊎ (x ≡ c)
at_either code c zero x h = cc
at_either code c (suc k) x h = go (get_either code c k x h)
  where
    go : (slice_get code k ≡ Some x) ⊎ ((k ≡ length code) × (x ≡ c)) → (slice_get code k ≡ Some x) ⊎ (x ≡ c)
    go (inl a) = inl a
    go (inr b) = inr b.1

-- a run begins with an instruction
pub record Begins (ws : List CodeWord) (code : List Instruction) (stop pc : ℕ) (t : Tree ℕ) (ts : List (Tree ℕ)) : Type 0 where
  pub first : Instruction
  pub is : instruction_at code pc ≡ Some first
  pub goal : is_goal first ≡ true
  pub low : next_of first < pc
  pub tree : code_tree ws (goal_of first) ≡ t
  pub rest : IsRun ws code stop (next_of first) ts

module _ (ws : List CodeWord) where
  pub begins : (code : List Instruction) (stop pc : ℕ) (t : Tree ℕ) (ts : List (Tree ℕ)) → IsRun ws code stop pc (t ∷ ts) → Begins ws code stop pc t ts
  begins code stop pc t ts h = go (instruction_at code pc) refl h
    where
      go : (o : Option Instruction) → instruction_at code pc ≡ o
          → elim o as (λ _. Type 0) [ None ↦ ⊥ | Some c ↦ (is_goal c ≡ true) × (next_of c < pc) × (code_tree ws (goal_of c) ≡ t) × IsRun ws code stop (next_of c) ts ]
          → Begins ws code stop pc t ts
      go None p i = absurd i
      go (Some c) p i = record { first = c; is = p; goal = i.0; low = i.1; tree = i.2; rest = i.3 }

  pub run_of : (code : List Instruction) (stop pc : ℕ) (t : Tree ℕ) (ts : List (Tree ℕ)) → Begins ws code stop pc t ts → IsRun ws code stop pc (t ∷ ts)
  run_of code stop pc t ts b =
      subst (λ o. elim o as (λ _. Type 0) [ None ↦ ⊥ | Some c ↦ (is_goal c ≡ true) × (next_of c < pc) × (code_tree ws (goal_of c) ≡ t) × IsRun ws code stop (next_of c) ts ]) (sym b.is)
      (b.goal, b.low, b.tree, b.rest)

  pub run_more : (code more : List Instruction) (stop pc : ℕ) (ts : List (Tree ℕ)) → IsRun ws code stop pc ts → IsRun ws (code ++ more) stop pc ts
  run_more code more stop pc [] h = h
  run_more code more stop pc (t ∷ ts) h =
      let b : Begins ws code stop pc t ts = begins code stop pc t ts h in
      run_of (code ++ more) stop pc t ts (record { first = b.first; is = at_more code more pc b.first b.is; goal = b.goal; low = b.low; tree = b.tree; rest = run_more code more stop (next_of b.first) ts b.rest })

  module _ (s : ControlNames) where
    pub ends_more : (code more : List Instruction) (stop m : ℕ) (t : Tree ℕ) → EndsIf s ws code stop t (instruction_at code m) → EndsIf s ws (code ++ more) stop t (instruction_at (code ++ more) m)
    ends_more code more stop m t h = go (instruction_at code m) refl h
      where
        go : (o : Option Instruction) → instruction_at code m ≡ o → EndsIf s ws code stop t o → EndsIf s ws (code ++ more) stop t (instruction_at (code ++ more) m)
        go (Some (EndIf n)) p i = subst (EndsIf s ws (code ++ more) stop t) (sym (at_more code more m (EndIf n) p)) (run_more code more stop n (conjuncts s t) i)
        go o p i = absurd i

    parts_more : (code more : List Instruction) (c : Instruction) (x : Shape) → HasParts s ws code c x → HasParts s ws (code ++ more) c x
    parts_more code more (Goal g n) other h = tt
    parts_more code more (Cut g n) cut h = tt
    parts_more code more (Either g l r n) (disjunction x y) h = (run_more code more n l (conjuncts s x) h.0, run_more code more n r (conjuncts s y) h.1)
    parts_more code more (If g c m (Some o) n) (if_then_else x y z) h = (run_more code more m c (conjuncts s x) h.0, ends_more code more n m y h.1, run_more code more n o (conjuncts s z) h.2)
    parts_more code more (If g c m None n) (if_then x y) h = (run_more code more m c (conjuncts s x) h.0, ends_more code more n m y h.1)
    parts_more code more c x h = absurd h

    -- an instruction that is in order may be put last
    pub sound_more : (code : List Instruction) (c : Instruction) → IsSound s ws code → Fits s ws (code ++ c ∷ []) (suc (length code)) c → IsSound s ws (code ++ c ∷ [])
    sound_more code c sound fits zero x h = cc
    sound_more code c sound fits (suc k) x h = go (get_either code c k x h)
      where
        go : (slice_get code k ≡ Some x) ⊎ ((k ≡ length code) × (x ≡ c)) → Fits s ws (code ++ c ∷ []) (suc k) x
        go (inl a) =
            let f : Fits s ws code (suc k) x = sound (suc k) x a in
            (f.0, λ g. ((f.1 g).0, parts_more code (c ∷ []) x (shape_of s (code_tree ws (goal_of x))) (f.1 g).1))
        go (inr b) = subst (λ y. Fits s ws (code ++ c ∷ []) (suc k) y) (sym b.1) (subst (λ n. Fits s ws (code ++ c ∷ []) (suc n) c) (sym b.0) fits)
