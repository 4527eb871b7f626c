-- The names of built-in predicates that are no control constructs.
use Rattle.std.proofs.Common.{◌≡◌, ℕ, zero, suc, ◌+◌, Bool, true, false, ◌&&◌, ◌||◌, nat_eq, nat_lt, List, [], ◌∷◌, Option, Some, None, codes, refl, sym, ap, ◌∙◌, subst, arith, if◌then◌else◌}
use Rattle.std.specs.Prelude.{option_and_then, slice_get, slice_index_or}
use Rattle.std.proofs.lemmas.Bool.{eqb-true, and_parts}
use Rattle.pl_atoms.specs.Names.{AreDistinct}
use Rattle.pl_atoms.specs.CaseTable.{case_place}
use Rattle.pl_terms.specs.Trees.{Tree, var, int, atom, comp, Trees, nil, cons, count}
use Rattle.pl_terms.specs.Order.{text_of}
use Rattle.unit_model.specs.Builtins.{builtins}
use Rattle.builtin_model.specs.Naming.{Naming, by_numbers, number_in}
use Rattle.builtin_model.specs.Faults.{Fault}
use Rattle.builtin_model.specs.Rows.{rows, row_called, row_of as builtin_row}
use Rattle.builtin_model.specs.declared.row.Row.{Row as Builtin}
use Rattle.builtin_model.specs.declared.row.Row.TheVariants as R
use Rattle.builtin_model.specs.declared.row.TypeTest.TheVariants as T
use Rattle.builtin_model.specs.declared.row.OrderTest.TheVariants as O
use Rattle.builtin_model.specs.declared.row.Relation.TheVariants as V
use Rattle.builtin_model.specs.Deeds.{deed, raise}
use Rattle.text_model.specs.declared.Quote.TheVariants.{Plain, Quoted}
use Rattle.pl_builtin_ends.proofs.Known.{number-known}
use Rattle.pl_builtins.specs.Ends.{row_at}
use Rattle.goal_model.specs.Bodies.{is_named}
use Rattle.goal_model.specs.Rows.{Row, commit, if_then_else, if_then, either, negation, once, calling, in_module, from_context, repeat, throwing, catching, collecting, plain, row_of, name_of, arity_of, builtin_or_user, other_row, call_row, either_row}
use Rattle.goal_constructs.proofs.Places.{found}

-- ---- rows of the table

-- rows that never throw; these alone stand for two predicates
abbrev pub is_quiet : Builtin → Bool
is_quiet R.Unify = true
is_quiet R.Fail = true
is_quiet b = false

-- the place of a row in the table
abbrev place_of : Builtin → ℕ
place_of R.Unify = 6
place_of R.NotUnifiable = 20
place_of (R.Type T.Var) = 59
place_of (R.Type T.Nonvar) = 50
place_of (R.Type T.Atom) = 23
place_of (R.Type T.Integer) = 47
place_of (R.Type T.Number) = 51
place_of (R.Type T.Float) = 42
place_of (R.Type T.Atomic) = 24
place_of (R.Type T.Compound) = 37
place_of (R.Type T.Callable) = 33
place_of R.Ground = 44
place_of (R.Order O.Same) = 10
place_of (R.Order O.NotSame) = 21
place_of (R.Order O.Less) = 15
place_of (R.Order O.AtMost) = 16
place_of (R.Order O.Greater) = 17
place_of (R.Order O.AtLeast) = 18
place_of R.Compare = 36
place_of R.Functor = 43
place_of R.Arg = 22
place_of R.Univ = 7
place_of R.CopyTerm = 38
place_of R.TermVariables = 55
place_of R.Is = 48
place_of (R.Value V.Equal) = 8
place_of (R.Value V.NotEqual) = 11
place_of (R.Value V.Less) = 5
place_of (R.Value V.AtMost) = 9
place_of (R.Value V.Greater) = 12
place_of (R.Value V.AtLeast) = 13
place_of R.NewLine = 49
place_of R.PutChar = 53
place_of (R.Write Plain) = 60
place_of (R.Write Quoted) = 61
place_of R.CallingContext = 34
place_of R.True = 57
place_of R.Fail = 39
place_of R.Halt = 45
place_of R.HaltWith = 46

abbrev is_placed : ℕ → Option Builtin → Bool
is_placed i None = true
is_placed i (Some b) = is_quiet b || nat_eq i (place_of b)

abbrev all_placed : ℕ → List (Option Builtin) → Bool
all_placed i [] = true
all_placed i (o ∷ os) = is_placed i o && all_placed (suc i) os

rows-placed : all_placed 0 rows ≡ true
rows-placed = refl

placed-at : (os : List (Option Builtin)) (i p : ℕ) (b : Builtin) → all_placed i os ≡ true → slice_index_or os p None ≡ Some b → is_placed (p + i) (Some b) ≡ true
placed-at [] i p b h e = absurd (none p e)
  where
    none : (p : ℕ) → slice_index_or {A = Option Builtin} [] p None ≡ Some b → ⊥
    none zero e = cc
    none (suc p) e = cc
placed-at (o ∷ os) i zero b h e =
    let n : i ≡ 0 + i = omega arith in
    subst (λ j. is_placed j (Some b) ≡ true) n (subst (λ x. is_placed i x ≡ true) e (and_parts (is_placed i o) (all_placed (suc i) os) h).0)
placed-at (o ∷ os) i (suc p) b h e =
    let rest : is_placed (p + suc i) (Some b) ≡ true = placed-at os (suc i) p b (and_parts (is_placed i o) (all_placed (suc i) os) h).1 e in
    let n : p + suc i ≡ suc p + i = omega arith in
    subst (λ j. is_placed j (Some b) ≡ true) n rest

at-place : (p : ℕ) (b : Builtin) → builtin_row p ≡ Some b → is_quiet b ≡ false → p ≡ place_of b
at-place p b e loud =
    let h : is_placed (p + 0) (Some b) ≡ true = placed-at rows 0 p b rows-placed e in
    let n : p + 0 ≡ p = omega arith in
    eqb-true p (place_of b) (ap (λ q. q || nat_eq p (place_of b)) (sym loud) ∙ subst (λ j. is_placed j (Some b) ≡ true) n h)

-- what throws is not quiet
loud-raises : (n : Naming ℕ) (b : Builtin) (ts : List (Tree ℕ)) (caller next : ℕ) (f : Fault ℕ) → raise f ≡ deed n b ts caller next → is_quiet b ≡ false
loud-raises n R.Unify [] caller next f e = cc
loud-raises n R.Unify (t ∷ []) caller next f e = cc
loud-raises n R.Unify (t ∷ u ∷ []) caller next f e = cc
loud-raises n R.Unify (t ∷ u ∷ v ∷ ts) caller next f e = cc
loud-raises n R.Fail [] caller next f e = cc
loud-raises n R.Fail (t ∷ ts) caller next f e = cc
loud-raises n R.NotUnifiable ts caller next f e = refl
loud-raises n (R.Type test) ts caller next f e = refl
loud-raises n R.Ground ts caller next f e = refl
loud-raises n (R.Order test) ts caller next f e = refl
loud-raises n R.Compare ts caller next f e = refl
loud-raises n R.Functor ts caller next f e = refl
loud-raises n R.Arg ts caller next f e = refl
loud-raises n R.Univ ts caller next f e = refl
loud-raises n R.CopyTerm ts caller next f e = refl
loud-raises n R.TermVariables ts caller next f e = refl
loud-raises n R.Is ts caller next f e = refl
loud-raises n (R.Value test) ts caller next f e = refl
loud-raises n R.NewLine ts caller next f e = refl
loud-raises n R.PutChar ts caller next f e = refl
loud-raises n (R.Write q) ts caller next f e = refl
loud-raises n R.CallingContext ts caller next f e = refl
loud-raises n R.True ts caller next f e = refl
loud-raises n R.Halt ts caller next f e = refl
loud-raises n R.HaltWith ts caller next f e = refl

-- ---- goals of built-in predicates

module _ (n : Naming ℕ) (b : Builtin) (l : List (Tree ℕ)) where
  builtin-of : (o : Option Builtin) (f : ℕ) (ts : Trees ℕ) → builtin_or_user n o f ts ≡ plain b l → o ≡ Some b
  builtin-of (Some r) f ts e = let same : r ≡ b = cc in ap Some same
  builtin-of None f ts e = cc

  unless : (x : Bool) (p q : Row ℕ) → (p ≡ plain b l → ⊥) → (if x then p else q) ≡ plain b l → q ≡ plain b l
  unless true p q not e = absurd (not e)
  unless false p q not e = e

  call-called : (f : ℕ) (ts : Trees ℕ) → call_row n f ts ≡ plain b l → row_called (n.text f) (count ts) ≡ Some b
  call-called f nil e = builtin-of (row_called (n.text f) 0) f nil e
  call-called f (cons t us) e =
      builtin-of (row_called (n.text f) (count (cons t us))) f (cons t us)
      (unless (is_named n f (codes "call") && nat_lt (count us) 8) (calling t us) (other_row n f (cons t us)) (λ h. cc) e)

  pub either-not : (t u : Tree ℕ) → either_row n t u ≡ plain b l → ⊥
  either-not (var v) u e = cc
  either-not (int z) u e = cc
  either-not (atom a) u e = cc
  either-not (comp f nil) u e = cc
  either-not (comp f (cons c nil)) u e = cc
  either-not (comp f (cons c (cons t nil))) u e = by (is_named n f (codes "->")) e
    where
      by : (x : Bool) → (if x then if_then_else c t u else either (comp f (cons c (cons t nil))) u) ≡ plain b l → ⊥
      by true e = cc
      by false e = cc
  either-not (comp f (cons c (cons t (cons v ts)))) u e = cc

  -- the row of a goal is found under its name
  row-called : (t : Tree ℕ) → row_of n t ≡ plain b l → row_called (n.text (name_of n t)) (arity_of n t) ≡ Some b
  unfolding row_of
  row-called (var v) e = cc
  row-called (int z) e = cc
  row-called (atom s) e =
      builtin-of (row_called (n.text s) 0) s nil
      (unless (is_named n s (codes "repeat")) repeat (other_row n s nil) (λ h. cc)
      (unless (is_named n s (codes "!")) commit (if is_named n s (codes "repeat") then repeat else other_row n s nil) (λ h. cc) e))
  row-called (comp f nil) e = call-called f nil e
  row-called (comp f (cons t nil)) e =
      call-called f (cons t nil)
      (unless (is_named n f (codes "throw")) (throwing t) (call_row n f (cons t nil)) (λ h. cc)
      (unless (is_named n f (codes "once")) (once t) _ (λ h. cc)
      (unless (is_named n f (codes "\\+")) (negation t) _ (λ h. cc) e)))
  row-called (comp f (cons t (cons u nil))) e =
      call-called f (cons t (cons u nil))
      (unless (is_named n f (codes "@")) (from_context t u) (call_row n f (cons t (cons u nil))) (λ h. cc)
      (unless (is_named n f (codes ":")) (in_module t u) _ (λ h. cc)
      (unless (is_named n f (codes "->")) (if_then t u) _ (λ h. cc)
      (unless (is_named n f (codes ";")) (either_row n t u) _ (either-not t u) e))))
  row-called (comp f (cons t (cons u (cons v nil)))) e =
      call-called f (cons t (cons u (cons v nil)))
      (unless (is_named n f (codes "findall")) (collecting t u v) (call_row n f (cons t (cons u (cons v nil)))) (λ h. cc)
      (unless (is_named n f (codes "catch")) (catching t u v) _ (λ h. cc) e))
  row-called (comp f (cons t (cons u (cons v (cons w ts))))) e = call-called f (cons t (cons u (cons v (cons w ts)))) e

-- ---- their names' numbers

text_there : (names : List (List ℕ)) (f : ℕ) → (text_of names f ≡ [] → ⊥) → slice_get names f ≡ Some (text_of names f)
text_there [] zero some = absurd (some refl)
text_there [] (suc f) some = absurd (some refl)
text_there (x ∷ names) zero some = refl
text_there (x ∷ names) (suc f) some = text_there names f some

no-empty : (k : ℕ) → case_place builtins [] k ≡ None
unfolding builtins
no-empty k = refl

placed : (o : Option ℕ) (b : Builtin) → option_and_then builtin_row o ≡ Some b → (p : ℕ) × (o ≡ Some p) × (builtin_row p ≡ Some b)
placed None b e = cc
placed (Some p) b e = (p, refl, e)

-- the number of the name of a goal that throws is that of the row's name
pub row_name : (names : List (List ℕ)) → AreDistinct names → (t : Tree ℕ) (r : ℕ) (b : Builtin) (l : List (Tree ℕ)) (caller next : ℕ) (f : Fault ℕ)
    → builtin_row r ≡ Some b → row_of (by_numbers names) t ≡ plain b l → raise f ≡ deed (by_numbers names) b l caller next
    → (number_in names (row_at r).name ≡ name_of (by_numbers names) t) × ((row_at r).arity ≡ arity_of (by_numbers names) t)
row_name names distinct t r b l caller next f is row raises =
    let n : Naming ℕ = by_numbers names in
    let text : List ℕ = text_of names (name_of n t) in
    let at = placed (case_place builtins text (arity_of n t)) b (row-called n b l t row) in
    let loud : is_quiet b ≡ false = loud-raises n b l caller next f raises in
    let same : at.0 ≡ r = at-place at.0 b at.2 loud ∙ sym (at-place r b is loud) in
    let h = found text (arity_of n t) at.0 (sym at.1) in
    let some : text ≡ [] → ⊥ = λ e. let bad : Some at.0 ≡ None = sym at.1 ∙ ap (λ s. case_place builtins s (arity_of n t)) e ∙ no-empty (arity_of n t) in cc in
    let name : (row_at r).name ≡ text = ap (λ i. (row_at i).name) (sym same) ∙ sym h.name in (
      ap (number_in names) name ∙ number-known names distinct text (name_of n t) (text_there names (name_of n t) some),
      ap (λ i. (row_at i).arity) (sym same) ∙ sym h.arity,
    )
