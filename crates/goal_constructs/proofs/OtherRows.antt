-- What atoms, calls, and compounds of other numbers of arguments are.
use Rattle.std.proofs.Common.{◌≡◌, ◌∙◌, ℕ, suc, Bool, true, false, nat_lt, ◌&&◌, List, Option, Some, None, codes, refl, sym, ap, arith, if◌then◌else◌}
use Rattle.std.proofs.lemmas.Bool.{and_parts, false≢true}
use Rattle.pl_atoms.specs.Names.{same_text}
use Rattle.pl_atoms.specs.CaseTable.{case_place}
use Rattle.pl_atoms.proofs.Texts.{same_text-is}
use Rattle.pl_atoms.specs.declared.names.NameId.{NameId}
use Rattle.pl_terms.specs.Trees.{Tree, var, int, atom, comp, Trees, nil, cons, count}
use Rattle.pl_unify.specs.declared.word.View.TheVariants as V
use Rattle.pl_unify.specs.Shape.{root}
use Rattle.unit_model.specs.Builtins.{builtins}
use Rattle.builtin_model.specs.Naming.{Naming}
use Rattle.builtin_model.specs.Lists.{listed}
use Rattle.builtin_model.specs.Rows.{row_of as builtin_row}
use Rattle.builtin_model.specs.declared.row.Row.{Row as Builtin}
use Rattle.goal_model.specs.Bodies.{is_named}
use Rattle.goal_model.specs.Rows.{Row, commit, calling, repeat, plain, user, row_of, name_of}
use Rattle.goal_constructs.specs.Goals.{arguments_of, called_term, more_arguments, IsPlaceOf, IsNoCall, is_call}
use Rattle.goal_constructs.proofs.Places.{found, other-name}
use Rattle.goal_constructs.proofs.RowLaws.{comp-root, some-apart, none-apart, by-arity, by-count, other_by, plain-row, user-row, unary_by, binary_by, ternary_by}

call-false : (b : Bool) (k : ℕ) → is_call b (suc k) ≡ false → (b && nat_lt k 8) ≡ false
call-false true k h = grind arith
call-false false k h = refl

call-true : (b : Bool) (k : ℕ) → is_call b (suc k) ≡ true → nat_lt k 8 ≡ true
call-true true k h = grind arith
call-true false k h = absurd (false≢true h)

module _ (n : Naming ℕ) where
  -- ---- atoms

  atom_by : List ℕ → ℕ → Row ℕ
  atom_by s f =
      if same_text s (codes "!") then commit
      else if same_text s (codes "repeat") then repeat
      else other_by n (case_place builtins s 0) f nil

  atom-named : (t : Tree ℕ) (f : ℕ) (w : List ℕ) → t ≡ atom f → n.text f ≡ w → row_of n t ≡ atom_by w f
  unfolding row_of atom_by
  atom-named t f w h e = ap (row_of n) h ∙ ap (λ s. atom_by s f) e

  pub commit-row : (t : Tree ℕ) (f : ℕ) → t ≡ atom f → IsPlaceOf n f 0 (Some 0) → row_of n t ≡ commit
  unfolding atom_by builtins
  commit-row t f h e = atom-named t f (codes "!") h (found (n.text f) 0 0 e).name

  pub repeat-row : (t : Tree ℕ) (f : ℕ) → t ≡ atom f → IsPlaceOf n f 0 (Some 54) → row_of n t ≡ repeat
  unfolding atom_by builtins
  repeat-row t f h e = atom-named t f (codes "repeat") h (found (n.text f) 0 54 e).name

  atom-other : (t : Tree ℕ) (f : ℕ) (o : Option ℕ) → t ≡ atom f → IsPlaceOf n f 0 o → (o ≡ Some 0 → ⊥) → (o ≡ Some 54 → ⊥) → row_of n t ≡ other_by n o f (arguments_of t)
  unfolding atom_by builtins
  atom-other t f o h e a b =
      let s : List ℕ = n.text f in
      let last : Row ℕ = other_by n (case_place builtins s 0) f nil in
      let first : Row ℕ = if same_text s (codes "repeat") then repeat else last in
      atom-named t f s h refl
      ∙ (ap (λ v. if v then commit else first) (other-name s (codes "!") 0 0 o e refl a)
      ∙ (ap (λ v. if v then repeat else last) (other-name s (codes "repeat") 0 54 o e refl b)
      ∙ (ap (λ q. other_by n q f nil) (sym e) ∙ ap (λ u. other_by n o f (arguments_of u)) (sym h))))

  pub atom-user : (t : Tree ℕ) (f : ℕ) → t ≡ atom f → IsPlaceOf n f 0 None → row_of n t ≡ user (name_of n t) (arguments_of t)
  atom-user t f h e = atom-other t f None h e (none-apart 0) (none-apart 54) ∙ ap (λ x. user x (arguments_of t)) (sym (ap (name_of n) h))

  call-none : (b : Bool) → is_call b 0 ≡ false
  call-none true = refl
  call-none false = refl

  pub atom-plain : (t : Tree ℕ) (f p : ℕ) → t ≡ atom f → IsPlaceOf n f 0 (Some p) → (p ≡ 0 → ⊥) → (p ≡ 54 → ⊥)
      → (b : Builtin) × (builtin_row p ≡ Some b) × (row_of n t ≡ plain b (listed (arguments_of t)))
  unfolding builtins
  atom-plain t f p h e a b =
      let g = found (n.text f) 0 p e in
      let by = by-arity p in
      plain-row n t (record { 0 = f }) 0 p (atom-other t f (Some p) h e (some-apart p 0 a) (some-apart p 54 b)) g
      (a, (by 1 0 g.arity refl, (by 2 0 g.arity refl, (by 3 0 g.arity refl, (by 4 0 g.arity refl, (by 14 0 g.arity refl, (by 19 0 g.arity refl, (by 35 0 g.arity refl, (by 41 0 g.arity refl, (by 52 0 g.arity refl, (b, (by 56 0 g.arity refl, tt))))))))))))
      (call-none (is_named n f (codes "call")))

  -- ---- compounds of no argument, or of more than three

  wide : (f : ℕ) (ts : Trees ℕ) → (count ts ≡ 1 → ⊥) → (count ts ≡ 2 → ⊥) → (count ts ≡ 3 → ⊥) → IsNoCall n f (count ts) → row_of n (comp f ts) ≡ other_by n (case_place builtins (n.text f) (count ts)) f ts
  unfolding row_of
  wide f nil a b d call = refl
  wide f (cons x nil) a b d call = absurd (a refl)
  wide f (cons x (cons y nil)) a b d call = absurd (b refl)
  wide f (cons x (cons y (cons z nil))) a b d call = absurd (d refl)
  wide f (cons x (cons y (cons z (cons w us)))) a b d call =
      ap (λ v. if v then calling x (cons y (cons z (cons w us))) else other_by n (case_place builtins (n.text f) (suc (suc (suc (suc (count us)))))) f (cons x (cons y (cons z (cons w us)))))
      (call-false (is_named n f (codes "call")) (suc (suc (suc (count us)))) call)

  module _ (t : Tree ℕ) (f : NameId) (k : ℕ) (h : root t ≡ V.Comp f k) (one : k ≡ 1 → ⊥) (two : k ≡ 2 → ⊥) (three : k ≡ 3 → ⊥) (call : IsNoCall n f.0 k) where
    other-row : (o : Option ℕ) → IsPlaceOf n f.0 k o → row_of n t ≡ other_by n o f.0 (arguments_of t)
    other-row o e =
        let r = comp-root t f k h in
        let c : k ≡ count (arguments_of t) = sym r.1 in
        ap (row_of n) r.0
        ∙ (wide f.0 (arguments_of t) (λ x. one (c ∙ x)) (λ x. two (c ∙ x)) (λ x. three (c ∙ x)) (ap (is_call (is_named n f.0 (codes "call"))) r.1 ∙ call)
        ∙ ap (λ q. other_by n q f.0 (arguments_of t)) (ap (case_place builtins (n.text f.0)) r.1 ∙ sym e))

    pub other-user : IsPlaceOf n f.0 k None → row_of n t ≡ user (name_of n t) (arguments_of t)
    other-user e = user-row n t f k h (other-row None e)

    pub commit-user : IsPlaceOf n f.0 k (Some 0) → row_of n t ≡ user (name_of n t) (arguments_of t)
    commit-user e = user-row n t f k h (other-row (Some 0) e)

    pub repeat-user : IsPlaceOf n f.0 k (Some 54) → row_of n t ≡ user (name_of n t) (arguments_of t)
    repeat-user e = user-row n t f k h (other-row (Some 54) e)

    pub other-plain : (p : ℕ) → IsPlaceOf n f.0 k (Some p) → (p ≡ 0 → ⊥) → (p ≡ 54 → ⊥) → (b : Builtin) × (builtin_row p ≡ Some b) × (row_of n t ≡ plain b (listed (arguments_of t)))
    unfolding builtins
    other-plain p e a b =
        let g = found (n.text f.0) k p e in
        plain-row n t f k p (other-row (Some p) e) g
        (a, (by-count p 1 k 2 g.arity two refl, (by-count p 2 k 2 g.arity two refl, (by-count p 3 k 2 g.arity two refl, (by-count p 4 k 2 g.arity two refl, (by-count p 14 k 2 g.arity two refl, (by-count p 19 k 1 g.arity one refl, (by-count p 35 k 3 g.arity three refl, (by-count p 41 k 3 g.arity three refl, (by-count p 52 k 1 g.arity one refl, (b, (by-count p 56 k 1 g.arity one refl, tt))))))))))))
        call

  -- ---- calls

  called_by : (f : ℕ) (ts : Trees ℕ) → n.text f ≡ codes "call" → is_call true (count ts) ≡ true → row_of n (comp f ts) ≡ calling (called_term (comp f ts)) (more_arguments (comp f ts))
  unfolding row_of unary_by binary_by ternary_by
  called_by f nil e h = absurd (false≢true h)
  called_by f (cons x nil) e h = ap (λ s. unary_by n s f x) e
  called_by f (cons x (cons y nil)) e h = ap (λ s. binary_by n s f x y) e
  called_by f (cons x (cons y (cons z nil))) e h = ap (λ s. ternary_by n s f x y z) e
  called_by f (cons x (cons y (cons z (cons w us)))) e h =
      let ts : Trees ℕ = cons y (cons z (cons w us)) in
      ap (λ s. if same_text s (codes "call") && nat_lt (count ts) 8 then calling x ts else other_by n (case_place builtins s (suc (count ts))) f (cons x ts)) e
      ∙ ap (λ v. if v then calling x ts else other_by n (case_place builtins (codes "call") (suc (count ts))) f (cons x ts)) (call-true true (count ts) h)

  pub calling-row : (t : Tree ℕ) (f : NameId) (k : ℕ) → root t ≡ V.Comp f k → is_call (is_named n f.0 (codes "call")) k ≡ true → row_of n t ≡ calling (called_term t) (more_arguments t)
  calling-row t f k h e =
      let r = comp-root t f k h in
      let parts = and_parts (is_named n f.0 (codes "call")) (nat_lt 0 k && nat_lt k 9) e in
      let some : is_call true (count (arguments_of t)) ≡ true = ap (is_call true) r.1 ∙ parts.1 in
      ap (row_of n) r.0 ∙ (called_by f.0 (arguments_of t) (same_text-is (n.text f.0) (codes "call") parts.0) some
      ∙ (ap (λ u. calling (called_term u) (more_arguments u)) (sym r.0)))

  pub variable-row : (t : Tree ℕ) (v : ℕ) → root t ≡ V.Var v → row_of n t ≡ calling (called_term t) (more_arguments t)
  unfolding row_of
  variable-row (var w) v h = refl
  variable-row (int z) v h = cc
  variable-row (atom a) v h = cc
  variable-row (comp g ts) v h = cc

  pub integer-row : (t : Tree ℕ) (z : _) → root t ≡ V.Int z → row_of n t ≡ calling (called_term t) (more_arguments t)
  unfolding row_of
  integer-row (var w) z h = cc
  integer-row (int y) z h = refl
  integer-row (atom a) z h = cc
  integer-row (comp g ts) z h = cc
