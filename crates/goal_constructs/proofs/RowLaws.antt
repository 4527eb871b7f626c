-- What a goal is, by the place of its name in the table of built-in procedures.
use Rattle.std.proofs.Common.{◌≡◌, ◌∙◌, ℕ, zero, suc, ◌≢◌, true, false, nat_eq, nat_lt, ◌&&◌, List, Option, Some, None, codes, refl, sym, ap, arith, eq-eqb, if◌then◌else◌}
use Rattle.std.specs.Prelude.{option_and_then}
use Rattle.std.proofs.lemmas.Bool.{false≢true}
use Rattle.pl_atoms.specs.Names.{same_text}
use Rattle.pl_atoms.specs.CaseTable.{case_place}
use Rattle.pl_atoms.specs.declared.names.NameId.{NameId}
use Rattle.pl_terms.specs.Trees.{Tree, var, int, atom, comp, Trees, nil, cons, count}
use Rattle.pl_unify.specs.declared.word.View.TheVariants as V
use Rattle.pl_unify.specs.Shape.{root, arity, argument}
use Rattle.unit_model.specs.Builtins.{builtins}
use Rattle.builtin_model.specs.Naming.{Naming}
use Rattle.builtin_model.specs.Lists.{listed}
use Rattle.builtin_model.specs.Rows.{row_of as builtin_row}
use Rattle.builtin_model.specs.declared.row.Row.{Row as Builtin}
use Rattle.goal_model.specs.Rows.{Row, if_then, negation, once, calling, in_module, from_context, throwing, catching, collecting, plain, user, row_of, name_of, either_row, builtin_or_user}
use Rattle.goal_constructs.specs.Goals.{arguments_of, IsPlaceOf, IsNoCall}
use Rattle.goal_code.proofs.Shaping.{binary_root}
use Rattle.goal_constructs.proofs.Places.{found, Found, other-name, plain-found, AllApart, constructs, case_at}

-- ---- the shapes of trees

pub atom-root : (t : Tree ℕ) (f : NameId) → root t ≡ V.Name f → t ≡ atom f.0
atom-root (var v) f h = cc
atom-root (int z) f h = cc
atom-root (atom a) f h = let e : a ≡ f.0 = cc in ap atom e
atom-root (comp g ts) f h = cc

pub comp-root : (t : Tree ℕ) (f : NameId) (k : ℕ) → root t ≡ V.Comp f k → (t ≡ comp f.0 (arguments_of t)) × (count (arguments_of t) ≡ k)
comp-root (var v) f k h = cc
comp-root (int z) f k h = cc
comp-root (atom a) f k h = cc
comp-root (comp g ts) f k h = let e : g ≡ f.0 = cc in let c : count ts ≡ k = cc in (ap (λ x. comp x ts) e, c)

pub unary-shape : (t : Tree ℕ) (f : NameId) → root t ≡ V.Comp f 1 → t ≡ comp f.0 (cons (argument t 0) nil)
unary-shape (var v) f h = cc
unary-shape (int z) f h = cc
unary-shape (atom a) f h = cc
unary-shape (comp g nil) f h = let e : zero ≡ 1 = cc in absurd (omega (arith, e))
unary-shape (comp g (cons a nil)) f h = let e : g ≡ f.0 = cc in ap (λ x. comp x (cons a nil)) e
unary-shape (comp g (cons a (cons b ts))) f h = let e : suc (suc (count ts)) ≡ 1 = cc in absurd (omega (arith, e))

pub ternary-shape : (t : Tree ℕ) (f : NameId) → root t ≡ V.Comp f 3 → t ≡ comp f.0 (cons (argument t 0) (cons (argument t 1) (cons (argument t 2) nil)))
ternary-shape (var v) f h = cc
ternary-shape (int z) f h = cc
ternary-shape (atom a) f h = cc
ternary-shape (comp g nil) f h = let e : zero ≡ 3 = cc in absurd (omega (arith, e))
ternary-shape (comp g (cons a nil)) f h = let e : suc zero ≡ 3 = cc in absurd (omega (arith, e))
ternary-shape (comp g (cons a (cons b nil))) f h = let e : suc (suc zero) ≡ 3 = cc in absurd (omega (arith, e))
ternary-shape (comp g (cons a (cons b (cons c nil)))) f h = let e : g ≡ f.0 = cc in ap (λ x. comp x (cons a (cons b (cons c nil)))) e
ternary-shape (comp g (cons a (cons b (cons c (cons d ts))))) f h = let e : suc (suc (suc (suc (count ts)))) ≡ 3 = cc in absurd (omega (arith, e))

-- ---- places that are apart

pub some-apart : (p u : ℕ) → (p ≡ u → ⊥) → Some p ≡ Some u → ⊥
some-apart p u ne e = let same : p ≡ u = cc in ne same

abbrev pub no_place : Option ℕ
no_place = None

pub none-apart : (u : ℕ) → no_place ≡ Some u → ⊥
none-apart u e = cc

pub by-arity : (p x k : ℕ) → k ≡ (case_at p).arity → nat_eq k (case_at x).arity ≡ false → p ≡ x → ⊥
by-arity p x k a ne e = false≢true (sym ne ∙ eq-eqb k (case_at x).arity (a ∙ ap (λ i. (case_at i).arity) e))

pub by-count : (p x k m : ℕ) → k ≡ (case_at p).arity → (k ≡ m → ⊥) → (case_at x).arity ≡ m → p ≡ x → ⊥
by-count p x k m a ne is e = ne (a ∙ (ap (λ i. (case_at i).arity) e ∙ is))

-- ---- rows by the text of a name

module _ (n : Naming ℕ) where
  abbrev pub other_by : Option ℕ → ℕ → Trees ℕ → Row ℕ
  other_by o f ts = builtin_or_user n (option_and_then builtin_row o) f ts

  -- a row of a procedure that is no control construct, or of the user's
  pub plain-row : (t : Tree ℕ) (f : NameId) (k p : ℕ) → row_of n t ≡ other_by (Some p) f.0 (arguments_of t) → Found (n.text f.0) k p → AllApart p constructs → IsNoCall n f.0 k
      → (b : Builtin) × (builtin_row p ≡ Some b) × (row_of n t ≡ plain b (listed (arguments_of t)))
  plain-row t f k p e h apart call =
      let b = plain-found (n.text f.0) k p h apart call in
      (b.0, b.1, e ∙ ap (λ o. builtin_or_user n o f.0 (arguments_of t)) b.1)

  pub user-row : (t : Tree ℕ) (f : NameId) (k : ℕ) → root t ≡ V.Comp f k → row_of n t ≡ user f.0 (arguments_of t) → row_of n t ≡ user (name_of n t) (arguments_of t)
  user-row t f k h e = e ∙ ap (λ x. user x (arguments_of t)) (sym (ap (name_of n) (comp-root t f k h).0))

  -- ---- one argument

  unfoldable pub unary_by : List ℕ → ℕ → Tree ℕ → Row ℕ
  unary_by s f t =
      if same_text s (codes "\\+") then negation t
      else if same_text s (codes "once") then once t
      else if same_text s (codes "throw") then throwing t
      else if same_text s (codes "call") && nat_lt 0 8 then calling t nil
      else other_by (case_place builtins s 1) f (cons t nil)

  unary-named : (t : Tree ℕ) (f : NameId) (w : List ℕ) → root t ≡ V.Comp f 1 → n.text f.0 ≡ w → row_of n t ≡ unary_by w f.0 (argument t 0)
  unfolding row_of unary_by
  unary-named t f w h e = ap (row_of n) (unary-shape t f h) ∙ ap (λ s. unary_by s f.0 (argument t 0)) e

  unary-found : (t : Tree ℕ) (f : NameId) (p : ℕ) (w : List ℕ) → root t ≡ V.Comp f 1 → IsPlaceOf n f.0 1 (Some p) → (case_at p).name ≡ w → row_of n t ≡ unary_by w f.0 (argument t 0)
  unary-found t f p w h e is = unary-named t f w h ((found (n.text f.0) 1 p e).name ∙ is)

  pub negation-row : (t : Tree ℕ) (f : NameId) → root t ≡ V.Comp f 1 → IsPlaceOf n f.0 1 (Some 19) → row_of n t ≡ negation (argument t 0)
  unfolding unary_by builtins
  negation-row t f h e = unary-found t f 19 (codes "\\+") h e refl

  pub once-row : (t : Tree ℕ) (f : NameId) → root t ≡ V.Comp f 1 → IsPlaceOf n f.0 1 (Some 52) → row_of n t ≡ once (argument t 0)
  unfolding unary_by builtins
  once-row t f h e = unary-found t f 52 (codes "once") h e refl

  pub throwing-row : (t : Tree ℕ) (f : NameId) → root t ≡ V.Comp f 1 → IsPlaceOf n f.0 1 (Some 56) → row_of n t ≡ throwing (argument t 0)
  unfolding unary_by builtins
  throwing-row t f h e = unary-found t f 56 (codes "throw") h e refl

  unary-other : (t : Tree ℕ) (f : NameId) (o : Option ℕ) → root t ≡ V.Comp f 1 → IsPlaceOf n f.0 1 o → IsNoCall n f.0 1 → (o ≡ Some 19 → ⊥) → (o ≡ Some 52 → ⊥) → (o ≡ Some 56 → ⊥)
      → row_of n t ≡ other_by o f.0 (arguments_of t)
  unfolding unary_by builtins
  unary-other t f o h e call a b d =
      let s : List ℕ = n.text f.0 in
      let x : Tree ℕ = argument t 0 in
      let last : Row ℕ = other_by (case_place builtins s 1) f.0 (cons x nil) in
      let third : Row ℕ = if same_text s (codes "call") && nat_lt 0 8 then calling x nil else last in
      let second : Row ℕ = if same_text s (codes "throw") then throwing x else third in
      let first : Row ℕ = if same_text s (codes "once") then once x else second in
      unary-named t f s h refl
      ∙ (ap (λ v. if v then negation x else first) (other-name s (codes "\\+") 1 19 o e refl a)
      ∙ (ap (λ v. if v then once x else second) (other-name s (codes "once") 1 52 o e refl b)
      ∙ (ap (λ v. if v then throwing x else third) (other-name s (codes "throw") 1 56 o e refl d)
      ∙ (ap (λ v. if v then calling x nil else last) call
      ∙ (ap (λ q. other_by q f.0 (cons x nil)) (sym e) ∙ ap (λ u. other_by o f.0 (arguments_of u)) (sym (unary-shape t f h)))))))

  pub unary-user : (t : Tree ℕ) (f : NameId) → root t ≡ V.Comp f 1 → IsPlaceOf n f.0 1 None → IsNoCall n f.0 1 → row_of n t ≡ user (name_of n t) (arguments_of t)
  unary-user t f h e call = user-row t f 1 h (unary-other t f None h e call (none-apart 19) (none-apart 52) (none-apart 56))

  pub unary-plain : (t : Tree ℕ) (f : NameId) (p : ℕ) → root t ≡ V.Comp f 1 → IsPlaceOf n f.0 1 (Some p) → IsNoCall n f.0 1 → (p ≡ 19 → ⊥) → (p ≡ 52 → ⊥) → (p ≡ 56 → ⊥)
      → (b : Builtin) × (builtin_row p ≡ Some b) × (row_of n t ≡ plain b (listed (arguments_of t)))
  unfolding builtins
  unary-plain t f p h e call a b d =
      let g = found (n.text f.0) 1 p e in
      let by = by-arity p in
      plain-row t f 1 p (unary-other t f (Some p) h e call (some-apart p 19 a) (some-apart p 52 b) (some-apart p 56 d)) g
      (by 0 1 g.arity refl, (by 1 1 g.arity refl, (by 2 1 g.arity refl, (by 3 1 g.arity refl, (by 4 1 g.arity refl, (by 14 1 g.arity refl, (a, (by 35 1 g.arity refl, (by 41 1 g.arity refl, (b, (by 54 1 g.arity refl, (d, tt))))))))))))
      call

  -- ---- two arguments

  unfoldable pub binary_by : List ℕ → ℕ → Tree ℕ → Tree ℕ → Row ℕ
  binary_by s f t u =
      if same_text s (codes ";") then either_row n t u
      else if same_text s (codes "->") then if_then t u
      else if same_text s (codes ":") then in_module t u
      else if same_text s (codes "@") then from_context t u
      else if same_text s (codes "call") && nat_lt 1 8 then calling t (cons u nil)
      else other_by (case_place builtins s 2) f (cons t (cons u nil))

  binary-named : (t : Tree ℕ) (f : NameId) (w : List ℕ) → root t ≡ V.Comp f 2 → n.text f.0 ≡ w → row_of n t ≡ binary_by w f.0 (argument t 0) (argument t 1)
  unfolding row_of binary_by
  binary-named t f w h e = ap (row_of n) (binary_root t f h) ∙ ap (λ s. binary_by s f.0 (argument t 0) (argument t 1)) e

  binary-found : (t : Tree ℕ) (f : NameId) (p : ℕ) (w : List ℕ) → root t ≡ V.Comp f 2 → IsPlaceOf n f.0 2 (Some p) → (case_at p).name ≡ w → row_of n t ≡ binary_by w f.0 (argument t 0) (argument t 1)
  binary-found t f p w h e is = binary-named t f w h ((found (n.text f.0) 2 p e).name ∙ is)

  pub conjunction-row : (t : Tree ℕ) (f : NameId) → root t ≡ V.Comp f 2 → IsPlaceOf n f.0 2 (Some 1) → row_of n t ≡ user (name_of n t) (arguments_of t)
  unfolding binary_by builtins
  conjunction-row t f h e = user-row t f 2 h (binary-found t f 1 (codes ",") h e refl ∙ ap (λ u. user f.0 (arguments_of u)) (sym (binary_root t f h)))

  pub if_then-row : (t : Tree ℕ) (f : NameId) → root t ≡ V.Comp f 2 → IsPlaceOf n f.0 2 (Some 2) → row_of n t ≡ if_then (argument t 0) (argument t 1)
  unfolding binary_by builtins
  if_then-row t f h e = binary-found t f 2 (codes "->") h e refl

  pub in_module-row : (t : Tree ℕ) (f : NameId) → root t ≡ V.Comp f 2 → IsPlaceOf n f.0 2 (Some 3) → row_of n t ≡ in_module (argument t 0) (argument t 1)
  unfolding binary_by builtins
  in_module-row t f h e = binary-found t f 3 (codes ":") h e refl

  pub disjunction-row : (t : Tree ℕ) (f : NameId) → root t ≡ V.Comp f 2 → IsPlaceOf n f.0 2 (Some 4) → row_of n t ≡ either_row n (argument t 0) (argument t 1)
  unfolding binary_by builtins
  disjunction-row t f h e = binary-found t f 4 (codes ";") h e refl

  pub from_context-row : (t : Tree ℕ) (f : NameId) → root t ≡ V.Comp f 2 → IsPlaceOf n f.0 2 (Some 14) → row_of n t ≡ from_context (argument t 0) (argument t 1)
  unfolding binary_by builtins
  from_context-row t f h e = binary-found t f 14 (codes "@") h e refl

  binary-other : (t : Tree ℕ) (f : NameId) (o : Option ℕ) → root t ≡ V.Comp f 2 → IsPlaceOf n f.0 2 o → IsNoCall n f.0 2 → (o ≡ Some 2 → ⊥) → (o ≡ Some 3 → ⊥) → (o ≡ Some 4 → ⊥) → (o ≡ Some 14 → ⊥)
      → row_of n t ≡ other_by o f.0 (arguments_of t)
  unfolding binary_by builtins
  binary-other t f o h e call a b d g =
      let s : List ℕ = n.text f.0 in
      let x : Tree ℕ = argument t 0 in
      let y : Tree ℕ = argument t 1 in
      let last : Row ℕ = other_by (case_place builtins s 2) f.0 (cons x (cons y nil)) in
      let fourth : Row ℕ = if same_text s (codes "call") && nat_lt 1 8 then calling x (cons y nil) else last in
      let third : Row ℕ = if same_text s (codes "@") then from_context x y else fourth in
      let second : Row ℕ = if same_text s (codes ":") then in_module x y else third in
      let first : Row ℕ = if same_text s (codes "->") then if_then x y else second in
      binary-named t f s h refl
      ∙ (ap (λ v. if v then either_row n x y else first) (other-name s (codes ";") 2 4 o e refl d)
      ∙ (ap (λ v. if v then if_then x y else second) (other-name s (codes "->") 2 2 o e refl a)
      ∙ (ap (λ v. if v then in_module x y else third) (other-name s (codes ":") 2 3 o e refl b)
      ∙ (ap (λ v. if v then from_context x y else fourth) (other-name s (codes "@") 2 14 o e refl g)
      ∙ (ap (λ v. if v then calling x (cons y nil) else last) call
      ∙ (ap (λ q. other_by q f.0 (cons x (cons y nil))) (sym e) ∙ ap (λ u. other_by o f.0 (arguments_of u)) (sym (binary_root t f h))))))))

  pub binary-user : (t : Tree ℕ) (f : NameId) → root t ≡ V.Comp f 2 → IsPlaceOf n f.0 2 None → IsNoCall n f.0 2 → row_of n t ≡ user (name_of n t) (arguments_of t)
  binary-user t f h e call = user-row t f 2 h (binary-other t f None h e call (none-apart 2) (none-apart 3) (none-apart 4) (none-apart 14))

  pub binary-plain : (t : Tree ℕ) (f : NameId) (p : ℕ) → root t ≡ V.Comp f 2 → IsPlaceOf n f.0 2 (Some p) → IsNoCall n f.0 2
      → (p ≡ 1 → ⊥) → (p ≡ 2 → ⊥) → (p ≡ 3 → ⊥) → (p ≡ 4 → ⊥) → (p ≡ 14 → ⊥)
      → (b : Builtin) × (builtin_row p ≡ Some b) × (row_of n t ≡ plain b (listed (arguments_of t)))
  unfolding builtins
  binary-plain t f p h e call z a b d k =
      let g = found (n.text f.0) 2 p e in
      let by = by-arity p in
      plain-row t f 2 p (binary-other t f (Some p) h e call (some-apart p 2 a) (some-apart p 3 b) (some-apart p 4 d) (some-apart p 14 k)) g
      (by 0 2 g.arity refl, (z, (a, (b, (d, (k, (by 19 2 g.arity refl, (by 35 2 g.arity refl, (by 41 2 g.arity refl, (by 52 2 g.arity refl, (by 54 2 g.arity refl, (by 56 2 g.arity refl, tt))))))))))))
      call

  -- ---- three arguments

  unfoldable pub ternary_by : List ℕ → ℕ → Tree ℕ → Tree ℕ → Tree ℕ → Row ℕ
  ternary_by s f t u v =
      if same_text s (codes "catch") then catching t u v
      else if same_text s (codes "findall") then collecting t u v
      else if same_text s (codes "call") && nat_lt 2 8 then calling t (cons u (cons v nil))
      else other_by (case_place builtins s 3) f (cons t (cons u (cons v nil)))

  ternary-named : (t : Tree ℕ) (f : NameId) (w : List ℕ) → root t ≡ V.Comp f 3 → n.text f.0 ≡ w → row_of n t ≡ ternary_by w f.0 (argument t 0) (argument t 1) (argument t 2)
  unfolding row_of ternary_by
  ternary-named t f w h e = ap (row_of n) (ternary-shape t f h) ∙ ap (λ s. ternary_by s f.0 (argument t 0) (argument t 1) (argument t 2)) e

  ternary-found : (t : Tree ℕ) (f : NameId) (p : ℕ) (w : List ℕ) → root t ≡ V.Comp f 3 → IsPlaceOf n f.0 3 (Some p) → (case_at p).name ≡ w
      → row_of n t ≡ ternary_by w f.0 (argument t 0) (argument t 1) (argument t 2)
  ternary-found t f p w h e is = ternary-named t f w h ((found (n.text f.0) 3 p e).name ∙ is)

  pub catching-row : (t : Tree ℕ) (f : NameId) → root t ≡ V.Comp f 3 → IsPlaceOf n f.0 3 (Some 35) → row_of n t ≡ catching (argument t 0) (argument t 1) (argument t 2)
  unfolding ternary_by builtins
  catching-row t f h e = ternary-found t f 35 (codes "catch") h e refl

  pub collecting-row : (t : Tree ℕ) (f : NameId) → root t ≡ V.Comp f 3 → IsPlaceOf n f.0 3 (Some 41) → row_of n t ≡ collecting (argument t 0) (argument t 1) (argument t 2)
  unfolding ternary_by builtins
  collecting-row t f h e = ternary-found t f 41 (codes "findall") h e refl

  ternary-other : (t : Tree ℕ) (f : NameId) (o : Option ℕ) → root t ≡ V.Comp f 3 → IsPlaceOf n f.0 3 o → IsNoCall n f.0 3 → (o ≡ Some 35 → ⊥) → (o ≡ Some 41 → ⊥)
      → row_of n t ≡ other_by o f.0 (arguments_of t)
  unfolding ternary_by builtins
  ternary-other t f o h e call a b =
      let s : List ℕ = n.text f.0 in
      let x : Tree ℕ = argument t 0 in
      let y : Tree ℕ = argument t 1 in
      let z : Tree ℕ = argument t 2 in
      let last : Row ℕ = other_by (case_place builtins s 3) f.0 (cons x (cons y (cons z nil))) in
      let second : Row ℕ = if same_text s (codes "call") && nat_lt 2 8 then calling x (cons y (cons z nil)) else last in
      let first : Row ℕ = if same_text s (codes "findall") then collecting x y z else second in
      ternary-named t f s h refl
      ∙ (ap (λ v. if v then catching x y z else first) (other-name s (codes "catch") 3 35 o e refl a)
      ∙ (ap (λ v. if v then collecting x y z else second) (other-name s (codes "findall") 3 41 o e refl b)
      ∙ (ap (λ v. if v then calling x (cons y (cons z nil)) else last) call
      ∙ (ap (λ q. other_by q f.0 (cons x (cons y (cons z nil)))) (sym e) ∙ ap (λ u. other_by o f.0 (arguments_of u)) (sym (ternary-shape t f h))))))

  pub ternary-user : (t : Tree ℕ) (f : NameId) → root t ≡ V.Comp f 3 → IsPlaceOf n f.0 3 None → IsNoCall n f.0 3 → row_of n t ≡ user (name_of n t) (arguments_of t)
  ternary-user t f h e call = user-row t f 3 h (ternary-other t f None h e call (none-apart 35) (none-apart 41))

  pub ternary-plain : (t : Tree ℕ) (f : NameId) (p : ℕ) → root t ≡ V.Comp f 3 → IsPlaceOf n f.0 3 (Some p) → IsNoCall n f.0 3 → (p ≡ 35 → ⊥) → (p ≡ 41 → ⊥)
      → (b : Builtin) × (builtin_row p ≡ Some b) × (row_of n t ≡ plain b (listed (arguments_of t)))
  unfolding builtins
  ternary-plain t f p h e call a b =
      let g = found (n.text f.0) 3 p e in
      let by = by-arity p in
      plain-row t f 3 p (ternary-other t f (Some p) h e call (some-apart p 35 a) (some-apart p 41 b)) g
      (by 0 3 g.arity refl, (by 1 3 g.arity refl, (by 2 3 g.arity refl, (by 3 3 g.arity refl, (by 4 3 g.arity refl, (by 14 3 g.arity refl, (by 19 3 g.arity refl, (a, (b, (by 52 3 g.arity refl, (by 54 3 g.arity refl, (by 56 3 g.arity refl, tt))))))))))))
      call
