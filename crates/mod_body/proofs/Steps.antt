-- Going over the goal places of a body.
use Rattle.std.proofs.Common.{◌≡◌, ℕ, suc, ◌<◌, List, [], ◌∷◌, ◌++◌, length, codes, nat_eq, Bool, true, false, ◌&&◌, Option, Some, None, if◌then◌else◌, refl, sym, ap, ◌∙◌, arith, subst, append_assoc, IsTrue, ◌↔◌, All, slice_get}
use Rattle.std.specs.Option.{option_map}
use Rattle.std.proofs.lemmas.Bool.{eqb-true, false≢true}
use Rattle.pl_atoms.specs.declared.names.NameId.{NameId}
use Rattle.pl_terms.specs.Trees.{Tree, var, int, atom, comp, Trees, nil, cons, count, back, renamed}
use Rattle.pl_terms.specs.Cells.{cells, first, tree_of, IsCell, IsTerm}
use Rattle.pl_terms.specs.Order.{text_of, texts_of}
use Rattle.pl_terms.proofs.Whole.{IsTerm-cells}
use Rattle.pl_atoms.specs.Names.{IsFront}
use Rattle.pl_atoms.proofs.Numbers.{length-front}
use Rattle.std.proofs.lemmas.Option.{get_or_from_slice_get}
use Rattle.term_walk.proofs.NameBounds.{texts_of-front, NamesBelow-more}
use Rattle.pl_terms.specs.Forest.{append-nil, tree_of-cells}
use Rattle.pl_terms.specs.declared.cell.Cell.{Cell}
use Rattle.pl_terms.specs.declared.cell.Cell.TheVariants.{Comp}
use Rattle.unit_model.specs.Directives.{is_control, both, control, converted}
use Rattle.term_walk.specs.Walks.{first_cell, entered}
use Rattle.pl_terms.specs.NameBounds.{NamesBelow}
use Rattle.mod_body.specs.declared.convert.Place.TheVariants.{Variable, Integer, Control, Other}
use Rattle.mod_body.specs.Places.{place_of}
use Rattle.mod_body.specs.Converting.{control_by, converted_by, goal_cells, stays, all_stay}

-- lists that may be there, one after another
pub both-more : {A : Type 0} (xs ys : List A) (o : Option (List A)) → both (Some (xs ++ ys)) o ≡ both (Some xs) (both (Some ys) o)
both-more xs ys None = refl
both-more xs ys (Some zs) = ap Some (append_assoc xs ys zs)

-- what a choice of places is not
no_variable : (b : Bool) (s : NameId) → (if b then Control s else Other) ≡ Variable → ⊥
no_variable true s h = absurd (cc)
no_variable false s h = absurd (cc)

no_integer : (b : Bool) (s : NameId) → (if b then Control s else Other) ≡ Integer → ⊥
no_integer true s h = absurd (cc)
no_integer false s h = absurd (cc)

pub record IsChosen (b : Bool) (r s : NameId) : Type 0 where
  pub test : b ≡ true
  pub name : r ≡ s

chosen : (b : Bool) (r s : NameId) → (if b then Control r else Other) ≡ Control s → IsChosen b r s
chosen true r s h = record { test = refl; name = cc }
chosen false r s h = absurd (cc)

not_chosen : (b : Bool) (r : NameId) → (if b then Control r else Other) ≡ Other → b ≡ false
not_chosen true r h = absurd (cc)
not_chosen false r h = refl

both_left : (a b : Bool) → a && b ≡ true → a ≡ true
both_left true b h = refl
both_left false b h = h

both_right : (a b : Bool) → a && b ≡ true → b ≡ true
both_right true b h = h
both_right false b h = absurd (cc)

-- a test that fails says that what it tests is not so
pub not_so : {P : Type 0} (b : Bool) → b ≡ false → (P → b ≡ true) → P → ⊥
not_so b left h p = let taken : b ≡ true = h p in false≢true (sym left ∙ taken)

-- a test of two arguments and a name
short : (n : ℕ) (b : Bool) → nat_eq n 2 && b ≡ true → n ≡ 2
short n b h = eqb-true n 2 (both_left (nat_eq n 2) b h)

module _ (f : ℕ → List ℕ) (call : ℕ) where
  pub variable_step : (ts : Trees ℕ) → place_of f (first_cell ts) ≡ Variable → goal_cells f call ts ≡ both (Some (Comp (record { 0 = call }) 1 ∷ cells (first ts))) (goal_cells f call (back 1 ts))
  variable_step nil h = absurd (cc)
  variable_step (cons (var n) ts) h = refl
  variable_step (cons (int z) ts) h = absurd (cc)
  variable_step (cons (atom s) ts) h = absurd (cc)
  variable_step (cons (comp s us) ts) h = absurd (no_variable (nat_eq (count us) 2 && is_control (f s)) (record { 0 = s }) h)

  pub integer_step : (ts : Trees ℕ) → place_of f (first_cell ts) ≡ Integer → goal_cells f call ts ≡ None
  integer_step nil h = absurd (cc)
  integer_step (cons (var n) ts) h = absurd (cc)
  integer_step (cons (int z) ts) h = refl
  integer_step (cons (atom s) ts) h = absurd (cc)
  integer_step (cons (comp s us) ts) h = absurd (no_integer (nat_eq (count us) 2 && is_control (f s)) (record { 0 = s }) h)

  control_cells : (s : ℕ) (l r : Option (Tree ℕ)) (g : Option (List Cell)) → both (option_map cells (control_by s l r)) g ≡ both (Some (Comp (record { 0 = s }) 2 ∷ [])) (both (option_map cells l) (both (option_map cells r) g))
  control_cells s None r g = refl
  control_cells s (Some l) None g = refl
  control_cells s (Some l) (Some r) None = refl
  control_cells s (Some l) (Some r) (Some g) =
      ap (λ x. Some (Comp (record { 0 = s }) 2 ∷ x)) (append_assoc (cells l) (cells r ++ []) g ∙ ap (λ x. cells l ++ (x ++ g)) (append-nil (cells r)))

  control_at : (s : ℕ) (us ts : Trees ℕ) → nat_eq (count us) 2 && is_control (f s) ≡ true → goal_cells f call (cons (comp s us) ts) ≡ both (Some (Comp (record { 0 = s }) 2 ∷ [])) (goal_cells f call (entered (cons (comp s us) ts)))
  control_at s nil ts h = absurd (cc)
  control_at s (cons l nil) ts h = absurd (cc)
  control_at s (cons l (cons r nil)) ts h =
      ap (λ b. both (option_map cells (if b then control_by s (converted_by f call l) (converted_by f call r) else Some (comp s (cons l (cons r nil))))) (goal_cells f call ts)) (both_right (nat_eq 2 2) (is_control (f s)) h)
      ∙ control_cells s (converted_by f call l) (converted_by f call r) (goal_cells f call ts)
  control_at s (cons l (cons r (cons u us))) ts h = let two : suc (suc (suc (count us))) ≡ 2 = short (suc (suc (suc (count us)))) (is_control (f s)) h in absurd (omega arith)

  pub control_step : (ts : Trees ℕ) (s : NameId) → place_of f (first_cell ts) ≡ Control s → goal_cells f call ts ≡ both (Some (Comp s 2 ∷ [])) (goal_cells f call (entered ts))
  control_step nil s h = absurd (cc)
  control_step (cons (var n) ts) s h = absurd (cc)
  control_step (cons (int z) ts) s h = absurd (cc)
  control_step (cons (atom r) ts) s h = absurd (cc)
  control_step (cons (comp r us) ts) s h =
      let is = chosen (nat_eq (count us) 2 && is_control (f r)) (record { 0 = r }) s h in
      control_at r us ts is.test ∙ ap (λ n. both (Some (Comp n 2 ∷ [])) (goal_cells f call (entered (cons (comp r us) ts)))) is.name

  other_at : (s : ℕ) (us ts : Trees ℕ) → nat_eq (count us) 2 && is_control (f s) ≡ false → goal_cells f call (cons (comp s us) ts) ≡ both (Some (cells (comp s us))) (goal_cells f call ts)
  other_at s nil ts h = refl
  other_at s (cons l nil) ts h = refl
  other_at s (cons l (cons r nil)) ts h =
      ap (λ b. both (option_map cells (if b then control_by s (converted_by f call l) (converted_by f call r) else Some (comp s (cons l (cons r nil))))) (goal_cells f call ts)) h
  other_at s (cons l (cons r (cons u us))) ts h = refl

  pub other_step : (ts : Trees ℕ) → 0 < count ts → place_of f (first_cell ts) ≡ Other → goal_cells f call ts ≡ both (Some (cells (first ts))) (goal_cells f call (back 1 ts))
  other_step nil some h = absurd (omega arith)
  other_step (cons (var n) ts) some h = absurd (cc)
  other_step (cons (int z) ts) some h = absurd (cc)
  other_step (cons (atom s) ts) some h = refl
  other_step (cons (comp s us) ts) some h = other_at s us ts (not_chosen (nat_eq (count us) 2 && is_control (f s)) (record { 0 = s }) h)

  -- all cells are those of the one body
  pub record IsDone (out : List Cell) (o : Option (Tree ℕ)) : Type 0 where
    pub tree : Tree ℕ
    pub is : o ≡ Some tree
    pub cells : out ≡ cells tree

  done_by : (out : List Cell) (o : Option (Tree ℕ)) → both (Some out) (Some []) ≡ both (option_map cells o) (Some []) → IsDone out o
  done_by out None h = absurd (cc)
  done_by out (Some t) h = record { tree = t; is = refl; cells = let e : out ++ [] ≡ cells t ++ [] = cc in sym (append-nil out) ∙ e ∙ append-nil (cells t) }

  pub done : (out : List Cell) (left goals : Trees ℕ) → (0 < count left → ⊥) → count goals ≡ 1 → both (Some out) (goal_cells f call left) ≡ both (Some []) (goal_cells f call goals) → IsDone out (converted_by f call (first goals))
  done out (cons t ts) goals none one h = absurd (none (omega arith))
  done out nil nil none one h = absurd (omega arith)
  done out nil (cons t nil) none one h = done_by out (converted_by f call t) (h ∙ empty (both (option_map cells (converted_by f call t)) (Some [])))
    where
      empty : (o : Option (List Cell)) → both (Some []) o ≡ o
      empty None = refl
      empty (Some l) = refl
  done out nil (cons t (cons u us)) none one h = absurd (omega arith)

  pub refused : (goals : Trees ℕ) → count goals ≡ 1 → both (Some []) (goal_cells f call goals) ≡ None → converted_by f call (first goals) ≡ None
  refused nil one h = absurd (omega arith)
  refused (cons t nil) one h = by (converted_by f call t) h
    where
      by : (o : Option (Tree ℕ)) → both (Some []) (both (option_map cells o) (Some [])) ≡ None → o ≡ None
      by None h = refl
      by (Some t) h = absurd (cc)
  refused (cons t (cons u us)) one h = absurd (omega arith)

  -- with texts in place of numbers
  control_texts : (b : Bool) (s : ℕ) (l r : Option (Tree ℕ)) (t : Tree ℕ) → (if b then control (f s) (option_map (renamed f) l) (option_map (renamed f) r) else Some (renamed f t)) ≡ option_map (renamed f) (if b then control_by s l r else Some t)
  control_texts false s l r t = refl
  control_texts true s None r t = refl
  control_texts true s (Some l) None t = refl
  control_texts true s (Some l) (Some r) t = refl

  pub converted-texts : f call ≡ codes "call" → (t : Tree ℕ) → converted (renamed f t) ≡ option_map (renamed f) (converted_by f call t)
  converted-texts e (var n) = ap (λ s. Some (comp s (cons (var n) nil))) (sym e)
  converted-texts e (int z) = refl
  converted-texts e (atom s) = refl
  converted-texts e (comp s nil) = refl
  converted-texts e (comp s (cons l nil)) = refl
  converted-texts e (comp s (cons l (cons r nil))) =
      ap (λ o. if is_control (f s) then control (f s) o (converted (renamed f r)) else Some (renamed f (comp s (cons l (cons r nil))))) (converted-texts e l)
      ∙ ap (λ o. if is_control (f s) then control (f s) (option_map (renamed f) (converted_by f call l)) o else Some (renamed f (comp s (cons l (cons r nil))))) (converted-texts e r)
      ∙ control_texts (is_control (f s)) s (converted_by f call l) (converted_by f call r) (comp s (cons l (cons r nil)))
  converted-texts e (comp s (cons l (cons r (cons u us)))) = refl

  -- names stay below a bound
  control_below : (n s : ℕ) → s < n → (b : Bool) (l r : Option (Tree ℕ)) (t u : Tree ℕ) → ((v : Tree ℕ) → l ≡ Some v → NamesBelow n v) → ((v : Tree ℕ) → r ≡ Some v → NamesBelow n v) → NamesBelow n t → (if b then control_by s l r else Some t) ≡ Some u → NamesBelow n u
  control_below n s lt false l r t u hl hr ht h = subst (NamesBelow n) (let e : t ≡ u = cc in e) ht
  control_below n s lt true None r t u hl hr ht h = absurd (cc)
  control_below n s lt true (Some l) None t u hl hr ht h = absurd (cc)
  control_below n s lt true (Some l) (Some r) t u hl hr ht h =
      subst (NamesBelow n) (let e : comp s (cons l (cons r nil)) ≡ u = cc in e) (lt, (hl l refl, (hr r refl, tt)))

  pub converted_by-below : (n : ℕ) → call < n → (t u : Tree ℕ) → NamesBelow n t → converted_by f call t ≡ Some u → NamesBelow n u
  converted_by-below n lt (var m) u h e = subst (NamesBelow n) (let same : comp call (cons (var m) nil) ≡ u = cc in same) (lt, (tt, tt))
  converted_by-below n lt (int z) u h e = absurd (cc)
  converted_by-below n lt (atom s) u h e = subst (NamesBelow n) (let same : atom s ≡ u = cc in same) h
  converted_by-below n lt (comp s nil) u h e = subst (NamesBelow n) (let same : comp s nil ≡ u = cc in same) h
  converted_by-below n lt (comp s (cons l nil)) u h e = subst (NamesBelow n) (let same : comp s (cons l nil) ≡ u = cc in same) h
  converted_by-below n lt (comp s (cons l (cons r nil))) u h e =
      control_below n s h.0 (is_control (f s)) (converted_by f call l) (converted_by f call r) (comp s (cons l (cons r nil))) u
      (λ v d. converted_by-below n lt l v h.1.0 d) (λ v d. converted_by-below n lt r v h.1.1.0 d) h e
  converted_by-below n lt (comp s (cons l (cons r (cons q us)))) u h e = subst (NamesBelow n) (let same : comp s (cons l (cons r (cons q us))) ≡ u = cc in same) h

-- bodies that stay as they are
module _ (f : ℕ → List ℕ) where
  pub variable_leaves : (ts : Trees ℕ) → place_of f (first_cell ts) ≡ Variable → all_stay f ts ≡ false
  variable_leaves nil h = absurd (cc)
  variable_leaves (cons (var n) ts) h = refl
  variable_leaves (cons (int z) ts) h = absurd (cc)
  variable_leaves (cons (atom s) ts) h = absurd (cc)
  variable_leaves (cons (comp s us) ts) h = absurd (no_variable (nat_eq (count us) 2 && is_control (f s)) (record { 0 = s }) h)

  pub integer_leaves : (ts : Trees ℕ) → place_of f (first_cell ts) ≡ Integer → all_stay f ts ≡ false
  integer_leaves nil h = absurd (cc)
  integer_leaves (cons (var n) ts) h = absurd (cc)
  integer_leaves (cons (int z) ts) h = refl
  integer_leaves (cons (atom s) ts) h = absurd (cc)
  integer_leaves (cons (comp s us) ts) h = absurd (no_integer (nat_eq (count us) 2 && is_control (f s)) (record { 0 = s }) h)

  and-assoc : (a b c : Bool) → ((a && b) && c) ≡ (a && (b && c))
  and-assoc true b c = refl
  and-assoc false b c = refl

  control_leaves : (s : ℕ) (us ts : Trees ℕ) → nat_eq (count us) 2 && is_control (f s) ≡ true → all_stay f (cons (comp s us) ts) ≡ all_stay f (entered (cons (comp s us) ts))
  control_leaves s nil ts h = absurd (cc)
  control_leaves s (cons l nil) ts h = absurd (cc)
  control_leaves s (cons l (cons r nil)) ts h =
      ap (λ b. (if b then stays f l && stays f r else true) && all_stay f ts) (both_right (nat_eq 2 2) (is_control (f s)) h)
      ∙ and-assoc (stays f l) (stays f r) (all_stay f ts)
  control_leaves s (cons l (cons r (cons u us))) ts h = let two : suc (suc (suc (count us))) ≡ 2 = short (suc (suc (suc (count us)))) (is_control (f s)) h in absurd (omega arith)

  pub control_stays : (ts : Trees ℕ) (s : NameId) → place_of f (first_cell ts) ≡ Control s → all_stay f ts ≡ all_stay f (entered ts)
  control_stays nil s h = absurd (cc)
  control_stays (cons (var n) ts) s h = absurd (cc)
  control_stays (cons (int z) ts) s h = absurd (cc)
  control_stays (cons (atom r) ts) s h = absurd (cc)
  control_stays (cons (comp r us) ts) s h = control_leaves r us ts (chosen (nat_eq (count us) 2 && is_control (f r)) (record { 0 = r }) s h).test

  other_leaves : (s : ℕ) (us ts : Trees ℕ) → nat_eq (count us) 2 && is_control (f s) ≡ false → all_stay f (cons (comp s us) ts) ≡ all_stay f ts
  other_leaves s nil ts h = refl
  other_leaves s (cons l nil) ts h = refl
  other_leaves s (cons l (cons r nil)) ts h = ap (λ b. (if b then stays f l && stays f r else true) && all_stay f ts) h
  other_leaves s (cons l (cons r (cons u us))) ts h = refl

  pub other_stays : (ts : Trees ℕ) → 0 < count ts → place_of f (first_cell ts) ≡ Other → all_stay f ts ≡ all_stay f (back 1 ts)
  other_stays nil some h = absurd (omega arith)
  other_stays (cons (var n) ts) some h = absurd (cc)
  other_stays (cons (int z) ts) some h = absurd (cc)
  other_stays (cons (atom s) ts) some h = refl
  other_stays (cons (comp s us) ts) some h = other_leaves s us ts (not_chosen (nat_eq (count us) 2 && is_control (f s)) (record { 0 = s }) h)

  pub none_stay : (ts : Trees ℕ) → (0 < count ts → ⊥) → all_stay f ts ≡ true
  none_stay nil h = refl
  none_stay (cons t ts) h = absurd (h (omega arith))

  -- exactly those are their own conversions
  same_control : (b : Bool) (s : ℕ) (l r : Tree ℕ) → (stays f l ≡ true → converted (renamed f l) ≡ Some (renamed f l)) → (stays f r ≡ true → converted (renamed f r) ≡ Some (renamed f r))
      → (if b then stays f l && stays f r else true) ≡ true → (if b then control (f s) (converted (renamed f l)) (converted (renamed f r)) else Some (renamed f (comp s (cons l (cons r nil))))) ≡ Some (renamed f (comp s (cons l (cons r nil))))
  same_control false s l r hl hr h = refl
  same_control true s l r hl hr h =
      ap (λ o. control (f s) o (converted (renamed f r))) (hl (both_left (stays f l) (stays f r) h))
      ∙ ap (λ o. control (f s) (Some (renamed f l)) o) (hr (both_right (stays f l) (stays f r) h))

  pub stays-same : (t : Tree ℕ) → stays f t ≡ true → converted (renamed f t) ≡ Some (renamed f t)
  stays-same (var n) h = absurd (cc)
  stays-same (int z) h = absurd (cc)
  stays-same (atom s) h = refl
  stays-same (comp s nil) h = refl
  stays-same (comp s (cons l nil)) h = refl
  stays-same (comp s (cons l (cons r nil))) h = same_control (is_control (f s)) s l r (stays-same l) (stays-same r) h
  stays-same (comp s (cons l (cons r (cons u us)))) h = refl

  split_control : (s : ℕ) (l r : Tree ℕ) (p q : Option (Tree (List ℕ))) → control (f s) p q ≡ Some (renamed f (comp s (cons l (cons r nil)))) → (p ≡ Some (renamed f l)) × (q ≡ Some (renamed f r))
  split_control s l r None q h = absurd (cc)
  split_control s l r (Some p) None h = absurd (cc)
  split_control s l r (Some p) (Some q) h = (cc, cc)

  control_same : (b : Bool) (s : ℕ) (l r : Tree ℕ) → (converted (renamed f l) ≡ Some (renamed f l) → stays f l ≡ true) → (converted (renamed f r) ≡ Some (renamed f r) → stays f r ≡ true)
      → (if b then control (f s) (converted (renamed f l)) (converted (renamed f r)) else Some (renamed f (comp s (cons l (cons r nil))))) ≡ Some (renamed f (comp s (cons l (cons r nil)))) → (if b then stays f l && stays f r else true) ≡ true
  control_same false s l r hl hr h = refl
  control_same true s l r hl hr h =
      let parts = split_control s l r (converted (renamed f l)) (converted (renamed f r)) h in
      ap (λ b. b && stays f r) (hl parts.0) ∙ hr parts.1

  pub same-stays : (t : Tree ℕ) → converted (renamed f t) ≡ Some (renamed f t) → stays f t ≡ true
  same-stays (var n) h = absurd (cc)
  same-stays (int z) h = absurd (cc)
  same-stays (atom s) h = refl
  same-stays (comp s nil) h = refl
  same-stays (comp s (cons l nil)) h = refl
  same-stays (comp s (cons l (cons r nil))) h = control_same (is_control (f s)) s l r (same-stays l) (same-stays r) h
  same-stays (comp s (cons l (cons r (cons u us)))) h = refl

module _ (f : ℕ → List ℕ) where
  pub stays-one : (t : Tree ℕ) (b : Bool) (ts : Trees ℕ) → b ≡ all_stay f ts → ts ≡ cons t nil → b ≡ stays f t
  stays-one t b ts e one = e ∙ ap (all_stay f) one ∙ and-true (stays f t)
    where
      and-true : (b : Bool) → b && true ≡ b
      and-true true = refl
      and-true false = refl

  pub stays-is : (t : Tree ℕ) (b : Bool) → b ≡ stays f t → IsTrue b ↔ (converted (renamed f t) ≡ Some (renamed f t))
  stays-is t b e = (λ h. stays-same f t (sym e ∙ h), λ h. e ∙ same-stays f t h)

-- cells of one term tell it
pub same_cells : (t u : Tree ℕ) → cells t ≡ cells u → t ≡ u
same_cells t u e = sym (tree_of-cells t) ∙ ap tree_of e ∙ tree_of-cells u

-- the loop of a conversion
module _ (f : ℕ → List ℕ) (call : ℕ) where
  pub control-more : (gs us : Trees ℕ) (s : NameId) (old new : List Cell) → new ≡ old ++ Comp s 2 ∷ [] → us ≡ entered gs → Control s ≡ place_of f (first_cell gs)
      → both (Some new) (goal_cells f call us) ≡ both (Some old) (goal_cells f call gs)
  control-more gs us s old new push next is =
      ap (λ l. both (Some l) (goal_cells f call us)) push
      ∙ ap (λ vs. both (Some (old ++ Comp s 2 ∷ [])) (goal_cells f call vs)) next
      ∙ both-more old (Comp s 2 ∷ []) (goal_cells f call (entered gs))
      ∙ ap (both (Some old)) (sym (control_step f call gs s (sym is)))

  pub done-at : (goals left : Trees ℕ) (out start : List Cell) → start ≡ [] → count goals ≡ 1 → (0 < count left → ⊥)
      → both (Some out) (goal_cells f call left) ≡ both (Some start) (goal_cells f call goals) → IsDone f call out (converted_by f call (first goals))
  done-at goals left out start empty one none h = done f call out left goals none one (h ∙ ap (λ l. both (Some l) (goal_cells f call goals)) empty)

  pub refused-at : (goals left : Trees ℕ) (out start : List Cell) → start ≡ [] → count goals ≡ 1
      → both (Some out) (goal_cells f call left) ≡ both (Some start) (goal_cells f call goals) → goal_cells f call left ≡ None → converted_by f call (first goals) ≡ None
  refused-at goals left out start empty one h none =
      refused f call goals one (sym (h ∙ ap (λ l. both (Some l) (goal_cells f call goals)) empty) ∙ ap (both (Some out)) none)

  pub done-term : (out : List Cell) (o : Option (Tree ℕ)) → IsDone f call out o → All IsCell out → IsTerm out
  done-term out o d are = subst IsTerm (sym d.cells) (IsTerm-cells d.tree (subst (All IsCell) d.cells are))

  pub done-is : (out : List Cell) (o : Option (Tree ℕ)) (t : Tree ℕ) → IsDone f call out o → cells t ≡ out → o ≡ Some t
  done-is out o t d e = d.is ∙ ap Some (same_cells d.tree t (sym (e ∙ d.cells)))

-- a body whose names are in a table that grows
module _ (old new : List (List ℕ)) (call : ℕ) (front : IsFront old new) (named : slice_get new call ≡ Some (codes "call")) (body : Tree ℕ) (below : NamesBelow (length old) body) where
  pub body-is : (ts : Trees ℕ) (o : Option (Tree ℕ)) → ts ≡ cons body nil → converted_by (text_of new) call (first ts) ≡ o → converted (texts_of old body) ≡ option_map (texts_of new) o
  body-is ts o one h =
      ap converted (sym (texts_of-front old new front body below))
      ∙ converted-texts (text_of new) call (get_or_from_slice_get new call (codes "call") [] named) body
      ∙ ap (option_map (renamed (text_of new))) (ap (λ us. converted_by (text_of new) call (first us)) (sym one) ∙ h)

  pub body-below : call < length new → (ts : Trees ℕ) (t : Tree ℕ) → ts ≡ cons body nil → converted_by (text_of new) call (first ts) ≡ Some t → NamesBelow (length new) t
  body-below lt ts t one h =
      converted_by-below (text_of new) call (length new) lt body t
      (NamesBelow-more (length old) (length new) (length-front old new front) body below)
      (ap (λ us. converted_by (text_of new) call (first us)) (sym one) ∙ h)
