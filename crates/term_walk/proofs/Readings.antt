-- Indicators and mode terms, from their cells.
use Rattle.std.proofs.Common.{◌≡◌, ℕ, zero, suc, List, [], ◌∷◌, codes, nat_eq, Bool, true, false, ◌&&◌, Option, Some, None, if◌then◌else◌, refl, sym, ap, ◌∙◌, arith, ◌++◌, ◌<◌, ◌-◌, append_assoc}
use Rattle.std.specs.Option.{option_map}
use Rattle.std.proofs.lemmas.Bool.{ne_eqb}
use Rattle.pl_atoms.specs.declared.names.NameId.{NameId}
use Rattle.pl_ops.specs.Tables.{same_text}
use Rattle.pl_terms.specs.Trees.{Tree, var, int, atom, comp, Trees, nil, cons, count, append, renamed, all_renamed}
use Rattle.pl_terms.specs.Cells.{first}
use Rattle.pl_terms.specs.declared.cell.Cell.{Cell}
use Rattle.pl_terms.specs.declared.cell.Cell.TheVariants.{Comp}
use Rattle.unit_model.specs.Facts.{Indicator}
use Rattle.unit_model.specs.Directives.{both, single, mode_in, modes_in, mode_term_in, indicator_in}
use Rattle.term_walk.specs.Walks.{first_cell, entered, is_functor}
use Rattle.term_walk.specs.Items.{indicator_of, mode_of, front_modes}

pub none_chosen : {A : Type 0} (b : Bool) → ◌≡◌ {A = Option A} (if b then None else None) None
none_chosen true = refl
none_chosen false = refl

three : (n : ℕ) → nat_eq (suc (suc (suc n))) 2 ≡ false
three n = ne_eqb (suc (suc (suc n))) 2 (λ h. absurd (omega arith))

module _ (f : ℕ → List ℕ) where
  abbrev pub ByCells : Trees ℕ → Type 0
  ByCells ts = indicator_in (renamed f (first ts)) ≡ (if is_functor f (codes "/") 2 ts then indicator_of f (first_cell (entered ts)) (first_cell (entered (entered ts))) else None)

  second : (s n : ℕ) (r : Tree ℕ) (ts : Trees ℕ) → ByCells (cons (comp s (cons (atom n) (cons r nil))) ts)
  second s n (var m) ts = sym (none_chosen (same_text (f s) (codes "/")))
  second s n (int z) ts = refl
  second s n (atom m) ts = sym (none_chosen (same_text (f s) (codes "/")))
  second s n (comp m ms) ts = sym (none_chosen (same_text (f s) (codes "/")))

  pub indicator-cells : (ts : Trees ℕ) → ByCells ts
  indicator-cells nil = refl
  indicator-cells (cons (var n) ts) = refl
  indicator-cells (cons (int z) ts) = refl
  indicator-cells (cons (atom s) ts) = refl
  indicator-cells (cons (comp s nil) ts) = refl
  indicator-cells (cons (comp s (cons l nil)) ts) = single_arg l
    where
      single_arg : (l : Tree ℕ) → indicator_in (renamed f (comp s (cons l nil))) ≡ None
      single_arg (var n) = refl
      single_arg (int z) = refl
      single_arg (atom n) = refl
      single_arg (comp n ns) = refl
  indicator-cells (cons (comp s (cons (var n) (cons r nil))) ts) = sym (none_chosen (same_text (f s) (codes "/")))
  indicator-cells (cons (comp s (cons (int z) (cons r nil))) ts) = sym (none_chosen (same_text (f s) (codes "/")))
  indicator-cells (cons (comp s (cons (atom n) (cons r nil))) ts) = second s n r ts
  indicator-cells (cons (comp s (cons (comp n ns) (cons r nil))) ts) = sym (none_chosen (same_text (f s) (codes "/")))
  indicator-cells (cons (comp s (cons l (cons r (cons u us)))) ts) =
      many l r ∙ ap (λ b. if b && same_text (f s) (codes "/") then indicator_of f (first_cell (cons l (cons r (append (cons u us) ts)))) (first_cell (entered (cons l (cons r (append (cons u us) ts))))) else None) (sym (three (count us)))
    where
      many : (l r : Tree ℕ) → indicator_in (renamed f (comp s (cons l (cons r (cons u us))))) ≡ None
      many (var n) r = refl
      many (int z) r = refl
      many (comp n ns) r = refl
      many (atom n) (var m) = refl
      many (atom n) (int z) = refl
      many (atom n) (atom m) = refl
      many (atom n) (comp m ms) = refl

  -- modes
  mode_in-cell : (t : Tree ℕ) (ts : Trees ℕ) → mode_in (renamed f t) ≡ mode_of f (first_cell (cons t ts))
  mode_in-cell (var n) ts = refl
  mode_in-cell (int z) ts = refl
  mode_in-cell (atom s) ts = refl
  mode_in-cell (comp s us) ts = refl

  mode_entered : (t : Tree ℕ) (ts : Trees ℕ) (b : Bool) → mode_in (renamed f t) ≡ Some b → entered (cons t ts) ≡ ts
  mode_entered (var n) ts b h = refl
  mode_entered (int z) ts b h = refl
  mode_entered (atom s) ts b h = refl
  mode_entered (comp s us) ts b h = absurd (cc)

  pub mode_step : (n : ℕ) (ts : Trees ℕ) (b : Bool) → mode_of f (first_cell ts) ≡ Some b → front_modes f (suc n) ts ≡ both (Some (b ∷ [])) (front_modes f n (entered ts))
  mode_step n nil b h = absurd (cc)
  mode_step n (cons t ts) b h =
      let is = mode_in-cell t ts ∙ h in
      ap (λ o. both (single o) (front_modes f n ts)) is ∙ ap (λ us. both (Some (b ∷ [])) (front_modes f n us)) (sym (mode_entered t ts b is))

  pub mode_none : (n : ℕ) (ts : Trees ℕ) → mode_of f (first_cell ts) ≡ None → front_modes f (suc n) ts ≡ None
  mode_none n nil h = refl
  mode_none n (cons t ts) h = ap (λ o. both (single o) (front_modes f n ts)) (mode_in-cell t ts ∙ h)

  modes-front : (us ts : Trees ℕ) → front_modes f (count us) (append us ts) ≡ modes_in (all_renamed f us)
  modes-front nil ts = refl
  modes-front (cons u us) ts = ap (both (single (mode_in (renamed f u)))) (modes-front us ts)

  -- the mode term that stands first
  abbrev pub mode_term_by : Option Cell → Trees ℕ → Option (List ℕ × List Bool)
  mode_term_by (Some (Comp s k)) ts = option_map (λ ms. (f s.0, ms)) (front_modes f k ts)
  mode_term_by _ ts = None

  pub mode_term-cells : (ts : Trees ℕ) → mode_term_in (renamed f (first ts)) ≡ mode_term_by (first_cell ts) (entered ts)
  mode_term-cells nil = refl
  mode_term-cells (cons (var n) ts) = refl
  mode_term-cells (cons (int z) ts) = refl
  mode_term-cells (cons (atom s) ts) = refl
  mode_term-cells (cons (comp s us) ts) = ap (option_map (λ ms. (f s, ms))) (sym (modes-front us ts))

  pub indicator-is : (ts ws : Trees ℕ) (b : Bool) (o : Option (Indicator (List ℕ))) → b ≡ is_functor f (codes "/") 2 ts → b ≡ true → ws ≡ ts
      → o ≡ indicator_of f (first_cell (entered ws)) (first_cell (entered (entered ws))) → o ≡ indicator_in (renamed f (first ts))
  indicator-is ts ws b o test taken same e =
      e ∙ ap (λ us. indicator_of f (first_cell (entered us)) (first_cell (entered (entered us)))) same
      ∙ ap (λ d. if d then indicator_of f (first_cell (entered ts)) (first_cell (entered (entered ts))) else None) (sym taken ∙ test)
      ∙ sym (indicator-cells ts)

  pub no_indicator-is : (ts : Trees ℕ) (b : Bool) → b ≡ is_functor f (codes "/") 2 ts → b ≡ false → None ≡ indicator_in (renamed f (first ts))
  no_indicator-is ts b test left =
      ap (λ d. if d then indicator_of f (first_cell (entered ts)) (first_cell (entered (entered ts))) else None) (sym left ∙ test)
      ∙ sym (indicator-cells ts)

  both-more : (xs ys : List Bool) (o : Option (List Bool)) → both (Some (xs ++ ys)) o ≡ both (Some xs) (both (Some ys) o)
  both-more xs ys None = refl
  both-more xs ys (Some zs) = ap Some (append_assoc xs ys zs)

  pub modes-more : (n m : ℕ) (ts us : Trees ℕ) (b : Bool) (old new : List Bool) (o : Option (List Bool)) → 0 < n → m ≡ n - 1 → Some b ≡ mode_of f (first_cell ts) → us ≡ entered ts
      → new ≡ old ++ b ∷ [] → both (Some old) (front_modes f n ts) ≡ o → both (Some new) (front_modes f m us) ≡ o
  modes-more zero m ts us b old new o some less h next push e = absurd (omega arith)
  modes-more (suc n) m ts us b old new o some less h next push e =
      let same : m ≡ n = omega arith in
      ap (λ l. both (Some l) (front_modes f m us)) push
      ∙ ap (λ k. both (Some (old ++ b ∷ [])) (front_modes f k us)) same
      ∙ ap (λ vs. both (Some (old ++ b ∷ [])) (front_modes f n vs)) next
      ∙ both-more old (b ∷ []) (front_modes f n (entered ts))
      ∙ ap (both (Some old)) (sym (mode_step n ts b (sym h)))
      ∙ e

  pub no_modes : (n : ℕ) (ts : Trees ℕ) (old : List Bool) (o : Option (List Bool)) → 0 < n → None ≡ mode_of f (first_cell ts) → both (Some old) (front_modes f n ts) ≡ both (Some []) o → None ≡ o
  no_modes zero ts old o some h e = absurd (omega arith)
  no_modes (suc n) ts old o some h e = none_both o (ap (both (Some old)) (sym (mode_none n ts (sym h))) ∙ e)
    where
      none_both : (o : Option (List Bool)) → None ≡ both (Some []) o → None ≡ o
      none_both None e = refl
      none_both (Some l) e = absurd (cc)

  pub mode_term-is : (ts ws us : Trees ℕ) (c : Option Cell) (s : NameId) (k : ℕ) (o : Option (List Bool)) → c ≡ Some (Comp s k) → c ≡ first_cell ws → ws ≡ ts → us ≡ entered ws
      → o ≡ front_modes f k us → option_map (λ ms. (f s.0, ms)) o ≡ mode_term_in (renamed f (first ts))
  mode_term-is ts ws us c s k o cell peeked same next e =
      ap (option_map (λ ms. (f s.0, ms))) (e ∙ ap (front_modes f k) (next ∙ ap entered same))
      ∙ ap (λ d. mode_term_by d (entered ts)) (sym cell ∙ peeked ∙ ap first_cell same)
      ∙ sym (mode_term-cells ts)
