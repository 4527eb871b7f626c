-- The rows of causes.
use Rattle.std.proofs.Common.{◌≡◌, List, length, map, Bool, true, false, ◌&&◌, cond, refl, sym, ap, subst, ◌∙◌, Option, Some, None}
use Rattle.std.specs.Prelude.{Contains, Result, Ok, Err, IfOk}
use Rattle.std.specs.List.{filter_map}
use Rattle.std.specs.List.Sorted.{IsSorted, IsPermutation}
use Rattle.std.specs.Option.{option_map}
use Rattle.std.proofs.lemmas.List.Sorted.{Contains-permutation, IsPermutation-sym}
use Rattle.search_model.specs.declared.rows.VisibleRow.{VisibleRow}
use Rattle.unit_model.specs.Facts.{Facts}
use Rattle.unit_model.specs.Directives.{Text}
use Rattle.unit_model.specs.Encoding.{text_at}
use Rattle.link_model.specs.Places.{places_of}
use Rattle.link_model.specs.Seeing.{causes}
use Rattle.link_model.specs.Faults.{is_seeing}
use Rattle.link_model.specs.Rows.{Row, row_cmp, seen_row}
use Rattle.mod_visible.specs.declared.cause.Cause.{Cause}
use Rattle.mod_visible.specs.Causing.{sort_view, cause_text}
use Rattle.mod_visible.specs.Clashing.{row_at, is_shown, row_of}
use Rattle.mod_visible.specs.Finding.{row_text, IsNamedRow, AreRows}
use Rattle.mod_visible.specs.Ordered.{distinct_after}
use Rattle.mod_visible.specs.Visibility.{HasCauses, AreModules}
use Rattle.mod_visible.proofs.Members.{in-map, of-map, in-filter_map, of-filter_map, made_if}
use Rattle.mod_visible.proofs.OrderedLaws.{for_all, sorted-is}
use Rattle.mod_visible.proofs.PlaceLaws.{row_total, row_same, in_order-is}

mapped_if : {A B : Type 0} (f : A → B) (b : Bool) (x : A) → option_map f (cond b (Some x) None) ≡ cond b (Some (f x)) None
mapped_if f true x = refl
mapped_if f false x = refl

unmapped : {A B : Type 0} (f : A → B) (o : Option A) (y : B) → option_map f o ≡ Some y → (x : A) × (o ≡ Some x) × (y ≡ f x)
unmapped f None y e = absurd cc
unmapped f (Some x) y e = (x, refl, (let g : f x ≡ y = cc in sym g))

pub both_ok : {X E : Type 0} (r : Result X E) (P Q R : X → Type 0) → ((x : X) → P x → Q x → R x) → IfOk r P → IfOk r Q → IfOk r R
both_ok (Ok x) P Q R f p q = f x p q
both_ok (Err e) P Q R f p q = tt

module _ (us : List (Facts Text)) (names modules : List Text) (cs : List Cause) (h : HasCauses us names cs) (are : AreModules us modules) where
  abbrev found : List VisibleRow
  found = filter_map (row_of names modules) cs

  abbrev want : List Row
  want = filter_map (seen_row us) (causes (places_of 0 us))

  seen-is : (c : Cause) → option_map (row_text names) (row_of names modules c) ≡ seen_row us (cause_text names c)
  seen-is c =
      mapped_if (row_text names) (is_shown names modules c) (row_at c)
      ∙ ap (λ b. cond (is_seeing (sort_view c.sort) && b) (Some (row_text names (row_at c))) None) (are (text_at names c.module.0))

  of-found : (z : Row) → Contains (map (row_text names) found) z → Contains want z
  of-found z i =
      let a = of-map (row_text names) found z i in
      let b = of-filter_map (row_of names modules) cs a.0 a.1 in
      let is : seen_row us (cause_text names b.0) ≡ Some z = sym (seen-is b.0) ∙ ap (option_map (row_text names)) b.2 ∙ ap Some (sym a.2) in
      in-filter_map (seen_row us) (causes (places_of 0 us)) (cause_text names b.0) z (h.there b.0 b.1) is

  in-found : (z : Row) → Contains want z → Contains (map (row_text names) found) z
  in-found z i =
      let a = of-filter_map (seen_row us) (causes (places_of 0 us)) z i in
      let c = h.all a.0 a.1 in
      let is : option_map (row_text names) (row_of names modules c.0) ≡ Some z = seen-is c.0 ∙ ap (seen_row us) c.2 ∙ a.2 in
      let r = unmapped (row_text names) (row_of names modules c.0) z is in
      subst (Contains (map (row_text names) found)) (sym r.2) (in-map (row_text names) found r.0 (in-filter_map (row_of names modules) cs c.0 r.0 c.1 r.1))

  named : (r : VisibleRow) → Contains found r → IsNamedRow (length names) r
  named r i =
      let a = of-filter_map (row_of names modules) cs r i in
      let made = made_if (is_shown names modules a.0) (row_at a.0) r a.2 in
      subst (IsNamedRow (length names)) made.1 (h.named a.0 a.1)

  pub are_rows : (sorted rows : List VisibleRow) → IsPermutation found sorted → IsSorted (λ a b. row_cmp (row_text names a) (row_text names b)) sorted
      → map (row_text names) rows ≡ distinct_after row_cmp None (map (row_text names) sorted) → ((r : VisibleRow) → Contains rows r → Contains sorted r) → AreRows names us rows
  are_rows sorted rows perm up texts those = record {
    named = for_all (IsNamedRow (length names)) rows (λ r i. named r (Contains-permutation sorted found r (IsPermutation-sym found sorted perm) (those r i)));
    texts = texts ∙ sorted-is row_cmp row_total (row_text names) row_same found sorted want perm up of-found in-found ∙ sym (in_order-is want);
  }
