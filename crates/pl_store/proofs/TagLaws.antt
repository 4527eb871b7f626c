-- Laws of tags and of the index.
use Rattle.std.proofs.Common.{◌≡◌, ℕ, zero, suc, ◌+◌, ◌<◌, ◌⊎◌, inl, inr, Bool, true, false, ◌&&◌, ◌||◌, List, [], ◌∷◌, ◌++◌, length, slice_get, get_or, nat_eq, Some, refl, sym, ap, subst, ◌∙◌, if◌then◌else◌, arith}
use Rattle.std.specs.List.{list_any}
use Rattle.std.proofs.lemmas.Bool.{false≢true}
use Rattle.std.proofs.lemmas.Bool.Decides.{Decides-eqb, Decides-int_eq}
use Rattle.std.proofs.lemmas.List.{length-map, length-append, get_or_append_left, get_or_push, get_or-map}
use Rattle.std.proofs.lemmas.Option.{none-some}
use Rattle.pl_store.specs.Places.{places, next_place}
use Rattle.pl_store.specs.Tags.{same_class, same_tag, is_owned, tags_of, no_tag, no_entry, no_ends, with_tag, with_list, IsLast, IsIndex}
use Rattle.pl_store.specs.declared.index.Class.{Class}
use Rattle.pl_store.specs.declared.index.Class.TheVariants.{Open, Int, Name, Comp}
use Rattle.pl_store.specs.declared.index.Tag.{Tag}
use Rattle.pl_store.specs.declared.index.Entry.{Entry}
use Rattle.pl_store.specs.declared.index.Ends.{Ends}
use Rattle.pl_store.proofs.PlaceLaws.{next_place-nowhere, none-places}

-- ---- tests

pub and_both : (a b : Bool) → (a && b) ≡ true → (a ≡ true) × (b ≡ true)
and_both true b h = (refl, h)
and_both false b h = absurd (false≢true h)

pub eq-is : (m n : ℕ) → nat_eq m n ≡ true → m ≡ n
eq-is m n = (Decides-eqb m n).0

pub eq-itself : (n : ℕ) → nat_eq n n ≡ true
eq-itself n = (Decides-eqb n n).1 refl

pub same_class-is : (c d : Class) → same_class c d ≡ true → c ≡ d
same_class-is Open Open h = refl
same_class-is Open (Int z) h = absurd (false≢true h)
same_class-is Open (Name s) h = absurd (false≢true h)
same_class-is Open (Comp f k) h = absurd (false≢true h)
same_class-is (Int y) Open h = absurd (false≢true h)
same_class-is (Int y) (Int z) h = ap Int ((Decides-int_eq y z).0 h)
same_class-is (Int y) (Name s) h = absurd (false≢true h)
same_class-is (Int y) (Comp f k) h = absurd (false≢true h)
same_class-is (Name r) Open h = absurd (false≢true h)
same_class-is (Name r) (Int z) h = absurd (false≢true h)
same_class-is (Name r) (Name s) h = ap Name (eq-is r s h)
same_class-is (Name r) (Comp f k) h = absurd (false≢true h)
same_class-is (Comp f k) Open h = absurd (false≢true h)
same_class-is (Comp f k) (Int z) h = absurd (false≢true h)
same_class-is (Comp f k) (Name s) h = absurd (false≢true h)
same_class-is (Comp f k) (Comp g n) h =
    let p = and_both (nat_eq f g) (nat_eq k n) h in
    let e : f ≡ g = eq-is f g p.0 in
    let q : k ≡ n = eq-is k n p.1 in
    cc

pub same_class-itself : (c : Class) → same_class c c ≡ true
same_class-itself Open = refl
same_class-itself (Int z) = (Decides-int_eq z z).1 refl
same_class-itself (Name s) = eq-itself s
same_class-itself (Comp f k) = ap (λ b. b && nat_eq k k) (eq-itself f) ∙ eq-itself k

pub same_tag-is : (s t : Tag) → same_tag s t ≡ true → s ≡ t
same_tag-is s t h =
    let p = and_both (nat_eq s.owner t.owner) (same_class s.class t.class) h in
    let e : s.owner ≡ t.owner = eq-is s.owner t.owner p.0 in
    let q : s.class ≡ t.class = same_class-is s.class t.class p.1 in
    λ i. record { owner = e i; class = q i }

pub same_tag-itself : (t : Tag) → same_tag t t ≡ true
same_tag-itself t = ap (λ b. b && same_class t.class t.class) (eq-itself t.owner) ∙ same_class-itself t.class

-- ---- one more procedure

module _ (entries : List Entry) (ends : List Ends) (tags : List Tag) (groups : List (List ℕ)) (was : IsIndex entries ends tags groups) where
  pub IsIndex-owner : IsIndex entries (ends ++ no_ends ∷ []) tags groups
  IsIndex-owner = record {
    next = was.next;
    owned = λ i h. omega (arith, was.owned i h, length-append ends (no_ends ∷ []));
    first = λ p h. first p h (split p h);
    last = λ p h. last p h (split p h);
    count = was.count;
    grouped = was.grouped;
    others = was.others;
    group = was.group;
  }
    where
      split : (p : ℕ) → p < length (ends ++ no_ends ∷ []) → (p < length ends) ⊎ (p ≡ length ends)
      split p h = grind (arith, length-append ends (no_ends ∷ []))

      old : (p : ℕ) → p < length ends → get_or (ends ++ no_ends ∷ []) p no_ends ≡ get_or ends p no_ends
      old p h = get_or_append_left ends (no_ends ∷ []) no_ends p h

      new : (p : ℕ) → p ≡ length ends → get_or (ends ++ no_ends ∷ []) p no_ends ≡ no_ends
      new p e = get_or_push ends no_ends no_ends p (sym e)

      nowhere : (p : ℕ) → p ≡ length ends → (l : List Entry) → ((i : ℕ) → i < length l → (get_or l i no_entry).tag.owner < length ends) → places (is_owned p) (tags_of l) ≡ []
      nowhere p e l h = none-places (is_owned p) (tags_of l) no_tag none
        where
          none : (m : ℕ) → m < length (tags_of l) → is_owned p (get_or (tags_of l) m no_tag) ≡ true → ⊥
          none m lt pass =
              let within : m < length l = omega (arith, length-map l (λ (x : Entry). x.tag)) in
              let same : get_or (tags_of l) m no_tag ≡ (get_or l m no_entry).tag = get_or-map (λ (x : Entry). x.tag) l m no_entry no_tag within in
              let owner : p ≡ (get_or l m no_entry).tag.owner = eq-is p _ (ap (is_owned p) (sym same) ∙ pass) in
              absurd (omega (arith, h m within))

      first : (p : ℕ) → p < length (ends ++ no_ends ∷ []) → (p < length ends) ⊎ (p ≡ length ends) → (get_or (ends ++ no_ends ∷ []) p no_ends).first ≡ next_place (is_owned p) 0 (tags_of entries)
      first p h (inl lt) = ap (λ (x : Ends). x.first) (old p lt) ∙ was.first p lt
      first p h (inr e) = ap (λ (x : Ends). x.first) (new p e) ∙ sym (next_place-nowhere (is_owned p) 0 (tags_of entries) (nowhere p e entries was.owned))

      last : (p : ℕ) → p < length (ends ++ no_ends ∷ []) → (p < length ends) ⊎ (p ≡ length ends) → IsLast (tags_of entries) p (get_or (ends ++ no_ends ∷ []) p no_ends).last
      last p h (inl lt) = subst (λ (x : Ends). IsLast (tags_of entries) p x.last) (sym (old p lt)) (was.last p lt)
      last p h (inr e) = subst (λ (x : Ends). IsLast (tags_of entries) p x.last) (sym (new p e)) (nowhere p e entries was.owned)

  -- ---- an empty group

  pub IsIndex-tag : (t : Tag) → list_any (same_tag t) tags ≡ false → IsIndex entries ends (tags ++ t ∷ []) (groups ++ [] ∷ [])
  IsIndex-tag t absent = record {
    next = was.next;
    owned = was.owned;
    first = was.first;
    last = was.last;
    count = length-append groups ([] ∷ []) ∙ ap (λ n. n + 1) was.count ∙ sym (length-append tags (t ∷ []));
    grouped = λ g h. grouped g (split g h);
    others = λ u h. was.others u (less u tags h);
    group = λ i h. more tags _ _ (was.group i h);
  }
    where
      split : (g : ℕ) → g < length (tags ++ t ∷ []) → (g < length tags) ⊎ (g ≡ length tags)
      split g h = grind (arith, length-append tags (t ∷ []))

      grouped : (g : ℕ) → (g < length tags) ⊎ (g ≡ length tags) → get_or (groups ++ [] ∷ []) g [] ≡ places (same_tag (get_or (tags ++ t ∷ []) g no_tag)) (tags_of entries)
      grouped g (inl lt) =
          get_or_append_left groups ([] ∷ []) [] g (omega (arith, was.count))
          ∙ was.grouped g lt
          ∙ ap (λ u. places (same_tag u) (tags_of entries)) (sym (get_or_append_left tags (t ∷ []) no_tag g lt))
      grouped g (inr e) =
          get_or_push groups [] [] g (was.count ∙ sym e)
          ∙ sym (was.others t absent)
          ∙ ap (λ u. places (same_tag u) (tags_of entries)) (sym (get_or_push tags t no_tag g (sym e)))

      less : (u : Tag) (l : List Tag) → list_any (same_tag u) (l ++ t ∷ []) ≡ false → list_any (same_tag u) l ≡ false
      less u [] h = refl
      less u (x ∷ l) h = by (same_tag u x) (less u l) h
        where
          by : (b : Bool) → (list_any (same_tag u) (l ++ t ∷ []) ≡ false → list_any (same_tag u) l ≡ false) → (b || list_any (same_tag u) (l ++ t ∷ [])) ≡ false → (b || list_any (same_tag u) l) ≡ false
          by true rest e = e
          by false rest e = rest e

      more : (l : List Tag) (i : ℕ) (u : Tag) → slice_get l i ≡ Some u → slice_get (l ++ t ∷ []) i ≡ Some u
      more [] i u h = absurd (none-some u h)
      more (x ∷ l) zero u h = h
      more (x ∷ l) (suc i) u h = more l i u h

  pub IsIndex-group : (t : Tag) → IsIndex entries ends (with_tag tags t) (with_list tags t groups)
  IsIndex-group t = by (list_any (same_tag t) tags) refl
    where
      by : (b : Bool) → list_any (same_tag t) tags ≡ b → IsIndex entries ends (if b then tags else tags ++ t ∷ []) (if b then groups else groups ++ [] ∷ [])
      by true e = was
      by false e = IsIndex-tag t e
