-- An index stays one where a clause is put last.
use Rattle.std.proofs.Common.{◌≡◌, ℕ, zero, suc, ◌+◌, ◌<◌, ◌⊎◌, inl, inr, Bool, true, false, List, [], ◌∷◌, ◌++◌, length, slice_get, set, get_or, nat_eq, Option, None, Some, refl, sym, ap, subst, ◌∙◌, if◌then◌else◌, arith}
use Rattle.std.specs.List.{list_any, IsDistinct}
use Rattle.std.proofs.lemmas.Bool.{false≢true}
use Rattle.std.proofs.lemmas.Bool.Decides.{Decides-eqb}
use Rattle.std.proofs.lemmas.List.{length-map, length-append, length-set, map-append, get_or-set_same, get_or-set_other, get_or_append_left, get_or_push, get_or-map}
use Rattle.std.proofs.lemmas.List.Folds.{list_any_at}
use Rattle.std.proofs.lemmas.Map.Keys.{apart_from_distinct}
use Rattle.std.proofs.lemmas.Option.{slice_get_within, get_or_from_slice_get}
use Rattle.pl_store.specs.Places.{places, next_place}
use Rattle.pl_store.specs.Tags.{same_tag, is_owned, tags_of, no_tag, no_entry, no_ends, or_else, linked, IsLast, IsIndex}
use Rattle.pl_store.specs.declared.index.Tag.{Tag}
use Rattle.pl_store.specs.declared.index.Entry.{Entry}
use Rattle.pl_store.specs.declared.index.Ends.{Ends}
use Rattle.pl_store.proofs.PlaceLaws.{places-yes, places-no, next_place-yes, next_place-no, next_place-none, next_place-past, next_place-nowhere}
use Rattle.pl_store.proofs.TagLaws.{eq-is, same_tag-is, same_tag-itself}

eq-not : (m n : ℕ) → nat_eq m n ≡ false → m ≡ n → ⊥
eq-not m n h e = false≢true (sym h ∙ (Decides-eqb m n).1 e)

not-eq : (m n : ℕ) → (m ≡ n → ⊥) → nat_eq m n ≡ false
not-eq m n h = by (nat_eq m n) refl
  where
    by : (b : Bool) → nat_eq m n ≡ b → b ≡ false
    by true e = absurd (h (eq-is m n e))
    by false e = refl

-- ---- an entry that leads to the new clause

set-tags : (xs : List Entry) (l : ℕ) (o : Option ℕ) → tags_of (set xs l (record (get_or xs l no_entry) { next = o })) ≡ tags_of xs
set-tags [] l o = refl
set-tags (x ∷ xs) zero o = refl
set-tags (x ∷ xs) (suc l) o = ap (λ ts. x.tag ∷ ts) (set-tags xs l o)

pub linked-tags : (xs : List Entry) (last : Option ℕ) (n : ℕ) → tags_of (linked xs last n) ≡ tags_of xs
linked-tags xs None n = refl
linked-tags xs (Some l) n = set-tags xs l (Some n)

length-linked : (xs : List Entry) (last : Option ℕ) (n : ℕ) → length (linked xs last n) ≡ length xs
length-linked xs None n = refl
length-linked xs (Some l) n = length-set xs l (record (get_or xs l no_entry) { next = Some n })

abbrev next_in : Option ℕ → ℕ → ℕ → Option ℕ → Option ℕ
next_in None i n o = o
next_in (Some l) i n o = if nat_eq i l then Some n else o

with_next : Entry → Option ℕ → Entry
with_next x o = record { tag = x.tag; next = o; group = x.group }

linked-at : (xs : List Entry) (last : Option ℕ) (i n : ℕ) → i < length xs → get_or (linked xs last n) i no_entry ≡ with_next (get_or xs i no_entry) (next_in last i n (get_or xs i no_entry).next)
unfolding with_next
linked-at xs None i n h = refl
linked-at xs (Some l) i n h = by (nat_eq i l) refl
  where
    by : (b : Bool) → nat_eq i l ≡ b → get_or (set xs l (record (get_or xs l no_entry) { next = Some n })) i no_entry ≡ with_next (get_or xs i no_entry) (if b then Some n else (get_or xs i no_entry).next)
    by true e =
        let same : i ≡ l = eq-is i l e in
        ap (λ j. get_or (set xs l (record (get_or xs l no_entry) { next = Some n })) j no_entry) same
        ∙ get_or-set_same xs l (record (get_or xs l no_entry) { next = Some n }) no_entry (subst (λ j. j < length xs) same h)
        ∙ ap (λ j. with_next (get_or xs j no_entry) (Some n)) (sym same)
    by false e = get_or-set_other xs l i (record (get_or xs l no_entry) { next = Some n }) no_entry (eq-not i l e)

-- ---- the index

module _ (entries : List Entry) (ends : List Ends) (tags : List Tag) (groups : List (List ℕ)) (was : IsIndex entries ends tags groups)
    (distinct : IsDistinct same_tag tags) (t : Tag) (g : ℕ) (at : slice_get tags g ≡ Some t) (owned : t.owner < length ends)
    (e : Ends) (is_first : e.first ≡ or_else (get_or ends t.owner no_ends).first (length entries)) (is_last : e.last ≡ Some (length entries))
    (ps : List ℕ) (is_group : ps ≡ get_or groups g [] ++ length entries ∷ []) where
  abbrev T : List Tag
  T = tags_of entries

  abbrev old_last : Option ℕ
  old_last = (get_or ends t.owner no_ends).last

  abbrev entry : Entry
  entry = record { tag = t; next = None; group = g }

  abbrev entries' : List Entry
  entries' = linked entries old_last (length entries) ++ entry ∷ []

  count-T : length T ≡ length entries
  count-T = length-map entries (λ (x : Entry). x.tag)

  count-front : length (linked entries old_last (length entries)) ≡ length entries
  count-front = length-linked entries old_last (length entries)

  pub tags-entries' : tags_of entries' ≡ T ++ t ∷ []
  tags-entries' =
      map-append (λ (x : Entry). x.tag) (linked entries old_last (length entries)) (entry ∷ [])
      ∙ ap (λ l. l ++ t ∷ []) (linked-tags entries old_last (length entries))

  tag-at : (i : ℕ) → i < length entries → get_or T i no_tag ≡ (get_or entries i no_entry).tag
  tag-at i h = get_or-map (λ (x : Entry). x.tag) entries i no_entry no_tag h

  entry-old : (i : ℕ) → i < length entries → get_or entries' i no_entry ≡ with_next (get_or entries i no_entry) (next_in old_last i (length entries) (get_or entries i no_entry).next)
  entry-old i h =
      get_or_append_left (linked entries old_last (length entries)) (entry ∷ []) no_entry i (omega (arith, count-front))
      ∙ linked-at entries old_last i (length entries) h

  entry-new : (i : ℕ) → i ≡ length entries → get_or entries' i no_entry ≡ entry
  entry-new i h = get_or_push (linked entries old_last (length entries)) entry no_entry i (count-front ∙ sym h)

  split : (i : ℕ) → i < length entries' → (i < length entries) ⊎ (i ≡ length entries)
  split i h =
      let n = length-append (linked entries old_last (length entries)) (entry ∷ []) in
      grind (arith, n, count-front)

  -- the link of an old clause of the procedure
  link : (i : ℕ) → i < length entries → (l : Option ℕ) → IsLast T t.owner l → (get_or entries i no_entry).tag.owner ≡ t.owner →
      next_in l i (length entries) (get_or entries i no_entry).next ≡ or_else (get_or entries i no_entry).next (length entries)
  link i h None none own = absurd (next_place-none (is_owned t.owner) 0 T (next_place-nowhere (is_owned t.owner) 0 T none) i no_tag (omega arith) (omega (arith, count-T)) holds)
    where
      holds : is_owned t.owner (get_or T i no_tag) ≡ true
      holds = ap (is_owned t.owner) (tag-at i h) ∙ (Decides-eqb _ _).1 (sym own)
  link i h (Some l) last own = by (nat_eq i l) refl (get_or entries i no_entry).next refl
    where
      holds : is_owned t.owner (get_or T i no_tag) ≡ true
      holds = ap (is_owned t.owner) (tag-at i h) ∙ (Decides-eqb _ _).1 (sym own)

      next_is : (get_or entries i no_entry).next ≡ next_place (is_owned t.owner) (i + 1) T
      next_is = was.next i h ∙ ap (λ p. next_place (is_owned p) (i + 1) T) own

      by : (b : Bool) → nat_eq i l ≡ b → (o : Option ℕ) → (get_or entries i no_entry).next ≡ o → (if b then Some (length entries) else o) ≡ or_else o (length entries)
      by true same o f =
          let at_l : i ≡ l = eq-is i l same in
          let none : o ≡ None = sym f ∙ next_is ∙ ap (λ j. next_place (is_owned t.owner) (j + 1) T) at_l ∙ last.2 in
          sym (ap (λ q. or_else q (length entries)) none)
      by false other (Some m) f = refl
      by false other None f =
          let none : next_place (is_owned t.owner) (i + 1) T ≡ None = sym next_is ∙ f in
          let differ : i ≡ l → ⊥ = eq-not i l other in
          let not_below : i < l → ⊥ = λ lt. next_place-none (is_owned t.owner) (i + 1) T none l no_tag (omega arith) last.0 last.1 in
          let not_above : l < i → ⊥ = λ lt. next_place-none (is_owned t.owner) (l + 1) T last.2 i no_tag (omega arith) (omega (arith, count-T)) holds in
          absurd (omega arith)

  -- an old clause of another procedure is not the last one of this
  other-link : (i : ℕ) → i < length entries → (l : Option ℕ) → IsLast T t.owner l → ((get_or entries i no_entry).tag.owner ≡ t.owner → ⊥) →
      next_in l i (length entries) (get_or entries i no_entry).next ≡ (get_or entries i no_entry).next
  other-link i h None none own = refl
  other-link i h (Some l) last own = by (nat_eq i l) refl
    where
      by : (b : Bool) → nat_eq i l ≡ b → (if b then Some (length entries) else (get_or entries i no_entry).next) ≡ (get_or entries i no_entry).next
      by true same =
          let at_l : i ≡ l = eq-is i l same in
          absurd (own (sym (eq-is t.owner _ (ap (is_owned t.owner) (sym (tag-at i h)) ∙ ap (λ j. is_owned t.owner (get_or T j no_tag)) at_l ∙ last.1))))
      by false other = refl

  new-next : (i : ℕ) → i < length entries → next_in old_last i (length entries) (get_or entries i no_entry).next ≡ next_place (is_owned (get_or entries i no_entry).tag.owner) (i + 1) (T ++ t ∷ [])
  new-next i h = by (nat_eq p t.owner) refl
    where
      p : ℕ
      p = (get_or entries i no_entry).tag.owner

      by : (b : Bool) → nat_eq (get_or entries i no_entry).tag.owner t.owner ≡ b → next_in old_last i (length entries) (get_or entries i no_entry).next ≡ next_place (is_owned (get_or entries i no_entry).tag.owner) (i + 1) (T ++ t ∷ [])
      by true same =
          link i h old_last (was.last t.owner owned) (eq-is _ _ same)
          ∙ ap (λ o. or_else o (length entries)) (was.next i h)
          ∙ ap (or_else (next_place (is_owned (get_or entries i no_entry).tag.owner) (i + 1) T)) (sym count-T)
          ∙ sym (next_place-yes (is_owned (get_or entries i no_entry).tag.owner) (i + 1) T t same (omega (arith, count-T)))
      by false other =
          other-link i h old_last (was.last t.owner owned) (eq-not _ _ other)
          ∙ was.next i h
          ∙ sym (next_place-no (is_owned (get_or entries i no_entry).tag.owner) (i + 1) T t other)

  pub IsIndex-add : IsIndex entries' (set ends t.owner e) tags (set groups g ps)
  unfolding with_next
  IsIndex-add = record {
    next = λ i h. next i h (split i h);
    owned = λ i h. in_ends i h (split i h);
    first = λ p h. first p h (nat_eq p t.owner) refl;
    last = λ p h. last p h (nat_eq p t.owner) refl;
    count = length-set groups g ps ∙ was.count;
    grouped = λ k h. grouped k h (nat_eq k g) refl;
    others = λ u h. ap (places (same_tag u)) tags-entries' ∙ places-no (same_tag u) T t (absent u h (same_tag u t) refl) ∙ was.others u h;
    group = λ i h. group i h (split i h);
  }
    where
      next : (i : ℕ) → i < length entries' → (i < length entries) ⊎ (i ≡ length entries) → (get_or entries' i no_entry).next ≡ next_place (is_owned (get_or entries' i no_entry).tag.owner) (i + 1) (tags_of entries')
      next i h (inl lt) =
          ap (λ (x : Entry). x.next) (entry-old i lt)
          ∙ new-next i lt
          ∙ ap (λ (x : Entry). next_place (is_owned x.tag.owner) (i + 1) (T ++ t ∷ [])) (sym (entry-old i lt))
          ∙ ap (next_place (is_owned (get_or entries' i no_entry).tag.owner) (i + 1)) (sym tags-entries')
      next i h (inr q) =
          ap (λ (x : Entry). x.next) (entry-new i q)
          ∙ sym (next_place-past (is_owned (get_or entries' i no_entry).tag.owner) (i + 1) (tags_of entries') (omega (arith, h, length-map entries' (λ (x : Entry). x.tag), q, length-append (linked entries old_last (length entries)) (entry ∷ []), count-front)))

      in_ends : (i : ℕ) → i < length entries' → (i < length entries) ⊎ (i ≡ length entries) → (get_or entries' i no_entry).tag.owner < length (set ends t.owner e)
      in_ends i h (inl lt) = let o = ap (λ (x : Entry). x.tag.owner) (entry-old i lt) in omega (arith, o, was.owned i lt, length-set ends t.owner e)
      in_ends i h (inr q) = let o = ap (λ (x : Entry). x.tag.owner) (entry-new i q) in omega (arith, o, owned, length-set ends t.owner e)

      ends-same : (p : ℕ) → p ≡ t.owner → get_or (set ends t.owner e) p no_ends ≡ e
      ends-same p q = ap (λ j. get_or (set ends t.owner e) j no_ends) q ∙ get_or-set_same ends t.owner e no_ends owned

      ends-other : (p : ℕ) → (p ≡ t.owner → ⊥) → get_or (set ends t.owner e) p no_ends ≡ get_or ends p no_ends
      ends-other p q = get_or-set_other ends t.owner p e no_ends q

      first : (p : ℕ) → p < length (set ends t.owner e) → (b : Bool) → nat_eq p t.owner ≡ b → (get_or (set ends t.owner e) p no_ends).first ≡ next_place (is_owned p) 0 (tags_of entries')
      first p h true same =
          let q : p ≡ t.owner = eq-is p t.owner same in
          ap (λ (x : Ends). x.first) (ends-same p q)
          ∙ is_first
          ∙ ap (λ o. or_else o (length entries)) (was.first t.owner owned ∙ ap (λ j. next_place (is_owned j) 0 T) (sym q))
          ∙ ap (or_else (next_place (is_owned p) 0 T)) (sym count-T)
          ∙ sym (next_place-yes (is_owned p) 0 T t same (omega arith))
          ∙ ap (next_place (is_owned p) 0) (sym tags-entries')
      first p h false other =
          ap (λ (x : Ends). x.first) (ends-other p (eq-not p t.owner other))
          ∙ was.first p (omega (arith, h, length-set ends t.owner e))
          ∙ sym (next_place-no (is_owned p) 0 T t other)
          ∙ ap (next_place (is_owned p) 0) (sym tags-entries')

      last-other : (p : ℕ) → nat_eq p t.owner ≡ false → (l : Option ℕ) → IsLast T p l → IsLast (T ++ t ∷ []) p l
      last-other p other None h = places-no (is_owned p) T t other ∙ h
      last-other p other (Some l) h =
          (omega (arith, h.0, length-append T (t ∷ [])), ap (is_owned p) (get_or_append_left T (t ∷ []) no_tag l h.0) ∙ h.1, next_place-no (is_owned p) (l + 1) T t other ∙ h.2)

      last-new : (p : ℕ) → p ≡ t.owner → IsLast (T ++ t ∷ []) p (Some (length entries))
      last-new p q =
          (omega (arith, count-T, length-append T (t ∷ [])), ap (is_owned p) (get_or_push T t no_tag (length entries) count-T) ∙ (Decides-eqb p t.owner).1 q, next_place-past (is_owned p) (length entries + 1) (T ++ t ∷ []) (omega (arith, count-T, length-append T (t ∷ []))))

      last : (p : ℕ) → p < length (set ends t.owner e) → (b : Bool) → nat_eq p t.owner ≡ b → IsLast (tags_of entries') p (get_or (set ends t.owner e) p no_ends).last
      last p h true same =
          let q : p ≡ t.owner = eq-is p t.owner same in
          subst (λ o. IsLast (tags_of entries') p o) (sym (ap (λ (x : Ends). x.last) (ends-same p q) ∙ is_last))
          (subst (λ ts. IsLast ts p (Some (length entries))) (sym tags-entries') (last-new p q))
      last p h false other =
          subst (λ o. IsLast (tags_of entries') p o) (sym (ap (λ (x : Ends). x.last) (ends-other p (eq-not p t.owner other))))
          (subst (λ ts. IsLast ts p (get_or ends p no_ends).last) (sym tags-entries') (last-other p other (get_or ends p no_ends).last (was.last p (omega (arith, h, length-set ends t.owner e)))))

      at_g : get_or tags g no_tag ≡ t
      at_g = get_or_from_slice_get tags g t no_tag at

      g-within : g < length tags
      g-within = slice_get_within tags g t at

      apart : (k : ℕ) → k < length tags → (k ≡ g → ⊥) → same_tag (get_or tags k no_tag) t ≡ true → ⊥
      apart k h q s =
          let same : get_or tags k no_tag ≡ get_or tags g no_tag = same_tag-is _ t s ∙ sym at_g in
          let below : k < g → ⊥ = λ lt. false≢true (sym (apart_from_distinct same_tag tags k g no_tag distinct lt g-within) ∙ ap (same_tag (get_or tags k no_tag)) (sym same) ∙ same_tag-itself (get_or tags k no_tag)) in
          let above : g < k → ⊥ = λ lt. false≢true (sym (apart_from_distinct same_tag tags g k no_tag distinct lt h) ∙ ap (same_tag (get_or tags g no_tag)) same ∙ same_tag-itself (get_or tags g no_tag)) in
          omega arith

      unlike : (k : ℕ) → k < length tags → (k ≡ g → ⊥) → same_tag (get_or tags k no_tag) t ≡ false
      unlike k h q = by (same_tag (get_or tags k no_tag) t) refl
        where
          by : (b : Bool) → same_tag (get_or tags k no_tag) t ≡ b → b ≡ false
          by true s = absurd (apart k h q s)
          by false s = refl

      grouped : (k : ℕ) → k < length tags → (b : Bool) → nat_eq k g ≡ b → get_or (set groups g ps) k [] ≡ places (same_tag (get_or tags k no_tag)) (tags_of entries')
      grouped k h true same =
          let q : k ≡ g = eq-is k g same in
          let tag : get_or tags k no_tag ≡ t = ap (λ j. get_or tags j no_tag) q ∙ at_g in
          ap (λ j. get_or (set groups g ps) j []) q
          ∙ get_or-set_same groups g ps [] (omega (arith, g-within, was.count))
          ∙ is_group
          ∙ ap (λ l. l ++ length entries ∷ []) (was.grouped g g-within ∙ ap (λ j. places (same_tag (get_or tags j no_tag)) T) (sym q))
          ∙ ap (λ n. places (same_tag (get_or tags k no_tag)) T ++ n ∷ []) (sym count-T)
          ∙ sym (places-yes (same_tag (get_or tags k no_tag)) T t (ap (λ u. same_tag u t) tag ∙ same_tag-itself t))
          ∙ ap (places (same_tag (get_or tags k no_tag))) (sym tags-entries')
      grouped k h false other =
          get_or-set_other groups g k ps [] (eq-not k g other)
          ∙ was.grouped k h
          ∙ sym (places-no (same_tag (get_or tags k no_tag)) T t (unlike k h (eq-not k g other)))
          ∙ ap (places (same_tag (get_or tags k no_tag))) (sym tags-entries')

      absent : (u : Tag) → list_any (same_tag u) tags ≡ false → (b : Bool) → same_tag u t ≡ b → b ≡ false
      absent u h true s = absurd (false≢true (sym h ∙ list_any_at (same_tag u) tags g no_tag g-within (ap (same_tag u) at_g ∙ s)))
      absent u h false s = refl

      group : (i : ℕ) → i < length entries' → (i < length entries) ⊎ (i ≡ length entries) → slice_get tags (get_or entries' i no_entry).group ≡ Some (get_or entries' i no_entry).tag
      group i h (inl lt) =
          ap (λ (x : Entry). slice_get tags x.group) (entry-old i lt)
          ∙ was.group i lt
          ∙ ap (λ (x : Entry). Some x.tag) (sym (entry-old i lt))
      group i h (inr q) =
          ap (λ (x : Entry). slice_get tags x.group) (entry-new i q)
          ∙ at
          ∙ ap (λ (x : Entry). Some x.tag) (sym (entry-new i q))
