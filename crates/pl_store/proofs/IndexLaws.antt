-- What an index says of its clauses.
use Rattle.std.proofs.Common.{◌≡◌, ℕ, ◌+◌, ◌-◌, ◌<◌, ◌⊎◌, inl, inr, Bool, true, false, ◌&&◌, ◌||◌, List, [], ◌∷◌, ◌++◌, length, slice_get, set, get_or, nat_eq, Vec, Option, None, Some, IfSome, is_some, position, refl, sym, ap, subst, ◌∙◌, arith}
use Rattle.std.specs.Global.{Global}
use Rattle.std.specs.List.{list_any, IsDistinct}
use Rattle.std.proofs.lemmas.List.{length-map, get_or-map, get_or_read, map-set, set-get_or}
use Rattle.std.proofs.lemmas.List.Quantifiers.{position-Some}
use Rattle.pl_store.specs.Places.{places, next_place, earlier}
use Rattle.pl_store.specs.Tags.{Indexed, same_class, same_tag, is_owned, is_candidate, tags_of, no_tag, no_entry, no_ends, or_else, linked, lists, with_tag, with_list, IsLast, IsIndex}
use Rattle.pl_store.specs.declared.index.Class.{Class}
use Rattle.pl_store.specs.declared.index.Class.TheVariants.{Open}
use Rattle.pl_store.specs.declared.index.Tag.{Tag}
use Rattle.pl_store.specs.declared.index.Entry.{Entry}
use Rattle.pl_store.specs.declared.index.Ends.{Ends}
use Rattle.pl_store.proofs.PlaceLaws.{next_place-some, next_place-nowhere, earlier-next, narrower-none, narrower-here, narrower-later}
use Rattle.pl_store.proofs.AddLaws.{IsIndex-add, tags-entries'}
use Rattle.pl_store.proofs.TagLaws.{and_both, eq-is, same_tag-is, IsIndex-group}

or_parts : (p q r : Bool) → (p && (q || r)) ≡ true → ((p && q) ≡ true) ⊎ ((p && r) ≡ true)
or_parts true true r h = inl refl
or_parts true false r h = inr h
or_parts false q r h = absurd (cc)

or_left : (p q r : Bool) → (p && q) ≡ true → (p && (q || r)) ≡ true
or_left true true r h = refl
or_left true false r h = absurd (cc)
or_left false q r h = h

or_right : (p q r : Bool) → (p && r) ≡ true → (p && (q || r)) ≡ true
or_right true true r h = refl
or_right true false r h = h
or_right false q r h = h

-- the first clause of two tags
pub looked-up : (owner : ℕ) (class : Class) (from : ℕ) (tags : List Tag) → earlier (next_place (same_tag (record { owner = owner; class = class })) from tags) (next_place (same_tag (record { owner = owner; class = Open })) from tags) ≡ next_place (is_candidate owner class) from tags
looked-up owner class from tags =
    earlier-next (same_tag (record { owner = owner; class = class })) (same_tag (record { owner = owner; class = Open })) (is_candidate owner class)
    (λ t h. or_parts (nat_eq owner t.owner) (same_class class t.class) (same_class Open t.class) h)
    (λ t h. or_left (nat_eq owner t.owner) (same_class class t.class) (same_class Open t.class) h)
    (λ t h. or_right (nat_eq owner t.owner) (same_class class t.class) (same_class Open t.class) h)
    from tags no_tag

-- ---- one clause after another

abbrev pub left : Option ℕ → ℕ → ℕ
left None n = 0
left (Some i) n = n - i

module _ (tags : List Tag) (owner : ℕ) (class : Class) (from k : ℕ) (kept : next_place (is_candidate owner class) k tags ≡ next_place (is_candidate owner class) from tags) where
  less : (t : Tag) → is_candidate owner class t ≡ true → is_owned owner t ≡ true
  less t h = (and_both (nat_eq owner t.owner) (same_class class t.class || same_class Open t.class) h).0

  pub scan-none : None ≡ next_place (is_owned owner) k tags → None ≡ next_place (is_candidate owner class) from tags
  scan-none e = sym (narrower-none (is_owned owner) (is_candidate owner class) less k tags (sym e)) ∙ kept

  module _ (place : ℕ) (at : Some place ≡ next_place (is_owned owner) k tags) where
    pub scan-within : place < length tags
    scan-within = (next_place-some (is_owned owner) k tags place (sym at)).within

    owned : is_owned owner (get_or tags place no_tag) ≡ true
    owned = (next_place-some (is_owned owner) k tags place (sym at)).holds no_tag

    pub scan-found : (same_class class (get_or tags place no_tag).class || same_class Open (get_or tags place no_tag).class) ≡ true → Some place ≡ next_place (is_candidate owner class) from tags
    scan-found h =
        sym (narrower-here (is_owned owner) (is_candidate owner class) less k tags place no_tag (sym at)
        (ap (λ b. b && (same_class class (get_or tags place no_tag).class || same_class Open (get_or tags place no_tag).class)) owned ∙ h))
        ∙ kept

    pub scan-owner : (get_or tags place no_tag).owner ≡ owner
    scan-owner = sym (eq-is owner _ owned)

    pub scan-more : (same_class class (get_or tags place no_tag).class || same_class Open (get_or tags place no_tag).class) ≡ false → next_place (is_candidate owner class) (place + 1) tags ≡ next_place (is_candidate owner class) from tags
    scan-more h =
        sym (narrower-later (is_owned owner) (is_candidate owner class) less k tags place no_tag (sym at)
        (ap (λ b. b && (same_class class (get_or tags place no_tag).class || same_class Open (get_or tags place no_tag).class)) owned ∙ h))
        ∙ kept

pub scan-falls : (tags : List Tag) (p place : ℕ) (next : Option ℕ) → place < length tags → next ≡ next_place (is_owned p) (place + 1) tags → left next (length tags) < left (Some place) (length tags)
scan-falls tags p place None h e = omega arith
scan-falls tags p place (Some i) h e = let n = next_place-some (is_owned p) (place + 1) tags i (sym e) in omega (arith, n.from, n.within)

-- ---- what stands in the fields

module _ (entries : List Entry) (ends : List Ends) (tags : List Tag) (groups : List (List ℕ)) (was : IsIndex entries ends tags groups) where
  pub entry-tag : (place : ℕ) (x : Entry) → place < length (tags_of entries) → x ≡ get_or entries place x → x.tag ≡ get_or (tags_of entries) place no_tag
  entry-tag place x h e =
      let low : place < length entries = omega (arith, h, length-map entries (λ (y : Entry). y.tag)) in
      ap (λ (y : Entry). y.tag) (get_or_read entries place x low e no_entry) ∙ sym (get_or-map (λ (y : Entry). y.tag) entries place no_entry no_tag low)

  pub entry-next : (place : ℕ) (x : Entry) → place < length (tags_of entries) → x ≡ get_or entries place x → x.next ≡ next_place (is_owned x.tag.owner) (place + 1) (tags_of entries)
  entry-next place x h e =
      let low : place < length entries = omega (arith, h, length-map entries (λ (y : Entry). y.tag)) in
      let same = get_or_read entries place x low e no_entry in
      ap (λ (y : Entry). y.next) same ∙ was.next place low ∙ ap (λ (y : Entry). next_place (is_owned y.tag.owner) (place + 1) (tags_of entries)) (sym same)

  pub untagged : (t : Tag) (from : ℕ) (r : Option ℕ) → is_some r ≡ list_any (same_tag t) tags → None ≡ r → None ≡ next_place (same_tag t) from (tags_of entries)
  untagged t from r found none = sym (next_place-nowhere (same_tag t) from (tags_of entries) (was.others t (sym found ∙ ap is_some (sym none))))

  -- the places of a tag's group
  pub group-is : (t : Tag) (g : ℕ) → position (same_tag t) tags ≡ Some g → (get_or groups g [] ≡ places (same_tag t) (tags_of entries)) × (g < length groups)
  group-is t g e =
      let p = position-Some (same_tag t) tags g no_tag e in
      (was.grouped g p.0 ∙ ap (λ u. places (same_tag u) (tags_of entries)) (sym (same_tag-is t _ p.1)), omega (arith, p.0, was.count))

  pub IsIndex-grown : (t : Tag) (ks : List Tag) (ls : List (List ℕ)) → ks ≡ with_tag tags t → ls ≡ with_list tags t groups → IsIndex entries ends ks ls
  IsIndex-grown t ks ls e f =
      subst (λ k. IsIndex entries ends k ls) (sym e) (subst (λ l. IsIndex entries ends (with_tag tags t) l) (sym f) (IsIndex-group entries ends tags groups was t))

  pub last-within : (p : ℕ) (x : Ends) → p < length ends → x ≡ get_or ends p x → IfSome x.last (λ l. l < length entries)
  last-within p x h e = by x.last (subst (λ (y : Ends). IsLast (tags_of entries) p y.last) (sym (get_or_read ends p x h e no_ends)) (was.last p h))
    where
      by : (o : Option ℕ) → IsLast (tags_of entries) p o → IfSome o (λ l. l < length entries)
      by None n = tt
      by (Some l) n = omega (arith, n.0, length-map entries (λ (y : Entry). y.tag))

abbrev Places : Type 0
Places = Vec ℕ Global

pub list-at : (vs : List Places) (g : ℕ) (v : Places) → g < length vs → v ≡ get_or vs g v → get_or (lists vs) g [] ≡ v.items
list-at vs g v h e = get_or-map (λ (w : Places). w.items) vs g v [] h ∙ ap (λ (w : Places). w.items) (sym e)

-- a list in the place of the same one
pub lists-same : (vs : List Places) (g : ℕ) (v w : Places) → g < length vs → v ≡ get_or vs g v → w.items ≡ v.items → lists (set vs g w) ≡ lists vs
lists-same vs g v w h e f =
    map-set (λ (x : Places). x.items) vs g w
    ∙ ap (set (lists vs) g) (f ∙ sym (list-at vs g v h e))
    ∙ set-get_or (lists vs) g []

pub lists-set : (vs : List Places) (g : ℕ) (w : Places) → lists (set vs g w) ≡ set (lists vs) g w.items
lists-set vs g w = map-set (λ (x : Places). x.items) vs g w

pub length-lists : (vs : List Places) → length (lists vs) ≡ length vs
length-lists vs = length-map vs (λ (x : Places). x.items)

-- ---- a step of the walk over a procedure's clauses

module _ (entries : List Entry) (ends : List Ends) (tags : List Tag) (groups : List (List ℕ)) (was : IsIndex entries ends tags groups)
    (self : Indexed) (view : tags_of entries ≡ self.tags) (owner : ℕ) (class : Class) (from k place : ℕ)
    (kept : next_place (is_candidate owner class) k self.tags ≡ next_place (is_candidate owner class) from self.tags)
    (at : Some place ≡ next_place (is_owned owner) k self.tags) where
  within : place < length (tags_of entries)
  within = subst (λ l. place < length l) (sym view) (scan-within self.tags owner class from k kept place at)

  pub step-within : place < length entries
  step-within = omega (arith, within, length-map entries (λ (y : Entry). y.tag))

  module _ (x : Entry) (read : x ≡ get_or entries place x) where
    step-tag : x.tag ≡ get_or self.tags place no_tag
    step-tag = entry-tag entries ends tags groups was place x within read ∙ ap (λ l. get_or l place no_tag) view

    step-next : x.next ≡ next_place (is_owned owner) (place + 1) self.tags
    step-next =
        entry-next entries ends tags groups was place x within read
        ∙ ap (λ p. next_place (is_owned p) (place + 1) (tags_of entries)) (ap (λ (t : Tag). t.owner) step-tag ∙ scan-owner self.tags owner class from k kept place at)
        ∙ ap (next_place (is_owned owner) (place + 1)) view

    pub step-hit : (same_class class x.tag.class || same_class Open x.tag.class) ≡ true → Some place ≡ next_place (is_candidate owner class) from self.tags
    step-hit h = scan-found self.tags owner class from k kept place at (ap (λ (t : Tag). same_class class t.class || same_class Open t.class) (sym step-tag) ∙ h)

    pub step-on : (same_class class x.tag.class || same_class Open x.tag.class) ≡ false → (j : ℕ) × (x.next ≡ next_place (is_owned owner) j self.tags) × (next_place (is_candidate owner class) j self.tags ≡ next_place (is_candidate owner class) from self.tags)
    step-on h = (place + 1, step-next, scan-more self.tags owner class from k kept place at (ap (λ (t : Tag). same_class class t.class || same_class Open t.class) (sym step-tag) ∙ h))

    pub step-less : left x.next (length self.tags) < left (Some place) (length self.tags)
    step-less = scan-falls self.tags owner place x.next (subst (λ l. place < length l) view within) step-next

-- ---- a clause put last

module _ (entries : List Entry) (ends : List Ends) (tags : List Tag) (groups : List (List ℕ)) (was : IsIndex entries ends tags groups)
    (distinct : IsDistinct same_tag tags) (t : Tag) (g : ℕ) (at : slice_get tags g ≡ Some t) (owned : t.owner < length ends)
    (x : Ends) (read : x ≡ get_or ends t.owner x) (place : ℕ) (count : place ≡ length entries)
    (es : List Entry) (same : es ≡ entries) (new : List Entry) (entered : new ≡ linked es x.last (length es) ++ record { tag = t; next = None; group = g } ∷ [])
    (e : Ends) (is_first : e.first ≡ or_else x.first place) (is_last : e.last ≡ Some place)
    (ls : List (List ℕ)) (ps : List ℕ) (set-is : ls ≡ set groups g ps) (put-is : ps ≡ get_or groups g [] ++ place ∷ []) where
  x-is : x ≡ get_or ends t.owner no_ends
  x-is = get_or_read ends t.owner x owned read no_ends

  new-is : new ≡ linked entries (get_or ends t.owner no_ends).last (length entries) ++ record { tag = t; next = None; group = g } ∷ []
  new-is =
      entered
      ∙ ap (λ l. linked l x.last (length l) ++ record { tag = t; next = None; group = g } ∷ []) same
      ∙ ap (λ (y : Ends). linked entries y.last (length entries) ++ record { tag = t; next = None; group = g } ∷ []) x-is

  first-is : e.first ≡ or_else (get_or ends t.owner no_ends).first (length entries)
  first-is = is_first ∙ ap (or_else x.first) count ∙ ap (λ (y : Ends). or_else y.first (length entries)) x-is

  last-is : e.last ≡ Some (length entries)
  last-is = is_last ∙ ap Some count

  group-put : ps ≡ get_or groups g [] ++ length entries ∷ []
  group-put = put-is ∙ ap (λ n. get_or groups g [] ++ n ∷ []) count

  pub IsIndex-entered : IsIndex new (set ends t.owner e) tags ls
  IsIndex-entered =
      subst (λ l. IsIndex l (set ends t.owner e) tags ls) (sym new-is)
      (subst (λ l. IsIndex (linked entries (get_or ends t.owner no_ends).last (length entries) ++ record { tag = t; next = None; group = g } ∷ []) (set ends t.owner e) tags l) (sym set-is)
      (IsIndex-add entries ends tags groups was distinct t g at owned e first-is last-is ps group-put))

  pub entered-tags : tags_of new ≡ tags_of entries ++ t ∷ []
  entered-tags = ap tags_of new-is ∙ tags-entries' entries ends tags groups was distinct t g at owned e first-is last-is ps group-put
