-- Entries with their places, under the names of their unit and under those of all units.
use Rattle.std.proofs.Common.{◌≡◌, ℕ, zero, suc, ◌+◌, ◌<◌, ◌≤◌, List, [], ◌∷◌, ◌++◌, length, map, take, get_or, refl, sym, ap, subst, ◌∙◌, arith, append_assoc}
use Rattle.std.specs.List.{AllByRecursion}
use Rattle.std.proofs.lemmas.List.{append-nil, take_more, take_all, length-map, length-take, map-append}
use Rattle.pl_terms.specs.Trees.{Tree, var, int, atom, comp, Trees, nil, cons, count, renamed, all_renamed}
use Rattle.pl_terms.specs.Cells.{cells}
use Rattle.unit_model.specs.Facts.{Section as SectionOf, tree_names, entry_by, section_by}
use Rattle.unit_model.specs.Views.{entry_view, entries_view, section_view}
use Rattle.unit_model.specs.declared.facts.Entry.{Entry}
use Rattle.unit_model.specs.declared.facts.Section.{Section}
use Rattle.mod_visible.specs.declared.placed.Placed.{Placed}
use Rattle.link_model.specs.Places.{Placed as PlacedOf, defined_by, place_of, places_in, places_from}
use Rattle.mod_visible.specs.Placing.{begun_by, AllBelow, BeginsBelow, placed_view, places_view}

pub count-all_renamed : {N M : Type 0} (f : N → M) (ts : Trees N) → count (all_renamed f ts) ≡ count ts
count-all_renamed f nil = refl
count-all_renamed f (cons t ts) = ap suc (count-all_renamed f ts)

pub begins : (f : ℕ → ℕ) (t : Tree ℕ) → begun_by f (cells t) ≡ defined_by (renamed f t)
begins f (var n) = refl
begins f (int z) = refl
begins f (atom s) = refl
begins f (comp s ts) = ap (λ n. made f s n) (sym (count-all_renamed f ts))
  where
    made : (ℕ → ℕ) → ℕ → ℕ → Rattle.link_model.specs.Places.Role ℕ
    made f s n = Rattle.link_model.specs.Places.defining (record { name = f s; arity = n })

pub begins_below : (n : ℕ) (t : Tree ℕ) → AllBelow n (tree_names t) → BeginsBelow n (cells t)
begins_below n (var v) h = tt
begins_below n (int z) h = tt
begins_below n (atom s) h = h.0
begins_below n (comp s ts) h = h.0

-- ---- loops that put entries last

pub AllBy-at : {A : Type 0} (P : A → Type 0) (xs : List A) (k : ℕ) (x : A) → k < length xs → x ≡ get_or xs k x → AllByRecursion P xs → P x
AllBy-at P [] k x lt is h = absurd (omega arith)
AllBy-at P (y ∷ xs) zero x lt is h = subst P (sym is) h.0
AllBy-at P (y ∷ xs) (suc k) x lt is h = AllBy-at P xs k x (omega arith) is h.1

pub more_taken : {A : Type 0} (xs : List A) (k : ℕ) (x : A) → k < length xs → x ≡ get_or xs k x → take (k + 1) xs ≡ take k xs ++ x ∷ []
more_taken xs k x lt is = take_more xs k x lt ∙ ap (λ y. take k xs ++ y ∷ []) (sym is)

abbrev pub placed_entries : (ℕ → ℕ) → ℕ → ℕ → ℕ → List Entry → List (PlacedOf ℕ)
placed_entries f u s m es = map (place_of u s m) (map (entry_by f) (entries_view es))

placed_entries-append : (f : ℕ → ℕ) (u s m : ℕ) (xs ys : List Entry) → placed_entries f u s m (xs ++ ys) ≡ placed_entries f u s m xs ++ placed_entries f u s m ys
placed_entries-append f u s m xs ys =
    ap (λ l. map (place_of u s m) (map (entry_by f) l)) (map-append entry_view xs ys)
    ∙ ap (map (place_of u s m)) (map-append (entry_by f) (entries_view xs) (entries_view ys))
    ∙ map-append (place_of u s m) (map (entry_by f) (entries_view xs)) (map (entry_by f) (entries_view ys))

pub entries_more : (f : ℕ → ℕ) (u s m : ℕ) (old out : List Placed) (es : List Entry) (k : ℕ) (e : Entry) (p : Placed) → k < length es → e ≡ get_or es k e
    → places_view out ≡ places_view old ++ placed_entries f u s m (take k es) → placed_view p ≡ place_of u s m (entry_by f (entry_view e))
    → places_view (out ++ p ∷ []) ≡ places_view old ++ placed_entries f u s m (take (k + 1) es)
entries_more f u s m old out es k e p lt is h same =
    map-append placed_view out (p ∷ []) ∙ ap (λ l. l ++ placed_view p ∷ []) h ∙ append_assoc (places_view old) (placed_entries f u s m (take k es)) (placed_view p ∷ [])
    ∙ ap (λ (q : PlacedOf ℕ). places_view old ++ (placed_entries f u s m (take k es) ++ q ∷ [])) same
    ∙ ap (λ l. places_view old ++ l) (sym (placed_entries-append f u s m (take k es) (e ∷ [])))
    ∙ ap (λ l. places_view old ++ placed_entries f u s m l) (sym (more_taken es k e lt is))

pub entries_end : (f : ℕ → ℕ) (u s m : ℕ) (old out : List Placed) (es : List Entry) (k : ℕ) → length es ≤ k
    → places_view out ≡ places_view old ++ placed_entries f u s m (take k es) → places_view out ≡ places_view old ++ placed_entries f u s m es
entries_end f u s m old out es k le h = h ∙ ap (λ l. places_view old ++ placed_entries f u s m l) (take_all k es le)

abbrev pub placed_sections : (ℕ → ℕ) → ℕ → List Section → List (PlacedOf ℕ)
placed_sections f u ss = places_from u 0 (map (section_by f) (map section_view ss))

places_from-append : {N : Type 0} (u k : ℕ) (xs ys : List (SectionOf N)) → places_from u k (xs ++ ys) ≡ places_from u k xs ++ places_from u (k + length xs) ys
places_from-append u k [] ys = let e : k + 0 ≡ k = omega arith in ap (λ n. places_from u n ys) (sym e)
places_from-append u k (x ∷ xs) ys =
    let e : suc k + length xs ≡ k + suc (length xs) = omega arith in
    ap (λ l. places_in u k x ++ l) (places_from-append u (suc k) xs ys ∙ ap (λ n. places_from u (suc k) xs ++ places_from u n ys) e)
    ∙ sym (append_assoc (places_in u k x) (places_from u (suc k) xs) (places_from u (k + suc (length xs)) ys))

placed_sections-push : (f : ℕ → ℕ) (u : ℕ) (xs : List Section) (s : Section) → placed_sections f u (xs ++ s ∷ []) ≡ placed_sections f u xs ++ placed_entries f u (length xs) (f s.module.0) s.entries
placed_sections-push f u xs s =
    let long : 0 + length (map (section_by f) (map section_view xs)) ≡ length xs = omega (arith, length-map (map section_view xs) (section_by f), length-map xs section_view) in
    let one = λ (n : ℕ). places_from u n (section_by f (section_view s) ∷ []) in
    ap (λ l. places_from u 0 (map (section_by f) l)) (map-append section_view xs (s ∷ []))
    ∙ ap (places_from u 0) (map-append (section_by f) (map section_view xs) (section_view s ∷ []))
    ∙ places_from-append u 0 (map (section_by f) (map section_view xs)) (section_by f (section_view s) ∷ [])
    ∙ ap (λ n. placed_sections f u xs ++ one n) long
    ∙ ap (λ l. placed_sections f u xs ++ l) (append-nil (placed_entries f u (length xs) (f s.module.0) s.entries))

pub sections_more : (f : ℕ → ℕ) (u : ℕ) (old out new : List Placed) (ss : List Section) (k : ℕ) (s : Section) (m : ℕ) → k < length ss → s ≡ get_or ss k s → m ≡ f s.module.0
    → places_view out ≡ places_view old ++ placed_sections f u (take k ss) → places_view new ≡ places_view out ++ placed_entries f u k m s.entries
    → places_view new ≡ places_view old ++ placed_sections f u (take (k + 1) ss)
sections_more f u old out new ss k s m lt is module_is h step =
    let here : length (take k ss) ≡ k = omega (arith, length-take k ss) in
    step ∙ ap (λ l. l ++ placed_entries f u k m s.entries) h ∙ append_assoc (places_view old) (placed_sections f u (take k ss)) (placed_entries f u k m s.entries)
    ∙ ap (λ n. places_view old ++ (placed_sections f u (take k ss) ++ placed_entries f u n m s.entries)) (sym here)
    ∙ ap (λ n. places_view old ++ (placed_sections f u (take k ss) ++ placed_entries f u (length (take k ss)) n s.entries)) module_is
    ∙ ap (λ l. places_view old ++ l) (sym (placed_sections-push f u (take k ss) s))
    ∙ ap (λ l. places_view old ++ placed_sections f u l) (sym (more_taken ss k s lt is))

pub sections_end : (f : ℕ → ℕ) (u : ℕ) (old out : List Placed) (ss : List Section) (k : ℕ) → length ss ≤ k
    → places_view out ≡ places_view old ++ placed_sections f u (take k ss) → places_view out ≡ places_view old ++ placed_sections f u ss
sections_end f u old out ss k le h = h ∙ ap (λ l. places_view old ++ placed_sections f u l) (take_all k ss le)
