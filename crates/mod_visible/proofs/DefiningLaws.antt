-- What entries define and export, one after another.
use Rattle.std.proofs.Common.{◌≡◌, ℕ, zero, suc, ◌+◌, ◌<◌, ◌≤◌, List, [], ◌∷◌, ◌++◌, length, map, take, get_or, Bool, true, false, ◌&&◌, ◌||◌, cond, refl, sym, ap, subst, ◌∙◌, arith, eqb, eqb-true, eq-eqb, inl, inr, append_assoc}
use Rattle.std.specs.Prelude.{Contains}
use Rattle.std.specs.List.{AllByRecursion, flat_map, list_any}
use Rattle.std.proofs.lemmas.Bool.{and_parts, and_from, or_cases, or_left}
use Rattle.std.proofs.lemmas.List.{append-nil, take_more, take_all, map-append}
use Rattle.std.proofs.lemmas.List.Concat.{flat_map-append}
use Rattle.std.proofs.lemmas.List.Elements.{Contains-get_or, Contains-append_left, Contains-append_cases}
use Rattle.std.proofs.lemmas.List.Folds.{list_any-append}
use Rattle.pl_atoms.specs.Names.{AreDistinct}
use Rattle.pl_atoms.proofs.Texts.{same_text-is, same_text-itself}
use Rattle.pl_atoms.proofs.Numbers.{number-is}
use Rattle.pl_ops.specs.Tables.{same_text}
use Rattle.indexmap.specs.IndexSet.{insert_key}
use Rattle.unit_model.specs.Directives.{Text}
use Rattle.unit_model.specs.Encoding.{text_at}
use Rattle.unit_model.specs.declared.facts.Ind.{Ind}
use Rattle.link_model.specs.Places.{Ind as IndOf, same_ind, Role as RoleOf, defining, exporting, Placed as PlacedOf, steps}
use Rattle.link_model.specs.Giving.{is_defining, is_exporting, defines}
use Rattle.link_model.specs.Seeing.{Cause as CauseOf}
use Rattle.mod_visible.specs.declared.cause.Sort.{Sort}
use Rattle.mod_visible.specs.declared.cause.Sort.TheVariants.{Seeing, Giving}
use Rattle.mod_visible.specs.declared.cause.Cause.{Cause}
use Rattle.mod_visible.specs.declared.keys.Procedure.{Procedure}
use Rattle.mod_visible.specs.declared.keys.Given.{Given}
use Rattle.mod_visible.specs.declared.placed.Role.{Role}
use Rattle.mod_visible.specs.declared.placed.Role.TheVariants.{Defining, Exporting, ReexportingAll, Reexporting, Moding, ImportingAll, Importing, Idle}
use Rattle.mod_visible.specs.declared.placed.Placed.{Placed}
use Rattle.mod_visible.specs.Placing.{IsBelow, AllBelow, placed_view, places_view, placed_by, role_view, role_by, role_names}
use Rattle.mod_visible.specs.Keys.{procedure, same_procedure, same_given}
use Rattle.mod_visible.specs.Kinds.{first_by, own_by, firsts}
use Rattle.mod_visible.specs.Causing.{own_cause, is_known, keys_after, first_of, own_of, own_given, found_of, ind_text, cause_text, entry_texts, IsTable, AreDefined, gives_number, IsNamedCause, AreNamed, Exports}
use Rattle.mod_visible.proofs.ChainLaws.{same_procedure-is}
use Rattle.mod_visible.proofs.SpreadLaws.{adds_key}
use Rattle.mod_visible.proofs.Members.{in-nil, in-cases, in-map, in-any}

-- ---- one more key

or_false : (b : Bool) → b ≡ (b || false)
or_false true = refl
or_false false = refl

any_insert : (q p : Procedure) (keys : List Procedure) → list_any (same_procedure q) (insert_key same_procedure keys p) ≡ (list_any (same_procedure q) keys || same_procedure q p)
any_insert q p keys = go (list_any (same_procedure p) keys) refl (same_procedure q p) refl
  where
    go : (b : Bool) → list_any (same_procedure p) keys ≡ b → (t : Bool) → same_procedure q p ≡ t → list_any (same_procedure q) (cond b keys (keys ++ p ∷ [])) ≡ (list_any (same_procedure q) keys || same_procedure q p)
    go false e t f = list_any-append (same_procedure q) keys (p ∷ []) ∙ ap (λ b. list_any (same_procedure q) keys || b) (sym (or_false (same_procedure q p)))
    go true e false f = or_false (list_any (same_procedure q) keys) ∙ ap (λ b. list_any (same_procedure q) keys || b) (sym f)
    go true e true f =
        let there : list_any (same_procedure q) keys ≡ true = subst (λ x. list_any (same_procedure x) keys ≡ true) (sym (same_procedure-is q p f)) e in
        there ∙ sym (or_left (list_any (same_procedure q) keys) (same_procedure q p) there)

-- ---- entries one after another

abbrev text_of : List Text → Placed → PlacedOf Text
text_of names p = placed_by (text_at names) (placed_view p)

pub entry_texts-push : (names : List Text) (es : List Placed) (p : Placed) → entry_texts names (es ++ p ∷ []) ≡ entry_texts names es ++ text_of names p ∷ []
entry_texts-push names es p = ap (map (placed_by (text_at names))) (map-append placed_view es (p ∷ [])) ∙ map-append (placed_by (text_at names)) (places_view es) (placed_view p ∷ [])

steps-push : {A : Type 0} (before xs : List A) (x : A) → steps before (xs ++ x ∷ []) ≡ steps before xs ++ (before ++ xs, x) ∷ []
steps-push before [] x = ap (λ b. (b, x) ∷ []) (sym (append-nil before))
steps-push {A} before (y ∷ xs) x =
    ap (λ (l : List (List A × A)). (before, y) ∷ l) (steps-push (before ++ y ∷ []) xs x ∙ ap (λ b. steps (before ++ y ∷ []) xs ++ (b, x) ∷ []) (append_assoc before (y ∷ []) xs))

firsts-push : (ps : List (PlacedOf Text)) (q : PlacedOf Text) → firsts (ps ++ q ∷ []) ≡ firsts ps ++ first_by q.role ps q
firsts-push ps q =
    let f : List (PlacedOf Text) × PlacedOf Text → List CauseOf = λ x. first_by x.1.role x.0 x.1 in
    ap (flat_map f) (steps-push [] ps q) ∙ flat_map-append f (steps [] ps) ((ps, q) ∷ []) ∙ ap (λ l. firsts ps ++ l) (append-nil (first_by q.role ps q))

all_at : {A B : Type 0} (P : B → Type 0) (f : A → B) (xs : List A) (k : ℕ) (d : A) → k < length xs → AllByRecursion P (map f xs) → P (f (get_or xs k d))
all_at P f [] k d lt h = absurd (omega arith)
all_at P f (x ∷ xs) zero d lt h = h.0
all_at P f (x ∷ xs) (suc k) d lt h = all_at P f xs k d (omega arith) h.1

abbrev defining_by : Text → IndOf → Text → RoleOf Text → Bool
defining_by m i o r = elim r [ defining j ↦ same_text o m && same_ind i j | _ ↦ false ]

abbrev exporting_by : Text → IndOf → Text → RoleOf Text → Bool
exporting_by m i o r = elim r [ exporting j ↦ same_text o m && same_ind i j | _ ↦ false ]

module _ (names : List Text) (distinct : AreDistinct names) where
  abbrev T : ℕ → Text
  T = text_at names

  differs : (m n : ℕ) → m < length names → n < length names → eqb m n ≡ false → (b : Bool) → same_text (T m) (T n) ≡ b → b ≡ false
  differs m n hm hn e false t = refl
  differs m n hm hn e true t = absurd (let is : eqb m n ≡ true = eq-eqb m n (number-is names distinct m n hm hn (same_text-is (T m) (T n) t)) in cc)

  forth : (m n : ℕ) → m < length names → n < length names → same_text (T m) (T n) ≡ eqb m n
  forth m n hm hn = go (eqb m n) refl
    where
      go : (b : Bool) → eqb m n ≡ b → same_text (T m) (T n) ≡ b
      go true e = subst (λ k. same_text (T m) (T k) ≡ true) (eqb-true m n e) (same_text-itself (T m))
      go false e = differs m n hm hn e (same_text (T m) (T n)) refl

  back : (m n : ℕ) → m < length names → n < length names → same_text (T n) (T m) ≡ eqb m n
  back m n hm hn = go (eqb m n) refl
    where
      flipped : eqb m n ≡ false → (b : Bool) → same_text (T n) (T m) ≡ b → b ≡ false
      flipped e false t = refl
      flipped e true t = absurd (let is : eqb m n ≡ true = eq-eqb m n (number-is names distinct m n hm hn (sym (same_text-is (T n) (T m) t))) in cc)

      go : (b : Bool) → eqb m n ≡ b → same_text (T n) (T m) ≡ b
      go true e = subst (λ k. same_text (T k) (T m) ≡ true) (eqb-true m n e) (same_text-itself (T m))
      go false e = flipped e (same_text (T n) (T m)) refl

  same_as : (m n a : ℕ) (o : ℕ) (i : Ind) → m < length names → n < length names → o < length names → i.name.0 < length names
      → (same_text (T o) (T m) && same_ind (ind_text names n a) (ind_text names i.name.0 i.arity)) ≡ (eqb m o && (eqb n i.name.0 && eqb a i.arity))
  same_as m n a o i hm hn ho hi =
      ap (λ b. b && same_ind (ind_text names n a) (ind_text names i.name.0 i.arity)) (back m o hm ho)
      ∙ ap (λ b. eqb m o && (b && eqb a i.arity)) (forth n i.name.0 hn hi)

  -- ---- what is defined

  abbrev Below : Role → Type 0
  Below r = AllBelow (length names) (role_names (role_view r))

  defined_by_role : (es : List Placed) (p : Placed) (keys : List Procedure) → AreDefined names es keys → p.module.0 < length names → (r : Role) → Below r → (m n a : ℕ) → m < length names → n < length names
      → list_any (same_procedure (record { «module» = m; name = n; arity = a })) (keys_after r p keys) ≡ (defines (entry_texts names es) (T m) (ind_text names n a) || defining_by (T m) (ind_text names n a) (T p.module.0) (role_by (text_at names) (role_view r)))
  defined_by_role es p keys h hp (Defining i) b m n a hm hn =
      any_insert (record { «module» = m; name = n; arity = a }) (procedure p.module i) keys
      ∙ ap (λ x. x || same_procedure (record { «module» = m; name = n; arity = a }) (procedure p.module i)) (h m n a hm hn)
      ∙ ap (λ x. defines (entry_texts names es) (T m) (ind_text names n a) || x) (sym (same_as m n a p.module.0 i hm hn hp b.0))
  defined_by_role es p keys h hp (Exporting i) b m n a hm hn = h m n a hm hn ∙ or_false (defines (entry_texts names es) (T m) (ind_text names n a))
  defined_by_role es p keys h hp (ReexportingAll i) b m n a hm hn = h m n a hm hn ∙ or_false (defines (entry_texts names es) (T m) (ind_text names n a))
  defined_by_role es p keys h hp (Reexporting k i) b m n a hm hn = h m n a hm hn ∙ or_false (defines (entry_texts names es) (T m) (ind_text names n a))
  defined_by_role es p keys h hp (Moding i) b m n a hm hn = h m n a hm hn ∙ or_false (defines (entry_texts names es) (T m) (ind_text names n a))
  defined_by_role es p keys h hp (ImportingAll i) b m n a hm hn = h m n a hm hn ∙ or_false (defines (entry_texts names es) (T m) (ind_text names n a))
  defined_by_role es p keys h hp (Importing k i) b m n a hm hn = h m n a hm hn ∙ or_false (defines (entry_texts names es) (T m) (ind_text names n a))
  defined_by_role es p keys h hp Idle b m n a hm hn = h m n a hm hn ∙ or_false (defines (entry_texts names es) (T m) (ind_text names n a))

  defined_more : (es : List Placed) (p : Placed) (keys : List Procedure) → AreDefined names es keys → IsBelow (length names) (placed_view p) → AreDefined names (es ++ p ∷ []) (keys_after p.role p keys)
  defined_more es p keys h below m n a hm hn =
      defined_by_role es p keys h below.0 p.role below.1 m n a hm hn
      ∙ ap (λ b. defines (entry_texts names es) (T m) (ind_text names n a) || b) (or_false (is_defining (T m) (ind_text names n a) (text_of names p)))
      ∙ sym (list_any-append (is_defining (T m) (ind_text names n a)) (entry_texts names es) (text_of names p ∷ []))
      ∙ ap (list_any (is_defining (T m) (ind_text names n a))) (sym (entry_texts-push names es p))

  if_none : (b : Bool) (c : Cause) → map (cause_text names) (cond b [] (c ∷ [])) ≡ cond b [] (cause_text names c ∷ [])
  if_none true c = refl
  if_none false c = refl

  if_one : (b : Bool) (c : Cause) → map (cause_text names) (cond b (c ∷ []) []) ≡ cond b (cause_text names c ∷ []) []
  if_one true c = refl
  if_one false c = refl

  first_text : (es : List Placed) (p : Placed) (keys : List Procedure) → AreDefined names es keys → p.module.0 < length names → (r : Role) → Below r
      → map (cause_text names) (first_of r p keys) ≡ first_by (role_by (text_at names) (role_view r)) (entry_texts names es) (text_of names p)
  first_text es p keys h hp (Defining i) b =
      if_none (is_known keys p i) (own_cause p Seeing i) ∙ ap (λ t. cond t [] (cause_text names (own_cause p Seeing i) ∷ [])) (h p.module.0 i.name.0 i.arity hp b.0)
  first_text es p keys h hp (Exporting i) b = refl
  first_text es p keys h hp (ReexportingAll i) b = refl
  first_text es p keys h hp (Reexporting k i) b = refl
  first_text es p keys h hp (Moding i) b = refl
  first_text es p keys h hp (ImportingAll i) b = refl
  first_text es p keys h hp (Importing k i) b = refl
  first_text es p keys h hp Idle b = refl

  own_text : (es : List Placed) (p : Placed) (keys : List Procedure) → AreDefined names es keys → p.module.0 < length names → (r : Role) → Below r
      → map (cause_text names) (own_of r p keys) ≡ own_by (role_by (text_at names) (role_view r)) (entry_texts names es) (text_of names p)
  own_text es p keys h hp (Exporting i) b =
      if_one (is_known keys p i) (own_cause p Giving i) ∙ ap (λ t. cond t (cause_text names (own_cause p Giving i) ∷ []) []) (h p.module.0 i.name.0 i.arity hp b.0)
  own_text es p keys h hp (Defining i) b = refl
  own_text es p keys h hp (ReexportingAll i) b = refl
  own_text es p keys h hp (Reexporting k i) b = refl
  own_text es p keys h hp (Moding i) b = refl
  own_text es p keys h hp (ImportingAll i) b = refl
  own_text es p keys h hp (Importing k i) b = refl
  own_text es p keys h hp Idle b = refl

-- ---- names of causes

one_named : (n : ℕ) (p : Placed) (s : Sort) (i : Ind) → p.module.0 < n → i.name.0 < n → AreNamed n (own_cause p s i ∷ [])
one_named n p s i hp hi c k = elim (in-cases (own_cause p s i) c [] k) [ inl e ↦ subst (IsNamedCause n) e (hp, hi, hp) | inr j ↦ absurd (in-nil c j) ]

none_named : (n : ℕ) → AreNamed n []
none_named n c k = absurd (in-nil c k)

either_named : (n : ℕ) (b : Bool) (xs ys : List Cause) → AreNamed n xs → AreNamed n ys → AreNamed n (cond b xs ys)
either_named n true xs ys f g = f
either_named n false xs ys f g = g

first_named : (n : ℕ) (p : Placed) (keys : List Procedure) → p.module.0 < n → (r : Role) → AllBelow n (role_names (role_view r)) → AreNamed n (first_of r p keys)
first_named n p keys hp (Defining i) b = either_named n (is_known keys p i) [] (own_cause p Seeing i ∷ []) (none_named n) (one_named n p Seeing i hp b.0)
first_named n p keys hp (Exporting i) b = none_named n
first_named n p keys hp (ReexportingAll i) b = none_named n
first_named n p keys hp (Reexporting k i) b = none_named n
first_named n p keys hp (Moding i) b = none_named n
first_named n p keys hp (ImportingAll i) b = none_named n
first_named n p keys hp (Importing k i) b = none_named n
first_named n p keys hp Idle b = none_named n

own_named : (n : ℕ) (p : Placed) (keys : List Procedure) → p.module.0 < n → (r : Role) → AllBelow n (role_names (role_view r)) → AreNamed n (own_of r p keys)
own_named n p keys hp (Exporting i) b = either_named n (is_known keys p i) (own_cause p Giving i ∷ []) [] (one_named n p Giving i hp b.0) (none_named n)
own_named n p keys hp (Defining i) b = none_named n
own_named n p keys hp (ReexportingAll i) b = none_named n
own_named n p keys hp (Reexporting k i) b = none_named n
own_named n p keys hp (Moding i) b = none_named n
own_named n p keys hp (ImportingAll i) b = none_named n
own_named n p keys hp (Importing k i) b = none_named n
own_named n p keys hp Idle b = none_named n

both_named : (n : ℕ) (xs ys : List Cause) → AreNamed n xs → AreNamed n ys → AreNamed n (xs ++ ys)
both_named n xs ys f g c k = elim (Contains-append_cases xs ys c k) [ inl i ↦ f c i | inr j ↦ g c j ]

-- ---- the loop over what is defined

pub record DefinedSoFar (names : List Text) (es : List Placed) (keys : List Procedure) (before causes : List Cause) : Type 0 where
  pub defined : AreDefined names es keys
  pub causes_are : map (cause_text names) causes ≡ map (cause_text names) before ++ firsts (entry_texts names es)
  pub named : AreNamed (length names) before → AreNamed (length names) causes

pub defined_start : (names : List Text) (before : List Cause) → DefinedSoFar names [] [] before before
defined_start names before = record { defined = λ m n a hm hn. refl; causes_are = sym (append-nil (map (cause_text names) before)); named = λ h. h }

pub defined_step : (names : List Text) (entries : List Placed) (k : ℕ) (d : Placed) (keys keys' : List Procedure) (before causes causes' : List Cause) → k < length entries → IsTable names entries → DefinedSoFar names (take k entries) keys before causes
    → keys' ≡ keys_after (get_or entries k d).role (get_or entries k d) keys → causes' ≡ causes ++ first_of (get_or entries k d).role (get_or entries k d) keys → DefinedSoFar names (take (k + 1) entries) keys' before causes'
defined_step names entries k d keys keys' before causes causes' lt table h ks cs =
    let p = get_or entries k d in
    let es = take k entries in
    let below : IsBelow (length names) (placed_view p) = all_at (IsBelow (length names)) placed_view entries k d lt table.below in
    let whole : take (k + 1) entries ≡ es ++ p ∷ [] = take_more entries k d lt in
    let text = first_text names table.distinct es p keys h.defined below.0 p.role below.1 in
    subst (λ l. DefinedSoFar names l keys' before causes') (sym whole) (record {
      defined = subst (AreDefined names (es ++ p ∷ [])) (sym ks) (defined_more names table.distinct es p keys h.defined below);
      causes_are = ap (map (cause_text names)) cs ∙ map-append (cause_text names) causes (first_of p.role p keys) ∙ ap (λ l. l ++ map (cause_text names) (first_of p.role p keys)) h.causes_are
          ∙ append_assoc (map (cause_text names) before) (firsts (entry_texts names es)) (map (cause_text names) (first_of p.role p keys))
          ∙ ap (λ l. map (cause_text names) before ++ (firsts (entry_texts names es) ++ l)) text
          ∙ ap (λ l. map (cause_text names) before ++ l) (sym (firsts-push (entry_texts names es) (text_of names p)))
          ∙ ap (λ l. map (cause_text names) before ++ firsts l) (sym (entry_texts-push names es p));
      named = λ n. subst (AreNamed (length names)) (sym cs) (both_named (length names) causes (first_of p.role p keys) (h.named n) (first_named (length names) p keys below.0 p.role below.1));
    })

-- ---- the loop over what is exported

pub record ExportedSoFar (names : List Text) (entries es : List Placed) (before : List Cause) (found : List Given) (causes : List Cause) : Type 0 where
  pub only : (g : Given) → Contains found g → (g.definer ≡ g.procedure.module) × (g.procedure.module < length names) × (g.procedure.name < length names) × (gives_number names (entry_texts names entries) g.procedure ≡ true)
  pub all : (p : Procedure) → p.module < length names → p.name < length names → list_any (is_exporting (text_at names p.module) (ind_text names p.name p.arity)) (entry_texts names es) ≡ true → defines (entry_texts names entries) (text_at names p.module) (ind_text names p.name p.arity) ≡ true → Contains found (record { procedure = p; definer = p.module })
  pub causes_are : map (cause_text names) causes ≡ map (cause_text names) before ++ flat_map (λ q. own_by q.role (entry_texts names entries) q) (entry_texts names es)
  pub named : AreNamed (length names) before → AreNamed (length names) causes

pub exported_start : (names : List Text) (entries : List Placed) (before : List Cause) → ExportedSoFar names entries [] before [] before
exported_start names entries before = record { only = λ g i. absurd (let lt : i.0 < 0 = i.1 in omega arith); all = λ p hm hn h. absurd cc; causes_are = sym (append-nil (map (cause_text names) before)); named = λ h. h }

module _ (names : List Text) (entries : List Placed) (table : IsTable names entries) (keys : List Procedure) (defined : AreDefined names entries keys) (p : Placed) (member : Contains entries p) (below : IsBelow (length names) (placed_view p)) where
  abbrev ps : List (PlacedOf Text)
  ps = entry_texts names entries

  abbrev Only : List Given → Type 0
  Only found = (g : Given) → Contains found g → (g.definer ≡ g.procedure.module) × (g.procedure.module < length names) × (g.procedure.name < length names) × (gives_number names ps g.procedure ≡ true)

  abbrev AllOf : (Procedure → Bool) → List Given → Type 0
  AllOf exported found = (q : Procedure) → q.module < length names → q.name < length names → exported q ≡ true → defines ps (text_at names q.module) (ind_text names q.name q.arity) ≡ true → Contains found (record { procedure = q; definer = q.module })

  abbrev exported_here : Role → Procedure → Bool
  exported_here r q = exporting_by (text_at names q.module) (ind_text names q.name q.arity) (text_at names p.module.0) (role_by (text_at names) (role_view r))

  in_ps : Contains ps (text_of names p)
  in_ps = in-map (placed_by (text_at names)) (places_view entries) (placed_view p) (in-map placed_view entries p member)

  -- what one entry adds
  record Grown (r : Role) (found new : List Given) : Type 0 where
    kept : (g : Given) → Contains found g → Contains new g
    only : Only found → Only new
    here : AllOf (exported_here r) new

  unchanged : (r : Role) (found : List Given) → ((q : Procedure) → exported_here r q ≡ false) → Grown r found found
  unchanged r found none = record { kept = λ g i. i; only = λ h. h; here = λ q hm hn e d. absurd (let f : exported_here r q ≡ false = none q in cc) }

  exports : (i : Ind) → p.role ≡ Exporting i → AllBelow (length names) (i.name.0 ∷ []) → (found : List Given) → Grown (Exporting i) found (found_of (Exporting i) p keys found)
  exports i is b found = go (is_known keys p i) refl
    where
      own : Procedure
      own = procedure p.module i

      known_is : is_known keys p i ≡ defines ps (text_at names p.module.0) (ind_text names i.name.0 i.arity)
      known_is = defined p.module.0 i.name.0 i.arity below.0 b.0

      equal : (q : Procedure) → q.module < length names → q.name < length names → exported_here (Exporting i) q ≡ true → q ≡ own
      equal q hm hn e = same_procedure-is q own (sym (same_as names table.distinct q.module q.name q.arity p.module.0 i hm hn below.0 b.0) ∙ e)

      itself : exporting_by (text_at names p.module.0) (ind_text names i.name.0 i.arity) (text_at names p.module.0) (role_by (text_at names) (role_view (Exporting i))) ≡ true
      itself = and_from (same_text (text_at names p.module.0) (text_at names p.module.0)) (same_ind (ind_text names i.name.0 i.arity) (ind_text names i.name.0 i.arity)) (same_text-itself (text_at names p.module.0)) (and_from (same_text (text_at names i.name.0) (text_at names i.name.0)) (eqb i.arity i.arity) (same_text-itself (text_at names i.name.0)) (eq-eqb i.arity i.arity refl))

      given : is_known keys p i ≡ true → gives_number names ps own ≡ true
      given k =
          let here : is_exporting (text_at names p.module.0) (ind_text names i.name.0 i.arity) (text_of names p) ≡ true =
          subst (λ r. exporting_by (text_at names p.module.0) (ind_text names i.name.0 i.arity) (text_at names p.module.0) (role_by (text_at names) (role_view r)) ≡ true) (sym is) itself in
          and_from (list_any (is_exporting (text_at names p.module.0) (ind_text names i.name.0 i.arity)) ps) (defines ps (text_at names p.module.0) (ind_text names i.name.0 i.arity))
          (in-any (is_exporting (text_at names p.module.0) (ind_text names i.name.0 i.arity)) ps (text_of names p) in_ps here)
          (sym known_is ∙ k)

      go : (t : Bool) → is_known keys p i ≡ t → Grown (Exporting i) found (cond t (insert_key same_given found (own_given p i)) found)
      go true k =
          let a = adds_key found (own_given p i) in
          record {
            kept = λ g j. rw a.kept.1 (Contains-append_left found a.kept.0 g j);
            only = λ h g j. elim (a.only g j) [
              | inl x ↦ h g x
              | inr e ↦ subst (λ (x : Given). (x.definer ≡ x.procedure.module) × (x.procedure.module < length names) × (x.procedure.name < length names) × (gives_number names ps x.procedure ≡ true)) (sym e) (refl, below.0, b.0, given k)
            ];
            here = λ q hm hn e d. subst (λ (x : Procedure). Contains (insert_key same_given found (own_given p i)) (record { procedure = x; definer = x.module })) (sym (equal q hm hn e)) a.there;
          }
      go false k = record {
        kept = λ g j. j;
        only = λ h. h;
        here = λ q hm hn e d.
            let d' : defines ps (text_at names p.module.0) (ind_text names i.name.0 i.arity) ≡ true = subst (λ (x : Procedure). defines ps (text_at names x.module) (ind_text names x.name x.arity) ≡ true) (equal q hm hn e) d in
            absurd (let f : false ≡ true = sym k ∙ known_is ∙ d' in cc);
      }

  grown : (r : Role) → p.role ≡ r → AllBelow (length names) (role_names (role_view r)) → (found : List Given) → Grown r found (found_of r p keys found)
  grown (Exporting i) is b found = exports i is b found
  grown (Defining i) is b found = unchanged (Defining i) found (λ q. refl)
  grown (ReexportingAll i) is b found = unchanged (ReexportingAll i) found (λ q. refl)
  grown (Reexporting k i) is b found = unchanged (Reexporting k i) found (λ q. refl)
  grown (Moding i) is b found = unchanged (Moding i) found (λ q. refl)
  grown (ImportingAll i) is b found = unchanged (ImportingAll i) found (λ q. refl)
  grown (Importing k i) is b found = unchanged (Importing k i) found (λ q. refl)
  grown Idle is b found = unchanged Idle found (λ q. refl)

  pub exported_more : (es : List Placed) (before : List Cause) (found : List Given) (causes : List Cause) → ExportedSoFar names entries es before found causes → ExportedSoFar names entries (es ++ p ∷ []) before (found_of p.role p keys found) (causes ++ own_of p.role p keys)
  exported_more es before found causes h =
      let g = grown p.role refl below.1 found in
      let f : PlacedOf Text → List CauseOf = λ q. own_by q.role ps q in
      record {
        only = g.only h.only;
        all = λ q hm hn e d.
            let split : (list_any (is_exporting (text_at names q.module) (ind_text names q.name q.arity)) (entry_texts names es) || (is_exporting (text_at names q.module) (ind_text names q.name q.arity) (text_of names p) || false)) ≡ true =
            sym (list_any-append (is_exporting (text_at names q.module) (ind_text names q.name q.arity)) (entry_texts names es) (text_of names p ∷ [])) ∙ ap (list_any (is_exporting (text_at names q.module) (ind_text names q.name q.arity))) (sym (entry_texts-push names es p)) ∙ e in
            elim (or_cases (list_any (is_exporting (text_at names q.module) (ind_text names q.name q.arity)) (entry_texts names es)) (is_exporting (text_at names q.module) (ind_text names q.name q.arity) (text_of names p) || false) split) [
              | inl a ↦ g.kept (record { procedure = q; definer = q.module }) (h.all q hm hn a d)
              | inr b ↦ g.here q hm hn (or_false (is_exporting (text_at names q.module) (ind_text names q.name q.arity) (text_of names p)) ∙ b) d
            ];
        causes_are =
            map-append (cause_text names) causes (own_of p.role p keys) ∙ ap (λ l. l ++ map (cause_text names) (own_of p.role p keys)) h.causes_are
            ∙ append_assoc (map (cause_text names) before) (flat_map f (entry_texts names es)) (map (cause_text names) (own_of p.role p keys))
            ∙ ap (λ l. map (cause_text names) before ++ (flat_map f (entry_texts names es) ++ l)) (own_text names table.distinct entries p keys defined below.0 p.role below.1 ∙ sym (append-nil (own_by (text_of names p).role ps (text_of names p))))
            ∙ ap (λ l. map (cause_text names) before ++ l) (sym (flat_map-append f (entry_texts names es) (text_of names p ∷ [])))
            ∙ ap (λ l. map (cause_text names) before ++ flat_map f l) (sym (entry_texts-push names es p));
        named = λ n. both_named (length names) causes (own_of p.role p keys) (h.named n) (own_named (length names) p keys below.0 p.role below.1);
      }

pub exported_step : (names : List Text) (entries : List Placed) (keys : List Procedure) (k : ℕ) (d : Placed) (before : List Cause) (found found' : List Given) (causes causes' : List Cause) → k < length entries → IsTable names entries → AreDefined names entries keys → ExportedSoFar names entries (take k entries) before found causes
    → found' ≡ found_of (get_or entries k d).role (get_or entries k d) keys found → causes' ≡ causes ++ own_of (get_or entries k d).role (get_or entries k d) keys → ExportedSoFar names entries (take (k + 1) entries) before found' causes'
exported_step names entries keys k d before found found' causes causes' lt table defined h fs cs =
    let p = get_or entries k d in
    let below : IsBelow (length names) (placed_view p) = all_at (IsBelow (length names)) placed_view entries k d lt table.below in
    let more = exported_more names entries table keys defined p (Contains-get_or entries k d lt) below (take k entries) before found causes h in
    subst (λ l. ExportedSoFar names entries l before found' causes') (sym (take_more entries k d lt))
    (subst (λ l. ExportedSoFar names entries (take k entries ++ p ∷ []) before l causes') (sym fs) (subst (λ l. ExportedSoFar names entries (take k entries ++ p ∷ []) before (found_of p.role p keys found) l) (sym cs) more))

pub exported_end : (names : List Text) (entries : List Placed) (k : ℕ) (before : List Cause) (found : List Given) (causes : List Cause) → length entries ≤ k → ExportedSoFar names entries (take k entries) before found causes → Exports names entries before found causes
exported_end names entries k before found causes le h =
    let w = subst (λ l. ExportedSoFar names entries l before found causes) (take_all k entries le) h in
    record {
      seeds = record {
        only = w.only;
        all = λ p hm hn g.
            let a = and_parts (list_any (is_exporting (text_at names p.module) (ind_text names p.name p.arity)) (entry_texts names entries)) (defines (entry_texts names entries) (text_at names p.module) (ind_text names p.name p.arity)) g in
            w.all p hm hn a.0 a.1;
      };
      causes_are = w.causes_are;
      named = w.named;
    }

pub defined_end : (names : List Text) (entries : List Placed) (k : ℕ) (keys : List Procedure) (before causes : List Cause) → length entries ≤ k → DefinedSoFar names (take k entries) keys before causes → DefinedSoFar names entries keys before causes
defined_end names entries k keys before causes le h = subst (λ l. DefinedSoFar names l keys before causes) (take_all k entries le) h
