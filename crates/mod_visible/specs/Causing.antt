-- Causes in memory, and what they stand for.
use Rattle.std.specs.Prelude.{◌≡◌, ℕ, ◌<◌, List, [], ◌∷◌, ◌++◌, length, map, Bool, true, Contains, if◌then◌else◌}
use Rattle.std.specs.List.{AllByRecursion, list_any}
use Rattle.pl_atoms.specs.Names.{AreDistinct}
use Rattle.indexmap.specs.IndexSet.{insert_key}
use Rattle.unit_model.specs.Directives.{Text}
use Rattle.unit_model.specs.Encoding.{text_at}
use Rattle.unit_model.specs.declared.facts.Ind.{Ind}
use Rattle.link_model.specs.Places.{Ind as IndOf, Placed as PlacedOf}
use Rattle.link_model.specs.Giving.{defines, gives_own}
use Rattle.link_model.specs.Seeing.{Sort as SortOf, seeing, giving, Cause as CauseOf, causes}
use Rattle.mod_visible.specs.declared.cause.Sort.{Sort}
use Rattle.mod_visible.specs.declared.cause.Sort.TheVariants.{Seeing, Giving}
use Rattle.mod_visible.specs.declared.cause.Cause.{Cause}
use Rattle.mod_visible.specs.declared.keys.Procedure.{Procedure}
use Rattle.mod_visible.specs.declared.keys.Given.{Given}
use Rattle.mod_visible.specs.declared.placed.Role.{Role}
use Rattle.mod_visible.specs.declared.placed.Role.TheVariants.{Defining, Exporting}
use Rattle.mod_visible.specs.declared.placed.Placed.{Placed}
use Rattle.mod_visible.specs.Keys.{procedure, same_procedure, same_given}
use Rattle.mod_visible.specs.Kinds.{owns}
use Rattle.mod_visible.specs.Placing.{IsBelow, places_view, texts_in}

-- ---- what one entry adds

abbrev pub own_cause : Placed → Sort → Ind → Cause
own_cause p s i = record { sort = s; «module» = p.module; ind = i; unit = p.unit; byte = p.byte; definer = p.module }

abbrev pub is_known : List Procedure → Placed → Ind → Bool
is_known keys p i = list_any (same_procedure (procedure p.module i)) keys

abbrev pub keys_after : Role → Placed → List Procedure → List Procedure
keys_after (Defining i) p keys = insert_key same_procedure keys (procedure p.module i)
keys_after _ p keys = keys

abbrev pub first_of : Role → Placed → List Procedure → List Cause
first_of (Defining i) p keys = if is_known keys p i then [] else own_cause p Seeing i ∷ []
first_of _ p keys = []

abbrev pub own_of : Role → Placed → List Procedure → List Cause
own_of (Exporting i) p keys = if is_known keys p i then own_cause p Giving i ∷ [] else []
own_of _ p keys = []

abbrev pub own_given : Placed → Ind → Given
own_given p i = record { procedure = procedure p.module i; definer = p.module.0 }

abbrev pub found_of : Role → Placed → List Procedure → List Given → List Given
found_of (Exporting i) p keys found = if is_known keys p i then insert_key same_given found (own_given p i) else found
found_of _ p keys found = found

-- ---- as texts

abbrev pub sort_view : Sort → SortOf
sort_view Seeing = seeing
sort_view Giving = giving

abbrev pub ind_text : List Text → ℕ → ℕ → IndOf
ind_text names n a = record { name = text_at names n; arity = a }

abbrev pub cause_text : List Text → Cause → CauseOf
cause_text names c = record { sort = sort_view c.sort; of = text_at names c.module.0; ind = ind_text names c.ind.name.0 c.ind.arity; unit = c.unit; byte = c.byte; definer = text_at names c.definer.0 }

abbrev pub entry_texts : List Text → List Placed → List (PlacedOf Text)
entry_texts names es = texts_in names (places_view es)

-- each name once, and the entries' names are among them
pub record IsTable (names : List Text) (entries : List Placed) : Type 0 where
  pub distinct : AreDistinct names
  pub below : AllByRecursion (IsBelow (length names)) (places_view entries)

-- the procedures are those that the entries define
abbrev pub AreDefined : List Text → List Placed → List Procedure → Type 0
AreDefined names entries keys = (m n a : ℕ) → m < length names → n < length names
    → list_any (same_procedure (record { «module» = m; name = n; arity = a })) keys ≡ defines (entry_texts names entries) (text_at names m) (ind_text names n a)

-- what modules give of their own
abbrev pub gives_number : List Text → List (PlacedOf Text) → Procedure → Bool
gives_number names ps p = gives_own ps (text_at names p.module) (ind_text names p.name p.arity)

pub record AreSeeds (names : List Text) (ps : List (PlacedOf Text)) (found : List Given) : Type 0 where
  pub only : (g : Given) → Contains found g → (g.definer ≡ g.procedure.module) × (g.procedure.module < length names) × (g.procedure.name < length names) × (gives_number names ps g.procedure ≡ true)
  pub all : (p : Procedure) → p.module < length names → p.name < length names → gives_number names ps p ≡ true → Contains found (record { procedure = p; definer = p.module })

abbrev pub IsNamedCause : ℕ → Cause → Type 0
IsNamedCause n c = (c.module.0 < n) × (c.ind.name.0 < n) × (c.definer.0 < n)

abbrev pub AreNamed : ℕ → List Cause → Type 0
AreNamed n cs = (c : Cause) → Contains cs c → IsNamedCause n c

-- the causes of the entries, in some order, with names of the table
pub record AreCauses (names : List Text) (entries : List Placed) (cs : List Cause) : Type 0 where
  pub named : AreNamed (length names) cs
  pub there : (c : Cause) → Contains cs c → Contains (causes (entry_texts names entries)) (cause_text names c)
  pub all : (x : CauseOf) → Contains (causes (entry_texts names entries)) x → (c : Cause) × (Contains cs c) × (cause_text names c ≡ x)

-- what modules give of their own, and its causes after others
pub record Exports (names : List Text) (entries : List Placed) (before : List Cause) (found : List Given) (after : List Cause) : Type 0 where
  pub seeds : AreSeeds names (entry_texts names entries) found
  pub causes_are : map (cause_text names) after ≡ map (cause_text names) before ++ owns (entry_texts names entries)
  pub named : AreNamed (length names) before → AreNamed (length names) after
