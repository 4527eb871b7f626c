-- What is visible in modules, and the causes of it.
use Rattle.std.specs.Prelude.{◌≡◌, ℕ, List, [], ◌∷◌, map, Bool, true, false, ◌&&◌, ◌||◌, if◌then◌else◌}
use Rattle.std.specs.List.{flat_map, list_any}
use Rattle.pl_ops.specs.Tables.{same_text}
use Rattle.unit_model.specs.Facts.{Facts}
use Rattle.unit_model.specs.Directives.{Text}
use Rattle.unit_model.specs.Known.{interfaces_of}
use Rattle.link_model.specs.Places.{Ind, same_ind, is_built_in, user, system, defining, exporting, reexporting_all, reexporting, moding, importing_all, importing, idle, Placed, places_of, steps}
use Rattle.link_model.specs.Giving.{defines, Gives, given, given_for}

-- user, system, and each module with an interface
abbrev pub exists : List (Facts Text) → Text → Bool
exists us m = same_text m user || (same_text m system || list_any (λ i. same_text i.of m) (flat_map interfaces_of us))

-- a body of m imports i, or all, from n
abbrev pub is_importing : Text → Text → Ind → Placed Text → Bool
is_importing m n i p = elim p.role [
  | importing_all k ↦ same_text p.of m && same_text k n
  | importing k j ↦ same_text p.of m && (same_text k n && same_ind i j)
  | _ ↦ false
]

-- i of d is visible in m
pub data Visible (us : List (Facts Text)) : Text → Ind → Text → Type 0 where
  built_in : (m : Text) (i : Ind) → exists us m ≡ true → is_built_in i ≡ true → Visible us m i system
  defined : (m : Text) (i : Ind) → exists us m ≡ true → defines (places_of 0 us) m i ≡ true → Visible us m i m
  imported : (m n : Text) (i : Ind) (d : Text) → exists us m ≡ true → list_any (is_importing m n i) (places_of 0 us) ≡ true
      → Gives (places_of 0 us) n i d → Visible us m i d

-- why i of definer is visible in a module, or why the module gives it
pub data Sort : Type 0 where
  seeing : Sort
  giving : Sort

pub record Cause : Type 0 where
  pub sort : Sort
  pub of : Text
  pub ind : Ind
  pub unit : ℕ
  pub byte : ℕ
  pub definer : Text

abbrev pub causes_at : Sort → Placed Text → List (Ind × Text) → List Cause
causes_at sort p = map (λ x. record { sort = sort; of = p.of; ind = x.0; unit = p.unit; byte = p.byte; definer = x.1 })

-- the causes of an entry, after those before it
abbrev pub causes_of : List (Placed Text) → List (Placed Text) → Placed Text → List Cause
causes_of ps before p = elim p.role [
  | defining i ↦ if defines before p.of i then [] else causes_at seeing p ((i, p.of) ∷ [])
  | exporting i ↦ if defines ps p.of i then causes_at giving p ((i, p.of) ∷ []) else []
  | reexporting_all n ↦ causes_at giving p (given ps n)
  | reexporting n i ↦ causes_at giving p (given_for ps n i)
  | importing_all n ↦ causes_at seeing p (given ps n)
  | importing n i ↦ causes_at seeing p (given_for ps n i)
  | moding i ↦ []
  | idle ↦ []
]

abbrev pub causes : List (Placed Text) → List Cause
causes ps = flat_map (λ x. causes_of ps x.0 x.1) (steps [] ps)
