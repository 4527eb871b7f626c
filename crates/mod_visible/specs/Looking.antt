-- What procedures of modules are looked up by.
use Rattle.std.specs.Prelude.{◌≡◌, ℕ, List, length, slice_get, true, Option, Some, None}
use Rattle.unit_model.specs.Facts.{Facts}
use Rattle.unit_model.specs.Directives.{Text}
use Rattle.link_model.specs.Places.{Ind}
use Rattle.link_model.specs.Seeing.{Sort as SortOf, Cause as CauseOf}
use Rattle.link_model.specs.Faults.{is_by}
use Rattle.mod_visible.specs.declared.cause.Sort.{Sort}
use Rattle.mod_visible.specs.declared.cause.Cause.{Cause}
use Rattle.mod_visible.specs.declared.keys.Key.{Key}
use Rattle.mod_visible.specs.Causing.{cause_text, IsNamedCause}
use Rattle.mod_visible.specs.Finding.{IsCauseFor}
use Rattle.mod_visible.specs.Leasts.{key_for}

-- the key of the procedure with this name and number of arguments in the module of a number, and in that with this name
pub record IsKeyIn (names : List Text) (s : Sort) (home : ℕ) (i : Text) (n : ℕ) (k : Key) : Type 0 where
  pub name : ℕ
  pub called : slice_get names name ≡ Some i
  pub is : k ≡ key_for s (record { «module» = home; name = name; arity = n })

pub record IsKeyFor (names : List Text) (s : Sort) (m i : Text) (n : ℕ) (k : Key) : Type 0 where
  pub home : ℕ
  pub of : slice_get names home ≡ Some m
  pub key : IsKeyIn names s home i n k

-- a cause for i in m, with none before it
pub record IsFirstOf (us : List (Facts Text)) (s : SortOf) (m : Text) (i : Ind) (x : CauseOf) : Type 0 where
  pub it : IsCauseFor us s m i x
  pub first : (e : CauseOf) → IsCauseFor us s m i e → is_by x e ≡ true

abbrev pub IsFirstFor : List (Facts Text) → List Text → SortOf → Text → Ind → Option Cause → Type 0
IsFirstFor us names s m i None = (e : CauseOf) → IsCauseFor us s m i e → ⊥
IsFirstFor us names s m i (Some c) = IsNamedCause (length names) c × IsFirstOf us s m i (cause_text names c)
