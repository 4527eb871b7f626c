-- What a pass over a list makes of each element and those before it, with what it keeps of those.
use Rattle.std.specs.Prelude.{◌≡◌, List, ◌++◌}
use Rattle.std.specs.List.{flat_map}
use Rattle.link_model.specs.Places.{steps}

module _ {A F : Type 0} (made : List A → A → List F) where
  abbrev pub made_of : List A → List A → List F
  made_of before xs = flat_map (λ x. made x.0 x.1) (steps before xs)

-- after elements of which it keeps s, the pass keeps s' and makes what belongs to these
abbrev pub Passes : {S A F : Type 0} → (S → List A → Type 0) → (List A → A → List F) → List A → S → S → List F → List F → Type 0
Passes {S} {A} {F} Keeps made xs s s' old new = (before : List A) → Keeps s before → Keeps s' (before ++ xs) × (new ≡ old ++ made_of made before xs)
