-- The causes of entries by what they are: first clauses, exports of what is defined, and what is taken of other modules.
use Rattle.std.specs.Prelude.{List, [], ◌∷◌, if◌then◌else◌}
use Rattle.std.specs.List.{flat_map}
use Rattle.unit_model.specs.Directives.{Text}
use Rattle.link_model.specs.Places.{Ind, Role, defining, exporting, reexporting_all, reexporting, importing_all, importing, Placed, steps}
use Rattle.link_model.specs.Giving.{defines, given, given_for}
use Rattle.link_model.specs.Seeing.{Sort, seeing, giving, Cause, causes_at}

abbrev pub cause_at : Sort → Placed Text → Ind → Text → Cause
cause_at s p i d = record { sort = s; of = p.of; ind = i; unit = p.unit; byte = p.byte; definer = d }

abbrev pub first_by : Role Text → List (Placed Text) → Placed Text → List Cause
first_by (defining i) before p = if defines before p.of i then [] else causes_at seeing p ((i, p.of) ∷ [])
first_by _ before p = []

abbrev pub own_by : Role Text → List (Placed Text) → Placed Text → List Cause
own_by (exporting i) ps p = if defines ps p.of i then causes_at giving p ((i, p.of) ∷ []) else []
own_by _ ps p = []

abbrev pub taken_by : Role Text → List (Placed Text) → Placed Text → List Cause
taken_by (reexporting_all n) ps p = causes_at giving p (given ps n)
taken_by (reexporting n i) ps p = causes_at giving p (given_for ps n i)
taken_by (importing_all n) ps p = causes_at seeing p (given ps n)
taken_by (importing n i) ps p = causes_at seeing p (given_for ps n i)
taken_by _ ps p = []

abbrev pub firsts : List (Placed Text) → List Cause
firsts ps = flat_map (λ x. first_by x.1.role x.0 x.1) (steps [] ps)

abbrev pub owns : List (Placed Text) → List Cause
owns ps = flat_map (λ p. own_by p.role ps p) ps

abbrev pub takens : List (Placed Text) → List Cause
takens ps = flat_map (λ p. taken_by p.role ps p) ps
