-- Units of texts, and the whole of the texts.
use Rattle.std.specs.Prelude.{◌≡◌, List, []}
use Rattle.unit_model.specs.Facts.{Facts}
use Rattle.unit_model.specs.Directives.{Text}
use Rattle.link_model.specs.Faults.{link_faults, first_link, unmet, repeated}
use Rattle.link_model.specs.Texts.{Whole, program, linked, WholeIs}
use Rattle.link_model.specs.Laws.{PreparedApart, PreparedTogether}

-- units prepared apart, each where some interfaces are known, are the whole where they have no link fault
abbrev pub ApartIsWhole : Type 0
ApartIsWhole = (ts : List Text) (us : List (Facts Text)) → PreparedApart ts us → link_faults us ≡ [] → WholeIs ts (program us)

-- units prepared together, each where those before it are known
abbrev pub TogetherIsWhole : Type 0
TogetherIsWhole = (ts : List Text) (us : List (Facts Text)) → PreparedTogether [] ts us → (unmet us ≡ []) × (repeated us ≡ []) × WholeIs ts (linked us (first_link us))

abbrev pub OneWhole : Type 0
OneWhole = (ts : List Text) (v w : Whole) → WholeIs ts v → WholeIs ts w → v ≡ w
