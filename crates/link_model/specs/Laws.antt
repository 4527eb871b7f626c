-- Laws of linking.
use Rattle.std.specs.Prelude.{◌≡◌, List, [], ◌∷◌, ◌++◌, Bool, true, false, ◌↔◌, All, Contains, MatchOption}
use Rattle.std.specs.Ordering.{is_lt}
use Rattle.unit_model.specs.Facts.{Facts}
use Rattle.unit_model.specs.Directives.{Text}
use Rattle.unit_model.specs.Preparing.{Interface}
use Rattle.unit_model.specs.Prepared.{Prepared, PreparingIsDecided}
use Rattle.link_model.specs.Places.{Ind, Placed}
use Rattle.link_model.specs.Giving.{gives_own, passes, Gives, gives}
use Rattle.link_model.specs.Faults.{link_faults, first_link, fault_cmp, unmet, repeated}
use Rattle.link_model.specs.Texts.{known, Agrees, AllAgree, Whole, program, linked, WholeIs}

-- a relation with the two rules of giving
pub record IsClosed (ps : List (Placed Text)) (R : Text → Ind → Text → Bool) : Type 0 where
  pub own : (m : Text) (i : Ind) → gives_own ps m i ≡ true → R m i m ≡ true
  pub passed : (m n : Text) (i : Ind) (d : Text) → passes ps m n i ≡ true → R n i d ≡ true → R m i d ≡ true

-- the test is closed, and below each relation that is; it says what Gives says
pub record GivesIsLeast : Type 0 where
  pub closed : (ps : List (Placed Text)) → IsClosed ps (gives ps)
  pub below : (ps : List (Placed Text)) (R : Text → Ind → Text → Bool) → IsClosed ps R → (m : Text) (i : Ind) (d : Text) → gives ps m i d ≡ true → R m i d ≡ true
  pub tested : (ps : List (Placed Text)) (m : Text) (i : Ind) (d : Text) → (gives ps m i d ≡ true) ↔ Gives ps m i d

-- the first link fault is one of them, and none is before it
abbrev pub FirstIsLeast : Type 0
FirstIsLeast = (us : List (Facts Text)) → MatchOption (first_link us) (link_faults us ≡ []) (λ f. Contains (link_faults us) f × All (λ g. is_lt (fault_cmp g f) ≡ false) (link_faults us))

-- no need is unmet and no interface repeated exactly where each unit agrees with those before it
abbrev pub ApartIsTogether : Type 0
ApartIsTogether = (us : List (Facts Text)) → ((unmet us ≡ []) × (repeated us ≡ [])) ↔ AllAgree [] us

-- the facts of texts, each prepared where some interfaces are known
abbrev pub PreparedApart : List Text → List (Facts Text) → Type 0
PreparedApart [] [] = Unit {0}
PreparedApart [] (f ∷ fs) = ⊥
PreparedApart (t ∷ ts) [] = ⊥
PreparedApart (t ∷ ts) (f ∷ fs) = ((is : List Interface) × Prepared is t f) × PreparedApart ts fs

-- the same, where those of the units before each are known
abbrev pub PreparedTogether : List (Facts Text) → List Text → List (Facts Text) → Type 0
PreparedTogether before [] [] = Unit {0}
PreparedTogether before [] (f ∷ fs) = ⊥
PreparedTogether before (t ∷ ts) [] = ⊥
PreparedTogether before (t ∷ ts) (f ∷ fs) = Prepared (known before) t f × PreparedTogether (before ++ f ∷ []) ts fs

-- the facts of a text agree with what was known, and the text reads nothing else of that
pub record PreparingReadsNeeds : Type 0 where
  pub agrees : (before : List Interface) (t : Text) (f : Facts Text) → Prepared before t f → Agrees before f
  pub same : (before other : List Interface) (t : Text) (f : Facts Text) → Prepared before t f → Agrees other f → Prepared other t f

-- where units that were prepared apart have no link fault, they are the whole of their texts; units that were prepared together
-- have no unmet need and no repeated interface, and the whole is their first link fault or they themselves
pub record WholeOfUnits : Type 0 where
  pub apart : (ts : List Text) (us : List (Facts Text)) → PreparedApart ts us → link_faults us ≡ [] → WholeIs ts (program us)
  pub together : (ts : List Text) (us : List (Facts Text)) → PreparedTogether [] ts us → (unmet us ≡ []) × (repeated us ≡ []) × WholeIs ts (linked us (first_link us))

-- the whole of texts is one value, where preparing is decided
abbrev pub WholeIsOne : Type 0
WholeIsOne = PreparingIsDecided → (ts : List Text) (v w : Whole) → WholeIs ts v → WholeIs ts w → v ≡ w
