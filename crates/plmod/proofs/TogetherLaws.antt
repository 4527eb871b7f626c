-- Texts that are prepared together, one after the other.
use Rattle.std.proofs.Common.{◌≡◌, ℕ, ◌+◌, ◌<◌, ◌≤◌, List, [], ◌∷◌, ◌++◌, length, map, drop, get_or, Option, Some, None, refl, sym, ap, ◌∙◌, subst}
use Rattle.std.proofs.lemmas.Grind.{flat_map-append}
use Rattle.std.proofs.lemmas.List.{append-nil, map-append, drop_all, drop_more, length_push}
use Rattle.unit_model.specs.Facts.{Facts}
use Rattle.unit_model.specs.Directives.{Text}
use Rattle.unit_model.specs.Preparing.{Interface}
use Rattle.unit_model.specs.Prepared.{Prepared, FirstFault}
use Rattle.unit_model.specs.Known.{interfaces_of}
use Rattle.unit_format.specs.Views.{unit_facts}
use Rattle.unit_format.specs.declared.unit.Unit.{Unit as ReadUnit}
use Rattle.link_model.specs.Faults.{Fault, first_link}
use Rattle.link_model.specs.Texts.{known, Whole, prep_fault, link_fault, program, linked, WholeFrom, all_prepared, faulty, one_more, WholeIs}

-- Units of the texts before a place: what they are together with the texts from there on, that all the texts are.
pub record SoFar (texts : List Text) (place : ℕ) (is : List Interface) (us : List (Facts Text)) : Type 0 where
  pub know : is ≡ known us
  pub count : length us ≡ place
  pub rest : (w : Whole) → WholeFrom us (drop place texts) w → WholeIs texts w

pub none_yet : (texts : List Text) (is : List Interface) (us : List ReadUnit) → is ≡ [] → us ≡ [] → SoFar texts 0 is (map unit_facts us)
none_yet texts is us nothing none =
    let P : List ReadUnit → Type 0 = λ l. SoFar texts 0 is (map unit_facts l) in
    subst P (sym none) (record { know = nothing; count = refl; rest = λ w h. h })

-- the texts from a place on
from_place : (texts : List Text) (place : ℕ) (t : Text) → place < length texts → t ≡ get_or texts place t → drop place texts ≡ t ∷ drop (place + 1) texts
from_place texts place t h at = drop_more texts place t h ∙ ap (λ x. x ∷ drop (place + 1) texts) (sym at)

known_more : (us : List (Facts Text)) (f : Facts Text) → known (us ++ f ∷ []) ≡ known us ++ interfaces_of f
known_more us f = flat_map-append interfaces_of us (f ∷ []) ∙ ap (λ l. known us ++ l) (append-nil (interfaces_of f))

further : (texts : List Text) (place : ℕ) (t : Text) (is : List Interface) (us : List (Facts Text)) (f : Facts Text) → place < length texts → t ≡ get_or texts place t → Prepared is t f
    → SoFar texts place is us → SoFar texts (place + 1) (is ++ interfaces_of f) (us ++ f ∷ [])
further texts place t is us f h at prepared s =
    let P : List Interface → Type 0 = λ l. Prepared l t f in
    record {
      know = ap (λ l. l ++ interfaces_of f) s.know ∙ sym (known_more us f);
      count = length_push us f ∙ ap (λ n. n + 1) s.count;
      rest = λ w k. (let Q : List Text → Type 0 = λ l. WholeFrom us l w in
          s.rest w (subst Q (sym (from_place texts place t h at)) (one_more us t (drop (place + 1) texts) f w (subst P s.know prepared) k)));
    }

-- one more text was prepared
pub one_further : (texts : List Text) (place : ℕ) (t : Text) (is : List Interface) (us : List ReadUnit) (u : ReadUnit) → place < length texts → t ≡ get_or texts place t
    → Prepared is t (unit_facts u) → SoFar texts place is (map unit_facts us) → SoFar texts (place + 1) (is ++ interfaces_of (unit_facts u)) (map unit_facts (us ++ u ∷ []))
one_further texts place t is us u h at prepared s =
    let P : List (Facts Text) → Type 0 = λ l. SoFar texts (place + 1) (is ++ interfaces_of (unit_facts u)) l in
    subst P (sym (map-append unit_facts us (u ∷ []))) (further texts place t is (map unit_facts us) (unit_facts u) h at prepared s)

-- the text at the place has a fault
pub first_faulty : (texts : List Text) (place : ℕ) (t : Text) (is : List Interface) (us : List (Facts Text)) (n byte : ℕ) → place < length texts → t ≡ get_or texts place t
    → FirstFault is t n byte → SoFar texts place is us → WholeIs texts (prep_fault n place byte)
first_faulty texts place t is us n byte h at first s =
    let P : List Interface → Type 0 = λ l. FirstFault l t n byte in
    let Q : List Text → Type 0 = λ l. WholeFrom us l (prep_fault n (length us) byte) in
    let R : ℕ → Type 0 = λ k. WholeIs texts (prep_fault n k byte) in
    subst R s.count (s.rest (prep_fault n (length us) byte) (subst Q (sym (from_place texts place t h at)) (faulty us t (drop (place + 1) texts) n byte (subst P s.know first))))

-- all texts were prepared
pub all_done : (texts : List Text) (place : ℕ) (is : List Interface) (us : List (Facts Text)) → length texts ≤ place → SoFar texts place is us → WholeIs texts (linked us (first_link us))
all_done texts place is us h s =
    let P : List Text → Type 0 = λ l. WholeFrom us l (linked us (first_link us)) in
    s.rest (linked us (first_link us)) (subst P (sym (drop_all place texts h)) (all_prepared us))

-- units without a link fault are the program
pub linked_program : (texts : List Text) (us : List (Facts Text)) → first_link us ≡ None → WholeIs texts (linked us (first_link us)) → WholeIs texts (program us)
linked_program texts us none w = let P : Option Fault → Type 0 = λ o. WholeIs texts (linked us o) in subst P none w

-- and those with one are it
pub linked_fault : (texts : List Text) (us : List (Facts Text)) (f : Fault) → first_link us ≡ Some f → WholeIs texts (linked us (first_link us)) → WholeIs texts (link_fault f)
linked_fault texts us f some w = let P : Option Fault → Type 0 = λ o. WholeIs texts (linked us o) in subst P some w
