-- The names of units that are taken into a table are among its names, and so are their modules.
use Rattle.std.proofs.Common.{◌≡◌, ℕ, ◌<◌, List, [], ◌∷◌, length, map, get_or, true, subst, arith}
use Rattle.std.specs.List.{AllByRecursion, flat_map}
use Rattle.std.proofs.lemmas.List.{length-map}
use Rattle.pl_atoms.specs.Names.{IsFront}
use Rattle.pl_atoms.proofs.Numbers.{Remaps-front}
use Rattle.unit_model.specs.Directives.{Text}
use Rattle.unit_model.specs.Encoding.{text_at}
use Rattle.unit_model.specs.Validity.{keeps_rules}
use Rattle.unit_model.specs.declared.facts.Section.{Section}
use Rattle.unit_model.specs.declared.facts.SectionKind.{SectionKind}
use Rattle.unit_model.specs.declared.facts.SectionKind.TheVariants.{Interface, Body}
use Rattle.unit_format.specs.Uses.{section_uses}
use Rattle.unit_format.specs.Views.{unit_facts}
use Rattle.unit_format.specs.declared.unit.Unit.{Unit as ReadUnit}
use Rattle.mod_visible.specs.Placing.{AllBelow}
use Rattle.mod_faults.specs.Tables.{AreTaken}
use Rattle.mod_faults.proofs.Tables.{taken_at}
use Rattle.mod_faults.proofs.Units.{get_or-itself, sections_below}
use Rattle.mod_linker.specs.Linking.{is_among}
use Rattle.mod_linker.specs.Modules.{module_texts, if_interface, section_texts}
use Rattle.mod_linker.proofs.Among.{all-from, remapped-among}
use Rattle.mod_linker.proofs.Gathering.{all_append, rules_of}
use Rattle.mod_linker.proofs.Interfaces.{all_known, texts_in, texts-unit}

pub taken-front : (froms : List (List Text)) (old new : List Text) (numbers : List (List ℕ)) → IsFront old new → AreTaken froms old numbers → AreTaken froms new numbers
taken-front froms old new numbers front h = record { count = h.count; each = λ k lt. Remaps-front (get_or froms k []) old new (get_or numbers k []) front (h.each k lt) }

pub taken-among : (units : List ReadUnit) (names : List Text) (numbers : List (List ℕ)) → AreTaken (map (λ u. u.names) units) names numbers → AllByRecursion (λ u. AllByRecursion (λ t. is_among names t ≡ true) u.names) units
taken-among units names numbers h = all-from (λ (u : ReadUnit). AllByRecursion (λ t. is_among names t ≡ true) u.names) units (λ k u lt is.
    let within : k < length numbers = omega (arith, lt, h.count, length-map units (λ (v : ReadUnit). v.names)) in
    remapped-among u.names names (get_or numbers k []) (taken_at units k u names numbers (get_or numbers k []) lt is (get_or-itself numbers k [] within) h))

-- ---- modules of interfaces

module _ (names from : List Text) (known : AllByRecursion (λ t. is_among names t ≡ true) from) where
  section-among : (k : SectionKind) (n : ℕ) → n < length from → AllByRecursion (λ t. is_among names t ≡ true) (if_interface k (text_at from n))
  section-among Interface n lt = (all_known (λ (t : Text). is_among names t ≡ true) from n [] lt known, tt)
  section-among Body n lt = tt

  sections-among : (ss : List Section) → AllByRecursion (λ s. AllBelow (length from) (section_uses s)) ss → AllByRecursion (λ t. is_among names t ≡ true) (texts_in (text_at from) ss)
  sections-among [] h = tt
  sections-among (s ∷ ss) h =
      all_append (λ (t : Text). is_among names t ≡ true) (section_texts (text_at from) s) (texts_in (text_at from) ss) (section-among s.kind s.module.0 h.0.0) (sections-among ss h.1)

pub modules-among : (names : List Text) (units : List ReadUnit) → AllByRecursion (λ u. AllByRecursion (λ t. is_among names t ≡ true) u.names) units → AllByRecursion (λ t. is_among names t ≡ true) (flat_map module_texts (map unit_facts units))
modules-among names [] h = tt
modules-among names (u ∷ units) h =
    all_append (λ (t : Text). is_among names t ≡ true) (module_texts (unit_facts u)) (flat_map module_texts (map unit_facts units))
    (subst (λ ts. AllByRecursion (λ (t : Text). is_among names t ≡ true) ts) (texts-unit u) (sections-among names u.names h.0 u.facts.sections (sections_below u.names u.facts u.valid)))
    (modules-among names units h.1)

-- ---- rules

pub units-rules : (units : List ReadUnit) → AllByRecursion (λ f. keeps_rules f ≡ true) (map unit_facts units)
units-rules [] = tt
units-rules (u ∷ units) = (rules_of u.names u.facts u.valid, units-rules units)
