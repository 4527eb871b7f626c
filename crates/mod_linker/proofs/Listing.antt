-- The entries of units, unit by unit.
use Rattle.std.proofs.Common.{◌≡◌, ℕ, ◌+◌, ◌<◌, List, [], ◌∷◌, ◌++◌, length, map, take, get_or, sym, ap, ◌∙◌, arith}
use Rattle.std.specs.List.{AllByRecursion, flat_map}
use Rattle.std.proofs.lemmas.List.{append-nil, map-append}
use Rattle.std.proofs.lemmas.List.Concat.{flat_map-append}
use Rattle.pl_atoms.specs.Names.{Remaps}
use Rattle.pl_atoms.proofs.Numbers.{length-Remaps}
use Rattle.unit_model.specs.Facts.{Facts as FactsOf}
use Rattle.unit_model.specs.Directives.{Text}
use Rattle.unit_model.specs.Encoding.{text_at}
use Rattle.unit_model.specs.declared.facts.Section.{Section}
use Rattle.unit_format.specs.Views.{unit_facts}
use Rattle.unit_format.specs.declared.unit.Unit.{Unit as ReadUnit}
use Rattle.program_model.specs.Saying.{Said, said_by, said_in, said}
use Rattle.mod_faults.proofs.Units.{more_taken}
use Rattle.mod_linker.specs.Items.{saids_of, IsSectionOf}
use Rattle.mod_linker.proofs.Gathering.{saids_same, unit_sections}

homes : (from : List Text) (n : ℕ) (ss : List Section) → length from ≡ n → AllByRecursion (IsSectionOf from) ss → AllByRecursion (λ s. s.module.0 < n) ss
homes from n [] e h = tt
homes from n (s ∷ ss) e h = (let lt = h.0.of in omega arith, homes from n ss e h.1)

pub homes_below : (u : ReadUnit) (names : List Text) (numbers : List ℕ) → Remaps u.names names numbers → AllByRecursion (λ s. s.module.0 < length numbers) u.facts.sections
homes_below u names numbers taken = homes u.names (length numbers) u.facts.sections (sym (length-Remaps u.names names numbers taken)) (unit_sections u.names u.facts u.valid)

pub unit-more : (units : List ReadUnit) (k : ℕ) (u : ReadUnit) (names : List Text) (numbers : List ℕ) (out new : List (Said ℕ)) → k < length units → u ≡ get_or units k u → Remaps u.names names numbers
    → map (said_by (text_at names)) out ≡ said (map unit_facts (take k units)) → new ≡ out ++ saids_of numbers u.facts.sections → map (said_by (text_at names)) new ≡ said (map unit_facts (take (k + 1) units))
unit-more units k u names numbers out new lt is taken h step =
    let before = said (map unit_facts (take k units)) in
    ap (map (said_by (text_at names))) step
    ∙ map-append (said_by (text_at names)) out (saids_of numbers u.facts.sections)
    ∙ ap (λ l. l ++ map (said_by (text_at names)) (saids_of numbers u.facts.sections)) h
    ∙ ap (λ l. before ++ l) (saids_same u.names names numbers taken u.facts.sections (unit_sections u.names u.facts u.valid))
    ∙ sym (ap (λ (us : List ReadUnit). said (map unit_facts us)) (more_taken units k u lt is)
    ∙ ap said (map-append unit_facts (take k units) (u ∷ []))
    ∙ flat_map-append (λ (f : FactsOf Text). flat_map said_in f.sections) (map unit_facts (take k units)) (unit_facts u ∷ [])
    ∙ ap (λ l. before ++ l) (append-nil (flat_map said_in (unit_facts u).sections)))
