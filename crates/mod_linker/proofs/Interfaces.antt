-- The modules that units add, section by section and unit by unit.
use Rattle.std.proofs.Common.{◌≡◌, ℕ, zero, suc, ◌+◌, ◌<◌, ◌≤◌, List, [], ◌∷◌, ◌++◌, length, map, take, get_or, slice_get, true, refl, sym, ap, subst, ◌∙◌, arith, cond, Some, None}
use Rattle.std.specs.List.{AllByRecursion, list_any, flat_map, filter_map, cons_option}
use Rattle.std.proofs.lemmas.List.{append-nil, take_all, map-append}
use Rattle.std.proofs.lemmas.List.Concat.{flat_map-append}
use Rattle.pl_atoms.specs.Names.{same_text}
use Rattle.unit_model.specs.Facts.{section_by}
use Rattle.unit_model.specs.Directives.{Text}
use Rattle.unit_model.specs.Encoding.{text_at}
use Rattle.unit_model.specs.Views.{kind_view, section_view}
use Rattle.unit_model.specs.declared.facts.Section.{Section}
use Rattle.unit_model.specs.declared.facts.SectionKind.{SectionKind}
use Rattle.unit_model.specs.declared.facts.SectionKind.TheVariants.{Interface, Body}
use Rattle.unit_model.specs.Known.{interface_of}
use Rattle.unit_model.specs.Preparing.{Interface as InterfaceOf, is_interface, operators_of}
use Rattle.unit_format.specs.Views.{unit_facts}
use Rattle.unit_format.specs.declared.unit.Unit.{Unit as ReadUnit}
use Rattle.unit_format.specs.Uses.{section_uses}
use Rattle.mod_visible.specs.Placing.{AllBelow}
use Rattle.pl_store.specs.Linked.{Linked, with_module}
use Rattle.mod_faults.proofs.Units.{more_taken, AllBy-at, sections_below}
use Rattle.mod_linker.specs.Modules.{module_texts, if_interface, section_texts, AddsModules}
use Rattle.mod_linker.proofs.Modular.{adds-more, adds-one}

module _ (f : ℕ → Text) where
  -- the modules of sections in memory
  abbrev pub texts_in : List Section → List Text
  texts_in ss = flat_map (section_texts f) ss

  one : (k : SectionKind) (i : InterfaceOf) (rest : List InterfaceOf) (texts : List Text) → map (λ (j : InterfaceOf). j.of) rest ≡ texts
      → map (λ (j : InterfaceOf). j.of) (cons_option (cond (is_interface (kind_view k)) (Some i) None) rest) ≡ if_interface k i.of ++ texts
  one Interface i rest texts e = ap (λ l. i.of ∷ l) e
  one Body i rest texts e = e

  texts_are : (ss : List Section) → map (λ (i : InterfaceOf). i.of) (filter_map interface_of (map (section_by f) (map section_view ss))) ≡ texts_in ss
  texts_are [] = refl
  texts_are (s ∷ ss) = one s.kind (record { of = f s.module.0; operators = operators_of (section_by f (section_view s)).entries }) (filter_map interface_of (map (section_by f) (map section_view ss))) (texts_in ss) (texts_are ss)

pub texts-unit : (u : ReadUnit) → texts_in (text_at u.names) u.facts.sections ≡ module_texts (unit_facts u)
texts-unit u = sym (texts_are (text_at u.names) u.facts.sections)

pub section-adds : (f : ℕ → Text) (ss : List Section) (k : ℕ) (s : Section) (l m n : Linked) → k < length ss → s ≡ get_or ss k s → AddsModules (texts_in f (take k ss)) l m → AddsModules (section_texts f s) m n → AddsModules (texts_in f (take (k + 1) ss)) l n
section-adds f ss k s l m n lt is p q =
    subst (λ ts. AddsModules ts l n) (sym (ap (texts_in f) (more_taken ss k s lt is) ∙ flat_map-append (section_texts f) (take k ss) (s ∷ []) ∙ ap (λ ts. texts_in f (take k ss) ++ ts) (append-nil (section_texts f s))))
    (adds-more (texts_in f (take k ss)) (section_texts f s) l m n p q)

pub unit-adds : (us : List ReadUnit) (k : ℕ) (u : ReadUnit) (l m n : Linked) → k < length us → u ≡ get_or us k u → AddsModules (flat_map module_texts (map unit_facts (take k us))) l m → AddsModules (module_texts (unit_facts u)) m n
    → AddsModules (flat_map module_texts (map unit_facts (take (k + 1) us))) l n
unit-adds us k u l m n lt is p q =
    let before = flat_map module_texts (map unit_facts (take k us)) in
    subst (λ ts. AddsModules ts l n)
    (sym (ap (λ (vs : List ReadUnit). flat_map module_texts (map unit_facts vs)) (more_taken us k u lt is) ∙ ap (flat_map module_texts) (map-append unit_facts (take k us) (u ∷ []))
    ∙ flat_map-append module_texts (map unit_facts (take k us)) (unit_facts u ∷ []) ∙ ap (λ ts. before ++ ts) (append-nil (module_texts (unit_facts u)))))
    (adds-more before (module_texts (unit_facts u)) l m n p q)

-- ---- what is asked of a section

pub all_known : {A : Type 0} (P : A → Type 0) (xs : List A) (k : ℕ) (d : A) → k < length xs → AllByRecursion P xs → P (get_or xs k d)
all_known P [] k d lt h = absurd (omega arith)
all_known P (x ∷ xs) zero d lt h = h.0
all_known P (x ∷ xs) (suc k) d lt h = all_known P xs k d (omega arith) h.1

pub module-below : (u : ReadUnit) (ss : List Section) (k : ℕ) (s : Section) → ss ≡ u.facts.sections → k < length ss → s ≡ get_or ss k s → s.module.0 < length u.names
module-below u ss k s e lt is =
    (AllBy-at (λ (t : Section). AllBelow (length u.names) (section_uses t)) ss k s lt is
    (subst (λ (xs : List Section). AllByRecursion (λ (t : Section). AllBelow (length u.names) (section_uses t)) xs) (sym e) (sections_below u.names u.facts u.valid))).0

pub module-known : (u : ReadUnit) (ss : List Section) (k : ℕ) (s : Section) (texts : List Text) (l m : Linked) → ss ≡ u.facts.sections → k < length ss → s ≡ get_or ss k s → AddsModules texts l m
    → AllByRecursion (λ t. list_any (same_text t) l.names ≡ true) u.names → list_any (same_text (text_at u.names s.module.0)) m.names ≡ true
module-known u ss k s texts l m e lt is a h =
    subst (λ (ns : List Text). list_any (same_text (text_at u.names s.module.0)) ns ≡ true) (sym a.names)
    (all_known (λ (t : Text). list_any (same_text t) l.names ≡ true) u.names s.module.0 [] (module-below u ss k s e lt is) h)

pub unit-known : (us : List ReadUnit) (k : ℕ) (u : ReadUnit) (l i m : Linked) → k < length us → u ≡ get_or us k u → i.names ≡ l.names → m.names ≡ i.names
    → AllByRecursion (λ v. AllByRecursion (λ t. list_any (same_text t) l.names ≡ true) v.names) us → AllByRecursion (λ t. list_any (same_text t) m.names ≡ true) u.names
unit-known us k u l i m lt is first then h =
    subst (λ (ns : List Text). AllByRecursion (λ t. list_any (same_text t) ns ≡ true) u.names) (sym (then ∙ first))
    (AllBy-at (λ (v : ReadUnit). AllByRecursion (λ t. list_any (same_text t) l.names ≡ true) v.names) us k u lt is h)

-- ---- ends of loops, and one module

pub sections-added : (u : ReadUnit) (ss : List Section) (k : ℕ) (l m : Linked) → ss ≡ u.facts.sections → length ss ≤ k → AddsModules (texts_in (text_at u.names) (take k ss)) l m → AddsModules (module_texts (unit_facts u)) l m
sections-added u ss k l m e le h = subst (λ ts. AddsModules ts l m) (ap (texts_in (text_at u.names)) (take_all k ss le) ∙ ap (texts_in (text_at u.names)) e ∙ texts-unit u) h

pub units-added : (us : List ReadUnit) (k : ℕ) (l m : Linked) → length us ≤ k → AddsModules (flat_map module_texts (map unit_facts (take k us))) l m → AddsModules (flat_map module_texts (map unit_facts us)) l m
units-added us k l m le h = subst (λ (vs : List ReadUnit). AddsModules (flat_map module_texts (map unit_facts vs)) l m) (take_all k us le) h

pub module-adds : (l m : Linked) (text : Text) (id : ℕ) → list_any (same_text text) l.names ≡ true → m ≡ with_module l text id → slice_get m.names id ≡ Some text → AddsModules (text ∷ []) l m
module-adds l m text id known grown there =
    subst (λ (w : Linked). AddsModules (text ∷ []) l w) (sym grown) (adds-one l text id known (subst (λ (w : Linked). slice_get w.names id ≡ Some text) grown there))

pub interface-adds : (f : ℕ → Text) (s : Section) (l m : Linked) (text : Text) (id : ℕ) → s.kind ≡ Interface → text ≡ f s.module.0 → list_any (same_text (f s.module.0)) l.names ≡ true → m ≡ with_module l text id → slice_get m.names id ≡ Some text
    → AddsModules (section_texts f s) l m
interface-adds f s l m text id kind is known grown there =
    subst (λ ts. AddsModules ts l m) (sym (ap (λ k. if_interface k (f s.module.0)) kind ∙ ap (λ (t : Text). t ∷ []) (sym is)))
    (module-adds l m text id (subst (λ (t : Text). list_any (same_text t) l.names ≡ true) (sym is) known) grown there)
