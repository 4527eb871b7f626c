-- A program with the modules and entries of units holds what they say.
use Rattle.std.proofs.Common.{◌≡◌, ℕ, ◌<◌, List, [], ◌∷◌, length, map, fold, Bool, true, false, not, ◌&&◌, ◌||◌, nat_eq, refl, sym, ap, subst, ◌∙◌, arith, position}
use Rattle.std.specs.Prelude.{codes}
use Rattle.std.specs.List.{AllByRecursion, flat_map, filter_map, list_any}
use Rattle.std.specs.Map.{lookup}
use Rattle.std.proofs.lemmas.List.Folds.{list_any-append}
use Rattle.pl_atoms.specs.Names.{same_text, AreDistinct}
use Rattle.unit_model.specs.Facts.{Facts}
use Rattle.unit_model.specs.Directives.{Text}
use Rattle.unit_model.specs.Encoding.{text_at}
use Rattle.unit_model.specs.Preparing.{Interface}
use Rattle.unit_model.specs.Validity.{keeps_rules}
use Rattle.unit_model.specs.Known.{interfaces_of}
use Rattle.link_model.specs.Places.{user, system}
use Rattle.link_model.specs.Seeing.{exists}
use Rattle.program_model.specs.Saying.{Said, said_by, said}
use Rattle.pl_store.specs.Linked.{Linked, Procedure, is_procedure, is_system, is_module, empty, with_names}
use Rattle.pl_store.specs.Rules.{IsExisting}
use Rattle.pl_store.specs.Runs.{clauses_from}
use Rattle.mod_faults.proofs.Lookups.{or_false}
use Rattle.mod_faults.proofs.Repeating.{same_text-flip}
use Rattle.mod_linker.specs.declared.items.Item.{Item}
use Rattle.mod_linker.specs.declared.key.Key.{Key}
use Rattle.mod_linker.specs.Counting.{with_one}
use Rattle.mod_linker.specs.Entering.{defined, same_numbers, defined_said, Enters, Takes}
use Rattle.mod_linker.specs.Holding.{AreSaids, HasEntries}
use Rattle.mod_linker.specs.Items.{items_view, AreItems}
use Rattle.mod_linker.specs.Keys.{ind_of, same_key, AreKnown, AreDeclared}
use Rattle.mod_linker.specs.Linking.{is_among}
use Rattle.mod_linker.specs.Modules.{module_texts, AreModules, with_module_text, AddsModules}
use Rattle.mod_linker.proofs.Among.{not-same}
use Rattle.mod_linker.proofs.Arities.{items-below}
use Rattle.mod_linker.proofs.Counting.{modules-many, procedures-many}

-- ---- before the first entry

enters-start : (l : Linked) (all : List (Said ℕ)) → l.procedures ≡ [] → Enters all [] l
enters-start l all e = record {
  clauses = λ d i. ap (λ (ps : List Procedure). clauses_from l (position (is_procedure d i) ps)) e;
  modes = λ p lt. absurd (let none = ap length e in omega (arith, lt, none));
}

pub known-start : (l : Linked) (known : List (Key × ℕ)) → known ≡ [] → l.procedures ≡ [] → AreKnown l known
known-start l known none e = λ k. ap (lookup (same_key k)) none ∙ sym (ap (position (is_procedure k.home (ind_of k))) e)

-- ---- modules

any-of : (t : Text) (is : List Interface) → list_any (same_text t) (map (λ i. i.of) is) ≡ list_any (λ i. same_text i.of t) is
any-of t [] = refl
any-of t (i ∷ is) = ap (λ b. b || list_any (same_text t) (map (λ (j : Interface). j.of) is)) (same_text-flip t i.of) ∙ ap (λ b. same_text i.of t || b) (any-of t is)

any-modules : (t : Text) (us : List (Facts Text)) → list_any (same_text t) (flat_map module_texts us) ≡ list_any (λ i. same_text i.of t) (flat_map interfaces_of us)
any-modules t [] = refl
any-modules t (u ∷ us) =
    list_any-append (same_text t) (module_texts u) (flat_map module_texts us)
    ∙ ap (λ b. b || list_any (same_text t) (flat_map module_texts us)) (any-of t (interfaces_of u))
    ∙ ap (λ b. list_any (λ (i : Interface). same_text i.of t) (interfaces_of u) || b) (any-modules t us)
    ∙ sym (list_any-append (λ (i : Interface). same_text i.of t) (interfaces_of u) (flat_map interfaces_of us))

exists-by : (u s a : Bool) → (u || (s || a)) ≡ (s || (not s && (u || a)))
exists-by true true a = refl
exists-by true false a = refl
exists-by false true a = refl
exists-by false false a = refl

module _ (us : List (Facts Text)) (names : List Text) where
  abbrev texts : List Text
  texts = flat_map module_texts us

  pub modules-hold : (p l : Linked) → p ≡ with_names empty names → AddsModules (codes "user" ∷ flat_map module_texts us) p l → AreDistinct names → (m : ℕ) → m < length names → exists us (text_at names m) ≡ (is_system names m || is_module l m)
  modules-hold p l is added distinct m lt =
      let a = subst (λ (q : Linked). AddsModules (codes "user" ∷ texts) q l) is added in
      let t = text_at names m in
      exists-by (same_text t user) (same_text t system) (list_any (λ (i : Interface). same_text i.of t) (flat_map interfaces_of us))
      ∙ ap (λ b. is_system names m || b) (sym (a.modules distinct m lt ∙ ap (λ b. not (is_system names m) && (same_text t user || b)) (any-modules t us)))

  modules-are : (p l : Linked) → p ≡ with_names empty names → AddsModules (codes "user" ∷ flat_map module_texts us) p l → AreDistinct names → AreModules l (fold with_module_text [] (user ∷ flat_map module_texts us))
  modules-are p l is added distinct =
      (subst (λ (q : Linked). AddsModules (codes "user" ∷ texts) q l) is added).named distinct [] (record { below = tt; texts = refl })

  none-same : (m : Text) (ts : List Text) → is_among names m ≡ false → AllByRecursion (λ t. is_among names t ≡ true) ts → list_any (same_text m) ts ≡ false
  none-same m [] none h = refl
  none-same m (t ∷ ts) none h = ap (λ b. b || list_any (same_text m) ts) (not-same names m t none h.0) ∙ none-same m ts none h.1

  pub others-hold : is_among names (codes "user") ≡ true → AllByRecursion (λ t. is_among names t ≡ true) (flat_map module_texts us) → (m : Text) → is_among names m ≡ false → exists us m ≡ same_text m (codes "system")
  others-hold first rest m none =
      ap (λ b. b || (same_text m system || list_any (λ (i : Interface). same_text i.of m) (flat_map interfaces_of us))) (not-same names m user none first)
      ∙ ap (λ b. same_text m system || b) (sym (any-modules m us) ∙ none-same m texts none rest)
      ∙ or_false (same_text m system)

  -- ---- the modules of entries exist

  pub homes-exist : (l : Linked) → l.names ≡ names → ((m : ℕ) → m < length names → exists us (text_at names m) ≡ (is_system names m || is_module l m)) → (items : List Item) → AreItems names items
      → AllByRecursion (λ x. exists us x.of ≡ true) (map (said_by (text_at names)) (items_view items)) → AllByRecursion (λ x. IsExisting l x.home.0) items
  homes-exist l same modules [] h e = tt
  homes-exist l same modules (x ∷ items) h e =
      (ap (λ (ns : List Text). is_system ns x.home.0 || is_module l x.home.0) same ∙ sym (modules x.home.0 h.0.home) ∙ e.0, homes-exist l same modules items h.1 e.1)

  -- ---- what entering asks

  module _ (p l : Linked) (is : p ≡ with_names empty names) (added : AddsModules (codes "user" ∷ flat_map module_texts us) p l) where
    pub names-are : l.names ≡ names
    names-are = added.names ∙ ap (λ (q : Linked). q.names) is

    pub none-there : l.procedures ≡ []
    none-there = added.procedures ∙ ap (λ (q : Linked). q.procedures) is

    pub items-there : (items : List Item) → AreItems names items → AreItems l.names items
    items-there items h = subst (λ (ns : List Text). AreItems ns items) (sym names-are) h

    pub homes-there : AreDistinct names → (items : List Item) → AreItems names items → map (said_by (text_at names)) (items_view items) ≡ said us → AllByRecursion (λ x. exists us x.of ≡ true) (said us) → AllByRecursion (λ x. IsExisting l x.home.0) items
    homes-there distinct items h same e =
        homes-exist l names-are (modules-hold p l is added distinct) items h (subst (λ (ys : List (Said Text)). AllByRecursion (λ (x : Said Text). exists us x.of ≡ true) ys) (sym same) e)

  -- ---- all of it

  pub entered-holds : (p l m : Linked) (items : List Item) (table : List (Key × List Bool)) (known : List (Key × ℕ)) → AreDistinct names → AllByRecursion (λ f. keeps_rules f ≡ true) us → is_among names (codes "user") ≡ true → AllByRecursion (λ t. is_among names t ≡ true) (flat_map module_texts us)
      → p ≡ with_names empty names → AddsModules (codes "user" ∷ flat_map module_texts us) p l → AreItems names items → map (said_by (text_at names)) (items_view items) ≡ said us → AreDeclared (items_view items) table
      → Takes (items_view items) table l m known → HasEntries us names m known
  entered-holds p l m items table known distinct rules first rest is added good same declared takes =
      let saids : AreSaids us names (items_view items) = record { texts = same; below = items-below names items good } in
      record {
        entries = items_view items;
        saids = saids;
        holds = record {
          table = takes.keeps.names ∙ names-are p l is added;
          modules = λ k lt. modules-hold p l is added distinct k lt ∙ ap (λ (ms : List ℕ). is_system names k || list_any (nat_eq k) ms) (sym takes.keeps.modules);
          others = others-hold first rest;
          module_count = ap length takes.keeps.modules ∙ modules-many us l rules (modules-are p l is added distinct);
          procedure_count = procedures-many names distinct us (items_view items) m.procedures saids
              (takes.procedures ∙ ap (λ (ps : List Procedure). fold (with_one same_numbers) (map defined ps) (filter_map defined_said (items_view items))) (none-there p l is added));
          enters = takes.enters (items_view items) [] declared (enters-start l (items_view items) (none-there p l is added));
        };
        rows = takes.keeps.rows ∙ added.rows ∙ ap (λ (q : Linked). q.rows) is;
        known = takes.known;
      }
