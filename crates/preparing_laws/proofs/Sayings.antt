-- What a sound term says by itself.
use Rattle.std.proofs.Common.{◌≡◌, ℕ, ℤ, List, [], ◌∷◌, ◌++◌, map, length, codes, Bool, true, false, not, if◌then◌else◌, Option, Some, None, Result, Ok, Err, refl, sym, ap, ◌∙◌, subst, append-nil, lt-ltb}
use Rattle.std.specs.List.{AllByRecursion}
use Rattle.pl_terms.specs.Trees.{Tree, comp, nil, cons}
use Rattle.pl_ops.specs.Tables.{Declaration, same_text}
use Rattle.unit_model.specs.Facts.{Indicator, What, exports, reexports_all, reexports, has_modes, declares, imports_all, imports}
use Rattle.unit_model.specs.Directives.{Text, Directive, opens, closes, exporting, reexporting, metapredicates, operators, importing, discontiguous, directive_of}
use Rattle.unit_model.specs.Preparing.{with_names, added, operator_of, declaration, operators_of, operator_in, entries_at, Saying, says, reexport_entries, import_entries, operator_entries, operators_said, directive_said, clause_in, with_clause, clause_said, Sort, a_directive, a_query, a_clause, unary_sort, sort_of, sort_said, Source, no_module, passing, taking, source_of_directive, source_of}
use Rattle.unit_model.specs.Validity.{IsName, FitsWhat, FitsIndicator, same_bool, is_for_interface, is_clause, names_known, holds, accepts}
use Rattle.unit_model.specs.Entries.{IsSoundTerm}
use Rattle.preparing_laws.proofs.Lists.{OfSome, all-map, all-weaker, either-way}
use Rattle.preparing_laws.proofs.Forms.{Fits, FitsModes, FitsDirective, FitsForm, directive-fit}
use Rattle.preparing_laws.proofs.Clauses.{IsClauseIn, clause-sound}
use Rattle.preparing_laws.proofs.Tables.{FitsDeclaration, IsGrown, names-grow, operators-declared, added-more}

-- the module that a term takes from is one of these
abbrev pub Within : Source → List Text → Type 0
Within no_module ms = Unit {0}
Within (passing m) ms = holds ms m ≡ true
Within (taking m) ms = holds ms m ≡ true

-- modules are imported outside interfaces
abbrev pub TakesOutside : Bool → Source → Type 0
TakesOutside in_one no_module = Unit {0}
TakesOutside in_one (passing m) = Unit {0}
TakesOutside in_one (taking m) = in_one ≡ false

pub record IsSoundWhat (in_one : Bool) (source : Source) (w : What Text) : Type 0 where
  pub fits : FitsWhat IsName w
  pub place : same_bool in_one (is_for_interface w) ≡ true
  pub clause : is_clause w ≡ true
  pub named : (ms : List Text) → Within source ms → names_known ms w ≡ true

-- the table has what the entries declare
pub record IsExtended (byte : ℕ) (old : List Declaration) (ws : List (What Text)) (new : List Declaration) : Type 0 where
  pub is : new ≡ old ++ map declaration (operators_of (entries_at byte ws))
  pub fine : accepts old (map declaration (operators_of (entries_at byte ws))) ≡ true

pub record IsSoundSaid (byte : ℕ) (in_one : Bool) (source : Source) (old : List Declaration) (ws : List (What Text)) (new : List Declaration) : Type 0 where
  pub whats : AllByRecursion (IsSoundWhat in_one source) ws
  pub table : in_one ≡ true → IsExtended byte old ws new
  pub outside : TakesOutside in_one source

abbrev pub IsSoundSaying : ℕ → Bool → Source → List Declaration → Saying → Type 0
IsSoundSaying byte in_one source old (Err n) = Unit {0}
IsSoundSaying byte in_one source old (Ok l) = IsSoundSaid byte in_one source old l.entries l.table

-- ---- entries that declare no operator

record IsQuiet (in_one : Bool) (source : Source) (w : What Text) : Type 0 where
  pub what : IsSoundWhat in_one source w
  pub quiet : operator_in w ≡ []

no-operators : (byte : ℕ) (in_one : Bool) (source : Source) (ws : List (What Text)) → AllByRecursion (IsQuiet in_one source) ws → operators_of (entries_at byte ws) ≡ []
no-operators byte in_one source [] h = refl
no-operators byte in_one source (w ∷ ws) h = ap (λ l. l ++ operators_of (entries_at byte ws)) h.0.quiet ∙ no-operators byte in_one source ws h.1

quiet-said : (byte : ℕ) (in_one : Bool) (source : Source) (t : List Declaration) (ws : List (What Text)) → TakesOutside in_one source → AllByRecursion (IsQuiet in_one source) ws → IsSoundSaid byte in_one source t ws t
quiet-said byte in_one source t ws out h = record {
  whats = all-weaker (IsQuiet in_one source) (IsSoundWhat in_one source) (λ w q. q.what) ws h;
  table = λ e. record { is = sym (append-nil t) ∙ ap (λ l. t ++ map declaration l) (sym none); fine = ap (λ l. accepts t (map declaration l)) none };
  outside = out;
}
  where
    none : operators_of (entries_at byte ws) ≡ []
    none = no-operators byte in_one source ws h

-- entries of one shape, each for something that fits
mapped : {A : Type 0} (P : A → Type 0) (in_one : Bool) (source : Source) (f : A → What Text) → ((a : A) → P a → IsQuiet in_one source (f a)) → (xs : List A) → AllByRecursion P xs → AllByRecursion (IsQuiet in_one source) (map f xs)
mapped P in_one source f k xs h = all-map (IsQuiet in_one source) f xs (all-weaker P (λ a. IsQuiet in_one source (f a)) k xs h)

-- ---- operators

declares-sound : (ds : List Declaration) → AllByRecursion FitsDeclaration ds → AllByRecursion (IsSoundWhat true no_module) (map declares (map operator_of ds))
declares-sound [] h = tt
declares-sound (d ∷ ds) h = (record { fits = record { priority = h.0.priority; name = h.0.name }; place = refl; clause = refl; named = λ ms w. refl }, declares-sound ds h.1)

operators-sound : (byte : ℕ) (in_one : Bool) (p : ℤ) (k : Text) (ns : List Text) (t : List Declaration) → AllByRecursion IsName ns → IsSoundSaying byte in_one no_module t (operators_said in_one p k ns t)
operators-sound byte in_one p k ns t h = go in_one (with_names p k ns t) (names-grow p k ns t h)
  where
    grown : (u : List Declaration) (ds : List Declaration) → ds ≡ added t u → u ≡ t ++ ds → AllByRecursion FitsDeclaration ds → accepts t ds ≡ true → IsSoundSaid byte true no_module t (map declares (map operator_of (added t u))) u
    grown u ds e is fit fine = subst (λ l. IsSoundSaid byte true no_module t (map declares (map operator_of l)) u) e (record {
      whats = declares-sound ds fit;
      table = λ c. record { is = is ∙ ap (λ l. t ++ l) (sym (operators-declared byte ds)); fine = subst (λ l. accepts t l ≡ true) (sym (operators-declared byte ds)) fine };
      outside = tt;
    })

    go : (b : Bool) (o : Option (List Declaration)) → OfSome (IsGrown t) o
        → IsSoundSaying byte b no_module t (elim o [ None ↦ Err 12 | Some u ↦ says (operator_entries b (map operator_of (added t u))) u ])
    go b None g = tt
    go true (Some u) g = grown u g.more (sym (ap (added t) g.is ∙ added-more t g.more)) g.is g.fit g.fine
    go false (Some u) g = record { whats = tt; table = λ e. absurd (cc); outside = tt }

-- ---- directives

reexports-sound : (byte : ℕ) (m : Text) (is : Option (List (Indicator Text))) (t : List Declaration) → IsName m → OfSome (AllByRecursion (FitsIndicator IsName)) is → IsSoundSaid byte true (passing m) t (reexport_entries m is) t
reexports-sound byte m None t h k = quiet-said byte true (passing m) t (reexports_all m ∷ []) tt (record { what = record { fits = h; place = refl; clause = refl; named = λ ms w. w }; quiet = refl }, tt)
reexports-sound byte m (Some is) t h k = quiet-said byte true (passing m) t (map (reexports m) is) tt
    (mapped (FitsIndicator IsName) true (passing m) (reexports m) (λ i f. record { what = record { fits = (h, f); place = refl; clause = refl; named = λ ms w. w }; quiet = refl }) is k)

imports-sound : (byte : ℕ) (m : Text) (is : Option (List (Indicator Text))) (t : List Declaration) → IsName m → OfSome (AllByRecursion (FitsIndicator IsName)) is → IsSoundSaid byte false (taking m) t (import_entries m is) t
imports-sound byte m None t h k = quiet-said byte false (taking m) t (imports_all m ∷ []) refl (record { what = record { fits = h; place = refl; clause = refl; named = λ ms w. w }; quiet = refl }, tt)
imports-sound byte m (Some is) t h k = quiet-said byte false (taking m) t (map (imports m) is) refl
    (mapped (FitsIndicator IsName) false (taking m) (imports m) (λ i f. record { what = record { fits = (h, f); place = refl; clause = refl; named = λ ms w. w }; quiet = refl }) is k)

nothing-said : (byte : ℕ) (in_one : Bool) (t : List Declaration) → IsSoundSaid byte in_one no_module t [] t
nothing-said byte in_one t = quiet-said byte in_one no_module t [] tt tt

directive-said : (byte : ℕ) (in_one : Bool) (d : Directive) (t : List Declaration) → FitsDirective d → IsSoundSaying byte in_one (source_of_directive d) t (directive_said in_one d t)
directive-said byte in_one (opens k m) t h = nothing-said byte in_one t
directive-said byte in_one (closes k m) t h = nothing-said byte in_one t
directive-said byte true (exporting is) t h = quiet-said byte true no_module t (map exports is) tt
    (mapped (FitsIndicator IsName) true no_module exports (λ i f. record { what = record { fits = f; place = refl; clause = refl; named = λ ms w. refl }; quiet = refl }) is h)
directive-said byte false (exporting is) t h = tt
directive-said byte true (reexporting m is) t h = reexports-sound byte m is t h.0 h.1
directive-said byte false (reexporting m is) t h = tt
directive-said byte true (metapredicates ms) t h = quiet-said byte true no_module t (map (λ m. has_modes m.0 m.1) ms) tt
    (mapped FitsModes true no_module (λ m. has_modes m.0 m.1) (λ m f. record { what = record { fits = (f.name, f.few); place = refl; clause = lt-ltb 0 (length m.1) f.some; named = λ ns w. refl }; quiet = refl }) ms h)
directive-said byte false (metapredicates ms) t h = tt
directive-said byte in_one (operators p k ns) t h = operators-sound byte in_one p k ns t h
directive-said byte true (importing m is) t h = tt
directive-said byte false (importing m is) t h = imports-sound byte m is t h.0 h.1
directive-said byte true discontiguous t h = tt
directive-said byte false discontiguous t h = nothing-said byte false t

-- ---- terms

abbrev pub FitsSort : Sort → Type 0
FitsSort (a_directive d) = FitsForm d
FitsSort a_query = Unit {0}
FitsSort a_clause = Unit {0}

unary-sort-fit : (f : Text) (d : Tree Text) → Fits d → FitsSort (unary_sort f d)
unary-sort-fit f d h =
    either-way FitsSort (same_text f (codes ":-")) (a_directive (directive_of d)) (if same_text f (codes "?-") then a_query else a_clause) (directive-fit d h)
    (either-way FitsSort (same_text f (codes "?-")) a_query a_clause tt tt)

pub sort-fit : (t : Tree Text) → Fits t → FitsSort (sort_of t)
sort-fit (comp f (cons d nil)) h = unary-sort-fit f d h.3.0
sort-fit _ h = tt

clause-said : (byte : ℕ) (in_one : Bool) (u : Tree Text) (t : List Declaration) → IsSoundTerm u → IsSoundSaying byte in_one no_module t (clause_said in_one u t)
clause-said byte true u t h = tt
clause-said byte false u t h = go (clause_in u) (clause-sound u h)
  where
    go : (r : Result (What Text) ℕ) → IsClauseIn r → IsSoundSaying byte false no_module t (with_clause r t)
    go (Err n) k = tt
    go (Ok w) k = record {
      whats = (record { fits = k.fits; place = ap not k.place; clause = k.clause; named = λ ms i. k.named ms }, tt);
      table = λ e. absurd (cc);
      outside = tt;
    }

pub sort-said : (byte : ℕ) (in_one : Bool) (sort : Sort) (u : Tree Text) (t : List Declaration) → FitsSort sort → IsSoundTerm u → IsSoundSaying byte in_one (source_of sort) t (sort_said in_one sort u t)
sort-said byte in_one (a_directive (Err n)) u t h k = tt
sort-said byte in_one (a_directive (Ok d)) u t h k = directive-said byte in_one d t h
sort-said byte in_one a_query u t h k = tt
sort-said byte in_one a_clause u t h k = clause-said byte in_one u t k
