-- Interfaces of modules that have one earlier, section by section and unit by unit.
use Rattle.std.proofs.Common.{◌≡◌, ℕ, suc, ◌+◌, ◌<◌, ◌≤◌, List, [], ◌∷◌, ◌++◌, length, map, filter, take, get_or, Bool, true, false, cond, ◌||◌, refl, sym, ap, subst, ◌∙◌, arith, append_assoc}
use Rattle.std.specs.List.{list_any}
use Rattle.std.proofs.lemmas.List.{append-nil, take_all, length-map, length-take, map-append}
use Rattle.std.proofs.lemmas.List.Folds.{list_any-append}
use Rattle.pl_atoms.specs.Names.{with_text}
use Rattle.pl_atoms.proofs.Texts.{same_text-is, same_text-itself}
use Rattle.pl_ops.specs.Tables.{same_text}
use Rattle.unit_model.specs.Facts.{Section as SectionOf, Facts, section_by}
use Rattle.unit_model.specs.Directives.{Text}
use Rattle.unit_model.specs.Encoding.{text_at}
use Rattle.unit_model.specs.Preparing.{is_interface}
use Rattle.unit_model.specs.Views.{section_view, kind_view}
use Rattle.unit_model.specs.declared.facts.SectionKind.TheVariants.{Interface}
use Rattle.unit_model.specs.declared.facts.Section.{Section}
use Rattle.unit_format.specs.Views.{unit_facts}
use Rattle.unit_format.specs.declared.unit.Unit.{Unit as ReadUnit}
use Rattle.link_model.specs.Faults.{fault, only_if, PlacedInterface, interfaces_in, interfaces_from}
use Rattle.mod_faults.proofs.Units.{more_taken}
use Rattle.mod_faults.specs.declared.fault.Fault.{Fault}
use Rattle.mod_faults.specs.Views.{fault_view, faults_view}
use Rattle.mod_faults.specs.Repeating.{repeats, AreSeen, interfaces_here, Repeats}
use Rattle.mod_faults.proofs.Lookups.{or_false, any_insert}
use Rattle.mod_faults.proofs.Passing.{passes-none, passes-more, passes-one}

-- ---- one interface

pub same_text-flip : (s t : Text) → same_text s t ≡ same_text t s
same_text-flip s t = go (same_text s t) refl (same_text t s) refl
  where
    go : (a : Bool) → same_text s t ≡ a → (b : Bool) → same_text t s ≡ b → a ≡ b
    go true e true f = refl
    go false e false f = refl
    go true e false f = absurd (let h : same_text t s ≡ true = subst (λ x. same_text t x ≡ true) (sym (same_text-is s t e)) (same_text-itself t) in cc)
    go false e true f = absurd (let h : same_text s t ≡ true = subst (λ x. same_text s x ≡ true) (sym (same_text-is t s f)) (same_text-itself s) in cc)

pub any_text : (texts : List Text) (t u : Text) → list_any (same_text u) (with_text texts t) ≡ (list_any (same_text u) texts || same_text u t)
any_text texts t u = any_insert same_text (λ q p x h. ap (same_text q) (sym (same_text-is p x h))) u t texts

seen_more : (seen : List Text) (before : List PlacedInterface) (x : PlacedInterface) → AreSeen seen before → AreSeen (with_text seen x.of) (before ++ x ∷ [])
seen_more seen before x h t =
    any_text seen x.of t
    ∙ ap (λ b. b || same_text t x.of) (h t)
    ∙ ap (λ b. list_any (λ i. same_text i.of t) before || b) (same_text-flip t x.of ∙ sym (or_false (same_text x.of t)))
    ∙ sym (list_any-append (λ (i : PlacedInterface). same_text i.of t) before (x ∷ []))

views-if : (old : List Fault) (b : Bool) (f : Fault) → faults_view (old ++ cond b (f ∷ []) []) ≡ faults_view old ++ only_if b (fault_view f)
views-if old true f = map-append fault_view old (f ∷ [])
views-if old false f = map-append fault_view old []

abbrev at_byte : ℕ → ℕ → Text → PlacedInterface
at_byte u b m = record { unit = u; byte = b; of = m }

abbrev put_in : ℕ → SectionOf Text → PlacedInterface
put_in u s = at_byte u s.byte s.of

abbrev pub made : ℕ → ℕ → Fault
made u b = record { number = 3; unit = u; byte = b }

pub noted : (u b : ℕ) (m : Text) (seen seen' : List Text) (old new : List Fault) → seen' ≡ with_text seen m → new ≡ old ++ cond (list_any (same_text m) seen) (made u b ∷ []) [] → Repeats (at_byte u b m ∷ []) seen seen' old new
noted u b m seen seen' old new s f =
    passes-one AreSeen repeats (at_byte u b m) seen seen' (faults_view old) (faults_view new) (λ before h. (
      subst (λ l. AreSeen l (before ++ at_byte u b m ∷ [])) (sym s) (seen_more seen before (at_byte u b m) h),
      ap faults_view f ∙ views-if old (list_any (same_text m) seen) (made u b) ∙ ap (λ t. faults_view old ++ only_if t (fault u b 3)) (h m),
    ))

pub noted-put : (u b : ℕ) (m : Text) (seen : List Text) (old : List Fault) (t : Bool) → t ≡ list_any (same_text m) seen → old ++ cond t (made u b ∷ []) [] ≡ old ++ cond (list_any (same_text m) seen) (made u b ∷ []) []
noted-put u b m seen old t e = ap (λ x. old ++ cond x (made u b ∷ []) []) e

pub noted-section : (u : ℕ) (names : List Text) (s : Section) (m : Text) (seen seen' : List Text) (old new : List Fault) → s.kind ≡ Interface → m ≡ text_at names s.module.0
    → seen' ≡ with_text seen m → new ≡ old ++ cond (list_any (same_text m) seen) (made u s.byte ∷ []) [] → Repeats (interfaces_here u names (s ∷ [])) seen seen' old new
noted-section u names s m seen seen' old new kind is ts fs =
    let one : interfaces_here u names (s ∷ []) ≡ at_byte u s.byte (text_at names s.module.0) ∷ [] = ap (λ k. map (put_in u) (cond (is_interface (kind_view k)) (section_by (text_at names) (section_view s) ∷ []) [])) kind in
    subst (λ (l : List PlacedInterface). Repeats l seen seen' old new) (sym one)
    (subst (λ (x : Text). Repeats (at_byte u s.byte x ∷ []) seen seen' old new) is (noted u s.byte m seen seen' old new ts fs))

-- ---- sections

interfaces_in-append : (u : ℕ) (xs ys : List (SectionOf Text)) → interfaces_in u (xs ++ ys) ≡ interfaces_in u xs ++ interfaces_in u ys
interfaces_in-append u [] ys = refl
interfaces_in-append u (x ∷ xs) ys = go (is_interface x.kind) (interfaces_in-append u xs ys)
  where
    go : (b : Bool) → interfaces_in u (xs ++ ys) ≡ interfaces_in u xs ++ interfaces_in u ys → map (put_in u) (cond b (x ∷ filter (λ s. is_interface s.kind) (xs ++ ys)) (filter (λ s. is_interface s.kind) (xs ++ ys))) ≡ map (put_in u) (cond b (x ∷ filter (λ s. is_interface s.kind) xs) (filter (λ s. is_interface s.kind) xs)) ++ interfaces_in u ys
    go true e = ap (λ (l : List PlacedInterface). put_in u x ∷ l) e
    go false e = e

pub here-append : (u : ℕ) (names : List Text) (xs ys : List Section) → interfaces_here u names (xs ++ ys) ≡ interfaces_here u names xs ++ interfaces_here u names ys
here-append u names xs ys =
    ap (λ l. interfaces_in u (map (section_by (text_at names)) l)) (map-append section_view xs ys)
    ∙ ap (interfaces_in u) (map-append (section_by (text_at names)) (map section_view xs) (map section_view ys))
    ∙ interfaces_in-append u (map (section_by (text_at names)) (map section_view xs)) (map (section_by (text_at names)) (map section_view ys))

pub repeats-none : (seen : List Text) (old : List Fault) → Repeats [] seen seen old old
repeats-none seen old = passes-none AreSeen repeats seen (faults_view old)

pub repeats-section : (u : ℕ) (names : List Text) (ss : List Section) (k : ℕ) (s : Section) (first seen seen' : List Text) (old new last : List Fault) → k < length ss → s ≡ get_or ss k s
    → Repeats (interfaces_here u names (take k ss)) first seen old new → Repeats (interfaces_here u names (s ∷ [])) seen seen' new last → Repeats (interfaces_here u names (take (k + 1) ss)) first seen' old last
repeats-section u names ss k s first seen seen' old new last lt is p q =
    subst (λ (l : List PlacedInterface). Repeats l first seen' old last) (sym (ap (interfaces_here u names) (more_taken ss k s lt is) ∙ here-append u names (take k ss) (s ∷ [])))
    (passes-more AreSeen repeats (interfaces_here u names (take k ss)) (interfaces_here u names (s ∷ [])) first seen seen' (faults_view old) (faults_view new) (faults_view last) p q)

pub repeats-sections : (u : ℕ) (names : List Text) (ss : List Section) (k : ℕ) (first seen : List Text) (old new : List Fault) → length ss ≤ k → Repeats (interfaces_here u names (take k ss)) first seen old new → Repeats (interfaces_here u names ss) first seen old new
repeats-sections u names ss k first seen old new le p = subst (λ l. Repeats (interfaces_here u names l) first seen old new) (take_all k ss le) p

-- ---- units

abbrev pub so_far : List ReadUnit → List PlacedInterface
so_far units = interfaces_from 0 (map unit_facts units)

from-append : (u : ℕ) (fs gs : List (Facts Text)) → interfaces_from u (fs ++ gs) ≡ interfaces_from u fs ++ interfaces_from (u + length fs) gs
from-append u [] gs = let e : u + 0 ≡ u = omega arith in ap (λ n. interfaces_from n gs) (sym e)
from-append u (f ∷ fs) gs =
    let e : suc u + length fs ≡ u + suc (length fs) = omega arith in
    ap (λ l. interfaces_in u f.sections ++ l) (from-append (suc u) fs gs ∙ ap (λ n. interfaces_from (suc u) fs ++ interfaces_from n gs) e)
    ∙ sym (append_assoc (interfaces_in u f.sections) (interfaces_from (suc u) fs) (interfaces_from (u + suc (length fs)) gs))

pub repeats-unit : (units : List ReadUnit) (k : ℕ) (u : ReadUnit) (first seen seen' : List Text) (old new last : List Fault) → k < length units → u ≡ get_or units k u
    → Repeats (so_far (take k units)) first seen old new → Repeats (interfaces_here k u.names u.facts.sections) seen seen' new last → Repeats (so_far (take (k + 1) units)) first seen' old last
repeats-unit units k u first seen seen' old new last lt is p q =
    let number : 0 + length (map unit_facts (take k units)) ≡ k = omega (arith, length-map (take k units) unit_facts, length-take k units) in
    let whole : so_far (take (k + 1) units) ≡ so_far (take k units) ++ interfaces_here k u.names u.facts.sections =
    ap so_far (more_taken units k u lt is) ∙ ap (interfaces_from 0) (map-append unit_facts (take k units) (u ∷ [])) ∙ from-append 0 (map unit_facts (take k units)) (unit_facts u ∷ [])
    ∙ ap (λ n. so_far (take k units) ++ interfaces_from n (unit_facts u ∷ [])) number ∙ ap (λ l. so_far (take k units) ++ l) (append-nil (interfaces_here k u.names u.facts.sections)) in
    subst (λ (l : List PlacedInterface). Repeats l first seen' old last) (sym whole)
    (passes-more AreSeen repeats (so_far (take k units)) (interfaces_here k u.names u.facts.sections) first seen seen' (faults_view old) (faults_view new) (faults_view last) p q)

seen_none : AreSeen [] []
seen_none t = refl

pub repeats-units : (units : List ReadUnit) (k : ℕ) (seen : List Text) (old new : List Fault) → length units ≤ k → Repeats (so_far (take k units)) [] seen old new
    → faults_view new ≡ faults_view old ++ Rattle.link_model.specs.Faults.repeated (map unit_facts units)
repeats-units units k seen old new le p =
    let whole = subst (λ l. Repeats (so_far l) [] seen old new) (take_all k units le) p in
    (whole [] seen_none).1
