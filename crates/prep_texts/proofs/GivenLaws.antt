-- The interfaces that a unit's sections give, one section after another.
use Rattle.std.proofs.Common.{◌≡◌, ℕ, ◌+◌, ◌<◌, ◌≤◌, Bool, true, false, List, [], ◌∷◌, ◌++◌, map, length, take, get_or, Some, None, refl, sym, ap, ◌∙◌, if◌then◌else◌, arith, append_assoc}
use Rattle.std.specs.List.{filter_map, cons_option}
use Rattle.std.proofs.lemmas.List.{map-append, take_more, take-take, length-take}
use Rattle.unit_model.specs.Facts.{Section, section_by}
use Rattle.unit_model.specs.Directives.{Text}
use Rattle.unit_model.specs.Encoding.{text_at}
use Rattle.unit_model.specs.Preparing.{Interface, is_interface, operators_of}
use Rattle.unit_model.specs.Views.{section_view, kind_view}
use Rattle.unit_model.specs.declared.facts.Section.{Section as CodeSection}
use Rattle.unit_model.specs.Entries.{entries_in}
use Rattle.unit_model.specs.Known.{interface_of}
use Rattle.prep_texts.specs.declared.interfaces.Interfaces.{Interfaces}
use Rattle.prep_texts.specs.Interfaces.{interfaces_view, IsIndexed, IsGrown}
use Rattle.prep_texts.specs.Drafts.{sections_in}
use Rattle.prep_texts.proofs.TableLaws.{append-end}
use Rattle.prep_texts.proofs.CellLaws.{whole_copy}

-- the interfaces of the first sections are put
pub record Giving (names : List Text) (first now : Interfaces) (ss : List CodeSection) (i : ℕ) : Type 0 where
  pub value : interfaces_view now ≡ interfaces_view first ++ filter_map interface_of (sections_in names (take i ss))
  pub indexed : IsIndexed now
  pub grown : IsGrown first now

front-trans : {A : Type 0} (xs ys zs : List A) → take (length xs) ys ≡ xs → take (length ys) zs ≡ ys → take (length xs) zs ≡ xs
front-trans xs ys zs one two = sym (take-take (length xs) (length ys) zs (omega (arith, length-take (length xs) ys, ap length one))) ∙ ap (take (length xs)) two ∙ one

pub grown-trans : (a b c : Interfaces) → IsGrown a b → IsGrown b c → IsGrown a c
grown-trans a b c h k = record {
  all = front-trans a.all.items b.all.items c.all.items h.all k.all;
  firsts = front-trans a.firsts.entries b.firsts.entries c.firsts.entries h.firsts k.firsts;
}

pub grown-itself : (a : Interfaces) → IsGrown a a
grown-itself a = record { all = whole_copy a.all.items (length a.all.items) (omega arith); firsts = whole_copy a.firsts.entries (length a.firsts.entries) (omega arith) }

given-append : (xs : List (Section Text)) (x : Section Text) → filter_map interface_of (xs ++ x ∷ []) ≡ filter_map interface_of xs ++ cons_option (interface_of x) []
given-append [] x = refl
given-append (y ∷ xs) x = go (is_interface y.kind) (given-append xs x)
  where
    go : (b : Bool) → filter_map interface_of (xs ++ x ∷ []) ≡ filter_map interface_of xs ++ cons_option (interface_of x) []
        → cons_option (if b then Some (record { of = y.of; operators = operators_of y.entries }) else None) (filter_map interface_of (xs ++ x ∷ []))
        ≡ cons_option (if b then Some (record { of = y.of; operators = operators_of y.entries }) else None) (filter_map interface_of xs) ++ cons_option (interface_of x) []
    go true ih = ap (λ (l : List Interface). record { of = y.of; operators = operators_of y.entries } ∷ l) ih
    go false ih = ih

module _ (names : List Text) (first now : Interfaces) (ss : List CodeSection) (i : ℕ) (s : CodeSection) (lt : i < length ss) (is : s ≡ get_or ss i s) (so_far : Giving names first now ss i) where
  abbrev text_section : Section Text
  text_section = section_by (text_at names) (section_view s)

  more : sections_in names (take (i + 1) ss) ≡ sections_in names (take i ss) ++ text_section ∷ []
  more =
      ap (sections_in names) (take_more ss i s lt ∙ ap (λ (y : CodeSection). take i ss ++ y ∷ []) (sym is))
      ∙ ap (map (section_by (text_at names))) (map-append section_view (take i ss) (s ∷ []))
      ∙ map-append (section_by (text_at names)) (map section_view (take i ss)) (section_view s ∷ [])

  abbrev given : Interface
  given = record { of = text_at names s.module.0; operators = operators_of (entries_in names s.entries) }

  further : filter_map interface_of (sections_in names (take (i + 1) ss)) ≡ filter_map interface_of (sections_in names (take i ss)) ++ cons_option (if is_interface (kind_view s.kind) then Some given else None) []
  further = ap (filter_map interface_of) more ∙ given-append (sections_in names (take i ss)) text_section

  pub gives-one : is_interface (kind_view s.kind) ≡ true → (new : Interfaces) → interfaces_view new ≡ interfaces_view now ++ given ∷ [] → IsIndexed new → IsGrown now new → Giving names first new ss (i + 1)
  gives-one h new put indexed grown = record {
    value =
        put ∙ ap (λ (l : List Interface). l ++ given ∷ []) so_far.value
        ∙ append_assoc (interfaces_view first) (filter_map interface_of (sections_in names (take i ss))) (given ∷ [])
        ∙ ap (λ b. interfaces_view first ++ (filter_map interface_of (sections_in names (take i ss)) ++ cons_option (if b then Some given else None) [])) (sym h)
        ∙ ap (λ l. interfaces_view first ++ l) (sym further);
    indexed = indexed;
    grown = grown-trans first now new so_far.grown grown;
  }

  pub gives-none : is_interface (kind_view s.kind) ≡ false → Giving names first now ss (i + 1)
  gives-none h = record {
    value =
        so_far.value
        ∙ ap (λ l. interfaces_view first ++ l) (sym (append-end (filter_map interface_of (sections_in names (take i ss)))))
        ∙ ap (λ b. interfaces_view first ++ (filter_map interface_of (sections_in names (take i ss)) ++ cons_option (if b then Some given else None) [])) (sym h)
        ∙ ap (λ l. interfaces_view first ++ l) (sym further);
    indexed = so_far.indexed;
    grown = so_far.grown;
  }

pub giving-start : (names : List Text) (now : Interfaces) (ss : List CodeSection) → IsIndexed now → Giving names now now ss 0
giving-start names now ss indexed = record { value = sym (append-end (interfaces_view now)); indexed = indexed; grown = grown-itself now }

pub giving-done : (names : List Text) (first now : Interfaces) (ss : List CodeSection) (i : ℕ) → length ss ≤ i → Giving names first now ss i → interfaces_view now ≡ interfaces_view first ++ filter_map interface_of (sections_in names ss)
giving-done names first now ss i le h = h.value ∙ ap (λ l. interfaces_view first ++ filter_map interface_of (sections_in names l)) (whole_copy ss i le)
