-- Worked cases: the interfaces of a text, what its terms say, and sound terms and facts.
use Rattle.std.proofs.Common.{◌≡◌, [], ◌∷◌, codes, refl, false, true, arith}
use Rattle.pl_terms.specs.Trees.{Tree, var, atom, comp, nil, cons}
use Rattle.pl_ops.specs.Standard.{standard}
use Rattle.pl_ops.specs.declared.op.Kind.TheVariants.{Xfx as xfx}
use Rattle.unit_model.specs.Facts.{OperatorOf, exports, declares, clause, interface, body, Facts}
use Rattle.unit_model.specs.Builtins.{builtins}
use Rattle.unit_model.specs.Directives.{Text}
use Rattle.unit_model.specs.Preparing.{sort_of}
use Rattle.unit_model.specs.Validity.{IsName}
use Rattle.unit_model.specs.Known.{interfaces_of, IsGoodInterface}
use Rattle.unit_model.specs.Entries.{IsSoundTerm, IsSound}
use Rattle.unit_model.specs.Saying.{IsSectionDirective, Says}

abbrev a : Text
a = codes "a"

abbrev m : Text
m = codes "m"

-- ---- interfaces

abbrev arrow : OperatorOf Text
arrow = record { op = record { priority = 700; kind = xfx }; name = codes "=>" }

abbrev with_module : Facts Text
with_module = record {
  needs = [];
  sections = record { kind = body; byte = 0; of = codes "user"; entries = [] }
      ∷ record { kind = interface; byte = 0; of = m; entries = record { byte = 13; what = exports (record { name = a; arity = 0 }) } ∷ record { byte = 28; what = declares arrow } ∷ [] }
      ∷ record { kind = body; byte = 60; of = m; entries = record { byte = 71; what = clause 0 (atom a) (atom (codes "true")) } ∷ [] } ∷ [];
}

an_interface_has_its_operators : interfaces_of with_module ≡ record { of = m; operators = arrow ∷ [] } ∷ []
an_interface_has_its_operators = refl

user_is_no_good_interface : IsGoodInterface (record { of = codes "user"; operators = [] }) → ⊥
user_is_no_good_interface h = absurd (let e : true ≡ false = h.unreserved in cc)

-- ---- facts

name_of_user : IsName (codes "user")
unfolding lib.Utf8.encode
name_of_user = ((codes "user", (refl, refl)), omega arith)

name_of_m : IsName m
unfolding lib.Utf8.encode
name_of_m = ((m, (refl, refl)), omega arith)

name_of_a : IsName a
unfolding lib.Utf8.encode
name_of_a = ((a, (refl, refl)), omega arith)

name_of_true : IsName (codes "true")
unfolding lib.Utf8.encode
name_of_true = ((codes "true", (refl, refl)), omega arith)

name_of_arrow : IsName (codes "=>")
unfolding lib.Utf8.encode
name_of_arrow = ((codes "=>", (refl, refl)), omega arith)

facts_with_a_module : IsSound with_module
unfolding standard
facts_with_a_module = record {
  needs = tt;
  sections = (
    record { byte = omega arith; of = name_of_user; entries = tt },
    (
      record { byte = omega arith; of = name_of_m; entries = (record { byte = omega arith; what = record { name = name_of_a; arity = omega arith } }, (record { byte = omega arith; what = record { priority = omega arith; name = name_of_arrow } }, tt)) },
      (record { byte = omega arith; of = name_of_m; entries = (record { byte = omega arith; what = (omega arith, name_of_a, name_of_true) }, tt) }, tt),
    ),
  );
  rules = refl;
}

-- a body of a module that has neither interface nor need
body_alone : IsSound (record { needs = []; sections = record { kind = body; byte = 0; of = codes "user"; entries = [] } ∷ record { kind = body; byte = 0; of = m; entries = [] } ∷ [] }) → ⊥
body_alone h = absurd (let e : false ≡ true = h.rules in cc)

-- ---- terms

abbrev pair : Tree Text → Tree Text → Tree Text
pair t u = comp a (cons t (cons u nil))

two_variables : IsSoundTerm (pair (var 0) (var 1))
two_variables = record { fits = (name_of_a, omega arith, omega arith, (omega arith, (omega arith, tt))); numbered = refl; few = omega arith }

variables_from_the_right : IsSoundTerm (pair (var 1) (var 0)) → ⊥
variables_from_the_right h = absurd (let e : 1 ∷ 0 ∷ [] ≡ 0 ∷ 1 ∷ [] = h.numbered in cc)

-- ---- what a term says

abbrev directive : Tree Text → Tree Text
directive t = comp (codes ":-") (cons t nil)

abbrev one : Text → Tree Text → Tree Text
one s t = comp s (cons t nil)

opens_a_section : IsSectionDirective (sort_of (directive (one (codes "module") (atom m))))
opens_a_section = tt

ends_a_section : IsSectionDirective (sort_of (directive (one (codes "end_body") (atom m))))
ends_a_section = tt

imports_a_module : IsSectionDirective (sort_of (directive (one (codes "import") (atom m)))) → ⊥
imports_a_module h = h

says_a_fact : Says false (atom a) 14 standard standard (record { byte = 14; what = clause 0 (atom a) (atom (codes "true")) } ∷ [])
unfolding builtins
says_a_fact = record { what = record { entries = clause 0 (atom a) (atom (codes "true")) ∷ []; table = standard }; said_is = refl; entries_are = refl; table = refl }
