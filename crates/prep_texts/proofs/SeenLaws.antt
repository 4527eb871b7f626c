-- States that are alike stay so: a term's step depends on its tables by what they look up.
use Rattle.std.proofs.Common.{◌≡◌, ℕ, Bool, true, false, ◌||◌, List, [], ◌∷◌, ◌++◌, map, Option, Some, None, is_some, Ok, Err, refl, sym, ap, ◌∙◌, if◌then◌else◌}
use Rattle.pl_terms.specs.Trees.{Tree}
use Rattle.pl_ops.specs.Tables.{Declaration, operator}
use Rattle.pl_ops.specs.Standard.{standard}
use Rattle.unit_model.specs.Facts.{OperatorOf, What, SectionKind, interface, body, Section}
use Rattle.unit_model.specs.Directives.{Text, Directive, opens, closes, exporting, reexporting, metapredicates, operators, importing, discontiguous}
use Rattle.unit_model.specs.Preparing.{Opened, State, table_in, operators_known, holds, with_need, entries_at, declaration, with_operators, in_interface, open_section, is_reserved, open_interface, open_named, opened, close_section, closes_this, closed, Said, Saying, Sort, a_directive, a_query, a_clause, sort_of, sort_said, Source, no_module, passing, taking, source_of, told, taken, with_said, directive_step, sort_step, step}
use Rattle.prep_texts.specs.Looking.{extended, accepts_all, saying_seen}
use Rattle.prep_texts.specs.Seen.{seen, Alike, next_seen, needing, told_seen, taken_seen, passed_seen, imported_seen, with_said_seen, opened_section, open_interface_seen, open_body_seen, open_named_seen, opened_seen, close_seen, closed_here, closed_seen, table_seen, interface_seen}
use Rattle.prep_texts.proofs.TableLaws.{operator-extended, sort-alike, with_all, with_operators-all}

-- ---- each part of a step

told-seen : (byte : ℕ) (ws : List (What Text)) (t : List Declaration) (s : State) → seen (told byte ws t s) ≡ told_seen (entries_at byte ws) (operator t) (seen s)
told-seen byte ws t s = go s.inside
  where
    go : (i : Option Opened) → seen (told byte ws t (record s { inside = i })) ≡ told_seen (entries_at byte ws) (operator t) (seen (record s { inside = i }))
    go None = refl
    go (Some o) = refl

need-seen : (m : Text) (os : List (OperatorOf Text)) (byte : ℕ) (s : State) → seen (with_need m os byte s) ≡ needing m os byte (seen s)
need-seen m os byte s = go (holds s.own m || holds (map (λ n. n.of) s.needs) m)
  where
    more : State
    more = record s { needs = s.needs ++ record { byte = byte; of = m; operators = os } ∷ [] }

    go : (b : Bool) → seen (if b then s else more) ≡ (if b then seen s else seen more)
    go true = refl
    go false = refl

taken-seen : (byte : ℕ) (ws : List (What Text)) (os : List (OperatorOf Text)) (t : List Declaration) (s : State) → next_seen (taken byte ws (with_operators os t) s) ≡ taken_seen byte ws (accepts_all os (operator t)) (extended (operator t) (map declaration os)) (seen s)
taken-seen byte ws os t s = ap (λ o. next_seen (taken byte ws o s)) (with_operators-all os t) ∙ go (accepts_all os (operator t))
  where
    go : (b : Bool) → next_seen (taken byte ws (with_all b os t) s) ≡ taken_seen byte ws b (extended (operator t) (map declaration os)) (seen s)
    go true =
        ap (λ v. Ok v) (told-seen byte ws (t ++ map declaration os) s)
        ∙ ap (λ look. Ok (told_seen (entries_at byte ws) look (seen s))) (operator-extended t (map declaration os))
    go false = refl

passed-seen : (byte : ℕ) (m : Text) (l : Said) (s : State) (o : Option (List (OperatorOf Text)))
    → next_seen (elim o [ None ↦ Err 11 | Some os ↦ Ok (told byte l.entries l.table (with_need m os byte s)) ]) ≡ passed_seen byte m l.entries (operator l.table) o (seen s)
passed-seen byte m l s None = refl
passed-seen byte m l s (Some os) =
    ap (λ v. Ok v) (told-seen byte l.entries l.table (with_need m os byte s))
    ∙ ap (λ v. Ok (told_seen (entries_at byte l.entries) (operator l.table) v)) (need-seen m os byte s)

imported-seen : (byte : ℕ) (m : Text) (l : Said) (s : State) (o : Option (List (OperatorOf Text)))
    → next_seen (elim o [ None ↦ Err 11 | Some os ↦ taken byte l.entries (with_operators os l.table) (with_need m os byte s) ]) ≡ imported_seen byte m l.entries (operator l.table) o (seen s)
imported-seen byte m l s None = refl
imported-seen byte m l s (Some os) =
    taken-seen byte l.entries os l.table (with_need m os byte s)
    ∙ ap (λ v. taken_seen byte l.entries (accepts_all os (operator l.table)) (extended (operator l.table) (map declaration os)) v) (need-seen m os byte s)

pub with_said-seen : (saying : Saying) (source : Source) (byte : ℕ) (s : State) → next_seen (with_said saying source byte s) ≡ with_said_seen (saying_seen saying) source byte (seen s)
with_said-seen (Err n) source byte s = refl
with_said-seen (Ok l) no_module byte s = ap (λ v. Ok v) (told-seen byte l.entries l.table s)
with_said-seen (Ok l) (passing m) byte s = passed-seen byte m l s (operators_known s.known m)
with_said-seen (Ok l) (taking m) byte s = imported-seen byte m l s (operators_known s.known m)

-- ---- sections

open_interface-seen : (m : Text) (byte : ℕ) (s : State) → next_seen (open_interface m byte s) ≡ open_interface_seen m byte (seen s)
open_interface-seen m byte s = go (is_some (operators_known s.known m) || is_reserved m)
  where
    go : (b : Bool) → next_seen (if b then Err 15 else Ok (open_section interface m byte standard s)) ≡ (if b then Err 15 else Ok (seen (open_section interface m byte standard s)))
    go true = refl
    go false = refl

open_body-seen : (m : Text) (byte : ℕ) (s : State) (o : Option (List (OperatorOf Text)))
    → next_seen (elim o [ None ↦ Err 11 | Some os ↦ Ok (open_section body m byte (standard ++ map declaration os) (with_need m os byte s)) ]) ≡ open_body_seen m byte o (seen s)
open_body-seen m byte s None = refl
open_body-seen m byte s (Some os) = ap (λ v. Ok (opened_section body m byte (operator (standard ++ map declaration os)) v)) (need-seen m os byte s)

open_named-seen : (k : SectionKind) (m : Option Text) (byte : ℕ) (s : State) → next_seen (open_named k m byte s) ≡ open_named_seen k m byte (seen s)
open_named-seen k None byte s = refl
open_named-seen interface (Some m) byte s = open_interface-seen m byte s
open_named-seen body (Some m) byte s = open_body-seen m byte s (operators_known s.known m)

pub opened-seen : (k : SectionKind) (m : Option Text) (byte : ℕ) (s : State) → next_seen (opened k m byte s) ≡ opened_seen k m byte (seen s)
opened-seen k m byte s = go s.inside
  where
    go : (i : Option Opened) → next_seen (opened k m byte (record s { inside = i })) ≡ opened_seen k m byte (seen (record s { inside = i }))
    go None = open_named-seen k m byte (record s { inside = None })
    go (Some o) = refl

close-seen : (t : Section Text) (s : State) → seen (close_section t s) ≡ close_seen t (seen s)
close-seen t s = go t.kind
  where
    go : (k : SectionKind) → seen (close_section (record t { kind = k }) s) ≡ close_seen (record t { kind = k }) (seen s)
    go interface = refl
    go body = refl

pub closed-seen : (k : SectionKind) (m : Option Text) (s : State) → next_seen (closed k m s) ≡ closed_seen k m (seen s)
closed-seen k m s = go s.inside
  where
    test : (o : Opened) (b : Bool) → next_seen (if b then Ok (close_section o.section (record s { inside = Some o })) else Err 7) ≡ closed_here b o.section (seen (record s { inside = Some o }))
    test o true = ap (λ v. Ok v) (close-seen o.section (record s { inside = Some o }))
    test o false = refl

    go : (i : Option Opened) → next_seen (closed k m (record s { inside = i })) ≡ closed_seen k m (seen (record s { inside = i }))
    go None = refl
    go (Some o) = test o (closes_this k m o.section)

-- ---- a step

pub table_in-seen : (s : State) → operator (table_in s) ≡ table_seen (seen s)
table_in-seen s = go s.inside
  where
    go : (i : Option Opened) → operator (table_in (record s { inside = i })) ≡ table_seen (seen (record s { inside = i }))
    go None = refl
    go (Some o) = refl

pub in_interface-seen : (s : State) → in_interface s ≡ interface_seen (seen s)
in_interface-seen s = go s.inside
  where
    go : (i : Option Opened) → in_interface (record s { inside = i }) ≡ interface_seen (seen (record s { inside = i }))
    go None = refl
    go (Some o) = refl

module _ (s u : State) (alike : Alike s u) where
  pub table-alike : operator (table_in s) ≡ operator (table_in u)
  table-alike = table_in-seen s ∙ ap table_seen alike ∙ sym (table_in-seen u)

  interface-alike : in_interface s ≡ in_interface u
  interface-alike = in_interface-seen s ∙ ap interface_seen alike ∙ sym (in_interface-seen u)

  said_step-alike : (sort : Sort) (t : Tree Text) (source : Source) (byte : ℕ)
      → next_seen (with_said (sort_said (in_interface s) sort t (table_in s)) source byte s) ≡ next_seen (with_said (sort_said (in_interface u) sort t (table_in u)) source byte u)
  said_step-alike sort t source byte =
      with_said-seen (sort_said (in_interface s) sort t (table_in s)) source byte s
      ∙ ap (λ b. with_said_seen (saying_seen (sort_said b sort t (table_in s))) source byte (seen s)) interface-alike
      ∙ ap (λ l. with_said_seen l source byte (seen s)) (sort-alike (table_in s) (table_in u) table-alike (in_interface u) sort t)
      ∙ ap (λ v. with_said_seen (saying_seen (sort_said (in_interface u) sort t (table_in u))) source byte v) alike
      ∙ sym (with_said-seen (sort_said (in_interface u) sort t (table_in u)) source byte u)

  directive_step-alike : (d : Directive) (sort : Sort) (t : Tree Text) (byte : ℕ) → next_seen (directive_step d sort t byte s) ≡ next_seen (directive_step d sort t byte u)
  directive_step-alike (opens k m) sort t byte = opened-seen k m byte s ∙ ap (opened_seen k m byte) alike ∙ sym (opened-seen k m byte u)
  directive_step-alike (closes k m) sort t byte = closed-seen k m s ∙ ap (closed_seen k m) alike ∙ sym (closed-seen k m u)
  directive_step-alike (exporting is) sort t byte = said_step-alike sort t (source_of sort) byte
  directive_step-alike (reexporting m is) sort t byte = said_step-alike sort t (source_of sort) byte
  directive_step-alike (metapredicates ms) sort t byte = said_step-alike sort t (source_of sort) byte
  directive_step-alike (operators p k ns) sort t byte = said_step-alike sort t (source_of sort) byte
  directive_step-alike (importing m is) sort t byte = said_step-alike sort t (source_of sort) byte
  directive_step-alike discontiguous sort t byte = said_step-alike sort t (source_of sort) byte

  sort_step-alike : (sort : Sort) (t : Tree Text) (byte : ℕ) → next_seen (sort_step sort t byte s) ≡ next_seen (sort_step sort t byte u)
  sort_step-alike (a_directive (Ok d)) t byte = directive_step-alike d (a_directive (Ok d)) t byte
  sort_step-alike (a_directive (Err n)) t byte = said_step-alike (a_directive (Err n)) t no_module byte
  sort_step-alike a_query t byte = said_step-alike a_query t no_module byte
  sort_step-alike a_clause t byte = said_step-alike a_clause t no_module byte

  pub step-alike : (t : Tree Text) (byte : ℕ) → next_seen (step t byte s) ≡ next_seen (step t byte u)
  step-alike t byte = sort_step-alike (sort_of t) t byte
