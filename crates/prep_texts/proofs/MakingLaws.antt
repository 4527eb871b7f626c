-- The operators of entries, one entry after another.
use Rattle.std.proofs.Common.{◌≡◌, ℕ, ◌+◌, ◌<◌, List, [], ◌∷◌, ◌++◌, map, length, take, get_or, refl, sym, ap, ◌∙◌, append_assoc}
use Rattle.std.proofs.lemmas.List.{map-append, take_more}
use Rattle.unit_model.specs.Facts.{OperatorOf, Entry, entry_by}
use Rattle.unit_model.specs.Directives.{Text}
use Rattle.unit_model.specs.Encoding.{text_at}
use Rattle.unit_model.specs.Views.{entry_view}
use Rattle.unit_model.specs.Preparing.{operator_in, operators_of}
use Rattle.unit_model.specs.declared.facts.OpDecl.{OpDecl}
use Rattle.unit_model.specs.declared.facts.What.{What}
use Rattle.unit_model.specs.declared.facts.What.TheVariants.{Export, ReexportAll, Reexport, Meta, Operator, ImportAll, Import, Clause}
use Rattle.unit_model.specs.declared.facts.Entry.{Entry as CodeEntry}
use Rattle.unit_model.specs.Entries.{entries_in}
use Rattle.prep_texts.specs.declared.interfaces.KnownOperator.{KnownOperator}
use Rattle.prep_texts.specs.Interfaces.{operator_view, operators_view}
use Rattle.prep_texts.proofs.TableLaws.{append-end}

of-append : (xs : List (Entry Text)) (x : Entry Text) → operators_of (xs ++ x ∷ []) ≡ operators_of xs ++ operator_in x.what
of-append [] x = append-end (operator_in x.what)
of-append (y ∷ xs) x = ap (λ (l : List (OperatorOf Text)). operator_in y.what ++ l) (of-append xs x) ∙ sym (append_assoc (operator_in y.what) (operators_of xs) (operator_in x.what))

module _ (names : List Text) (xs : List CodeEntry) (i : ℕ) (x : CodeEntry) (lt : i < length xs) (is : x ≡ get_or xs i x) where
  more : entries_in names (take (i + 1) xs) ≡ entries_in names (take i xs) ++ entry_by (text_at names) (entry_view x) ∷ []
  more =
      ap (entries_in names) (take_more xs i x lt ∙ ap (λ (y : CodeEntry). take i xs ++ y ∷ []) (sym is))
      ∙ ap (map (entry_by (text_at names))) (map-append entry_view (take i xs) (x ∷ []))
      ∙ map-append (entry_by (text_at names)) (map entry_view (take i xs)) (entry_view x ∷ [])

  operators-more : operators_of (entries_in names (take (i + 1) xs)) ≡ operators_of (entries_in names (take i xs)) ++ operator_in (entry_by (text_at names) (entry_view x)).what
  operators-more = ap operators_of more ∙ of-append (entries_in names (take i xs)) (entry_by (text_at names) (entry_view x))

  module _ (os : List KnownOperator) (so_far : operators_view os ≡ operators_of (entries_in names (take i xs))) where
    pub made-operator : (d : OpDecl) (text : Text) (new : List KnownOperator) → x.what ≡ Operator d → text ≡ text_at names d.name.0
        → new ≡ os ++ record { op = record { priority = d.priority; kind = d.kind }; name = text } ∷ [] → operators_view new ≡ operators_of (entries_in names (take (i + 1) xs))
    made-operator d text new what e pushed =
        ap operators_view pushed
        ∙ map-append operator_view os (record { op = record { priority = d.priority; kind = d.kind }; name = text } ∷ [])
        ∙ ap (λ (l : List (OperatorOf Text)). l ++ record { op = record { priority = d.priority; kind = d.kind }; name = text } ∷ []) so_far
        ∙ ap (λ (s : Text). operators_of (entries_in names (take i xs)) ++ record { op = record { priority = d.priority; kind = d.kind }; name = s } ∷ []) e
        ∙ ap (λ (w : What). operators_of (entries_in names (take i xs)) ++ operator_in (entry_by (text_at names) (entry_view (record { byte = x.byte; what = w }))).what) (sym what)
        ∙ sym operators-more

    none-made : (w : What) → ((d : OpDecl) → w ≡ Operator d → ⊥) → operator_in (entry_by (text_at names) (entry_view (record { byte = x.byte; what = w }))).what ≡ []
    none-made (Export j) h = refl
    none-made (ReexportAll m) h = refl
    none-made (Reexport m j) h = refl
    none-made (Meta s ms) h = refl
    none-made (Operator d) h = absurd (h d refl)
    none-made (ImportAll m) h = refl
    none-made (Import m j) h = refl
    none-made (Clause n t u) h = refl

    pub made-other : ((d : OpDecl) → x.what ≡ Operator d → ⊥) → operators_view os ≡ operators_of (entries_in names (take (i + 1) xs))
    made-other h =
        so_far ∙ sym (append-end (operators_of (entries_in names (take i xs))))
        ∙ ap (λ l. operators_of (entries_in names (take i xs)) ++ l) (sym (none-made x.what h))
        ∙ sym operators-more
