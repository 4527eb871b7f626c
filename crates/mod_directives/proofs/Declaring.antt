-- Declaring operators of names in turn.
use Rattle.std.proofs.Common.{◌≡◌, ℕ, ℤ, zero, suc, ◌<◌, List, [], ◌∷◌, ◌++◌, length, take, drop, get_or, map, ◌≤◌, Bool, true, false, Option, Some, None, Ok, Err, refl, sym, ap, ◌∙◌, subst, arith, append_assoc}
use Rattle.std.specs.List.{flat_map}
use Rattle.std.proofs.lemmas.List.{map-append}
use Rattle.std.proofs.lemmas.List.Concat.{flat_map-append}
use Rattle.std.proofs.Math.Path.{fun_ext}
use Rattle.std.proofs.Math.Seq.{drop-cons, take-suc}
use Rattle.pl_atoms.specs.declared.names.NameId.{NameId}
use Rattle.pl_terms.specs.Order.{text_of}
use Rattle.pl_ops.specs.Tables.{Declaration, Operators, operator, later_or, last_declared, unless_zero}
use Rattle.pl_ops.specs.declared.op.Op.{Op as Operator}
use Rattle.pl_ops.specs.declared.refusal.OpRefusal.{OpRefusal}
use Rattle.pl_ops.specs.Refusals.{refusal, declared}
use Rattle.pl_ops.proofs.Lookups.{last_declared-append}
use Rattle.unit_model.specs.Facts.{OperatorOf, operator_by}
use Rattle.unit_model.specs.declared.facts.OpDecl.{OpDecl}
use Rattle.unit_model.specs.Directives.{Text}
use Rattle.unit_model.specs.Preparing.{Saying, says, unless_refused, with_names, added, operator_of, declaration, operator_entries, operators_said, entries_at}
use Rattle.unit_model.specs.Views.{op_view, entries_view}
use Rattle.unit_model.specs.declared.facts.Entry.{Entry as CodeEntry}
use Rattle.unit_model.specs.Entries.{EntriesBelow, entries_in}
use Rattle.mod_directives.specs.declared.operators.Declared.{Declared}
use Rattle.mod_directives.specs.Operators.{texts, IsDeclared}
use Rattle.mod_directives.specs.Reads.{Tells}
use Rattle.mod_directives.proofs.Putting.{append-empty, entries_at-append}

-- a declaration on top of tables with the same operators
later : (o p q : Option Operator) → unless_zero o ≡ unless_zero p → unless_zero (later_or o q) ≡ unless_zero (later_or p q)
later o p None e = e
later o p (Some op) e = refl

pub operator-more : (a b ds : List Declaration) → operator a ≡ operator b → operator (a ++ ds) ≡ operator (b ++ ds)
operator-more a b ds e =
    fun_ext (λ c. fun_ext (λ name.
    ap unless_zero (last_declared-append c name a ds)
    ∙ later (last_declared c name a) (last_declared c name b) (last_declared c name ds) (ap (λ (look : Operators). look c name) e)
    ∙ sym (ap unless_zero (last_declared-append c name b ds))))

drop-front : (t ds : List Declaration) → drop (length t) (t ++ ds) ≡ ds
drop-front [] ds = refl
drop-front (d ∷ t) ds = drop-front t ds

operator_entries-append : (b : Bool) (os ps : List (OperatorOf Text)) → operator_entries b (os ++ ps) ≡ operator_entries b os ++ operator_entries b ps
operator_entries-append true os ps = map-append _ os ps
operator_entries-append false os ps = refl

module _ (p : ℤ) (k : Text) where
  -- what names declare
  abbrev pub declared_all : List Text → List Declaration
  declared_all = flat_map (declared p k)

  declared_all-push : (ns : List Text) (n : Text) → declared_all (ns ++ n ∷ []) ≡ declared_all ns ++ declared p k n
  declared_all-push ns n = flat_map-append (declared p k) ns (n ∷ []) ∙ ap (λ l. declared_all ns ++ l) (append-empty (declared p k n))

  accepted : (n : Text) (ns : List Text) (t : List Declaration) → refusal (operator t) p k n ≡ None → with_names p k (n ∷ ns) t ≡ with_names p k ns (t ++ declared p k n)
  accepted n ns t free = ap (λ o. unless_refused o (t ++ declared p k n) (with_names p k ns)) free

  refused-by : (o : Option OpRefusal) (t : List Declaration) (next : List Declaration → Option (List Declaration)) → (o ≡ None → ⊥) → unless_refused o t next ≡ None
  refused-by None t next h = absurd (h refl)
  refused-by (Some cause) t next h = refl

  pub refused : (n : Text) (ns : List Text) (t : List Declaration) → (refusal (operator t) p k n ≡ None → ⊥) → with_names p k (n ∷ ns) t ≡ None
  refused n ns t h = refused-by (refusal (operator t) p k n) (t ++ declared p k n) (with_names p k ns) h

  abbrev pub after_names : Bool → List Declaration → Option (List Declaration) → Saying
  after_names in_one t None = Err 12
  after_names in_one t (Some u) = says (operator_entries in_one (map operator_of (added t u))) u

  operators_said-is : (in_one : Bool) (ns : List Text) (t : List Declaration) → operators_said in_one p k ns t ≡ after_names in_one t (with_names p k ns t)
  operators_said-is in_one ns t = refl

-- some names are declared, and some are still to be
module _ (names : List (List ℕ)) (d : Declared) (start : List Declaration) where
  abbrev pub so_far : List Text → List Declaration
  so_far ns = declared_all d.priority d.kind.now ns

  pub record Going (before after : List Text) (table : List Declaration) (es : List CodeEntry) : Type 0 where
    pub operators : operator table ≡ operator (start ++ so_far before)
    pub accepted_so_far : with_names d.priority d.kind.now (before ++ after) start ≡ with_names d.priority d.kind.now after (start ++ so_far before)
    pub entries : entries_in names es ≡ entries_at d.byte (operator_entries d.is_entry (map operator_of (so_far before)))
    pub bound : EntriesBelow (length names) (entries_view es)

  no_entries : (b : Bool) → operator_entries b [] ≡ []
  no_entries true = refl
  no_entries false = refl

  pub going-start : (ns : List Text) (es : List CodeEntry) → es ≡ [] → Going [] ns start es
  going-start ns es empty = record {
    operators = ap operator (sym (append-empty start));
    accepted_so_far = ap (with_names d.priority d.kind.now ns) (sym (append-empty start));
    entries = ap (entries_in names) empty ∙ sym (ap (entries_at d.byte) (no_entries d.is_entry));
    bound = subst (λ l. EntriesBelow (length names) (entries_view l)) (sym empty) tt;
  }

  pub going-more : (before after : List Text) (name : NameId) (old new : List Declaration) (es fs : List CodeEntry)
      → Going before (text_of names name.0 ∷ after) old es → IsDeclared names d name old new es fs → EntriesBelow (length names) (entries_view fs) → Going (before ++ text_of names name.0 ∷ []) after new fs
  going-more before after name old new es fs g is bound =
      let n : Text = text_of names name.0 in
      let one : List Declaration = declared d.priority d.kind.now n in
      let grown : start ++ so_far (before ++ n ∷ []) ≡ (start ++ so_far before) ++ one =
      ap (λ l. start ++ l) (declared_all-push d.priority d.kind.now before n) ∙ sym (append_assoc start (so_far before) one) in
      record {
        operators = is.operators ∙ operator-more old (start ++ so_far before) one g.operators ∙ ap operator (sym grown);
        accepted_so_far =
            ap (λ ns. with_names d.priority d.kind.now ns start) (append_assoc before (n ∷ []) after)
            ∙ g.accepted_so_far
            ∙ accepted d.priority d.kind.now n after (start ++ so_far before) (ap (λ (look : Operators). refusal look d.priority d.kind.now n) (sym g.operators) ∙ is.free)
            ∙ ap (with_names d.priority d.kind.now after) (sym grown);
        entries =
            is.entries
            ∙ ap (λ l. l ++ entries_at d.byte (operator_entries d.is_entry (map operator_of one))) g.entries
            ∙ sym (ap (λ l. entries_at d.byte (operator_entries d.is_entry (map operator_of l))) (declared_all-push d.priority d.kind.now before n)
            ∙ ap (λ l. entries_at d.byte (operator_entries d.is_entry l)) (map-append operator_of (so_far before) one)
            ∙ ap (entries_at d.byte) (operator_entries-append d.is_entry (map operator_of (so_far before)) (map operator_of one))
            ∙ entries_at-append d.byte (operator_entries d.is_entry (map operator_of (so_far before))) (operator_entries d.is_entry (map operator_of one)));
        bound = bound;
      }

  abbrev pub said_of : List Text → Saying
  said_of ns = operators_said d.is_entry d.priority d.kind.now ns start

  pub going-end : (ns : List Text) (table : List Declaration) (es : List CodeEntry) → Going ns [] table es → Tells names d.byte (said_of ns) table (Ok es)
  going-end ns table es g =
      let all : List Declaration = start ++ so_far ns in
      let taken : with_names d.priority d.kind.now ns start ≡ Some all =
      ap (λ l. with_names d.priority d.kind.now l start) (sym (append-empty ns)) ∙ g.accepted_so_far in
      record {
        ok = record {
          what = record { entries = operator_entries d.is_entry (map operator_of (added start all)); table = all };
          is = ap (after_names d.priority d.kind.now d.is_entry start) taken;
          entries_are = g.entries ∙ ap (λ l. entries_at d.byte (operator_entries d.is_entry (map operator_of l))) (sym (drop-front start (so_far ns)));
          operators = g.operators;
        };
        bound = g.bound;
        fault = λ n e. absurd (cc);
      }

  pub going-fault : (before after : List Text) (name : NameId) (table : List Declaration) (es : List CodeEntry) → Going before (text_of names name.0 ∷ after) table es
      → (refusal (operator table) d.priority d.kind.now (text_of names name.0) ≡ None → ⊥) → said_of (before ++ text_of names name.0 ∷ after) ≡ Err 12
  going-fault before after name table es g absent =
      ap (after_names d.priority d.kind.now d.is_entry start)
      (g.accepted_so_far ∙ refused d.priority d.kind.now (text_of names name.0) after (start ++ so_far before)
      (λ e. absent (ap (λ (look : Operators). refusal look d.priority d.kind.now (text_of names name.0)) g.operators ∙ e)))

-- at a place of a list of names
module _ (f : ℕ → List ℕ) (xs : List NameId) (i : ℕ) (c : NameId) (lt : i < length xs) where
  pub texts-drop : texts f (drop i xs) ≡ f (get_or xs i c).0 ∷ texts f (drop (suc i) xs)
  texts-drop = ap (texts f) (drop-cons xs i c lt)

  pub texts-take : texts f (take (suc i) xs) ≡ texts f (take i xs) ++ f (get_or xs i c).0 ∷ []
  texts-take = ap (texts f) (take-suc xs i c lt) ∙ map-append (λ (id : NameId). f id.0) (take i xs) (get_or xs i c ∷ [])

pub declared-made : (names : List (List ℕ)) (d : Declared) (name : NameId) (old new : List Declaration) (es fs : List CodeEntry) (text : Text) (o : OpDecl) → text ≡ text_of names name.0
    → refusal (operator old) d.priority d.kind.now text ≡ None → operator new ≡ operator (old ++ declared d.priority d.kind.now text)
    → declared d.priority d.kind.now (text_of names name.0) ≡ declaration (operator_by (text_of names) (op_view o)) ∷ []
    → entries_in names fs ≡ entries_in names es ++ entries_at d.byte (operator_entries d.is_entry (operator_by (text_of names) (op_view o) ∷ []))
    → IsDeclared names d name old new es fs
declared-made names d name old new es fs text o same free more is put = record {
  free = ap (refusal (operator old) d.priority d.kind.now) (sym same) ∙ free;
  operators = more ∙ ap (λ t. operator (old ++ declared d.priority d.kind.now t)) same;
  entries = put ∙ ap (λ l. entries_in names es ++ entries_at d.byte (operator_entries d.is_entry (map operator_of l))) (sym is);
}

take-long : (xs : List NameId) (i : ℕ) → length xs ≤ i → take i xs ≡ xs
take-long [] zero h = refl
take-long [] (suc i) h = refl
take-long (x ∷ xs) zero h = absurd (omega arith)
take-long (x ∷ xs) (suc i) h = ap (λ l. x ∷ l) (take-long xs i (omega arith))

drop-long : (xs : List NameId) (i : ℕ) → length xs ≤ i → drop i xs ≡ []
drop-long [] zero h = refl
drop-long [] (suc i) h = refl
drop-long (x ∷ xs) zero h = absurd (omega arith)
drop-long (x ∷ xs) (suc i) h = drop-long xs i (omega arith)

take-drop : (xs : List NameId) (i : ℕ) → take i xs ++ drop i xs ≡ xs
take-drop xs zero = refl
take-drop [] (suc i) = refl
take-drop (x ∷ xs) (suc i) = ap (λ l. x ∷ l) (take-drop xs i)

-- over a list of names
module _ (names : List (List ℕ)) (d : Declared) (start : List Declaration) (xs : List NameId) where
  abbrev pub At : ℕ → List Declaration → List CodeEntry → Type 0
  At i table es = Going names d start (texts (text_of names) (take i xs)) (texts (text_of names) (drop i xs)) table es

  at : (i : ℕ) (c : NameId) (table : List Declaration) (es : List CodeEntry) → i < length xs → At i table es
      → Going names d start (texts (text_of names) (take i xs)) (text_of names (get_or xs i c).0 ∷ texts (text_of names) (drop (suc i) xs)) table es
  at i c table es lt g = subst (λ ns. Going names d start (texts (text_of names) (take i xs)) ns table es) (texts-drop (text_of names) xs i c lt) g

  pub loop-more : (i j : ℕ) (c : NameId) (old new : List Declaration) (es fs : List CodeEntry) → i < length xs → j ≡ suc i → At i old es
      → IsDeclared names d (get_or xs i c) old new es fs → EntriesBelow (length names) (entries_view fs) → At j new fs
  loop-more i j c old new es fs lt next g is bound =
      let more : Going names d start (texts (text_of names) (take i xs) ++ text_of names (get_or xs i c).0 ∷ []) (texts (text_of names) (drop (suc i) xs)) new fs =
      going-more names d start (texts (text_of names) (take i xs)) (texts (text_of names) (drop (suc i) xs)) (get_or xs i c) old new es fs (at i c old es lt g) is bound in
      subst (λ k. At k new fs) (sym next)
      (subst (λ ns. Going names d start ns (texts (text_of names) (drop (suc i) xs)) new fs) (sym (texts-take (text_of names) xs i c lt)) more)

  pub loop-end : (i : ℕ) (table : List Declaration) (es : List CodeEntry) → length xs ≤ i → At i table es → Tells names d.byte (said_of names d start (texts (text_of names) xs)) table (Ok es)
  loop-end i table es le g =
      going-end names d start (texts (text_of names) xs) table es
      (subst (λ ns. Going names d start ns [] table es) (ap (texts (text_of names)) (take-long xs i le))
      (subst (λ ns. Going names d start (texts (text_of names) (take i xs)) ns table es) (ap (texts (text_of names)) (drop-long xs i le)) g))

  pub loop-fault : (i : ℕ) (c : NameId) (table : List Declaration) (es : List CodeEntry) → i < length xs → At i table es
      → (refusal (operator table) d.priority d.kind.now (text_of names (get_or xs i c).0) ≡ None → ⊥) → said_of names d start (texts (text_of names) xs) ≡ Err 12
  loop-fault i c table es lt g absent =
      ap (said_of names d start)
      (ap (texts (text_of names)) (sym (take-drop xs i)) ∙ map-append (λ (id : NameId). text_of names id.0) (take i xs) (drop i xs)
      ∙ ap (λ ns. texts (text_of names) (take i xs) ++ ns) (texts-drop (text_of names) xs i c lt))
      ∙ going-fault names d start (texts (text_of names) (take i xs)) (texts (text_of names) (drop (suc i) xs)) (get_or xs i c) table es (at i c table es lt g) absent
