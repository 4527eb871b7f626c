-- A program's clauses and rows, as its fields have them.
use Rattle.std.proofs.Common.{◌≡◌, ℕ, zero, suc, Bool, true, false, cond, ◌&&◌, ◌||◌, List, [], ◌∷◌, ◌++◌, map, get_or, nat_eq, None, Some, find, refl, sym, ap, ◌∙◌}
use Rattle.std.specs.Option.{option_map}
use Rattle.std.specs.Ordering.{int_eq}
use Rattle.std.specs.Map.{lookup}
use Rattle.std.proofs.lemmas.Option.{same_Some, none-some}
use Rattle.std.proofs.lemmas.List.{map-append}
use Rattle.pl_terms.specs.Trees.{Tree, var, int, atom, comp, nil, cons}
use Rattle.goal_model.specs.Choices.{fits, argument_fits}
use Rattle.pl_store.specs.Places.{next_place}
use Rattle.pl_store.specs.Tags.{same_class, is_owned, is_candidate, head_class, argument_class, no_tag}
use Rattle.pl_store.specs.Linked.{Row, visible_in, is_row, key_view, may_match, no_clause}
use Rattle.pl_store.specs.Views.{tag_view, clause_view, row_view, key_class}
use Rattle.pl_store.specs.declared.index.Class.{Class}
use Rattle.pl_store.specs.declared.index.Class.TheVariants as C
use Rattle.pl_store.specs.declared.index.Tag.{Tag}
use Rattle.pl_store.specs.declared.key.Key.{Key}
use Rattle.pl_store.specs.declared.key.Key.TheVariants as K
use Rattle.pl_store.specs.declared.tables.Clause.{Clause}
use Rattle.pl_store.specs.declared.tables.RowKey.{RowKey}
use Rattle.pl_store.proofs.PlaceLaws.{next_place-map, next_place-same}

or_false : (b : Bool) → (b || false) ≡ b
or_false true = refl
or_false false = refl

and_true : (b : Bool) → b ≡ (b && true)
and_true true = refl
and_true false = refl

-- ---- a key and a class

none_asked : (key : Key) → key_class key ≡ None → (head : Tree ℕ) → fits nat_eq (key_view key) head ≡ true
none_asked K.Any e (var n) = refl
none_asked K.Any e (int z) = refl
none_asked K.Any e (atom s) = refl
none_asked K.Any e (comp g nil) = refl
none_asked K.Any e (comp g (cons t ts)) = refl
none_asked (K.Int z) e head = absurd (none-some _ (sym e))
none_asked (K.Name s) e head = absurd (none-some _ (sym e))
none_asked (K.Comp s k) e head = absurd (none-some _ (sym e))

-- a class, and those that are open
abbrev fits_class : Class → Class → Bool
fits_class c d = same_class c d || same_class C.Open d

int-argument : (z : _) (t : Tree ℕ) → fits_class (C.Int z) (argument_class t) ≡ argument_fits nat_eq (key_view (K.Int z)) t
int-argument z (var n) = refl
int-argument z (int y) = or_false (int_eq z y)
int-argument z (atom s) = refl
int-argument z (comp g ts) = refl

name-argument : (s : _) (t : Tree ℕ) → fits_class (C.Name s.0) (argument_class t) ≡ argument_fits nat_eq (key_view (K.Name s)) t
name-argument s (var n) = refl
name-argument s (int y) = refl
name-argument s (atom r) = or_false (nat_eq s.0 r)
name-argument s (comp g ts) = refl

comp-argument : (s : _) (k : ℕ) (t : Tree ℕ) → fits_class (C.Comp s.0 k) (argument_class t) ≡ argument_fits nat_eq (key_view (K.Comp s k)) t
comp-argument s k (var n) = refl
comp-argument s k (int y) = refl
comp-argument s k (atom r) = refl
comp-argument s k (comp g ts) = or_false _

asked : (key : Key) (c : Class) → key_class key ≡ Some c → (head : Tree ℕ) → fits_class c (head_class head) ≡ fits nat_eq (key_view key) head
asked K.Any c e head = absurd (none-some c e)
asked (K.Int z) c e head = ap (λ d. fits_class d (head_class head)) (sym (same_Some (C.Int z) c e)) ∙ by head
  where
    by : (h : Tree ℕ) → fits_class (C.Int z) (head_class h) ≡ fits nat_eq (key_view (K.Int z)) h
    by (var n) = refl
    by (int y) = refl
    by (atom r) = refl
    by (comp g nil) = refl
    by (comp g (cons t ts)) = int-argument z t
asked (K.Name s) c e head = ap (λ d. fits_class d (head_class head)) (sym (same_Some (C.Name s.0) c e)) ∙ by head
  where
    by : (h : Tree ℕ) → fits_class (C.Name s.0) (head_class h) ≡ fits nat_eq (key_view (K.Name s)) h
    by (var n) = refl
    by (int y) = refl
    by (atom r) = refl
    by (comp g nil) = refl
    by (comp g (cons t ts)) = name-argument s t
asked (K.Comp s k) c e head = ap (λ d. fits_class d (head_class head)) (sym (same_Some (C.Comp s.0 k) c e)) ∙ by head
  where
    by : (h : Tree ℕ) → fits_class (C.Comp s.0 k) (head_class h) ≡ fits nat_eq (key_view (K.Comp s k)) h
    by (var n) = refl
    by (int y) = refl
    by (atom r) = refl
    by (comp g nil) = refl
    by (comp g (cons t ts)) = comp-argument s k t

-- ---- clauses by their tags

module _ (clauses : List Clause) (tags : List Tag) (indexed : tags ≡ map tag_view clauses) (p k : ℕ) (key : Key) where
  pub owned-clauses : key_class key ≡ None → next_place (is_owned p) k tags ≡ next_place (may_match p (key_view key)) k (map clause_view clauses)
  owned-clauses e =
      ap (next_place (is_owned p) k) indexed
      ∙ next_place-map tag_view (is_owned p) k clauses
      ∙ next_place-same (λ c. is_owned p (tag_view c)) (λ c. may_match p (key_view key) (clause_view c)) (λ c. and_true (nat_eq p c.proc.0) ∙ ap (λ b. nat_eq p c.proc.0 && b) (sym (none_asked key e c.head))) k clauses
      ∙ sym (next_place-map clause_view (may_match p (key_view key)) k clauses)

  pub candidate-clauses : (class : Class) → key_class key ≡ Some class → next_place (is_candidate p class) k tags ≡ next_place (may_match p (key_view key)) k (map clause_view clauses)
  candidate-clauses class e =
      ap (next_place (is_candidate p class) k) indexed
      ∙ next_place-map tag_view (is_candidate p class) k clauses
      ∙ next_place-same (λ c. is_candidate p class (tag_view c)) (λ c. may_match p (key_view key) (clause_view c)) (λ c. ap (λ b. nat_eq p c.proc.0 && b) (asked key class e c.head)) k clauses
      ∙ sym (next_place-map clause_view (may_match p (key_view key)) k clauses)

pub owner-at : (clauses : List Clause) (i : ℕ) → (get_or (map tag_view clauses) i no_tag).owner ≡ (get_or (map clause_view clauses) i no_clause).procedure
owner-at [] i = refl
owner-at (c ∷ cs) zero = refl
owner-at (c ∷ cs) (suc i) = owner-at cs i

-- ---- rows

abbrev pub same_key : RowKey → RowKey → Bool
same_key k l = nat_eq k.lookup l.lookup && (nat_eq k.name l.name && nat_eq k.arity l.arity)

module _ (key : RowKey) (test : RowKey → Bool) (same : (k : RowKey) → test k ≡ same_key key k) where
  pub lookup-row : (es : List (RowKey × ℕ)) → lookup test es ≡ visible_in (map row_view es) key.lookup (record { name = key.name; arity = key.arity })
  lookup-row [] = refl
  lookup-row (e ∷ es) = ap (λ b. cond b (Some e.1) (lookup test es)) (same e.0) ∙ by (same_key key e.0) (lookup-row es)
    where
      by : (b : Bool) → lookup test es ≡ visible_in (map row_view es) key.lookup (record { name = key.name; arity = key.arity }) →
          cond b (Some e.1) (lookup test es) ≡ option_map (λ (r : Row). r.procedure) (cond b (Some (row_view e)) (find (is_row key.lookup (record { name = key.name; arity = key.arity })) (map row_view es)))
      by true rest = refl
      by false rest = rest

pub rows-push : (es : List (RowKey × ℕ)) (key : RowKey) (p : ℕ) → map row_view (es ++ (key, p) ∷ []) ≡ map row_view es ++ row_view (key, p) ∷ []
rows-push es key p = map-append row_view es ((key, p) ∷ [])
