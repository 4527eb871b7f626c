-- Reading several things from the cells of a term.
use Rattle.std.proofs.Common.{◌≡◌, ℕ, suc, ◌<◌, List, [], ◌∷◌, ◌++◌, codes, nat_eq, Bool, true, false, ◌&&◌, Option, Some, None, if◌then◌else◌, refl, sym, ap, ◌∙◌, arith, append_assoc, option_and_then}
use Rattle.std.specs.Option.{option_map}
use Rattle.std.specs.List.{flat_map}
use Rattle.std.proofs.lemmas.Bool.{eqb-true}
use Rattle.std.proofs.lemmas.List.Concat.{flat_map-append}
use Rattle.pl_ops.specs.Tables.{same_text}
use Rattle.pl_atoms.proofs.Texts.{same_text-is}
use Rattle.pl_terms.specs.Trees.{Tree, var, int, atom, comp, Trees, nil, cons, count, back, renamed, all_renamed}
use Rattle.pl_terms.specs.Cells.{first}
use Rattle.unit_model.specs.Directives.{Text, first_of, both, single, items_in, joined, all_of, several}
use Rattle.term_walk.specs.Walks.{first_cell, entered, is_functor}
use Rattle.mod_directives.specs.Several.{joined_by, all_joined, all_by, listed_by, several_by}
use Rattle.mod_directives.specs.Lists.{is_end}

-- lists that may be there, one after another
pub both-assoc : {B : Type 0} (o p q : Option (List B)) → both (both o p) q ≡ both o (both p q)
both-assoc None p q = refl
both-assoc (Some xs) None q = refl
both-assoc (Some xs) (Some ys) None = refl
both-assoc (Some xs) (Some ys) (Some zs) = ap Some (append_assoc xs ys zs)

pub both-empty : {B : Type 0} (o : Option (List B)) → both (Some []) o ≡ o
both-empty None = refl
both-empty (Some xs) = refl

both-none : {B : Type 0} (xs : Option (List B)) → both xs None ≡ None
both-none None = refl
both-none (Some xs) = refl

pub both-step : {B : Type 0} (xs ys : List B) (o q : Option (List B)) → both (Some xs) o ≡ Some ys → both (Some xs) (both o q) ≡ both (Some ys) q
both-step xs ys o q e = sym (both-assoc (Some xs) o q) ∙ ap (λ p. both p q) e

none_chosen : {A : Type 0} (b : Bool) → ◌≡◌ {A = Option A} (if b then None else None) None
none_chosen true = refl
none_chosen false = refl

and_left : (a b : Bool) → a && b ≡ true → a ≡ true
and_left true b h = refl
and_left false b h = h

and_right : (a b : Bool) → a && b ≡ true → b ≡ true
and_right true b h = h
and_right false b h = absurd (cc)

two : (n : ℕ) (b : Bool) → nat_eq n 2 && b ≡ true → n ≡ 2
two n b h = eqb-true n 2 (and_left (nat_eq n 2) b h)

module _ {B : Type 0} (one : Tree Text → Option (List B)) where
  pub joined-one : (t : Tree Text) (xs : List B) → one t ≡ Some xs → joined_by one t ≡ Some xs
  joined-one (var n) xs e = e
  joined-one (int z) xs e = e
  joined-one (atom s) xs e = e
  joined-one (comp s nil) xs e = e
  joined-one (comp s (cons l nil)) xs e = e
  joined-one (comp s (cons l (cons r nil))) xs e = ap (λ o. first_of o (if same_text s (codes ",") then both (joined_by one l) (joined_by one r) else None)) e
  joined-one (comp s (cons l (cons r (cons u us)))) xs e = e

module _ {B : Type 0} (one : Tree Text → Option (List B)) (f : ℕ → List ℕ) where
  abbrev pub at : Trees ℕ → Option (List B)
  at ts = one (renamed f (first ts))

  abbrev pub left : Trees ℕ → Option (List B)
  left ts = all_joined one (all_renamed f ts)

  -- items joined by commas
  item-left : (ts : Trees ℕ) (zs : List B) → 0 < count ts → at ts ≡ Some zs → left ts ≡ both (Some zs) (left (back 1 ts))
  item-left nil zs some e = absurd (omega arith)
  item-left (cons t ts) zs some e = ap (λ o. both o (left ts)) (joined-one one (renamed f t) zs e)

  pub item_joined : (ts us : Trees ℕ) (xs ys : List B) → 0 < count ts → both (Some xs) (at ts) ≡ Some ys → us ≡ back 1 ts → both (Some ys) (left us) ≡ both (Some xs) (left ts)
  item_joined ts us xs ys some e next = by (at ts) refl
    where
      by : (o : Option (List B)) → at ts ≡ o → both (Some ys) (left us) ≡ both (Some xs) (left ts)
      by None is = let n : ◌≡◌ {A = Option (List B)} None (Some ys) = ap (both (Some xs)) (sym is) ∙ e in absurd (cc)
      by (Some zs) is =
          ap (λ vs. both (Some ys) (left vs)) next
          ∙ sym (both-step xs ys (Some zs) (left (back 1 ts)) (ap (both (Some xs)) (sym is) ∙ e))
          ∙ ap (both (Some xs)) (sym (item-left ts zs some is))

  comma_at : (s : ℕ) (us ts : Trees ℕ) → nat_eq (count us) 2 && same_text (f s) (codes ",") ≡ true → at (cons (comp s us) ts) ≡ None → left (cons (comp s us) ts) ≡ left (entered (cons (comp s us) ts))
  comma_at s nil ts h e = absurd (cc)
  comma_at s (cons l nil) ts h e = absurd (cc)
  comma_at s (cons l (cons r nil)) ts h e =
      ap (λ o. both (first_of o (if same_text (f s) (codes ",") then both (joined_by one (renamed f l)) (joined_by one (renamed f r)) else None)) (left ts)) e
      ∙ ap (λ (b : Bool). both (if b then both (joined_by one (renamed f l)) (joined_by one (renamed f r)) else None) (left ts)) (and_right (nat_eq 2 2) (same_text (f s) (codes ",")) h)
      ∙ both-assoc (joined_by one (renamed f l)) (joined_by one (renamed f r)) (left ts)
  comma_at s (cons l (cons r (cons u us))) ts h e = let wrong : suc (suc (suc (count us))) ≡ 2 = two (suc (suc (suc (count us)))) (same_text (f s) (codes ",")) h in absurd (omega arith)

  pub comma_left : (ts : Trees ℕ) → is_functor f (codes ",") 2 ts ≡ true → at ts ≡ None → left ts ≡ left (entered ts)
  comma_left nil h e = absurd (cc)
  comma_left (cons (var n) ts) h e = absurd (cc)
  comma_left (cons (int z) ts) h e = absurd (cc)
  comma_left (cons (atom s) ts) h e = absurd (cc)
  comma_left (cons (comp s us) ts) h e = comma_at s us ts h e

  -- what no comma joins is one
  alone : (s : ℕ) (us : Trees ℕ) → nat_eq (count us) 2 && same_text (f s) (codes ",") ≡ false → one (renamed f (comp s us)) ≡ None → joined_by one (renamed f (comp s us)) ≡ None
  alone s nil h e = e
  alone s (cons l nil) h e = e
  alone s (cons l (cons r nil)) h e =
      ap (λ o. first_of o (if same_text (f s) (codes ",") then both (joined_by one (renamed f l)) (joined_by one (renamed f r)) else None)) e
      ∙ ap (λ (b : Bool). if b then both (joined_by one (renamed f l)) (joined_by one (renamed f r)) else None) h
  alone s (cons l (cons r (cons u us))) h e = e

  pub none_joined : (ts : Trees ℕ) → 0 < count ts → is_functor f (codes ",") 2 ts ≡ false → at ts ≡ None → joined_by one (renamed f (first ts)) ≡ None
  none_joined nil some h e = absurd (omega arith)
  none_joined (cons (var n) ts) some h e = e
  none_joined (cons (int z) ts) some h e = e
  none_joined (cons (atom s) ts) some h e = e
  none_joined (cons (comp s us) ts) some h e = alone s us h e

  pub none_left : (ts : Trees ℕ) → 0 < count ts → is_functor f (codes ",") 2 ts ≡ false → at ts ≡ None → left ts ≡ None
  none_left nil some h e = absurd (omega arith)
  none_left (cons t ts) some h e = ap (λ o. both o (left ts)) (none_joined (cons t ts) some h e)

  -- proper lists
  abbrev pub listed : Trees ℕ → Option (List B)
  listed ts = listed_by one (renamed f (first ts))

  pub all_by-cons : (t : Tree Text) (o : Option (List (Tree Text))) → option_and_then (all_by one) (option_map (λ ts. t ∷ ts) o) ≡ both (one t) (option_and_then (all_by one) o)
  all_by-cons t None = sym (both-none (one t))
  all_by-cons t (Some ts) = refl

  cell_at : (s : ℕ) (us ts : Trees ℕ) → nat_eq (count us) 2 && same_text (f s) (codes ".") ≡ true → listed (cons (comp s us) ts) ≡ both (at (entered (cons (comp s us) ts))) (listed (back 1 (entered (cons (comp s us) ts))))
  cell_at s nil ts h = absurd (cc)
  cell_at s (cons l nil) ts h = absurd (cc)
  cell_at s (cons l (cons r nil)) ts h =
      ap (λ (b : Bool). option_and_then (all_by one) (if b then option_map (λ ts. renamed f l ∷ ts) (items_in (renamed f r)) else None)) (and_right (nat_eq 2 2) (same_text (f s) (codes ".")) h)
      ∙ all_by-cons (renamed f l) (items_in (renamed f r))
  cell_at s (cons l (cons r (cons u us))) ts h = let wrong : suc (suc (suc (count us))) ≡ 2 = two (suc (suc (suc (count us)))) (same_text (f s) (codes ".")) h in absurd (omega arith)

  pub cell_listed : (ts : Trees ℕ) → is_functor f (codes ".") 2 ts ≡ true → listed ts ≡ both (at (entered ts)) (listed (back 1 (entered ts)))
  cell_listed nil h = absurd (cc)
  cell_listed (cons (var n) ts) h = absurd (cc)
  cell_listed (cons (int z) ts) h = absurd (cc)
  cell_listed (cons (atom s) ts) h = absurd (cc)
  cell_listed (cons (comp s us) ts) h = cell_at s us ts h

  no_cell : (s : ℕ) (us ts : Trees ℕ) → nat_eq (count us) 2 && same_text (f s) (codes ".") ≡ false → listed (cons (comp s us) ts) ≡ None
  no_cell s nil ts h = refl
  no_cell s (cons l nil) ts h = refl
  no_cell s (cons l (cons r nil)) ts h = ap (λ (b : Bool). option_and_then (all_by one) (if b then option_map (λ ts. renamed f l ∷ ts) (items_in (renamed f r)) else None)) h
  no_cell s (cons l (cons r (cons u us))) ts h = refl

  end_at : (b : Bool) → option_and_then (all_by one) (if b then Some [] else None) ≡ (if b then Some [] else None)
  end_at true = refl
  end_at false = refl

  -- at its end
  pub end_listed : (ts : Trees ℕ) → is_functor f (codes ".") 2 ts ≡ false → listed ts ≡ (if is_end f (first_cell ts) then Some [] else None)
  end_listed nil h = refl
  end_listed (cons (var n) ts) h = refl
  end_listed (cons (int z) ts) h = refl
  end_listed (cons (atom s) ts) h = end_at (same_text (f s) (codes "[]"))
  end_listed (cons (comp s us) ts) h = no_cell s us ts h

  pub some_cell : (ts : Trees ℕ) → is_functor f (codes ".") 2 ts ≡ true → 0 < count (entered ts)
  some_cell nil h = absurd (cc)
  some_cell (cons (var n) ts) h = absurd (cc)
  some_cell (cons (int z) ts) h = absurd (cc)
  some_cell (cons (atom s) ts) h = absurd (cc)
  some_cell (cons (comp s nil) ts) h = absurd (cc)
  some_cell (cons (comp s (cons l us)) ts) h = omega arith

  -- one or several
  comma_listed : (s : ℕ) (us : Trees ℕ) → nat_eq (count us) 2 && same_text (f s) (codes ",") ≡ true → listed_by one (renamed f (comp s us)) ≡ None
  comma_listed s nil h = refl
  comma_listed s (cons l nil) h = refl
  comma_listed s (cons l (cons r nil)) h =
      let comma : f s ≡ codes "," = same_text-is (f s) (codes ",") (and_right (nat_eq 2 2) (same_text (f s) (codes ",")) h) in
      ap (λ t. option_and_then (all_by one) (if same_text t (codes ".") then option_map (λ ts. renamed f l ∷ ts) (items_in (renamed f r)) else None)) comma
  comma_listed s (cons l (cons r (cons u us))) h = refl

  pub several-one : (ts : Trees ℕ) (xs : List B) → at ts ≡ Some xs → several_by one (renamed f (first ts)) ≡ Some xs
  several-one ts xs e = ap (λ o. first_of o (first_of (listed ts) (joined_by one (renamed f (first ts))))) e

  pub several-joined : (ts : Trees ℕ) → is_functor f (codes ",") 2 ts ≡ true → at ts ≡ None → several_by one (renamed f (first ts)) ≡ joined_by one (renamed f (first ts))
  several-joined nil h e = absurd (cc)
  several-joined (cons (var n) ts) h e = absurd (cc)
  several-joined (cons (int z) ts) h e = absurd (cc)
  several-joined (cons (atom s) ts) h e = absurd (cc)
  several-joined (cons (comp s us) ts) h e =
      ap (λ o. first_of o (first_of (listed (cons (comp s us) ts)) (joined_by one (renamed f (comp s us))))) e
      ∙ ap (λ o. first_of o (joined_by one (renamed f (comp s us)))) (comma_listed s us h)

  first_of-none : (o : Option (List B)) → first_of o None ≡ o
  first_of-none None = refl
  first_of-none (Some xs) = refl

  pub several-listed : (ts : Trees ℕ) → 0 < count ts → is_functor f (codes ",") 2 ts ≡ false → at ts ≡ None → several_by one (renamed f (first ts)) ≡ listed ts
  several-listed ts some h e =
      ap (λ o. first_of o (first_of (listed ts) (joined_by one (renamed f (first ts))))) e
      ∙ ap (first_of (listed ts)) (none_joined ts some h e)
      ∙ first_of-none (listed ts)

  -- a single tree
  pub left-one : (ts : Trees ℕ) → count ts ≡ 1 → left ts ≡ joined_by one (renamed f (first ts))
  left-one nil h = absurd (omega arith)
  left-one (cons t nil) h = whole (joined_by one (renamed f t))
    where
      append-empty : (xs : List B) → xs ++ [] ≡ xs
      append-empty [] = refl
      append-empty (x ∷ xs) = ap (λ ys. x ∷ ys) (append-empty xs)

      whole : (o : Option (List B)) → both o (Some []) ≡ o
      whole None = refl
      whole (Some xs) = ap Some (append-empty xs)
  left-one (cons t (cons u us)) h = absurd (omega arith)

-- the lists of several things, put together
module _ {A B : Type 0} (g : A → List B) (one : Tree Text → Option A) where
  abbrev pub each : Tree Text → Option (List B)
  each t = option_map g (one t)

  single-map : (o : Option A) → option_map (flat_map g) (single o) ≡ option_map g o
  single-map None = refl
  single-map (Some a) = ap Some (append-empty (g a))
    where
      append-empty : (xs : List B) → xs ++ [] ≡ xs
      append-empty [] = refl
      append-empty (x ∷ xs) = ap (λ ys. x ∷ ys) (append-empty xs)

  both-map : (o p : Option (List A)) → option_map (flat_map g) (both o p) ≡ both (option_map (flat_map g) o) (option_map (flat_map g) p)
  both-map None p = refl
  both-map (Some xs) None = refl
  both-map (Some xs) (Some ys) = ap Some (flat_map-append g xs ys)

  first_of-map : (o p : Option (List A)) → option_map (flat_map g) (first_of o p) ≡ first_of (option_map (flat_map g) o) (option_map (flat_map g) p)
  first_of-map None p = refl
  first_of-map (Some xs) p = refl

  if-map : (b : Bool) (o p : Option (List A)) → option_map (flat_map g) (if b then both o p else None) ≡ (if b then both (option_map (flat_map g) o) (option_map (flat_map g) p) else None)
  if-map true o p = both-map o p
  if-map false o p = refl

  joined-map : (t : Tree Text) → option_map (flat_map g) (joined one t) ≡ joined_by each t
  joined-map (var n) = single-map (one (var n))
  joined-map (int z) = single-map (one (int z))
  joined-map (atom s) = single-map (one (atom s))
  joined-map (comp s nil) = single-map (one (comp s nil))
  joined-map (comp s (cons l nil)) = single-map (one (comp s (cons l nil)))
  joined-map (comp s (cons l (cons r nil))) =
      first_of-map (single (one (comp s (cons l (cons r nil))))) (if same_text s (codes ",") then both (joined one l) (joined one r) else None)
      ∙ ap (λ o. first_of o (option_map (flat_map g) (if same_text s (codes ",") then both (joined one l) (joined one r) else None))) (single-map (one (comp s (cons l (cons r nil)))))
      ∙ ap (first_of (each (comp s (cons l (cons r nil))))) (if-map (same_text s (codes ",")) (joined one l) (joined one r))
      ∙ ap (λ o. first_of (each (comp s (cons l (cons r nil)))) (if same_text s (codes ",") then both o (option_map (flat_map g) (joined one r)) else None)) (joined-map l)
      ∙ ap (λ o. first_of (each (comp s (cons l (cons r nil)))) (if same_text s (codes ",") then both (joined_by each l) o else None)) (joined-map r)
  joined-map (comp s (cons l (cons r (cons u us)))) = single-map (one (comp s (cons l (cons r (cons u us)))))

  all-map : (ts : List (Tree Text)) → option_map (flat_map g) (all_of one ts) ≡ all_by each ts
  all-map [] = refl
  all-map (t ∷ ts) =
      both-map (single (one t)) (all_of one ts)
      ∙ ap (λ o. both o (option_map (flat_map g) (all_of one ts))) (single-map (one t))
      ∙ ap (both (each t)) (all-map ts)

  listed-map : (o : Option (List (Tree Text))) → option_map (flat_map g) (option_and_then (all_of one) o) ≡ option_and_then (all_by each) o
  listed-map None = refl
  listed-map (Some ts) = all-map ts

  pub several-map : (t : Tree Text) → option_map (flat_map g) (several one t) ≡ several_by each t
  several-map t =
      first_of-map (single (one t)) (first_of (option_and_then (all_of one) (items_in t)) (joined one t))
      ∙ ap (λ o. first_of o (option_map (flat_map g) (first_of (option_and_then (all_of one) (items_in t)) (joined one t)))) (single-map (one t))
      ∙ ap (first_of (each t)) (first_of-map (option_and_then (all_of one) (items_in t)) (joined one t))
      ∙ ap (λ o. first_of (each t) (first_of o (option_map (flat_map g) (joined one t)))) (listed-map (items_in t))
      ∙ ap (λ o. first_of (each t) (first_of (listed_by each t) o)) (joined-map t)

-- and under a map of their elements
module _ {B C : Type 0} (h : List B → List C) (empty : h [] ≡ []) (more : (xs ys : List B) → h (xs ++ ys) ≡ h xs ++ h ys) (one : Tree Text → Option (List B)) where
  abbrev pub under : Tree Text → Option (List C)
  under t = option_map h (one t)

  both-under : (o p : Option (List B)) → option_map h (both o p) ≡ both (option_map h o) (option_map h p)
  both-under None p = refl
  both-under (Some xs) None = refl
  both-under (Some xs) (Some ys) = ap Some (more xs ys)

  first_of-under : (o p : Option (List B)) → option_map h (first_of o p) ≡ first_of (option_map h o) (option_map h p)
  first_of-under None p = refl
  first_of-under (Some xs) p = refl

  if-under : (b : Bool) (o p : Option (List B)) → option_map h (if b then both o p else None) ≡ (if b then both (option_map h o) (option_map h p) else None)
  if-under true o p = both-under o p
  if-under false o p = refl

  joined-under : (t : Tree Text) → option_map h (joined_by one t) ≡ joined_by under t
  joined-under (var n) = refl
  joined-under (int z) = refl
  joined-under (atom s) = refl
  joined-under (comp s nil) = refl
  joined-under (comp s (cons l nil)) = refl
  joined-under (comp s (cons l (cons r nil))) =
      first_of-under (one (comp s (cons l (cons r nil)))) (if same_text s (codes ",") then both (joined_by one l) (joined_by one r) else None)
      ∙ ap (first_of (under (comp s (cons l (cons r nil))))) (if-under (same_text s (codes ",")) (joined_by one l) (joined_by one r))
      ∙ ap (λ o. first_of (under (comp s (cons l (cons r nil)))) (if same_text s (codes ",") then both o (option_map h (joined_by one r)) else None)) (joined-under l)
      ∙ ap (λ o. first_of (under (comp s (cons l (cons r nil)))) (if same_text s (codes ",") then both (joined_by under l) o else None)) (joined-under r)
  joined-under (comp s (cons l (cons r (cons u us)))) = refl

  all-under : (ts : List (Tree Text)) → option_map h (all_by one ts) ≡ all_by under ts
  all-under [] = ap Some empty
  all-under (t ∷ ts) = both-under (one t) (all_by one ts) ∙ ap (both (under t)) (all-under ts)

  listed-under : (o : Option (List (Tree Text))) → option_map h (option_and_then (all_by one) o) ≡ option_and_then (all_by under) o
  listed-under None = refl
  listed-under (Some ts) = all-under ts

  pub several-under : (t : Tree Text) → option_map h (several_by one t) ≡ several_by under t
  several-under t =
      first_of-under (one t) (first_of (listed_by one t) (joined_by one t))
      ∙ ap (first_of (under t)) (first_of-under (listed_by one t) (joined_by one t))
      ∙ ap (λ o. first_of (under t) (first_of o (option_map h (joined_by one t)))) (listed-under (items_in t))
      ∙ ap (λ o. first_of (under t) (first_of (listed_by under t) o)) (joined-under t)

-- names in a list, read one by one
pub all_of-singles : {A : Type 0} (one : Tree Text → Option A) (ts : List (Tree Text)) → all_of one ts ≡ all_by (λ t. single (one t)) ts
all_of-singles one [] = refl
all_of-singles one (t ∷ ts) = ap (both (single (one t))) (all_of-singles one ts)
