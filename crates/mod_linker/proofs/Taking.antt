-- Procedures and entries of a program that takes them, by what the code knows.
use Rattle.std.proofs.Common.{slice_index, arith, ◌≡◌, ℕ, ◌+◌, ◌<◌, ◌^◌, List, [], ◌∷◌, ◌++◌, length, take, get_or, map, fold, Bool, true, nat_eq, refl, sym, ap, subst, ◌∙◌, Option, Some, None}
use Rattle.std.specs.List.{AllByRecursion, cons_option}
use Rattle.std.specs.Map.{lookup}
use Rattle.std.proofs.lemmas.List.{map-append}
use Rattle.pl_terms.specs.Trees.{Tree, var, int, atom, comp, count, renamed}
use Rattle.unit_model.specs.Facts.{Indicator, What as WhatOf, clause, tree_names, what_names, what_by}
use Rattle.unit_model.specs.Encoding.{text_at}
use Rattle.unit_model.specs.Validity.{is_clause}
use Rattle.unit_model.specs.Views.{what_view}
use Rattle.unit_model.specs.declared.facts.What.{What}
use Rattle.unit_model.specs.declared.facts.What.TheVariants.{Export, ReexportAll, Reexport, Meta, Operator, ImportAll, Import, Clause}
use Rattle.unit_format.specs.Uses.{what_uses}
use Rattle.unit_format.proofs.Renaming.{AllBy-parts}
use Rattle.mod_visible.specs.Placing.{AllBelow}
use Rattle.goal_model.specs.Program.{Clause as ClauseOf}
use Rattle.pl_store.specs.Linked.{Linked, with_clause}
use Rattle.pl_store.specs.Rules.{IsExisting, HasArity, IsClauseOf}
use Rattle.pl_store.specs.Facts.{IsLinked}
use Rattle.program_model.specs.Saying.{Said, said_of, head_indicator, clause_in}
use Rattle.mod_faults.proofs.Units.{more_taken, AllBy-at}
use Rattle.mod_linker.specs.declared.items.Item.{Item}
use Rattle.mod_linker.specs.declared.key.Key.{Key}
use Rattle.mod_linker.specs.Items.{item_view, items_view, IsNarrow, IsItem, AreItems}
use Rattle.mod_linker.specs.Keys.{same_key, AreKnown}
use Rattle.mod_linker.specs.Counting.{with_one}
use Rattle.mod_linker.specs.Entering.{defined, same_numbers, defined_said, HaveArity, Provides, Takes}
use Rattle.mod_linker.proofs.Clausing.{clause_is}
use Rattle.mod_linker.proofs.Counting.{head-defined}
use Rattle.mod_linker.proofs.Growing.{enters-clause, enters-other}
use Rattle.mod_linker.proofs.Providing.{takes-more}

pub existing-kept : (l m : Linked) (n : ℕ) → m.names ≡ l.names → m.modules ≡ l.modules → IsExisting l n → IsExisting m n
existing-kept l m n names modules h =
    subst (λ (ns : List (List ℕ)). IsExisting (record m { names = ns }) n) (sym names)
    (subst (λ (ms : List ℕ). IsExisting (record m { names = l.names; modules = ms }) n) (sym modules) h)

pub arity-of : (table : List (Key × List Bool)) (k : Key) (modes : Option (List Bool)) → HaveArity table → modes ≡ lookup (same_key k) table → HasArity k.arity modes
arity-of table k None h e = tt
arity-of table k (Some ms) h e = h k ms (sym e)

-- ---- entries in turn

module _ (items : List Item) (k : ℕ) (x : Item) (xs : List (Said ℕ)) (table : List (Key × List Bool)) (l m : Linked) (known : List (Key × ℕ)) (lt : k < length items) (is : x ≡ get_or items k x) (t : Takes xs table l m known) where
  pub item-there : AreItems l.names items → IsItem m.names x
  item-there h = subst (λ (ns : List (List ℕ)). IsItem ns x) (sym t.keeps.names) (AllBy-at (IsItem l.names) items k x lt is h)

  pub home-there : AllByRecursion (λ y. IsExisting l y.home.0) items → IsExisting m x.home.0
  home-there h = existing-kept l m x.home.0 t.keeps.names t.keeps.modules (AllBy-at (λ (y : Item). IsExisting l y.home.0) items k x lt is h)

pub items-more : (items : List Item) (k : ℕ) (x : Item) (table : List (Key × List Bool)) (l m n : Linked) (known known' : List (Key × ℕ)) → k < length items → x ≡ get_or items k x
    → Takes (items_view (take k items)) table l m known → Takes (items_view (x ∷ [])) table m n known' → Takes (items_view (take (k + 1) items)) table l n known'
items-more items k x table l m n known known' lt is p q =
    subst (λ (xs : List (Said ℕ)). Takes xs table l n known') (sym (ap items_view (more_taken items k x lt is) ∙ map-append item_view (take k items) (x ∷ [])))
    (takes-more (items_view (take k items)) (items_view (x ∷ [])) table l m n known known' p q)

-- ---- one entry

pub takes-clause : (l m n : Linked) (linked : IsLinked m) (home : ℕ) (i : Indicator ℕ) (table : List (Key × List Bool)) (p : ℕ) (known : List (Key × ℕ)) (c : ClauseOf ℕ) → Provides home i table p l m known → head_indicator c.head ≡ Some i
    → n ≡ with_clause m (record { procedure = p; clause = c }) → Takes (said_of home (clause c.width c.head c.body) ∷ []) table l n known
takes-clause l m n linked home i table p known c q head grown =
    subst (λ (w : Linked). Takes (said_of home (clause c.width c.head c.body) ∷ []) table l w known) (sym grown) (record {
      keeps = record { names = q.keeps.names; modules = q.keeps.modules; rows = q.keeps.rows };
      known = q.known;
      procedures = q.procedures ∙ sym (ap (λ o. fold (with_one same_numbers) (map defined l.procedures) (cons_option o [])) (head-defined home c.head i head));
      enters = λ all done d h. enters-clause m linked p q.within c home q.home_is (head ∙ ap Some q.indicator) all done (q.enters all done d h);
    })

pub takes-other : (l : Linked) (x : Said ℕ) (table : List (Key × List Bool)) (known : List (Key × ℕ)) → AreKnown l known → ((d : ℕ) (i : Indicator ℕ) → clause_in nat_eq d i x.of x.what ≡ None) → defined_said x ≡ None → Takes (x ∷ []) table l l known
takes-other l x table known k none nothing = record {
  keeps = record { names = refl; modules = refl; rows = refl };
  known = k;
  procedures = sym (ap (λ o. fold (with_one same_numbers) (map defined l.procedures) (cons_option o [])) nothing);
  enters = λ all done d h. enters-other l all done x none h;
}

-- ---- a clause of an item

module _ (names : List (List ℕ)) (x : Item) (n : ℕ) (h b : Tree ℕ) (what : x.what.now ≡ Clause n h b) (item : IsItem names x) where
  abbrev f : ℕ → ℕ
  f = slice_index x.remap.now

  pub uses : AllBelow (length x.remap.now) (tree_names h) × AllBelow (length x.remap.now) (tree_names b)
  uses = AllBy-parts (λ (k : ℕ). k < length x.remap.now) (tree_names h) (tree_names b) (subst (λ (w : What). AllBelow (length x.remap.now) (what_uses w)) what item.uses)

  pub view : (item_view x).what ≡ clause n (renamed f h) (renamed f b)
  view = ap (λ (w : What). what_by f (what_view w)) what

  pub rules : is_clause (what_by (text_at names) (clause n (renamed f h) (renamed f b))) ≡ true
  rules = subst (λ (w : WhatOf ℕ). is_clause (what_by (text_at names) w) ≡ true) view item.rules

  pub below : AllBelow (length names) (tree_names (renamed f h) ++ tree_names (renamed f b))
  below = subst (λ (w : WhatOf ℕ). AllBelow (length names) (what_names w)) view item.below

  pub narrow : n < 2 ^ 32
  narrow = subst (λ (w : WhatOf ℕ). IsNarrow w) view item.narrow

  pub head-below : AllBelow (length names) (tree_names (renamed f h))
  head-below = (AllBy-parts (λ (k : ℕ). k < length names) (tree_names (renamed f h)) (tree_names (renamed f b)) below).0

name-below : (n s k : ℕ) (i : Indicator ℕ) → s < n → Some (record { name = s; arity = k }) ≡ Some i → i.name < n
name-below n s k i lt e = let same : s ≡ i.name = ap (λ (o : Option (Indicator ℕ)). elim o [ Some j ↦ j.name | None ↦ 0 ]) e in omega (arith, same, lt)

pub head-name : (n : ℕ) (h : Tree ℕ) (i : Indicator ℕ) → AllBelow n (tree_names h) → head_indicator h ≡ Some i → i.name < n
head-name n (var v) i a e = absurd cc
head-name n (int z) i a e = absurd cc
head-name n (atom s) i a e = name-below n s 0 i a.0 e
head-name n (comp s ts) i a e = name-below n s (count ts) i a.0 e

-- ---- what wasn't matched

pub not-there : (o : Option ℕ) → ((n : ℕ) → o ≡ Some n → ⊥) → o ≡ None
not-there None h = refl
not-there (Some n) h = absurd (h n refl)

pub no-clause : (x : Item) → ((n : ℕ) (h b : Tree ℕ) → x.what.now ≡ Clause n h b → ⊥) → (d : ℕ) (i : Indicator ℕ) → clause_in nat_eq d i (item_view x).of (item_view x).what ≡ None
no-clause x h d i = by x.what.now refl
  where
    by : (w : What) → x.what.now ≡ w → clause_in nat_eq d i x.home.0 (what_by (slice_index x.remap.now) (what_view w)) ≡ None
    by (Export j) e = refl
    by (ReexportAll m) e = refl
    by (Reexport m j) e = refl
    by (Meta s ms) e = refl
    by (Operator o) e = refl
    by (ImportAll m) e = refl
    by (Import m j) e = refl
    by (Clause n t u) e = absurd (h n t u e)

pub no-procedure : (x : Item) → ((n : ℕ) (h b : Tree ℕ) → x.what.now ≡ Clause n h b → ⊥) → defined_said (item_view x) ≡ None
no-procedure x h = by x.what.now refl
  where
    by : (w : What) → x.what.now ≡ w → defined_said (said_of x.home.0 (what_by (slice_index x.remap.now) (what_view w))) ≡ None
    by (Export j) e = refl
    by (ReexportAll m) e = refl
    by (Reexport m j) e = refl
    by (Meta s ms) e = refl
    by (Operator o) e = refl
    by (ImportAll m) e = refl
    by (Import m j) e = refl
    by (Clause n t u) e = absurd (h n t u e)

-- ---- a clause that its procedure takes

pub clause-taken : (l m : Linked) (x : Item) (n : ℕ) (h b : Tree ℕ) (what : x.what.now ≡ Clause n h b) (item : IsItem l.names x) (h' b' : Tree ℕ) → h' ≡ renamed (slice_index x.remap.now) h → b' ≡ renamed (slice_index x.remap.now) b
    → (home : ℕ) (i : Indicator ℕ) (table : List (Key × List Bool)) (p : ℕ) (known : List (Key × ℕ)) → head_indicator h' ≡ Some i → Provides home i table p l m known → IsClauseOf m p (record { width = n; head = h'; body = b' })
clause-taken l m x n h b what item h' b' hs bs home i table p known head q =
    let g = slice_index x.remap.now in
    let first = subst (λ (t : Tree ℕ). head_indicator t ≡ Some i) hs head in
    subst (λ (t : Tree ℕ). IsClauseOf m p (record { width = n; head = t; body = b' })) (sym hs)
    (subst (λ (t : Tree ℕ). IsClauseOf m p (record { width = n; head = renamed g h; body = t })) (sym bs)
    (clause_is l.names n (renamed g h) (renamed g b) (rules l.names x n h b what item) m p i q.keeps.names (below l.names x n h b what item) (narrow l.names x n h b what item) first q.indicator))
