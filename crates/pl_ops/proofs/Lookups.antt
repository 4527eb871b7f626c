-- What a table with one entry for each name declares.
use Rattle.std.proofs.Common.{◌≡◌, ℕ, zero, suc, ◌<◌, Bool, true, false, cond, ◌&&◌, List, [], ◌∷◌, ◌++◌, Option, None, Some, IfSome, Vec, Global, slice_get, refl, sym, ap, subst, ◌∙◌, if◌then◌else◌, arith, is_some, length, ◌≤◌, get_or, position, ◌⊎◌, inl, inr}
use Rattle.std.specs.List.{IsDistinct, AllByRecursion}
use Rattle.std.specs.Map.{keys_of, lookup, KeepsOthers}
use Rattle.std.specs.Cmp.{IsEquivalence, on_equiv}
use Rattle.std.specs.Cmp.Lexicographic.{nat_list_eq_equiv}
use Rattle.std.specs.HashMap.{Updates}
use Rattle.std.proofs.lemmas.Bool.{and_right, and_from, false≢true, false_from_ne_true, ne_eqb, eq-eqb, cases_Bool}
use Rattle.std.proofs.lemmas.List.{length-map, get_or-map}
use Rattle.std.proofs.lemmas.List.Quantifiers.{position-Some}
use Rattle.std.proofs.lemmas.Option.{slice_get_cases}
use Rattle.std.proofs.Math.Path.{fun_ext}
use Rattle.indexmap.proofs.CallerLemmas.{keys-with_value_at, updates-with_value_at}
use Rattle.std.proofs.lemmas.Slice.Eq.{bytes_eq-Decides}
use Rattle.indexmap.specs.IndexMap.{IndexMap, insert_entry, set_value_at, with_value_at}
use Rattle.pl_ops.specs.Tables.{Class, prefix_class, infix_class, postfix_class, class_of, same_class, same_text, Declaration, is_for, later_or, last_declared, unless_zero, operator}
use Rattle.pl_ops.specs.Entries.{slot, IsOf, AreSlots, Entry, declared_as, declarations_of, declarations, AllSlots, AreEntries}
use Rattle.pl_ops.specs.declared.op.Op.{Op as Operator}
use Rattle.pl_ops.specs.declared.slots.Slots.{Slots}

-- declarations one after another
later_or-none : (o : Option Operator) → later_or None o ≡ o
later_or-none None = refl
later_or-none (Some o) = refl

later_or-assoc : (o p q : Option Operator) → later_or o (later_or p q) ≡ later_or (later_or o p) q
later_or-assoc o p None = refl
later_or-assoc o p (Some q) = refl

module _ (c : Class) (name : List ℕ) where
  pub last_declared-append : (ds es : List Declaration) → last_declared c name (ds ++ es) ≡ later_or (last_declared c name ds) (last_declared c name es)
  last_declared-append [] es = sym (later_or-none (last_declared c name es))
  last_declared-append (d ∷ ds) es =
      ap (later_or (if is_for c name d then Some d.op else None)) (last_declared-append ds es)
      ∙ later_or-assoc (if is_for c name d then Some d.op else None) (last_declared c name ds) (last_declared c name es)

  -- the one that is declared last is found where it is for the name
  found_last : (b : Bool) (o : Operator) (before : Option Operator) → unless_zero (later_or before (if b then Some o else None)) ≡ (if b then unless_zero (Some o) else unless_zero before)
  found_last true o before = refl
  found_last false o before = refl

  pub operator-push : (ds : List Declaration) (d : Declaration) → operator (ds ++ d ∷ []) c name ≡ (if is_for c name d then unless_zero (Some d.op) else operator ds c name)
  operator-push ds d = ap unless_zero (last_declared-append ds (d ∷ [])) ∙ found_last (is_for c name d) d.op (last_declared c name ds)

-- the declarations of one name
same_text-flip : (s t : List ℕ) → same_text s t ≡ same_text t s
same_text-flip = nat_list_eq_equiv.symm

none_chosen : (b : Bool) → ◌≡◌ {A = Option Operator} (if b then None else None) None
none_chosen true = refl
none_chosen false = refl

module _ (c : Class) (name key : List ℕ) where
  last_declared-as : (k : Class) (o : Option Operator) → IfSome o (IsOf k) → last_declared c name (declared_as key o) ≡ (if same_class k c && same_text key name then o else None)
  last_declared-as k None h = sym (none_chosen (same_class k c && same_text key name))
  last_declared-as k (Some o) h = ap (λ l. if same_class l c && same_text key name then Some o else None) h.class

chosen : (c : Class) (b : Bool) (s : Slots) → later_or (if same_class prefix_class c && b then s.as_prefix else None) (later_or (if same_class infix_class c && b then s.as_infix else None) (if same_class postfix_class c && b then s.as_postfix else None)) ≡ (if b then slot c s else None)
chosen prefix_class b s = refl
chosen infix_class b s = later_or-none (if b then s.as_infix else None)
chosen postfix_class b s = later_or-none (later_or None (if b then s.as_postfix else None)) ∙ later_or-none (if b then s.as_postfix else None)

last_declared-of : (c : Class) (name key : List ℕ) (s : Slots) → AreSlots s → last_declared c name (declarations_of key s) ≡ (if same_text key name then slot c s else None)
last_declared-of c name key s are =
    last_declared-append c name (declared_as key s.as_prefix) (declared_as key s.as_infix ++ declared_as key s.as_postfix)
    ∙ ap (later_or (last_declared c name (declared_as key s.as_prefix))) (last_declared-append c name (declared_as key s.as_infix) (declared_as key s.as_postfix))
    ∙ ap (λ o. later_or o (later_or (last_declared c name (declared_as key s.as_infix)) (last_declared c name (declared_as key s.as_postfix)))) (last_declared-as c name key prefix_class s.as_prefix (are prefix_class))
    ∙ ap (λ o. later_or (if same_class prefix_class c && same_text key name then s.as_prefix else None) (later_or o (last_declared c name (declared_as key s.as_postfix)))) (last_declared-as c name key infix_class s.as_infix (are infix_class))
    ∙ ap (λ o. later_or (if same_class prefix_class c && same_text key name then s.as_prefix else None) (later_or (if same_class infix_class c && same_text key name then s.as_infix else None) o)) (last_declared-as c name key postfix_class s.as_postfix (are postfix_class))
    ∙ chosen c (same_text key name) s

-- a look-up among the entries
abbrev pub Key : Type 0
Key = Vec ℕ Global

abbrev pub same_key : Key → Key → Bool
same_key k l = same_text k.items l.items

abbrev pub for_name : List ℕ → Key → Bool
for_name name key = same_text name key.items

abbrev pub of_slots : Class → Option Slots → Option Operator
of_slots c None = None
of_slots c (Some s) = slot c s

lookup-none : (name : List ℕ) (k : Key) (es : List Entry) → for_name name k ≡ true → AllByRecursion (λ l. same_key k l ≡ false) (keys_of es) → lookup (for_name name) es ≡ None
lookup-none name k [] same apart = refl
lookup-none name k (e ∷ es) same apart =
    ap (λ b. cond b (Some e.1) (lookup (for_name name) es)) (nat_list_eq_equiv.congr name k.items e.0.items same ∙ apart.0)
    ∙ lookup-none name k es same apart.1

distinct_head : (k : Key) (ks : List Key) → IsDistinct same_key (k ∷ ks) → AllByRecursion (λ l. same_key k l ≡ false) ks
unfolding IsDistinct
distinct_head k ks h = h.0

distinct_tail : (k : Key) (ks : List Key) → IsDistinct same_key (k ∷ ks) → IsDistinct same_key ks
unfolding IsDistinct
distinct_tail k ks h = h.1

pub last_declared-declarations : (c : Class) (name : List ℕ) (es : List Entry) → IsDistinct same_key (keys_of es) → AllSlots es → last_declared c name (declarations es) ≡ of_slots c (lookup (for_name name) es)
last_declared-declarations c name [] distinct slots = refl
last_declared-declarations c name (e ∷ es) distinct slots =
    last_declared-append c name (declarations_of e.0.items e.1) (declarations es)
    ∙ ap (λ o. later_or o (last_declared c name (declarations es))) (last_declared-of c name e.0.items e.1 slots.0 ∙ ap (λ b. if b then slot c e.1 else None) (same_text-flip e.0.items name))
    ∙ ap (later_or (if for_name name e.0 then slot c e.1 else None)) (last_declared-declarations c name es (distinct_tail e.0 (keys_of es) distinct) slots.1)
    ∙ by (for_name name e.0) refl
  where
    by : (b : Bool) → for_name name e.0 ≡ b → later_or (if for_name name e.0 then slot c e.1 else None) (of_slots c (lookup (for_name name) es)) ≡ of_slots c (cond (for_name name e.0) (Some e.1) (lookup (for_name name) es))
    by true h =
        ap (λ b. later_or (if b then slot c e.1 else None) (of_slots c (lookup (for_name name) es))) h
        ∙ ap (λ o. later_or (slot c e.1) (of_slots c o)) (lookup-none name e.0 es h (distinct_head e.0 (keys_of es) distinct))
        ∙ ap (λ b. of_slots c (cond b (Some e.1) (lookup (for_name name) es))) (sym h)
    by false h =
        ap (λ b. later_or (if b then slot c e.1 else None) (of_slots c (lookup (for_name name) es))) h
        ∙ later_or-none (of_slots c (lookup (for_name name) es))
        ∙ ap (λ b. of_slots c (cond b (Some e.1) (lookup (for_name name) es))) (sym h)

either : (b : Bool) (o p : Option Slots) → IfSome o AreSlots → IfSome p AreSlots → IfSome (cond b o p) AreSlots
either true o p h k = h
either false o p h k = k

pub lookup-AreSlots : (test : Key → Bool) (es : List Entry) → AllSlots es → IfSome (lookup test es) AreSlots
lookup-AreSlots test [] h = tt
lookup-AreSlots test (e ∷ es) h = either (test e.0) (Some e.1) (lookup test es) h.0 (lookup-AreSlots test es h.1)

unless_zero-above : (c : Class) (o : Option Operator) → IfSome o (IsOf c) → unless_zero o ≡ o
unless_zero-above c None h = refl
unless_zero-above c (Some o) h = ap (λ b. if b then None else Some o) (ne_eqb o.priority 0 (λ e. let above = h.above in omega arith))

of_slots-above : (c : Class) (o : Option Slots) → IfSome o AreSlots → unless_zero (of_slots c o) ≡ of_slots c o
of_slots-above c None h = refl
of_slots-above c (Some s) h = unless_zero-above c (slot c s) (h c)

pub operator-declarations : (es : List Entry) → AreEntries es → (c : Class) (name : List ℕ) → operator (declarations es) c name ≡ of_slots c (lookup (for_name name) es)
operator-declarations es are c name =
    ap unless_zero (last_declared-declarations c name es are.distinct are.slots)
    ∙ of_slots-above c (lookup (for_name name) es) (lookup-AreSlots (for_name name) es are.slots)

pub slot-none : (c : Class) → slot c (record { as_prefix = None; as_infix = None; as_postfix = None }) ≡ None
slot-none prefix_class = refl
slot-none infix_class = refl
slot-none postfix_class = refl

-- the entries after one is put in
module _ {S : Type 0} (old new : IndexMap Key Slots S) (k : Key) (s : Slots) (step : Updates same_key old new k (Some s)) (name : List ℕ) where
  here : (same_text name k.items ≡ true) → lookup (for_name name) new.entries ≡ Some s
  here e = ap (λ n. lookup (for_name n) new.entries) ((bytes_eq-Decides name k.items).0 e) ∙ step.1

  elsewhere : (same_text name k.items ≡ false) → lookup (for_name name) new.entries ≡ lookup (for_name name) old.entries
  unfolding KeepsOthers
  elsewhere e = step.3 (for_name name) (λ x y. nat_list_eq_equiv.congr name x.items y.items) (λ x h. false_from_ne_true _ (λ g.
      false≢true (sym e ∙ same_text-flip name k.items ∙ nat_list_eq_equiv.congr k.items x.items name h ∙ same_text-flip x.items name ∙ g)))

  pub lookup-Updates : lookup (for_name name) new.entries ≡ (if same_text name k.items then Some s else lookup (for_name name) old.entries)
  lookup-Updates = by (same_text name k.items) refl
    where
      by : (b : Bool) → same_text name k.items ≡ b → lookup (for_name name) new.entries ≡ (if same_text name k.items then Some s else lookup (for_name name) old.entries)
      by true e = here e ∙ ap (λ b. if b then Some s else lookup (for_name name) old.entries) (sym e)
      by false e = elsewhere e ∙ ap (λ b. if b then Some s else lookup (for_name name) old.entries) (sym e)

chosen_slots : (b : Bool) (es fs : List Entry) → AllSlots es → AllSlots fs → AllSlots (if b then es else fs)
chosen_slots true es fs h k = h
chosen_slots false es fs h k = k

pub AllSlots-insert_entry : (es : List Entry) (k : Key) (s : Slots) → AllSlots es → AreSlots s → AllSlots (insert_entry same_key es k s)
AllSlots-insert_entry [] k s h are = (are, tt)
AllSlots-insert_entry (e ∷ es) k s h are = chosen_slots (same_key k e.0) ((e.0, s) ∷ es) (e ∷ insert_entry same_key es k s) (are, h.1) (h.0, AllSlots-insert_entry es k s h.1 are)

AllSlots-set_value_at : (es : List Entry) (i : ℕ) (s : Slots) → AllSlots es → AreSlots s → AllSlots (set_value_at es i s)
AllSlots-set_value_at [] i s h are = h
AllSlots-set_value_at (e ∷ es) zero s h are = (are, h.1)
AllSlots-set_value_at (e ∷ es) (suc i) s h are = (h.0, AllSlots-set_value_at es i s h.1 are)

pub AreEntries-set_value_at : {S : Type 0} (m : IndexMap Key Slots S) (i : ℕ) (s : Slots) → AreEntries m.entries → AreSlots s → AreEntries (set_value_at m.entries i s)
AreEntries-set_value_at m i s are slots = record {
  distinct = subst (IsDistinct same_key) (sym (keys-with_value_at m i s)) are.distinct;
  slots = AllSlots-set_value_at m.entries i s are.slots slots;
}

-- the entry at the place of a name
named_at : (name : List ℕ) (es : List Entry) (i : ℕ) → position (for_name name) (keys_of es) ≡ Some i → (slice_get es i ≡ slice_get es i) × (((e : Entry) × (i < length es) × (slice_get es i ≡ Some e) × (get_or es i e ≡ e)) ⊎ ((length es ≤ i) × (slice_get es i ≡ None))) → (e : Entry) × (slice_get es i ≡ Some e) × (name ≡ e.0.items)
named_at name es i at (same, inl h) =
    let e = h.0 in
    let passes : for_name name e.0 ≡ true =
    ap (for_name name) (sym (get_or-map (λ (f : Entry). f.0) es i e e.0 h.1 ∙ ap (λ (f : Entry). f.0) h.3)) ∙ (position-Some (for_name name) (keys_of es) i e.0 at).1 in
    (e, h.2, (bytes_eq-Decides name e.0.items).0 passes)
named_at name [] i at (same, inr h) = absurd (cc)
named_at name (e ∷ es) i at (same, inr h) =
    let within = (position-Some (for_name name) (keys_of (e ∷ es)) i e.0 at).0 in
    absurd (omega (arith, length-map (e ∷ es) (λ (f : Entry). f.0)))

entry_at : (name : List ℕ) (es : List Entry) (i : ℕ) → position (for_name name) (keys_of es) ≡ Some i → (e : Entry) × (slice_get es i ≡ Some e) × (name ≡ e.0.items)
entry_at name es i at = named_at name es i at (slice_get_cases es i)

same_key_laws : IsEquivalence same_key
same_key_laws = on_equiv (λ (k : Key). k.items) nat_list_eq_equiv

pub no_slots : (o : Option Slots) → is_some o ≡ false → o ≡ None
no_slots None h = refl
no_slots (Some s) h = absurd (cc)

-- a look-up where the entry at the place of a name has changed
pub lookup-set_value_at : {S : Type 0} (m : IndexMap Key Slots S) (name : List ℕ) (i : ℕ) (s : Slots) → AreEntries m.entries → position (for_name name) (keys_of m.entries) ≡ Some i → (n : List ℕ) → lookup (for_name n) (set_value_at m.entries i s) ≡ (if same_text n name then Some s else lookup (for_name n) m.entries)
lookup-set_value_at m name i s are at n =
    let found = entry_at name m.entries i at in
    lookup-Updates m (with_value_at m i s) found.0.0 s (updates-with_value_at m i s same_key_laws are.distinct found.0.0 found.0.1 found.1) n
    ∙ ap (λ k. if same_text n k then Some s else lookup (for_name n) m.entries) (sym found.2)

pub of_slots-if : (c : Class) (b : Bool) (s : Slots) (o : Option Slots) → of_slots c (if b then Some s else o) ≡ (if b then slot c s else of_slots c o)
of_slots-if c true s o = refl
of_slots-if c false s o = refl

and-true : (b : Bool) → (b && true) ≡ b
and-true true = refl
and-true false = refl

-- a declaration put in
module _ (es new : List Entry) (are : AreEntries es) (after : AreEntries new) (op : Operator) (name : List ℕ) (s t : Slots)
    (was : (c : Class) → of_slots c (lookup (for_name name) es) ≡ slot c s)
    (now : (c : Class) (n : List ℕ) → of_slots c (lookup (for_name n) new) ≡ (if same_text n name then slot c t else of_slots c (lookup (for_name n) es)))
    (put : (c : Class) → slot c t ≡ (if same_class (class_of op.kind) c then unless_zero (Some op) else slot c s)) where
  abbrev d : Declaration
  d = record { op = op; name = name }

  this_name : (c : Class) (n : List ℕ) → same_text n name ≡ true → operator (declarations new) c n ≡ operator (declarations es ++ d ∷ []) c n
  this_name c n e =
      let same : n ≡ name = (bytes_eq-Decides n name).0 e in
      operator-declarations new after c n
      ∙ now c n
      ∙ ap (λ b. if b then slot c t else of_slots c (lookup (for_name n) es)) e
      ∙ put c
      ∙ ap (λ o. if same_class (class_of op.kind) c then unless_zero (Some op) else o) (sym (was c) ∙ ap (λ m. of_slots c (lookup (for_name m) es)) (sym same) ∙ sym (operator-declarations es are c n))
      ∙ ap (λ b. if b then unless_zero (Some op) else operator (declarations es) c n) (sym (and-true (same_class (class_of op.kind) c)) ∙ ap (λ b. same_class (class_of op.kind) c && b) (sym (same_text-flip name n ∙ e)))
      ∙ sym (operator-push c n (declarations es) d)

  other_name : (c : Class) (n : List ℕ) → same_text n name ≡ false → operator (declarations new) c n ≡ operator (declarations es ++ d ∷ []) c n
  other_name c n e =
      operator-declarations new after c n
      ∙ now c n
      ∙ ap (λ b. if b then slot c t else of_slots c (lookup (for_name n) es)) e
      ∙ sym (operator-declarations es are c n)
      ∙ ap (λ b. if b then unless_zero (Some op) else operator (declarations es) c n) (sym (and_right (same_class (class_of op.kind) c) (same_text name n) (same_text-flip name n ∙ e)))
      ∙ sym (operator-push c n (declarations es) d)

  at_each : (c : Class) (n : List ℕ) → operator (declarations new) c n ≡ operator (declarations es ++ d ∷ []) c n
  at_each c n = elim (cases_Bool (same_text n name)) [ inl e ↦ this_name c n e | inr e ↦ other_name c n e ]

  pub operator-declared : operator (declarations new) ≡ operator (declarations es ++ record { op = op; name = name } ∷ [])
  operator-declared = fun_ext (λ c. fun_ext (λ n. at_each c n))

-- what leaves a table without an operator leaves it as it is
pub operator-undeclared : (es : List Entry) → AreEntries es → (op : Operator) (name : List ℕ) → lookup (for_name name) es ≡ None → op.priority ≡ 0 → operator (declarations es) ≡ operator (declarations es ++ record { op = op; name = name } ∷ [])
operator-undeclared es are op name none zero_priority = operator-declared es es are are op name no_slots_yet no_slots_yet
    (λ c. ap (of_slots c) none ∙ sym (slot-none c))
    (λ c n. same c n (same_text n name) refl)
    (λ c. slot-none c ∙ sym (nothing c (same_class (class_of op.kind) c)))
  where
    no_slots_yet : Slots
    no_slots_yet = record { as_prefix = None; as_infix = None; as_postfix = None }

    same : (c : Class) (n : List ℕ) (b : Bool) → same_text n name ≡ b → of_slots c (lookup (for_name n) es) ≡ (if same_text n name then slot c no_slots_yet else of_slots c (lookup (for_name n) es))
    same c n true e =
        ap (λ m. of_slots c (lookup (for_name m) es)) ((bytes_eq-Decides n name).0 e)
        ∙ ap (of_slots c) none
        ∙ sym (slot-none c)
        ∙ ap (λ b. if b then slot c no_slots_yet else of_slots c (lookup (for_name n) es)) (sym e)
    same c n false e = ap (λ b. if b then slot c no_slots_yet else of_slots c (lookup (for_name n) es)) (sym e)

    nothing : (c : Class) (b : Bool) → (if b then unless_zero (Some op) else slot c no_slots_yet) ≡ None
    nothing c true = ap (λ b. if b then None else Some op) (eq-eqb op.priority 0 zero_priority)
    nothing c false = slot-none c

same_class-itself : (c : Class) → same_class c c ≡ true
same_class-itself prefix_class = refl
same_class-itself infix_class = refl
same_class-itself postfix_class = refl

pub operator-last : (ds : List Declaration) (d : Declaration) → operator (ds ++ d ∷ []) (class_of d.op.kind) d.name ≡ unless_zero (Some d.op)
operator-last ds d =
    operator-push (class_of d.op.kind) d.name ds d
    ∙ ap (λ b. if b then unless_zero (Some d.op) else operator ds (class_of d.op.kind) d.name) (and_from _ _ (same_class-itself (class_of d.op.kind)) ((bytes_eq-Decides d.name d.name).1 refl))
