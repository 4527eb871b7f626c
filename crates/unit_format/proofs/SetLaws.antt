-- Sets of names by number, and lists that a loop goes over.
use Rattle.std.proofs.Common.{◌≡◌, ℕ, suc, ◌+◌, ◌-◌, ◌<◌, ◌≤◌, List, [], ◌∷◌, ◌++◌, length, take, drop, get_or, Bool, true, false, not, ◌&&◌, ◌||◌, eqb, refl, sym, ap, ◌∙◌, arith, if◌then◌else◌, Some, None}
use Rattle.std.specs.List.{list_all, filter_map, cons_option}
use Rattle.std.proofs.Math.Path.{fun_ext}
use Rattle.std.proofs.lemmas.List.Folds.{list_any-append}
use Rattle.unit_model.specs.Encoding.{text_at}
use Rattle.unit_model.specs.Validity.{is_user, is_system}
use Rattle.unit_model.specs.declared.facts.Need.{Need}
use Rattle.unit_model.specs.declared.facts.Section.{Section}
use Rattle.unit_model.specs.declared.facts.OpDecl.{OpDecl}
use Rattle.unit_model.specs.declared.facts.Entry.{Entry}
use Rattle.unit_model.specs.declared.facts.Facts.{Facts}
use Rattle.unit_format.specs.Rules.{Texts, opens_interface, is_first, is_reserved, begins_by, holds_id, own_id, own_holds, need_ids, needs_by, Marks, entries_known_by, section_known_by, all_known_by, modules_by, accepts_by, op_in}
use Rattle.unit_format.proofs.CountLoop.{at_front, at_end}

or_assoc : (a b c : Bool) → (a || (b || c)) ≡ ((a || b) || c)
or_assoc true b c = refl
or_assoc false b c = refl

or_swap : (a b c : Bool) → (a || (b || c)) ≡ (b || (a || c))
or_swap true true c = refl
or_swap true false c = refl
or_swap false b c = refl

or_false : (b : Bool) → (b || false) ≡ b
or_false true = refl
or_false false = refl

-- ---- the modules with an interface

own_step : (s : Section) (ss : List Section) (n : ℕ) → holds_id (filter_map own_id (s ∷ ss)) n ≡ (own_holds s n || holds_id (filter_map own_id ss) n)
own_step s ss n = go (opens_interface s)
  where
    go : (b : Bool) → holds_id (cons_option (if b then Some s.module.0 else None) (filter_map own_id ss)) n ≡ ((b && eqb n s.module.0) || holds_id (filter_map own_id ss) n)
    go true = refl
    go false = refl

abbrev pub OwnLeft : List ℕ → ℕ → List Section → Type 0
OwnLeft keys i ss = (n : ℕ) → (holds_id keys n || holds_id (filter_map own_id (drop i ss)) n) ≡ holds_id (filter_map own_id ss) n

pub own_goes_on : (keys new : List ℕ) (i : ℕ) (ss : List Section) (s : Section) → i < length ss → get_or ss i s ≡ s → ((n : ℕ) → holds_id new n ≡ (own_holds s n || holds_id keys n)) → OwnLeft keys i ss → OwnLeft new (i + 1) ss
own_goes_on keys new i ss s lt is grown so_far n =
    ap (λ b. b || holds_id (filter_map own_id (drop (i + 1) ss)) n) (grown n)
    ∙ sym (or_assoc (own_holds s n) (holds_id keys n) (holds_id (filter_map own_id (drop (i + 1) ss)) n))
    ∙ or_swap (own_holds s n) (holds_id keys n) (holds_id (filter_map own_id (drop (i + 1) ss)) n)
    ∙ ap (λ b. holds_id keys n || b) (sym (own_step s (drop (i + 1) ss) n))
    ∙ ap (λ l. holds_id keys n || holds_id (filter_map own_id l) n) (sym (at_front ss i s lt is))
    ∙ so_far n

pub own_is_done : (keys : List ℕ) (i : ℕ) (ss : List Section) → length ss ≤ i → OwnLeft keys i ss → (n : ℕ) → holds_id keys n ≡ holds_id (filter_map own_id ss) n
own_is_done keys i ss le so_far n =
    sym (ap (λ l. holds_id keys n || holds_id (filter_map own_id l) n) (at_end ss i le) ∙ or_false (holds_id keys n)) ∙ so_far n

-- ---- needs

pub needs_by-same : (names : Texts) (ms a b : List ℕ) → ((n : ℕ) → holds_id a n ≡ holds_id b n) → needs_by names a ms ≡ needs_by names b ms
needs_by-same names [] a b h = refl
needs_by-same names (m ∷ ms) a b h =
    ap (λ t. not (is_user (text_at names m) || (is_system (text_at names m) || t)) && needs_by names (m ∷ a) ms) (h m)
    ∙ ap (λ t. not (is_user (text_at names m) || (is_system (text_at names m) || holds_id b m)) && t) (needs_by-same names ms (m ∷ a) (m ∷ b) (λ n. ap (λ t. eqb n m || t) (h n)))

and_true : (b : Bool) → (b && true) ≡ b
and_true true = refl
and_true false = refl

pub record NeedsLeft (names : Texts) (keys first : List ℕ) (i : ℕ) (ns : List Need) : Type 0 where
  pub test : needs_by names keys (need_ids (drop i ns)) ≡ needs_by names first (need_ids ns)
  pub known : (n : ℕ) → (holds_id keys n || holds_id (need_ids (drop i ns)) n) ≡ holds_id (first ++ need_ids ns) n

pub needs_begin : (names : Texts) (keys : List ℕ) (ns : List Need) → NeedsLeft names keys keys 0 ns
needs_begin names keys ns = record { test = refl; known = λ n. sym (list_any-append (eqb n) keys (need_ids ns)) }

-- whether one more may be needed
one : (names : Texts) (keys : List ℕ) (m : ℕ) (ms : List ℕ) → needs_by names keys (m ∷ ms) ≡ (needs_by names keys (m ∷ []) && needs_by names (m ∷ keys) ms)
one names keys m ms = go (not (is_user (text_at names m) || (is_system (text_at names m) || holds_id keys m)))
  where
    go : (b : Bool) → (b && needs_by names (m ∷ keys) ms) ≡ ((b && true) && needs_by names (m ∷ keys) ms)
    go true = refl
    go false = refl

pub needs_go_on : (names : Texts) (keys new first : List ℕ) (i : ℕ) (ns : List Need) (x : Need) → i < length ns → get_or ns i x ≡ x → needs_by names keys (x.module.0 ∷ []) ≡ true
    → ((n : ℕ) → holds_id new n ≡ (eqb n x.module.0 || holds_id keys n)) → NeedsLeft names keys first i ns → NeedsLeft names new first (i + 1) ns
needs_go_on names keys new first i ns x lt is may grown so_far = record {
  test =
      needs_by-same names (need_ids (drop (i + 1) ns)) new (x.module.0 ∷ keys) grown
      ∙ sym (one names keys x.module.0 (need_ids (drop (i + 1) ns)) ∙ ap (λ b. b && needs_by names (x.module.0 ∷ keys) (need_ids (drop (i + 1) ns))) may)
      ∙ ap (λ l. needs_by names keys (need_ids l)) (sym (at_front ns i x lt is)) ∙ so_far.test;
  known = λ n.
      ap (λ b. b || holds_id (need_ids (drop (i + 1) ns)) n) (grown n)
      ∙ sym (or_assoc (eqb n x.module.0) (holds_id keys n) (holds_id (need_ids (drop (i + 1) ns)) n))
      ∙ or_swap (eqb n x.module.0) (holds_id keys n) (holds_id (need_ids (drop (i + 1) ns)) n)
      ∙ ap (λ l. holds_id keys n || holds_id (need_ids l) n) (sym (at_front ns i x lt is))
      ∙ so_far.known n;
}

pub needs_stop : (names : Texts) (keys first : List ℕ) (i : ℕ) (ns : List Need) (x : Need) → i < length ns → get_or ns i x ≡ x → needs_by names keys (x.module.0 ∷ []) ≡ false → NeedsLeft names keys first i ns → false ≡ needs_by names first (need_ids ns)
needs_stop names keys first i ns x lt is may so_far =
    sym (one names keys x.module.0 (need_ids (drop (i + 1) ns)) ∙ ap (λ b. b && needs_by names (x.module.0 ∷ keys) (need_ids (drop (i + 1) ns))) may)
    ∙ ap (λ l. needs_by names keys (need_ids l)) (sym (at_front ns i x lt is)) ∙ so_far.test

pub needs_are_done : (names : Texts) (keys first : List ℕ) (i : ℕ) (ns : List Need) → length ns ≤ i → NeedsLeft names keys first i ns → (true ≡ needs_by names first (need_ids ns)) × ((n : ℕ) → holds_id keys n ≡ holds_id (first ++ need_ids ns) n)
needs_are_done names keys first i ns le so_far =
    let e = at_end ns i le in
    (sym (ap (λ l. needs_by names keys (need_ids l)) e) ∙ so_far.test, λ n. sym (ap (λ l. holds_id keys n || holds_id (need_ids l) n) e ∙ or_false (holds_id keys n)) ∙ so_far.known n)

-- ---- the first section and the others

front_is : (ss : List Section) (s : Section) → 1 ≤ length ss → s ≡ get_or ss 0 s → ss ≡ s ∷ drop 1 ss
front_is [] s le is = absurd (omega arith)
front_is (t ∷ ss) s le is = ap (λ x. x ∷ ss) (sym is)

take-length : {A : Type 0} (xs : List A) → take (length xs) xs ≡ xs
take-length [] = refl
take-length {A} (x ∷ xs) = ap (λ (l : List A). x ∷ l) (take-length xs)

-- all behind the first
others_are : {A : Type 0} (xs : List A) → take (length xs - 1) (drop 1 xs) ≡ drop 1 xs
others_are [] = refl
others_are (x ∷ xs) = let e : suc (length xs) - 1 ≡ length xs = omega arith in ap (λ n. take n xs) e ∙ take-length xs

abbrev Others : Texts → List Section → Bool
Others names ss = list_all (λ t. not (is_reserved names t)) ss

pub begins_is : (names : Texts) (ss : List Section) (s : Section) (r : Bool) → 1 ≤ length ss → s ≡ get_or ss 0 s → true ≡ is_first names s → r ≡ list_all (λ t. not (is_reserved names t)) (take (length ss - 1) (drop 1 ss)) → r ≡ begins_by names ss
begins_is names ss s r le is first others =
    others ∙ ap (Others names) (others_are ss) ∙ ap (λ b. b && Others names (drop 1 ss)) first ∙ sym (ap (begins_by names) (front_is ss s le is))

pub known_is : (known : Marks) (ss : List Section) (s : Section) (r : Bool) → 1 ≤ length ss → s ≡ get_or ss 0 s → true ≡ entries_known_by known s → r ≡ list_all (section_known_by known) (take (length ss - 1) (drop 1 ss)) → r ≡ all_known_by known ss
known_is known ss s r le is first others =
    others ∙ ap (list_all (section_known_by known)) (others_are ss) ∙ ap (λ b. b && list_all (section_known_by known) (drop 1 ss)) first ∙ sym (ap (all_known_by known) (front_is ss s le is))

-- ---- both rules on modules

pub modules_fail : (names : Texts) (f : Facts) (keys : List ℕ) (ss : List Section) (ns : List Need) → ss ≡ f.sections → ns ≡ f.needs → ((n : ℕ) → holds_id keys n ≡ holds_id (filter_map own_id ss) n) → false ≡ needs_by names keys (need_ids ns) → false ≡ modules_by names f
modules_fail names f keys ss ns p q own test =
    let own_is : needs_by names keys (need_ids ns) ≡ needs_by names (filter_map own_id f.sections) (need_ids f.needs) =
    needs_by-same names (need_ids ns) keys (filter_map own_id ss) own ∙ ap (λ l. needs_by names (filter_map own_id l) (need_ids ns)) p ∙ ap (λ l. needs_by names (filter_map own_id f.sections) (need_ids l)) q in
    ap (λ b. b && all_known_by (holds_id (filter_map own_id f.sections ++ need_ids f.needs)) f.sections) (test ∙ own_is)

pub modules_are : (names : Texts) (f : Facts) (keys new : List ℕ) (ss : List Section) (ns : List Need) (r : Bool) → ss ≡ f.sections → ns ≡ f.needs → ((n : ℕ) → holds_id keys n ≡ holds_id (filter_map own_id ss) n) → true ≡ needs_by names keys (need_ids ns)
    → ((n : ℕ) → holds_id new n ≡ holds_id (keys ++ need_ids ns) n) → r ≡ all_known_by (holds_id new) ss → r ≡ modules_by names f
modules_are names f keys new ss ns r p q own test known all =
    let own_is : needs_by names keys (need_ids ns) ≡ needs_by names (filter_map own_id f.sections) (need_ids f.needs) =
    needs_by-same names (need_ids ns) keys (filter_map own_id ss) own ∙ ap (λ l. needs_by names (filter_map own_id l) (need_ids ns)) p ∙ ap (λ l. needs_by names (filter_map own_id f.sections) (need_ids l)) q in
    let each : (n : ℕ) → holds_id new n ≡ holds_id (filter_map own_id f.sections ++ need_ids f.needs) n = λ n.
    known n ∙ list_any-append (eqb n) keys (need_ids ns) ∙ ap (λ b. b || holds_id (need_ids ns) n) (own n) ∙ sym (list_any-append (eqb n) (filter_map own_id ss) (need_ids ns))
    ∙ ap (λ l. holds_id (filter_map own_id l ++ need_ids ns) n) p ∙ ap (λ l. holds_id (filter_map own_id f.sections ++ need_ids l) n) q in
    let same : holds_id new ≡ holds_id (filter_map own_id f.sections ++ need_ids f.needs) = fun_ext each in
    all ∙ ap (λ m. all_known_by m ss) same ∙ ap (all_known_by (holds_id (filter_map own_id f.sections ++ need_ids f.needs))) p
    ∙ ap (λ b. b && all_known_by (holds_id (filter_map own_id f.sections ++ need_ids f.needs)) f.sections) (test ∙ own_is)

-- ---- operators

pub accepts_by-same : (names : Texts) (os : List OpDecl) (i j p q : Marks) → ((n : ℕ) → i n ≡ j n) → ((n : ℕ) → p n ≡ q n) → accepts_by names i p os ≡ accepts_by names j q os
accepts_by-same names os i j p q h k =
    let e : i ≡ j = fun_ext h in
    let f : p ≡ q = fun_ext k in
    ap (λ m. accepts_by names m p os) e ∙ ap (λ m. accepts_by names j m os) f

pub accepts_stops : (names : Texts) (i p : Marks) (os : List OpDecl) (at : ℕ) (x : OpDecl) (total : Bool) → at < length os → get_or os at x ≡ x → accepts_by names i p (x ∷ drop (at + 1) os) ≡ false → accepts_by names i p (drop at os) ≡ total → false ≡ total
accepts_stops names i p os at x total lt is h so_far = sym h ∙ ap (accepts_by names i p) (sym (at_front os at x lt is)) ∙ so_far

pub entries_stop : (names : Texts) (i p : Marks) (es : List Entry) (at : ℕ) (x : Entry) (total : Bool) → at < length es → get_or es at x ≡ x → accepts_by names i p (cons_option (op_in x) (filter_map op_in (drop (at + 1) es))) ≡ false
    → accepts_by names i p (filter_map op_in (drop at es)) ≡ total → false ≡ total
entries_stop names i p es at x total lt is h so_far = sym h ∙ ap (λ l. accepts_by names i p (filter_map op_in l)) (sym (at_front es at x lt is)) ∙ so_far
