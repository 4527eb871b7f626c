-- What is taken from modules.
use Rattle.std.proofs.Common.{◌≡◌, ℕ, Bool, true, false, ◌||◌, List, [], ◌∷◌, ◌++◌, map, Option, Some, None, is_some, Result, Ok, Err, refl, sym, ap, ◌∙◌, if◌then◌else◌, subst, IfNone, OnOk}
use Rattle.pl_ops.specs.Tables.{Declaration, Operators, operator}
use Rattle.unit_model.specs.Facts.{OperatorOf}
use Rattle.unit_model.specs.Directives.{Text, first_of}
use Rattle.unit_model.specs.Preparing.{Interface, operators_known, declaration, passing, taking, holds}
use Rattle.prep_texts.specs.declared.draft.OpenSection.{OpenSection}
use Rattle.prep_texts.specs.declared.draft.Draft.{Draft}
use Rattle.prep_texts.specs.Looking.{extended, accepts_all}
use Rattle.prep_texts.specs.Interfaces.{interfaces_view}
use Rattle.prep_texts.specs.Seen.{Seen, NextSeen, seen, is_needed, needing, looking, holding, table_seen, imported, passed, sourced_seen}
use Rattle.prep_texts.specs.Drafts.{state_of, modules_known, TakesNeed, TakesOperators, Refuses}
use Rattle.prep_texts.proofs.InterfaceLaws.{known-append}
use Rattle.prep_texts.proofs.NeedLaws.{known-held, kept-if}
use Rattle.prep_texts.proofs.Drafting.{with_table-seen}

-- ---- where a module is known

module _ (known : List Interface) (d : Draft) (m : Text) where
  split : modules_known known d m ≡ first_of (operators_known known m) (operators_known (interfaces_view d.own) m)
  split = known-append known (interfaces_view d.own) m

  pub known-first : (os : List (OperatorOf Text)) → operators_known known m ≡ Some os → modules_known known d m ≡ Some os
  known-first os h = split ∙ ap (λ o. first_of o (operators_known (interfaces_view d.own) m)) h

  pub known-own : operators_known known m ≡ None → modules_known known d m ≡ operators_known (interfaces_view d.own) m
  known-own h = split ∙ ap (λ o. first_of o (operators_known (interfaces_view d.own) m)) h

  -- a module with an interface in the text has no need
  own-found : (os : List (OperatorOf Text)) (byte : ℕ) → operators_known known m ≡ None → operators_known (interfaces_view d.own) m ≡ Some os → TakesNeed known m byte d d
  own-found os byte none e =
      let v = seen (state_of known d) in
      record {
        operators = os;
        is_known = known-own none ∙ e;
        noted = kept-if (is_needed m v) v (record v { needs = v.needs ++ record { byte = byte; of = m; operators = os } ∷ [] }) (ap (λ b. b || holds (map (λ n. n.of) v.needs) m) (sym (known-held d.own.all.items m) ∙ ap is_some e));
      }

  pub own-need : (byte : ℕ) → operators_known known m ≡ None → is_some (operators_known (interfaces_view d.own) m) ≡ true → TakesNeed known m byte d d
  own-need byte none some = go (operators_known (interfaces_view d.own) m) refl
    where
      go : (o : Option (List (OperatorOf Text))) → operators_known (interfaces_view d.own) m ≡ o → TakesNeed known m byte d d
      go None e = let h : is_some {T = List (OperatorOf Text)} None ≡ true = ap is_some (sym e) ∙ some in absurd (cc)
      go (Some os) e = own-found os byte none e

-- ---- a source

same_some : {A : Type 0} (a b : A) → Some a ≡ Some b → a ≡ b
same_some {A} a b e = ap (λ (o : Option A). elim o [ None ↦ a | Some x ↦ x ]) e

table_seen-state : (known : List Interface) (d : Draft) → table_seen (seen (state_of known d)) ≡ operator d.table
table_seen-state known d = go d.section
  where
    go : (o : Option OpenSection) → table_seen (seen (state_of known (record d { section = o }))) ≡ operator d.table
    go None = refl
    go (Some o) = refl

module _ (known : List Interface) (old : Draft) (m : Text) (byte : ℕ) where
  abbrev v : Seen
  v = seen (state_of known old)

  pub passes : (new : Draft) → TakesNeed known m byte old new → sourced_seen (passing m) byte v ≡ Ok (seen (state_of known new))
  passes new h = ap (λ o. passed m byte o v) h.is_known ∙ ap (λ w. Ok w) (sym h.noted)

  pub not_passed : modules_known known old m ≡ None → (n : ℕ) → n ≡ 11 → sourced_seen (passing m) byte v ≡ Err n
  not_passed none n e = ap (λ o. passed m byte o v) none ∙ ap (λ k. Err k) (sym e)

  pub not_imported : modules_known known old m ≡ None → (n : ℕ) → n ≡ 11 → sourced_seen (taking m) byte v ≡ Err n
  not_imported none n e = ap (λ o. imported m byte o v) none ∙ ap (λ k. Err k) (sym e)

  module _ (mid : Draft) (need : TakesNeed known m byte old mid) (own_same : mid.own ≡ old.own) (table_same : mid.table ≡ old.table) where
    known_same : (k : Text) → k ≡ m → modules_known known mid k ≡ Some need.operators
    known_same k e = ap (modules_known known mid) e ∙ ap (λ i. operators_known (known ++ interfaces_view i) m) own_same ∙ need.is_known

    tested : Bool → NextSeen
    tested b = if b then Ok (looking (extended (table_seen v) (map declaration need.operators)) (needing m need.operators byte v)) else Err 12

    look : table_seen v ≡ operator mid.table
    look = table_seen-state known old ∙ ap operator (sym table_same)

    pub imports : (k : Text) → k ≡ m → (new : Draft) (table : List Declaration) → new ≡ record mid { table = table } → TakesOperators known k mid table → sourced_seen (taking m) byte v ≡ Ok (seen (state_of known new))
    unfolding tested
    imports k e new table is h =
        let os : need.operators ≡ h.operators = same_some _ _ (sym (known_same k e) ∙ h.is_known) in
        ap (λ o. imported m byte o v) need.is_known
        ∙ ap tested (ap (accepts_all need.operators) look ∙ ap (λ l. accepts_all l (operator mid.table)) os ∙ h.accepted)
        ∙ ap (λ f. Ok (looking (extended f (map declaration need.operators)) (needing m need.operators byte v))) look
        ∙ ap (λ l. Ok (looking (extended (operator mid.table) (map declaration l)) (needing m need.operators byte v))) os
        ∙ ap (λ f. Ok (looking f (needing m need.operators byte v))) (sym h.taken)
        ∙ ap (λ w. Ok (looking (operator table) w)) (sym need.noted)
        ∙ ap (λ w. Ok w) (sym (with_table-seen known mid table))
        ∙ ap (λ d. Ok (seen (state_of known d))) (sym is)

    pub refuses : (k : Text) → k ≡ m → (n : ℕ) → Refuses (modules_known known mid k) (operator mid.table) n → sourced_seen (taking m) byte v ≡ Err n
    unfolding tested
    refuses k e n h =
        let r : Refuses (Some need.operators) (operator mid.table) n = subst (λ o. Refuses o (operator mid.table) n) (known_same k e) h in
        ap (λ o. imported m byte o v) need.is_known
        ∙ ap tested (ap (accepts_all need.operators) look ∙ r.1)
        ∙ ap (λ k. Err k) (sym r.0)

-- ---- a whole term

abbrev pub next_holding : List (Rattle.unit_model.specs.Facts.Entry Text) → NextSeen → NextSeen
next_holding es (Err n) = Err n
next_holding es (Ok v) = Ok (holding es v)

-- ---- answers of look-ups

pub not-known : {A B : Type 0} (r : Option A) (o : Option B) → IfNone r (o ≡ None) → ((x : A) → r ≡ Some x → ⊥) → o ≡ None
not-known None o k n = k
not-known (Some x) o k n = absurd (n x refl)

pub none-known : {A B : Type 0} (r : Option A) (o : Option B) → IfNone r (o ≡ None) → is_some r ≡ false → o ≡ None
none-known None o k e = k
none-known (Some x) o k e = absurd (cc)

pub on-ok : {A E : Type 0} (P Q R : Type 0) (r : Result A E) → OnOk r P → OnOk r Q → (P → Q → R) → OnOk r R
on-ok P Q R (Ok a) p q f = f p q
on-ok P Q R (Err e) p q f = tt

-- ---- a body opens

module _ (known : List Interface) (old : Draft) (m : Text) (byte : ℕ) (d1 : Draft) (need : TakesNeed known m byte old d1) (own1 : d1.own ≡ old.own)
    (d2 : Draft) (table : List Declaration) (k2 k3 : Text) (same2 : k2 ≡ m) (same3 : k3 ≡ m)
    (begun : seen (state_of known d2) ≡ Rattle.prep_texts.specs.Seen.opened_section Rattle.unit_model.specs.Facts.body k2 byte (operator table) (seen (state_of known d1)))
    (own2 : d2.own ≡ d1.own) (table2 : d2.table ≡ table) (is_standard : operator table ≡ operator Rattle.pl_ops.specs.Standard.standard)
    (d3 : Draft) (takes : TakesOperators known k3 d2 d3.table) (is3 : d3 ≡ record d2 { table = d3.table }) where
  abbrev body_of : Text → Operators → Seen → Seen
  body_of k f v = Rattle.prep_texts.specs.Seen.opened_section Rattle.unit_model.specs.Facts.body k byte f v

  known_there : modules_known known d2 k3 ≡ Some need.operators
  known_there =
      ap (modules_known known d2) same3 ∙ ap (λ i. operators_known (known ++ interfaces_view i) m) (own2 ∙ own1) ∙ need.is_known

  looks : operator d3.table ≡ operator (Rattle.pl_ops.specs.Standard.standard ++ map declaration need.operators)
  looks =
      takes.taken
      ∙ ap (λ os. extended (operator d2.table) (map declaration os)) (sym (same_some _ _ (sym known_there ∙ takes.is_known)))
      ∙ ap (λ f. extended f (map declaration need.operators)) (ap operator table2 ∙ is_standard)
      ∙ sym (Rattle.prep_texts.proofs.TableLaws.operator-extended Rattle.pl_ops.specs.Standard.standard (map declaration need.operators))

  pub body-opens : Rattle.prep_texts.specs.Seen.open_named_seen Rattle.unit_model.specs.Facts.body (Some m) byte (seen (state_of known old)) ≡ Ok (seen (state_of known d3))
  body-opens =
      ap (λ o. Rattle.prep_texts.specs.Seen.open_body_seen m byte o (seen (state_of known old))) need.is_known
      ∙ ap (λ v. Ok (body_of m (operator (Rattle.pl_ops.specs.Standard.standard ++ map declaration need.operators)) v)) (sym need.noted)
      ∙ ap (λ f. Ok (body_of m f (seen (state_of known d1)))) (sym looks)
      ∙ ap (λ k. Ok (looking (operator d3.table) (body_of k (operator table) (seen (state_of known d1))))) (sym same2)
      ∙ ap (λ v. Ok (looking (operator d3.table) v)) (sym begun)
      ∙ ap (λ v. Ok v) (sym (with_table-seen known d2 d3.table))
      ∙ ap (λ d. Ok (seen (state_of known d))) (sym is3)
