-- A program says the same under a table that has more names.
use Rattle.std.proofs.Common.{◌≡◌, ℕ, suc, ◌<◌, ◌≤◌, List, [], ◌∷◌, length, map, get_or, Bool, true, false, ◌&&◌, ◌||◌, cond, eqb, eqb-true, inl, inr, ◌⊎◌, refl, sym, ap, subst, ◌∙◌, arith, Option, Some, None, find}
use Rattle.std.specs.Prelude.{codes}
use Rattle.std.specs.List.{All}
use Rattle.std.specs.Option.{option_map}
use Rattle.std.proofs.lemmas.Bool.{and_parts}
use Rattle.std.proofs.lemmas.List.Folds.{Any-from_list_any}
use Rattle.pl_atoms.specs.Names.{same_text, AreDistinct, IsFront}
use Rattle.pl_atoms.proofs.Texts.{same_text-is}
use Rattle.pl_atoms.proofs.Numbers.{length-front, get_or-front, number-is}
use Rattle.pl_terms.specs.Trees.{Tree, renamed}
use Rattle.term_walk.proofs.NameBounds.{texts_of-front}
use Rattle.unit_model.specs.Facts.{Indicator, indicator_by}
use Rattle.unit_model.specs.Directives.{Text}
use Rattle.unit_model.specs.Encoding.{text_at}
use Rattle.goal_model.specs.Program.{Clause, Program}
use Rattle.naming_laws.specs.SameRun.{SaysSame}
use Rattle.naming_laws.specs.Translation.{clause_by}
use Rattle.naming_laws.proofs.Tables.{within-or-past}
use Rattle.pl_store.specs.Linked.{Linked, Row, is_row, is_system, is_module, same_indicator, procedure_at, visible_in, with_names}
use Rattle.pl_store.specs.Facts.{IsLinked, no_row}
use Rattle.pl_store.specs.Runs.{number_of, clauses_from, modes_from, program_of}
use Rattle.pl_store.proofs.FactLaws.{names-grow}
use Rattle.pl_store.proofs.WalkLaws.{visible-there}
use Rattle.mod_faults.proofs.Lookups.{or_false}
use Rattle.mod_linker.specs.Linking.{is_among, are_among, SaysNothingElse, SaysSameFurther}
use Rattle.mod_linker.proofs.Among.{and_false, any-default}
use Rattle.mod_linker.proofs.Bounds.{module-below, existing-below, BelowNames, named-below}
use Rattle.mod_linker.proofs.Growing.{its, found-is}

-- ---- new names

new-apart : (old new : List Text) → IsFront old new → AreDistinct new → (k : ℕ) → length old ≤ k → k < length new → is_among old (text_at new k) ≡ false
new-apart old new front distinct k past within = go (is_among old (text_at new k)) refl
  where
    go : (b : Bool) → is_among old (text_at new k) ≡ b → b ≡ false
    go true e =
        let a = Any-from_list_any (same_text (text_at new k)) old e in
        let same : text_at new k ≡ a.1 = same_text-is (text_at new k) a.1 a.4 in
        let le = length-front old new front in
        let here : get_or new a.0 [] ≡ a.1 = get_or-front old new front a.0 a.2 ∙ any-default old a.0 [] a.1 a.2 ∙ a.3 in
        let number = number-is new distinct k a.0 within (omega (arith, a.2, le)) (same ∙ sym here) in
        absurd (omega (arith, number, a.2, past))
    go false e = refl

seen-below : (n : ℕ) (rows : List Row) → ((k : ℕ) → k < length rows → (get_or rows k no_row).lookup < n) → (m : ℕ) (i : Indicator ℕ) (p : ℕ) → visible_in rows m i ≡ Some p → m < n
seen-below n [] h m i p e = absurd cc
seen-below n (r ∷ rows) h m i p e = go (is_row m i r) refl e (seen-below n rows (λ k lt. h (suc k) (omega arith)) m i p)
  where
    go : (b : Bool) → is_row m i r ≡ b → option_map (λ (x : Row). x.procedure) (cond b (Some r) (find (is_row m i) rows)) ≡ Some p → (visible_in rows m i ≡ Some p → m < n) → m < n
    go true t e ih =
        let same = eqb-true m r.lookup (and_parts (eqb m r.lookup) (same_indicator i r.indicator) t).0 in
        let first : r.lookup < n = h 0 (omega arith) in
        omega (arith, same, first)
    go false t e ih = ih e

-- ---- a linked program says nothing of numbers past its table

module _ (l : Linked) (linked : IsLinked l) where
  abbrev Past : ℕ → Indicator ℕ → Type 0
  Past m i = (length l.names ≤ m) ⊎ (length l.names ≤ i.name)

  not-past : (m : ℕ) (i : Indicator ℕ) → m < length l.names → i.name < length l.names → Past m i → ⊥
  not-past m i hm hi (inl h) = absurd (omega (arith, hm, h))
  not-past m i hm hi (inr h) = absurd (omega (arith, hi, h))

  name-below : (p : ℕ) (i : Indicator ℕ) → p < length l.procedures → (procedure_at l p).indicator ≡ i → i.name < length l.names
  name-below p i lt same = subst (λ (j : Indicator ℕ). j.name < length l.names) same (linked.procedures p lt).name

  unseen : (m : ℕ) (i : Indicator ℕ) → Past m i → visible_in l.rows m i ≡ None
  unseen m i past = go (visible_in l.rows m i) refl
    where
      go : (o : Option ℕ) → visible_in l.rows m i ≡ o → o ≡ None
      go None e = refl
      go (Some p) e =
          let there = visible-there l m i p linked e in
          absurd (not-past m i (seen-below (length l.names) l.rows (λ k lt. existing-below l linked (get_or l.rows k no_row).lookup (linked.rows k lt).lookup) m i p e) (name-below p i there.0 there.1) past)

  unnumbered : (d : ℕ) (i : Indicator ℕ) → Past d i → number_of l d i ≡ None
  unnumbered d i past = go (number_of l d i) refl
    where
      go : (o : Option ℕ) → number_of l d i ≡ o → o ≡ None
      go None e = refl
      go (Some p) e =
          let there = found-is l d i p e in
          let same = its d i (procedure_at l p) there.1 in
          absurd (not-past d i (subst (λ k. k < length l.names) (sym same.0) (existing-below l linked (procedure_at l p).home (linked.procedures p there.0).home)) (name-below p i there.0 (sym same.1)) past)

-- ---- the law

module _ (l : Linked) (names : List Text) (q : Program Text) (linked : IsLinked l) (front : IsFront l.names names) (distinct : AreDistinct names) (says : SaysSame l.names (program_of l) q) (other : SaysNothingElse l.names q) where
  abbrev T : ℕ → Text
  T = text_at l.names

  abbrev F : ℕ → Text
  F = text_at names

  at : (k : ℕ) → k < length l.names → F k ≡ T k
  at = get_or-front l.names names front

  abbrev made : ℕ → Text → Indicator Text
  made a s = record { name = s; arity = a }

  abbrev Inside : ℕ → Indicator ℕ → Type 0
  Inside m i = (m < length l.names) × (i.name < length l.names)

  which : (m : ℕ) (i : Indicator ℕ) → Inside m i ⊎ Past l linked m i
  which m i = elim (within-or-past m (length l.names)) [
    | inl hm ↦ elim (within-or-past i.name (length l.names)) [
      | inl hi ↦ inl (hm, hi)
      | inr h ↦ inr (inr h)
    ]
    | inr h ↦ inr (inl h)
  ]

  apart : (m : ℕ) (i : Indicator ℕ) → m < length names → i.name < length names → Past l linked m i → are_among l.names (F m) (indicator_by F i) ≡ false
  apart m i hm hi (inl h) = ap (λ b. b && is_among l.names (F i.name)) (new-apart l.names names front distinct m h hm)
  apart m i hm hi (inr h) = ap (λ b. is_among l.names (F m) && b) (new-apart l.names names front distinct i.name h hi) ∙ and_false (is_among l.names (F m))

  -- what a function of a module and an indicator says of names that were there
  moved : {X : Type 0} (g : Text → Indicator Text → X) (m : ℕ) (i : Indicator ℕ) → Inside m i → g (F m) (indicator_by F i) ≡ g (T m) (indicator_by T i)
  moved g m i h = ap (λ t. g t (indicator_by F i)) (at m h.0) ∙ ap (λ t. g (T m) (made i.arity t)) (at i.name h.1)

  no-module : (m : ℕ) → length l.names ≤ m → is_module l m ≡ false
  no-module m past = go (is_module l m) refl
    where
      go : (b : Bool) → is_module l m ≡ b → b ≡ false
      go true e = let lt = module-below (length l.names) l.modules linked.modules m e in absurd (omega (arith, lt, past))
      go false e = refl

  exists-further : (m : ℕ) → m < length names → q.exists (F m) ≡ (is_system names m || is_module l m)
  exists-further m hm = elim (within-or-past m (length l.names)) [
    | inl h ↦ ap q.exists (at m h) ∙ says.exists m h ∙ ap (λ (t : Text). same_text t (codes "system") || is_module l m) (sym (at m h))
    | inr h ↦ other.exists (F m) (new-apart l.names names front distinct m h hm) ∙ sym (ap (λ b. is_system names m || b) (no-module m h) ∙ or_false (is_system names m))
  ]

  same-definer : (m : ℕ) (i : Indicator ℕ) → Inside m i → (o : Option ℕ) → (program_of l).visible m i ≡ o → option_map T o ≡ option_map F o
  same-definer m i h None e = refl
  same-definer m i h (Some d) e = ap Some (sym (at d ((named-below l linked).definers m i d h.0 h.1 e)))

  visible-further : (m : ℕ) (i : Indicator ℕ) → m < length names → i.name < length names → q.visible (F m) (indicator_by F i) ≡ option_map F ((program_of l).visible m i)
  visible-further m i hm hi = elim (which m i) [
    | inl h ↦ moved q.visible m i h ∙ says.visible m i h.0 h.1 ∙ same-definer m i h ((program_of l).visible m i) refl
    | inr h ↦ other.visible (F m) (indicator_by F i) (apart m i hm hi h) ∙ sym (ap (λ (o : Option ℕ). option_map F (option_map (λ p. (procedure_at l p).home) o)) (unseen l linked m i h))
  ]

  modes-further : (d : ℕ) (i : Indicator ℕ) → d < length names → i.name < length names → q.modes (F d) (indicator_by F i) ≡ modes_from l (number_of l d i)
  modes-further d i hd hi = elim (which d i) [
    | inl h ↦ moved q.modes d i h ∙ says.modes d i h.0 h.1
    | inr h ↦ other.modes (F d) (indicator_by F i) (apart d i hd hi h) ∙ sym (ap (modes_from l) (unnumbered l linked d i h))
  ]

  abbrev clause-of : ℕ → Tree Text → Tree Text → Clause Text
  clause-of n h b = record { width = n; head = h; body = b }

  same-clauses : (cs : List (Clause ℕ)) → All (BelowNames (length l.names)) cs → map (clause_by T) cs ≡ map (clause_by F) cs
  same-clauses [] h = refl
  same-clauses (c ∷ cs) h =
      let first : BelowNames (length l.names) c = h 0 c (omega arith) in
      ap (λ (t : Tree Text). clause-of c.width t (renamed T c.body) ∷ map (clause_by T) cs) (sym (texts_of-front l.names names front c.head first.0))
      ∙ ap (λ (t : Tree Text). clause-of c.width (renamed F c.head) t ∷ map (clause_by T) cs) (sym (texts_of-front l.names names front c.body first.1))
      ∙ ap (λ (r : List (Clause Text)). clause-of c.width (renamed F c.head) (renamed F c.body) ∷ r) (same-clauses cs (λ k d lt. h (suc k) d (omega arith)))

  clauses-further : (d : ℕ) (i : Indicator ℕ) → d < length names → i.name < length names → q.clauses (F d) (indicator_by F i) ≡ map (clause_by F) (clauses_from l (number_of l d i))
  clauses-further d i hd hi = elim (which d i) [
    | inl h ↦ moved q.clauses d i h ∙ says.clauses d i h.0 h.1 ∙ same-clauses (clauses_from l (number_of l d i)) ((named-below l linked).clauses d i h.0 h.1)
    | inr h ↦ other.clauses (F d) (indicator_by F i) (apart d i hd hi h) ∙ sym (ap (λ o. map (clause_by F) (clauses_from l o)) (unnumbered l linked d i h))
  ]

  further : SaysSame names (program_of (with_names l names)) q
  further = record {
    within = named-below (with_names l names) (names-grow l names linked front distinct);
    exists = exists-further;
    visible = visible-further;
    modes = modes-further;
    clauses = clauses-further;
  }

pub says-same-further : SaysSameFurther
says-same-further l names q linked front distinct says other = further l names q linked front distinct says other
