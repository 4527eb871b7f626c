-- Stamps are equal where modules and operators are.
use Rattle.std.proofs.Common.{◌≡◌, ℕ, ◌<◌, List, [], ◌∷◌, ◌++◌, length, map, Bool, true, false, ◌&&◌, ◌||◌, cond, eqb, eqb-true, eq-eqb, refl, sym, ap, ◌∙◌}
use Rattle.std.specs.Prelude.{Vec}
use Rattle.std.specs.Global.{Global}
use Rattle.std.specs.List.{list_any}
use Rattle.std.proofs.lemmas.Bool.{and_parts}
use Rattle.std.proofs.lemmas.List.{map-append}
use Rattle.std.proofs.lemmas.List.Folds.{list_any-append}
use Rattle.indexmap.specs.IndexSet.{insert_key}
use Rattle.pl_atoms.specs.Names.{same_text, AreDistinct}
use Rattle.pl_atoms.proofs.Texts.{list_any-map}
use Rattle.unit_model.specs.Facts.{OperatorOf, operator_by}
use Rattle.unit_model.specs.Directives.{Text}
use Rattle.unit_model.specs.Encoding.{text_at, kind_byte}
use Rattle.unit_model.specs.Preparing.{Interface}
use Rattle.link_model.specs.Faults.{same_operators}
use Rattle.mod_faults.specs.declared.needs.Mark.{Mark}
use Rattle.mod_faults.specs.Needing.{mark, stamp, same_mark, same_stamp, stamps_in, fits, AreOperatorsBelow, AreStamps}
use Rattle.mod_faults.proofs.Lookups.{or_false, any_insert, same_number}

-- ---- sets of stamps

pushed : (b : Bool) (keys : List (Vec Mark Global)) (key : Vec Mark Global) → stamps_in (cond b keys (keys ++ key ∷ [])) ≡ cond b (stamps_in keys) (stamps_in keys ++ key.items ∷ [])
pushed true keys key = refl
pushed false keys key = map-append (λ (k : Vec Mark Global). k.items) keys (key ∷ [])

pub stamps-insert : (keys : List (Vec Mark Global)) (key : Vec Mark Global) → stamps_in (insert_key (λ k l. same_stamp k.items l.items) keys key) ≡ insert_key same_stamp (stamps_in keys) key.items
stamps-insert keys key =
    pushed (list_any (λ k. same_stamp key.items k.items) keys) keys key
    ∙ ap (λ b. cond b (stamps_in keys) (stamps_in keys ++ key.items ∷ [])) (sym (list_any-map (λ (k : Vec Mark Global). k.items) (same_stamp key.items) keys))

pub stamps-any : (keys : List (Vec Mark Global)) (s : List Mark) → list_any (λ k. same_stamp s k.items) keys ≡ list_any (same_stamp s) (stamps_in keys)
stamps-any keys s = sym (list_any-map (λ (k : Vec Mark Global). k.items) (same_stamp s) keys)

-- ---- equal stamps

made : ℕ → ℕ → ℕ → Mark
made p k n = record { priority = p; kind = k; name = n }

same_mark-is : (a b : Mark) → same_mark a b ≡ true → a ≡ b
unfolding made
same_mark-is a b h =
    let p = and_parts (eqb a.priority b.priority) (eqb a.kind b.kind && eqb a.name b.name) h in
    let q = and_parts (eqb a.kind b.kind) (eqb a.name b.name) p.1 in
    ap (λ x. made x a.kind a.name) (eqb-true a.priority b.priority p.0)
    ∙ ap (λ x. made b.priority x a.name) (eqb-true a.kind b.kind q.0)
    ∙ ap (made b.priority b.kind) (eqb-true a.name b.name q.1)

same_stamp-is : (s t : List Mark) → same_stamp s t ≡ true → s ≡ t
same_stamp-is [] [] h = refl
same_stamp-is [] (b ∷ t) h = absurd cc
same_stamp-is (a ∷ s) [] h = absurd cc
same_stamp-is (a ∷ s) (b ∷ t) h =
    let p = and_parts (same_mark a b) (same_stamp s t) h in
    ap (λ x. x ∷ s) (same_mark-is a b p.0) ∙ ap (λ (l : List Mark). b ∷ l) (same_stamp-is s t p.1)

eqb-flip : (m n : ℕ) → eqb m n ≡ eqb n m
eqb-flip m n = go (eqb m n) refl (eqb n m) refl
  where
    go : (a : Bool) → eqb m n ≡ a → (b : Bool) → eqb n m ≡ b → a ≡ b
    go true e true f = refl
    go false e false f = refl
    go true e false f = absurd (let h : eqb n m ≡ true = eq-eqb n m (sym (eqb-true m n e)) in cc)
    go false e true f = absurd (let h : eqb m n ≡ true = eq-eqb m n (sym (eqb-true n m f)) in cc)

module _ (names : List Text) (distinct : AreDistinct names) where
  abbrev T : ℕ → Text
  T = text_at names

  abbrev texts : List (OperatorOf ℕ) → List (OperatorOf Text)
  texts = map (operator_by T)

  operators_same : (os ps : List (OperatorOf ℕ)) → AreOperatorsBelow (length names) os → AreOperatorsBelow (length names) ps → same_stamp (map mark os) (map mark ps) ≡ same_operators (texts ps) (texts os)
  operators_same [] [] h g = refl
  operators_same [] (p ∷ ps) h g = refl
  operators_same (o ∷ os) [] h g = refl
  operators_same (o ∷ os) (p ∷ ps) h g =
      ap (λ b. (b && (eqb (kind_byte o.op.kind) (kind_byte p.op.kind) && eqb o.name p.name)) && same_stamp (map mark os) (map mark ps)) (eqb-flip o.op.priority p.op.priority)
      ∙ ap (λ b. (eqb p.op.priority o.op.priority && (b && eqb o.name p.name)) && same_stamp (map mark os) (map mark ps)) (eqb-flip (kind_byte o.op.kind) (kind_byte p.op.kind))
      ∙ ap (λ b. (eqb p.op.priority o.op.priority && (eqb (kind_byte p.op.kind) (kind_byte o.op.kind) && b)) && same_stamp (map mark os) (map mark ps)) (eqb-flip o.name p.name ∙ sym (same_number names distinct p.name o.name g.0 h.0))
      ∙ ap (λ b. (eqb p.op.priority o.op.priority && (eqb (kind_byte p.op.kind) (kind_byte o.op.kind) && same_text (T p.name) (T o.name))) && b) (operators_same os ps h.1 g.1)

  stamp_same : (m : ℕ) (os : List (OperatorOf ℕ)) (n : ℕ) (ps : List (OperatorOf ℕ)) → m < length names → n < length names → AreOperatorsBelow (length names) os → AreOperatorsBelow (length names) ps
      → same_stamp (stamp m os) (stamp n ps) ≡ (same_text (T n) (T m) && same_operators (texts ps) (texts os))
  stamp_same m os n ps hm hn h g =
      ap (λ b. b && same_stamp (map mark os) (map mark ps)) (eqb-flip m n ∙ sym (same_number names distinct n m hn hm))
      ∙ ap (λ b. same_text (T n) (T m) && b) (operators_same os ps h g)

  -- one more interface
  pub stamps_more : (stamps : List (List Mark)) (is : List Interface) (n : ℕ) (ps : List (OperatorOf ℕ)) → n < length names → AreOperatorsBelow (length names) ps → AreStamps names stamps is
      → AreStamps names (insert_key same_stamp stamps (stamp n ps)) (is ++ record { of = T n; operators = texts ps } ∷ [])
  stamps_more stamps is n ps hn hp h m os hm ho =
      any_insert same_stamp (λ q p x e. ap (same_stamp q) (sym (same_stamp-is p x e))) (stamp m os) (stamp n ps) stamps
      ∙ ap (λ b. b || same_stamp (stamp m os) (stamp n ps)) (h m os hm ho)
      ∙ ap (λ b. list_any (fits (T m) (texts os)) is || b) (stamp_same m os n ps hm hn ho hp ∙ sym (or_false (same_text (T n) (T m) && same_operators (texts ps) (texts os))))
      ∙ sym (list_any-append (fits (T m) (texts os)) is (record { of = T n; operators = texts ps } ∷ []))

pub stamps_none : (names : List Text) → AreStamps names [] []
stamps_none names m os hm ho = refl
