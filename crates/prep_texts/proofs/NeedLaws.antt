-- Needs noted one after another.
use Rattle.std.proofs.Common.{◌≡◌, ℕ, suc, ◌+◌, ◌<◌, ◌≤◌, Bool, true, false, cond, not, nat_lt, ◌||◌, List, [], ◌∷◌, ◌++◌, map, length, Option, Some, None, is_some, refl, sym, ap, ◌∙◌, subst, if◌then◌else◌, arith}
use Prim.Native.Nat.compare
use Rattle.std.specs.Prelude.{option_map}
use Rattle.std.specs.List.{list_any, position_or_len, AllByRecursion, flat_map}
use Rattle.std.specs.Cmp.Lexicographic.{nat_list_eq_equiv}
use Rattle.std.proofs.lemmas.List.{map-append}
use Rattle.pl_atoms.specs.Names.{IsFront, with_text, text_place}
use Rattle.pl_atoms.specs.declared.names.NameId.{NameId}
use Rattle.pl_ops.specs.Tables.{same_text}
use Rattle.unit_model.specs.Facts.{OperatorOf, Need, need_names, need_by, operator_by}
use Rattle.unit_model.specs.Directives.{Text}
use Rattle.unit_model.specs.Encoding.{text_at}
use Rattle.unit_model.specs.Views.{need_view, ops_view}
use Rattle.unit_model.specs.Preparing.{Interface, operators_known, holds}
use Rattle.unit_model.specs.declared.facts.OpDecl.{OpDecl}
use Rattle.unit_model.specs.declared.facts.Need.{Need as CodeNeed}
use Rattle.prep_texts.specs.declared.interfaces.KnownInterface.{KnownInterface}
use Rattle.prep_texts.specs.declared.draft.Draft.{Draft}
use Rattle.prep_texts.specs.Interfaces.{interface_view, IsBelow}
use Rattle.prep_texts.specs.Seen.{Seen, seen, is_needed, needing}
use Rattle.prep_texts.specs.Drafts.{needs_in, state_of, IsWell}
use Rattle.prep_texts.proofs.Agreeing.{whole, front-agrees}
use Rattle.prep_texts.proofs.Drafting.{state-grown, well-grown}

flip : (s t : Text) → same_text s t ≡ same_text t s
flip = nat_list_eq_equiv.symm

pub known-held : (xs : List KnownInterface) (m : Text) → is_some (operators_known (map interface_view xs) m) ≡ holds (map (λ (i : KnownInterface). i.module) xs) m
known-held [] m = refl
known-held (x ∷ xs) m = ap (λ b. is_some (if b then Some (map Rattle.prep_texts.specs.Interfaces.operator_view x.operators) else operators_known (map interface_view xs) m)) (flip x.module m) ∙ go (same_text m x.module) (known-held xs m)
  where
    go : (b : Bool) → is_some (operators_known (map interface_view xs) m) ≡ holds (map (λ (i : KnownInterface). i.module) xs) m
        → is_some (if b then Some (map Rattle.prep_texts.specs.Interfaces.operator_view x.operators) else operators_known (map interface_view xs) m) ≡ (b || holds (map (λ (i : KnownInterface). i.module) xs) m)
    go true h = refl
    go false h = h

place-within : (p : Text → Bool) (xs : List Text) → nat_lt (position_or_len p xs) (length xs) ≡ list_any p xs
place-within p [] = refl
place-within p (x ∷ xs) = go (p x) (place-within p xs)
  where
    first : (n : ℕ) → nat_lt 0 (suc n) ≡ true
    first n = grind arith

    go : (b : Bool) → nat_lt (position_or_len p xs) (length xs) ≡ list_any p xs → nat_lt (cond (not b) (1 + position_or_len p xs) 0) (suc (length xs)) ≡ (b || list_any p xs)
    go true h = first (length xs)
    go false h = let e : 1 + position_or_len p xs ≡ suc (position_or_len p xs) = omega arith in let step : nat_lt (suc (position_or_len p xs)) (suc (length xs)) ≡ nat_lt (position_or_len p xs) (length xs) = rw compare.suc-suc refl in ap (λ n. nat_lt n (suc (length xs))) e ∙ step ∙ h

pub place-held : (texts : List Text) (m : Text) → is_some (text_place texts m) ≡ holds texts m
place-held texts m = go (nat_lt (position_or_len (same_text m) texts) (length texts)) ∙ place-within (same_text m) texts
  where
    go : (b : Bool) → is_some (cond b (Some (position_or_len (same_text m) texts)) None) ≡ b
    go true = refl
    go false = refl

pub mapped-some : (o : Option NameId) (p : Option ℕ) → option_map (λ (id : NameId). id.0) o ≡ p → is_some o ≡ is_some p
mapped-some None p h = ap is_some h
mapped-some (Some id) p h = ap is_some h

-- one more need
module _ (d : Draft) (well : IsWell d) (new : List Text) (front : IsFront d.names new) (name : NameId) (byte : ℕ) (below : name.0 < length d.names)
    (os : List (OperatorOf Text)) (ops : List OpDecl) (same : map (operator_by (text_at new)) (ops_view ops) ≡ os)
    (ops_below : AllByRecursion (IsBelow (length new)) (map (λ (o : OperatorOf ℕ). o.name) (ops_view ops)))
    (absent : (known : List Interface) → is_needed (text_at d.names name.0) (seen (state_of known d)) ≡ false)
    (needs : List CodeNeed) (pushed : needs ≡ d.needs ++ record { byte = byte; «module» = name; ops = ops } ∷ [])
    (needed : List Text) (interned : needed ≡ with_text d.needed (text_at new name.0)) where
  abbrev Grown : Draft
  Grown = record d { names = new }

  abbrev More : Draft
  More = record d { names = new; needs = needs; needed = needed }

  abbrev need : CodeNeed
  need = record { byte = byte; «module» = name; ops = ops }

  text-same : text_at new name.0 ≡ text_at d.names name.0
  text-same = front-agrees d.names new front name.0 below

  grown-well : IsWell Grown
  grown-well = well-grown d new front well

  abbrev a_need : Text → List (OperatorOf Text) → Need Text
  a_need m l = record { byte = byte; of = m; operators = l }

  views : (xs : List CodeNeed) (x : CodeNeed) → map need_view (xs ++ x ∷ []) ≡ map need_view xs ++ need_view x ∷ []
  views xs x = map-append need_view xs (x ∷ [])

  needs-more : needs_in new needs ≡ needs_in new d.needs ++ a_need (text_at d.names name.0) os ∷ []
  needs-more =
      ap (needs_in new) pushed
      ∙ ap (map (need_by (text_at new))) (views d.needs need)
      ∙ map-append (need_by (text_at new)) (map need_view d.needs) (need_view need ∷ [])
      ∙ ap (λ m. needs_in new d.needs ++ a_need m (map (operator_by (text_at new)) (ops_view ops)) ∷ []) text-same
      ∙ ap (λ l. needs_in new d.needs ++ a_need (text_at d.names name.0) l ∷ []) same

  abbrev with_needs : List Interface → List (Need Text) → Seen
  with_needs known ns = record (seen (state_of known Grown)) { needs = ns }

  chosen : (known : List Interface) (b : Bool) → b ≡ false → (v w : Seen) → (if b then v else w) ≡ w
  chosen known true h v w = absurd (cc)
  chosen known false h v w = refl

  abbrev put : Seen → Seen
  put v = record v { needs = v.needs ++ a_need (text_at d.names name.0) os ∷ [] }

  pub need-seen-more : (known : List Interface) → seen (state_of known More) ≡ needing (text_at d.names name.0) os byte (seen (state_of known d))
  need-seen-more known =
      ap (with_needs known) needs-more
      ∙ ap (λ s. put (seen s)) (state-grown d new front well known)
      ∙ sym (chosen known (is_needed (text_at d.names name.0) (seen (state_of known d))) (absent known) (seen (state_of known d)) (put (seen (state_of known d))))

  no_right : (a b : Bool) → (a || b) ≡ false → b ≡ false
  no_right true b h = absurd (cc)
  no_right false b h = h

  unheld : holds d.needed (text_at new name.0) ≡ false
  unheld = ap (holds d.needed) text-same ∙ ap (λ l. holds l (text_at d.names name.0)) well.needed ∙ no_right _ _ (absent [])

  last : (b : Bool) → b ≡ false → (if b then d.needed else d.needed ++ text_at new name.0 ∷ []) ≡ d.needed ++ text_at new name.0 ∷ []
  last true h = absurd (cc)
  last false h = refl

  flat : (xs : List (Need ℕ)) (x : Need ℕ) → flat_map need_names (xs ++ x ∷ []) ≡ flat_map need_names xs ++ (need_names x ++ [])
  flat [] x = refl
  flat (y ∷ xs) x = ap (λ (l : List ℕ). need_names y ++ l) (flat xs x) ∙ sym (Rattle.std.proofs.Common.append_assoc (need_names y) (flat_map need_names xs) (need_names x ++ []))

  le : length d.names ≤ length new
  le = Rattle.pl_atoms.proofs.Numbers.length-front d.names new front

  pub need-well-more : IsWell More
  need-well-more = record {
    indexed = well.indexed;
    needed =
        interned ∙ last (holds d.needed (text_at new name.0)) unheld
        ∙ ap (λ l. l ++ text_at new name.0 ∷ []) grown-well.needed
        ∙ ap (λ m. map (λ (n : Need Text). n.of) (needs_in new d.needs) ++ m ∷ []) text-same
        ∙ sym (ap (map (λ (n : Need Text). n.of)) needs-more ∙ map-append (λ (n : Need Text). n.of) (needs_in new d.needs) (a_need (text_at d.names name.0) os ∷ []));
    needs =
        subst (AllByRecursion (IsBelow (length new))) (sym (ap (λ l. flat_map need_names (map need_view l)) pushed ∙ ap (flat_map need_names) (views d.needs need) ∙ flat (map need_view d.needs) (need_view need)))
        (whole (IsBelow (length new)) (flat_map need_names (map need_view d.needs)) (need_names (need_view need) ++ []) grown-well.needs
        (whole (IsBelow (length new)) (need_names (need_view need)) [] (omega (arith, le, below), ops_below) tt));
    sections = grown-well.sections;
    entries = grown-well.entries;
    outer = grown-well.outer;
  }

pub shown : {A B : Type 0} (r : Option A) (o : Option B) (v : A → B) → Rattle.std.specs.Prelude.IfSome r (λ os. o ≡ Some (v os)) → Rattle.std.specs.Prelude.IfNone r (o ≡ None) → is_some r ≡ is_some o
shown None o v h k = sym (ap is_some k)
shown (Some os) o v h k = sym (ap is_some h)

pub kept-if : (b : Bool) (v w : Seen) → b ≡ true → v ≡ (if b then v else w)
kept-if true v w h = refl
kept-if false v w h = absurd (cc)
