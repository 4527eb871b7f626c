-- Names that stay in a table.
use Rattle.std.proofs.Common.{◌≡◌, ◌∙◌, ℕ, zero, suc, ◌+◌, ◌<◌, ◌≤◌, Bor, Bool, true, false, ◌||◌, List, [], ◌∷◌, ◌++◌, map, drop, length, slice_get, get_or, Some, refl, ap, sym, subst, if◌then◌else◌, arith, below_more}
use Rattle.std.specs.List.{list_any}
use Rattle.std.proofs.lemmas.List.{take-append-drop, get_or-map, length-map}
use Rattle.std.proofs.lemmas.List.Folds.{list_any_at}
use Rattle.std.proofs.lemmas.Option.{slice_get_within, get_or_from_slice_get}
use Rattle.pl_atoms.specs.CaseTable.{Case, case_of, cases_of}
use Rattle.pl_atoms.specs.Names.{same_text, with_text, IsFront}
use Rattle.pl_atoms.specs.declared.case_table.CaseRow.{CaseRow}
use Rattle.pl_atoms.proofs.Numbers.{IsFront-itself, IsFront-trans}
use Rattle.pl_atoms.proofs.Texts.{same_text-is, same_text-itself}
use Rattle.unit_model.specs.Builtins.{builtins}
use Rattle.pl_builtin_ends.specs.Made.{made_texts, procedure_names, HasText, HasNames}

-- a text that is there is not put in
pub with_text-there : (names : List (List ℕ)) (t : List ℕ) → HasText names t → with_text names t ≡ names
with_text-there names t h = ap (λ b. if b then names else names ++ t ∷ []) h

-- a text that has a number is there
pub HasText-number : (names : List (List ℕ)) (t : List ℕ) (n : ℕ) → slice_get names n ≡ Some t → HasText names t
HasText-number names t n at =
    let here : get_or names n [] ≡ t = get_or_from_slice_get names n t [] at in
    list_any_at (same_text t) names n [] (slice_get_within names n t at) (ap (same_text t) here ∙ same_text-itself t)

either : (a b c : Bool) → (b ≡ true → c ≡ true) → (a || b) ≡ true → (a || c) ≡ true
either true b c f h = refl
either false b c f h = f h

any-front : {A : Type 0} (p : A → Bool) (xs ys : List A) → list_any p xs ≡ true → list_any p (xs ++ ys) ≡ true
any-front p [] ys h = cc
any-front p (x ∷ xs) ys h = either (p x) (list_any p xs) (list_any p (xs ++ ys)) (any-front p xs ys) h

-- and stays where the table grows
pub HasText-front : (old new : List (List ℕ)) → IsFront old new → (t : List ℕ) → HasText old t → HasText new t
HasText-front old new front t h = subst (λ names. HasText names t) (sym whole) (any-front (same_text t) old (drop (length old) new) h)
  where
    whole : new ≡ old ++ drop (length old) new
    whole = sym (take-append-drop (length old) new) ∙ ap (λ l. l ++ drop (length old) new) front

pub HasNames-front : (old new : List (List ℕ)) → IsFront old new → HasNames old → HasNames new
HasNames-front old new front h = record {
  made = λ t m. HasText-front old new front t (h.made t m);
  procedures = λ t m. HasText-front old new front t (h.procedures t m);
}

-- a table grew, and has the first of some texts
pub record Grown (old new texts : List (List ℕ)) (i : ℕ) : Type 0 where
  pub front : IsFront old new
  pub have : (k : ℕ) → k < i → HasText new (get_or texts k [])

pub Grown-none : (names texts : List (List ℕ)) → Grown names names texts 0
Grown-none names texts = record { front = IsFront-itself names; have = λ k h. absurd (omega arith) }

pub Grown-more : (old mid new texts : List (List ℕ)) (i n : ℕ) (t : List ℕ) → Grown old mid texts i → IsFront mid new → slice_get new n ≡ Some t → get_or texts i [] ≡ t → Grown old new texts (i + 1)
Grown-more old mid new texts i n t h front at e = record {
  front = IsFront-trans old mid new h.front front;
  have = below_more (λ k. HasText new (get_or texts k [])) i (λ k lt. HasText-front mid new front (get_or texts k []) (h.have k lt)) (subst (HasText new) (sym e) (HasText-number new t n at));
}

have-all : (names texts : List (List ℕ)) → ((k : ℕ) → k < length texts → HasText names (get_or texts k [])) → (t : List ℕ) → HasText texts t → HasText names t
have-all names [] h t m = cc
have-all names (x ∷ xs) h t m = by (same_text t x) refl m (have-all names xs (λ k lt. h (suc k) (omega arith)) t)
  where
    by : (b : Bool) → same_text t x ≡ b → (b || list_any (same_text t) xs) ≡ true → (HasText xs t → HasText names t) → HasText names t
    by true e m f = subst (HasText names) (sym (same_text-is t x e)) (h zero (omega arith))
    by false e m f = f m

-- all are there
pub Grown-all : (old new texts : List (List ℕ)) (i : ℕ) → Grown old new texts i → length texts ≤ i → (t : List ℕ) → HasText texts t → HasText new t
Grown-all old new texts i h few = have-all new texts (λ k lt. h.have k (omega arith))

abbrev pub texts_in : List (Bor (List ℕ)) → List (List ℕ)
texts_in = map (λ (text : Bor (List ℕ)). text.now)

pub text-at : (items : List (Bor (List ℕ))) (i : ℕ) (d : Bor (List ℕ)) → i < length items → get_or (texts_in items) i [] ≡ (get_or items i d).now
text-at items i d h = get_or-map (λ (text : Bor (List ℕ)). text.now) items i d [] h

abbrev pub procedures_in : List CaseRow → List (List ℕ)
procedures_in rows = procedure_names (cases_of rows)

pub procedure-at : (rows : List CaseRow) (i : ℕ) (d : CaseRow) → i < length rows → get_or (procedures_in rows) i [] ≡ (get_or rows i d).name.now
procedure-at rows i d h =
    let low : i < length (cases_of rows) = omega (arith, length-map rows case_of) in
    get_or-map (λ (procedure : Case). procedure.name) (cases_of rows) i (case_of d) [] low ∙ ap (λ (procedure : Case). procedure.name) (get_or-map case_of rows i d (case_of d) h)

pub HasNames-all : (old mid new : List (List ℕ)) (items : List (Bor (List ℕ))) (rows : List CaseRow) (i j : ℕ) → texts_in items ≡ made_texts → cases_of rows ≡ builtins
    → Grown old mid (texts_in items) i → length items ≤ i → Grown mid new (procedures_in rows) j → length rows ≤ j → HasNames new
HasNames-all old mid new items rows i j e f h few g low = record {
  made = λ t m. HasText-front mid new g.front t (Grown-all old mid (texts_in items) i h (omega (arith, length-map items (λ (text : Bor (List ℕ)). text.now), few)) t (subst (λ texts. HasText texts t) (sym e) m));
  procedures = λ t m. Grown-all mid new (procedures_in rows) j g (omega (arith, length-map (cases_of rows) (λ (procedure : Case). procedure.name), length-map rows case_of, low)) t
      (subst (λ cs. HasText (procedure_names cs) t) (sym f) m);
}

-- making a name of a text that is there adds none
pub kept-first : (old new : List (List ℕ)) (t : List ℕ) → HasText made_texts t → (HasText old t → new ≡ old) → HasNames old → new ≡ old
kept-first old new t here there h = there (h.made t here)

pub kept-step : (old mid new : List (List ℕ)) (t : List ℕ) → HasText made_texts t → (HasNames old → mid ≡ old) → (HasText mid t → new ≡ mid) → HasNames old → new ≡ old
kept-step old mid new t here before there h =
    let same : mid ≡ old = before h in
    there ((subst HasNames (sym same) h).made t here) ∙ same

pub kept-trans : (old mid new : List (List ℕ)) → (HasNames old → mid ≡ old) → (HasNames mid → new ≡ mid) → HasNames old → new ≡ old
kept-trans old mid new before after h =
    let same : mid ≡ old = before h in
    after (subst HasNames (sym same) h) ∙ same
