-- Passes over lists, one part after another.
use Rattle.std.proofs.Common.{◌≡◌, List, [], ◌∷◌, ◌++◌, sym, ap, subst, ◌∙◌, append_assoc}
use Rattle.std.specs.List.{flat_map}
use Rattle.std.proofs.lemmas.List.{append-nil}
use Rattle.std.proofs.lemmas.List.Concat.{flat_map-append}
use Rattle.link_model.specs.Places.{steps}
use Rattle.mod_faults.specs.Passing.{made_of, Passes}

pub steps-append : {A : Type 0} (before xs ys : List A) → steps before (xs ++ ys) ≡ steps before xs ++ steps (before ++ xs) ys
steps-append before [] ys = ap (λ b. steps b ys) (sym (append-nil before))
steps-append {A} before (x ∷ xs) ys =
    ap (λ (l : List (List A × A)). (before, x) ∷ l) (steps-append (before ++ x ∷ []) xs ys ∙ ap (λ b. steps (before ++ x ∷ []) xs ++ steps b ys) (append_assoc before (x ∷ []) xs))

module _ {S A F : Type 0} (Keeps : S → List A → Type 0) (made : List A → A → List F) where
  made-append : (before xs ys : List A) → made_of made before (xs ++ ys) ≡ made_of made before xs ++ made_of made (before ++ xs) ys
  made-append before xs ys = ap (flat_map (λ x. made x.0 x.1)) (steps-append before xs ys) ∙ flat_map-append (λ (x : List A × A). made x.0 x.1) (steps before xs) (steps (before ++ xs) ys)

  pub passes-none : (s : S) (old : List F) → Passes Keeps made [] s s old old
  passes-none s old before h = (subst (Keeps s) (sym (append-nil before)) h, sym (append-nil old))

  pub passes-more : (xs ys : List A) (s s' t : S) (old new last : List F) → Passes Keeps made xs s s' old new → Passes Keeps made ys s' t new last → Passes Keeps made (xs ++ ys) s t old last
  passes-more xs ys s s' t old new last p q before h =
      let a = p before h in
      let b = q (before ++ xs) a.0 in (
        subst (Keeps t) (append_assoc before xs ys) b.0,
        b.1 ∙ ap (λ l. l ++ made_of made (before ++ xs) ys) a.1 ∙ append_assoc old (made_of made before xs) (made_of made (before ++ xs) ys)
            ∙ ap (λ l. old ++ l) (sym (made-append before xs ys)),
      )

  -- what belongs to one element
  pub passes-one : (x : A) (s s' : S) (old new : List F) → ((before : List A) → Keeps s before → Keeps s' (before ++ x ∷ []) × (new ≡ old ++ made before x)) → Passes Keeps made (x ∷ []) s s' old new
  passes-one x s s' old new h before k = let r = h before k in (r.0, r.1 ∙ ap (λ l. old ++ l) (sym (append-nil (made before x))))
