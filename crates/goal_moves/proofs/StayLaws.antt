-- A term on which replacements were made already, as goals.
use Rattle.std.proofs.Common.{◌≡◌, ℕ, Bool, true, false, List, [], ◌∷◌, ◌++◌, Option, Some, None, Ok, refl, sym, ap, ◌∙◌, subst, map, codes, if◌then◌else◌}
use Rattle.std.proofs.lemmas.List.{map-append}
use Rattle.pl_terms.specs.Trees.{Tree, var, int, atom, comp, nil, cons}
use Rattle.unifier_model.specs.Substitution.{apply, replace}
use Rattle.solver_model.specs.Search.{Call}
use Rattle.builtin_model.specs.Naming.{Naming}
use Rattle.builtin_model.specs.Faults.{term_of_one}
use Rattle.unit_model.specs.Directives.{is_control}
use Rattle.goal_model.specs.Environments.{Environment}
use Rattle.goal_model.specs.Bodies.{is_named, joined, converted, convertible, goal_of, flat}
use Rattle.goal_model.specs.Table.{Items, item_under}

abbrev left_of : Tree ℕ → Tree ℕ
left_of (comp f (cons l ts)) = l
left_of t = t

abbrev right_of : Tree ℕ → Tree ℕ
right_of (comp f (cons l (cons r ts))) = r
right_of t = t

one_part : (bs : List (ℕ × Tree ℕ)) (f : ℕ) (t : Tree ℕ) → apply bs (comp f (cons t nil)) ≡ comp f (cons (apply bs t) nil)
one_part [] f t = refl
one_part (b ∷ bs) f t = one_part bs f (replace b.0 b.1 t)

two_parts : (bs : List (ℕ × Tree ℕ)) (f : ℕ) (l r : Tree ℕ) → apply bs (comp f (cons l (cons r nil))) ≡ comp f (cons (apply bs l) (cons (apply bs r) nil))
two_parts [] f l r = refl
two_parts (b ∷ bs) f l r = two_parts bs f (replace b.0 b.1 l) (replace b.0 b.1 r)

module _ (n : Naming ℕ) (bs : List (ℕ × Tree ℕ)) where
  abbrev Stays : Tree ℕ → Type 0
  Stays t = apply bs t ≡ t

  one_stays : (t : Tree ℕ) (env : Environment ℕ) (d : ℕ) → Stays t → map (item_under bs) (Call (record { tree = t; env = env; reach = d }) ∷ []) ≡ Call (record { tree = t; env = env; reach = d }) ∷ []
  one_stays t env d h = ap (λ u. Call (record { tree = u; env = env; reach = d }) ∷ []) h

  -- its goals
  pub flat_stays : (t : Tree ℕ) (env : Environment ℕ) (d : ℕ) → Stays t → map (item_under bs) (flat n t env d) ≡ flat n t env d
  flat_stays (var v) env d h = one_stays (var v) env d h
  flat_stays (int z) env d h = one_stays (int z) env d h
  flat_stays (atom s) env d h = one_stays (atom s) env d h
  flat_stays (comp f nil) env d h = one_stays (comp f nil) env d h
  flat_stays (comp f (cons l nil)) env d h = one_stays (comp f (cons l nil)) env d h
  flat_stays (comp f (cons l (cons r (cons t ts)))) env d h = one_stays (comp f (cons l (cons r (cons t ts)))) env d h
  flat_stays (comp f (cons l (cons r nil))) env d h = go (is_named n f (codes ",")) (flat_stays l env d (ap left_of (sym (two_parts bs f l r) ∙ h))) (flat_stays r env d (ap right_of (sym (two_parts bs f l r) ∙ h)))
    where
      whole : Items ℕ
      whole = Call (record { tree = comp f (cons l (cons r nil)); env = env; reach = d }) ∷ []

      go : (b : Bool) → map (item_under bs) (flat n l env d) ≡ flat n l env d → map (item_under bs) (flat n r env d) ≡ flat n r env d
          → map (item_under bs) (if b then flat n l env d ++ flat n r env d else whole) ≡ (if b then flat n l env d ++ flat n r env d else whole)
      go true i j = map-append (item_under bs) (flat n l env d) (flat n r env d) ∙ ap (λ x. x ++ map (item_under bs) (flat n r env d)) i ∙ ap (λ x. flat n l env d ++ x) j
      go false i j = one_stays (comp f (cons l (cons r nil))) env d h

  -- a term that it was converted to
  abbrev AllStay : Option (Tree ℕ) → Type 0
  AllStay None = Unit {0}
  AllStay (Some t) = Stays t

  joined_stays : (f : ℕ) (p q : Option (Tree ℕ)) → AllStay p → AllStay q → AllStay (joined f p q)
  joined_stays f None q h k = tt
  joined_stays f (Some l) None h k = tt
  joined_stays f (Some l) (Some r) h k = two_parts bs f l r ∙ ap (λ x. comp f (cons x (cons (apply bs r) nil))) h ∙ ap (λ x. comp f (cons l (cons x nil))) k

  converted_stays : (t : Tree ℕ) → Stays t → AllStay (converted n t)
  converted_stays (var v) h = one_part bs (n.name (codes "call")) (var v) ∙ ap (λ x. term_of_one n (codes "call") x) h
  converted_stays (int z) h = tt
  converted_stays (atom s) h = h
  converted_stays (comp f nil) h = h
  converted_stays (comp f (cons l nil)) h = h
  converted_stays (comp f (cons l (cons r (cons t ts)))) h = h
  converted_stays (comp f (cons l (cons r nil))) h = go (is_control (n.text f)) (converted_stays l (ap left_of (sym (two_parts bs f l r) ∙ h))) (converted_stays r (ap right_of (sym (two_parts bs f l r) ∙ h)))
    where
      go : (b : Bool) → AllStay (converted n l) → AllStay (converted n r) → AllStay (if b then joined f (converted n l) (converted n r) else Some (comp f (cons l (cons r nil))))
      go true i j = joined_stays f (converted n l) (converted n r) i j
      go false i j = h

  from_option : (o : Option (Tree ℕ)) (t u : Tree ℕ) (f k : ℕ) → AllStay o → convertible n o t f k ≡ Ok u → Stays u
  from_option None t u f k h is = cc
  from_option (Some x) t u f k h is = let e : x ≡ u = cc in subst Stays e h

  pub goal_stays : (t u : Tree ℕ) (f k : ℕ) → Stays t → goal_of n t f k ≡ Ok u → Stays u
  goal_stays (var v) u f k h is = cc
  goal_stays (int z) u f k h is = from_option (converted n (int z)) (int z) u f k (converted_stays (int z) h) is
  goal_stays (atom s) u f k h is = from_option (converted n (atom s)) (atom s) u f k (converted_stays (atom s) h) is
  goal_stays (comp g ts) u f k h is = from_option (converted n (comp g ts)) (comp g ts) u f k (converted_stays (comp g ts) h) is
