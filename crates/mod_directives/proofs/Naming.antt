-- The names of an operator directive.
use Rattle.std.proofs.Common.{◌≡◌, ℕ, List, [], ◌∷◌, ◌++◌, codes, Bool, true, false, Option, Some, None, if◌then◌else◌, refl, sym, ap, ◌∙◌, option_and_then}
use Rattle.std.proofs.lemmas.List.{map-append}
use Rattle.pl_atoms.specs.declared.names.NameId.{NameId}
use Rattle.pl_ops.specs.Tables.{same_text}
use Rattle.pl_terms.specs.Trees.{Tree, var, int, atom, comp, Trees, nil, cons, back, renamed}
use Rattle.pl_terms.specs.Cells.{first}
use Rattle.unit_model.specs.Directives.{Text, first_of, both, single, text_in, items_in, all_of, operator_names_in}
use Rattle.term_walk.specs.Walks.{first_cell, entered, is_functor}
use Rattle.mod_directives.specs.Several.{all_by, listed_by}
use Rattle.mod_directives.specs.Lists.{is_end}
use Rattle.mod_directives.specs.Operators.{texts}
use Rattle.mod_directives.proofs.Putting.{append-empty}
use Rattle.mod_directives.proofs.Steps.{both-empty, both-step, cell_listed, end_listed, all_of-singles}

-- the atoms of a list
abbrev pub name_in : Tree Text → Option (List Text)
name_in t = single (text_in t)

module _ (f : ℕ → List ℕ) where
  abbrev pub named : Trees ℕ → Option (List Text)
  named ts = listed_by name_in (renamed f (first ts))

  texts-push : (ids : List NameId) (id : NameId) → texts f (ids ++ id ∷ []) ≡ texts f ids ++ f id.0 ∷ []
  texts-push ids id = map-append (λ (n : NameId). f n.0) ids (id ∷ [])

  -- an atom is passed by its one cell
  pub atom-passed : (ts : Trees ℕ) (s : Text) → Some s ≡ text_in (renamed f (first ts)) → entered ts ≡ back 1 ts
  atom-passed nil s e = refl
  atom-passed (cons (var n) ts) s e = refl
  atom-passed (cons (int z) ts) s e = refl
  atom-passed (cons (atom r) ts) s e = refl
  atom-passed (cons (comp r us) ts) s e = absurd (cc)

  pub names-more : (ts us vs : Trees ℕ) (ids new : List NameId) (id : NameId) (b : Bool) (o : Option (List Text)) → b ≡ is_functor f (codes ".") 2 ts → b ≡ true → us ≡ entered ts
      → Some (f id.0) ≡ text_in (renamed f (first us)) → new ≡ ids ++ id ∷ [] → vs ≡ entered us → both (Some (texts f ids)) (named ts) ≡ o → both (Some (texts f new)) (named vs) ≡ o
  names-more ts us vs ids new id b o is taken next found push passed e =
      ap (λ l. both (Some (texts f l)) (named vs)) push
      ∙ ap (λ ws. both (Some (texts f (ids ++ id ∷ []))) (named ws)) (passed ∙ atom-passed us (f id.0) found)
      ∙ sym (both-step (texts f ids) (texts f (ids ++ id ∷ [])) (name_in (renamed f (first us))) (named (back 1 us))
      (ap (λ p. both (Some (texts f ids)) (single p)) (sym found) ∙ ap Some (sym (texts-push ids id))))
      ∙ ap (λ ws. both (Some (texts f ids)) (both (name_in (renamed f (first ws))) (named (back 1 ws)))) next
      ∙ ap (both (Some (texts f ids))) (sym (cell_listed name_in f ts (sym is ∙ taken)))
      ∙ e

  none_both : (xs : List Text) (o : Option (List Text)) → both (Some xs) None ≡ both (Some []) o → None ≡ o
  none_both xs None e = refl
  none_both xs (Some ys) e = absurd (cc)

  pub names-none : (start ts us : Trees ℕ) (ids none : List NameId) (b : Bool) → none ≡ [] → b ≡ is_functor f (codes ".") 2 ts → b ≡ true → us ≡ entered ts → None ≡ text_in (renamed f (first us))
      → both (Some (texts f ids)) (named ts) ≡ both (Some (texts f none)) (named start) → None ≡ named start
  names-none start ts us ids none b empty is taken next absent e =
      none_both (texts f ids) (named start)
      (sym (ap (both (Some (texts f ids)))
      (cell_listed name_in f ts (sym is ∙ taken) ∙ ap (λ ws. both (name_in (renamed f (first ws))) (named (back 1 ws))) (sym next) ∙ ap (λ p. both (single p) (named (back 1 us))) (sym absent)))
      ∙ e ∙ ap (λ l. both (Some (texts f l)) (named start)) empty)

  pub names-end : (start ts : Trees ℕ) (ids none : List NameId) (b e : Bool) → none ≡ [] → b ≡ is_functor f (codes ".") 2 ts → b ≡ false → e ≡ is_end f (first_cell ts)
      → both (Some (texts f ids)) (named ts) ≡ both (Some (texts f none)) (named start) → (if e then Some (texts f ids) else None) ≡ named start
  names-end start ts ids none b true empty is left ends h =
      sym (sym (both-empty (named start)) ∙ ap (λ l. both (Some (texts f l)) (named start)) (sym empty) ∙ sym h
      ∙ ap (both (Some (texts f ids))) (end_listed name_in f ts (sym is ∙ left) ∙ ap (λ (d : Bool). if d then Some [] else None) (sym ends))
      ∙ ap Some (append-empty (texts f ids)))
  names-end start ts ids none b false empty is left ends h =
      none_both (texts f ids) (named start)
      (sym (ap (both (Some (texts f ids))) (end_listed name_in f ts (sym is ∙ left) ∙ ap (λ (d : Bool). if d then Some [] else None) (sym ends)))
      ∙ h ∙ ap (λ l. both (Some (texts f l)) (named start)) empty)

  -- all names, from a list or from one atom
  same_and_then : (o : Option (List (Tree Text))) → option_and_then (all_of text_in) o ≡ option_and_then (all_by name_in) o
  same_and_then None = refl
  same_and_then (Some ts) = all_of-singles text_in ts

  first_of-none : (o : Option (List Text)) → first_of o None ≡ o
  first_of-none None = refl
  first_of-none (Some xs) = refl

  pub all-listed : (t : Tree Text) (o : Option (List Text)) → None ≡ text_in t → o ≡ listed_by name_in t → o ≡ operator_names_in t
  all-listed t o absent e =
      e ∙ sym (same_and_then (items_in t)) ∙ sym (first_of-none (option_and_then (all_of text_in) (items_in t)))
      ∙ ap (λ p. first_of (option_and_then (all_of text_in) (items_in t)) (single p)) absent

  atom-named : (s : Text) (b : Bool) → first_of (option_and_then (all_of text_in) (if b then Some [] else None)) (Some (s ∷ [])) ≡ Some (if b then [] else s ∷ [])
  atom-named s true = refl
  atom-named s false = refl

  chosen-texts : (b : Bool) (id : NameId) → texts f (if b then [] else id ∷ []) ≡ (if b then [] else f id.0 ∷ [])
  chosen-texts true id = refl
  chosen-texts false id = refl

  pub one-named : (t : Tree Text) (id : NameId) (ids : List NameId) → Some (f id.0) ≡ text_in t → ids ≡ (if same_text (f id.0) (codes "[]") then [] else id ∷ []) → Some (texts f ids) ≡ operator_names_in t
  one-named (var n) id ids found e = absurd (cc)
  one-named (int z) id ids found e = absurd (cc)
  one-named (comp s us) id ids found e = absurd (cc)
  one-named (atom s) id ids found e =
      let same : f id.0 ≡ s = cc in
      ap (λ l. Some (texts f l)) e
      ∙ ap Some (chosen-texts (same_text (f id.0) (codes "[]")) id)
      ∙ ap (λ r. Some (if same_text r (codes "[]") then [] else r ∷ [])) same
      ∙ sym (atom-named s (same_text s (codes "[]")))
