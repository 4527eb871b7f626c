-- Lines of answers over texts.
use Rattle.std.proofs.Common.{◌≡◌, ℕ, zero, suc, ◌+◌, ◌<◌, ◌≤◌, List, [], ◌∷◌, ◌++◌, Bool, true, false, if◌then◌else◌, codes, None, refl, sym, ap, ◌∙◌, arith, map, get_or, length, take}
use Rattle.std.specs.List.{All}
use Rattle.std.proofs.lemmas.List.{get_or-map, length-map, take_more, map-append, take_all}
use Rattle.pl_terms.specs.Trees.{Tree, var}
use Rattle.pl_terms.specs.Order.{texts_of}
use Rattle.pl_terms.specs.Occurrence.{from_to}
use Rattle.pl_terms.specs.declared.read_term.VarName.{VarName}
use Rattle.pl_ops.specs.Tables.{Operators}
use Rattle.pl_unify.specs.State.{State, tree_of_var}
use Rattle.prep_report.specs.declared.answer.Binding.{Binding}
use Rattle.prep_report.specs.Lines.{is_shown, next_text, bindings_text}
use Rattle.goal_state.specs.Denotation.{template_of}
use Rattle.pl_machine.specs.Shown.{value_in, binding_shown, next_shown, bindings_shown}

-- a variable with its value, or with itself where it is not shown
abbrev pub value_shown : State → List ℕ → ℕ → Tree ℕ
value_shown s name n = if is_shown name then tree_of_var s n else var n

abbrev pub bound_as : State → VarName → Binding
bound_as s v = record { name = v.name; term = value_shown s v.name v.number }

length-from_to : (k n : ℕ) → length (from_to k n) ≡ n
length-from_to k zero = refl
length-from_to k (suc n) = ap suc (length-from_to (suc k) n)

get_or-from_to : (k n m d : ℕ) → m < n → get_or (from_to k n) m d ≡ k + m
get_or-from_to k zero m d h = absurd (omega arith)
get_or-from_to k (suc n) zero d h = omega arith
get_or-from_to k (suc n) (suc m) d h = omega (arith, get_or-from_to (suc k) n m d (omega arith))

module _ (look : Operators) (names : List (List ℕ)) (width : ℕ) (s : State) where
  abbrev pub values : List (Tree (List ℕ))
  values = map (texts_of names) (template_of s width None)

  value-at : (n : ℕ) → n < width → value_in values n ≡ texts_of names (tree_of_var s n)
  value-at n h =
      let within : n < length (from_to 0 width) = omega (arith, length-from_to 0 width) in
      let number : get_or (from_to 0 width) n 0 ≡ n = omega (arith, get_or-from_to 0 width n 0 h) in
      get_or-map (texts_of names) (map (tree_of_var s) (from_to 0 width)) n (tree_of_var s 0) (var 0) (omega (arith, within, length-map (from_to 0 width) (tree_of_var s)))
      ∙ ap (texts_of names) (get_or-map (tree_of_var s) (from_to 0 width) n 0 (tree_of_var s 0) within ∙ ap (tree_of_var s) number)

  -- the value of a variable is shown over texts, if it is shown
  next-value : (some shown : Bool) (name : List ℕ) (n : ℕ) → is_shown name ≡ shown → n < width → next_text look names some (record { name = name; term = value_shown s name n }) ≡ next_shown look some name (value_in values n)
  next-value some true name n e h =
      ap (λ x. if x then (if some then codes ", " else []) ++ binding_shown look name (texts_of names (if x then tree_of_var s n else var n)) else []) e
      ∙ ap (λ t. (if some then codes ", " else []) ++ binding_shown look name t) (sym (value-at n h))
      ∙ ap (λ x. if x then (if some then codes ", " else []) ++ binding_shown look name (value_in values n) else []) (sym e)
  next-value some false name n e h =
      ap (λ x. if x then (if some then codes ", " else []) ++ binding_shown look name (texts_of names (if x then tree_of_var s n else var n)) else []) e
      ∙ ap (λ x. if x then (if some then codes ", " else []) ++ binding_shown look name (value_in values n) else []) (sym e)

  -- the bindings over numbers are those over texts
  pub bindings-shown : (some : Bool) (vs : List VarName) → All (λ v. v.number < width) vs → bindings_text look names some (map (bound_as s) vs) ≡ bindings_shown look some vs values
  bindings-shown some [] h = refl
  bindings-shown some (v ∷ vs) h =
      let next : Bool = if is_shown v.name then true else some in
      let here : v.number < width = h zero v (omega arith) in
      ap (λ l. l ++ bindings_text look names next (map (bound_as s) vs)) (next-value some (is_shown v.name) v.name v.number refl here)
      ∙ ap (λ l. next_shown look some v.name (value_in values v.number) ++ l) (bindings-shown next vs (λ k d l. h (suc k) d (omega (arith, l))))

-- one more variable is bound
pub bound-more : (s : State) (vs : List VarName) (i : ℕ) (v : VarName) (old new : List Binding) → i < length vs → v ≡ get_or vs i v → old ≡ map (bound_as s) (take i vs) → new ≡ old ++ bound_as s v ∷ [] → new ≡ map (bound_as s) (take (i + 1) vs)
bound-more s vs i v old new within is was pushed =
    pushed ∙ ap (λ l. l ++ bound_as s v ∷ []) was
    ∙ sym (map-append (bound_as s) (take i vs) (v ∷ []))
    ∙ ap (λ x. map (bound_as s) (take i vs ++ x ∷ [])) is
    ∙ ap (map (bound_as s)) (sym (take_more vs i v within))

pub bound-all : (s : State) (vs : List VarName) (i : ℕ) (l : List Binding) → length vs ≤ i → l ≡ map (bound_as s) (take i vs) → l ≡ map (bound_as s) vs
bound-all s vs i l few is = is ∙ ap (map (bound_as s)) (take_all i vs few)
