-- Terms that are renamed to new variables, one after the other, and the list of them.
use Rattle.std.proofs.Common.{◌≡◌, ℕ, ◌+◌, ◌<◌, ◌≤◌, List, [], ◌∷◌, ◌++◌, refl, sym, ap, ◌∙◌, subst, arith, length, take, drop, map, get_or, zero, suc}
use Rattle.std.specs.Prelude.{codes}
use Rattle.std.proofs.lemmas.List.{take_more, take_all, map-append, drop_more}
use Rattle.pl_terms.specs.Trees.{Tree, comp, nil, cons}
use Rattle.pl_unify.specs.Prefix.{trees}
use Rattle.builtin_model.specs.Lists.{list_tree}
use Rattle.goal_state.specs.declared.compiled.CompiledProgram.{CompiledProgram}
use Rattle.goal_state.specs.Denotation.{naming}
use Rattle.goal_state.specs.Well.{IsCompiled}
use Rattle.pl_unify.specs.declared.word.Ref.{Ref}
use Rattle.pl_unify.specs.State.{State, tree_at, IsRef, Grows}
use Rattle.pl_unify.specs.Making.{AreRefs}
use Rattle.pl_unify.proofs.Loading.{Grows-trans, Grows-refl}
use Rattle.goal_model.specs.Table.{copies, copy_from, variable_count}

copies_more : (next : ℕ) (ts : List (Tree ℕ)) (t : Tree ℕ) → copies next (ts ++ t ∷ []) ≡ ((copies next ts).0 ++ copy_from (copies next ts).1 t ∷ [], (copies next ts).1 + variable_count t)
copies_more next [] t = refl
copies_more next (u ∷ ts) t = ap (λ r. (copy_from next u ∷ r.0, r.1)) (copies_more (next + variable_count u) ts t)

pub refs_grown : (s s' : State) (rs : List Ref) → Grows s s' → AreRefs s rs → AreRefs s' rs
refs_grown s s' [] g h = tt
refs_grown s s' (r ∷ rs) g h = let m = g.extends.more_cells in (omega (arith, h.0, m), refs_grown s s' rs g h.1)

pub trees_grown : (s s' : State) (rs : List Ref) → Grows s s' → AreRefs s rs → map (tree_at s') rs ≡ map (tree_at s) rs
trees_grown s s' [] g h = refl
trees_grown s s' (r ∷ rs) g h = ap (λ t. t ∷ map (tree_at s') rs) (g.places r h.0) ∙ ap (λ l. tree_at s r ∷ l) (trees_grown s s' rs g h.1)

refs_push : (s : State) (rs : List Ref) (r : Ref) → AreRefs s rs → IsRef s r → AreRefs s (rs ++ r ∷ [])
refs_push s [] r h k = (k, tt)
refs_push s (x ∷ rs) r h k = (h.0, refs_push s rs r h.1 k)

-- places of copies of these terms
pub record Copied (first s : State) (places : List Ref) (ts : List (Tree ℕ)) : Type 0 where
  pub grows : Grows first s
  pub refs : AreRefs s places
  pub trees : map (tree_at s) places ≡ (copies first.next ts).0
  pub next : s.next ≡ (copies first.next ts).1

-- one more
pub copied_more : (first s new : State) (places places2 : List Ref) (ts : List (Tree ℕ)) (i : ℕ) (t : Tree ℕ) (at : Ref) → i < length ts → t ≡ get_or ts i t → Copied first s places (take i ts) → Grows s new → IsRef new at → tree_at new at ≡ copy_from s.next t → new.next ≡ s.next + variable_count t → places2 ≡ places ++ at ∷ []
    → Copied first new places2 (take (i + 1) ts)
copied_more first s new places places2 ts i t at within is h grows place tree next pushed =
    let all : take (i + 1) ts ≡ take i ts ++ t ∷ [] = take_more ts i t within ∙ ap (λ x. take i ts ++ x ∷ []) (sym is) in
    let more : copies first.next (take (i + 1) ts) ≡ ((copies first.next (take i ts)).0 ++ copy_from (copies first.next (take i ts)).1 t ∷ [], (copies first.next (take i ts)).1 + variable_count t) =
    ap (copies first.next) all ∙ copies_more first.next (take i ts) t in
    record {
      grows = Grows-trans first s new h.grows grows;
      refs = subst (AreRefs new) (sym pushed) (refs_push new places at (refs_grown s new places grows h.refs) place);
      trees =
          ap (map (tree_at new)) pushed ∙ map-append (tree_at new) places (at ∷ [])
          ∙ ap (λ l. l ++ tree_at new at ∷ []) (trees_grown s new places grows h.refs ∙ h.trees)
          ∙ ap (λ x. (copies first.next (take i ts)).0 ++ x ∷ []) (tree ∙ ap (λ n. copy_from n t) h.next)
          ∙ sym (ap (λ r. r.0) more);
      next = next ∙ ap (λ n. n + variable_count t) h.next ∙ sym (ap (λ r. r.1) more);
    }

pub ref_in : (s : State) (rs : List Ref) (i : ℕ) (d : Ref) → AreRefs s rs → i < length rs → IsRef s (get_or rs i d)
ref_in s [] i d h lt = absurd (omega (arith, lt))
ref_in s (r ∷ rs) zero d h lt = h.0
ref_in s (r ∷ rs) (suc i) d h lt = ref_in s rs i d h.1 (omega (arith, lt))

-- one more item in front
pub listed_more : (b : CompiledProgram) → IsCompiled b → (first s new : State) (items : List Ref) (left i : ℕ) (x list at d : Ref) → left ≡ i + 1 → left ≤ length items → AreRefs first items → x ≡ get_or items i d → Grows first s
    → tree_at s list ≡ list_tree (naming b) (map (tree_at first) (drop left items)) → tree_at new at ≡ comp b.constructs.names.dot.0 (trees (map (tree_at s) (x ∷ list ∷ [])))
    → tree_at new at ≡ list_tree (naming b) (map (tree_at first) (drop i items))
listed_more b compiled first s new items left i x list at d split le refs is grows tree made =
    let here : tree_at s x ≡ tree_at first (get_or items i d) = ap (tree_at s) is ∙ grows.places (get_or items i d) (ref_in first items i d refs (omega (arith, split, le))) in
    let dot : b.constructs.names.dot.0 ≡ (naming b).name (codes ".") = sym compiled.constructs.names.dot.made in
    made
    ∙ ap (λ f. comp f (cons (tree_at s x) (cons (tree_at s list) nil))) dot
    ∙ ap (λ t. comp ((naming b).name (codes ".")) (cons t (cons (tree_at s list) nil))) here
    ∙ ap (λ t. comp ((naming b).name (codes ".")) (cons (tree_at first (get_or items i d)) (cons t nil))) (tree ∙ ap (λ k. list_tree (naming b) (map (tree_at first) (drop k items))) split)
    ∙ ap (λ l. list_tree (naming b) (map (tree_at first) l)) (sym (drop_more items i d (omega (arith, split, le))))

pub copied_none : (s : State) (places : List Ref) (ts : List (Tree ℕ)) → places ≡ [] → Copied s s places (take 0 ts)
copied_none s places ts is = subst (λ l. Copied s s l (take 0 ts)) (sym is) (record { grows = Grows-refl s; refs = tt; trees = refl; next = refl })

pub copied_all : (first s : State) (places : List Ref) (ts : List (Tree ℕ)) (i : ℕ) → length ts ≤ i → Copied first s places (take i ts) → Copied first s places ts
copied_all first s places ts i le h = subst (Copied first s places) (take_all i ts le) h
