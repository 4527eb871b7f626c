-- Notes of blocks without unbound variables, and the walk that makes them.
use Rattle.std.proofs.Common.{◌≡◌, ◌≢◌, ℕ, zero, suc, ◌+◌, ◌-◌, ◌<◌, ◌≤◌, List, [], ◌∷◌, ◌++◌, take, drop, length, get_or, set, refl, ap, ◌∙◌, sym, subst, Bool, true, false, arith, ◌||◌, ◌⊎◌, inl, inr, reverse, nat_eq}
use Rattle.std.proofs.lemmas.List.{append-nil, length_push, length-append, take-append-drop, take-append-le, take-take, get_or-take, length-take-le, get_or_append_left, get_or_push, drop_more, reverse-append, take_all, get_or-set_same, get_or-set_other}
use Rattle.std.proofs.lemmas.Bool.{cases_lt, cases_eq}
use Rattle.pl_atoms.specs.declared.names.NameId.{NameId}
use Rattle.pl_terms.specs.Trees.{Tree, var}
use Rattle.unifier_model.specs.Substitution.{occurs, occurs_any, size, sizes, apply}
use Rattle.pl_unify.specs.Prefix.{trees}
use Rattle.pl_unify.specs.declared.word.Word.{Word}
use Rattle.pl_unify.specs.declared.word.Word.TheVariants as W
use Rattle.pl_unify.specs.declared.store.Mark.{Mark}
use Rattle.pl_unify.specs.declared.store.notes.Step.{Step}
use Rattle.pl_unify.specs.declared.store.notes.Step.TheVariants.{Visit, Done}
use Rattle.pl_unify.specs.Words.{Link, bases, bound_onto, IsFree, WordIn}
use Rattle.pl_unify.specs.State.{State, IsStore, IsMark, state_at, base, bound, tree_at, places, shape, tree_of_word}
use Rattle.pl_unify.specs.Notes.{IsGround, GroundBlock, GroundThen, Noted, InOrder, IsNotes, Forgotten, no_note, visits, StepsIn, visit_trees, Honest, Clears, ClearBlock, IsPassed, Entered}
use Rattle.unifier_model.proofs.Replaced.{replace-absent, apply-append}
use Rattle.pl_unify.proofs.Grown.{bases-append, bases-begins, length-bases_nil, bound_onto-append, bound_onto-begins}
use Rattle.pl_unify.proofs.Adds.{bound-more}
use Rattle.pl_unify.proofs.Walk.{tree_at-places, occurs_any-append}
use Rattle.pl_unify.proofs.Shapes.{length-places, tree_of_word-shape}
use Rattle.unifier_model.proofs.MguProofs.{size_pos}
use Rattle.pl_unify.proofs.Low.{Absent, occurs_any-trees}

-- a tree without variables stays
ground-apply : (bs : List (ℕ × Tree ℕ)) (t : Tree ℕ) → IsGround t → apply bs t ≡ t
ground-apply [] t g = refl
ground-apply (b ∷ bs) t g =
    let e = replace-absent b.0 b.1 t (g b.0) in
    ap (apply bs) e ∙ ground-apply bs t g

base-front : (cells more : List Word) (q : ℕ) → q < length cells → get_or (bases [] (cells ++ more)) q (var 0) ≡ get_or (bases [] cells) q (var 0)
base-front cells more q h =
    let r = bases-begins (bases [] cells) more in
    ap (λ x. get_or x q (var 0)) (bases-append [] cells more ∙ r.1) ∙ get_or_append_left (bases [] cells) r.0 (var 0) q (omega (arith, length-bases_nil cells))

ground-cells : (s : State) (more : List Word) (p k t : ℕ) → IsStore s → t ≤ length s.links → GroundThen s.cells s.links p k t → GroundThen (s.cells ++ more) s.links p k t
ground-cells s more p k t st h g = record {
  low = omega (arith, g.low, length-append s.cells more);
  ground = λ q a b.
      let same : apply (bound_onto (bases [] (s.cells ++ more)) [] (take t s.links)) (get_or (bases [] (s.cells ++ more)) q (var 0)) ≡ apply (bound_onto (bases [] s.cells) [] (take t s.links)) (get_or (bases [] s.cells) q (var 0)) =
      ap (λ bs. apply bs (get_or (bases [] (s.cells ++ more)) q (var 0))) (bound-more s more t st h) ∙ ap (apply (bound_onto (bases [] s.cells) [] (take t s.links))) (base-front s.cells more q (omega (arith, g.low))) in
      subst IsGround (sym same) (g.ground q a b);
}

pub notes-cells : (s : State) (more : List Word) (ground : List ℕ) (noted : List (ℕ × ℕ)) → IsStore s → IsNotes s.cells s.links ground noted → IsNotes (s.cells ++ more) s.links ground noted
notes-cells s more ground noted st n = record {
  order = n.order;
  low = n.low;
  notes = λ p h.
      let m : Noted s.cells s.links noted p (get_or ground p 0) = n.notes p h in
      record { index = m.index; here = m.here; place = m.place; ground = ground-cells s more p (get_or ground p 0) (get_or noted m.index no_note).1 st (n.low m.index m.here) m.ground };
}

pub notes-links : (cells : List Word) (links : List Link) (l : Link) (ground : List ℕ) (noted : List (ℕ × ℕ)) → IsNotes cells links ground noted → IsNotes cells (links ++ l ∷ []) ground noted
notes-links cells links l ground noted n = record {
  order = n.order;
  low = λ i h. omega (arith, n.low i h, length_push links l);
  notes = λ p h.
      let m : Noted cells links noted p (get_or ground p 0) = n.notes p h in
      let t : ℕ = (get_or noted m.index no_note).1 in
      let same : take t (links ++ l ∷ []) ≡ take t links = take-append-le t links (l ∷ []) (n.low m.index m.here) in
      record {
        index = m.index;
        here = m.here;
        place = m.place;
        ground = record { low = m.ground.low; ground = λ q a b. subst (λ ls. IsGround (apply (bound_onto (bases [] cells) [] ls) (get_or (bases [] cells) q (var 0)))) (sym same) (m.ground.ground q a b) };
      };
}

pub notes-none : (cells : List Word) (links : List Link) (ground : List ℕ) (noted : List (ℕ × ℕ)) → ground ≡ [] → noted ≡ [] → IsNotes cells links ground noted
notes-none cells links ground noted e f = record {
  order = λ i j a b. absurd (omega (arith, ap length f));
  low = λ i a. absurd (omega (arith, ap length f));
  notes = λ p h. absurd (omega (arith, ap (λ g. get_or g p 0) e));
}

take_low : (n : ℕ) (xs : List ℕ) (p : ℕ) → 0 < get_or (take n xs) p 0 → (p < n) × (get_or (take n xs) p 0 ≡ get_or xs p 0)
take_low zero xs p h = absurd (omega arith)
take_low (suc n) [] p h = absurd (omega arith)
take_low (suc n) (x ∷ xs) zero h = (omega arith, refl)
take_low (suc n) (x ∷ xs) (suc p) h = let r = take_low n xs p h in (omega (arith, r.0), r.1)

ground-undo : (s : State) (m : Mark) (p k t : ℕ) → IsMark m s → t ≤ m.trail → p < m.cells → GroundThen s.cells s.links p k t → GroundThen (take m.cells s.cells) (take m.trail s.links) p k t
ground-undo s m p k t mark h l g = record {
  low = omega (arith, length-take-le m.cells s.cells mark.cells);
  ground = λ q a b.
      let cells : List Word = take m.cells s.cells in
      let more : List Word = drop m.cells s.cells in
      let split : cells ++ more ≡ s.cells = take-append-drop m.cells s.cells in
      let few : t ≤ length (take m.trail s.links) = omega (arith, length-take-le m.trail s.links mark.trail) in
      let bounds : bound_onto (bases [] (cells ++ more)) [] (take t (take m.trail s.links)) ≡ bound_onto (bases [] cells) [] (take t (take m.trail s.links)) = bound-more (state_at m s) more t mark.store few in
      let links : take t (take m.trail s.links) ≡ take t s.links = take-take t m.trail s.links h in
      let at : get_or (bases [] (cells ++ more)) q (var 0) ≡ get_or (bases [] cells) q (var 0) = base-front cells more q (omega (arith, length-take-le m.cells s.cells mark.cells)) in
      let old : IsGround (apply (bound_onto (bases [] (cells ++ more)) [] (take t (take m.trail s.links))) (get_or (bases [] (cells ++ more)) q (var 0))) =
      subst (λ cs. IsGround (apply (bound_onto (bases [] cs) [] (take t (take m.trail s.links))) (get_or (bases [] cs) q (var 0)))) (sym split)
      (subst (λ ls. IsGround (apply (bound_onto (bases [] s.cells) [] ls) (get_or (bases [] s.cells) q (var 0)))) (sym links) (g.ground q a b)) in
      subst (λ bs. IsGround (apply bs (get_or (bases [] cells) q (var 0)))) bounds (subst (λ x. IsGround (apply (bound_onto (bases [] (cells ++ more)) [] (take t (take m.trail s.links))) x)) at old);
}

pub notes-undo : (s : State) (m : Mark) (ground ground' : List ℕ) (noted noted' : List (ℕ × ℕ)) → IsMark m s → IsNotes s.cells s.links ground noted → Forgotten ground ground' noted noted' m.trail
    → IsNotes (take m.cells s.cells) (take m.trail s.links) (take m.cells ground') noted'
notes-undo s m ground ground' noted noted' mark n f = record {
  order = f.order;
  low = λ i h. omega (arith, f.low i h, length-take-le m.trail s.links mark.trail);
  notes = λ p h.
      let r = take_low m.cells ground' p h in
      let h' : 0 < get_or ground' p 0 = omega (arith, r.1) in
      let e : get_or ground p 0 ≡ get_or (take m.cells ground') p 0 = sym (r.1 ∙ f.same p h') in
      let old : Noted s.cells s.links noted p (get_or ground p 0) = n.notes p (omega (arith, f.same p h')) in
      let k = f.kept p h' old.index old.here old.place in
      let t : (get_or noted' old.index no_note).1 ≡ (get_or noted old.index no_note).1 = ap (λ x. x.1) k.1 in
      record {
        index = old.index;
        here = k.0;
        place = ap (λ x. x.0) k.1 ∙ old.place;
        ground = subst (λ x. GroundThen (take m.cells s.cells) (take m.trail s.links) p x (get_or noted' old.index no_note).1) e
            (subst (GroundThen (take m.cells s.cells) (take m.trail s.links) p (get_or ground p 0)) (sym t) (ground-undo s m p (get_or ground p 0) (get_or noted old.index no_note).1 mark (omega (arith, f.low old.index k.0, t)) r.0 old.ground));
      };
}

-- a note says what it says in the state that the store is in
pub noted-block : (s : State) (ground : List ℕ) (noted : List (ℕ × ℕ)) (first k last : ℕ) → IsNotes s.cells s.links ground noted → last + 1 ≡ first + k → 0 < k → k ≤ get_or ground last 0 → GroundBlock s first k
noted-block s ground noted first k last n e some enough i l =
    let m : Noted s.cells s.links noted last (get_or ground last 0) = n.notes last (omega arith) in
    let t : ℕ = (get_or noted m.index no_note).1 in
    let pre : List (ℕ × Tree ℕ) = bound_onto (base s) [] (take t s.links) in
    let more = bound_onto-begins (base s) pre (drop t s.links) in
    let is : bound s ≡ pre ++ more.0 = ap (bound_onto (base s) []) (sym (take-append-drop t s.links)) ∙ (bound_onto-append (base s) [] (take t s.links) (drop t s.links) ∙ more.1) in
    let x : Tree ℕ = get_or (base s) (first + i) (var 0) in
    let g : IsGround (apply pre x) = m.ground.ground (first + i) (omega arith) (omega arith) in
    subst IsGround (sym (ap (λ bs. apply bs x) is ∙ (apply-append pre more.0 x ∙ ground-apply more.0 (apply pre x) g))) g

-- the same notes by another list that reads the same
pub notes-same : (cells : List Word) (links : List Link) (ground ground' : List ℕ) (noted noted' : List (ℕ × ℕ)) → ((p : ℕ) → get_or ground' p 0 ≡ get_or ground p 0) → noted' ≡ noted → IsNotes cells links ground noted → IsNotes cells links ground' noted'
notes-same cells links ground ground' noted noted' e f n = record {
  order = subst InOrder (sym f) n.order;
  low = λ i h. subst (λ ns. i < length ns → (get_or ns i no_note).1 ≤ length links) (sym f) (n.low i) h;
  notes = λ p h. subst (λ ns. Noted cells links ns p (get_or ground' p 0)) (sym f) (subst (Noted cells links noted p) (sym (e p)) (n.notes p (omega (arith, e p))));
}

order-push : (links : List Link) (noted : List (ℕ × ℕ)) (p t : ℕ) → InOrder noted → ((i : ℕ) → i < length noted → (get_or noted i no_note).1 ≤ t) → InOrder (noted ++ (p, t) ∷ [])
order-push links noted p t o low i j a b = go (cases_lt j (length noted)) (cases_lt i (length noted))
  where
    go : (j < length noted) ⊎ (length noted ≤ j) → (i < length noted) ⊎ (length noted ≤ i) → (get_or (noted ++ (p, t) ∷ []) i no_note).1 ≤ (get_or (noted ++ (p, t) ∷ []) j no_note).1
    go (inl h) (inl g) = rw (get_or_append_left noted ((p, t) ∷ []) no_note j h, get_or_append_left noted ((p, t) ∷ []) no_note i g) (o i j a h)
    go (inl h) (inr g) = absurd (omega arith)
    go (inr h) (inl g) =
        let e : length noted ≡ j = omega (arith, length_push noted (p, t)) in
        rw (get_or_push noted (p, t) no_note j e, get_or_append_left noted ((p, t) ∷ []) no_note i g) (low i g)
    go (inr h) (inr g) =
        let e : i ≡ j = omega (arith, length_push noted (p, t)) in
        subst (λ x. (get_or (noted ++ (p, t) ∷ []) i no_note).1 ≤ (get_or (noted ++ (p, t) ∷ []) x no_note).1) e (omega arith)

-- one more note
pub notes-push : (s : State) (ground ground' : List ℕ) (noted noted' : List (ℕ × ℕ)) (first k last t : ℕ) → IsNotes s.cells s.links ground noted → ((p : ℕ) → get_or ground' p 0 ≡ get_or ground p 0) → last < length ground'
    → noted' ≡ noted ++ (last, t) ∷ [] → t ≡ length s.links → last + 1 ≡ first + k → first + k ≤ length s.cells → GroundBlock s first k → IsNotes s.cells s.links (set ground' last k) noted'
notes-push s ground ground' noted noted' first k last t n same room f all e fits g =
    subst (IsNotes s.cells s.links (set ground' last k)) (sym f) (record {
      order = order-push s.links noted last t n.order (λ i h. omega (arith, n.low i h));
      low = λ i h. low i h (cases_lt i (length noted));
      notes = λ p h. one p h (cases_eq p last);
    })
  where
    low : (i : ℕ) → i < length (noted ++ (last, t) ∷ []) → (i < length noted) ⊎ (length noted ≤ i) → (get_or (noted ++ (last, t) ∷ []) i no_note).1 ≤ length s.links
    low i h (inl a) = rw (get_or_append_left noted ((last, t) ∷ []) no_note i a) (n.low i a)
    low i h (inr a) = rw (get_or_push noted (last, t) no_note i (omega (arith, length_push noted (last, t)))) (omega arith)

    one : (p : ℕ) → 0 < get_or (set ground' last k) p 0 → (p ≡ last) ⊎ (p ≢ last) → Noted s.cells s.links (noted ++ (last, t) ∷ []) p (get_or (set ground' last k) p 0)
    one p h (inl x) =
        let here : get_or (set ground' last k) p 0 ≡ k = ap (λ q. get_or (set ground' last k) q 0) x ∙ get_or-set_same ground' last k 0 room in
        let at : get_or (noted ++ (last, t) ∷ []) (length noted) no_note ≡ (last, t) = get_or_push noted (last, t) no_note (length noted) refl in
        record {
          index = length noted;
          here = omega (arith, length_push noted (last, t));
          place = ap (λ y. y.0) at ∙ sym x;
          ground = record {
            low = omega arith;
            ground = λ q a b.
                let i : ℕ = q - first in
                let is : first + i ≡ q = omega arith in
                let links : take (get_or (noted ++ (last, t) ∷ []) (length noted) no_note).1 s.links ≡ s.links = ap (λ y. take y.1 s.links) at ∙ (ap (λ y. take y s.links) all ∙ take_all (length s.links) s.links (omega arith)) in
                subst (λ ls. IsGround (apply (bound_onto (bases [] s.cells) [] ls) (get_or (bases [] s.cells) q (var 0)))) (sym links)
                (subst (λ y. IsGround (tree_at s (record { 0 = y }))) is (g i (omega arith)));
          };
        }
    one p h (inr x) =
        let there : get_or (set ground' last k) p 0 ≡ get_or ground p 0 = get_or-set_other ground' last p k 0 x ∙ same p in
        let m : Noted s.cells s.links noted p (get_or ground p 0) = n.notes p (omega (arith, there)) in
        let at : get_or (noted ++ (last, t) ∷ []) m.index no_note ≡ get_or noted m.index no_note = get_or_append_left noted ((last, t) ∷ []) no_note m.index m.here in
        record {
          index = m.index;
          here = omega (arith, m.here, length_push noted (last, t));
          place = ap (λ y. y.0) at ∙ m.place;
          ground = subst (λ y. GroundThen s.cells s.links p y (get_or (noted ++ (last, t) ∷ []) m.index no_note).1) (sym there)
              (subst (λ y. GroundThen s.cells s.links p (get_or ground p 0) y.1) (sym at) m.ground);
        }

-- one note is taken off
pub forgotten_start : (ground : List ℕ) (noted : List (ℕ × ℕ)) → InOrder noted → (p : ℕ) → 0 < get_or ground p 0 → (i : ℕ) → i < length noted → (get_or noted i no_note).0 ≡ p
    → (i < length noted) × (get_or noted i no_note ≡ get_or noted i no_note)
forgotten_start ground noted o p h i l e = (l, refl)

-- what is left of a walk
pub record Walking (s : State) (n met : ℕ) (es : List Step) (all : Bool) : Type 0 where
  pub below : StepsIn (length s.cells) es
  pub honest : Honest s met (Unit {0}) es
  pub clears : Clears s n (Unit {0}) es
  pub rest : occurs_any n (trees (visit_trees s es)) ≡ all

abbrev pub step_weight : State → List Step → ℕ
step_weight s [] = 0
step_weight s (Visit p ∷ es) = size (tree_at s (record { 0 = p })) + size (tree_at s (record { 0 = p })) + step_weight s es
step_weight s (Done first k was ∷ es) = suc (step_weight s es)

honest-weaker : (s : State) (met : ℕ) (P Q : Type 0) (es : List Step) → (Q → P) → Honest s met P es → Honest s met Q es
honest-weaker s met P Q [] f h = tt
honest-weaker s met P Q (Visit p ∷ es) f h =
    honest-weaker s met (P × IsGround (tree_at s (record { 0 = p }))) (Q × IsGround (tree_at s (record { 0 = p }))) es (λ q. (f q.0, q.1)) h
honest-weaker s met P Q (Done first k was ∷ es) f h = (h.0, λ e q. h.1 e (f q), honest-weaker s met P Q es f h.2)

honest-met : (s : State) (met : ℕ) (P Q : Type 0) (es : List Step) → Honest s met P es → Honest s (met + 1) Q es
honest-met s met P Q [] h = tt
honest-met s met P Q (Visit p ∷ es) h = honest-met s met (P × IsGround (tree_at s (record { 0 = p }))) (Q × IsGround (tree_at s (record { 0 = p }))) es h
honest-met s met P Q (Done first k was ∷ es) h = (omega (arith, h.0), λ e q. absurd (omega (arith, h.0)), honest-met s met P Q es h.2)

block-zero : (s : State) (first : ℕ) → GroundBlock s first 0
block-zero s first i l = absurd (omega arith)

block-suc : (s : State) (first k : ℕ) → IsGround (tree_at s (record { 0 = first })) → GroundBlock s (first + 1) k → GroundBlock s first (suc k)
block-suc s first k g b zero l = let e : first + 0 ≡ first = omega arith in subst (λ p. IsGround (tree_at s (record { 0 = p }))) (sym e) g
block-suc s first k g b (suc i) l = let e : (first + 1) + i ≡ first + suc i = omega arith in subst (λ p. IsGround (tree_at s (record { 0 = p }))) e (b i (omega arith))

honest-visits : (s : State) (met : ℕ) (P : Type 0) (first k : ℕ) (es : List Step) → Honest s met (P × GroundBlock s first k) es → Honest s met P (visits first k ++ es)
honest-visits s met P first zero es h = honest-weaker s met (P × GroundBlock s first 0) P es (λ p. (p, block-zero s first)) h
honest-visits s met P first (suc k) es h =
    honest-visits s met (P × IsGround (tree_at s (record { 0 = first }))) (first + 1) k es
    (honest-weaker s met (P × GroundBlock s first (suc k)) ((P × IsGround (tree_at s (record { 0 = first }))) × GroundBlock s (first + 1) k) es (λ q. (q.0.0, block-suc s first k q.0.1 q.1)) h)

clears-weaker : (s : State) (n : ℕ) (P Q : Type 0) (es : List Step) → (Q → P) → Clears s n P es → Clears s n Q es
clears-weaker s n P Q [] f h = tt
clears-weaker s n P Q (Visit p ∷ es) f h =
    clears-weaker s n (P × (occurs n (tree_at s (record { 0 = p })) ≡ false)) (Q × (occurs n (tree_at s (record { 0 = p })) ≡ false)) es (λ q. (f q.0, q.1)) h
clears-weaker s n P Q (Done first k was ∷ es) f h = (λ q. h.0 (f q), clears-weaker s n P Q es f h.1)

clear-zero : (s : State) (n first : ℕ) → ClearBlock s n first 0
clear-zero s n first i l = absurd (omega arith)

clear-suc : (s : State) (n first k : ℕ) → occurs n (tree_at s (record { 0 = first })) ≡ false → ClearBlock s n (first + 1) k → ClearBlock s n first (suc k)
clear-suc s n first k g b zero l = let e : first + 0 ≡ first = omega arith in subst (λ p. occurs n (tree_at s (record { 0 = p })) ≡ false) (sym e) g
clear-suc s n first k g b (suc i) l = let e : (first + 1) + i ≡ first + suc i = omega arith in subst (λ p. occurs n (tree_at s (record { 0 = p })) ≡ false) e (b i (omega arith))

clears-visits : (s : State) (n : ℕ) (P : Type 0) (first k : ℕ) (es : List Step) → Clears s n (P × ClearBlock s n first k) es → Clears s n P (visits first k ++ es)
clears-visits s n P first zero es h = clears-weaker s n (P × ClearBlock s n first 0) P es (λ p. (p, clear-zero s n first)) h
clears-visits s n P first (suc k) es h =
    clears-visits s n (P × (occurs n (tree_at s (record { 0 = first })) ≡ false)) (first + 1) k es
    (clears-weaker s n (P × ClearBlock s n first (suc k)) ((P × (occurs n (tree_at s (record { 0 = first })) ≡ false)) × ClearBlock s n (first + 1) k) es (λ q. (q.0.0, clear-suc s n first k q.0.1 q.1)) h)

steps-in-visits : (n first k : ℕ) (es : List Step) → first + k ≤ n → StepsIn n es → StepsIn n (visits first k ++ es)
steps-in-visits n first zero es h g = g
steps-in-visits n first (suc k) es h g = (omega arith, steps-in-visits n (first + 1) k es (omega arith) g)

span-next : (s : State) (first k : ℕ) → first + suc k ≤ length s.cells → take (suc k) (drop first (places s)) ≡ tree_at s (record { 0 = first }) ∷ take k (drop (first + 1) (places s))
span-next s first k h =
    ap (take (suc k)) (drop_more (places s) first (var 0) (omega (arith, length-places s)))
    ∙ ap (λ t. t ∷ take k (drop (first + 1) (places s))) (sym (tree_at-places s first (omega arith)))

visit-trees-visits : (s : State) (first k : ℕ) (es : List Step) → first + k ≤ length s.cells → visit_trees s (visits first k ++ es) ≡ take k (drop first (places s)) ++ visit_trees s es
visit-trees-visits s first zero es h = refl
visit-trees-visits s first (suc k) es h =
    ap (λ ts. tree_at s (record { 0 = first }) ∷ ts) (visit-trees-visits s (first + 1) k es (omega arith)) ∙ ap (λ ts. ts ++ visit_trees s es) (sym (span-next s first k h))

weight-visits : (s : State) (first k : ℕ) (es : List Step) → first + k ≤ length s.cells
    → step_weight s (visits first k ++ es) ≡ sizes (trees (take k (drop first (places s)))) + sizes (trees (take k (drop first (places s)))) + step_weight s es
weight-visits s first zero es h = omega arith
weight-visits s first (suc k) es h = omega (arith, weight-visits s (first + 1) k es (omega arith), ap (λ ts. sizes (trees ts)) (span-next s first k h))

absent-block : (s : State) (n first k : ℕ) → first + k ≤ length s.cells → GroundBlock s first k → Absent n (take k (drop first (places s)))
absent-block s n first zero h g = tt
absent-block s n first (suc k) h g =
    let e : first + 0 ≡ first = omega arith in
    let one : IsGround (tree_at s (record { 0 = first })) = subst (λ p. IsGround (tree_at s (record { 0 = p }))) e (g 0 (omega arith)) in
    subst (Absent n) (sym (span-next s first k h))
    (one n, absent-block s n (first + 1) k (omega arith) (λ i l. let x : first + suc i ≡ (first + 1) + i = omega arith in subst (λ p. IsGround (tree_at s (record { 0 = p }))) x (g (suc i) (omega arith))))

comp-ground : (s : State) (k first : ℕ) (f : NameId) → first + k ≤ length s.cells → GroundBlock s first k → IsGround (shape s (W.Comp k f first))
comp-ground s k first f h g n = occurs_any-trees n (take k (drop first (places s))) (absent-block s n first k h g)

absent-clear : (s : State) (n first k : ℕ) → first + k ≤ length s.cells → ClearBlock s n first k → Absent n (take k (drop first (places s)))
absent-clear s n first zero h g = tt
absent-clear s n first (suc k) h g =
    let e : first + 0 ≡ first = omega arith in
    let one : occurs n (tree_at s (record { 0 = first })) ≡ false = subst (λ p. occurs n (tree_at s (record { 0 = p })) ≡ false) e (g 0 (omega arith)) in
    subst (Absent n) (sym (span-next s first k h))
    (one, absent-clear s n (first + 1) k (omega arith) (λ i l. let x : first + suc i ≡ (first + 1) + i = omega arith in subst (λ p. occurs n (tree_at s (record { 0 = p })) ≡ false) x (g (suc i) (omega arith))))

comp-clear : (s : State) (n k first : ℕ) (f : NameId) → first + k ≤ length s.cells → ClearBlock s n first k → occurs n (shape s (W.Comp k f first)) ≡ false
comp-clear s n k first f h g = occurs_any-trees n (take k (drop first (places s))) (absent-clear s n first k h g)

-- a block is passed from now on
pub passed-more : (s : State) (n : ℕ) (passed filled : List ℕ) (first k last : ℕ) → IsPassed s n passed → ((p : ℕ) → get_or filled p 0 ≡ get_or passed p 0) → last < length filled
    → last + 1 ≡ first + k → ClearBlock s n first k → IsPassed s n (set filled last k)
passed-more s n passed filled first k last was same room f clear p q a b = one (cases_eq p last)
  where
    one : (p ≡ last) ⊎ (p ≢ last) → occurs n (tree_at s (record { 0 = q })) ≡ false
    one (inl e) =
        let here : get_or (set filled last k) p 0 ≡ k = ap (λ x. get_or (set filled last k) x 0) e ∙ get_or-set_same filled last k 0 room in
        let at : first + (q - first) ≡ q = omega (arith, a, b, here, e, f) in
        subst (λ x. occurs n (tree_at s (record { 0 = x })) ≡ false) at (clear (q - first) (omega (arith, a, b, here, e, f)))
    one (inr ne) =
        let there : get_or (set filled last k) p 0 ≡ get_or filled p 0 = get_or-set_other filled last p k 0 ne in
        was p q a (omega (arith, b, there, same p))

-- the walk begins with a compound's arguments
pub walk_begin : (s s' : State) (n k first : ℕ) (f : NameId) (w : Word) (es old : List Step) → s' ≡ s → w ≡ W.Comp k f first → WordIn (length s.cells) s.next w
    → ((m : ℕ) → w ≡ W.Var m → IsFree m s.links) → es ≡ visits first k ++ reverse old → old ≡ [] → Walking s' n 0 es (occurs n (tree_of_word s w))
walk_begin s s' n k first f w es old same is within free e none =
    let h : first + k ≤ length s.cells = (subst (WordIn (length s.cells) s.next) is within).0 in
    let start : es ≡ visits first k ++ [] = e ∙ ap (λ o. visits first k ++ reverse o) none in
    let tree : occurs n (shape s (W.Comp k f first)) ≡ occurs n (tree_of_word s w) = sym (ap (occurs n) (tree_of_word-shape s w free ∙ ap (shape s) is)) in
    subst (λ z. Walking z n 0 es (occurs n (tree_of_word s w))) (sym same) (subst (λ x. Walking s n 0 x (occurs n (tree_of_word s w))) (sym start) (record {
      below = steps-in-visits (length s.cells) first k [] h tt;
      honest = honest-visits s 0 (Unit {0}) first k [] tt;
      clears = clears-visits s n (Unit {0}) first k [] tt;
      rest = ap (λ ts. occurs_any n (trees ts)) (visit-trees-visits s first k [] h ∙ append-nil (take k (drop first (places s)))) ∙ tree;
    }))

module _ (s : State) (n met : ℕ) (es : List Step) (all : Bool) (p : ℕ) (w : Word) (k : Walking s n met (Visit p ∷ es) all) (is : tree_at s (record { 0 = p }) ≡ shape s w) where
  other : occurs n (shape s w) ≡ false → occurs_any n (trees (visit_trees s es)) ≡ all
  other e = sym (ap (λ b. b || occurs_any n (trees (visit_trees s es))) (ap (occurs n) is ∙ e)) ∙ k.rest

  passed_over : occurs n (shape s w) ≡ false → Clears s n (Unit {0}) es
  passed_over e = clears-weaker s n (Unit {0} × (occurs n (tree_at s (record { 0 = p })) ≡ false)) (Unit {0}) es (λ u. (u, ap (occurs n) is ∙ e)) k.clears

  pub walk_found : w ≡ W.Var n → all ≡ true
  walk_found e =
      let here : occurs n (tree_at s (record { 0 = p })) ≡ true = ap (occurs n) is ∙ (ap (λ x. occurs n (shape s x)) e ∙ search arith) in
      sym k.rest ∙ ap (λ b. b || occurs_any n (trees (visit_trees s es))) here

  pub walk_var : (m : ℕ) → w ≡ W.Var m → n ≢ m → Walking s n (met + 1) es all
  walk_var m e ne =
      let absent : nat_eq n m ≡ false = search arith in
      record {
        below = k.below.1;
        honest = honest-met s met (Unit {0} × IsGround (tree_at s (record { 0 = p }))) (Unit {0}) es k.honest;
        clears = passed_over (ap (λ x. occurs n (shape s x)) e ∙ absent);
        rest = other (ap (λ x. occurs n (shape s x)) e ∙ absent);
      }

  ground_step : IsGround (shape s w) → Walking s n met es all
  ground_step g = record {
    below = k.below.1;
    honest = honest-weaker s met (Unit {0} × IsGround (tree_at s (record { 0 = p }))) (Unit {0}) es (λ u. (u, subst IsGround (sym is) g)) k.honest;
    clears = passed_over (g n);
    rest = other (g n);
  }

  pub walk_plain : ((m : ℕ) → w ≡ W.Var m → ⊥) → ((j : ℕ) (f : NameId) (first : ℕ) → w ≡ W.Comp j f first → ⊥) → Walking s n met es all
  walk_plain nv nc = ground_step (plain w nv nc)
    where
      plain : (x : Word) → ((m : ℕ) → x ≡ W.Var m → ⊥) → ((j : ℕ) (f : NameId) (first : ℕ) → x ≡ W.Comp j f first → ⊥) → IsGround (shape s x)
      plain (W.Var m) a b i = absurd (a m refl)
      plain (W.Int m) a b i = refl
      plain (W.Name m) a b i = refl
      plain (W.Comp j f first) a b i = absurd (b j f first refl)

  pub walk_noted : (j first : ℕ) (f : NameId) → w ≡ W.Comp j f first → first + j ≤ length s.cells → GroundBlock s first j → Walking s n met es all
  walk_noted j first f e h g = ground_step (subst (λ x. IsGround (shape s x)) (sym e) (comp-ground s j first f h g))

  pub walk_passed : (j first : ℕ) (f : NameId) → w ≡ W.Comp j f first → first + j ≤ length s.cells → ClearBlock s n first j → Walking s n (met + 1) es all
  walk_passed j first f e h g =
      let clear : occurs n (shape s w) ≡ false = ap (λ x. occurs n (shape s x)) e ∙ comp-clear s n j first f h g in
      record {
        below = k.below.1;
        honest = honest-met s met (Unit {0} × IsGround (tree_at s (record { 0 = p }))) (Unit {0}) es k.honest;
        clears = passed_over clear;
        rest = other clear;
      }

  pub walk_comp : (j first : ℕ) (f : NameId) (new : List Step) → w ≡ W.Comp j f first → first + j ≤ length s.cells → new ≡ visits first j ++ (Done first j met ∷ es)
      → Walking s n met new all × (step_weight s new < step_weight s (Visit p ∷ es))
  walk_comp j first f new e h made =
      let tree_is : tree_at s (record { 0 = p }) ≡ shape s (W.Comp j f first) = is ∙ ap (shape s) e in
      let args : List (Tree ℕ) = take j (drop first (places s)) in
      let trees_are : visit_trees s (visits first j ++ (Done first j met ∷ es)) ≡ args ++ visit_trees s es = visit-trees-visits s first j (Done first j met ∷ es) h in
      let up : (q : Unit {0} × GroundBlock s first j) → Unit {0} × IsGround (tree_at s (record { 0 = p })) = λ q. (tt, subst IsGround (sym tree_is) (comp-ground s j first f h q.1)) in (
        subst (λ x. Walking s n met x all) (sym made) (record {
          below = steps-in-visits (length s.cells) first j (Done first j met ∷ es) h (h, k.below.1);
          honest = honest-visits s met (Unit {0}) first j (Done first j met ∷ es)
              (omega arith, λ x q. q.1, honest-weaker s met (Unit {0} × IsGround (tree_at s (record { 0 = p }))) (Unit {0} × GroundBlock s first j) es up k.honest);
          clears = clears-visits s n (Unit {0}) first j (Done first j met ∷ es)
              (λ q. q.1, clears-weaker s n (Unit {0} × (occurs n (tree_at s (record { 0 = p })) ≡ false)) (Unit {0} × ClearBlock s n first j) es (λ q. (tt, ap (occurs n) tree_is ∙ comp-clear s n j first f h q.1)) k.clears);
          rest = ap (λ ts. occurs_any n (trees ts)) trees_are ∙ (occurs_any-append n args (visit_trees s es)
              ∙ (sym (ap (λ t. occurs n t || occurs_any n (trees (visit_trees s es))) tree_is) ∙ k.rest));
        }),
        omega (arith, ap (step_weight s) made, weight-visits s first j (Done first j met ∷ es) h, ap size tree_is),
      )

-- a compound is noted, or its arguments are put on
pub walk_entered : (s : State) (n met : ℕ) (all : Bool) (p : ℕ) (w : Word) (old new : List Step) → Walking s n met (Visit p ∷ reverse old) all → tree_at s (record { 0 = p }) ≡ shape s w
    → (j first : ℕ) (f : NameId) → w ≡ W.Comp j f first → first + j ≤ length s.cells → Entered s first j met old new
    → Walking s n met (reverse new) all × (step_weight s (reverse new) < step_weight s (Visit p ∷ reverse old))
walk_entered s n met all p w old new k is j first f e h (inl noted) = (
  subst (λ x. Walking s n met (reverse x) all) (sym noted.1) (walk_noted s n met (reverse old) all p w k is j first f e h noted.0),
  omega (arith, ap (λ x. step_weight s (reverse x)) noted.1, size_pos (tree_at s (record { 0 = p }))),
)
walk_entered s n met all p w old new k is j first f e h (inr made) = walk_comp s n met (reverse old) all p w k is j first f (reverse new) e h made

pub walk_done : (s : State) (n met : ℕ) (es : List Step) (all : Bool) (first j was : ℕ) → Walking s n met (Done first j was ∷ es) all
    → Walking s n met es all × (first + j ≤ length s.cells) × (was ≡ met → GroundBlock s first j) × ClearBlock s n first j
walk_done s n met es all first j was k = (record { below = k.below.1; honest = k.honest.2; clears = k.clears.1; rest = k.rest }, k.below.0, λ e. k.honest.1 e tt, k.clears.0 tt)

pub reverse-step : (xs : List Step) (x : Step) → reverse (xs ++ x ∷ []) ≡ x ∷ reverse xs
reverse-step xs x = reverse-append xs (x ∷ [])

pub visits-more : (first count k : ℕ) (rest : List Step) → k < count → Visit (first + k) ∷ (visits (first + (k + 1)) (count - (k + 1)) ++ rest) ≡ visits (first + k) (count - k) ++ rest
visits-more first count k rest h =
    let e : count - k ≡ suc (count - (k + 1)) = omega arith in
    let f : first + (k + 1) ≡ (first + k) + 1 = omega arith in
    rw (e, f)

-- the notes that are left
pub forgotten : (ground ground' : List ℕ) (noted noted' : List (ℕ × ℕ)) (bindings : ℕ) → InOrder noted → length noted' ≤ length noted → noted' ≡ take (length noted') noted
    → (0 < length noted' → (get_or noted' (length noted' - 1) no_note).1 ≤ bindings)
    → ((p : ℕ) → 0 < get_or ground' p 0 → get_or ground' p 0 ≡ get_or ground p 0)
    → ((p : ℕ) → 0 < get_or ground' p 0 → (i : ℕ) → i < length noted → (get_or noted i no_note).0 ≡ p → i < length noted')
    → Forgotten ground ground' noted noted' bindings
forgotten ground ground' noted noted' bindings o few front last same kept =
    let at : (i : ℕ) → i < length noted' → get_or noted' i no_note ≡ get_or noted i no_note = λ i h. ap (λ ns. get_or ns i no_note) front ∙ get_or-take (length noted') noted i no_note h in
    let order : InOrder noted' = λ i j a b. rw (at j b, at i (omega arith)) (o i j a (omega arith)) in
    record {
      order = order;
      low = λ i h. omega (arith, order i (length noted' - 1) (omega arith) (omega arith), last (omega arith));
      same = same;
      kept = λ p g i h e. (kept p g i h e, at i (kept p g i h e));
    }
