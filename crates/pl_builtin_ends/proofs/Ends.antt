-- What ends of built-in predicates show.
use Rattle.std.proofs.Common.{◌≡◌, ◌∙◌, ℕ, ◌+◌, List, [], ◌∷◌, ◌++◌, refl, ap, sym, subst, Some, None, Ok, Err, Result, Bool, true, false, MatchBool, arith}
use Rattle.std.specs.Prelude.{IfOk, OnErr}
use Rattle.std.proofs.lemmas.List.{append_assoc, append-nil}
use Rattle.pl_atoms.specs.declared.memory.NoMemory.{NoMemory}
use Rattle.pl_terms.specs.Trees.{Tree}
use Rattle.unifier_model.specs.Substitution.{apply}
use Rattle.unifier_model.specs.Mgu.{mgu}
use Rattle.unifier_model.specs.Unifier.{Solved}
use Rattle.unifier_model.specs.Unifier.Solved.{solved}
use Rattle.unifier_model.proofs.MguProofs.{Solved-mgu}
use Rattle.unifier_model.proofs.Only.{mgu-Solved}
use Rattle.unifier_model.proofs.Replaced.{apply-append}
use Rattle.pl_unify.specs.declared.store.Mark.{Mark}
use Rattle.pl_unify.specs.declared.word.Ref.{Ref}
use Rattle.pl_unify.specs.State.{State, tree_at, IsRef, bound, Grows, Extends, IsMark, state_at}
use Rattle.pl_unify.specs.Steps.{Unified, NotUnified}
use Rattle.pl_unify.proofs.StoreLaws.{Extends-refl, Extends-trans, state_at-extends}
use Rattle.pl_unify.proofs.Chain.{then}
use Rattle.builtin_model.specs.Faults.{Fault}
use Rattle.builtin_model.specs.Deeds.{Deed, equal, raise, halt, whether}
use Rattle.pl_builtin_ends.specs.declared.done.Done.{Done}
use Rattle.pl_builtin_ends.specs.declared.done.Done.TheVariants as D
use Rattle.pl_builtin_ends.specs.Meets.{Unifies, Meets, Answers, Succeeds, fault_of}

-- undoing to a mark gives the state of the mark
pub undone : (m : Mark) (old mid new : State) → IsMark m old → state_at m old ≡ old → Extends old mid → new ≡ state_at m mid → new ≡ old
undone m old mid new k same e h = h ∙ state_at-extends m old mid e k ∙ same

-- what was added is taken off unless it succeeds
pub settled : (m : Mark) (old mid new : State) (deed : Deed ℕ) (r : Result Done NoMemory) → IsMark m old → state_at m old ≡ old → Extends old mid
    → IfOk r (λ done. Answers old mid deed done) → (r ≡ Ok D.Yes → new ≡ mid) → ((r ≡ Ok D.Yes → ⊥) → new ≡ state_at m mid) → IfOk r (λ done. Meets old new deed done)
settled m old mid new deed (Ok D.Yes) k same e h kept u = subst (λ s. Succeeds old s deed) (sym (kept refl)) h
settled m old mid new deed (Ok D.No) k same e h kept u = (undone m old mid new k same e (u (λ p. cc)), h)
settled m old mid new deed (Ok (D.Raise x)) k same e h kept u = (undone m old mid new k same e (u (λ p. cc)), h.0, h.1)
settled m old mid new deed (Ok (D.Halt z)) k same e h kept u = (undone m old mid new k same e (u (λ p. cc)), h)
settled m old mid new deed (Err x) k same e h kept u = tt

pub settled-err : (m : Mark) (old mid new : State) (r : Result Done NoMemory) → IsMark m old → state_at m old ≡ old → Extends old mid
    → ((r ≡ Ok D.Yes → ⊥) → new ≡ state_at m mid) → OnErr r (new ≡ old)
settled-err m old mid new (Ok x) k same e u = tt
settled-err m old mid new (Err x) k same e u = undone m old mid new k same e (u (λ p. cc))

-- places alone were made before the equations were unified
Unifies-grown : (old mid new : State) (es fs : List (Tree ℕ × Tree ℕ)) (k : ℕ) → Grows old mid → mid.next ≡ old.next + k → es ≡ fs → Unifies mid new es 0 → Unifies old new fs k
Unifies-grown old mid new es fs k g n e b = record {
  extends = Extends-trans old mid new g.extends b.extends;
  unifier = b.unifier;
  solved = subst (λ x. mgu x ≡ Some b.unifier) e b.solved;
  bound = b.bound ∙ ap (λ x. x ++ b.unifier) g.bound;
  places = λ r h. b.places r (more g.extends r h) ∙ ap (apply b.unifier) (g.places r h);
  variables = λ m. b.variables m ∙ ap (apply b.unifier) (g.variables m);
  next = omega (arith, b.next, n);
}
  where
    more : Extends old mid → (r : Ref) → IsRef old r → IsRef mid r
    more x r h = omega (arith, x.more_cells)

raise-not : (f : Fault ℕ) (es : List (Tree ℕ × Tree ℕ)) → raise f ≡ equal es 0 → ⊥
raise-not f es e = cc

halt-not : (z : _) (es : List (Tree ℕ × Tree ℕ)) → ◌≡◌ {A = Deed ℕ} (halt z) (equal es 0) → ⊥
halt-not z es e = cc

pub answers-grown : (old mid new : State) (es fs : List (Tree ℕ × Tree ℕ)) (k : ℕ) (done : Done) → Grows old mid → mid.next ≡ old.next + k → es ≡ fs
    → Answers mid new (equal es 0) done → Answers old new (equal fs k) done
answers-grown old mid new es fs k D.Yes g n e h = Unifies-grown old mid new es fs k g n e h
answers-grown old mid new es fs k D.No g n e h = subst (λ x. mgu x ≡ None) e h
answers-grown old mid new es fs k (D.Raise r) g n e h = absurd (raise-not (fault_of mid r) es h.0)
answers-grown old mid new es fs k (D.Halt z) g n e h = absurd (halt-not z es h)

-- a place was made, and a term unified with it
pub answers-made : (old mid new : State) (a p : Ref) (t : Tree ℕ) (k : ℕ) (done : Done) → Grows old mid → mid.next ≡ old.next + k → IsRef old a → tree_at mid p ≡ t
    → Answers mid new (equal ((tree_at mid a, tree_at mid p) ∷ []) 0) done → Answers old new (equal ((tree_at old a, t) ∷ []) k) done
answers-made old mid new a p t k done g n r e h =
    answers-grown old mid new ((tree_at mid a, tree_at mid p) ∷ []) ((tree_at old a, t) ∷ []) k done g n
    (ap (λ x. (x, tree_at mid p) ∷ []) (g.places a r) ∙ ap (λ x. (tree_at old a, x) ∷ []) e) h

pub one_unified : (old new : State) (a b : Ref) → Unified old new a b → Unifies old new ((tree_at old a, tree_at old b) ∷ []) 0
one_unified old new a b u = record {
  extends = u.only.extends;
  unifier = u.unifier;
  solved = u.solved;
  bound = u.bound;
  places = λ r h. u.places r;
  variables = u.variables;
  next = omega (arith, u.only.next);
}

solved_of : (es : List (Tree ℕ × Tree ℕ)) (a : _) → mgu es ≡ a → Solved es a
solved_of es a e = subst (Solved es) e (Solved-mgu es)

solved-at : (a b c d : Tree ℕ) (r : _) → a ≡ b → c ≡ d → mgu ((a, c) ∷ []) ≡ r → Solved ((b, d) ∷ []) r
solved-at a b c d r e f h = subst (λ x. Solved ((x, d) ∷ []) r) e (subst (λ x. Solved ((a, x) ∷ []) r) f (solved_of ((a, c) ∷ []) r h))

abbrev pub two : State → Ref → Ref → Ref → Ref → List (Tree ℕ × Tree ℕ)
two s a b c d = (tree_at s a, tree_at s b) ∷ (tree_at s c, tree_at s d) ∷ []

pub two_unified : (old mid new : State) (a b c d : Ref) → Unified old mid a b → Unified mid new c d → Unifies old new (two old a b c d) 0
two_unified old mid new a b c d u v = record {
  extends = Extends-trans old mid new u.only.extends v.only.extends;
  unifier = u.unifier ++ v.unifier;
  solved = mgu-Solved (two old a b c d) (Some (u.unifier ++ v.unifier))
      (then {a = Some u.unifier} (solved_of ((tree_at old a, tree_at old b) ∷ []) (Some u.unifier) u.solved) ((tree_at old c, tree_at old d) ∷ []) (Some v.unifier)
      (solved-at _ _ _ _ (Some v.unifier) (u.places c) (u.places d) v.solved));
  bound = v.bound ∙ (ap (λ x. x ++ v.unifier) u.bound ∙ append_assoc (bound old) u.unifier v.unifier);
  places = λ r h. v.places r ∙ (ap (apply v.unifier) (u.places r) ∙ sym (apply-append u.unifier v.unifier (tree_at old r)));
  variables = λ k. v.variables k ∙ (ap (apply v.unifier) (u.variables k) ∙ sym (apply-append u.unifier v.unifier _));
  next = omega (arith, v.only.next, u.only.next);
}

pub second_failed : (old mid : State) (a b c d : Ref) → Unified old mid a b → NotUnified mid c d → mgu (two old a b c d) ≡ None
second_failed old mid a b c d u v =
    mgu-Solved (two old a b c d) None
    (then {a = Some u.unifier} (solved_of ((tree_at old a, tree_at old b) ∷ []) (Some u.unifier) u.solved) ((tree_at old c, tree_at old d) ∷ []) None
    (solved-at _ _ _ _ None (u.places c) (u.places d) v))

pub first_failed : (old : State) (a b c d : Ref) → NotUnified old a b → mgu (two old a b c d) ≡ None
first_failed old a b c d h =
    mgu-Solved (two old a b c d) None (then {a = None} (solved_of ((tree_at old a, tree_at old b) ∷ []) None h) ((tree_at old c, tree_at old d) ∷ []))

-- no equations
pub Unifies-none : (s : State) → Unifies s s [] 0
Unifies-none s = record {
  extends = Extends-refl s;
  unifier = [];
  solved = mgu-Solved [] (Some []) solved;
  bound = sym (append-nil (bound s));
  places = λ r h. refl;
  variables = λ n. refl;
  next = omega arith;
}

pub whether-yes : (b : Bool) → b ≡ true → (s : State) → Succeeds s s (whether b)
whether-yes true e s = Unifies-none s
whether-yes false e s = cc

pub match_true : (b : Bool) (P Q : Type 0) → b ≡ true → MatchBool b P Q → P
match_true true P Q e h = h
match_true false P Q e h = cc

pub match_false : (b : Bool) (P Q : Type 0) → b ≡ false → MatchBool b P Q → Q
match_false true P Q e h = cc
match_false false P Q e h = h

-- the same, where the end was passed on
pub settled-as : (m : Mark) (old mid new : State) (deed : Deed ℕ) (r e : Result Done NoMemory) → r ≡ e → IsMark m old → state_at m old ≡ old → Extends old mid
    → IfOk e (λ done. Answers old mid deed done) → (r ≡ Ok D.Yes → new ≡ mid) → ((r ≡ Ok D.Yes → ⊥) → new ≡ state_at m mid) → IfOk r (λ done. Meets old new deed done)
settled-as m old mid new deed r e same k s x h kept u = settled m old mid new deed r k s x (subst (λ q. IfOk q (λ done. Answers old mid deed done)) (sym same) h) kept u
