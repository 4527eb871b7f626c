-- Steps of conversions.
use Rattle.std.proofs.Common.{◌≡◌, ◌∙◌, ℕ, zero, suc, ◌+◌, ◌*◌, ◌<◌, true, ◌||◌, List, [], ◌∷◌, length, map, Option, Some, None, refl, sym, ap, arith, if◌then◌else◌}
use Rattle.std.specs.Prelude.{option_and_then}
use Rattle.pl_atoms.specs.declared.names.NameId.{NameId}
use Rattle.pl_terms.specs.Trees.{Tree, var, int, atom, comp, cons, nil}
use Rattle.unifier_model.specs.Substitution.{size}
use Rattle.pl_unify.specs.declared.word.Ref.{Ref}
use Rattle.pl_unify.specs.declared.word.View.TheVariants as V
use Rattle.pl_unify.specs.Shape.{root, argument}
use Rattle.pl_unify.specs.State.{State, Grows, tree_at, IsRef}
use Rattle.pl_unify.specs.Making.{AreRefs}
use Rattle.builtin_model.specs.Naming.{Naming}
use Rattle.unit_model.specs.Directives.{is_control as is_control_text}
use Rattle.goal_model.specs.Bodies.{converted, joined}
use Rattle.goal_code.specs.Settled.{is_control}
use Rattle.goal_code.proofs.Shaping.{binary_root}
use Rattle.goal_constructs.specs.declared.constructs.Constructs.{Constructs}
use Rattle.goal_constructs.specs.declared.conversion.Task.{Task}
use Rattle.goal_constructs.specs.declared.conversion.Task.TheVariants.{Convert, Join}
use Rattle.goal_constructs.specs.Constructs.{AreConstructs}
use Rattle.goal_constructs.specs.Conversion.{IsControl, AreTasks, after, owed, Sound, Goes, Converting}
use Rattle.goal_constructs.proofs.ConjunctLaws.{pair-size}

-- ---- what a growing store keeps

pub AreRefs-grown : (old new : State) (rs : List Ref) → Grows old new → AreRefs old rs → AreRefs new rs
AreRefs-grown old new [] g h = tt
AreRefs-grown old new (r ∷ rs) g h = (omega (arith, h.0, g.extends.more_cells), AreRefs-grown old new rs g h.1)

pub map-grown : (old new : State) (rs : List Ref) → Grows old new → AreRefs old rs → map (tree_at new) rs ≡ map (tree_at old) rs
map-grown old new [] g h = refl
map-grown old new (r ∷ rs) g h = ap (λ t. t ∷ map (tree_at new) rs) (g.places r h.0) ∙ ap (λ ts. tree_at old r ∷ ts) (map-grown old new rs g h.1)

module _ (old new : State) (g : Grows old new) where
  tasks-grown : (ts : List Task) (k : ℕ) → AreTasks old ts k → AreTasks new ts k
  tasks-grown [] k h = h
  tasks-grown (Convert at ∷ ts) k h = (omega (arith, h.0, g.extends.more_cells), tasks-grown ts (suc k) h.1)
  tasks-grown (Join f at ∷ ts) zero h = absurd h
  tasks-grown (Join f at ∷ ts) (suc zero) h = absurd h
  tasks-grown (Join f at ∷ ts) (suc (suc k)) h = (omega (arith, h.0, g.extends.more_cells), ap root (g.places at h.0) ∙ h.1, tasks-grown ts (suc k) h.2)

  after-grown : (n : Naming ℕ) (ts : List Task) (k : ℕ) (bs : List (Tree ℕ)) → AreTasks old ts k → after n new ts bs ≡ after n old ts bs
  after-grown n [] k bs h = refl
  after-grown n (Convert at ∷ ts) k bs h = λ i. option_and_then (λ b. after-grown n ts (suc k) (b ∷ bs) h.1 i) (converted n (g.places at h.0 i))
  after-grown n (Join f at ∷ ts) zero bs h = absurd h
  after-grown n (Join f at ∷ ts) (suc zero) bs h = absurd h
  after-grown n (Join f at ∷ ts) (suc (suc k)) [] h = refl
  after-grown n (Join f at ∷ ts) (suc (suc k)) (r ∷ []) h = refl
  after-grown n (Join f at ∷ ts) (suc (suc k)) (r ∷ l ∷ bs) h = after-grown n ts (suc k) (comp f.0 (cons l (cons r nil)) ∷ bs) h.2

  owed-grown : (ts : List Task) (k : ℕ) → AreTasks old ts k → owed new ts ≡ owed old ts
  owed-grown [] k h = refl
  owed-grown (Convert at ∷ ts) k h = ap (λ t. 2 * size t + owed new ts) (g.places at h.0) ∙ ap (λ x. 2 * size (tree_at old at) + x) (owed-grown ts (suc k) h.1)
  owed-grown (Join f at ∷ ts) zero h = absurd h
  owed-grown (Join f at ∷ ts) (suc zero) h = absurd h
  owed-grown (Join f at ∷ ts) (suc (suc k)) h = ap (λ x. 1 + x) (owed-grown ts (suc k) h.2)

-- ---- steps

some-size : (t : Tree ℕ) → 0 < size t
some-size (var v) = omega arith
some-size (int z) = omega arith
some-size (atom a) = omega arith
some-size (comp f ts) = omega arith

joined-then : (f : ℕ) (k : Tree ℕ → Option (List (Tree ℕ))) (o p : Option (Tree ℕ))
    → option_and_then (λ x. option_and_then (λ y. k (comp f (cons x (cons y nil)))) p) o ≡ option_and_then k (joined f o p)
joined-then f k None p = refl
joined-then f k (Some x) None = refl
joined-then f k (Some x) (Some y) = refl

module _ (c : Constructs) where
  pub step-made : (old new : State) (at made : Ref) (ts : List Task) (done : List Ref) → Sound old (Convert at ∷ ts) done → Grows old new → IsRef new made
      → ((n : Naming ℕ) → AreConstructs n c → converted n (tree_at old at) ≡ Some (tree_at new made)) → Goes c old new (Convert at ∷ ts) done ts (made ∷ done)
  step-made old new at made ts done h g place is = record {
    sound = record { tasks = tasks-grown old new g ts (suc (length done)) h.tasks.1; places = (place, AreRefs-grown old new done g h.places) };
    same = λ n are.
        after-grown old new g n ts (suc (length done)) (tree_at new made ∷ map (tree_at new) done) h.tasks.1
        ∙ (ap (λ bs. after n old ts (tree_at new made ∷ bs)) (map-grown old new done g h.places)
        ∙ sym (ap (option_and_then (λ b. after n old ts (b ∷ map (tree_at old) done))) (is n are)));
    less = omega (arith, owed-grown old new g ts (suc (length done)) h.tasks.1, some-size (tree_at old at));
  }

  pub step-control : (s : State) (at l r : Ref) (f : NameId) (ts : List Task) (done : List Ref) → Sound s (Convert at ∷ ts) done → IsControl c s (tree_at s at) f l r
      → Goes c s s (Convert at ∷ ts) done (Convert l ∷ Convert r ∷ Join f at ∷ ts) done
  step-control s at l r f ts done h is = record {
    sound = record { tasks = (is.left, (is.right, (h.tasks.0, is.root, h.tasks.1))); places = h.places };
    same = λ n are.
        joined-then f.0 (λ b. after n s ts (b ∷ map (tree_at s) done)) (converted n (tree_at s l)) (converted n (tree_at s r))
        ∙ sym (ap (option_and_then (λ b. after n s ts (b ∷ map (tree_at s) done))) (is.converts n are));
    less = omega (arith, is.size);
  }

  pub step-join : (old new : State) (f : NameId) (at l r made : Ref) (ts : List Task) (done : List Ref) → Sound old (Join f at ∷ ts) (r ∷ l ∷ done) → Grows old new → IsRef new made
      → tree_at new made ≡ comp f.0 (cons (tree_at old l) (cons (tree_at old r) nil)) → Goes c old new (Join f at ∷ ts) (r ∷ l ∷ done) ts (made ∷ done)
  step-join old new f at l r made ts done h g place is = record {
    sound = record { tasks = tasks-grown old new g ts (suc (length done)) h.tasks.2; places = (place, AreRefs-grown old new done g h.places.1.1) };
    same = λ n are.
        after-grown old new g n ts (suc (length done)) (tree_at new made ∷ map (tree_at new) done) h.tasks.2
        ∙ (ap (λ bs. after n old ts (tree_at new made ∷ bs)) (map-grown old new done g h.places.1.1)
        ∙ ap (λ t. after n old ts (t ∷ map (tree_at old) done)) is);
    less = omega (arith, owed-grown old new g ts (suc (length done)) h.tasks.2);
  }

  -- ---- whole conversions

  pub begin : (s : State) (at : Ref) → IsRef s at → Converting c s (Convert at ∷ []) [] (tree_at s at)
  begin s at h = record { sound = record { tasks = (h, refl); places = tt }; same = λ n are. refl }

  pub going : (old new : State) (ts us : List Task) (done made : List Ref) (t : Tree ℕ) → Converting c old ts done t → Goes c old new ts done us made → Converting c new us made t
  going old new ts us done made t h g = record { sound = g.sound; same = λ n are. g.same n are ∙ h.same n are }

  none-then : (o : Option (Tree ℕ)) → option_and_then (λ b. Some (b ∷ [])) o ≡ None → o ≡ None
  none-then None h = refl
  none-then (Some b) h = cc

  some-then : (o : Option (Tree ℕ)) (b : Tree ℕ) → option_and_then (λ b. Some (b ∷ [])) o ≡ Some (b ∷ []) → o ≡ Some b
  some-then None b h = cc
  some-then (Some x) b h = let e : x ≡ b = cc in ap Some e

  pub no-body : (s : State) (ts : List Task) (done : List Ref) (t : Tree ℕ) → Converting c s ts done t → (n : Naming ℕ) → AreConstructs n c → after n s ts (map (tree_at s) done) ≡ None → converted n t ≡ None
  no-body s ts done t h n are e = none-then (converted n t) (sym (h.same n are) ∙ e)

  pub body : (s : State) (made : Ref) (t : Tree ℕ) → Converting c s [] (made ∷ []) t → (n : Naming ℕ) → AreConstructs n c → converted n t ≡ Some (tree_at s made)
  body s made t h n are = some-then (converted n t) (tree_at s made) (sym (h.same n are))

-- ---- control constructs

control-known : (n : Naming ℕ) (c : Constructs) → AreConstructs n c → (f : ℕ) → is_control_text (n.text f) ≡ is_control c.names.control f
control-known n c are f =
    λ i. are.names.conjunction.known f i || (are.names.disjunction.known f i || are.names.implication.known f i)

pub control-piece : (c : Constructs) (s : State) (t : Tree ℕ) (f : NameId) (l r : Ref) → root t ≡ V.Comp f 2 → is_control c.names.control f.0 ≡ true → IsRef s l → IsRef s r
    → tree_at s l ≡ argument t 0 → tree_at s r ≡ argument t 1 → IsControl c s t f l r
control-piece c s t f l r h is pl pr tl tr = record {
  root = h;
  left = pl;
  right = pr;
  converts = λ n are.
      ap (converted n) (binary_root t f h)
      ∙ (ap (λ b. if b then joined f.0 (converted n (argument t 0)) (converted n (argument t 1)) else Some (comp f.0 (cons (argument t 0) (cons (argument t 1) nil)))) (control-known n c are f.0 ∙ is)
      ∙ (ap (λ x. joined f.0 (converted n x) (converted n (argument t 1))) (sym tl) ∙ ap (λ x. joined f.0 (converted n (tree_at s l)) (converted n x)) (sym tr)));
  size = pair-size t f h ∙ (ap (λ x. suc (size x + size (argument t 1))) (sym tl) ∙ ap (λ x. suc (size (tree_at s l) + size x)) (sym tr));
}
