-- What is known of a term by what ends its items.
use Rattle.std.proofs.Common.{◌≡◌, ◌∙◌, ℕ, ◌<◌, Bool, true, false, not, nat_eq, [], refl, ap, arith, Ok, Err, if◌then◌else◌}
use Rattle.pl_atoms.specs.declared.names.NameId.{NameId}
use Rattle.pl_terms.specs.Trees.{Tree, var, int, atom, comp, cons, nil}
use Rattle.unifier_model.specs.Substitution.{size}
use Rattle.pl_unify.specs.declared.word.View.TheVariants as V
use Rattle.pl_unify.specs.Shape.{root, argument}
use Rattle.builtin_model.specs.Naming.{Naming}
use Rattle.builtin_model.specs.Faults.{type_fault, fault_tree}
use Rattle.builtin_model.specs.declared.error.Expected.TheVariants as E
use Rattle.builtin_model.specs.Lists.{Listing, proper, partial, improper, before, listing}
use Rattle.goal_model.specs.Table.{list_fault}
use Rattle.goal_code.proofs.Shaping.{binary_root}
use Rattle.goal_constructs.specs.declared.names.GoalNames.{GoalNames}
use Rattle.goal_constructs.specs.Constructs.{AreGoalNames}
use Rattle.goal_constructs.specs.Balls.{two, error_by, after_cells, ends_list}
use Rattle.goal_constructs.proofs.ConjunctLaws.{pair-size}

pub cell-rest : (g : GoalNames) (t : Tree ℕ) (f : NameId) → root t ≡ V.Comp f 2 → nat_eq f.0 g.dot.0 ≡ true → (after_cells g t ≡ after_cells g (argument t 1)) × (size (argument t 1) < size t)
cell-rest g t f h e =
    (ap (after_cells g) (binary_root t f h) ∙ ap (λ b. if b then after_cells g (argument t 1) else comp f.0 (cons (argument t 0) (cons (argument t 1) nil))) e, omega (arith, pair-size t f h))

abbrev pub is_improper : Listing ℕ → Bool
is_improper (proper ts) = false
is_improper partial = false
is_improper improper = true

improper-before : (t : Tree ℕ) (l : Listing ℕ) → is_improper (before t l) ≡ is_improper l
improper-before t (proper ts) = refl
improper-before t partial = refl
improper-before t improper = refl

module _ (n : Naming ℕ) (g : GoalNames) (are : AreGoalNames n g) where
  list-end : (t : Tree ℕ) → is_improper (listing n t) ≡ not (ends_list g (after_cells g t))
  list-end (var v) = refl
  list-end (int z) = refl
  list-end (atom a) = ap (λ b. is_improper (if b then proper [] else improper)) (are.nil.known a) ∙ by (nat_eq a g.nil.0)
    where
      by : (b : Bool) → is_improper (if b then proper [] else improper) ≡ not b
      by true = refl
      by false = refl
  list-end (comp f nil) = refl
  list-end (comp f (cons h nil)) = refl
  list-end (comp f (cons h (cons t nil))) = ap (λ b. is_improper (if b then before h (listing n t) else improper)) (are.dot.known f) ∙ by (nat_eq f g.dot.0) (list-end t)
    where
      by : (b : Bool) → is_improper (listing n t) ≡ not (ends_list g (after_cells g t))
          → is_improper (if b then before h (listing n t) else improper) ≡ not (ends_list g (if b then after_cells g t else comp f (cons h (cons t nil))))
      by true e = improper-before h (listing n t) ∙ e
      by false e = refl
  list-end (comp f (cons h (cons t (cons u us)))) = refl

  fault-is : (l : Listing ℕ) (z : Tree ℕ) (f k : ℕ) → is_improper l ≡ true → list_fault n l z f k ≡ Err (fault_tree n (type_fault E.List z) f k)
  fault-is (proper ts) z f k e = cc
  fault-is partial z f k e = cc
  fault-is improper z f k e = refl

  none-is : (l : Listing ℕ) (z : Tree ℕ) (f k : ℕ) → is_improper l ≡ false → list_fault n l z f k ≡ Ok z
  none-is (proper ts) z f k e = refl
  none-is partial z f k e = refl
  none-is improper z f k e = cc

  pub no-fault : (t : Tree ℕ) (f k : ℕ) → ends_list g (after_cells g t) ≡ true → list_fault n (listing n t) t f k ≡ Ok t
  no-fault t f k e = none-is (listing n t) t f k (list-end t ∙ ap not e)

  type-fault : (t : Tree ℕ) (f k : ℕ) → fault_tree n (type_fault E.List t) f k ≡ error_by g (two g.type_error.0 (atom g.list_word.0) t) f k
  type-fault t f k = cc (are.error.made, are.type_error.made, are.list_word.made, are.slash.made)

  pub fault : (t : Tree ℕ) (f k : ℕ) → ends_list g (after_cells g t) ≡ false → list_fault n (listing n t) t f k ≡ Err (error_by g (two g.type_error.0 (atom g.list_word.0) t) f k)
  fault t f k e = fault-is (listing n t) t f k (list-end t ∙ ap not e) ∙ ap Err (type-fault t f k)
