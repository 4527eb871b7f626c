-- What a program asks for where procedures and facts are entered.
use Rattle.std.proofs.Common.{◌≡◌, ℕ, ℤ, ◌<◌, List, [], ◌∷◌, ◌++◌, length, true, Bool, ◌||◌, refl, sym, ap, ◌∙◌, subst, arith, Some, length-append, get_or}
use Rattle.std.specs.List.{list_any}
use Rattle.pl_atoms.specs.declared.names.NameId.{NameId}
use Rattle.pl_terms.specs.Trees.{Tree, int, atom, comp, cons, nil}
use Rattle.pl_terms.specs.Cells.{cells, tree_of}
use Rattle.pl_terms.specs.Forest.{tree_of-cells}
use Rattle.pl_terms.specs.declared.cell.Cell.{Cell}
use Rattle.pl_terms.specs.declared.cell.Cell.TheVariants.{Int, Name, Comp}
use Rattle.unit_model.specs.Facts.{Indicator}
use Rattle.pl_store.specs.Linked.{Linked, Procedure, no_procedure, procedure_at, is_system, is_module, is_procedure, with_names, with_procedure}
use Rattle.pl_store.specs.Rules.{IsExisting, IsNewProcedure, IsClauseOf}

-- the term of two cells, put one after the other
pub one_argument : (t : Tree ℕ) (f : NameId) (z : ℤ) (a b e : List Cell) → cells t ≡ b → b ≡ a ++ Int z ∷ [] → a ≡ e ++ Comp f 1 ∷ [] → e ≡ [] → t ≡ comp f.0 (cons (int z) nil)
one_argument t f z a b e is two one none =
    let all : cells t ≡ Comp f 1 ∷ Int z ∷ [] = is ∙ two ∙ ap (λ l. l ++ Int z ∷ []) one ∙ ap (λ l. (l ++ Comp f 1 ∷ []) ++ Int z ∷ []) none in
    sym (tree_of-cells t) ∙ ap tree_of all

pub one_name : (t : Tree ℕ) (s : NameId) (a e : List Cell) → cells t ≡ a → a ≡ e ++ Name s ∷ [] → e ≡ [] → t ≡ atom s.0
one_name t s a e is one none =
    let all : cells t ≡ Name s ∷ [] = is ∙ one ∙ ap (λ l. l ++ Name s ∷ []) none in
    sym (tree_of-cells t) ∙ ap tree_of all

-- a module, as the tables tell
pub is_there : (l t : Linked) (ns : List (List ℕ)) (m : ℕ) (b : Bool) → with_names t l.names ≡ l → ns ≡ l.names → b ≡ (is_system ns m || is_module t m) → b ≡ true → IsExisting l m
is_there l t ns m b same names is e = ap (λ (x : Linked). is_system l.names m || is_module x m) (sym same) ∙ ap (λ x. is_system x m || is_module t m) (sym names) ∙ sym is ∙ e

-- each procedure is new where there is none
pub is_first : (l : Linked) (m : ℕ) (i : Indicator ℕ) → l.procedures ≡ [] → IsNewProcedure l m i
is_first l m i none = ap (list_any (is_procedure m i)) none

last : {X : Type 0} (xs : List X) (x d : X) → get_or (xs ++ x ∷ []) (length xs) d ≡ x
last [] x d = refl
last (y ∷ ys) x d = last ys x d

pub its_indicator : (l m : Linked) (p : Procedure) (n : ℕ) → m ≡ with_procedure l p → n ≡ length l.procedures → (procedure_at m n).indicator ≡ p.indicator
its_indicator l m p n grown number =
    subst (λ (w : Linked). (procedure_at w n).indicator ≡ p.indicator) (sym grown)
    (subst (λ k. (procedure_at (with_procedure l p) k).indicator ≡ p.indicator) (sym number) (ap (λ (r : Procedure). r.indicator) (last l.procedures p no_procedure)))

pub its_place : (l m : Linked) (p : Procedure) (n : ℕ) → m ≡ with_procedure l p → n ≡ length l.procedures → n < length m.procedures
its_place l m p n grown number =
    subst (λ (w : Linked). n < length w.procedures) (sym grown) (omega (arith, number, length-append l.procedures (p ∷ [])))

-- a clause that is a fact of one argument
pub is_fact : (l : Linked) (p f s : ℕ) (z : ℤ) (h b : Tree ℕ) → (procedure_at l p).indicator ≡ record { name = f; arity = 1 } → f < length l.names → s < length l.names
    → h ≡ comp f (cons (int z) nil) → b ≡ atom s → IsClauseOf l p (record { width = 0; head = h; body = b })
is_fact l p f s z h b its named true_named head body =
    subst (λ x. IsClauseOf l p (record { width = 0; head = x; body = b })) (sym head)
    (subst (λ x. IsClauseOf l p (record { width = 0; head = comp f (cons (int z) nil); body = x })) (sym body) (record {
      head = ap Some (sym its);
      head_names = (named, (tt, tt));
      body_names = true_named;
      converted = refl;
      numbered = refl;
      width = omega arith;
    }))
