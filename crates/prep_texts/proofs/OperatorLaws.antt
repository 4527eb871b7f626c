-- Operators of interfaces, put into tables and needs one after another.
use Rattle.std.proofs.Common.{◌≡◌, ℕ, ◌+◌, ◌<◌, ◌≤◌, true, false, not, ◌&&◌, List, [], ◌∷◌, ◌++◌, map, length, take, drop, get_or, slice_get, Option, Some, None, is_some, Err, refl, sym, ap, ◌∙◌, if◌then◌else◌, arith, zero, suc, drop-cons, add-one, subst}
use Rattle.std.proofs.lemmas.List.{take_more, map-append}
use Rattle.std.specs.List.{AllByRecursion}
use Rattle.std.proofs.Math.Path.{fun_ext}
use Rattle.std.proofs.lemmas.Option.{get_or_from_slice_get}
use Rattle.pl_atoms.specs.Names.{IsFront, with_text}
use Rattle.pl_atoms.proofs.Numbers.{IsFront-grown, IsFront-trans, length-front}
use Rattle.pl_atoms.specs.declared.names.NameId.{NameId}
use Rattle.pl_ops.specs.declared.op.Op.{Op as Operator}
use Rattle.pl_ops.specs.declared.refusal.OpRefusal.{OpRefusal}
use Rattle.pl_ops.specs.declared.refusal.OpRefusal.TheVariants.{NotPriority, NotKind, Comma, Bar, Brackets, InfixPostfix, NoMemory}
use Rattle.pl_ops.specs.Tables.{Declaration, Operators, operator, last_declared, later_or, is_for}
use Rattle.pl_ops.specs.Refusals.{cause_of}
use Rattle.unit_model.specs.Facts.{OperatorOf, operator_by}
use Rattle.unit_model.specs.Directives.{Text}
use Rattle.unit_model.specs.Encoding.{text_at}
use Rattle.unit_model.specs.Views.{op_view, ops_view}
use Rattle.unit_model.specs.Preparing.{declaration, refusal_of_operator}
use Rattle.unit_model.specs.declared.facts.OpDecl.{OpDecl}
use Rattle.prep_texts.specs.declared.interfaces.KnownOperator.{KnownOperator}
use Rattle.prep_texts.specs.Interfaces.{operator_view, operators_view, IsBelow}
use Rattle.prep_texts.specs.Looking.{over, extended, accepts_all}
use Rattle.prep_texts.proofs.TableLaws.{operator-extended}
use Rattle.prep_texts.proofs.Agreeing.{operators-same, front-agrees, higher, whole}

-- ---- into a table

pub extended-further : (look : Operators) (d : Declaration) (ds : List Declaration) → extended look (d ∷ ds) ≡ extended (extended look (d ∷ [])) ds
extended-further look d ds = fun_ext (λ c. fun_ext (λ n. go (if is_for c n d then Some d.op else None) (last_declared c n ds) (look c n)))
  where
    go : (a b o : Option Operator) → over (later_or a b) o ≡ over b (over a o)
    go a None o = refl
    go a (Some p) o = refl

-- what the operators from a place on do to a table is what all did to the first
pub record Adding (first table : List Declaration) (xs : List KnownOperator) (i : ℕ) : Type 0 where
  pub accepted : accepts_all (operators_view (drop i xs)) (operator table) ≡ accepts_all (operators_view xs) (operator first)
  pub after : extended (operator table) (map declaration (operators_view (drop i xs))) ≡ extended (operator first) (map declaration (operators_view xs))

module _ (first table : List Declaration) (xs : List KnownOperator) (i : ℕ) (x : KnownOperator) (lt : i < length xs) (is : x ≡ get_or xs i x) (so_far : Adding first table xs i) where
  behind : drop i xs ≡ x ∷ drop (i + 1) xs
  behind = drop-cons xs i x lt ∙ ap (λ (y : KnownOperator). y ∷ drop (suc i) xs) (sym is) ∙ ap (λ n. x ∷ drop n xs) (sym (add-one i))

  accepts-next : accepts_all (operators_view (x ∷ drop (i + 1) xs)) (operator table) ≡ accepts_all (operators_view xs) (operator first)
  accepts-next = ap (λ l. accepts_all (operators_view l) (operator table)) (sym behind) ∙ so_far.accepted

  pub adding-more : (new : List Declaration) → refusal_of_operator (operator table) (operator_view x) ≡ None → operator new ≡ operator (table ++ declaration (operator_view x) ∷ []) → Adding first new xs (i + 1)
  adding-more new none next =
      let looked : operator new ≡ extended (operator table) (declaration (operator_view x) ∷ []) = next ∙ operator-extended table (declaration (operator_view x) ∷ []) in
      record {
        accepted =
            ap (accepts_all (operators_view (drop (i + 1) xs))) looked
            ∙ ap (λ o. not (is_some o) && accepts_all (operators_view (drop (i + 1) xs)) (extended (operator table) (declaration (operator_view x) ∷ []))) (sym none)
            ∙ accepts-next;
        after =
            ap (λ look. extended look (map declaration (operators_view (drop (i + 1) xs)))) looked
            ∙ sym (extended-further (operator table) (declaration (operator_view x)) (map declaration (operators_view (drop (i + 1) xs))))
            ∙ ap (λ l. extended (operator table) (map declaration (operators_view l))) (sym behind)
            ∙ so_far.after;
      }

  pub adding-stops : is_some (refusal_of_operator (operator table) (operator_view x)) ≡ true → accepts_all (operators_view xs) (operator first) ≡ false
  adding-stops h = sym accepts-next ∙ ap (λ b. not b && accepts_all (operators_view (drop (i + 1) xs)) (extended (operator table) (declaration (operator_view x) ∷ []))) h

drop-past : {A : Type 0} (xs : List A) (i : ℕ) → length xs ≤ i → drop i xs ≡ []
drop-past [] zero h = refl
drop-past [] (suc i) h = refl
drop-past (x ∷ xs) zero h = absurd (omega arith)
drop-past (x ∷ xs) (suc i) h = drop-past xs i (omega arith)

pub adding-done : (first table : List Declaration) (xs : List KnownOperator) (i : ℕ) → length xs ≤ i → Adding first table xs i
    → (accepts_all (operators_view xs) (operator first) ≡ true) × (operator table ≡ extended (operator first) (map declaration (operators_view xs)))
adding-done first table xs i le so_far =
    let none = drop-past xs i le in
    (sym so_far.accepted ∙ ap (λ l. accepts_all (operators_view l) (operator table)) none, ap (λ l. extended (operator table) (map declaration (operators_view l))) (sym none) ∙ so_far.after)

-- a refusal for another reason than memory
pub is_cause : (e : OpRefusal) → (e ≡ NoMemory → ⊥) → (r : Option OpRefusal) → r ≡ cause_of {A = Unit {0}} (Err e) → is_some r ≡ true
is_cause NotPriority h r same = ap is_some same
is_cause NotKind h r same = ap is_some same
is_cause Comma h r same = ap is_some same
is_cause Bar h r same = ap is_some same
is_cause Brackets h r same = ap is_some same
is_cause InfixPostfix h r same = ap is_some same
is_cause NoMemory h r same = absurd (h refl)

-- ---- into a need

pub record Interning (first names : List Text) (os : List OpDecl) (xs : List KnownOperator) (i : ℕ) : Type 0 where
  pub same : map (operator_by (text_at names)) (ops_view os) ≡ operators_view (take i xs)
  pub below : AllByRecursion (IsBelow (length names)) (map (λ (o : OperatorOf ℕ). o.name) (ops_view os))
  pub front : IsFront first names

pub interning-more : (first old new : List Text) (os : List OpDecl) (xs : List KnownOperator) (i : ℕ) (x : KnownOperator) (id : NameId) → i < length xs → x ≡ get_or xs i x
    → new ≡ with_text old x.name → slice_get new id.0 ≡ Some x.name → id.0 < length new → Interning first old os xs i → (more : List OpDecl) → more ≡ os ++ record { priority = x.op.priority; kind = x.op.kind; name = id } ∷ [] → Interning first new more xs (i + 1)
interning-more first old new os xs i x id lt is grown at within so_far more pushed =
    let front : IsFront old new = IsFront-grown old new x.name grown in
    let decl : OpDecl = record { priority = x.op.priority; kind = x.op.kind; name = id } in
    let le = length-front old new front in
    let text : text_at new id.0 ≡ x.name = get_or_from_slice_get new id.0 x.name [] at in
    let stay = operators-same (text_at new) (text_at old) (length old) (front-agrees old new front) (ops_view os) so_far.below in
    let split : ops_view more ≡ ops_view os ++ op_view decl ∷ [] = ap ops_view pushed ∙ map-append op_view os (decl ∷ []) in
    let named : List (OperatorOf ℕ) → List ℕ = map (λ (o : OperatorOf ℕ). o.name) in
    record {
      same =
          ap (map (operator_by (text_at new))) split
          ∙ map-append (operator_by (text_at new)) (ops_view os) (op_view decl ∷ [])
          ∙ ap (λ (l : List (OperatorOf Text)). l ++ operator_by (text_at new) (op_view decl) ∷ []) (stay ∙ so_far.same)
          ∙ ap (λ (s : Text). operators_view (take i xs) ++ record { op = x.op; name = s } ∷ []) text
          ∙ sym (map-append operator_view (take i xs) (x ∷ []))
          ∙ ap operators_view (ap (λ (y : KnownOperator). take i xs ++ y ∷ []) is ∙ sym (take_more xs i x lt));
      below =
          subst (AllByRecursion (IsBelow (length new))) (sym (ap named split ∙ map-append (λ (o : OperatorOf ℕ). o.name) (ops_view os) (op_view decl ∷ [])))
          (whole (IsBelow (length new)) (named (ops_view os)) (id.0 ∷ []) (higher (length old) (length new) le _ so_far.below) (within, tt));
      front = IsFront-trans first old new so_far.front front;
    }
