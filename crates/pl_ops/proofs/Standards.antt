-- Lists of declarations that declare the same operators, and the standard ones by name.
use Rattle.std.proofs.Common.{◌≡◌, ℕ, zero, suc, ◌+◌, ◌<◌, ◌≤◌, Bool, true, false, nat_eq, nat_lt, nat_le, ◌&&◌, List, [], ◌∷◌, ◌++◌, map, length, take, get_or, Option, None, Some, refl, sym, ap, ◌∙◌, if◌then◌else◌, arith, subst}
use Rattle.std.proofs.lemmas.Bool.{and_parts, eqb-true, ltb-true, leb-true, false≢true}
use Rattle.std.proofs.lemmas.List.{length-map, get_or-map, map-append, take_more, take_all}
use Rattle.std.proofs.lemmas.List.Sums.{AllPass-from_list_all}
use Rattle.std.proofs.lemmas.Slice.Eq.{bytes_eq-Decides}
use Rattle.std.proofs.Math.Path.{fun_ext}
use Rattle.pl_atoms.specs.declared.case_table.CaseRow.{CaseRow}
use Rattle.pl_atoms.specs.CaseTable.{Case, case_of, cases_of}
use Rattle.pl_ops.specs.Tables.{Class, prefix_class, infix_class, postfix_class, class_of, same_class, same_text, Declaration, is_for, later_or, last_declared, unless_zero, operator}
use Rattle.pl_ops.specs.Standard.{standard}
use Rattle.pl_ops.specs.StandardRows.{operator_rows, ops, op, op_at, declared_case}
use Rattle.pl_ops.specs.declared.op.Kind.{Kind}
use Rattle.pl_ops.specs.declared.op.Kind.TheVariants.{Xfx as xfx, Xfy as xfy, Yfx as yfx, Fx as fx, Fy as fy, Xf as xf, Yf as yf}
use Rattle.pl_ops.specs.declared.op.Op.{Op as Operator}
use Rattle.pl_ops.proofs.Lookups.{operator-push}

-- a kind by its number
kind_index : Kind → ℕ
kind_index xfx = 0
kind_index xfy = 1
kind_index yfx = 2
kind_index fx = 3
kind_index fy = 4
kind_index xf = 5
kind_index yf = 6

kind_at : ℕ → Kind
kind_at zero = xfx
kind_at (suc zero) = xfy
kind_at (suc (suc zero)) = yfx
kind_at (suc (suc (suc zero))) = fx
kind_at (suc (suc (suc (suc zero)))) = fy
kind_at (suc (suc (suc (suc (suc zero))))) = xf
kind_at _ = yf

kind_at-index : (k : Kind) → kind_at (kind_index k) ≡ k
unfolding kind_index kind_at
kind_at-index xfx = refl
kind_at-index xfy = refl
kind_at-index yfx = refl
kind_at-index fx = refl
kind_at-index fy = refl
kind_at-index xf = refl
kind_at-index yf = refl

is_op : Operator → Option Operator → Bool
is_op o None = false
is_op o (Some p) = nat_eq o.priority p.priority && nat_eq (kind_index o.kind) (kind_index p.kind)

is_op-Some : (o : Operator) (p : Option Operator) → is_op o p ≡ true → p ≡ Some o
unfolding is_op
is_op-Some o None h = absurd (false≢true h)
is_op-Some o (Some p) h =
    let both = and_parts (nat_eq o.priority p.priority) (nat_eq (kind_index o.kind) (kind_index p.kind)) h in
    let priority : p.priority ≡ o.priority = sym (eqb-true o.priority p.priority both.0) in
    let kind : p.kind ≡ o.kind = sym (kind_at-index p.kind) ∙ ap kind_at (sym (eqb-true (kind_index o.kind) (kind_index p.kind) both.1)) ∙ kind_at-index o.kind in
    λ i. Some (record { priority = priority i; kind = kind i })

-- each declaration of the first is the last of its class and name in the second
are_last : List Declaration → List Declaration → Bool
are_last [] es = true
are_last (d ∷ ds) es = is_op d.op (last_declared (class_of d.op.kind) d.name es) && are_last ds es

same_class-is : (c d : Class) → same_class c d ≡ true → c ≡ d
same_class-is prefix_class prefix_class h = refl
same_class-is prefix_class infix_class h = absurd (false≢true h)
same_class-is prefix_class postfix_class h = absurd (false≢true h)
same_class-is infix_class prefix_class h = absurd (false≢true h)
same_class-is infix_class infix_class h = refl
same_class-is infix_class postfix_class h = absurd (false≢true h)
same_class-is postfix_class prefix_class h = absurd (false≢true h)
same_class-is postfix_class infix_class h = absurd (false≢true h)
same_class-is postfix_class postfix_class h = refl

module _ (c : Class) (name : List ℕ) where
  is_last : (es : List Declaration) (d : Declaration) → is_op d.op (last_declared (class_of d.op.kind) d.name es) ≡ true → is_for c name d ≡ true → last_declared c name es ≡ Some d.op
  is_last es d here found =
      let both = and_parts (same_class (class_of d.op.kind) c) (same_text d.name name) found in
      let class : class_of d.op.kind ≡ c = same_class-is (class_of d.op.kind) c both.0 in
      let same : d.name ≡ name = (bytes_eq-Decides d.name name).0 both.1 in
      sym (λ i. last_declared (class i) (same i) es) ∙ is_op-Some d.op (last_declared (class_of d.op.kind) d.name es) here

  found_in : (ds es : List Declaration) → are_last ds es ≡ true → (o : Operator) → last_declared c name ds ≡ Some o → last_declared c name es ≡ Some o
  unfolding are_last
  found_in [] es h o e = absurd (cc)
  found_in (d ∷ ds) es h o e =
      let both = and_parts (is_op d.op (last_declared (class_of d.op.kind) d.name es)) (are_last ds es) h in
      by (last_declared c name ds) refl (is_for c name d) refl (found_in ds es both.1 o) both.0
    where
      by : (later : Option Operator) → last_declared c name ds ≡ later → (b : Bool) → is_for c name d ≡ b → (last_declared c name ds ≡ Some o → last_declared c name es ≡ Some o) → is_op d.op (last_declared (class_of d.op.kind) d.name es) ≡ true → last_declared c name es ≡ Some o
      by (Some l) was b t rest here = rest (was ∙ ap (later_or (if is_for c name d then Some d.op else None)) (sym was) ∙ e)
      by None was true t rest here =
          is_last es d here t ∙ sym (ap (λ x. later_or (if x then Some d.op else None) None) t) ∙ ap (later_or (if is_for c name d then Some d.op else None)) (sym was) ∙ e
      by None was false t rest here = absurd (none_some (sym (ap (λ x. later_or (if x then Some d.op else None) None) t) ∙ ap (later_or (if is_for c name d then Some d.op else None)) (sym was) ∙ e))
        where
          none_some : None ≡ Some o → ⊥
          none_some h = cc

same_operators : (ds es : List Declaration) → are_last ds es ≡ true → are_last es ds ≡ true → operator ds ≡ operator es
same_operators ds es there back = fun_ext (λ c. fun_ext (λ name. ap unless_zero (by c name (last_declared c name ds) refl (last_declared c name es) refl)))
  where
    by : (c : Class) (name : List ℕ) (o : Option Operator) → last_declared c name ds ≡ o → (p : Option Operator) → last_declared c name es ≡ p → last_declared c name ds ≡ last_declared c name es
    by c name (Some o) e p f = e ∙ sym (found_in c name ds es there o e)
    by c name None e (Some p) f = found_in c name es ds back p f ∙ sym f
    by c name None e None f = e ∙ sym f

pub operator-operator_rows : operator (map declared_case operator_rows) ≡ operator standard
unfolding operator_rows standard are_last is_op kind_index
operator-operator_rows = same_operators (map declared_case operator_rows) standard refl refl

-- the priorities of the standard operators
pub op_at-at_most : (n : ℕ) → n < 15 → (op_at n).priority ≤ 1200
op_at-at_most n h = leb-true (op_at n).priority 1200 (AllPass-from_list_all (λ (o : Operator). nat_le o.priority 1200) ops refl n (op 0 xfx) h)

operator-congr : (ds es : List Declaration) (d : Declaration) → operator ds ≡ operator es → operator (ds ++ d ∷ []) ≡ operator (es ++ d ∷ [])
operator-congr ds es d same = fun_ext (λ c. fun_ext (λ name.
    operator-push c name ds d
    ∙ ap (λ f. if is_for c name d then unless_zero (Some d.op) else f c name) same
    ∙ sym (operator-push c name es d)))

values_below : (i : ℕ) (c : Case) → i < length operator_rows → (get_or operator_rows i c).value < 15
unfolding operator_rows
values_below i c h = ltb-true (get_or operator_rows i c).value 15 (AllPass-from_list_all (λ (c : Case). nat_lt c.value 15) operator_rows refl i c h)

-- one row after another
module _ (rows : List CaseRow) (is : cases_of rows ≡ operator_rows) (i : ℕ) (within : i < length rows) (d : CaseRow) where
  abbrev pub row : CaseRow
  row = get_or rows i d

  case_at : case_of row ≡ get_or (cases_of rows) i (case_of d)
  case_at = sym (get_or-map case_of rows i d (case_of d) within)

  inside : i < length (cases_of rows)
  inside = omega (arith, length-map rows case_of)

  pub row_value : row.value < 15
  row_value =
      let known : i < length operator_rows = subst (λ l. i < length l) is inside in
      let e : row.value ≡ (get_or operator_rows i (case_of d)).value = ap (λ (c : Case). c.value) (case_at ∙ ap (λ l. get_or l i (case_of d)) is) in
      let below = values_below i (case_of d) known in
      omega arith

  pub operator-next : (old new : List Declaration) (o : Operator) → o ≡ op_at row.value → operator old ≡ operator (map declared_case (take i (cases_of rows))) → operator new ≡ operator (old ++ record { op = o; name = row.name.now } ∷ []) → operator new ≡ operator (map declared_case (take (i + 1) (cases_of rows)))
  operator-next old new o e was step =
      step
      ∙ ap (λ p. operator (old ++ record { op = p; name = row.name.now } ∷ [])) e
      ∙ operator-congr old (map declared_case (take i (cases_of rows))) (declared_case (case_of row)) was
      ∙ ap (λ c. operator (map declared_case (take i (cases_of rows)) ++ declared_case c ∷ [])) case_at
      ∙ ap operator (sym (map-append declared_case (take i (cases_of rows)) (get_or (cases_of rows) i (case_of d) ∷ [])))
      ∙ ap (λ l. operator (map declared_case l)) (sym (take_more (cases_of rows) i (case_of d) inside))

pub operator-whole : (rows : List CaseRow) → cases_of rows ≡ operator_rows → (i : ℕ) → length rows ≤ i → (table : List Declaration) → operator table ≡ operator (map declared_case (take i (cases_of rows))) → operator table ≡ operator standard
operator-whole rows is i past table was =
    was
    ∙ ap (λ l. operator (map declared_case l)) (take_all i (cases_of rows) (omega (arith, length-map rows case_of)) ∙ is)
    ∙ operator-operator_rows
