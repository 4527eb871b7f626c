-- Which operator is the root of a term, in terms of the list of its operators outside brackets.
use Rattle.std.specs.Prelude.{◌≡◌, ℕ, ◌<◌, ◌≤◌, List, [], ◌∷◌, ◌++◌, nat_eq, true, false, Option, Some, None}
use Rattle.std.specs.List.{AllByRecursion}
use Rattle.pl_ops.specs.declared.op.Op.{Op as Operator}
use Rattle.text_model.specs.Grammar.{Parse, leaf, grouped, braced, called, listed, listed_to, prefixed, joined, conjoined, postfixed, comma_op, right_y, IsGood}

-- the operators outside inner brackets, from the left
abbrev pub operators : Parse → List Operator
operators (leaf t) = []
operators (grouped e) = []
operators (braced e) = []
operators (called s es) = []
operators (listed es) = []
operators (listed_to es e) = []
operators (prefixed o s e) = o ∷ operators e
operators (joined l o s r) = operators l ++ o ∷ operators r
operators (conjoined l r) = operators l ++ comma_op ∷ operators r
operators (postfixed l o s) = operators l ++ o ∷ []

-- those before the root, the root, and those after it
abbrev pub root : Parse → Option (List Operator × Operator × List Operator)
root (leaf t) = None
root (grouped e) = None
root (braced e) = None
root (called s es) = None
root (listed es) = None
root (listed_to es e) = None
root (prefixed o s e) = Some ([], o, operators e)
root (joined l o s r) = Some (operators l, o, operators r)
root (conjoined l r) = Some (operators l, comma_op, operators r)
root (postfixed l o s) = Some (operators l, o, [])

abbrev pub AllBelow : ℕ → List Operator → Type 0
AllBelow p = AllByRecursion (λ o. o.priority < p)

abbrev pub AllUpTo : ℕ → List Operator → Type 0
AllUpTo p = AllByRecursion (λ o. o.priority ≤ p)

-- the first operator of that priority isn't fy or xfy
abbrev pub FirstIsNotRight : ℕ → List Operator → Type 0
FirstIsNotRight p [] = Unit {0}
FirstIsNotRight p (o ∷ os) = elim (nat_eq o.priority p) [ true ↦ right_y o.kind ≡ 0 | false ↦ FirstIsNotRight p os ]

-- The leftmost of the greatest priority where that is fy or xfy, and else the rightmost.
pub data IsRoot : List Operator → Operator → List Operator → Type 0 where
  leftmost : {before after : List Operator} {o : Operator} → right_y o.kind ≡ 1 → AllBelow o.priority before → AllUpTo o.priority after → IsRoot before o after
  rightmost : {before after : List Operator} {o : Operator} → FirstIsNotRight o.priority (before ++ o ∷ []) → AllUpTo o.priority before → AllBelow o.priority after → IsRoot before o after

abbrev pub RootIsTold : Type 0
RootIsTold = (e : Parse) (before after : List Operator) (o : Operator) → IsGood e → root e ≡ Some (before, o, after) → IsRoot before o after
