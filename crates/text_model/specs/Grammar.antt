-- Terms over items. An item is an operand, an operator of a known class, a bracket, a comma or a bar.
use Rattle.std.specs.Prelude.{◌≡◌, ℕ, suc, ◌+◌, ◌*◌, ◌<◌, ◌≤◌, List, [], ◌∷◌, ◌++◌, codes, ◌⊎◌}
use Rattle.pl_terms.specs.Trees.{Tree, atom, comp, Trees, nil, cons}
use Rattle.pl_ops.specs.declared.op.Kind.{Kind}
use Rattle.pl_ops.specs.declared.op.Kind.TheVariants.{Xfx as xfx, Xfy as xfy, Yfx as yfx, Fx as fx, Fy as fy, Xf as xf, Yf as yf}
use Rattle.pl_ops.specs.declared.op.Op.{Op as Operator}

pub data Bracket : Type 0 where
  round : Bracket
  curly : Bracket
  square : Bracket

pub data Item : Type 0 where
  operand : Tree (List ℕ) → Item
  before : Operator → List ℕ → Item
  between : Operator → List ℕ → Item
  after : Operator → List ℕ → Item
  comma : Item
  bar : Item
  calls : List ℕ → Item
  opens : Bracket → Item
  closes : Bracket → Item

-- How a term was written.
mutual
  pub data Parse : Type 0 where
    leaf : Tree (List ℕ) → Parse
    grouped : Parse → Parse
    braced : Parse → Parse
    called : List ℕ → Arguments → Parse
    listed : Arguments → Parse
    listed_to : Arguments → Parse → Parse
    prefixed : Operator → List ℕ → Parse → Parse
    joined : Parse → Operator → List ℕ → Parse → Parse
    conjoined : Parse → Parse → Parse
    postfixed : Parse → Operator → List ℕ → Parse

  pub data Arguments : Type 0 where
    one : Parse → Arguments
    more : Parse → Arguments → Arguments

-- the items of a term
abbrev mutual
  pub yield : Parse → List Item
  yield (leaf t) = operand t ∷ []
  yield (grouped e) = opens round ∷ (yield e ++ closes round ∷ [])
  yield (braced e) = opens curly ∷ (yield e ++ closes curly ∷ [])
  yield (called s es) = calls s ∷ (all_yield es ++ closes round ∷ [])
  yield (listed es) = opens square ∷ (all_yield es ++ closes square ∷ [])
  yield (listed_to es e) = opens square ∷ (all_yield es ++ bar ∷ (yield e ++ closes square ∷ []))
  yield (prefixed o s e) = before o s ∷ yield e
  yield (joined l o s r) = yield l ++ between o s ∷ yield r
  yield (conjoined l r) = yield l ++ comma ∷ yield r
  yield (postfixed l o s) = yield l ++ after o s ∷ []

  pub all_yield : Arguments → List Item
  all_yield (one e) = yield e
  all_yield (more e es) = yield e ++ comma ∷ all_yield es

abbrev pub list_to : Trees (List ℕ) → Tree (List ℕ) → Tree (List ℕ)
list_to nil t = t
list_to (cons u us) t = comp (codes ".") (cons u (cons (list_to us t) nil))

abbrev pub empty_list : Tree (List ℕ)
empty_list = atom (codes "[]")

-- its tree
abbrev mutual
  pub meaning : Parse → Tree (List ℕ)
  meaning (leaf t) = t
  meaning (grouped e) = meaning e
  meaning (braced e) = comp (codes "{}") (cons (meaning e) nil)
  meaning (called s es) = comp s (all_meaning es)
  meaning (listed es) = list_to (all_meaning es) empty_list
  meaning (listed_to es e) = list_to (all_meaning es) (meaning e)
  meaning (prefixed o s e) = comp s (cons (meaning e) nil)
  meaning (joined l o s r) = comp s (cons (meaning l) (cons (meaning r) nil))
  meaning (conjoined l r) = comp (codes ",") (cons (meaning l) (cons (meaning r) nil))
  meaning (postfixed l o s) = comp s (cons (meaning l) nil)

  pub all_meaning : Arguments → Trees (List ℕ)
  all_meaning (one e) = cons (meaning e) nil
  all_meaning (more e es) = cons (meaning e) (all_meaning es)

-- 1 where the operand on that side may have the operator's own priority
abbrev pub left_y : Kind → ℕ
left_y xfx = 0
left_y xfy = 0
left_y yfx = 1
left_y fx = 0
left_y fy = 0
left_y xf = 0
left_y yf = 1

abbrev pub right_y : Kind → ℕ
right_y xfx = 0
right_y xfy = 1
right_y yfx = 0
right_y fx = 0
right_y fy = 1
right_y xf = 0
right_y yf = 0

abbrev pub comma_op : Operator
comma_op = record { priority = 1000; kind = xfy }

-- Twice the priority, and one more where the last operand may have the same priority: such a term is no
-- left operand of an operator of its priority.
abbrev pub right_weight : Operator → ℕ
right_weight o = 2 * o.priority + right_y o.kind

abbrev pub left_weight : Operator → ℕ
left_weight o = 2 * o.priority + left_y o.kind

abbrev pub priority : Parse → ℕ
priority (leaf t) = 0
priority (grouped e) = 0
priority (braced e) = 0
priority (called s es) = 0
priority (listed es) = 0
priority (listed_to es e) = 0
priority (prefixed o s e) = o.priority
priority (joined l o s r) = o.priority
priority (conjoined l r) = comma_op.priority
priority (postfixed l o s) = o.priority

abbrev pub weight : Parse → ℕ
weight (leaf t) = 0
weight (grouped e) = 0
weight (braced e) = 0
weight (called s es) = 0
weight (listed es) = 0
weight (listed_to es e) = 0
weight (prefixed o s e) = right_weight o
weight (joined l o s r) = right_weight o
weight (conjoined l r) = right_weight comma_op
weight (postfixed l o s) = right_weight o

-- an operand on the right has a lower priority, or an equal one at y
pub record FitsRight (o : Operator) (e : Parse) : Type 0 where
  pub bound : 2 * priority e < right_weight o

-- and one on the left, where at y it is no term of that priority whose own last operand may have it
pub record FitsLeft (o : Operator) (e : Parse) : Type 0 where
  pub bound : weight e < left_weight o

abbrev pub max_priority : ℕ
max_priority = 1200

abbrev pub argument_priority : ℕ
argument_priority = 999

abbrev pub max_arity : ℕ
max_arity = 255

abbrev pub arity : Arguments → ℕ
arity (one e) = 1
arity (more e es) = suc (arity es)

abbrev mutual
  pub IsGood : Parse → Type 0
  IsGood (leaf t) = Unit {0}
  IsGood (grouped e) = (priority e ≤ max_priority) × IsGood e
  IsGood (braced e) = (priority e ≤ max_priority) × IsGood e
  IsGood (called s es) = (arity es ≤ max_arity) × AreGood es
  IsGood (listed es) = AreGood es
  IsGood (listed_to es e) = AreGood es × (priority e ≤ argument_priority) × IsGood e
  IsGood (prefixed o s e) = FitsRight o e × IsGood e
  IsGood (joined l o s r) = FitsLeft o l × FitsRight o r × IsGood l × IsGood r
  IsGood (conjoined l r) = FitsLeft comma_op l × FitsRight comma_op r × IsGood l × IsGood r
  IsGood (postfixed l o s) = FitsLeft o l × IsGood l

  pub AreGood : Arguments → Type 0
  AreGood (one e) = (priority e ≤ argument_priority) × IsGood e
  AreGood (more e es) = (priority e ≤ argument_priority) × IsGood e × AreGood es

-- The items read as the tree, at a priority of at most max.
pub record Reads (items : List Item) (max : ℕ) (t : Tree (List ℕ)) : Type 0 where
  pub parse : Parse
  pub spelled : yield parse ≡ items
  pub within : priority parse ≤ max
  pub good : IsGood parse
  pub tree : meaning parse ≡ t

abbrev pub OneTree : Type 0
OneTree = (items : List Item) (t u : Tree (List ℕ)) → Reads items max_priority t → Reads items max_priority u → t ≡ u

-- a list of items reads as a tree, or as none
abbrev pub Decided : Type 0
Decided = (items : List Item) → ((t : Tree (List ℕ)) × Reads items max_priority t) ⊎ ((t : Tree (List ℕ)) → Reads items max_priority t → ⊥)
