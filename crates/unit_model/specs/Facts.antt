-- The facts of a text. N is the type of names: texts, or places in a table of names.
use Rattle.std.specs.Prelude.{ℕ, List, map, Bool, ◌++◌, ◌∷◌, []}
use Rattle.std.specs.List.{flat_map}
use Rattle.pl_terms.specs.Trees.{Tree, var, int, atom, comp, Trees, nil, cons, renamed}
use Rattle.pl_ops.specs.declared.op.Op.{Op as Operator}

pub record Indicator (N : Type 0) : Type 0 where
  pub name : N
  pub arity : ℕ

pub record OperatorOf (N : Type 0) : Type 0 where
  pub op : Operator
  pub name : N

pub record Need (N : Type 0) : Type 0 where
  pub byte : ℕ
  pub of : N
  pub operators : List (OperatorOf N)

pub data What (N : Type 0) : Type 0 where
  exports : Indicator N → What N
  reexports_all : N → What N
  reexports : N → Indicator N → What N
  has_modes : N → List Bool → What N
  declares : OperatorOf N → What N
  imports_all : N → What N
  imports : N → Indicator N → What N
  clause : ℕ → Tree N → Tree N → What N

pub record Entry (N : Type 0) : Type 0 where
  pub byte : ℕ
  pub what : What N

pub data SectionKind : Type 0 where
  interface : SectionKind
  body : SectionKind

pub record Section (N : Type 0) : Type 0 where
  pub kind : SectionKind
  pub byte : ℕ
  pub of : N
  pub entries : List (Entry N)

pub record Facts (N : Type 0) : Type 0 where
  pub needs : List (Need N)
  pub sections : List (Section N)

-- ---- names in the order of use

module _ {N : Type 0} where
  abbrev mutual
    pub tree_names : Tree N → List N
    tree_names (var n) = []
    tree_names (int z) = []
    tree_names (atom s) = s ∷ []
    tree_names (comp s ts) = s ∷ trees_names ts

    pub trees_names : Trees N → List N
    trees_names nil = []
    trees_names (cons t ts) = tree_names t ++ trees_names ts

  abbrev pub need_names : Need N → List N
  need_names n = n.of ∷ map (λ o. o.name) n.operators

  abbrev pub what_names : What N → List N
  what_names (exports i) = i.name ∷ []
  what_names (reexports_all m) = m ∷ []
  what_names (reexports m i) = m ∷ i.name ∷ []
  what_names (has_modes s ms) = s ∷ []
  what_names (declares o) = o.name ∷ []
  what_names (imports_all m) = m ∷ []
  what_names (imports m i) = m ∷ i.name ∷ []
  what_names (clause n h b) = tree_names h ++ tree_names b

  abbrev pub section_names : Section N → List N
  section_names s = s.of ∷ flat_map (λ e. what_names e.what) s.entries

  abbrev pub names_of : Facts N → List N
  names_of f = flat_map need_names f.needs ++ flat_map section_names f.sections

-- ---- the same facts under other names

module _ {N M : Type 0} (f : N → M) where
  abbrev pub indicator_by : Indicator N → Indicator M
  indicator_by i = record { name = f i.name; arity = i.arity }

  abbrev pub operator_by : OperatorOf N → OperatorOf M
  operator_by o = record { op = o.op; name = f o.name }

  abbrev pub need_by : Need N → Need M
  need_by n = record { byte = n.byte; of = f n.of; operators = map operator_by n.operators }

  abbrev pub what_by : What N → What M
  what_by (exports i) = exports (indicator_by i)
  what_by (reexports_all m) = reexports_all (f m)
  what_by (reexports m i) = reexports (f m) (indicator_by i)
  what_by (has_modes s ms) = has_modes (f s) ms
  what_by (declares o) = declares (operator_by o)
  what_by (imports_all m) = imports_all (f m)
  what_by (imports m i) = imports (f m) (indicator_by i)
  what_by (clause n h b) = clause n (renamed f h) (renamed f b)

  abbrev pub entry_by : Entry N → Entry M
  entry_by e = record { byte = e.byte; what = what_by e.what }

  abbrev pub section_by : Section N → Section M
  section_by s = record { kind = s.kind; byte = s.byte; of = f s.of; entries = map entry_by s.entries }

  abbrev pub facts_by : Facts N → Facts M
  facts_by g = record { needs = map need_by g.needs; sections = map section_by g.sections }
