-- The bytes of a unit.
use Rattle.std.specs.Prelude.{◌≡◌, ℕ, suc, List, [], ◌∷◌, ◌++◌, length, map, Bool, true, false, ◌||◌, if◌then◌else◌, slice_index_or}
use Rattle.std.specs.Int.{to_be_bytes, w32, w64, w16, cast_unsigned}
use Rattle.std.specs.List.{flat_map}
use Rattle.pl_terms.specs.Trees.{Tree, var, int, atom, comp, Trees, nil, cons, count}
use Rattle.pl_terms.specs.Occurrence.{first_after, from_to}
use Rattle.pl_ops.specs.Tables.{same_text}
use Rattle.pl_ops.specs.declared.op.Kind.{Kind}
use Rattle.pl_ops.specs.declared.op.Kind.TheVariants.{Xfx as xfx, Xfy as xfy, Yfx as yfx, Fx as fx, Fy as fy, Xf as xf, Yf as yf}
use Rattle.unit_model.specs.Facts.{Indicator, OperatorOf, Need, What, exports, reexports_all, reexports, has_modes, declares, imports_all, imports, clause, Entry, SectionKind, interface, body, Section, Facts, names_of, facts_by}

-- ---- bytes of facts whose names are places in a table

abbrev pub u32 : ℕ → List ℕ
u32 = to_be_bytes w32

abbrev mutual
  pub tree_bytes : Tree ℕ → List ℕ
  tree_bytes (var n) = 0 ∷ u32 n
  tree_bytes (int z) = 1 ∷ to_be_bytes w64 (cast_unsigned w64 z)
  tree_bytes (atom s) = 2 ∷ u32 s
  tree_bytes (comp s ts) = 3 ∷ (u32 s ++ count ts ∷ trees_bytes ts)

  pub trees_bytes : Trees ℕ → List ℕ
  trees_bytes nil = []
  trees_bytes (cons t ts) = tree_bytes t ++ trees_bytes ts

abbrev pub kind_byte : Kind → ℕ
kind_byte xfx = 1
kind_byte xfy = 2
kind_byte yfx = 3
kind_byte fx = 4
kind_byte fy = 5
kind_byte xf = 6
kind_byte yf = 7

abbrev pub operator_bytes : OperatorOf ℕ → List ℕ
operator_bytes o = to_be_bytes w16 o.op.priority ++ kind_byte o.op.kind ∷ u32 o.name

abbrev pub indicator_bytes : Indicator ℕ → List ℕ
indicator_bytes i = u32 i.name ++ i.arity ∷ []

-- a count, and each of the items
abbrev pub counted : {A : Type 0} → (A → List ℕ) → List A → List ℕ
counted f xs = u32 (length xs) ++ flat_map f xs

abbrev pub need_bytes : Need ℕ → List ℕ
need_bytes n = u32 n.byte ++ u32 n.of ++ counted operator_bytes n.operators

abbrev pub mode_byte : Bool → ℕ
mode_byte b = if b then 1 else 0

abbrev pub tag : {N : Type 0} → What N → ℕ
tag (exports i) = 1
tag (reexports_all m) = 2
tag (reexports m i) = 3
tag (has_modes s ms) = 4
tag (declares o) = 5
tag (imports_all m) = 6
tag (imports m i) = 7
tag (clause n h b) = 8

abbrev pub what_bytes : What ℕ → List ℕ
what_bytes (exports i) = indicator_bytes i
what_bytes (reexports_all m) = u32 m
what_bytes (reexports m i) = u32 m ++ indicator_bytes i
what_bytes (has_modes s ms) = u32 s ++ length ms ∷ map mode_byte ms
what_bytes (declares o) = operator_bytes o
what_bytes (imports_all m) = u32 m
what_bytes (imports m i) = u32 m ++ indicator_bytes i
what_bytes (clause n h b) = u32 n ++ tree_bytes h ++ tree_bytes b

abbrev pub entry_bytes : Entry ℕ → List ℕ
entry_bytes e = tag e.what ∷ (u32 e.byte ++ what_bytes e.what)

abbrev pub section_byte : SectionKind → ℕ
section_byte interface = 1
section_byte body = 2

abbrev pub section_bytes : Section ℕ → List ℕ
section_bytes s = section_byte s.kind ∷ (u32 s.byte ++ u32 s.of ++ counted entry_bytes s.entries)

abbrev pub name_bytes : List ℕ → List ℕ
name_bytes s = u32 (length s) ++ s

abbrev pub magic : List ℕ
magic = 0x50 ∷ 0x4c ∷ 0x4d ∷ 0x55 ∷ 0x01 ∷ []

abbrev pub unit_bytes : List (List ℕ) → Facts ℕ → List ℕ
unit_bytes names f = magic ++ counted name_bytes names ++ counted need_bytes f.needs ++ counted section_bytes f.sections

-- ---- the encoding

-- the place of a text, or the list's length
abbrev pub text_place : List (List ℕ) → List ℕ → ℕ
text_place [] s = 0
text_place (r ∷ rs) s = if same_text r s then 0 else suc (text_place rs s)

abbrev pub holds_text : List ℕ → List (List ℕ) → Bool
holds_text s [] = false
holds_text s (r ∷ rs) = same_text r s || holds_text s rs

abbrev pub unless_held : Bool → List ℕ → List (List ℕ) → List (List ℕ)
unless_held true s rs = rs
unless_held false s rs = s ∷ rs

abbrev pub distinct_after : List (List ℕ) → List (List ℕ) → List (List ℕ)
distinct_after seen [] = []
distinct_after seen (s ∷ ss) = unless_held (holds_text s seen) s (distinct_after (s ∷ seen) ss)

-- each text once, in the order of first use
abbrev pub table_of : Facts (List ℕ) → List (List ℕ)
table_of f = distinct_after [] (names_of f)

abbrev pub encoding : Facts (List ℕ) → List ℕ
encoding f = unit_bytes (table_of f) (facts_by (text_place (table_of f)) f)

-- the facts of a unit: names by their places in its table
abbrev pub text_at : List (List ℕ) → ℕ → List ℕ
text_at names n = slice_index_or names n []

abbrev pub facts_in : List (List ℕ) → Facts ℕ → Facts (List ℕ)
facts_in names = facts_by (text_at names)

-- a unit's names are those of its facts, in order
pub record IsInOrder (names : List (List ℕ)) (f : Facts ℕ) : Type 0 where
  pub used : first_after [] (names_of f) ≡ from_to 0 (length names)
  pub distinct : distinct_after [] names ≡ names

abbrev pub EncodingByPlaces : Type 0
EncodingByPlaces = (names : List (List ℕ)) (f : Facts ℕ) → IsInOrder names f → encoding (facts_in names f) ≡ unit_bytes names f
