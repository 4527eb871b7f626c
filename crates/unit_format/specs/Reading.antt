-- Reading the bytes of a unit from the left: what stands there, and the bytes after it.
use Rattle.std.specs.Prelude.{ℕ, zero, suc, ◌+◌, List, [], ◌∷◌, ◌++◌, length, take, drop, Option, Some, None, nat_eq, nat_lt, Bool, true, false, not, ◌&&◌, if◌then◌else◌}
use Rattle.std.specs.List.{list_any}
use Rattle.std.specs.Str.{is_utf8}
use Rattle.std.specs.Int.{Width, w16, w32, w64, byte_len, from_be_bytes, cast_signed}
use Rattle.pl_terms.specs.Trees.{Tree}
use Rattle.pl_terms.specs.Cells.{tree_of}
use Rattle.pl_terms.specs.declared.cell.Cell.{Cell}
use Rattle.pl_terms.specs.declared.cell.Cell.TheVariants.{Var, Int, Name, Comp}
use Rattle.pl_ops.specs.Tables.{same_text}
use Rattle.pl_ops.specs.declared.op.Kind.{Kind}
use Rattle.pl_ops.specs.declared.op.Kind.TheVariants.{Xfx as xfx, Xfy as xfy, Yfx as yfx, Fx as fx, Fy as fy, Xf as xf, Yf as yf}
use Rattle.unit_model.specs.Facts.{Indicator, OperatorOf, Need, What, exports, reexports_all, reexports, has_modes, declares, imports_all, imports, clause, Entry, SectionKind, interface, body, Section, Facts}

infixl 10 ◌>>=◌
abbrev pub ◌>>=◌ : {A B : Type 0} → Option A → (A → Option B) → Option B
None >>= f = None
(Some x) >>= f = f x

abbrev pub Reader : Type 0 → Type 0
Reader X = List ℕ → Option (X × List ℕ)

abbrev pub number_at : Width → Reader ℕ
number_at w bytes = if nat_lt (length bytes) (byte_len w) then None else Some (from_be_bytes w (take (byte_len w) bytes), drop (byte_len w) bytes)

abbrev pub byte_at : Reader ℕ
byte_at [] = None
byte_at (b ∷ bytes) = Some (b, bytes)

-- so many, one after another
unfoldable pub items_at : {X : Type 0} → Reader X → ℕ → Reader (List X)
items_at f zero bytes = Some ([], bytes)
items_at f (suc n) bytes = f bytes >>= λ x. items_at f n x.1 >>= λ xs. Some (x.0 ∷ xs.0, xs.1)

-- a count, and so many
unfoldable pub counted_at : {X : Type 0} → Reader X → Reader (List X)
counted_at f bytes = number_at w32 bytes >>= λ n. items_at f n.0 n.1

-- a length, and so many bytes
unfoldable pub text_at : Reader (List ℕ)
text_at bytes = number_at w32 bytes >>= λ n. if nat_lt (length n.1) n.0 then None else Some (take n.0 n.1, drop n.0 n.1)

-- a text that may stand in the table after these: UTF-8, and none of them
abbrev pub is_new_name : List (List ℕ) → List ℕ → Bool
is_new_name names s = is_utf8 s && not (list_any (same_text s) names)

-- the text, where it may stand there
abbrev pub name_or_none : List (List ℕ) → List ℕ → Option (List ℕ)
name_or_none names s = if is_new_name names s then Some s else None

-- so many more names of the table
unfoldable pub names_from : ℕ → List (List ℕ) → Reader (List (List ℕ))
names_from zero names bytes = Some (names, bytes)
names_from (suc n) names bytes = text_at bytes >>= λ s. if is_new_name names s.0 then names_from n (names ++ s.0 ∷ []) s.1 else None

unfoldable pub names_at : Reader (List (List ℕ))
names_at bytes = number_at w32 bytes >>= λ n. names_from n.0 [] n.1

abbrev pub kind_of : ℕ → Option Kind
kind_of b =
    if nat_eq b 1 then Some xfx else if nat_eq b 2 then Some xfy else if nat_eq b 3 then Some yfx else if nat_eq b 4 then Some fx
    else if nat_eq b 5 then Some fy else if nat_eq b 6 then Some xf else if nat_eq b 7 then Some yf else None

unfoldable pub kind_at : Reader Kind
kind_at bytes = byte_at bytes >>= λ b. kind_of b.0 >>= λ k. Some (k, b.1)

-- two fields, one after the other, made into one
abbrev pub then_at : {A B X : Type 0} → (A → B → X) → Reader A → Reader B → Reader X
then_at made f g bytes = f bytes >>= λ a. g a.1 >>= λ b. Some (made a.0 b.0, b.1)

abbrev pub pair : {A B : Type 0} → A → B → A × B
pair a b = (a, b)

abbrev pub operator_of : ℕ → Kind × ℕ → OperatorOf ℕ
operator_of p x = record { op = record { priority = p; kind = x.0 }; name = x.1 }

unfoldable pub operator_at : Reader (OperatorOf ℕ)
operator_at = then_at operator_of (number_at w16) (then_at pair kind_at (number_at w32))

abbrev pub indicator_of : ℕ → ℕ → Indicator ℕ
indicator_of n a = record { name = n; arity = a }

unfoldable pub indicator_at : Reader (Indicator ℕ)
indicator_at = then_at indicator_of (number_at w32) byte_at

abbrev pub need_of : ℕ × ℕ → List (OperatorOf ℕ) → Need ℕ
need_of x os = record { byte = x.0; of = x.1; operators = os }

unfoldable pub need_at : Reader (Need ℕ)
need_at = then_at need_of (then_at pair (number_at w32) (number_at w32)) (counted_at operator_at)

abbrev pub flag_of : ℕ → Option Bool
flag_of b = if nat_eq b 0 then Some false else if nat_eq b 1 then Some true else None

unfoldable pub flag_at : Reader Bool
flag_at bytes = byte_at bytes >>= λ b. flag_of b.0 >>= λ m. Some (m, b.1)

unfoldable pub modes_at : Reader (List Bool)
modes_at bytes = byte_at bytes >>= λ n. items_at flag_at n.0 n.1

-- ---- terms, cell by cell

abbrev pub cell_of : ℕ → Reader Cell
cell_of tag bytes =
    if nat_eq tag 0 then (number_at w32 bytes >>= λ n. Some (Var n.0, n.1))
    else if nat_eq tag 1 then (number_at w64 bytes >>= λ n. Some (Int (cast_signed w64 n.0), n.1))
    else if nat_eq tag 2 then (number_at w32 bytes >>= λ n. Some (Name (record { 0 = n.0 }), n.1))
    else if nat_eq tag 3 then (number_at w32 bytes >>= λ n. byte_at n.1 >>= λ a. if nat_eq a.0 0 then None else Some (Comp (record { 0 = n.0 }) a.0, a.1))
    else None

unfoldable pub cell_at : Reader Cell
cell_at bytes = byte_at bytes >>= λ b. cell_of b.0 b.1

abbrev pub arity_of : Cell → ℕ
arity_of (Var n) = 0
arity_of (Int z) = 0
arity_of (Name s) = 0
arity_of (Comp s k) = k

-- cells until so many trees are whole; the first number bounds the turns
unfoldable pub cells_at : ℕ → ℕ → Reader (List Cell)
cells_at turns zero bytes = Some ([], bytes)
cells_at zero (suc wanted) bytes = None
cells_at (suc turns) (suc wanted) bytes = cell_at bytes >>= λ c. cells_at turns (arity_of c.0 + wanted) c.1 >>= λ cs. Some (c.0 ∷ cs.0, cs.1)

unfoldable pub tree_at : Reader (Tree ℕ)
tree_at bytes = cells_at (length bytes) 1 bytes >>= λ cs. Some (tree_of cs.0, cs.1)

-- ---- entries and sections

unfoldable pub passed_at : Reader (ℕ × Indicator ℕ)
passed_at = then_at pair (number_at w32) indicator_at

unfoldable pub with_modes_at : Reader (ℕ × List Bool)
with_modes_at = then_at pair (number_at w32) modes_at

unfoldable pub clause_at : Reader ((ℕ × Tree ℕ) × Tree ℕ)
clause_at = then_at pair (then_at pair (number_at w32) tree_at) tree_at

unfoldable pub what_at : ℕ → Reader (What ℕ)
what_at tag bytes =
    if nat_eq tag 1 then (indicator_at bytes >>= λ i. Some (exports i.0, i.1))
    else if nat_eq tag 2 then (number_at w32 bytes >>= λ m. Some (reexports_all m.0, m.1))
    else if nat_eq tag 3 then (passed_at bytes >>= λ x. Some (reexports x.0.0 x.0.1, x.1))
    else if nat_eq tag 4 then (with_modes_at bytes >>= λ x. Some (has_modes x.0.0 x.0.1, x.1))
    else if nat_eq tag 5 then (operator_at bytes >>= λ o. Some (declares o.0, o.1))
    else if nat_eq tag 6 then (number_at w32 bytes >>= λ m. Some (imports_all m.0, m.1))
    else if nat_eq tag 7 then (passed_at bytes >>= λ x. Some (imports x.0.0 x.0.1, x.1))
    else if nat_eq tag 8 then (clause_at bytes >>= λ x. Some (clause x.0.0.0 x.0.0.1 x.0.1, x.1))
    else None

unfoldable pub entry_at : Reader (Entry ℕ)
entry_at bytes = do
  t ← byte_at bytes
  b ← number_at w32 t.1
  w ← what_at t.0 b.1
  Some (record { byte = b.0; what = w.0 }, w.1)

abbrev pub section_kind_of : ℕ → Option SectionKind
section_kind_of b = if nat_eq b 1 then Some interface else if nat_eq b 2 then Some body else None

unfoldable pub section_kind_at : Reader SectionKind
section_kind_at bytes = byte_at bytes >>= λ b. section_kind_of b.0 >>= λ k. Some (k, b.1)

abbrev pub section_of : SectionKind → (ℕ × ℕ) × List (Entry ℕ) → Section ℕ
section_of k x = record { kind = k; byte = x.0.0; of = x.0.1; entries = x.1 }

unfoldable pub section_at : Reader (Section ℕ)
section_at = then_at section_of section_kind_at (then_at pair (then_at pair (number_at w32) (number_at w32)) (counted_at entry_at))

abbrev pub begins : List ℕ → Bool
begins (b0 ∷ b1 ∷ b2 ∷ b3 ∷ b4 ∷ bytes) = if nat_eq b0 0x50 then (if nat_eq b1 0x4c then (if nat_eq b2 0x4d then (if nat_eq b3 0x55 then nat_eq b4 1 else false) else false) else false) else false
begins _ = false

pub record Raw : Type 0 where
  pub names : List (List ℕ)
  pub facts : Facts ℕ

abbrev pub raw_made : List (List ℕ) × List (Need ℕ) → List (Section ℕ) → Raw
raw_made x ss = record { names = x.0; facts = record { needs = x.1; sections = ss } }

unfoldable pub parts_at : Reader Raw
parts_at = then_at raw_made (then_at pair names_at (counted_at need_at)) (counted_at section_at)

-- all of the bytes
unfoldable pub raw_of : List ℕ → Option Raw
raw_of bytes = if begins bytes then (parts_at (drop 5 bytes) >>= λ x. if nat_eq (length x.1) 0 then Some x.0 else None) else None
