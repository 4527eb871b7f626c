-- Worked units: their first link faults and their rows.
use Rattle.std.proofs.Common.{◌≡◌, ℕ, List, [], ◌∷◌, codes, true, false, refl, Some, None}
use Rattle.std.specs.Prelude.{pos}
use Rattle.pl_terms.specs.Trees.{var, int, atom, comp, nil, cons}
use Rattle.pl_ops.specs.declared.op.Kind.{Kind}
use Rattle.pl_ops.specs.declared.op.Kind.TheVariants.{Xfx as xfx}
use Rattle.unit_model.specs.Facts.{OperatorOf, Need, What, exports, reexports_all, reexports, has_modes, declares, imports_all, imports, clause, Entry, SectionKind, interface, body, Section, Facts}
use Rattle.unit_model.specs.Directives.{Text}
use Rattle.unit_model.specs.Builtins.{builtins}
use Rattle.link_model.specs.Places.{Ind}
use Rattle.link_model.specs.Faults.{first_link, fault}
use Rattle.link_model.specs.Rows.{Row, rows_of}

abbrev ind : Text → ℕ → Ind
ind name arity = record { name = name; arity = arity }

abbrev oper : ℕ → Kind → Text → OperatorOf Text
oper p k s = record { op = record { priority = p; kind = k }; name = s }

abbrev at : ℕ → What Text → Entry Text
at b w = record { byte = b; what = w }

abbrev section : SectionKind → ℕ → Text → List (Entry Text) → Section Text
section k b m es = record { kind = k; byte = b; of = m; entries = es }

abbrev needs : ℕ → Text → List (OperatorOf Text) → Need Text
needs b m os = record { byte = b; of = m; operators = os }

abbrev facts : List (Need Text) → List (Section Text) → Facts Text
facts ns ss = record { needs = ns; sections = ss }

abbrev line : Text → Ind → Text → Row
line m i d = record { of = m; ind = i; definer = d }

abbrev row6_0 : Facts Text
row6_0 = facts [] ((section body 0 (codes "user") []) ∷ (section interface 0 (codes "lists") ((at 18 (exports (ind (codes "append") 3))) ∷ (at 18 (exports (ind (codes "maplist") 3))) ∷ (at 52 (has_modes (codes "maplist") (true ∷ false ∷ false ∷ []))) ∷ [])) ∷ [])

abbrev row6_1 : Facts Text
row6_1 = facts ((needs 0 (codes "lists") []) ∷ []) ((section body 0 (codes "user") []) ∷ (section body 0 (codes "lists") ((at 16 (clause 1 (comp (codes "append") (cons (atom (codes "[]")) (cons (var 0) (cons (var 0) nil)))) (atom (codes "true")))) ∷ (at 34 (clause 4 (comp (codes "append") (cons (comp (codes ".") (cons (var 0) (cons (var 1) nil))) (cons (var 2) (cons (comp (codes ".") (cons (var 0) (cons (var 3) nil))) nil)))) (comp (codes "append") (cons (var 1) (cons (var 2) (cons (var 3) nil)))))) ∷ (at 78 (clause 1 (comp (codes "maplist") (cons (var 0) (cons (atom (codes "[]")) (cons (atom (codes "[]")) nil)))) (atom (codes "true")))) ∷ (at 98 (clause 5 (comp (codes "maplist") (cons (var 0) (cons (comp (codes ".") (cons (var 1) (cons (var 2) nil))) (cons (comp (codes ".") (cons (var 3) (cons (var 4) nil))) nil)))) (comp (codes ",") (cons (comp (codes "call") (cons (var 0) (cons (var 1) (cons (var 3) nil)))) (cons (comp (codes "maplist") (cons (var 0) (cons (var 2) (cons (var 4) nil)))) nil))))) ∷ [])) ∷ [])

abbrev row6_2 : Facts Text
row6_2 = facts ((needs 0 (codes "lists") []) ∷ []) ((section body 0 (codes "user") ((at 0 (imports_all (codes "lists"))) ∷ (at 18 (clause 3 (comp (codes "split") (cons (var 0) (cons (var 1) (cons (var 2) nil)))) (comp (codes "append") (cons (var 0) (cons (var 1) (cons (var 2) nil)))))) ∷ (at 53 (clause 2 (comp (codes "double") (cons (var 0) (cons (var 1) nil))) (comp (codes "is") (cons (var 1) (cons (comp (codes "*") (cons (var 0) (cons (int (pos 2)) nil))) nil))))) ∷ [])) ∷ [])

abbrev row6 : List (Facts Text)
row6 = row6_0 ∷ row6_1 ∷ row6_2 ∷ []

row6_first : first_link row6 ≡ None
unfolding builtins
row6_first = refl

row6_rows : rows_of row6 ≡ line (codes "lists") (ind (codes "append") 3) (codes "lists") ∷ line (codes "lists") (ind (codes "maplist") 3) (codes "lists") ∷ line (codes "user") (ind (codes "append") 3) (codes "lists") ∷ line (codes "user") (ind (codes "double") 2) (codes "user") ∷ line (codes "user") (ind (codes "maplist") 3) (codes "lists") ∷ line (codes "user") (ind (codes "split") 3) (codes "user") ∷ []
unfolding builtins
row6_rows = refl

abbrev row7_0 : Facts Text
row7_0 = facts [] ((section body 0 (codes "user") []) ∷ (section interface 0 (codes "m") ((at 14 (exports (ind (codes "p") 0))) ∷ [])) ∷ (section body 48 (codes "m") ((at 60 (clause 0 (atom (codes "p")) (atom (codes "true")))) ∷ (at 63 (clause 0 (comp (codes "rev") (cons (atom (codes "a")) (cons (atom (codes "b")) nil))) (atom (codes "true")))) ∷ [])) ∷ [])

abbrev row7_1 : Facts Text
row7_1 = facts ((needs 0 (codes "m") []) ∷ []) ((section body 0 (codes "user") ((at 0 (imports (codes "m") (ind (codes "rev") 2))) ∷ [])) ∷ [])

abbrev row7 : List (Facts Text)
row7 = row7_0 ∷ row7_1 ∷ []

row7_first : first_link row7 ≡ Some (fault 1 0 6)
unfolding builtins
row7_first = refl

abbrev row9_0 : Facts Text
row9_0 = facts [] ((section body 0 (codes "user") []) ∷ (section interface 0 (codes "o") ((at 14 (declares (oper 700 xfx (codes "===>")))) ∷ (at 37 (exports (ind (codes "r") 1))) ∷ [])) ∷ (section body 71 (codes "o") ((at 83 (clause 0 (comp (codes "r") (cons (comp (codes "===>") (cons (atom (codes "a")) (cons (atom (codes "b")) nil))) nil)) (atom (codes "true")))) ∷ [])) ∷ [])

abbrev row9_1 : Facts Text
row9_1 = facts ((needs 0 (codes "o") ((oper 690 xfx (codes "===>")) ∷ [])) ∷ []) ((section body 0 (codes "user") ((at 0 (imports_all (codes "o"))) ∷ (at 14 (clause 1 (comp (codes "s") (cons (var 0) nil)) (comp (codes ",") (cons (comp (codes "r") (cons (var 0) nil)) (cons (comp (codes "=") (cons (var 0) (cons (comp (codes "===>") (cons (atom (codes "a")) (cons (atom (codes "b")) nil))) nil))) nil))))) ∷ [])) ∷ [])

abbrev row9 : List (Facts Text)
row9 = row9_0 ∷ row9_1 ∷ []

row9_first : first_link row9 ≡ Some (fault 1 0 2)
unfolding builtins
row9_first = refl

abbrev row9_right_0 : Facts Text
row9_right_0 = facts [] ((section body 0 (codes "user") []) ∷ (section interface 0 (codes "o") ((at 14 (declares (oper 700 xfx (codes "===>")))) ∷ (at 37 (exports (ind (codes "r") 1))) ∷ [])) ∷ (section body 71 (codes "o") ((at 83 (clause 0 (comp (codes "r") (cons (comp (codes "===>") (cons (atom (codes "a")) (cons (atom (codes "b")) nil))) nil)) (atom (codes "true")))) ∷ [])) ∷ [])

abbrev row9_right_1 : Facts Text
row9_right_1 = facts ((needs 0 (codes "o") ((oper 700 xfx (codes "===>")) ∷ [])) ∷ []) ((section body 0 (codes "user") ((at 0 (imports_all (codes "o"))) ∷ (at 14 (clause 1 (comp (codes "s") (cons (var 0) nil)) (comp (codes ",") (cons (comp (codes "r") (cons (var 0) nil)) (cons (comp (codes "=") (cons (var 0) (cons (comp (codes "===>") (cons (atom (codes "a")) (cons (atom (codes "b")) nil))) nil))) nil))))) ∷ [])) ∷ [])

abbrev row9_right : List (Facts Text)
row9_right = row9_right_0 ∷ row9_right_1 ∷ []

row9_right_first : first_link row9_right ≡ None
unfolding builtins
row9_right_first = refl

abbrev row10_0 : Facts Text
row10_0 = facts [] ((section body 0 (codes "user") []) ∷ (section interface 0 (codes "a") ((at 14 (exports (ind (codes "p") 0))) ∷ [])) ∷ (section interface 48 (codes "b") ((at 62 (exports (ind (codes "p") 0))) ∷ [])) ∷ (section body 96 (codes "a") ((at 108 (clause 0 (atom (codes "p")) (atom (codes "true")))) ∷ [])) ∷ (section body 127 (codes "b") ((at 139 (clause 0 (atom (codes "p")) (atom (codes "true")))) ∷ [])) ∷ [])

abbrev row10_1 : Facts Text
row10_1 = facts ((needs 0 (codes "a") []) ∷ (needs 14 (codes "b") []) ∷ []) ((section body 0 (codes "user") ((at 0 (imports_all (codes "a"))) ∷ (at 14 (imports_all (codes "b"))) ∷ [])) ∷ [])

abbrev row10 : List (Facts Text)
row10 = row10_0 ∷ row10_1 ∷ []

row10_first : first_link row10 ≡ Some (fault 1 14 7)
unfolding builtins
row10_first = refl

abbrev row23_0 : Facts Text
row23_0 = facts [] ((section body 0 (codes "user") []) ∷ (section interface 0 (codes "m") []) ∷ [])

abbrev row23_1 : Facts Text
row23_1 = facts [] ((section body 0 (codes "user") []) ∷ (section interface 0 (codes "m") []) ∷ [])

abbrev row23 : List (Facts Text)
row23 = row23_0 ∷ row23_1 ∷ []

row23_first : first_link row23 ≡ Some (fault 1 0 3)
unfolding builtins
row23_first = refl

abbrev row23_export_0 : Facts Text
row23_export_0 = facts [] ((section body 0 (codes "user") []) ∷ (section interface 0 (codes "m") ((at 14 (exports (ind (codes "p") 0))) ∷ [])) ∷ [])

abbrev row23_export : List (Facts Text)
row23_export = row23_export_0 ∷ []

row23_export_first : first_link row23_export ≡ Some (fault 0 14 4)
unfolding builtins
row23_export_first = refl

abbrev row23_modes_0 : Facts Text
row23_modes_0 = facts [] ((section body 0 (codes "user") []) ∷ (section interface 0 (codes "m") ((at 14 (has_modes (codes "p") (true ∷ []))) ∷ [])) ∷ [])

abbrev row23_modes : List (Facts Text)
row23_modes = row23_modes_0 ∷ []

row23_modes_first : first_link row23_modes ≡ Some (fault 0 14 5)
unfolding builtins
row23_modes_first = refl

abbrev row23_split_0 : Facts Text
row23_split_0 = facts [] ((section body 0 (codes "user") ((at 0 (clause 0 (atom (codes "p")) (atom (codes "true")))) ∷ [])) ∷ [])

abbrev row23_split_1 : Facts Text
row23_split_1 = facts [] ((section body 0 (codes "user") ((at 0 (clause 0 (atom (codes "p")) (atom (codes "true")))) ∷ [])) ∷ [])

abbrev row23_split : List (Facts Text)
row23_split = row23_split_0 ∷ row23_split_1 ∷ []

row23_split_first : first_link row23_split ≡ Some (fault 1 0 8)
unfolding builtins
row23_split_first = refl

abbrev chain_0 : Facts Text
chain_0 = facts [] ((section body 0 (codes "user") []) ∷ (section interface 0 (codes "a") ((at 14 (exports (ind (codes "p") 0))) ∷ [])) ∷ (section body 48 (codes "a") ((at 60 (clause 0 (atom (codes "p")) (atom (codes "true")))) ∷ [])) ∷ [])

abbrev chain_1 : Facts Text
chain_1 = facts ((needs 14 (codes "a") []) ∷ []) ((section body 0 (codes "user") []) ∷ (section interface 0 (codes "b") ((at 14 (reexports_all (codes "a"))) ∷ [])) ∷ (section interface 48 (codes "c") ((at 62 (reexports (codes "b") (ind (codes "p") 0))) ∷ [])) ∷ [])

abbrev chain_2 : Facts Text
chain_2 = facts ((needs 0 (codes "c") []) ∷ []) ((section body 0 (codes "user") ((at 0 (imports_all (codes "c"))) ∷ [])) ∷ [])

abbrev chain : List (Facts Text)
chain = chain_0 ∷ chain_1 ∷ chain_2 ∷ []

chain_first : first_link chain ≡ None
unfolding builtins
chain_first = refl

chain_rows : rows_of chain ≡ line (codes "a") (ind (codes "p") 0) (codes "a") ∷ line (codes "user") (ind (codes "p") 0) (codes "a") ∷ []
unfolding builtins
chain_rows = refl

abbrev row17_0 : Facts Text
row17_0 = facts [] ((section body 0 (codes "user") ((at 0 (clause 0 (atom (codes "true")) (atom (codes "a")))) ∷ [])) ∷ [])

abbrev row17 : List (Facts Text)
row17 = row17_0 ∷ []

row17_first : first_link row17 ≡ Some (fault 0 0 7)
unfolding builtins
row17_first = refl

-- a clause for what is imported as well, and an indicator that two modules give to one
abbrev local_1 : Facts Text
local_1 = facts ((needs 20 (codes "a") []) ∷ []) (section body 0 (codes "user") (at 0 (clause 0 (atom (codes "p")) (atom (codes "true"))) ∷ at 20 (imports_all (codes "a")) ∷ []) ∷ [])

abbrev local : List (Facts Text)
local = chain_0 ∷ local_1 ∷ []

local_first : first_link local ≡ Some (fault 1 20 7)
unfolding builtins
local_first = refl

abbrev both_1 : Facts Text
both_1 = facts ((needs 14 (codes "a") []) ∷ (needs 31 (codes "b") []) ∷ []) (section body 0 (codes "user") [] ∷ section interface 0 (codes "c") (at 14 (reexports_all (codes "a")) ∷ at 31 (reexports_all (codes "b")) ∷ []) ∷ [])

both_first : first_link (row10_0 ∷ both_1 ∷ []) ≡ Some (fault 1 31 7)
unfolding builtins
both_first = refl
