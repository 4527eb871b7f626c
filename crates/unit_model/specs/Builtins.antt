-- The built-in procedures, in ascending order of name and number of arguments; the value is the row's number.
use Rattle.std.specs.Prelude.{ℕ, List, [], ◌∷◌, codes, is_some, Bool}
use Rattle.pl_atoms.specs.CaseTable.{Case, case_place}

unfoldable pub builtins : List Case
builtins =
    record { name = codes "!"; arity = 0; value = 0 }
    ∷ record { name = codes ","; arity = 2; value = 1 }
    ∷ record { name = codes "->"; arity = 2; value = 2 }
    ∷ record { name = codes ":"; arity = 2; value = 3 }
    ∷ record { name = codes ";"; arity = 2; value = 4 }
    ∷ record { name = codes "<"; arity = 2; value = 5 }
    ∷ record { name = codes "="; arity = 2; value = 6 }
    ∷ record { name = codes "=.."; arity = 2; value = 7 }
    ∷ record { name = codes "=:="; arity = 2; value = 8 }
    ∷ record { name = codes "=<"; arity = 2; value = 9 }
    ∷ record { name = codes "=="; arity = 2; value = 10 }
    ∷ record { name = codes "=\\="; arity = 2; value = 11 }
    ∷ record { name = codes ">"; arity = 2; value = 12 }
    ∷ record { name = codes ">="; arity = 2; value = 13 }
    ∷ record { name = codes "@"; arity = 2; value = 14 }
    ∷ record { name = codes "@<"; arity = 2; value = 15 }
    ∷ record { name = codes "@=<"; arity = 2; value = 16 }
    ∷ record { name = codes "@>"; arity = 2; value = 17 }
    ∷ record { name = codes "@>="; arity = 2; value = 18 }
    ∷ record { name = codes "\\+"; arity = 1; value = 19 }
    ∷ record { name = codes "\\="; arity = 2; value = 20 }
    ∷ record { name = codes "\\=="; arity = 2; value = 21 }
    ∷ record { name = codes "arg"; arity = 3; value = 22 }
    ∷ record { name = codes "atom"; arity = 1; value = 23 }
    ∷ record { name = codes "atomic"; arity = 1; value = 24 }
    ∷ record { name = codes "call"; arity = 1; value = 25 }
    ∷ record { name = codes "call"; arity = 2; value = 26 }
    ∷ record { name = codes "call"; arity = 3; value = 27 }
    ∷ record { name = codes "call"; arity = 4; value = 28 }
    ∷ record { name = codes "call"; arity = 5; value = 29 }
    ∷ record { name = codes "call"; arity = 6; value = 30 }
    ∷ record { name = codes "call"; arity = 7; value = 31 }
    ∷ record { name = codes "call"; arity = 8; value = 32 }
    ∷ record { name = codes "callable"; arity = 1; value = 33 }
    ∷ record { name = codes "calling_context"; arity = 1; value = 34 }
    ∷ record { name = codes "catch"; arity = 3; value = 35 }
    ∷ record { name = codes "compare"; arity = 3; value = 36 }
    ∷ record { name = codes "compound"; arity = 1; value = 37 }
    ∷ record { name = codes "copy_term"; arity = 2; value = 38 }
    ∷ record { name = codes "fail"; arity = 0; value = 39 }
    ∷ record { name = codes "false"; arity = 0; value = 40 }
    ∷ record { name = codes "findall"; arity = 3; value = 41 }
    ∷ record { name = codes "float"; arity = 1; value = 42 }
    ∷ record { name = codes "functor"; arity = 3; value = 43 }
    ∷ record { name = codes "ground"; arity = 1; value = 44 }
    ∷ record { name = codes "halt"; arity = 0; value = 45 }
    ∷ record { name = codes "halt"; arity = 1; value = 46 }
    ∷ record { name = codes "integer"; arity = 1; value = 47 }
    ∷ record { name = codes "is"; arity = 2; value = 48 }
    ∷ record { name = codes "nl"; arity = 0; value = 49 }
    ∷ record { name = codes "nonvar"; arity = 1; value = 50 }
    ∷ record { name = codes "number"; arity = 1; value = 51 }
    ∷ record { name = codes "once"; arity = 1; value = 52 }
    ∷ record { name = codes "put_char"; arity = 1; value = 53 }
    ∷ record { name = codes "repeat"; arity = 0; value = 54 }
    ∷ record { name = codes "term_variables"; arity = 2; value = 55 }
    ∷ record { name = codes "throw"; arity = 1; value = 56 }
    ∷ record { name = codes "true"; arity = 0; value = 57 }
    ∷ record { name = codes "unify_with_occurs_check"; arity = 2; value = 58 }
    ∷ record { name = codes "var"; arity = 1; value = 59 }
    ∷ record { name = codes "write"; arity = 1; value = 60 }
    ∷ record { name = codes "writeq"; arity = 1; value = 61 }
    ∷ []

-- whether a procedure of this name and number of arguments is built in
abbrev pub is_builtin : List ℕ → ℕ → Bool
is_builtin name arity = is_some (case_place builtins name arity)
