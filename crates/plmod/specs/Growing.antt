-- The texts of a program that grows with its number of modules.
use Rattle.std.specs.Prelude.{ℕ, ◌+◌, ◌-◌, List, [], ◌∷◌, ◌++◌, map, codes, decimal, nat_lt, if◌then◌else◌}
use Rattle.pl_terms.specs.Occurrence.{from_to}

-- the directive that imports the procedure of a module
abbrev pub import_line : ℕ → List ℕ
import_line k = codes ":- import(m" ++ decimal k ++ codes ", [p" ++ decimal k ++ codes "/1]).\n"

abbrev pub fact_line : ℕ → List ℕ
fact_line k = codes "p" ++ decimal k ++ codes "(" ++ decimal k ++ codes ").\n"

abbrev pub rule_line : ℕ → List ℕ
rule_line k = codes "p" ++ decimal k ++ codes "(X) :- p" ++ decimal (k - 1) ++ codes "(X).\n"

abbrev pub interface_lines : ℕ → List ℕ
interface_lines k = codes ":- module(m" ++ decimal k ++ codes ").\n:- export(p" ++ decimal k ++ codes "/1).\n:- end_module(m" ++ decimal k ++ codes ").\n"

abbrev pub only_after_first : ℕ → List ℕ → List ℕ
only_after_first k line = if nat_lt 1 k then line else []

abbrev pub body_lines : ℕ → List ℕ
body_lines k =
    codes ":- body(m" ++ decimal k ++ codes ").\n" ++ (only_after_first k (import_line (k - 1)) ++ (fact_line k
    ++ (only_after_first k (rule_line k) ++ (codes ":- end_body(m" ++ decimal k ++ codes ").\n"))))

-- the text of module k
abbrev pub grow_text : ℕ → List ℕ
grow_text k = interface_lines k ++ body_lines k

-- the text that imports the last module
abbrev pub last_text : ℕ → List ℕ
last_text n = import_line n ++ codes "go(X) :- p" ++ decimal n ++ codes "(X).\n"

-- the texts of n modules, and the text that imports the last
abbrev pub grow_texts : ℕ → List (List ℕ)
grow_texts n = map grow_text (from_to 1 n) ++ last_text n ∷ []

abbrev pub grow_goal : List ℕ
grow_goal = codes "go(X)."
