-- What the words of a command line ask for.
use Rattle.std.specs.Prelude.{ℕ, ◌+◌, ◌-◌, ◌*◌, ◌^◌, List, [], ◌∷◌, Option, Some, None, ◌&&◌, nat_le, nat_lt, bytes_eq, codes, if◌then◌else◌, option_and_then, option_map}
use Rattle.plmod.specs.declared.words.Command.{Command}
use Rattle.plmod.specs.declared.words.Command.TheVariants.{Prepare as CommandPrepare, Link as CommandLink, Run as CommandRun, All as CommandAll, Show as CommandShow, Grow as CommandGrow}

-- a command, with texts for its names
pub data Order : Type 0 where
  Prepare : (out text : List ℕ) (known : List (List ℕ)) → Order
  Link : (units : List (List ℕ)) → Order
  Run : (budget : ℕ) (goal : List ℕ) (units : List (List ℕ)) → Order
  All : (budget : ℕ) (goal : List ℕ) (texts : List (List ℕ)) → Order
  Show : (units : List (List ℕ)) → Order
  Grow : (count budget : ℕ) → Order

abbrev pub order_of : Command → Order
order_of (CommandPrepare out text known) = Prepare out.now text.now known.now
order_of (CommandLink units) = Link units.now
order_of (CommandRun budget goal units) = Run budget goal.now units.now
order_of (CommandAll budget goal texts) = All budget goal.now texts.now
order_of (CommandShow units) = Show units.now
order_of (CommandGrow count budget) = Grow count budget

abbrev pub number_from : ℕ → List ℕ → Option ℕ
number_from n [] = Some n
number_from n (b ∷ digits) = if nat_le 48 b && nat_le b 57 then number_from (n * 10 + (b - 48)) digits else None

-- what one or more digits stand for
abbrev pub number_of : List ℕ → Option ℕ
number_of [] = None
number_of (b ∷ digits) = number_from 0 (b ∷ digits)

-- a number below 2 ^ 64
abbrev pub if_small : Option ℕ → Option ℕ
if_small number = option_and_then (λ n. if nat_lt n (2 ^ 64) then Some n else None) number

abbrev pub budget_of : List ℕ → Option ℕ
budget_of digits = if_small (number_of digits)

-- a number from 1 to 2000
abbrev pub if_count : Option ℕ → Option ℕ
if_count number = option_and_then (λ n. if nat_le 1 n && nat_le n 2000 then Some n else None) number

abbrev pub count_of : List ℕ → Option ℕ
count_of digits = if_count (budget_of digits)

abbrev pub prepare_of : List (List ℕ) → Option Order
prepare_of (out ∷ text ∷ known) = Some (Prepare out text known)
prepare_of words = None

-- one or more names
abbrev pub some_of : (List (List ℕ) → Order) → List (List ℕ) → Option Order
some_of make [] = None
some_of make (name ∷ names) = Some (make (name ∷ names))

-- a budget, a goal, and one or more names
abbrev pub goal_of : (ℕ → List ℕ → List (List ℕ) → Order) → List (List ℕ) → Option Order
goal_of make (budget ∷ goal ∷ name ∷ names) = option_map (λ n. make n goal (name ∷ names)) (budget_of budget)
goal_of make words = None

abbrev pub grow_of : List (List ℕ) → Option Order
grow_of (count ∷ budget ∷ []) = option_and_then (λ n. option_map (Grow n) (budget_of budget)) (count_of count)
grow_of words = None

-- the command that these words are
abbrev pub command_of : List (List ℕ) → Option Order
command_of [] = None
command_of (word ∷ rest) =
    if bytes_eq word (codes "prepare") then prepare_of rest
    else if bytes_eq word (codes "link") then some_of Link rest
    else if bytes_eq word (codes "run") then goal_of Run rest
    else if bytes_eq word (codes "all") then goal_of All rest
    else if bytes_eq word (codes "show") then some_of Show rest
    else if bytes_eq word (codes "grow") then grow_of rest
    else None

-- the names that a command reads, in order
abbrev pub read_names : Option Order → List (List ℕ)
read_names None = []
read_names (Some (Prepare out text known)) = text ∷ known
read_names (Some (Link units)) = units
read_names (Some (Run budget goal units)) = units
read_names (Some (All budget goal texts)) = texts
read_names (Some (Show units)) = units
read_names (Some (Grow count budget)) = []

-- the name that a command may put
abbrev pub out_name : Option Order → Option (List ℕ)
out_name (Some (Prepare out text known)) = Some out
out_name _ = None
