-- The forms of directives, and of clauses.
use Rattle.std.specs.Prelude.{ℕ, ℤ, pos, negsuc, List, [], ◌∷◌, ◌++◌, codes, nat_le, Bool, true, false, ◌||◌, Option, Some, None, Result, Ok, Err, if◌then◌else◌, option_map, option_and_then}
use Rattle.pl_terms.specs.Trees.{Tree, var, int, atom, comp, Trees, nil, cons, count}
use Rattle.pl_ops.specs.Tables.{same_text}
use Rattle.unit_model.specs.Facts.{Indicator, SectionKind, interface, body}

abbrev pub Text : Type 0
Text = List ℕ

-- ---- lists of things in a term

-- the items of a proper list
abbrev pub items_in : Tree Text → Option (List (Tree Text))
items_in (atom s) = if same_text s (codes "[]") then Some [] else None
items_in (comp s (cons h (cons t nil))) = if same_text s (codes ".") then option_map (λ ts. h ∷ ts) (items_in t) else None
items_in _ = None

abbrev pub first_of : {A : Type 0} → Option A → Option A → Option A
first_of None o = o
first_of (Some a) o = Some a

abbrev pub both : {A : Type 0} → Option (List A) → Option (List A) → Option (List A)
both None q = None
both (Some xs) None = None
both (Some xs) (Some ys) = Some (xs ++ ys)

abbrev pub single : {A : Type 0} → Option A → Option (List A)
single = option_map (λ a. a ∷ [])

module _ {A : Type 0} (one : Tree Text → Option A) where
  -- one, or several joined by commas
  abbrev pub joined : Tree Text → Option (List A)
  joined (comp s (cons l (cons r nil))) =
      first_of (single (one (comp s (cons l (cons r nil))))) (if same_text s (codes ",") then both (joined l) (joined r) else None)
  joined t = single (one t)

  abbrev pub all_of : List (Tree Text) → Option (List A)
  all_of [] = Some []
  all_of (t ∷ ts) = both (single (one t)) (all_of ts)

  -- one, a proper list of them, or several joined by commas; one is looked for first
  abbrev pub several : Tree Text → Option (List A)
  several t = first_of (single (one t)) (first_of (option_and_then all_of (items_in t)) (joined t))

-- an atom's text
abbrev pub text_in : Tree Text → Option Text
text_in (atom s) = Some s
text_in _ = None

abbrev pub integer_in : Tree Text → Option ℤ
integer_in (int z) = Some z
integer_in _ = None

abbrev pub small : ℤ → Option ℕ
small (pos n) = if nat_le n 255 then Some n else None
small (negsuc n) = None

-- N/A with an atom and an integer from 0 to 255
abbrev pub indicator_in : Tree Text → Option (Indicator Text)
indicator_in (comp s (cons (atom n) (cons (int z) nil))) =
    if same_text s (codes "/") then option_map (λ a. record { name = n; arity = a }) (small z) else None
indicator_in _ = None

abbrev pub mode_in : Tree Text → Option Bool
mode_in (atom s) = if same_text s (codes ":") then Some true else if same_text s (codes "*") then Some false else None
mode_in _ = None

abbrev pub modes_in : Trees Text → Option (List Bool)
modes_in nil = Some []
modes_in (cons t ts) = both (single (mode_in t)) (modes_in ts)

-- a name, and for each argument whether it is a metaargument
abbrev pub mode_term_in : Tree Text → Option (Text × List Bool)
mode_term_in (comp s ts) = option_map (λ ms. (s, ms)) (modes_in ts)
mode_term_in _ = None

abbrev pub indicators_in : Tree Text → Option (List (Indicator Text))
indicators_in = several indicator_in

abbrev pub mode_terms_in : Tree Text → Option (List (Text × List Bool))
mode_terms_in = several mode_term_in

-- the names of an operator directive: an atom, or a proper list of atoms
abbrev pub operator_names_in : Tree Text → Option (List Text)
operator_names_in t = first_of (option_and_then (all_of text_in) (items_in t)) (single (text_in t))

-- ---- directives

pub data Directive : Type 0 where
  opens : SectionKind → Option Text → Directive
  closes : SectionKind → Option Text → Directive
  exporting : List (Indicator Text) → Directive
  reexporting : Text → Option (List (Indicator Text)) → Directive
  metapredicates : List (Text × List Bool) → Directive
  operators : ℤ → Text → List Text → Directive
  importing : Text → Option (List (Indicator Text)) → Directive
  discontiguous : Directive

-- the form of a directive, or the number of its fault: 8 for an unknown one, 9 for arguments of another form
abbrev pub Form : Type 0
Form = Result Directive ℕ

abbrev pub form_of : Option Directive → Form
form_of None = Err 9
form_of (Some d) = Ok d

-- a module, and the indicators of which the directive speaks, where it doesn't speak of all
abbrev pub with_indicators : (Text → Option (List (Indicator Text)) → Directive) → Tree Text → Tree Text → Form
with_indicators d m is = form_of (option_and_then (λ s. option_map (λ l. d s (Some l)) (indicators_in is)) (text_in m))

abbrev pub operator_form : Tree Text → Tree Text → Tree Text → Form
operator_form p k ns =
    form_of (option_and_then (λ z. option_and_then (λ s. option_map (operators z s) (operator_names_in ns)) (text_in k)) (integer_in p))

abbrev pub unary_form : Text → Tree Text → Form
unary_form s t =
    if same_text s (codes "module") then Ok (opens interface (text_in t))
    else if same_text s (codes "end_module") then Ok (closes interface (text_in t))
    else if same_text s (codes "body") then Ok (opens body (text_in t))
    else if same_text s (codes "end_body") then Ok (closes body (text_in t))
    else if same_text s (codes "export") then form_of (option_map exporting (indicators_in t))
    else if same_text s (codes "reexport") then form_of (option_map (λ m. reexporting m None) (text_in t))
    else if same_text s (codes "metapredicate") then form_of (option_map metapredicates (mode_terms_in t))
    else if same_text s (codes "import") then form_of (option_map (λ m. importing m None) (text_in t))
    else if same_text s (codes "discontiguous") then form_of (option_map (λ is. discontiguous) (indicators_in t))
    else Err 8

abbrev pub binary_form : Text → Tree Text → Tree Text → Form
binary_form s t u =
    if same_text s (codes "reexport") then with_indicators reexporting t u
    else if same_text s (codes "import") then with_indicators importing t u
    else Err 8

abbrev pub ternary_form : Text → Tree Text → Tree Text → Tree Text → Form
ternary_form s t u v = if same_text s (codes "op") then operator_form t u v else Err 8

abbrev pub directive_of : Tree Text → Form
directive_of (comp s (cons t nil)) = unary_form s t
directive_of (comp s (cons t (cons u nil))) = binary_form s t u
directive_of (comp s (cons t (cons u (cons v nil)))) = ternary_form s t u v
directive_of _ = Err 8

-- ---- clauses

abbrev pub is_control : Text → Bool
is_control s = same_text s (codes ",") || (same_text s (codes ";") || same_text s (codes "->"))

abbrev pub control : Text → Option (Tree Text) → Option (Tree Text) → Option (Tree Text)
control s None q = None
control s (Some l) None = None
control s (Some l) (Some r) = Some (comp s (cons l (cons r nil)))

-- A body (ISO/IEC 13211-1, 7.6.2): each variable in a goal place is the goal that calls it; none where such a place has an integer.
abbrev pub converted : Tree Text → Option (Tree Text)
converted (var n) = Some (comp (codes "call") (cons (var n) nil))
converted (int z) = None
converted (comp s (cons l (cons r nil))) =
    if is_control s then control s (converted l) (converted r) else Some (comp s (cons l (cons r nil)))
converted t = Some t

pub record Parts : Type 0 where
  pub head : Tree Text
  pub body : Tree Text

abbrev pub rule : Text → Tree Text → Tree Text → Parts
rule s l r =
    if same_text s (codes ":-") then record { head = l; body = r }
    else record { head = comp s (cons l (cons r nil)); body = atom (codes "true") }

-- H :- B, or H alone
abbrev pub parts_of : Tree Text → Parts
parts_of (comp s (cons l (cons r nil))) = rule s l r
parts_of t = record { head = t; body = atom (codes "true") }

-- the indicator of a head
abbrev pub head_indicator : Tree Text → Option (Indicator Text)
head_indicator (var n) = None
head_indicator (int z) = None
head_indicator (atom s) = Some (record { name = s; arity = 0 })
head_indicator (comp s ts) = Some (record { name = s; arity = count ts })

-- a term whose own name is --> with two arguments
abbrev pub is_grammar_rule : Tree Text → Bool
is_grammar_rule (comp s (cons l (cons r nil))) = same_text s (codes "-->")
is_grammar_rule _ = false
