-- Which facts are those of a unit.
use Rattle.std.specs.Prelude.{◌≡◌, ℕ, ◌+◌, ◌<◌, ◌≤◌, ◌^◌, List, [], ◌∷◌, ◌++◌, length, map, codes, nat_eq, nat_lt, Bool, not, true, false, ◌&&◌, ◌||◌, Option, Some, None, if◌then◌else◌, IsUtf8, is_some, FitsSigned}
use Rattle.std.specs.Int.{w64}
use Rattle.std.specs.List.{AllByRecursion, list_any, list_all, filter_map}
use Rattle.pl_terms.specs.Trees.{Tree, var, int, atom, comp, Trees, nil, cons, count}
use Rattle.pl_ops.specs.Tables.{Declaration, Class, prefix_class, infix_class, postfix_class, class_of, operator, same_text}
use Rattle.pl_terms.specs.Occurrence.{occurrences, first_after, from_to}
use Rattle.unit_model.specs.Facts.{Indicator, OperatorOf, Need, What, exports, reexports_all, reexports, has_modes, declares, imports_all, imports, clause, Entry, SectionKind, interface, body, Section, Facts}
use Rattle.unit_model.specs.Encoding.{table_of, encoding}
use Rattle.pl_ops.specs.Standard.{standard}

abbrev pub Text : Type 0
Text = List ℕ

-- ---- numbers within their fields, and names of which IsName holds

module _ {N : Type 0} (IsName : N → Type 0) where
  abbrev mutual
    pub FitsTree : Tree N → Type 0
    FitsTree (var n) = n < 2 ^ 32
    FitsTree (int z) = FitsSigned w64 z
    FitsTree (atom s) = IsName s
    FitsTree (comp s ts) = IsName s × (0 < count ts) × (count ts < 2 ^ 8) × FitTrees ts

    pub FitTrees : Trees N → Type 0
    FitTrees nil = Unit {0}
    FitTrees (cons t ts) = FitsTree t × FitTrees ts

  pub record FitsIndicator (i : Indicator N) : Type 0 where
    pub name : IsName i.name
    pub arity : i.arity < 2 ^ 8

  pub record FitsOperator (o : OperatorOf N) : Type 0 where
    pub priority : o.op.priority < 2 ^ 16
    pub name : IsName o.name

  abbrev pub FitsWhat : What N → Type 0
  FitsWhat (exports i) = FitsIndicator i
  FitsWhat (reexports_all m) = IsName m
  FitsWhat (reexports m i) = IsName m × FitsIndicator i
  FitsWhat (has_modes s ms) = IsName s × (length ms < 2 ^ 8)
  FitsWhat (declares o) = FitsOperator o
  FitsWhat (imports_all m) = IsName m
  FitsWhat (imports m i) = IsName m × FitsIndicator i
  FitsWhat (clause n h b) = (n < 2 ^ 32) × FitsTree h × FitsTree b

  pub record FitsEntry (e : Entry N) : Type 0 where
    pub byte : e.byte < 2 ^ 32
    pub what : FitsWhat e.what

  pub record FitsNeed (n : Need N) : Type 0 where
    pub byte : n.byte < 2 ^ 32
    pub of : IsName n.of
    pub length : length n.operators < 2 ^ 32
    pub operators : AllByRecursion FitsOperator n.operators

  pub record FitsSection (s : Section N) : Type 0 where
    pub byte : s.byte < 2 ^ 32
    pub of : IsName s.of
    pub length : length s.entries < 2 ^ 32
    pub entries : AllByRecursion FitsEntry s.entries

  pub record FitsFacts (f : Facts N) : Type 0 where
    pub needs_length : length f.needs < 2 ^ 32
    pub needs : AllByRecursion FitsNeed f.needs
    pub sections_length : length f.sections < 2 ^ 32
    pub sections : AllByRecursion FitsSection f.sections

-- a text that is a name
abbrev pub IsName : Text → Type 0
IsName s = IsUtf8 s × (length s < 2 ^ 32)

-- ---- the rules, as tests

abbrev pub is_user : Text → Bool
is_user s = same_text s (codes "user")

abbrev pub is_system : Text → Bool
is_system s = same_text s (codes "system")

abbrev pub is_interface : SectionKind → Bool
is_interface interface = true
is_interface body = false

-- the first section is a body of user at byte 0; no other is of user or of system
abbrev pub begins_with_user : List (Section Text) → Bool
begins_with_user [] = false
begins_with_user (s ∷ ss) = not (is_interface s.kind) && (nat_eq s.byte 0 && (is_user s.of && list_all (λ t. not (is_user t.of || is_system t.of)) ss))

-- the tags that stand in interfaces
abbrev pub is_for_interface : {N : Type 0} → What N → Bool
is_for_interface (exports i) = true
is_for_interface (reexports_all m) = true
is_for_interface (reexports m i) = true
is_for_interface (has_modes s ms) = true
is_for_interface (declares o) = true
is_for_interface (imports_all m) = false
is_for_interface (imports m i) = false
is_for_interface (clause n h b) = false

abbrev pub same_bool : Bool → Bool → Bool
same_bool true b = b
same_bool false b = not b

abbrev pub has_its_entries : {N : Type 0} → Section N → Bool
has_its_entries s = list_all (λ e. same_bool (is_interface s.kind) (is_for_interface e.what)) s.entries

-- the other of infix and postfix
abbrev pub has_other : List Declaration → Class → Text → Bool
has_other table prefix_class s = false
has_other table infix_class s = is_some (operator table postfix_class s)
has_other table postfix_class s = is_some (operator table infix_class s)

abbrev pub is_barred : Text → Bool
is_barred s = list_any (same_text s) (codes "," ∷ codes "|" ∷ codes "[]" ∷ codes "{}" ∷ [])

-- a declaration of a known kind that a table refuses
abbrev pub is_refused : List Declaration → Declaration → Bool
is_refused table d = nat_lt 1200 d.op.priority || (is_barred d.name || (nat_lt 0 d.op.priority && has_other table (class_of d.op.kind) d.name))

-- accepted when added in order
abbrev pub accepts : List Declaration → List Declaration → Bool
accepts table [] = true
accepts table (d ∷ ds) = not (is_refused table d) && accepts (table ++ d ∷ []) ds

abbrev pub declaration : OperatorOf Text → Declaration
declaration o = record { op = o.op; name = o.name }

abbrev pub is_accepted : List (OperatorOf Text) → Bool
is_accepted os = accepts standard (map declaration os)

abbrev pub operator_in : {N : Type 0} → What N → Option (OperatorOf N)
operator_in (declares o) = Some o
operator_in _ = None

abbrev pub operators_of : {N : Type 0} → Section N → List (OperatorOf N)
operators_of s = filter_map (λ e. operator_in e.what) s.entries

-- no variable or integer in a goal place
abbrev pub is_control : Text → ℕ → Bool
is_control s n = nat_eq n 2 && list_any (same_text s) (codes "," ∷ codes ";" ∷ codes "->" ∷ [])

abbrev mutual
  pub is_converted : Tree Text → Bool
  is_converted (var n) = false
  is_converted (int z) = false
  is_converted (atom s) = true
  is_converted (comp s ts) = not (is_control s (count ts)) || are_converted ts

  pub are_converted : Trees Text → Bool
  are_converted nil = true
  are_converted (cons t ts) = is_converted t && are_converted ts

abbrev pub is_head : {N : Type 0} → Tree N → Bool
is_head (var n) = false
is_head (int z) = false
is_head (atom s) = true
is_head (comp s ts) = true

abbrev pub are_same : List ℕ → List ℕ → Bool
are_same = same_text

-- modes are at least one; a head, a converted body, and variables 0, 1, 2 and so on in order of first occurrence
abbrev pub is_clause : What Text → Bool
is_clause (has_modes s ms) = nat_lt 0 (length ms)
is_clause (clause n h b) = is_head h && (is_converted b && are_same (first_after [] (occurrences h ++ occurrences b)) (from_to 0 n))
is_clause _ = true

abbrev pub own_modules : List (Section Text) → List Text
own_modules ss = filter_map (λ s. if is_interface s.kind then Some s.of else None) ss

abbrev pub holds : List Text → Text → Bool
holds ss s = list_any (same_text s) ss

-- distinct modules, none of them user, system or one with an interface here
abbrev pub are_needs : List Text → List Text → Bool
are_needs own [] = true
are_needs own (m ∷ ms) = not (is_user m || (is_system m || (holds own m || holds ms m))) && are_needs own ms

-- what an entry names has a need or an interface
abbrev pub names_known : List Text → What Text → Bool
names_known known (reexports_all m) = holds known m
names_known known (reexports m i) = holds known m
names_known known (imports_all m) = holds known m
names_known known (imports m i) = holds known m
names_known known _ = true

abbrev pub knows : List Text → Section Text → Bool
knows known s = (is_interface s.kind || holds known s.of) && list_all (λ e. names_known known e.what) s.entries

abbrev pub known_in : Facts Text → List Text
known_in f = own_modules f.sections ++ map (λ n. n.of) f.needs

abbrev pub all_known : List Text → List (Section Text) → Bool
all_known known [] = true
all_known known (s ∷ ss) = list_all (λ e. names_known known e.what) s.entries && list_all (knows known) ss

abbrev pub keeps_rules : Facts Text → Bool
keeps_rules f =
    begins_with_user f.sections
    && (list_all has_its_entries f.sections
    && (list_all (λ s. not (is_interface s.kind) || is_accepted (operators_of s)) f.sections
    && (list_all (λ n. is_accepted n.operators) f.needs
    && (list_all (λ s. list_all (λ e. is_clause e.what) s.entries) f.sections
    && (are_needs (own_modules f.sections) (map (λ n. n.of) f.needs)
    && all_known (known_in f) f.sections)))))

pub record IsValid (f : Facts Text) : Type 0 where
  pub fits : FitsFacts IsName f
  pub names : length (table_of f) < 2 ^ 32
  pub rules : keeps_rules f ≡ true

-- the bytes of a unit
pub record IsUnit (f : Facts Text) (bytes : List ℕ) : Type 0 where
  pub valid : IsValid f
  pub spelled : bytes ≡ encoding f
  pub within : length bytes ≤ 67108864
