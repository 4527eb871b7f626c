-- Goals of the program's procedures.
use Rattle.std.proofs.Common.{◌≡◌, ℕ, zero, suc, ◌+◌, ◌<◌, Bool, true, false, ◌&&◌, not, cond, List, [], ◌∷◌, Option, Some, None, refl, sym, ap, ◌∙◌, subst, arith, length, get_or, nat_eq, nat_lt, position, find}
use Rattle.std.specs.List.{position_or_len}
use Rattle.std.proofs.lemmas.Bool.{false≢true, eqb-true}
use Rattle.std.proofs.lemmas.Bool.Decides.{nat_tests}
use Rattle.pl_terms.specs.Trees.{Tree, Trees, var, int, atom, comp, nil, cons, count}
use Rattle.pl_unify.specs.Shape.{arity, root}
use Rattle.clause_code.specs.Heads.{IsNamed}
use Rattle.unit_model.specs.Facts.{Indicator}
use Rattle.builtin_model.specs.Naming.{Naming}
use Rattle.goal_model.specs.Rows.{Row, row_of, name_of, user, calling}
use Rattle.goal_model.specs.Environments.{qualified}
use Rattle.goal_model.specs.Table.{goal_tree, arguments_in}
use Rattle.goal_constructs.specs.Goals.{arguments_of}
use Rattle.mod_meta.specs.Qualified.{IsColon, qualified_goal}
use Rattle.pl_store.specs.Linked.{Linked, no_procedure, procedure_at, is_procedure, same_indicator, Row as Visible, visible_in, is_row}
use Rattle.pl_store.specs.Rules.{indicator_of, HasArity}
use Rattle.pl_store.specs.Facts.{IsLinked, EachAt, IsVisible, no_row}
use Rattle.pl_store.specs.Runs.{program_of, number_of, modes_from}
use Rattle.pl_store.proofs.FactLaws.{same-is}
use Rattle.std.specs.Option.{option_map}
use Rattle.goal_constructs.specs.Constructs.{AreConstructs}
use Rattle.goal_constructs.specs.declared.names.GoalNames.{GoalNames}
use Rattle.goal_constructs.specs.declared.constructs.Constructs.{Constructs}
use Rattle.goal_state.specs.declared.compiled.CompiledProgram.{CompiledProgram}
use Rattle.goal_state.specs.Denotation.{linked, naming}
use Rattle.goal_moves.specs.Clauses.{IsProper, passed_goal}

-- ---- names and numbers of arguments

pub indicator_is : (n : Naming ℕ) (t : Tree ℕ) (i : Indicator ℕ) → indicator_of t ≡ Some i → ◌≡◌ {A = Indicator ℕ} (record { name = name_of n t; arity = count (arguments_of t) }) i
indicator_is n (var v) i h = cc
indicator_is n (int z) i h = cc
indicator_is n (atom s) i h = cc
indicator_is n (comp s ts) i h = cc

abbrev arity_in : Option (Indicator ℕ) → ℕ
arity_in None = 0
arity_in (Some i) = i.arity

pub arity_is : (t : Tree ℕ) (i : Indicator ℕ) → indicator_of t ≡ Some i → arity t ≡ i.arity
arity_is t i h = seen t ∙ ap arity_in h
  where
    seen : (t : Tree ℕ) → arity t ≡ arity_in (indicator_of t)
    seen (var v) = refl
    seen (int z) = refl
    seen (atom s) = refl
    seen (comp s ts) = refl

abbrev is_calling : Row ℕ → Bool
is_calling (calling t ts) = true
is_calling r = false

-- a goal of a procedure is an atom or a compound
pub user_named : (n : Naming ℕ) (t : Tree ℕ) (s : ℕ) (ts : Trees ℕ) → row_of n t ≡ user s ts → IsNamed (root t)
unfolding row_of
user_named n (var v) s ts h = absurd (false≢true (sym (ap is_calling h)))
user_named n (int z) s ts h = absurd (false≢true (sym (ap is_calling h)))
user_named n (atom a) s ts h = tt
user_named n (comp f us) s ts h = tt

-- ---- goals of metapredicates

pub passed_plain : (n : Naming ℕ) (t : Tree ℕ) (i : Indicator ℕ) (context : ℕ) → IsProper t → indicator_of t ≡ Some i → t ≡ goal_tree (name_of n t) (arguments_in n context None (arguments_of t))
passed_plain n (var v) i context p h = cc
passed_plain n (int z) i context p h = cc
passed_plain n (atom s) i context p h = refl
passed_plain n (comp s nil) i context p h = absurd p
passed_plain n (comp s (cons u us)) i context p h = refl

pub passed_meta : (n : Naming ℕ) (t : Tree ℕ) (i : Indicator ℕ) (context : ℕ) (modes : List Bool) → IsProper t → indicator_of t ≡ Some i → qualified_goal n modes context t ≡ goal_tree (name_of n t) (arguments_in n context (Some modes) (arguments_of t))
passed_meta n (var v) i context modes p h = cc
passed_meta n (int z) i context modes p h = cc
passed_meta n (atom s) i context [] p h = refl
passed_meta n (atom s) i context (b ∷ bs) p h = refl
passed_meta n (comp s nil) i context modes p h = absurd p
passed_meta n (comp s (cons u us)) i context [] p h = refl
passed_meta n (comp s (cons u us)) i context (b ∷ bs) p h = refl

-- ---- a procedure by its module and indicator

both : (a b : Bool) → a && b ≡ true → (a ≡ true) × (b ≡ true)
both true b h = (refl, h)
both false b h = absurd (false≢true h)

place-len : {X : Type 0} (t : X → Bool) (d : X) (xs : List X) (k : ℕ) → k < length xs → t (get_or xs k d) ≡ true → ((m : ℕ) → m < k → t (get_or xs m d) ≡ true → ⊥) → position_or_len t xs ≡ k
place-len t d [] k lt h none = absurd (omega arith)
place-len t d (x ∷ xs) zero lt h none = ap (λ b. cond (not b) (1 + position_or_len t xs) 0) h
place-len t d (x ∷ xs) (suc k) lt h none = go (t x) refl (place-len t d xs k (omega (arith, lt)) h (λ m less e. none (suc m) (omega (arith, less)) e))
  where
    go : (b : Bool) → t x ≡ b → position_or_len t xs ≡ k → cond (not b) (1 + position_or_len t xs) 0 ≡ suc k
    go true e r = absurd (none 0 (omega arith) e)
    go false e r = omega (arith, r)

lt_yes : (a b : ℕ) → a < b → nat_lt a b ≡ true
lt_yes a b h = grind (arith, nat_tests)

position-is : {X : Type 0} (t : X → Bool) (d : X) (xs : List X) (k : ℕ) → k < length xs → t (get_or xs k d) ≡ true → ((m : ℕ) → m < k → t (get_or xs m d) ≡ true → ⊥) → position t xs ≡ Some k
position-is t d xs k lt h none =
    ap (λ n. cond (nat_lt n (length xs)) (Some n) None) (place-len t d xs k lt h none)
    ∙ ap (λ b. cond b (Some k) None) (lt_yes k (length xs) lt)

indicators : (i j : Indicator ℕ) → i.name ≡ j.name → i.arity ≡ j.arity → i ≡ j
indicators i j e f = ap (λ n. let r : Indicator ℕ = record { name = n; arity = i.arity } in r) e ∙ ap (λ k. let r : Indicator ℕ = record { name = j.name; arity = k } in r) f

number_is : (l : Linked) (p : ℕ) → IsLinked l → p < length l.procedures → number_of l (procedure_at l p).home (procedure_at l p).indicator ≡ Some p
number_is l p h lt =
    let q = procedure_at l p in
    position-is (is_procedure q.home q.indicator) no_procedure l.procedures p lt (same-is q.home q.indicator q refl refl) (λ m less t.
    let parts = both (nat_eq q.home (procedure_at l m).home) (same_indicator q.indicator (procedure_at l m).indicator) t in
    let names = both (nat_eq q.indicator.name (procedure_at l m).indicator.name) (nat_eq q.indicator.arity (procedure_at l m).indicator.arity) parts.1 in
    let same : m ≡ p = h.apart m p (omega (arith, less, lt)) lt (
      sym (eqb-true q.home (procedure_at l m).home parts.0),
      indicators (procedure_at l m).indicator q.indicator (sym (eqb-true q.indicator.name (procedure_at l m).indicator.name names.0)) (sym (eqb-true q.indicator.arity (procedure_at l m).indicator.arity names.1)),
    ) in
    omega (arith, same, less))

pub modes_are : (l : Linked) (p : ℕ) → IsLinked l → p < length l.procedures → (program_of l).modes (procedure_at l p).home (procedure_at l p).indicator ≡ (procedure_at l p).modes
modes_are l p h lt = ap (modes_from l) (number_is l p h lt)

pub modes_count : (l : Linked) (p : ℕ) (t : Tree ℕ) (modes : List Bool) → IsLinked l → p < length l.procedures → indicator_of t ≡ Some (procedure_at l p).indicator → Some modes ≡ (procedure_at l p).modes → length modes ≡ arity t
modes_count l p t modes h lt is same = subst (HasArity (procedure_at l p).indicator.arity) (sym same) (h.procedures p lt).modes ∙ sym (arity_is t (procedure_at l p).indicator is)

-- ---- what a look-up of a procedure says

found_row : (P : Visible → Type 0) (m : ℕ) (i : Indicator ℕ) (rows : List Visible) (proc : ℕ) (Q : Type 0) → EachAt P no_row rows → visible_in rows m i ≡ Some proc → ((r : Visible) → P r → is_row m i r ≡ true → r.procedure ≡ proc → Q) → Q
found_row P m i [] proc Q each is then = cc
found_row P m i (r ∷ rows) proc Q each is then = go (is_row m i r) refl is (λ h. found_row P m i rows proc Q (λ k lt. each (suc k) (omega (arith, lt))) h then)
  where
    go : (b : Bool) → is_row m i r ≡ b → option_map (λ (v : Visible). v.procedure) (cond b (Some r) (find (is_row m i) rows)) ≡ Some proc → (visible_in rows m i ≡ Some proc → Q) → Q
    go true e k later = then r (each 0 (omega arith)) e (cc)
    go false e k later = later k

pub visible_is : (l : Linked) (m : ℕ) (i : Indicator ℕ) (proc : ℕ) → IsLinked l → visible_in l.rows m i ≡ Some proc → (proc < length l.procedures) × ((procedure_at l proc).indicator ≡ i)
visible_is l m i proc h is =
    found_row (IsVisible l) m i l.rows proc ((proc < length l.procedures) × ((procedure_at l proc).indicator ≡ i)) h.rows is (λ r v e same.
    let parts = both (nat_eq m r.lookup) (same_indicator i r.indicator) e in
    let names = both (nat_eq i.name r.indicator.name) (nat_eq i.arity r.indicator.arity) parts.1 in (
      subst (λ k. k < length l.procedures) same v.procedure,
      ap (λ k. (procedure_at l k).indicator) (sym same) ∙ v.indicator ∙ indicators r.indicator i (sym (eqb-true i.name r.indicator.name names.0)) (sym (eqb-true i.arity r.indicator.arity names.1)),
    ))

-- ---- the goal as its procedure gets it

module _ (b : CompiledProgram) (t : Tree ℕ) (context proc : ℕ) (proper : IsProper t) (is : indicator_of t ≡ Some (procedure_at (linked b) proc).indicator) where
  pub passed_none : None ≡ (procedure_at (linked b) proc).modes → t ≡ passed_goal b t context proc
  passed_none none = passed_plain (naming b) t (procedure_at (linked b) proc).indicator context proper is ∙ ap (λ m. goal_tree (name_of (naming b) t) (arguments_in (naming b) context m (arguments_of t))) none

  pub passed_some : (modes : List Bool) → Some modes ≡ (procedure_at (linked b) proc).modes → qualified_goal (naming b) modes context t ≡ passed_goal b t context proc
  passed_some modes some = passed_meta (naming b) t (procedure_at (linked b) proc).indicator context modes proper is ∙ ap (λ m. goal_tree (name_of (naming b) t) (arguments_in (naming b) context m (arguments_of t))) some

  pub passed_indicator : indicator_of (passed_goal b t context proc) ≡ Some (procedure_at (linked b) proc).indicator
  passed_indicator = go (procedure_at (linked b) proc).modes refl
    where
      go : (m : Option (List Bool)) → m ≡ (procedure_at (linked b) proc).modes → indicator_of (passed_goal b t context proc) ≡ Some (procedure_at (linked b) proc).indicator
      go None e = ap indicator_of (sym (passed_none e)) ∙ is
      go (Some modes) e = ap indicator_of (sym (passed_some modes e)) ∙ keeps t ∙ is
        where
          counts : (bs : List Bool) (ts : Trees ℕ) → count (qualified (naming b) bs context ts) ≡ count ts
          counts [] ts = refl
          counts (c ∷ bs) nil = refl
          counts (c ∷ bs) (cons u us) = ap suc (counts bs us)

          keeps : (u : Tree ℕ) → indicator_of (qualified_goal (naming b) modes context u) ≡ indicator_of u
          keeps (var v) = refl
          keeps (int z) = refl
          keeps (atom s) = refl
          keeps (comp s ts) = ap (λ k. let i : Indicator ℕ = record { name = s; arity = k } in Some i) (counts modes ts)

pub colon_known : (n : Naming ℕ) (c : Constructs) (names : GoalNames) → names ≡ c.names → AreConstructs n c → IsColon n names.colon.0
colon_known n c names same are = subst (λ (g : GoalNames). IsColon n g.colon.0) (sym same) (record { named = are.names.colon.made; alone = are.names.colon.known })
