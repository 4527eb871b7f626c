-- Goals that are done by the values in their code.
use Rattle.std.proofs.Common.{◌≡◌, ◌∙◌, ℕ, ℤ, pos, ◌+◌, ◌<◌, ◌≤◌, ◌&&◌, nat_lt, List, [], ◌∷◌, ◌++◌, Bool, true, false, Option, Some, None, Ok, codes, refl, sym, ap, subst, arith, length, reverse, if◌then◌else◌}
use Rattle.std.proofs.lemmas.List.{append-nil}
use Rattle.pl_atoms.specs.declared.names.NameId.{NameId}
use Rattle.pl_terms.specs.Trees.{Tree, Trees, int, comp, nil, cons}
use Rattle.pl_unify.specs.declared.word.Word.TheVariants as W
use Rattle.pl_unify.specs.declared.word.View.TheVariants as View
use Rattle.pl_unify.specs.declared.code.CodeWord.{CodeWord}
use Rattle.pl_unify.specs.Shape.{root, arity, argument}
use Rattle.pl_unify.specs.State.{State, Stored, IsStore, bound}
use Rattle.pl_unify.specs.Code.{code_tree, code_tree_in}
use Rattle.value_model.specs.Value.{value as value_of}
use Rattle.pl_arith.proofs.Roots.{two_root, two_low, two_seen}
use Rattle.builtin_model.specs.Naming.{Naming, by_numbers}
use Rattle.builtin_model.specs.Values.{value, as_valued}
use Rattle.builtin_model.specs.Output.{output}
use Rattle.builtin_model.specs.Faults.{Fault}
use Rattle.builtin_model.specs.Deeds.{raise, halt, whether, related, assigned, holds}
use Rattle.builtin_model.specs.Rows.{row_called, row_of as builtin_row}
use Rattle.builtin_model.specs.declared.row.Row.{Row as Builtin}
use Rattle.builtin_model.specs.declared.row.Row.TheVariants as R
use Rattle.builtin_model.specs.declared.row.Relation.{Relation}
use Rattle.builtin_model.proofs.ValueLaw.{value-numbers}
use Rattle.pl_builtin_ends.specs.declared.done.Done.{Done}
use Rattle.pl_builtin_ends.specs.declared.done.Done.TheVariants as D
use Rattle.pl_builtin_ends.specs.Meets.{Meets, Fails as Failing, fault_of}
use Rattle.solver_model.specs.Search.{Call}
use Rattle.goal_model.specs.Bodies.{is_named}
use Rattle.goal_model.specs.Rows.{Row, if_then, in_module, from_context, calling, plain, row_of, builtin_or_user, other_row, either_row}
use Rattle.goal_code.specs.declared.instruction.Instruction.{Instruction}
use Rattle.goal_code.specs.declared.instruction.Instruction.TheVariants.{Goal}
use Rattle.goal_code.specs.Runs.{goal_of, next_of}
use Rattle.goal_state.specs.declared.frames.Setting.{Setting}
use Rattle.goal_state.specs.Frames.{IsLinked}
use Rattle.goal_constructs.specs.declared.constructs.Constructs.{Constructs}
use Rattle.goal_constructs.specs.declared.kind.Kind.TheVariants as K
use Rattle.goal_constructs.specs.Constructs.{AreConstructs}
use Rattle.goal_constructs.specs.Kinds.{AllAre}
use Rattle.clause_code.specs.declared.target.Target.{Target}
use Rattle.clause_code.specs.declared.target.Target.TheVariants as T
use Rattle.clause_code.specs.Targets.{IsTarget, target_at, home_of}
use Rattle.goal_state.specs.declared.compiled.CompiledProgram.{CompiledProgram}
use Rattle.goal_state.specs.declared.path.Path.{Path}
use Rattle.goal_state.specs.Denotation.{naming, bodies, state_of, items_here}
use Rattle.goal_state.specs.Well.{IsCompiled, IsWellWith}
use Rattle.goal_moves.specs.declared.going.Going.TheVariants.{On, Fails}
use Rattle.goal_moves.specs.declared.code_values.ValueGoal.{ValueGoal}
use Rattle.goal_moves.specs.declared.code_values.ValueGoal.TheVariants as V
use Rattle.goal_moves.specs.Moves.{called, IsCode, Activated}
use Rattle.goal_moves.specs.Values.{IsPair, DoesBy, IsValueGoal, value_deed}
use Rattle.goal_moves.specs.Untried.{Leaves}
use Rattle.goal_moves.proofs.CodeMoves.{first_goal, first_items}
use Rattle.goal_moves.proofs.PlainLaws.{yes-does, no-does}
use Rattle.goal_moves.proofs.RowNames.{either-not}
use Rattle.goal_moves.proofs.TargetLaws.{root_stands, kept_target}
use Rattle.goal_moves.proofs.UntriedLaws.{same_records}
use Rattle.goal_moves.proofs.UntriedPlain.{plain_leaves}

-- ---- two arguments in code

pub pair_of : (ws : List CodeWord) (p left : ℕ) (name : NameId) → View.Comp name 2 ≡ root (code_tree ws p) → ((i : ℕ) → i < arity (code_tree ws p) → code_tree ws (left + i) ≡ argument (code_tree ws p) i)
    → left + arity (code_tree ws p) ≤ length ws → IsPair ws p left
pair_of ws p left name seen trees within =
    let low : 1 < arity (code_tree ws p) = two_low (code_tree ws p) name seen in
    let first : code_tree ws left ≡ argument (code_tree ws p) 0 = subst (λ k. code_tree ws k ≡ argument (code_tree ws p) 0) (omega arith) (trees 0 (omega arith)) in
    record {
      name = name.0;
      tree = two_root (code_tree ws p) name seen ∙ (λ i. comp name.0 (cons (sym first i) (cons (sym (trees 1 low) i) nil)));
      within = omega arith;
    }

module _ (names : List (List ℕ)) (s : State) (base : ℕ) (ws : List CodeWord) where
  pub pair_in : (p left : ℕ) (h : IsPair ws p left) → code_tree_in s base ws p ≡ comp h.name (cons (code_tree_in s base ws left) (cons (code_tree_in s base ws (left + 1)) nil))
  pair_in p left h =
      two_seen s base ws p left (left + 1) (record { 0 = h.name }) (ap root (sym h.tree)) (ap (λ t. argument t 0) (sym h.tree)) (ap (λ t. argument t 1) (sym h.tree))

  worth : (t : Tree ℕ) (z : ℤ) → value_of names t ≡ Ok z → value (by_numbers names) t ≡ Ok z
  worth t z h = value-numbers names t ∙ ap as_valued h

  pub compares : (p left : ℕ) (r : Relation) (x y : ℤ) (ends : Bool) → IsPair ws p left → value_of names (code_tree_in s base ws left) ≡ Ok x → value_of names (code_tree_in s base ws (left + 1)) ≡ Ok y → ends ≡ holds r x y
      → DoesBy names s base ws p (R.Value r) (V.Compares ends)
  compares p left r x y ends h ex ey e = record {
    name = h.name;
    left = code_tree_in s base ws left;
    right = code_tree_in s base ws (left + 1);
    tree = pair_in p left h;
    does = λ caller next.
        ap (λ v. related r v (value (by_numbers names) (code_tree_in s base ws (left + 1)))) (worth (code_tree_in s base ws left) x ex)
        ∙ ap (related r (Ok x)) (worth (code_tree_in s base ws (left + 1)) y ey)
        ∙ ap whether (sym e);
    silent = refl;
    place = tt;
  }

  pub assigns : (p left : ℕ) (z : ℤ) → IsPair ws p left → value_of names (code_tree_in s base ws (left + 1)) ≡ Ok z → DoesBy names s base ws p R.Is (V.Assigns left z)
  assigns p left z h ez = record {
    name = h.name;
    left = code_tree_in s base ws left;
    right = code_tree_in s base ws (left + 1);
    tree = pair_in p left h;
    does = λ caller next. ap (assigned (code_tree_in s base ws left)) (worth (code_tree_in s base ws (left + 1)) z ez);
    silent = refl;
    place = let within = h.within in omega arith;
  }

-- ---- what is a built-in predicate's goal with two arguments is so with any

module _ (n : Naming ℕ) (k : Builtin) (l : List (Tree ℕ)) (f : ℕ) (t u v w : Tree ℕ) where
  abbrev IsPlain : Row ℕ → Type 0
  IsPlain r = r ≡ plain k l

  abbrev IsOther : Row ℕ → Type 0
  IsOther r = r ≡ plain k (v ∷ w ∷ [])

  beyond : (x : Bool) (p q p' q' : Row ℕ) → (IsPlain p → ⊥) → (IsPlain q → IsOther q') → IsPlain (if x then p else q) → IsOther (if x then p' else q')
  beyond true p q p' q' not next e = absurd (not e)
  beyond false p q p' q' not next e = next e

  found : (o : Option Builtin) (ts : Trees ℕ) → IsPlain (builtin_or_user n o f ts) → IsOther (builtin_or_user n o f (cons v (cons w nil)))
  found (Some r) ts e = let same : r ≡ k = cc in ap (λ x. plain x (v ∷ w ∷ [])) same
  found None ts e = cc

  row_two : IsPlain (row_of n (comp f (cons t (cons u nil)))) → IsOther (row_of n (comp f (cons v (cons w nil))))
  unfolding row_of
  row_two e =
      beyond (is_named n f (codes ";")) (either_row n t u) _ (either_row n v w) _ (either-not n k l t u)
      (beyond (is_named n f (codes "->")) (if_then t u) _ (if_then v w) _ (λ h. cc)
      (beyond (is_named n f (codes ":")) (in_module t u) _ (in_module v w) _ (λ h. cc)
      (beyond (is_named n f (codes "@")) (from_context t u) _ (from_context v w) _ (λ h. cc)
      (beyond (is_named n f (codes "call") && nat_lt 1 8) (calling t (cons u nil)) (other_row n f (cons t (cons u nil))) (calling v (cons w nil)) (other_row n f (cons v (cons w nil))) (λ h. cc)
      (found (row_called (n.text f) 2) (cons t (cons u nil))))))) e

-- a store with a compound of two arguments
abbrev sample : ℕ → State
sample f = record { cells = W.Int (pos 0) ∷ W.Int (pos 0) ∷ W.Comp 2 (record { 0 = f }) 0 ∷ []; links = []; next = 0 }

plain_row : (c : Constructs) (n : Naming ℕ) (f number : ℕ) (k : Builtin) (v w : Tree ℕ) → AreConstructs n c → AllAre c (View.Comp (record { 0 = f }) 2) (K.Plain number) → builtin_row number ≡ Some k
    → row_of n (comp f (cons v (cons w nil))) ≡ plain k (v ∷ w ∷ [])
plain_row c n f number k v w h all is =
    let seen = all n h (sample f) (record { 0 = 2 }) refl in
    let both : Some seen.0 ≡ Some k = sym seen.1 ∙ is in
    let same : seen.0 ≡ k = cc in
    subst (λ x. row_of n (comp f (cons v (cons w nil))) ≡ plain x (v ∷ w ∷ [])) same
    (row_two n seen.0 _ f (int (pos 0)) (int (pos 0)) v w seen.2)

-- ---- goals on a path

raise_not : (s : State) (base : ℕ) (ws : List CodeWord) (goal : ValueGoal) (e : Fault ℕ) → raise e ≡ value_deed s base ws goal → ⊥
raise_not s base ws (V.Compares true) e h = cc
raise_not s base ws (V.Compares false) e h = cc
raise_not s base ws (V.Assigns place z) e h = cc

halt_not : (s : State) (base : ℕ) (ws : List CodeWord) (goal : ValueGoal) (z : ℤ) → halt z ≡ value_deed s base ws goal → ⊥
halt_not s base ws (V.Compares true) z h = cc
halt_not s base ws (V.Compares false) z h = cc
halt_not s base ws (V.Assigns place x) z h = cc

-- where it does not succeed, it fails
fails_else : (s t : State) (base : ℕ) (ws : List CodeWord) (goal : ValueGoal) (done : Done) → Meets s t (value_deed s base ws goal) done → (done ≡ D.Yes → ⊥) → (t ≡ s) × Failing (value_deed s base ws goal)
fails_else s t base ws goal D.Yes h not = absurd (not refl)
fails_else s t base ws goal D.No h not = h
fails_else s t base ws goal (D.Raise r) h not = absurd (raise_not s base ws goal (fault_of s r) h.1)
fails_else s t base ws goal (D.Halt z) h not = absurd (halt_not s base ws goal z h.1)

module _ (b : CompiledProgram) (p : Path) (c : Instruction) (st : Setting) (code : IsCode b p c st) (compiled : IsCompiled b) where
  abbrev words : List CodeWord
  words = (bodies b st.clause).words

  abbrev Does : Builtin → ValueGoal → Type 0
  Does k goal = DoesBy b.names (state_of p) st.base words (goal_of c) k goal

  pub is_value_goal : (t : Target) (number : ℕ) (k : Builtin) (goal : ValueGoal) → c ≡ Goal (goal_of c) (next_of c) → t ≡ target_at b.targets st.clause p.pc → t ≡ T.Plain number → builtin_row number ≡ Some k → Does k goal
      → IsValueGoal b p c st goal
  is_value_goal t number k goal whole kept is row h =
      let word : Tree ℕ = code_tree words (goal_of c) in
      let has : IsTarget b.constructs b.tables.rows (home_of b.tables st.clause) (root word) (T.Plain number) =
      subst (IsTarget b.constructs b.tables.rows (home_of b.tables st.clause) (root word)) (sym kept ∙ is) (kept_target b p c st code compiled whole) in
      let same : root word ≡ View.Comp (record { 0 = h.name }) 2 = sym (root_stands (bound (state_of p)) st.base word has.0) ∙ ap root h.tree in
      record {
        row = k;
        does = h;
        is =
            ap (row_of (naming b)) h.tree
            ∙ plain_row b.constructs (naming b) h.name number k h.left h.right compiled.constructs (subst (λ r. AllAre b.constructs r (K.Plain number)) same has.1) row;
      }

  module _ (node : ℕ) (linked : IsLinked p.frames) (well : IsWellWith b p (reverse p.choices.items) node) (deep : p.depth ≡ node + 1) (goal : ValueGoal) (v : IsValueGoal b p c st goal)
      (f pc next : ℕ) (next_is : next ≡ next_of c) (after : items_here b p f pc ≡ items_here b p p.f next) (store : Stored) (sound : IsStore store.state) (text : List ℕ) where
    abbrev tree : Tree ℕ
    tree = code_tree_in (state_of p) st.base words (goal_of c)

    stands : Call (first_goal b p c st code) ∷ items_here b p f pc ≡ items_here b p p.f p.pc
    stands =
        ap (λ l. Call (first_goal b p c st code) ∷ l) (after ∙ ap (items_here b p p.f) next_is)
        ∙ sym (first_items b p c st code compiled linked)

    silent : text ≡ text ++ output (naming b) v.row (v.does.left ∷ v.does.right ∷ [])
    silent = sym (append-nil text) ∙ ap (λ l. text ++ l) (sym v.does.silent)

    abbrev met : Done → Type 0
    met done = Meets (state_of p) store.state (value_deed (state_of p) st.base words goal) done

    pub leaves_nothing : (new : Path) → new.choices ≡ p.choices → Leaves b p new (called b p node (items_here b p p.f p.pc))
    leaves_nothing new same =
        subst (λ l. Leaves b p new (called b p node l)) stands
        (plain_leaves b p tree st node f pc v.row (v.does.left ∷ v.does.right ∷ []) v.is new (same_records p new same))

    pub goes_on : (done : Done) → done ≡ D.Yes → met done → Activated b p (record p { store = store; f = f; pc = pc }) (called b p node (items_here b p p.f p.pc)) text text On
    goes_on done e h =
        subst (λ l. Activated b p (record p { store = store; f = f; pc = pc }) (called b p node l) text text On) stands
        (yes-does b p tree st node f pc deep well v.row (v.does.left ∷ v.does.right ∷ []) v.is store sound text text (value_deed (state_of p) st.base words goal)
        (v.does.does st.caller.0 (state_of p).next) (subst met e h) silent)

    pub gives_up : (done : Done) → (done ≡ D.Yes → ⊥) → met done → Activated b p (record p { store = store }) (called b p node (items_here b p p.f p.pc)) text text Fails
    gives_up done not h =
        let ends = fails_else (state_of p) store.state st.base words goal done h not in
        subst (λ l. Activated b p (record p { store = store }) (called b p node l) text text Fails) stands
        (no-does b p tree st node f pc deep well v.row (v.does.left ∷ v.does.right ∷ []) v.is store sound text text (value_deed (state_of p) st.base words goal)
        (v.does.does st.caller.0 (state_of p).next) ends.0 ends.1 silent)
