-- Goals of clauses whose targets are kept.
use Rattle.std.proofs.Common.{◌≡◌, ℕ, suc, ◌<◌, List, [], ◌∷◌, Some, None, refl, sym, ap, ◌∙◌, subst, arith, length}
use Rattle.pl_terms.specs.Trees.{Tree, var, int, atom, comp, Trees, nil, cons, count}
use Rattle.unifier_model.specs.Substitution.{apply, apply_all, replace_all, raise, raise_all}
use Rattle.unifier_model.proofs.Replaced.{apply-atom, apply-comp}
use Rattle.pl_unify.specs.declared.word.View.{View}
use Rattle.pl_unify.specs.declared.word.View.TheVariants as V
use Rattle.pl_unify.specs.Code.{code_tree, code_tree_in}
use Rattle.pl_unify.specs.State.{bound, tree_at}
use Rattle.pl_unify.specs.Shape.{root}
use Rattle.unit_model.specs.Facts.{Indicator}
use Rattle.goal_code.specs.declared.instruction.Instruction.{Instruction}
use Rattle.goal_code.specs.declared.instruction.Instruction.TheVariants.{Goal}
use Rattle.goal_code.specs.Runs.{goal_of, next_of}
use Rattle.goal_state.specs.declared.frames.Setting.{Setting}
use Rattle.goal_constructs.specs.Kinds.{IsNamed}
use Rattle.pl_store.specs.Linked.{Row, visible_in}
use Rattle.pl_store.specs.Rules.{indicator_of}
use Rattle.clause_code.specs.declared.target.Target.{Target}
use Rattle.clause_code.specs.declared.target.Target.TheVariants as T
use Rattle.clause_code.specs.Targets.{seen_from, IsTarget, HasTarget, led_at, target_at, home_of}
use Rattle.goal_state.specs.declared.compiled.CompiledProgram.{CompiledProgram}
use Rattle.goal_state.specs.declared.path.Path.{Path}
use Rattle.goal_state.specs.Denotation.{naming, bodies, state_of}
use Rattle.goal_state.specs.Well.{IsCompiled}
use Rattle.goal_moves.specs.declared.active.Active.{Active}
use Rattle.goal_moves.specs.Goals.{IsOfTarget}
use Rattle.goal_moves.specs.Moves.{IsCode}
use Rattle.goal_moves.proofs.CallLaws.{procedure_seen}
use Rattle.goal_moves.proofs.CodeMoves.{clause_there}

-- ---- an atom or a compound has the same root where it stands in a run

count_raise : (base : ℕ) (ts : Trees ℕ) → count (raise_all base ts) ≡ count ts
count_raise base nil = refl
count_raise base (cons t ts) = ap suc (count_raise base ts)

count_replace : (n : ℕ) (r : Tree ℕ) (ts : Trees ℕ) → count (replace_all n r ts) ≡ count ts
count_replace n r nil = refl
count_replace n r (cons t ts) = ap suc (count_replace n r ts)

count_apply : (bs : List (ℕ × Tree ℕ)) (ts : Trees ℕ) → count (apply_all bs ts) ≡ count ts
count_apply [] ts = refl
count_apply (b ∷ bs) ts = count_apply bs (replace_all b.0 b.1 ts) ∙ count_replace b.0 b.1 ts

pub root_stands : (bs : List (ℕ × Tree ℕ)) (base : ℕ) (t : Tree ℕ) → IsNamed (root t) → root (apply bs (raise base t)) ≡ root t
root_stands bs base (var v) h = absurd h
root_stands bs base (int z) h = absurd h
root_stands bs base (atom a) h = ap root (apply-atom bs a)
root_stands bs base (comp f ts) h =
    ap root (apply-comp bs f (raise_all base ts)) ∙ ap (V.Comp (record { 0 = f })) (count_apply bs (raise_all base ts) ∙ count_raise base ts)

-- ---- what is visible for a goal

named_seen : (rows : List Row) (m : ℕ) (t : Tree ℕ) → IsNamed (root t) → (i : Indicator ℕ) × (indicator_of t ≡ Some i) × (seen_from rows m (root t) ≡ visible_in rows m i)
named_seen rows m (var v) h = absurd h
named_seen rows m (int z) h = absurd h
named_seen rows m (atom s) h = (record { name = s; arity = 0 }, refl, refl)
named_seen rows m (comp s ts) h = (record { name = s; arity = count ts }, refl, refl)

of_target : (b : CompiledProgram) (p : Path) (a : Active) (home m : ℕ) (r : View) (t : Target) → IsCompiled b → home ≡ m → (IsNamed r → root (tree_at (state_of p) a.goal) ≡ r) → IsTarget b.constructs b.tables.rows m r t → IsOfTarget b p a home t
of_target b p a home m r (T.Plain row) lib e is h = h.1 (naming b) lib.constructs (state_of p) a.goal (is h.0)
of_target b p a home m r (T.User None) lib e is h = tt
of_target b p a home m r (T.User (Some proc)) lib e is h =
    let rows : List Row = b.tables.rows in
    let t : Tree ℕ = tree_at (state_of p) a.goal in
    let same : root t ≡ r = is h.0 in
    let named = named_seen rows m t (subst IsNamed (sym same) h.0) in (
      h.1 (naming b) lib.constructs (state_of p) a.goal same,
      λ from. procedure_seen b p a named.0 proc.0 lib named.1 (h.2 ∙ (ap (seen_from rows m) (sym same) ∙ (named.2 ∙ ap (λ x. visible_in rows x named.0) (sym e ∙ from)))),
    )
of_target b p a home m r T.Construct lib e is h = tt

module _ (b : CompiledProgram) (p : Path) (c : Instruction) (st : Setting) (code : IsCode b p c st) (lib : IsCompiled b) where
  clause_linked : st.clause < length b.tables.clauses
  clause_linked = let lt = clause_there b p c st code in let count = lib.codes.count in omega (arith, lt, count)

  pub targets_there : st.clause < length b.targets
  targets_there = let lt = clause_linked in let count = lib.targets.count in omega (arith, lt, count)

  -- what is kept for the instruction of a goal
  pub kept_target : c ≡ Goal (goal_of c) (next_of c) → IsTarget b.constructs b.tables.rows (home_of b.tables st.clause) (root (code_tree (bodies b st.clause).words (goal_of c))) (target_at b.targets st.clause p.pc)
  kept_target plain =
      subst (λ i. HasTarget b.constructs b.tables.rows (home_of b.tables st.clause) (bodies b st.clause).words i (target_at b.targets st.clause p.pc)) plain
      ((lib.targets.each st.clause clause_linked).targets p.pc c code.code)

  -- a goal that was put into the store has the target that is kept for its instruction
  pub goal_target : (q : Path) (a : Active) (t : Target) (home : ℕ) → c ≡ Goal (goal_of c) (next_of c) → t ≡ target_at b.targets st.clause p.pc → home ≡ (led_at b.targets st.clause).home
      → tree_at (state_of q) a.goal ≡ code_tree_in (state_of p) st.base (bodies b st.clause).words (goal_of c) → IsOfTarget b q a home t
  goal_target q a t home plain is from tree =
      let kept = lib.targets.each st.clause clause_linked in
      let m : ℕ = home_of b.tables st.clause in
      let word : Tree ℕ = code_tree (bodies b st.clause).words (goal_of c) in
      of_target b q a home m (root word) t lib (from ∙ kept.home) (λ named. ap root tree ∙ root_stands (bound (state_of p)) st.base word named)
      (subst (IsTarget b.constructs b.tables.rows m (root word)) (sym is) (kept_target plain))
