-- Each record has something untried.
use Rattle.std.proofs.Common.{◌≡◌, ℕ, suc, ◌+◌, ◌-◌, ◌<◌, true, ◌||◌, List, [], ◌∷◌, Option, refl, sym, ap, ◌∙◌, subst, arith, length, drop, drop-cons, map, filter, get_or, nat_eq, cond, reverse}
use Rattle.std.specs.List.{list_any}
use Rattle.std.proofs.lemmas.Bool.{eq-eqb}
use Rattle.std.proofs.lemmas.List.{length-reverse}
use Rattle.std.proofs.lemmas.List.Sums.{sum_by-cons}
use Rattle.pl_terms.specs.Trees.{Tree}
use Rattle.pl_unify.specs.declared.word.Ref.{Ref}
use Rattle.pl_unify.specs.declared.store.Mark.{Mark}
use Rattle.pl_unify.specs.State.{State, state_at, tree_at}
use Rattle.goal_model.specs.Environments.{Environment}
use Rattle.goal_model.specs.Table.{Items, resolves, Resolution}
use Rattle.goal_model.specs.Choices.{is_untried, is_open, choices}
use Rattle.pl_store.specs.Linked.{StoredClause, no_clause, clause_at}
use Rattle.pl_store.specs.Walks.{clauses_of, clauses_from_place, clause_of}
use Rattle.goal_state.specs.declared.frames.Frame.{Frame}
use Rattle.goal_state.specs.Frames.{env_of}
use Rattle.goal_state.specs.declared.choice.Choice.{Choice}
use Rattle.goal_state.specs.declared.choice.ChoiceKind.{ChoiceKind}
use Rattle.goal_state.specs.declared.choice.ChoiceKind.TheVariants.{Clauses, Branch, Catch, Collect}
use Rattle.goal_state.specs.declared.compiled.CompiledProgram.{CompiledProgram}
use Rattle.goal_state.specs.Denotation.{linked, world_of, outer_of, outer_answers, first, frame_from, frame_by, frames_by, rest_items, setting_at, state_of, answers_of}
use Rattle.goal_state.specs.Well.{KindFits, Stand, RecordsAreOpen, mark_of}

first_kept : (p : ℕ) (e : StoredClause) (es : List StoredClause) → e.procedure ≡ p → clauses_of p (e ∷ es) ≡ e.clause ∷ clauses_of p es
first_kept p e es same = ap (λ b. map (λ (c : StoredClause). c.clause) (cond b (e ∷ filter (λ (c : StoredClause). nat_eq p c.procedure) es) (filter (λ (c : StoredClause). nat_eq p c.procedure) es))) (eq-eqb p e.procedure (sym same))

-- the clauses of a procedure from one of them on
pub from_here : (cs : List StoredClause) (p c : ℕ) → c < length cs → (get_or cs c no_clause).procedure ≡ p → clauses_from_place cs p c ≡ clause_of cs c ∷ clauses_from_place cs p (c + 1)
from_here cs p c lt same =
    ap (clauses_of p) (drop-cons cs c no_clause lt)
    ∙ first_kept p (get_or cs c no_clause) (drop (suc c) cs) same
    ∙ ap (λ k. clause_of cs c ∷ clauses_of p (drop k cs)) (let s : suc c ≡ c + 1 = omega arith in s)

-- what a record stands for has something untried
kind_open : (b : CompiledProgram) (v : ℕ) (k : ChoiceKind) (depth : ℕ) (s : State) (rest : Items ℕ) (env : Environment ℕ) (t u : Option Ref) (answers : List (Tree ℕ)) → KindFits (linked b) s k u
    → is_open nat_eq (frame_from b v k depth s rest env t answers) ≡ true
kind_open b v (Clauses clause goal) depth s rest env t u answers h =
    let r : Resolution ℕ = record { depth = depth; goal = tree_at s goal; env = env; rest = rest; world = world_of s v t } in
    subst (λ cs. list_any (is_untried nat_eq) (map (resolves r) cs) ≡ true) (sym (from_here (linked b).clauses (clause_at (linked b) clause.0).procedure clause.0 h.1.0 refl))
    (ap (λ x. x || list_any (is_untried nat_eq) (map (resolves r) (clauses_from_place (linked b).clauses (clause_at (linked b) clause.0).procedure (clause.0 + 1)))) h.2)
kind_open b v Branch depth s rest env t u answers h = refl
kind_open b v (Catch name catcher recovery) depth s rest env t u answers h = refl
kind_open b v (Collect list outer) depth s rest env t u answers h = refl

count_open : (b : CompiledProgram) (v : ℕ) (s : State) (frames : List Frame) (top depth : ℕ) (last : Mark) (cs : List Choice) (t : Option Ref) (gs : List (List (Tree ℕ)))
    → Stand (linked b) v s frames top depth last cs t → choices nat_eq (frames_by b v s frames cs t gs) ≡ length cs
count_open b v s frames top depth last [] t gs h = refl
count_open b v s frames top depth last (c ∷ cs) t gs h =
    let rest = count_open b v s frames (c.rest - 1) c.depth c.mark cs (outer_of c.kind t) (outer_answers c.kind gs) h.1 in
    sum_by-cons (λ f. cond (is_open nat_eq f) 1 0) (frame_by b v s frames c t (first gs)) (frames_by b v s frames cs (outer_of c.kind t) (outer_answers c.kind gs))
    ∙ ap (λ x. cond x 1 0 + choices nat_eq (frames_by b v s frames cs (outer_of c.kind t) (outer_answers c.kind gs)))
    (kind_open b v c.kind c.depth (state_at c.mark s) (rest_items b v s frames c) (env_of (setting_at frames c.rest)) t t (first gs) h.0.kind)
    ∙ (omega (arith, rest))

pub records_open : RecordsAreOpen
records_open b p d w =
    count_open b p.width (state_of p) p.frames (length p.frames) d (mark_of (state_of p)) (reverse p.choices.items) p.template (answers_of p) w.records
    ∙ length-reverse p.choices.items
