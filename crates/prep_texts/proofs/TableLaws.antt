-- What a table looks up after declarations, and what it refuses, by what it looks up before.
use Rattle.std.proofs.Common.{◌≡◌, ℕ, ℤ, Bool, true, false, ◌&&◌, not, List, [], ◌∷◌, ◌++◌, map, length, drop, Option, Some, None, is_some, Result, Ok, Err, refl, sym, ap, ◌∙◌, if◌then◌else◌, append_assoc}
use Rattle.std.specs.Prelude.{option_map}
use Rattle.std.proofs.Math.Path.{fun_ext}
use Rattle.pl_terms.specs.Trees.{Tree}
use Rattle.pl_ops.specs.declared.op.Op.{Op as Operator}
use Rattle.pl_ops.specs.declared.refusal.OpRefusal.{OpRefusal}
use Rattle.pl_ops.specs.Tables.{Declaration, Operators, operator, last_declared, later_or, unless_zero}
use Rattle.pl_ops.specs.Refusals.{refusal, declared}
use Rattle.pl_ops.proofs.Lookups.{last_declared-append}
use Rattle.prep_texts.specs.Looking.{over, extended, accepts_all, SayingSeen, saying_seen}
use Rattle.unit_model.specs.Facts.{OperatorOf, What}
use Rattle.unit_model.specs.Directives.{Text, Directive, opens, closes, exporting, reexporting, metapredicates, operators, importing, discontiguous}
use Rattle.unit_model.specs.Preparing.{unless_refused, with_names, added, operator_of, declaration, refusal_of_operator, with_operators, Saying, says, only_where, operator_entries, operators_said, directive_said, clause_in, with_clause, clause_said, Sort, a_directive, a_query, a_clause, sort_said, sort_of, said}

-- ---- after declarations

pub operator-extended : (t ds : List Declaration) → operator (t ++ ds) ≡ extended (operator t) ds
operator-extended t ds = fun_ext (λ c. fun_ext (λ name. ap unless_zero (last_declared-append c name t ds) ∙ go (last_declared c name t) (last_declared c name ds)))
  where
    go : (before later : Option Operator) → unless_zero (later_or before later) ≡ over later (unless_zero before)
    go before None = refl
    go before (Some p) = refl

pub append-end : {A : Type 0} (xs : List A) → xs ++ [] ≡ xs
append-end [] = refl
append-end {A} (x ∷ xs) = ap (λ (l : List A). x ∷ l) (append-end xs)

pub drop-front : {A : Type 0} (xs ys : List A) → drop (length xs) (xs ++ ys) ≡ ys
drop-front [] ys = refl
drop-front (x ∷ xs) ys = drop-front xs ys

-- ---- the names of a directive

abbrev kept : Option OpRefusal → Option (List Declaration) → Option (List Declaration)
kept None o = o
kept (Some cause) o = None

-- what the names add, where nothing refuses them
abbrev adds : ℤ → Text → List Text → Operators → Option (List Declaration)
adds p k [] look = Some []
adds p k (n ∷ ns) look = kept (refusal look p k n) (option_map (λ ds. declared p k n ++ ds) (adds p k ns (extended look (declared p k n))))

with_names-adds : (p : ℤ) (k : Text) (ns : List Text) (t : List Declaration) → with_names p k ns t ≡ option_map (λ ds. t ++ ds) (adds p k ns (operator t))
with_names-adds p k [] t = ap Some (sym (append-end t))
with_names-adds p k (n ∷ ns) t = go (refusal (operator t) p k n) (with_names-adds p k ns (t ++ declared p k n))
  where
    further : (o : Option (List Declaration)) → option_map (λ ds. (t ++ declared p k n) ++ ds) o ≡ option_map (λ ds. t ++ ds) (option_map (λ ds. declared p k n ++ ds) o)
    further None = refl
    further (Some ds) = ap Some (append_assoc t (declared p k n) ds)

    go : (r : Option OpRefusal) → with_names p k ns (t ++ declared p k n) ≡ option_map (λ ds. (t ++ declared p k n) ++ ds) (adds p k ns (operator (t ++ declared p k n)))
        → unless_refused r (t ++ declared p k n) (with_names p k ns) ≡ option_map (λ ds. t ++ ds) (kept r (option_map (λ ds. declared p k n ++ ds) (adds p k ns (extended (operator t) (declared p k n)))))
    go None ih =
        ih ∙ ap (λ look. option_map (λ ds. (t ++ declared p k n) ++ ds) (adds p k ns look)) (operator-extended t (declared p k n))
        ∙ further (adds p k ns (extended (operator t) (declared p k n)))
    go (Some cause) ih = refl

-- ---- what a term says by itself

abbrev operators_by : Bool → Operators → Option (List Declaration) → SayingSeen
operators_by in_one look None = Err 12
operators_by in_one look (Some ds) = Ok (operator_entries in_one (map operator_of ds), extended look ds)

abbrev pair : List (What Text) → Operators → List (What Text) × Operators
pair ws look = (ws, look)

operators_said-by : (b : Bool) (p : ℤ) (k : Text) (ns : List Text) (t : List Declaration) → saying_seen (operators_said b p k ns t) ≡ operators_by b (operator t) (adds p k ns (operator t))
operators_said-by b p k ns t = ap (λ o. saying_seen (after o)) (with_names-adds p k ns t) ∙ go (adds p k ns (operator t))
  where
    after : Option (List Declaration) → Saying
    after o = elim o [
      | None ↦ Err 12
      | Some u ↦ says (operator_entries b (map operator_of (added t u))) u
    ]

    go : (o : Option (List Declaration)) → saying_seen (after (option_map (λ ds. t ++ ds) o)) ≡ operators_by b (operator t) o
    go None = refl
    go (Some ds) =
        ap (λ l. Ok (pair (operator_entries b (map operator_of l)) (operator (t ++ ds)))) (drop-front t ds)
        ∙ ap (λ look. Ok (pair (operator_entries b (map operator_of ds)) look)) (operator-extended t ds)

module _ (t u : List Declaration) (same : operator t ≡ operator u) where
  says-alike : (ws : List (What Text)) → saying_seen (says ws t) ≡ saying_seen (says ws u)
  says-alike ws = ap (λ look. Ok (pair ws look)) same

  only-alike : (b : Bool) (ws : List (What Text)) → saying_seen (only_where b (says ws t)) ≡ saying_seen (only_where b (says ws u))
  only-alike true ws = says-alike ws
  only-alike false ws = refl

  directive-alike : (b : Bool) (d : Directive) → saying_seen (directive_said b d t) ≡ saying_seen (directive_said b d u)
  directive-alike b (opens k m) = says-alike []
  directive-alike b (closes k m) = says-alike []
  directive-alike b (exporting is) = only-alike b _
  directive-alike b (reexporting m is) = only-alike b _
  directive-alike b (metapredicates ms) = only-alike b _
  directive-alike b (operators p k ns) = operators_said-by b p k ns t ∙ ap (λ look. operators_by b look (adds p k ns look)) same ∙ sym (operators_said-by b p k ns u)
  directive-alike b (importing m is) = only-alike (not b) _
  directive-alike b discontiguous = only-alike (not b) _

  clause-alike : (b : Bool) (x : Tree Text) → saying_seen (clause_said b x t) ≡ saying_seen (clause_said b x u)
  clause-alike true x = refl
  clause-alike false x = go (clause_in x)
    where
      go : (r : Result (What Text) ℕ) → saying_seen (with_clause r t) ≡ saying_seen (with_clause r u)
      go (Err n) = refl
      go (Ok w) = says-alike (w ∷ [])

  pub sort-alike : (b : Bool) (sort : Sort) (x : Tree Text) → saying_seen (sort_said b sort x t) ≡ saying_seen (sort_said b sort x u)
  sort-alike b (a_directive (Err n)) x = refl
  sort-alike b (a_directive (Ok d)) x = directive-alike b d
  sort-alike b a_query x = refl
  sort-alike b a_clause x = clause-alike b x

  pub said-alike : (b : Bool) (x : Tree Text) → saying_seen (said b x t) ≡ saying_seen (said b x u)
  said-alike b x = sort-alike b (sort_of x) x

-- ---- the operators of an interface

abbrev pub with_all : Bool → List (OperatorOf Text) → List Declaration → Option (List Declaration)
with_all b os t = if b then Some (t ++ map declaration os) else None

pub with_operators-all : (os : List (OperatorOf Text)) (t : List Declaration) → with_operators os t ≡ with_all (accepts_all os (operator t)) os t
with_operators-all [] t = ap Some (sym (append-end t))
with_operators-all (o ∷ os) t = go (refusal_of_operator (operator t) o) (with_operators-all os (t ++ declaration o ∷ []))
  where
    moved : (b : Bool) → with_all b os (t ++ declaration o ∷ []) ≡ with_all b (o ∷ os) t
    moved true = ap Some (append_assoc t (declaration o ∷ []) (map declaration os))
    moved false = refl

    go : (r : Option OpRefusal) → with_operators os (t ++ declaration o ∷ []) ≡ with_all (accepts_all os (operator (t ++ declaration o ∷ []))) os (t ++ declaration o ∷ [])
        → unless_refused r (t ++ declaration o ∷ []) (with_operators os) ≡ with_all (not (is_some r) && accepts_all os (extended (operator t) (declaration o ∷ []))) (o ∷ os) t
    go None ih =
        ih ∙ ap (λ look. with_all (accepts_all os look) os (t ++ declaration o ∷ [])) (operator-extended t (declaration o ∷ []))
        ∙ moved (accepts_all os (extended (operator t) (declaration o ∷ [])))
    go (Some cause) ih = refl
