-- A text is one goal or has one fault.
use Rattle.std.proofs.Common.{◌≡◌, ℕ, List, [], ◌∷◌, ◌++◌, length, Option, Some, None, refl, sym, ap, ◌∙◌, ◌⊎◌, inl, inr}
use Rattle.pl_terms.specs.Trees.{Tree}
use Rattle.pl_ops.specs.Tables.{Operators, operator}
use Rattle.pl_ops.specs.Standard.{standard}
use Rattle.text_model.specs.Tokens.{stop, Token, Placed, placed, bad_at, none_left, Run, run, run_fault, cut_short, ended, next_run}
use Rattle.text_model.specs.Reading.{numbered}
use Rattle.unit_model.specs.Directives.{Text}
use Rattle.unit_model.specs.Prepared.{ReadsRun, first_byte}
use Rattle.reading_laws.proofs.Decided.{decide_run, one_tree}
use Rattle.goal_runs.specs.Goals.{VariableNames, left_at, ReadsAs, IsGoal, IsGoalFault, no_token, unfinished, empty, no_term, a_token_more, no_token_more, GoalsAreDecided}

abbrev look : Operators
look = operator standard

-- ---- the names of a run's variables

-- the tokens before the last
abbrev front : List (Token Text) → List (Token Text)
front [] = []
front (t ∷ []) = []
front (t ∷ u ∷ ts) = t ∷ front (u ∷ ts)

front-is : (ts : List (Token Text)) (t : Token Text) → front (ts ++ t ∷ []) ≡ ts
front-is [] t = refl
front-is (u ∷ []) t = refl
front-is (u ∷ v ∷ ts) t = ap (λ (l : List (Token Text)). u ∷ l) (front-is (v ∷ ts) t)

abbrev names_of : List (Token Text) → VariableNames
names_of tokens = (numbered [] 0 (front tokens)).names

names-are : (tokens : List (Token Text)) (t : Tree Text) (names : VariableNames) → ReadsAs tokens t names → names ≡ names_of tokens
names-are tokens t names r =
    let end : Token Text = record { lexeme = stop; byte = r.reads.end_byte; direct = r.reads.direct } in
    r.named ∙ ap (λ (l : List (Token Text)). (numbered [] 0 l).names) (sym (ap front r.reads.split ∙ front-is r.reads.before end))

-- ---- the tree of a run

abbrev Reading : List (Token Text) → Type 0
Reading tokens = ((t : Tree Text) × ReadsRun look tokens t) ⊎ ((t : Tree Text) → ReadsRun look tokens t → ⊥)

abbrev tree_from : (tokens : List (Token Text)) → Reading tokens → Option (Tree Text)
tree_from tokens (inl p) = Some p.0
tree_from tokens (inr never) = None

tree_of : List (Token Text) → Option (Tree Text)
tree_of tokens = tree_from tokens (decide_run look tokens)

tree_of-is : (tokens : List (Token Text)) (t : Tree Text) → ReadsRun look tokens t → tree_of tokens ≡ Some t
unfolding tree_of
tree_of-is tokens t r = go (decide_run look tokens)
  where
    go : (d : Reading tokens) → tree_from tokens d ≡ Some t
    go (inl p) = ap Some (one_tree look tokens p.0 t p.1 r)
    go (inr never) = absurd (never t r)

tree_of-none : (tokens : List (Token Text)) → ((t : Tree Text) → ReadsRun look tokens t → ⊥) → tree_of tokens ≡ None
unfolding tree_of
tree_of-none tokens never = go (decide_run look tokens)
  where
    go : (d : Reading tokens) → tree_from tokens d ≡ None
    go (inl p) = absurd (never p.0 p.1)
    go (inr other) = refl

-- ---- what comes of a text

data Outcome : Type 0 where
  goal : Tree Text → VariableNames → Outcome
  faulty : ℕ → ℕ → Outcome

abbrev after_term : List (Token Text) → Tree Text → Placed → Outcome
after_term tokens t none_left = goal t (names_of tokens)
after_term tokens t (placed more after) = faulty 5 more.byte
after_term tokens t (bad_at n byte) = faulty n byte

module _ (text : List ℕ) where
  abbrev after_tree : List (Token Text) → ℕ → Option (Tree Text) → Outcome
  after_tree tokens next None = faulty 5 (first_byte tokens)
  after_tree tokens next (Some t) = after_term tokens t (left_at text next)

  abbrev after_run : Run → Outcome
  after_run (run tokens next) = after_tree tokens next (tree_of tokens)
  after_run (run_fault n byte) = faulty n byte
  after_run (cut_short byte) = faulty 6 byte
  after_run ended = faulty 6 (length text)

  abbrev outcome : Outcome
  outcome = after_run (next_run text 0)

  read : (tokens : List (Token Text)) (next : ℕ) (t : Tree Text) (p : Placed) → next_run text 0 ≡ run tokens next → ReadsRun look tokens t → left_at text next ≡ p → outcome ≡ after_term tokens t p
  read tokens next t p e r f = ap after_run e ∙ ap (after_tree tokens next) (tree_of-is tokens t r) ∙ ap (after_term tokens t) f

  goal-is : (t : Tree Text) (names : VariableNames) → IsGoal text t names → outcome ≡ goal t names
  goal-is t names g = read g.tokens g.next t none_left g.first g.term.reads g.last ∙ ap (goal t) (sym (names-are g.tokens t names g.term))

  fault-is : {n byte : ℕ} → IsGoalFault text n byte → outcome ≡ faulty n byte
  fault-is (no_token e) = ap after_run e
  fault-is (unfinished e) = ap after_run e
  fault-is (empty e) = ap after_run e
  fault-is (no_term {next = next} tokens e never) = ap after_run e ∙ ap (after_tree tokens next) (tree_of-none tokens never)
  fault-is (a_token_more {next = next} {after = after} tokens t more e r f) = read tokens next t (placed more after) e r f
  fault-is (no_token_more {next = next} {n = n} {byte = byte} tokens t e r f) = read tokens next t (bad_at n byte) e r f

  -- one of them comes
  abbrev Comes : Type 0
  Comes = ((t : Tree Text) × (names : VariableNames) × IsGoal text t names) ⊎ ((n : ℕ) × (byte : ℕ) × IsGoalFault text n byte)

  module _ (tokens : List (Token Text)) (next : ℕ) (e : next_run text 0 ≡ run tokens next) where
    at_left : (t : Tree Text) (r : ReadsRun look tokens t) (p : Placed) → left_at text next ≡ p → Comes
    at_left t r none_left f = inl (t, (numbered [] 0 r.before).names, record { tokens = tokens; next = next; first = e; term = record { reads = r; named = refl }; last = f })
    at_left t r (placed more after) f = inr (5, more.byte, a_token_more tokens t more e r f)
    at_left t r (bad_at n byte) f = inr (n, byte, no_token_more tokens t e r f)

    at_tree : Reading tokens → Comes
    at_tree (inl p) = at_left p.0 p.1 (left_at text next) refl
    at_tree (inr never) = inr (5, first_byte tokens, no_term tokens e never)

  at_run : (r : Run) → next_run text 0 ≡ r → Comes
  at_run (run tokens next) e = at_tree tokens next e (decide_run look tokens)
  at_run (run_fault n byte) e = inr (n, byte, no_token e)
  at_run (cut_short byte) e = inr (6, byte, unfinished e)
  at_run ended e = inr (6, length text, empty e)

pub GoalsAreDecided-holds : GoalsAreDecided
GoalsAreDecided-holds text = record {
  either = at_run text (next_run text 0) refl;
  one_goal = λ t u ms ns p q. let e : goal t ms ≡ goal u ns = sym (goal-is text t ms p) ∙ goal-is text u ns q in (cc, cc);
  one_fault = λ n m a b p q. let e : faulty n a ≡ faulty m b = sym (fault-is text p) ∙ fault-is text q in (cc, cc);
  not_both = λ t names n byte p q. let e : goal t names ≡ faulty n byte = sym (goal-is text t names p) ∙ fault-is text q in cc;
}
