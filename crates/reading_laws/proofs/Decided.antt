-- Preparing a text is decided.
use Rattle.std.proofs.Common.{◌≡◌, ℕ, Bool, zero, suc, ◌+◌, ◌<◌, ◌≤◌, List, [], ◌∷◌, ◌++◌, length, Option, Some, None, Ok, Err, refl, sym, ap, ◌∙◌, subst, arith, ◌⊎◌, inl, inr}
use Rattle.pl_terms.specs.Trees.{Tree}
use Rattle.pl_ops.specs.Tables.{Operators, operator}
use Rattle.text_model.specs.Tokens.{Lexeme, name, quoted, variable, integer, text_codes, punctuation, stop, Token, Run, run, run_fault, cut_short, ended, next_run}
use Rattle.text_model.specs.Grammar.{Item, Reads, max_priority}
use Rattle.text_model.specs.Reading.{items_of, at_operand, numbered, ReadsTokens}
use Rattle.unit_model.specs.Facts.{Facts}
use Rattle.unit_model.specs.Directives.{Text}
use Rattle.unit_model.specs.Preparing.{State, Opened, Next, start, table_in, facts_of, step}
use Rattle.unit_model.specs.Prepared.{ReadsRun, first_byte, Prepares, ends, goes_on, Faults, no_token, unfinished, no_term, wrong_term, left_open, later, PreparingIsDecided}
use Rattle.pl_reader.proofs.OneTree.{Decided-holds, OneTreeOfTokens-holds}
use Rattle.reading_laws.proofs.Runs.{RunsProceed-holds}

-- ---- a run reads as one tree or as none

-- the tokens before the last, and the last
record Ending (tokens : List (Token Text)) : Type 0 where
  before : List (Token Text)
  end : Token Text
  split : tokens ≡ before ++ end ∷ []

data Ended (tokens : List (Token Text)) : Type 0 where
  without : tokens ≡ [] → Ended tokens
  with_end : Ending tokens → Ended tokens

ending : (tokens : List (Token Text)) → Ended tokens
ending [] = without refl
ending (t ∷ ts) = go (ending ts)
  where
    go : Ended ts → Ended (t ∷ ts)
    go (without e) = with_end (record { before = []; end = t; split = ap (λ l. t ∷ l) e })
    go (with_end r) = with_end (record { before = t ∷ r.before; end = r.end; split = ap (λ l. t ∷ l) r.split })

some_tokens : (ts : List (Token Text)) (t : Token Text) → [] ≡ ts ++ t ∷ [] → ⊥
some_tokens [] t e = cc
some_tokens (u ∷ ts) t e = cc

record Same (ts us : List (Token Text)) (t u : Token Text) : Type 0 where
  front : ts ≡ us
  last : t ≡ u

same_split : (ts us : List (Token Text)) (t u : Token Text) → ts ++ t ∷ [] ≡ us ++ u ∷ [] → Same ts us t u
same_split [] [] t u e = record { front = refl; last = cc }
same_split [] (v ∷ us) t u e = absurd (some_tokens us u (let f : [] ≡ us ++ u ∷ [] = cc in f))
same_split (v ∷ ts) [] t u e = absurd (some_tokens ts t (let f : [] ≡ ts ++ t ∷ [] = cc in f))
same_split (v ∷ ts) (w ∷ us) t u e =
    let head : v ≡ w = cc in
    let rest : ts ++ t ∷ [] ≡ us ++ u ∷ [] = cc in
    let r = same_split ts us t u rest in
    record { front = ap (λ x. x ∷ ts) head ∙ ap (λ l. w ∷ l) r.front; last = r.last }

abbrev end_at : {V : Type 0} → ℕ → Bool → Token V
end_at byte direct = record { lexeme = stop; byte = byte; direct = direct }

module _ (look : Operators) where
  abbrev TokensRead : List (Token Text) → ℕ → Bool → Tree Text → Type 0
  TokensRead before byte direct t = ReadsTokens look (numbered [] 0 before).tokens (end_at byte direct) max_priority t

  moved : (ts us : List (Token Text)) (a b : ℕ) (d e : Bool) (t : Tree Text) → Same ts us (end_at a d) (end_at b e) → TokensRead ts a d t → TokensRead us b e t
  moved ts us a b d e t same r =
      subst (λ x. TokensRead us b x t) (ap (λ x. x.direct) same.last) (subst (λ x. TokensRead us x d t) (ap (λ x. x.byte) same.last) (subst (λ x. TokensRead x a d t) same.front r))

  decide_tokens : (ts : List (Token ℕ)) (following : Token ℕ) → ((t : Tree Text) × ReadsTokens look ts following max_priority t) ⊎ ((t : Tree Text) → ReadsTokens look ts following max_priority t → ⊥)
  decide_tokens ts following = go (items_of look following 0 at_operand ts) refl
    where
      lost : (t : Tree Text) (o : Option (List Item)) → items_of look following 0 at_operand ts ≡ o → o ≡ None → ReadsTokens look ts following max_priority t → ⊥
      lost t o e none r = let f : None ≡ Some r.items = sym none ∙ sym e ∙ r.classified in absurd (cc)

      refused : (is : List Item) → items_of look following 0 at_operand ts ≡ Some is → ((t : Tree Text) → Reads is max_priority t → ⊥) → (t : Tree Text) → ReadsTokens look ts following max_priority t → ⊥
      refused is e never t r =
          let f : Some is ≡ Some r.items = sym e ∙ r.classified in
          let same : r.items ≡ is = cc in
          never t (subst (λ x. Reads x max_priority t) same r.reads)

      with_items : (is : List Item) → items_of look following 0 at_operand ts ≡ Some is → ((t : Tree Text) × Reads is max_priority t) ⊎ ((t : Tree Text) → Reads is max_priority t → ⊥)
          → ((t : Tree Text) × ReadsTokens look ts following max_priority t) ⊎ ((t : Tree Text) → ReadsTokens look ts following max_priority t → ⊥)
      with_items is e (inl p) = inl (p.0, record { items = is; classified = e; reads = p.1 })
      with_items is e (inr never) = inr (refused is e never)

      go : (o : Option (List Item)) → items_of look following 0 at_operand ts ≡ o → ((t : Tree Text) × ReadsTokens look ts following max_priority t) ⊎ ((t : Tree Text) → ReadsTokens look ts following max_priority t → ⊥)
      go None e = inr (λ t. lost t None e refl)
      go (Some is) e = with_items is e (Decided-holds is)

  module _ (tokens : List (Token Text)) where
    abbrev Reading : Type 0
    Reading = ((t : Tree Text) × ReadsRun look tokens t) ⊎ ((t : Tree Text) → ReadsRun look tokens t → ⊥)

    module _ (before : List (Token Text)) (byte : ℕ) (direct : Bool) where
      another : (l : Lexeme Text) → tokens ≡ before ++ record { lexeme = l; byte = byte; direct = direct } ∷ [] → (stop ≡ l → ⊥) → Reading
      another l e never =
          inr (λ t r. let same = same_split r.before before (end_at r.end_byte r.direct) (record { lexeme = l; byte = byte; direct = direct }) (sym r.split ∙ e) in never (ap (λ x. x.lexeme) same.last))

      at_stop : tokens ≡ before ++ end_at byte direct ∷ [] → Reading
      at_stop e = go (decide_tokens (numbered [] 0 before).tokens (end_at byte direct))
        where
          go : ((t : Tree Text) × TokensRead before byte direct t) ⊎ ((t : Tree Text) → TokensRead before byte direct t → ⊥) → Reading
          go (inl p) = inl (p.0, record { before = before; end_byte = byte; direct = direct; split = e; reads = p.1 })
          go (inr never) =
              inr (λ t r. never t (moved r.before before r.end_byte byte r.direct direct t (same_split r.before before (end_at r.end_byte r.direct) (end_at byte direct) (sym r.split ∙ e)) r.reads))

      from_lexeme : (l : Lexeme Text) → tokens ≡ before ++ record { lexeme = l; byte = byte; direct = direct } ∷ [] → Reading
      from_lexeme (name s) e = another (name s) e (λ f. cc)
      from_lexeme (quoted s) e = another (quoted s) e (λ f. cc)
      from_lexeme (variable s) e = another (variable s) e (λ f. cc)
      from_lexeme (integer n) e = another (integer n) e (λ f. cc)
      from_lexeme (text_codes s) e = another (text_codes s) e (λ f. cc)
      from_lexeme (punctuation c) e = another (punctuation c) e (λ f. cc)
      from_lexeme stop e = at_stop e

    -- a run reads as a tree or as none
    pub decide_run : Reading
    decide_run = go (ending tokens)
      where
        go : Ended tokens → Reading
        go (without e) = inr (λ t r. some_tokens r.before (end_at r.end_byte r.direct) (sym e ∙ r.split))
        go (with_end r) = from_lexeme r.before r.end.byte r.end.direct r.end.lexeme r.split

    -- and as one only
    pub one_tree : (t u : Tree Text) → ReadsRun look tokens t → ReadsRun look tokens u → t ≡ u
    one_tree t u r q =
        let same = same_split q.before r.before (end_at q.end_byte q.direct) (end_at r.end_byte r.direct) (sym q.split ∙ r.split) in
        OneTreeOfTokens-holds look (numbered [] 0 r.before).tokens (end_at r.end_byte r.direct) t u r.reads (moved q.before r.before q.end_byte r.end_byte q.direct r.direct u same q.reads)

    -- the tree, where there is one
    abbrev tree_from : Reading → Option (Tree Text)
    tree_from (inl p) = Some p.0
    tree_from (inr never) = None

    tree_of : Option (Tree Text)
    tree_of = tree_from decide_run

    tree_of-is : (t : Tree Text) → ReadsRun look tokens t → tree_of ≡ Some t
    unfolding tree_of
    tree_of-is t r = go decide_run
      where
        go : (d : Reading) → tree_from d ≡ Some t
        go (inl p) = ap Some (one_tree p.0 t p.1 r)
        go (inr never) = absurd (never t r)

    tree_of-none : ((t : Tree Text) → ReadsRun look tokens t → ⊥) → tree_of ≡ None
    unfolding tree_of
    tree_of-none never = go decide_run
      where
        go : (d : Reading) → tree_from d ≡ None
        go (inl p) = absurd (never p.0 p.1)
        go (inr other) = refl

-- ---- what comes of a text

data Outcome : Type 0 where
  prepared : Facts Text → Outcome
  faulty : ℕ → ℕ → Outcome

abbrev after_step : (State → Outcome) → ℕ → Next → Outcome
after_step more byte (Ok after) = more after
after_step more byte (Err n) = faulty n byte

abbrev after_tree : (State → Outcome) → ℕ → State → Option (Tree Text) → Outcome
after_tree more byte s None = faulty 5 byte
after_tree more byte s (Some t) = after_step more byte (step t byte s)

module _ (text : List ℕ) where
  abbrev at_end : State → Option Opened → Outcome
  at_end s None = prepared (facts_of s)
  at_end s (Some o) = faulty 7 (length text)

  abbrev after_run : (ℕ → State → Outcome) → State → Run → Outcome
  after_run more s (run tokens next) = after_tree (more next) (first_byte tokens) s (tree_of (operator (table_in s)) tokens)
  after_run more s (run_fault n byte) = faulty n byte
  after_run more s (cut_short byte) = faulty 6 byte
  after_run more s ended = at_end s s.inside

  abbrev outcome : ℕ → ℕ → State → Outcome
  outcome zero k s = faulty 0 0
  outcome (suc turns) k s = after_run (outcome turns) s (next_run text k)

  read : (more : ℕ → State → Outcome) (s : State) (k next : ℕ) (tokens : List (Token Text)) (t : Tree Text) (n : Next) → next_run text k ≡ run tokens next → ReadsRun (operator (table_in s)) tokens t
      → step t (first_byte tokens) s ≡ n → after_run more s (next_run text k) ≡ after_step (more next) (first_byte tokens) n
  read more s k next tokens t n e r f =
      ap (after_run more s) e ∙ ap (after_tree (more next) (first_byte tokens) s) (tree_of-is (operator (table_in s)) tokens t r) ∙ ap (after_step (more next) (first_byte tokens)) f

  prepared-is : {k : ℕ} {s : State} {f : Facts Text} → Prepares text k s f → (turns : ℕ) → length text ≤ turns + k → outcome (suc turns) k s ≡ prepared f
  prepared-is (ends {k = k} {s = s} e none) turns room = ap (after_run (outcome turns) s) e ∙ ap (at_end s) none
  prepared-is (goes_on {k = k} {next = next} tokens t e r f rest) zero room = let h = RunsProceed-holds text k next tokens e in absurd (omega (arith, h.later, h.within))
  prepared-is (goes_on {k = k} {next = next} {s = s} {after = after} tokens t e r f rest) (suc turns) room =
      let h = RunsProceed-holds text k next tokens e in
      read (outcome (suc turns)) s k next tokens t (Ok after) e r f ∙ prepared-is rest turns (omega (arith, h.later))

  faulty-is : {k n byte : ℕ} {s : State} → Faults text k s n byte → (turns : ℕ) → length text ≤ turns + k → outcome (suc turns) k s ≡ faulty n byte
  faulty-is (no_token {s = s} e) turns room = ap (after_run (outcome turns) s) e
  faulty-is (unfinished {s = s} e) turns room = ap (after_run (outcome turns) s) e
  faulty-is (no_term {next = next} {s = s} tokens e never) turns room =
      ap (after_run (outcome turns) s) e ∙ ap (after_tree (outcome turns next) (first_byte tokens) s) (tree_of-none (operator (table_in s)) tokens never)
  faulty-is (wrong_term {k = k} {next = next} {n = n} {s = s} tokens t e r f) turns room = read (outcome turns) s k next tokens t (Err n) e r f
  faulty-is (left_open {s = s} o e open_is) turns room = ap (after_run (outcome turns) s) e ∙ ap (at_end s) open_is
  faulty-is (later {k = k} {next = next} tokens t e r f rest) zero room = let h = RunsProceed-holds text k next tokens e in absurd (omega (arith, h.later, h.within))
  faulty-is (later {k = k} {next = next} {s = s} {after = after} tokens t e r f rest) (suc turns) room =
      let h = RunsProceed-holds text k next tokens e in
      read (outcome (suc turns)) s k next tokens t (Ok after) e r f ∙ faulty-is rest turns (omega (arith, h.later))

  -- one of them comes
  abbrev Comes : ℕ → State → Type 0
  Comes k s = ((f : Facts Text) × Prepares text k s f) ⊎ ((n : ℕ) × (byte : ℕ) × Faults text k s n byte)

  module _ (k : ℕ) (s : State) where
    at_step : (next : ℕ) (tokens : List (Token Text)) (t : Tree Text) (n : Next) → next_run text k ≡ run tokens next → ReadsRun (operator (table_in s)) tokens t → step t (first_byte tokens) s ≡ n
        → ((after : State) → Comes next after) → Comes k s
    at_step next tokens t (Err n) e r f more = inr (n, first_byte tokens, wrong_term tokens t e r f)
    at_step next tokens t (Ok after) e r f more = go (more after)
      where
        go : Comes next after → Comes k s
        go (inl q) = inl (q.0, goes_on tokens t e r f q.1)
        go (inr q) = inr (q.0, q.1, later tokens t e r f q.2)

    at_run : (r : Run) → next_run text k ≡ r → ((next : ℕ) (after : State) → k < next → next ≤ length text → Comes next after) → Comes k s
    at_run (run tokens next) e more = go (decide_run (operator (table_in s)) tokens)
      where
        go : ((t : Tree Text) × ReadsRun (operator (table_in s)) tokens t) ⊎ ((t : Tree Text) → ReadsRun (operator (table_in s)) tokens t → ⊥) → Comes k s
        go (inl p) =
            let h = RunsProceed-holds text k next tokens e in
            at_step next tokens p.0 (step p.0 (first_byte tokens) s) e p.1 refl (λ after. more next after h.later h.within)
        go (inr never) = inr (5, first_byte tokens, no_term tokens e never)
    at_run (run_fault n byte) e more = inr (n, byte, no_token e)
    at_run (cut_short byte) e more = inr (6, byte, unfinished e)
    at_run ended e more = go s.inside refl
      where
        go : (o : Option Opened) → s.inside ≡ o → Comes k s
        go None i = inl (facts_of s, ends e i)
        go (Some o) i = inr (7, length text, left_open o e i)

  comes : (turns k : ℕ) (s : State) → length text ≤ turns + k → Comes k s
  comes zero k s room = at_run k s (next_run text k) refl (λ next after more within. absurd (omega arith))
  comes (suc turns) k s room = at_run k s (next_run text k) refl (λ next after more within. comes turns next after (omega arith))

pub PreparingIsDecided-holds : PreparingIsDecided
PreparingIsDecided-holds known text =
    let turns = length text in
    let room : length text ≤ turns + 0 = omega arith in
    record {
      either = comes text turns 0 (start known) room;
      one_value = λ f g p q. let e : prepared f ≡ prepared g = sym (prepared-is text p turns room) ∙ prepared-is text q turns room in cc;
      one_fault = λ n m a b p q. let e : faulty n a ≡ faulty m b = sym (faulty-is text p turns room) ∙ faulty-is text q turns room in (cc, cc);
      not_both = λ f n byte p q. let e : prepared f ≡ faulty n byte = sym (prepared-is text p turns room) ∙ faulty-is text q turns room in cc;
    }
