-- The variables of a goal are 0, 1, 2 and so on, and each name stands for one of them.
use Rattle.std.proofs.Common.{◌≡◌, ℕ, zero, suc, ◌+◌, ◌<◌, ◌≤◌, List, [], ◌∷◌, ◌++◌, length, map, Bool, true, false, ◌||◌, nat_eq, Option, Some, None, refl, sym, ap, ◌∙◌, subst, arith, if◌then◌else◌, unwrap_or, All}
use Rattle.std.specs.List.{AllByRecursion}
use Rattle.std.proofs.lemmas.Bool.{eqb-true}
use Rattle.std.proofs.lemmas.List.Elements.{All-from_recursion}
use Rattle.pl_terms.specs.Trees.{Tree, var, int, atom, comp, Trees, nil, cons, all_renamed}
use Rattle.pl_terms.specs.Occurrence.{occurrences, all_occurrences, is_in, unless_seen, first_after, from_to, variables, IsNumbered}
use Rattle.pl_terms.specs.Order.{text_of, texts_of}
use Rattle.pl_terms.specs.declared.read_term.VarName.{VarName}
use Rattle.pl_ops.specs.Tables.{Operators, operator}
use Rattle.pl_ops.specs.Standard.{standard}
use Rattle.text_model.specs.Tokens.{Lexeme, name, quoted, variable, integer, text_codes, punctuation, stop, Token}
use Rattle.text_model.specs.Grammar.{max_priority}
use Rattle.text_model.specs.Reading.{at_operand, is_anonymous, Numbered, ReadsTokens}
use Rattle.unit_model.specs.Directives.{Text}
use Rattle.unit_model.specs.Prepared.{ReadsRun}
use Rattle.pl_tokens.specs.Facts.{IsLexeme}
use Rattle.pl_reader.specs.Numbering.{Met, known_number, with_variable, met_after, lexeme_at, numbered_from}
use Rattle.pl_reader.proofs.TokenSteps.{numbered-step}
use Rattle.reading_laws.proofs.Numbers.{numbers, items_numbers, numbers-meaning, variables_in, occurrences-are}
use Rattle.reading_laws.proofs.Moves.{FitsLexeme, TokensFit, lexeme_variables, tokens_variables, KeepsItems, keep_items}
use Rattle.reading_laws.proofs.Variables.{IsCounted, counted, length-from_to, none_seen}
use Rattle.reading_laws.proofs.Runs.{kept, StartIsPlace-holds}
use Rattle.goal_runs.specs.Goals.{VariableNames, IsGoal}

-- ---- facts of each item of a list

module _ {A : Type 0} (P : A → Type 0) where
  all-left : (xs ys : List A) → AllByRecursion P (xs ++ ys) → AllByRecursion P xs
  all-left [] ys h = tt
  all-left (x ∷ xs) ys h = (h.0, all-left xs ys h.1)

  all-right : (xs ys : List A) → AllByRecursion P (xs ++ ys) → AllByRecursion P ys
  all-right [] ys h = h
  all-right (x ∷ xs) ys h = all-right xs ys h.1

  all-last : (xs : List A) (x : A) → AllByRecursion P xs → P x → AllByRecursion P (xs ++ x ∷ [])
  all-last [] x h k = (k, tt)
  all-last (y ∷ xs) x h k = (h.0, all-last xs x h.1 k)

abbrev AllBelow : ℕ → List ℕ → Type 0
AllBelow limit = AllByRecursion (λ n. n < limit)

abbrev pub NumbersBelow : ℕ → VariableNames → Type 0
NumbersBelow limit = AllByRecursion (λ p. p.1 < limit)

-- ---- numbers that stand in a list of first places stand in the list

module _ (limit : ℕ) where
  seen-below : (v : ℕ) (seen : List ℕ) → is_in v seen ≡ true → AllBelow limit seen → v < limit
  seen-below v [] e h = absurd (cc)
  seen-below v (m ∷ ms) e h = go (nat_eq v m) refl e (seen-below v ms)
    where
      go : (b : Bool) → nat_eq v m ≡ b → (b || is_in v ms) ≡ true → (is_in v ms ≡ true → AllBelow limit ms → v < limit) → v < limit
      go true f g more = let same : v ≡ m = eqb-true v m f in omega (arith, h.0)
      go false f g more = more g h.1

  firsts-below : (seen vs : List ℕ) → AllBelow limit seen → AllBelow limit (first_after seen vs) → AllBelow limit vs
  firsts-below seen [] h k = tt
  firsts-below seen (v ∷ vs) h k = go (is_in v seen) refl k (firsts-below (v ∷ seen) vs)
    where
      go : (b : Bool) → is_in v seen ≡ b → AllBelow limit (unless_seen b v (first_after (v ∷ seen) vs)) → (AllBelow limit (v ∷ seen) → AllBelow limit (first_after (v ∷ seen) vs) → AllBelow limit vs) → AllBelow limit (v ∷ vs)
      go true e l more = let here : v < limit = seen-below v seen e h in (here, more (here, h) l)
      go false e l more = (l.0, more (l.0, h) l.1)

  run-below : (n k : ℕ) → n + k ≤ limit → AllBelow limit (from_to n k)
  run-below n zero h = tt
  run-below n (suc k) h = (omega arith, run-below (suc n) k (omega arith))

  -- ---- the names that are met have numbers of variables

  abbrev MetBelow : Met → Type 0
  MetBelow m = NumbersBelow limit m.names

  with-below : (m : Met) (s : Text) → MetBelow m → m.next < limit → MetBelow (with_variable m s)
  with-below m s h k = go (is_anonymous s)
    where
      go : (b : Bool) → NumbersBelow limit (if b then m.names else m.names ++ (s, m.next) ∷ [])
      go true = h
      go false = all-last (λ p. p.1 < limit) m.names (s, m.next) h k

  variable-below : (m : Met) (s : Text) (o : Option ℕ) → MetBelow m → unwrap_or o m.next < limit → MetBelow (elim o as (λ _. Met) [ Some n ↦ m | None ↦ with_variable m s ])
  variable-below m s None h k = with-below m s h k
  variable-below m s (Some n) h k = h

  lexeme-below : (m : Met) (l : Lexeme Text) → MetBelow m → AllBelow limit (lexeme_variables (lexeme_at m l)) → MetBelow (met_after m l)
  lexeme-below m (name s) h k = h
  lexeme-below m (quoted s) h k = h
  lexeme-below m (variable s) h k = variable-below m s (known_number m s) h k.0
  lexeme-below m (integer n) h k = h
  lexeme-below m (text_codes s) h k = h
  lexeme-below m (punctuation c) h k = h
  lexeme-below m stop h k = h

  names-below : (ts : List (Token Text)) (m : Met) → MetBelow m → AllBelow limit (tokens_variables (numbered_from m ts).tokens) → NumbersBelow limit (numbered_from m ts).names
  names-below [] m h k = h
  names-below (t ∷ ts) m h k =
      let P : Numbered → Type 0 = λ r. AllBelow limit (tokens_variables r.tokens) → NumbersBelow limit r.names in
      let here : List ℕ = lexeme_variables (lexeme_at m t.lexeme) in
      let later : List ℕ = tokens_variables (numbered_from (met_after m t.lexeme) ts).tokens in
      subst P (sym (numbered-step m t ts))
      (λ l. names-below ts (met_after m t.lexeme) (lexeme-below m t.lexeme h (all-left (λ n. n < limit) here later l)) (all-right (λ n. n < limit) here later l)) k

-- ---- the variables of a term that is read are those of its tokens

within : (m : Met) (l : Lexeme Text) → IsLexeme l → FitsLexeme (lexeme_at m l)
within m (name s) h = tt
within m (quoted s) h = tt
within m (variable s) h = tt
within m (integer n) h = h
within m (text_codes s) h = h
within m (punctuation c) h = tt
within m stop h = tt

abbrev AreLexemes : List (Token Text) → Type 0
AreLexemes = AllByRecursion (λ t. IsLexeme t.lexeme)

tokens_fit : (m : Met) (ts : List (Token Text)) → AreLexemes ts → TokensFit (numbered_from m ts).tokens
tokens_fit m [] h = tt
tokens_fit m (t ∷ ts) h =
    let P : Numbered → Type 0 = λ r. TokensFit r.tokens in
    subst P (sym (numbered-step m t ts)) (within m t.lexeme h.0, tokens_fit (met_after m t.lexeme) ts h.1)

abbrev none_met : Met
none_met = record { names = []; next = 0 }

-- a term whose variables are 0, 1, 2 and so on, with names for some of them
pub record IsNamed (t : Tree Text) (names : VariableNames) : Type 0 where
  pub in_order : IsNumbered t
  pub below : NumbersBelow (length (variables t)) names

module _ (look : Operators) (before : List (Token Text)) (following : Token ℕ) (t : Tree Text) (h : AreLexemes before)
    (last : FitsLexeme following.lexeme) (r : ReadsTokens look (numbered_from none_met before).tokens following max_priority t) where
  abbrev numbered_tokens : List (Token ℕ)
  numbered_tokens = (numbered_from none_met before).tokens

  items_kept : KeepsItems look following (tokens_variables numbered_tokens) (Some r.items)
  items_kept =
      subst (KeepsItems look following (tokens_variables numbered_tokens)) r.classified (keep_items look following last numbered_tokens (tokens_fit none_met before h) 0 at_operand tt)

  occurrences-tokens : occurrences t ≡ tokens_variables numbered_tokens
  occurrences-tokens =
      occurrences-are t ∙ ap variables_in (sym (ap numbers r.reads.tree) ∙ numbers-meaning r.reads.parse ∙ ap items_numbers r.reads.spelled) ∙ items_kept.0

  named : IsNamed t (numbered_from none_met before).names
  named =
      let c : IsCounted (length before) [] 0 (tokens_variables numbered_tokens) = counted (length before) before none_met [] tt none_seen (omega arith) in
      let seen : variables t ≡ from_to 0 c.count = ap (first_after []) occurrences-tokens ∙ c.numbers in
      let count : length (variables t) ≡ c.count = ap length seen ∙ length-from_to 0 c.count in
      let firsts : AllBelow c.count (first_after [] (tokens_variables numbered_tokens)) = subst (AllBelow c.count) (sym c.numbers) (run-below c.count 0 c.count (omega arith)) in
      let all : AllBelow c.count (tokens_variables numbered_tokens) = firsts-below c.count [] (tokens_variables numbered_tokens) tt firsts in
      record {
        in_order = seen ∙ ap (from_to 0) (sym count);
        below = subst (λ n. NumbersBelow n (numbered_from none_met before).names) (sym count) (names-below c.count before none_met tt all);
      }

pub goal-named : (text : List ℕ) (t : Tree Text) (names : VariableNames) → IsGoal text t names → IsNamed t names
goal-named text t names g =
    let r : ReadsRun (operator standard) g.tokens t = g.term.reads in
    let place = StartIsPlace-holds text in
    let lexemes : AreLexemes g.tokens = ((kept text 0 g.next g.tokens g.first).lexemes place.begins).1 in
    let end : Token Text = record { lexeme = stop; byte = r.end_byte; direct = r.direct } in
    let front : AreLexemes r.before = all-left (λ x. IsLexeme x.lexeme) r.before (end ∷ []) (subst AreLexemes r.split lexemes) in
    subst (IsNamed t) (sym g.term.named) (named (operator standard) r.before (record { lexeme = stop; byte = r.end_byte; direct = r.direct }) t front tt r.reads)

-- ---- a term with numbers for its names

module _ (table : List Text) where
  mutual
    occurrences-texts : (t : Tree ℕ) → occurrences (texts_of table t) ≡ occurrences t
    occurrences-texts (var n) = refl
    occurrences-texts (int z) = refl
    occurrences-texts (atom s) = refl
    occurrences-texts (comp s ts) = all_occurrences-texts ts

    all_occurrences-texts : (ts : Trees ℕ) → all_occurrences (all_renamed (text_of table) ts) ≡ all_occurrences ts
    all_occurrences-texts nil = refl
    all_occurrences-texts (cons t ts) =
        ap (λ l. l ++ all_occurrences (all_renamed (text_of table) ts)) (occurrences-texts t) ∙ ap (λ l. occurrences t ++ l) (all_occurrences-texts ts)

  variables-texts : (t : Tree ℕ) → variables (texts_of table t) ≡ variables t
  variables-texts t = ap (first_after []) (occurrences-texts t)

  pub in_order : (t : Tree ℕ) (names : VariableNames) → IsNamed (texts_of table t) names → variables t ≡ from_to 0 (length (variables t))
  in_order t names h = subst (λ vs. vs ≡ from_to 0 (length vs)) (variables-texts t) h.in_order

  pub numbers-below : (t : Tree ℕ) (vs : List VarName) → IsNamed (texts_of table t) (map (λ v. (v.name, v.number)) vs) → All (λ v. v.number < length (variables t)) vs
  numbers-below t vs h =
      let limit : ℕ = length (variables t) in
      let below : NumbersBelow limit (map (λ v. (v.name, v.number)) vs) = subst (λ ws. NumbersBelow (length ws) (map (λ v. (v.name, v.number)) vs)) (variables-texts t) h.below in
      All-from_recursion (λ v. v.number < limit) vs (each limit vs below)
    where
      each : (limit : ℕ) (vs : List VarName) → NumbersBelow limit (map (λ v. (v.name, v.number)) vs) → AllByRecursion (λ v. v.number < limit) vs
      each limit [] h = tt
      each limit (v ∷ vs) h = (h.0, each limit vs h.1)
