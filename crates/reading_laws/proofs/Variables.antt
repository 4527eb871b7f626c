-- Variables are numbered from 0 in the order of their first tokens.
use Rattle.std.proofs.Common.{◌≡◌, ℕ, zero, suc, ◌+◌, ◌<◌, ◌≤◌, List, [], ◌∷◌, ◌++◌, length, Bool, true, false, ◌||◌, nat_eq, nat_lt, Option, Some, None, refl, sym, ap, ◌∙◌, subst, arith, if◌then◌else◌, unwrap_or}
use Rattle.std.specs.List.{AllByRecursion}
use Rattle.std.proofs.lemmas.Bool.{eqb-true, lt-ltb, le-ltb}
use Rattle.std.proofs.lemmas.Grind.{common_steps}
use Rattle.pl_terms.specs.Occurrence.{is_in, unless_seen, first_after, from_to}
use Rattle.pl_ops.specs.Tables.{same_text}
use Rattle.text_model.specs.Tokens.{Lexeme, name, quoted, variable, integer, text_codes, punctuation, stop, Token}
use Rattle.text_model.specs.Reading.{number_of, is_anonymous, Numbered}
use Rattle.pl_reader.specs.Numbering.{Met, known_number, with_variable, met_after, lexeme_at, numbered_from}
use Rattle.pl_reader.proofs.TokenSteps.{numbered-step}
use Rattle.reading_laws.proofs.Moves.{lexeme_variables, tokens_variables}

-- the numbers are below the next one
abbrev Below : Met → Type 0
Below m = AllByRecursion (λ p. p.1 < m.next) m.names

-- new numbers come in order, and all are below a limit
pub record IsCounted (limit : ℕ) (seen : List ℕ) (next : ℕ) (vs : List ℕ) : Type 0 where
  pub count : ℕ
  pub enough : next + count ≤ limit
  pub numbers : first_after seen vs ≡ from_to next count
  pub below : AllByRecursion (λ n. n < limit) vs

abbrev IsSeen : List ℕ → ℕ → Type 0
IsSeen seen next = (n : ℕ) → is_in n seen ≡ nat_lt n next

found-below : (names : List (List ℕ × ℕ)) (next : ℕ) (s : List ℕ) (n : ℕ) → AllByRecursion (λ p. p.1 < next) names → number_of s names ≡ Some n → n < next
found-below [] next s n h e = absurd (cc)
found-below (p ∷ ps) next s n h e = go (same_text p.0 s) e (found-below ps next s n h.1)
  where
    go : (b : Bool) → (if b then Some p.1 else number_of s ps) ≡ Some n → (number_of s ps ≡ Some n → n < next) → n < next
    go true f more = let same : p.1 ≡ n = cc in omega (arith, h.0)
    go false f more = more f

known-below : (m : Met) (s : List ℕ) (n : ℕ) → Below m → known_number m s ≡ Some n → n < m.next
known-below m s n h e = go (is_anonymous s) e
  where
    go : (b : Bool) → (if b then None else number_of s m.names) ≡ Some n → n < m.next
    go true f = absurd (cc)
    go false f = found-below m.names m.next s n h f

wider : (next : ℕ) (names : List (List ℕ × ℕ)) → AllByRecursion (λ p. p.1 < next) names → AllByRecursion (λ p. p.1 < suc next) names
wider next [] h = tt
wider next (p ∷ ps) h = (omega (arith, h.0), wider next ps h.1)

one_more : (next : ℕ) (names : List (List ℕ × ℕ)) (s : List ℕ) → AllByRecursion (λ p. p.1 < suc next) names → AllByRecursion (λ p. p.1 < suc next) (names ++ (s, next) ∷ [])
one_more next [] s h = (omega arith, tt)
one_more next (p ∷ ps) s h = (h.0, one_more next ps s h.1)

below-with : (m : Met) (s : List ℕ) → Below m → Below (with_variable m s)
below-with m s h = go (is_anonymous s)
  where
    go : (b : Bool) → AllByRecursion (λ p. p.1 < suc m.next) (if b then m.names else m.names ++ (s, m.next) ∷ [])
    go true = wider m.next m.names h
    go false = one_more m.next m.names s (wider m.next m.names h)

seen-known : (seen : List ℕ) (next n : ℕ) → n < next → IsSeen seen next → IsSeen (n ∷ seen) next
seen-known seen next n h is k = go (nat_eq k n) refl
  where
    go : (b : Bool) → nat_eq k n ≡ b → (b || is_in k seen) ≡ nat_lt k next
    go true e = sym (lt-ltb k next (omega (arith, eqb-true k n e)))
    go false e = is k

seen-new : (seen : List ℕ) (next : ℕ) → IsSeen seen next → IsSeen (next ∷ seen) (suc next)
seen-new seen next is k = ap (λ b. nat_eq k next || b) (is k) ∙ up k
  where
    up : (k : ℕ) → (nat_eq k next || nat_lt k next) ≡ nat_lt k (suc next)
    up k = grind (arith, common_steps)

-- what comes after a token
abbrev Rest : ℕ → List (Token (List ℕ)) → Type 0
Rest limit ts = (m : Met) (seen : List ℕ) → Below m → IsSeen seen m.next → m.next + length ts ≤ limit → IsCounted limit seen m.next (tokens_variables (numbered_from m ts).tokens)

module _ (limit : ℕ) (ts : List (Token (List ℕ))) (rest : Rest limit ts) (m : Met) (seen : List ℕ) (h : Below m) (is : IsSeen seen m.next) (room : m.next + suc (length ts) ≤ limit) where
  abbrev After : Met → List ℕ → Type 0
  After k vs = IsCounted limit seen m.next (vs ++ tokens_variables (numbered_from k ts).tokens)

  plain : After m []
  plain = rest m seen h is (omega arith)

  known : (n : ℕ) → n < m.next → After m (n ∷ [])
  known n below =
      let r = rest m (n ∷ seen) h (seen-known seen m.next n below is) (omega arith) in
      let here : is_in n seen ≡ true = is n ∙ lt-ltb n m.next below in
      record {
        count = r.count;
        enough = r.enough;
        numbers = ap (λ b. unless_seen b n (first_after (n ∷ seen) (tokens_variables (numbered_from m ts).tokens))) here ∙ r.numbers;
        below = (omega arith, r.below);
      }

  new : (s : List ℕ) → After (with_variable m s) (m.next ∷ [])
  new s =
      let k = with_variable m s in
      let vs = tokens_variables (numbered_from k ts).tokens in
      let r = rest k (m.next ∷ seen) (below-with m s h) (seen-new seen m.next is) (omega arith) in
      let here : is_in m.next seen ≡ false = is m.next ∙ le-ltb m.next m.next (omega arith) in
      record {
        count = suc r.count;
        enough = omega (arith, r.enough);
        numbers = ap (λ b. unless_seen b m.next (first_after (m.next ∷ seen) vs)) here ∙ ap (λ l. m.next ∷ l) r.numbers;
        below = (omega arith, r.below);
      }

  a_variable : (s : List ℕ) (o : Option ℕ) → known_number m s ≡ o → After (elim o as (λ _. Met) [ Some n ↦ m | None ↦ with_variable m s ]) (unwrap_or o m.next ∷ [])
  a_variable s (Some n) e = known n (known-below m s n h e)
  a_variable s None e = new s

  after_lexeme : (l : Lexeme (List ℕ)) → After (met_after m l) (lexeme_variables (lexeme_at m l))
  after_lexeme (name s) = plain
  after_lexeme (quoted s) = plain
  after_lexeme (variable s) = a_variable s (known_number m s) refl
  after_lexeme (integer n) = plain
  after_lexeme (text_codes s) = plain
  after_lexeme (punctuation c) = plain
  after_lexeme stop = plain

pub counted : (limit : ℕ) (ts : List (Token (List ℕ))) → Rest limit ts
counted limit [] m seen h is room = record { count = 0; enough = omega arith; numbers = refl; below = tt }
counted limit (t ∷ ts) m seen h is room =
    let P : Numbered → Type 0 = λ r. IsCounted limit seen m.next (tokens_variables r.tokens) in
    subst P (sym (numbered-step m t ts)) (after_lexeme limit ts (counted limit ts) m seen h is room t.lexeme)

-- numbers from the first on
pub length-from_to : (n k : ℕ) → length (from_to n k) ≡ k
length-from_to n zero = refl
length-from_to n (suc k) = ap suc (length-from_to (suc n) k)

pub none_seen : IsSeen [] 0
none_seen n = sym (le-ltb n 0 (omega arith))
