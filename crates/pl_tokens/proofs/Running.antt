-- Taking one token after another.
use Rattle.std.proofs.Common.{◌≡◌, ℕ, zero, suc, ◌≤◌, ◌<◌, List, [], ◌∷◌, ◌++◌, length, drop, Bool, true, false, refl, sym, ap, ◌∙◌, arith, subst, length-drop, if◌then◌else◌, nat_eq, get_or, Result, Option}
use Rattle.std.proofs.lemmas.Bool.{cond-true, cond-false, ne_eqb}
use Rattle.text_model.specs.Tokens.{Token, Placed, placed, bad_at, none_left, placed_at, is_stop, is_minus, Run, run, run_fault, cut_short, ended, run_from, after_token}
use Rattle.pl_tokens.specs.Views.{token_view, tokens_view}
use Rattle.pl_tokens.specs.Runs.{after_all, RunGives, fault_run}
use Rattle.pl_tokens.specs.declared.token.Token.{Token as CodeToken}
use Rattle.pl_tokens.specs.declared.token_reader.PlacedRun.{PlacedRun}
use Rattle.pl_tokens.specs.declared.token.TokenFault.{TokenFault}

after_all-more : (ts : List (Token (List ℕ))) (t : Token (List ℕ)) (r : Run) → after_all ts (after_token t r) ≡ after_all (ts ++ t ∷ []) r
after_all-more [] t r = refl
after_all-more (u ∷ ts) t r = ap (after_token u) (after_all-more ts t r)

after_all-run : (ts us : List (Token (List ℕ))) (next : ℕ) → after_all ts (run us next) ≡ run (ts ++ us) next
after_all-run [] us next = refl
after_all-run (t ∷ ts) us next = ap (after_token t) (after_all-run ts us next)

after_all-fault : (ts : List (Token (List ℕ))) (n byte : ℕ) → after_all ts (run_fault n byte) ≡ run_fault n byte
after_all-fault [] n byte = refl
after_all-fault (t ∷ ts) n byte = ap (after_token t) (after_all-fault ts n byte)

after_all-short : (ts : List (Token (List ℕ))) (byte : ℕ) (t : Token (List ℕ)) → after_all (t ∷ ts) ended ≡ cut_short t.byte
after_all-short [] byte t = refl
after_all-short (u ∷ ts) byte t = ap (after_token t) (after_all-short ts byte u)

pub tokens_of-more : (ts : List CodeToken) (t : CodeToken) → tokens_view (ts ++ t ∷ []) ≡ tokens_view ts ++ token_view t ∷ []
tokens_of-more [] t = refl
tokens_of-more (u ∷ ts) t = ap (λ l. token_view u ∷ l) (tokens_of-more ts t)

pub after_all-first : (t : Token (List ℕ)) (ts : List (Token (List ℕ))) → after_all (t ∷ ts) ended ≡ cut_short t.byte
after_all-first t ts = after_all-short ts 0 t

pub fault_run-is : (n byte : ℕ) → n < 5 → fault_run n byte ≡ run_fault n byte
fault_run-is n byte h = cond-false (nat_eq n 6) _ _ (ne_eqb n 6 (λ e. omega arith))

abbrev after_turn : Placed → ℕ → Bool → List ℕ → Run
after_turn p turns marked valid = elim p [
  | none_left ↦ ended
  | bad_at n byte ↦ run_fault n byte
  | placed t next ↦ if is_stop t.lexeme then run (t ∷ []) next else after_token t (run_from turns marked next true (is_minus t.lexeme) valid)
]

one_turn : (turns : ℕ) (marked : Bool) (at : ℕ) (direct minus : Bool) (valid : List ℕ) (p : Placed) → p ≡ placed_at marked at direct minus valid → run_from (suc turns) marked at direct minus valid ≡ after_turn p turns marked valid
unfolding run_from
one_turn turns marked at direct minus valid p e = ap (λ q. after_turn q turns marked valid) (sym e)

-- the run is what was read, and what is left; turns are enough
pub record Running (whole : Run) (marked : Bool) (valid : List ℕ) (ts : List (Token (List ℕ))) (at : ℕ) (direct minus : Bool) : Type 0 where
  pub turns : ℕ
  pub enough : length (drop at valid) < turns
  pub same : whole ≡ after_all ts (run_from turns marked at direct minus valid)

pub start : (turns : ℕ) (marked : Bool) (at : ℕ) (direct minus : Bool) (valid : List ℕ) (ts : List CodeToken) → ts ≡ [] → length (drop at valid) < turns → Running (run_from turns marked at direct minus valid) marked valid (tokens_view ts) at direct minus
start turns marked at direct minus valid ts none enough = record { turns = turns; enough = enough; same = ap (λ l. after_all (tokens_view l) (run_from turns marked at direct minus valid)) (sym none) }

module _ (whole : Run) (marked : Bool) (valid : List ℕ) (ts : List (Token (List ℕ))) (at : ℕ) (direct minus : Bool) where
  turned : (p : Placed) → Running whole marked valid ts at direct minus → p ≡ placed_at marked at direct minus valid → (t : ℕ) × (length (drop at valid) ≤ t) × (whole ≡ after_all ts (after_turn p t marked valid))
  turned p r e = go r.turns r.enough r.same
    where
      go : (n : ℕ) → length (drop at valid) < n → whole ≡ after_all ts (run_from n marked at direct minus valid) → (t : ℕ) × (length (drop at valid) ≤ t) × (whole ≡ after_all ts (after_turn p t marked valid))
      go zero enough same = absurd (omega arith)
      go (suc t) enough same = (t, omega arith, same ∙ ap (after_all ts) (one_turn t marked at direct minus valid p e))

  pub further : (t : Token (List ℕ)) (next : ℕ) → Running whole marked valid ts at direct minus → placed t next ≡ placed_at marked at direct minus valid → is_stop t.lexeme ≡ false → at < next → next ≤ length valid → Running whole marked valid (ts ++ t ∷ []) next true (is_minus t.lexeme)
  further t next r e not some within =
      let k = turned (placed t next) r e in
      record {
        turns = k.0;
        enough = omega (arith, k.1, length-drop at valid, length-drop next valid);
        same = k.2 ∙ ap (after_all ts) (cond-false (is_stop t.lexeme) _ _ not) ∙ after_all-more ts t (run_from k.0 marked next true (is_minus t.lexeme) valid);
      }

  pub stopped : (t : Token (List ℕ)) (next : ℕ) → Running whole marked valid ts at direct minus → placed t next ≡ placed_at marked at direct minus valid → is_stop t.lexeme ≡ true → run (ts ++ t ∷ []) next ≡ whole
  stopped t next r e yes_stop =
      let k = turned (placed t next) r e in
      sym (k.2 ∙ ap (after_all ts) (cond-true (is_stop t.lexeme) _ _ yes_stop) ∙ after_all-run ts (t ∷ []) next)

  pub faulty : (n byte : ℕ) → Running whole marked valid ts at direct minus → bad_at n byte ≡ placed_at marked at direct minus valid → run_fault n byte ≡ whole
  faulty n byte r e =
      let k = turned (bad_at n byte) r e in
      sym (k.2 ∙ after_all-fault ts n byte)

  pub out_of_text : Running whole marked valid ts at direct minus → none_left ≡ placed_at marked at direct minus valid → after_all ts ended ≡ whole
  out_of_text r e = let k = turned none_left r e in sym k.2

pub none_read : (ts : List CodeToken) → length ts ≡ 0 → ended ≡ after_all (tokens_view ts) ended
none_read [] h = refl
none_read (t ∷ ts) h = absurd (omega arith)

pub some_read : (ts : List CodeToken) (t : CodeToken) → (length ts ≡ 0 → ⊥) → cut_short (get_or ts 0 t).byte ≡ after_all (tokens_view ts) ended
some_read [] t h = absurd (h refl)
some_read (u ∷ ts) t h = sym (after_all-first (token_view u) (tokens_view ts))

pub gives_at : (r : Result (Option PlacedRun) TokenFault) (a b : Run) → a ≡ b → RunGives r a → RunGives r b
gives_at r a b e h = subst (RunGives r) e h
