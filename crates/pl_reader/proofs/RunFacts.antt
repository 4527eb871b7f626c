-- What reading takes of a run.
use Rattle.std.proofs.Common.{◌≡◌, ℕ, zero, suc, ◌+◌, ◌<◌, List, [], ◌∷◌, ◌++◌, length, get_or, true, refl, ap, ◌∙◌, subst, arith, length-append}
use Rattle.text_model.specs.Tokens.{is_stop, Token as ModelToken}
use Rattle.pl_tokens.specs.declared.token.TokenKind.{TokenKind}
use Rattle.pl_tokens.specs.declared.token.TokenKind.TheVariants.{Name, Quoted, Var, Int, Codes, Punct, End}
use Rattle.pl_tokens.specs.declared.token.Token.{Token}
use Rattle.pl_tokens.specs.Views.{kind_view, token_view, tokens_view}
use Rattle.pl_tokens.specs.Facts.{IsLexeme, IsTokenBetween}
use Rattle.pl_reader.specs.Runs.{IsRead, IsSmall, last_of, HasEnd}

is_end : (k : TokenKind) → is_stop (kind_view k) ≡ true → k ≡ End
is_end (Name s) h = absurd (cc)
is_end (Quoted s) h = absurd (cc)
is_end (Var s) h = absurd (cc)
is_end (Int n) h = absurd (cc)
is_end (Codes s) h = absurd (cc)
is_end (Punct c) h = absurd (cc)
is_end End h = refl

is_small : (k : TokenKind) → IsLexeme (kind_view k) → IsSmall k
is_small (Name s) h = tt
is_small (Quoted s) h = tt
is_small (Var s) h = tt
is_small (Int n) h = h
is_small (Codes s) h = tt
is_small (Punct c) h = tt
is_small End h = tt

-- the last token is the end
ends : (run : List Token) (front : List (ModelToken (List ℕ))) (end : ModelToken (List ℕ)) → tokens_view run ≡ front ++ end ∷ [] → is_stop end.lexeme ≡ true → (0 < length run) × ((last_of run).kind ≡ End)
ends [] front end e h = absurd (omega (arith, ap length e, length-append front (end ∷ [])))
ends (t ∷ []) [] end e h =
    let same : token_view t ≡ end = cc in
    (omega arith, is_end t.kind (ap (λ x. is_stop x.lexeme) same ∙ h))
ends (t ∷ []) (f ∷ fs) end e h = absurd (omega (arith, ap length e, length-append fs (end ∷ [])))
ends (t ∷ u ∷ ts) [] end e h = absurd (omega (arith, ap length e))
ends (t ∷ u ∷ ts) (f ∷ fs) end e h =
    let rest : tokens_view (u ∷ ts) ≡ fs ++ end ∷ [] = cc in
    (omega arith, (ends (u ∷ ts) fs end rest h).1)

at_view : (run : List Token) (k : ℕ) (d : Token) → get_or (tokens_view run) k (token_view d) ≡ token_view (get_or run k d)
at_view [] k d = refl
at_view (t ∷ ts) zero d = refl
at_view (t ∷ ts) (suc k) d = at_view ts k d

length-view : (run : List Token) → length (tokens_view run) ≡ length run
length-view [] = refl
length-view (t ∷ ts) = ap suc (length-view ts)

pub has_end : (run : List Token) → IsRead run → HasEnd run
has_end run r =
    let f = r.2 in
    let e = ends run f.front f.end f.whole f.ended in
    record {
      some = e.0;
      ends = e.1;
      small = λ k d l.
          let P : ModelToken (List ℕ) → Type 0 = λ t. IsTokenBetween r.0 r.1 t in
          is_small (get_or run k d).kind (subst P (at_view run k d) (f.tokens k (token_view d) (omega (arith, length-view run)))).lexeme;
    }
