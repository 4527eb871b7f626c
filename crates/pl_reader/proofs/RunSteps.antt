-- The tokens of a run, one after another.
use Rattle.std.proofs.Common.{◌≡◌, ℕ, zero, suc, ◌+◌, ◌-◌, ◌<◌, ◌≤◌, List, [], ◌∷◌, ◌++◌, length, take, drop, get_or, true, false, Option, Some, None, refl, sym, ap, ◌∙◌, subst, arith, drop-cons, length-drop}
use Rattle.std.proofs.lemmas.List.{get_or_default}
use Rattle.std.proofs.Math.Numerals.{add-one}
use Rattle.pl_ops.specs.Tables.{Operators}
use Rattle.text_model.specs.Tokens.{stop, Token as ModelToken}
use Rattle.text_model.specs.Grammar.{Parse, Item}
use Rattle.text_model.specs.Reading.{items_of, at_operand, at_operator, numbered, Numbered, peek, peek_second, relabelled}
use Rattle.pl_tokens.specs.declared.token.TokenKind.{TokenKind}
use Rattle.pl_tokens.specs.declared.token.TokenKind.TheVariants.{Name, Quoted, Var, Int, Codes, Punct, End}
use Rattle.pl_tokens.specs.declared.token.Token.{Token}
use Rattle.pl_tokens.specs.Views.{kind_view, token_view, tokens_view}
use Rattle.pl_reader.specs.Runs.{last_of, before_last, body_of, end_of, HasEnd}
use Rattle.pl_atoms.specs.Names.{IsFront}
use Rattle.pl_terms.specs.declared.cell.Cell.{Cell}
use Rattle.pl_reader.specs.Machine.{parsed}
use Rattle.pl_reader.specs.Moves.{KindIs, TokenIs, place_of}
use Rattle.pl_reader.specs.Standing.{AreNames, Steps, Finishes}
use Rattle.pl_reader.specs.Numbering.{Met, met, met_after, lexeme_at, numbered_from, IsPaired}
use Rattle.pl_reader.specs.Reads.{Goes, Follows, Agrees, AreKnown, IsKnown, HasGrammar, run_parse, bound, Found}
use Rattle.pl_reader.proofs.TokenSteps.{numbered-step, lost}
use Rattle.pl_reader.proofs.Tables.{front_itself, front_then, agrees_before, all_known_after, all_known_more, are_names, grammar_after}
use Rattle.pl_reader.specs.declared.variables.Variables.{Variables}
use Rattle.pl_reader.specs.declared.machine.GrammarNames.{GrammarNames}
use Rattle.pl_reader.specs.declared.machine.Entry.{Entry}
use Rattle.pl_reader.specs.declared.machine.Context.{Context}
use Rattle.pl_reader.specs.declared.machine.Stepped.TheVariants.{Fails, ToOperand}
use Rattle.pl_reader.specs.declared.tokens_taken.ReadState.{ReadState}

drop-none : (n : ℕ) → ◌≡◌ {A = List Token} (drop n []) []
drop-none zero = refl
drop-none (suc n) = refl

drop-before : (n : ℕ) (run : List Token) → drop n (before_last run) ≡ before_last (drop n run)
drop-before zero run = refl
drop-before (suc n) [] = refl
drop-before (suc n) (t ∷ []) = sym (ap before_last (drop-none n))
drop-before (suc n) (t ∷ u ∷ ts) = drop-before n (u ∷ ts)

last_of-drop : (n : ℕ) (run : List Token) → n < length run → last_of (drop n run) ≡ last_of run
last_of-drop zero run h = refl
last_of-drop (suc n) [] h = absurd (omega arith)
last_of-drop (suc n) (t ∷ []) h = absurd (omega arith)
last_of-drop (suc n) (t ∷ u ∷ ts) h = last_of-drop n (u ∷ ts) (omega arith)

length-before : (run : List Token) → length (before_last run) ≡ length run - 1
length-before [] = refl
length-before (t ∷ []) = refl
length-before (t ∷ u ∷ ts) = ap suc (length-before (u ∷ ts)) ∙ omega arith

drop-map : (n : ℕ) (ts : List Token) → drop n (tokens_view ts) ≡ tokens_view (drop n ts)
drop-map zero ts = refl
drop-map (suc n) [] = refl
drop-map (suc n) (t ∷ ts) = drop-map n ts

length-view : (ts : List Token) → length (tokens_view ts) ≡ length ts
length-view [] = refl
length-view (t ∷ ts) = ap suc (length-view ts)

take-more : (n : ℕ) (xs ys : List (ModelToken (List ℕ))) (x : ModelToken (List ℕ)) → drop n xs ≡ x ∷ ys → take (n + 1) xs ≡ take n xs ++ x ∷ []
take-more n xs ys x h = rw add-one (go n xs h)
  where
    go : (n : ℕ) (xs : List (ModelToken (List ℕ))) → drop n xs ≡ x ∷ ys → take (suc n) xs ≡ take n xs ++ x ∷ []
    go zero [] h = absurd (cc)
    go zero (y ∷ zs) h = first h
      where
        first : y ∷ zs ≡ x ∷ ys → y ∷ take 0 zs ≡ x ∷ []
        first h = let e : y ≡ x = cc in ap (λ u. u ∷ []) e
    go (suc n) [] h = absurd (cc)
    go (suc n) (y ∷ zs) h = ap (λ l. y ∷ l) (go n zs h)

abbrev pub second : Token → List Token → Token
second y [] = y
second y (w ∷ ws) = w

same_kind : (m : Met) (k : TokenKind) → KindIs k (lexeme_at m (kind_view k))
same_kind m (Name s) = refl
same_kind m (Quoted s) = refl
same_kind m (Var s) = tt
same_kind m (Int n) = refl
same_kind m (Codes s) = refl
same_kind m (Punct c) = refl
same_kind m End = tt

same_token : (m : Met) (t : Token) → TokenIs t (relabelled (token_view t) (lexeme_at m (kind_view t.kind)))
same_token m t = record { kind_is = same_kind m t.kind; direct_is = refl }

module _ (look : Operators) (last : Token) (ends : last.kind ≡ End) where
  abbrev following : ModelToken ℕ
  following = record { lexeme = stop; byte = last.byte; direct = last.direct }

  last_is : (t : Token) → t ≡ last → TokenIs t following
  last_is t e =
      let P : Token → Type 0 = λ x. TokenIs x following in
      let K : TokenKind → Type 0 = λ k. KindIs k stop in
      subst P (sym e) (record { kind_is = subst K (sym ends) tt; direct_is = refl })

  peek_is : (m : Met) (y : Token) (zs : List Token) → last_of (y ∷ zs) ≡ last → TokenIs y (peek look (numbered_from m (tokens_view (before_last (y ∷ zs)))).tokens following)
  peek_is m y [] e = last_is y e
  peek_is m y (w ∷ ws) e =
      let P : Numbered → Type 0 = λ r. TokenIs y (peek look r.tokens following) in
      subst P (sym (numbered-step m (token_view y) (tokens_view (before_last (w ∷ ws))))) (same_token m y)

  second_is : (m : Met) (y : Token) (zs : List Token) (z : Token) → last_of (y ∷ zs) ≡ last → z ≡ second y zs → TokenIs z (peek_second look (numbered_from m (tokens_view (before_last (y ∷ zs)))).tokens following)
  second_is m y [] z e k = last_is z (k ∙ e)
  second_is m y (w ∷ ws) z e k =
      let P : Numbered → Type 0 = λ r. TokenIs w (peek_second look r.tokens following) in
      let Q : Token → Type 0 = λ x. TokenIs x (peek_second look (numbered_from m (tokens_view (before_last (y ∷ w ∷ ws)))).tokens following) in
      subst Q (sym k) (subst P (sym (numbered-step m (token_view y) (tokens_view (before_last (w ∷ ws))))) (peek_is (met_after m (kind_view y.kind)) w ws e))

-- where a token of a run stands
pub record At (run : List Token) (at : ℕ) (x y z : Token) : Type 0 where
  pub rest : List Token
  pub are : drop at run ≡ x ∷ y ∷ rest
  pub second_are : z ≡ second y rest

pub at_place : (run : List Token) (at : ℕ) (x y z : Token) → at + 1 < length run → x ≡ get_or run at x → y ≡ get_or run (at + 1) y → (at + 2 < length run → z ≡ get_or run (at + 2) z) → (length run ≤ at + 2 → z ≡ get_or run (at + 1) z) → At run at x y z
at_place run at x y z h e f g k = record {
  rest = drop (at + 2) run;
  are = opened at x (omega arith) e ∙ ap (λ l. x ∷ l) (opened (at + 1) y h f) ∙ ap (λ n. x ∷ y ∷ drop n run) n;
  second_are = go (drop (at + 2) run) refl;
}
  where
    n : (at + 1) + 1 ≡ at + 2
    n = omega arith

    opened : (i : ℕ) (t : Token) → i < length run → t ≡ get_or run i t → drop i run ≡ t ∷ drop (i + 1) run
    opened i t l s =
        let m : suc i ≡ i + 1 = omega arith in
        drop-cons run i t l ∙ ap (λ u. u ∷ drop (suc i) run) (sym s) ∙ ap (λ j. t ∷ drop j run) m

    go : (l : List Token) → drop (at + 2) run ≡ l → z ≡ second y l
    go [] e2 = k (omega (arith, ap length e2, length-drop (at + 2) run)) ∙ same (at + 1) h ∙ sym f
      where
        same : (i : ℕ) → i < length run → get_or run i z ≡ get_or run i y
        same i l = get_or_default run i z y l
    go (w ∷ ws) e2 =
        let l : at + 2 < length run = omega (arith, ap length e2, length-drop (at + 2) run) in
        head (sym (opened (at + 2) z l (g l)) ∙ e2)
      where
        head : z ∷ drop ((at + 2) + 1) run ≡ w ∷ ws → z ≡ w
        head e3 = cc

-- as far as a run has been read
pub record Going (run : List Token) (look : Operators) (before : List (List ℕ)) (grammar : GrammarNames) (at : ℕ) (state : ReadState) (names : List (List ℕ)) (variables : Variables) (stack : List Entry) (contexts : List Context) (out : List Cell) : Type 0 where
  pub front : IsFront before names
  pub paired : IsPaired variables
  pub known : AreKnown names (take at (body_of run))
  pub same : (numbered_from (met variables) (drop at (body_of run))).names ≡ (numbered [] 0 (body_of run)).names
  pub goes : (num : List ℕ → ℕ) → Agrees num names → Goes num look (end_of run) (run_parse look run) state (numbered_from (met variables) (drop at (body_of run))).tokens stack contexts out

pub start : (run : List Token) (look : Operators) (names : List (List ℕ)) (grammar : GrammarNames) (variables : Variables) (stack : List Entry) (contexts : List Context) (out : List Cell) → IsPaired variables → ◌≡◌ {A = Met} (met variables) (record { names = []; next = 0 }) → stack ≡ [] → contexts ≡ [] → out ≡ [] → Going run look names grammar 0 (record { more = 0; to_operand = true; last = ToOperand }) names variables stack contexts out
start run look names grammar variables stack contexts out p m s c o = record {
  front = front_itself names;
  paired = p;
  known = tt;
  same = ap (λ k. (numbered_from k (body_of run)).names) m;
  goes = λ num a. record {
    onward = parsed;
    same = ap (λ k. bound (items_of look (end_of run) 0 at_operand (numbered_from k (body_of run)).tokens) parsed) (sym m);
    stands = (([], []), λ is. refl, record { before = record { stack_is = s; out_is = o }; contexts_are = c });
  };
}

module _ (run : List Token) (look : Operators) (before : List (List ℕ)) (grammar : GrammarNames) (is_run : HasEnd run) (has : HasGrammar before grammar) where
  -- the body from a token on
  body_at : (at : ℕ) (x y z : Token) (a : At run at x y z) → drop at (body_of run) ≡ token_view x ∷ tokens_view (before_last (y ∷ a.rest))
  body_at at x y z a = drop-map at (before_last run) ∙ ap tokens_view (drop-before at run ∙ ap before_last a.are)

  body_after : (at : ℕ) (x y z : Token) (a : At run at x y z) → drop (at + 1) (body_of run) ≡ tokens_view (before_last (y ∷ a.rest))
  body_after at x y z a = rw add-one (tail at (body_of run) (body_at at x y z a))
    where
      tail : (n : ℕ) (xs : List (ModelToken (List ℕ))) → drop n xs ≡ token_view x ∷ tokens_view (before_last (y ∷ a.rest)) → drop (suc n) xs ≡ tokens_view (before_last (y ∷ a.rest))
      tail zero [] h = absurd (cc)
      tail zero (u ∷ us) h = rest h
        where
          rest : u ∷ us ≡ token_view x ∷ tokens_view (before_last (y ∷ a.rest)) → us ≡ tokens_view (before_last (y ∷ a.rest))
          rest h = cc
      tail (suc n) [] h = absurd (cc)
      tail (suc n) (u ∷ us) h = tail n us h

  last_at : (at : ℕ) (x y z : Token) (a : At run at x y z) → last_of (y ∷ a.rest) ≡ last_of run
  last_at at x y z a =
      let l : at < length run = omega (arith, ap length a.are, length-drop at run) in
      ap last_of (sym a.are) ∙ last_of-drop at run l

  follow : (at : ℕ) (x y z : Token) (a : At run at x y z) → Follows look y z (tokens_view (before_last (y ∷ a.rest))) (end_of run)
  follow at x y z a = record {
    first = λ m. peek_is look (last_of run) is_run.ends m y a.rest (last_at at x y z a);
    second = λ m. second_is look (last_of run) is_run.ends m y a.rest z (last_at at x y z a) a.second_are;
  }

  pub advance : (at : ℕ) (x y z : Token) (state state2 : ReadState) (names names2 : List (List ℕ)) (variables variables2 : Variables) (stack stack2 : List Entry) (contexts contexts2 : List Context) (out out2 : List Cell) → At run at x y z → Going run look before grammar at state names variables stack contexts out
      → ((num : List ℕ → ℕ) (following : ModelToken ℕ) (ts : List (ModelToken (List ℕ))) (whole : Option Parse) → Agrees num names2 → AreNames num grammar → Follows look y z ts following → Goes num look following whole state (numbered_from (met variables) (token_view x ∷ ts)).tokens stack contexts out → Goes num look following whole state2 (numbered_from (met variables2) ts).tokens stack2 contexts2 out2)
      → ◌≡◌ {A = Met} (met variables2) (met_after (met variables) (kind_view x.kind)) → IsPaired variables2 → IsKnown names2 (kind_view x.kind) → IsFront names names2 → Going run look before grammar (at + 1) state2 names2 variables2 stack2 contexts2 out2
  advance at x y z state state2 names names2 variables variables2 stack stack2 contexts contexts2 out out2 a g step now p k f =
      let ts = tokens_view (before_last (y ∷ a.rest)) in
      let here = body_at at x y z a in
      let after = body_after at x y z a in
      let grown = front_then before names names2 g.front f in
      record {
        front = grown;
        paired = p;
        known = subst (AreKnown names2) (sym (take-more at (body_of run) ts (token_view x) here)) (all_known_more names2 (take at (body_of run)) (token_view x) (all_known_after names names2 (take at (body_of run)) f g.known) k);
        same = ap (λ l. (numbered_from (met variables2) l).names) after ∙ ap (λ m. (numbered_from m ts).names) now ∙ sym (ap (λ r. r.names) (numbered-step (met variables) (token_view x) ts)) ∙ ap (λ l. (numbered_from (met variables) l).names) (sym here) ∙ g.same;
        goes = λ num agrees.
            let P : List (ModelToken (List ℕ)) → Type 0 = λ l. Goes num look (end_of run) (run_parse look run) state (numbered_from (met variables) l).tokens stack contexts out in
            let Q : List (ModelToken (List ℕ)) → Type 0 = λ l. Goes num look (end_of run) (run_parse look run) state2 (numbered_from (met variables2) l).tokens stack2 contexts2 out2 in
            let r = step num (end_of run) ts (run_parse look run) agrees (are_names num names2 grammar agrees (grammar_after before names2 grammar grown has)) (follow at x y z a) (subst P here (g.goes num (agrees_before num names names2 f agrees))) in
            subst Q (sym after) r;
      }

  module _ (at : ℕ) (state : ReadState) (names : List (List ℕ)) (variables : Variables) (stack : List Entry) (contexts : List Context) (out : List Cell) (g : Going run look before grammar at state names variables stack contexts out) where
    pub none_going : state.last ≡ Fails → (num : List ℕ → ℕ) → Agrees num names → run_parse look run ≡ None
    none_going e num a = lost num look (end_of run) (run_parse look run) stack contexts out state _ e (g.goes num a)

    module _ (ended : length run - 1 ≤ at) where
      few : length (body_of run) ≤ at
      few = omega (arith, length-view (before_last run), length-before run)

      nothing : drop at (body_of run) ≡ []
      nothing = empty (drop at (body_of run)) (omega (arith, few, length-drop at (body_of run)))
        where
          empty : (l : List (ModelToken (List ℕ))) → length l ≤ 0 → l ≡ []
          empty [] h = refl
          empty (x ∷ xs) h = absurd (omega arith)

      no_items : (n : ℕ) → items_of look (end_of run) n at_operand [] ≡ None
      no_items zero = refl
      no_items (suc n) = refl

      all_items : (n : ℕ) → items_of look (end_of run) n at_operator [] ≡ Some []
      all_items zero = refl
      all_items (suc n) = refl

      at_last : (num : List ℕ → ℕ) (a : Agrees num names) → run_parse look run ≡ bound (items_of look (end_of run) state.more (place_of state.to_operand) []) (g.goes num a).onward
      at_last num a = (g.goes num a).same ∙ ap (λ l. bound (items_of look (end_of run) state.more (place_of state.to_operand) (numbered_from (met variables) l).tokens) (g.goes num a).onward) nothing

      pub wants_operand : state.to_operand ≡ true → (num : List ℕ → ℕ) → Agrees num names → run_parse look run ≡ None
      wants_operand e num a = at_last num a ∙ ap (λ b. bound (items_of look (end_of run) state.more (place_of b) []) (g.goes num a).onward) e ∙ ap (λ x. bound x (g.goes num a).onward) (no_items state.more)

      at_onward : state.to_operand ≡ false → (num : List ℕ → ℕ) (a : Agrees num names) → run_parse look run ≡ (g.goes num a).onward []
      at_onward e num a = at_last num a ∙ ap (λ b. bound (items_of look (end_of run) state.more (place_of b) []) (g.goes num a).onward) e ∙ ap (λ x. bound x (g.goes num a).onward) (all_items state.more)

      pub ends_none : state.to_operand ≡ false → (out2 : List Cell) → ((num : List ℕ → ℕ) (F : List Item → Option Parse) → Steps num F state.last stack contexts out → Finishes num F false out2) → (num : List ℕ → ℕ) → Agrees num names → run_parse look run ≡ None
      ends_none e out2 f num a = at_onward e num a ∙ f num (g.goes num a).onward (g.goes num a).stands

      pub ends_found : state.to_operand ≡ false → (out2 : List Cell) → ((num : List ℕ → ℕ) (F : List Item → Option Parse) → Steps num F state.last stack contexts out → Finishes num F true out2) → (num : List ℕ → ℕ) → Agrees num names → Found num (run_parse look run) out2
      ends_found e out2 f num a = let w = f num (g.goes num a).onward (g.goes num a).stands in (w.0, at_onward e num a ∙ w.1, w.2)

      pub all_known : AreKnown names (body_of run)
      all_known = subst (AreKnown names) (whole at (body_of run) few) g.known
        where
          whole : (n : ℕ) (xs : List (ModelToken (List ℕ))) → length xs ≤ n → take n xs ≡ xs
          whole zero [] h = refl
          whole zero (x ∷ xs) h = absurd (omega arith)
          whole (suc n) [] h = refl
          whole (suc n) (x ∷ xs) h = ap (λ l. x ∷ l) (whole n xs (omega arith))

      pub all_met : (met variables).names ≡ (numbered [] 0 (body_of run)).names
      all_met = ap (λ l. (numbered_from (met variables) l).names) (sym nothing) ∙ g.same
