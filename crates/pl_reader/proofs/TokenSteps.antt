-- What one token does to the reading of a run.
use Rattle.std.proofs.Common.{◌≡◌, ℕ, zero, suc, List, ◌∷◌, Bool, true, false, Option, Some, None, refl, sym, ap, ◌∙◌, subst}
use Rattle.std.specs.Str.{chars}
use Rattle.pl_terms.specs.Trees.{Tree}
use Rattle.pl_ops.specs.Tables.{Operators}
use Rattle.text_model.specs.Tokens.{Lexeme, name, quoted, variable, integer, text_codes, punctuation, stop, Token as ModelToken}
use Rattle.text_model.specs.Grammar.{Parse, Item, operand, list_to, empty_list}
use Rattle.text_model.specs.Reading.{Move, Place, at_operand, at_operator, move, items_of, with_item, peek, peek_second, Numbered, with_token, relabelled, numbered, code_list}
use Rattle.pl_terms.specs.declared.cell.Cell.{Cell}
use Rattle.pl_reader.specs.Standing.{Steps, ItemIs}
use Rattle.pl_reader.specs.Moves.{MoveIs, SymbolIs, place_of}
use Rattle.pl_reader.specs.Numbering.{Met, met_after, lexeme_at, numbered_from, known_number, with_variable}
use Rattle.pl_reader.specs.Reads.{bound, Goes}
use Rattle.pl_reader.specs.declared.machine.Entry.{Entry}
use Rattle.pl_reader.specs.declared.machine.Context.{Context}
use Rattle.pl_reader.specs.declared.machine.Stepped.{Stepped}
use Rattle.pl_reader.specs.declared.machine.Stepped.TheVariants.{Fails}
use Rattle.pl_reader.specs.declared.classes.Symbol.TheVariants.{CodeText}
use Rattle.pl_reader.specs.declared.classes.ItemMove.{ItemMove}
use Rattle.pl_reader.specs.declared.tokens_taken.ReadState.{ReadState}

pub bound-with_item : (look : Operators) (i : Item) (x : Option (List Item)) (F : List Item → Option Parse) → bound (with_item look i x) F ≡ bound x (λ is. F (i ∷ is))
bound-with_item look i None F = refl
bound-with_item look i (Some is) F = refl

pub bound-none : (x : Option (List Item)) → bound x (λ _. None) ≡ None
bound-none None = refl
bound-none (Some is) = refl

bound-lost : (x : Option (List Item)) (F : List Item → Option Parse) → ((is : List Item) → F is ≡ None) → bound x F ≡ None
bound-lost None F h = refl
bound-lost (Some is) F h = h is

module _ (num : List ℕ → ℕ) (look : Operators) (following : ModelToken ℕ) (whole : Option Parse) (stack : List Entry) (contexts : List Context) (out : List Cell) where
  -- there is no term
  pub fails : (s : ReadState) (ts : List (ModelToken ℕ)) → s ≡ record { more = 0; to_operand = false; last = Fails } → whole ≡ None → Goes num look following whole s ts stack contexts out
  fails s ts e h =
      let P : ReadState → Type 0 = λ x. Goes num look following whole x ts stack contexts out in
      subst P (sym e) (record { onward = λ _. None; same = h ∙ sym (bound-none _); stands = λ is. refl })

  pub lost : (s : ReadState) (ts : List (ModelToken ℕ)) → s.last ≡ Fails → Goes num look following whole s ts stack contexts out → whole ≡ None
  lost s ts e g =
      let P : Stepped → Type 0 = λ x. Steps num g.onward x stack contexts out in
      g.same ∙ bound-lost _ g.onward (subst P e g.stands)

  pub passed : (s r : ReadState) (t : ModelToken ℕ) (ts : List (ModelToken ℕ)) → s.more ≡ suc r.more → r.to_operand ≡ s.to_operand → r.last ≡ s.last → Goes num look following whole s (t ∷ ts) stack contexts out → Goes num look following whole r ts stack contexts out
  passed s r t ts m p l g =
      let P : Stepped → Type 0 = λ x. Steps num g.onward x stack contexts out in
      record {
        onward = g.onward;
        same = g.same ∙ ap (λ n. bound (items_of look following n (place_of s.to_operand) (t ∷ ts)) g.onward) m ∙ step (place_of s.to_operand) ∙ ap (λ b. bound (items_of look following r.more (place_of b) ts) g.onward) (sym p);
        stands = subst P (sym l) g.stands;
      }
    where
      step : (p : Place) → bound (items_of look following (suc r.more) p (t ∷ ts)) g.onward ≡ bound (items_of look following r.more p ts) g.onward
      step at_operand = refl
      step at_operator = refl

module _ (num : List ℕ → ℕ) (look : Operators) (following : ModelToken ℕ) (whole : Option Parse) where
  abbrev pub after_move : List (ModelToken ℕ) → Option Move → Option (List Item)
  after_move ts m = elim m [ None ↦ None | Some k ↦ with_item look k.item (items_of look following k.more k.place ts) ]

  zero-items : (p : Place) (t : ModelToken ℕ) (ts : List (ModelToken ℕ)) → items_of look following 0 p (t ∷ ts) ≡ after_move ts (move look p t (peek look ts following) (peek_second look ts following))
  zero-items at_operand t ts = refl
  zero-items at_operator t ts = refl

  pub begins : (s : ReadState) (t : ModelToken ℕ) (ts : List (ModelToken ℕ)) (stack : List Entry) (contexts : List Context) (out : List Cell) → s.more ≡ 0 → (g : Goes num look following whole s (t ∷ ts) stack contexts out) → whole ≡ bound (after_move ts (move look (place_of s.to_operand) t (peek look ts following) (peek_second look ts following))) g.onward
  begins s t ts stack contexts out z g =
      g.same ∙ ap (λ n. bound (items_of look following n (place_of s.to_operand) (t ∷ ts)) g.onward) z ∙ ap (λ x. bound x g.onward) (zero-items (place_of s.to_operand) t ts)

  no_move : (m : Option Move) (ts : List (ModelToken ℕ)) (F : List Item → Option Parse) → MoveIs num None m → whole ≡ bound (after_move ts m) F → whole ≡ None
  no_move None ts F h e = e
  no_move (Some m) ts F h e = absurd h

  pub refused : (s r : ReadState) (t : ModelToken ℕ) (ts : List (ModelToken ℕ)) (stack : List Entry) (contexts : List Context) (out : List Cell) → s.more ≡ 0 → MoveIs num None (move look (place_of s.to_operand) t (peek look ts following) (peek_second look ts following)) → r ≡ record { more = 0; to_operand = false; last = Fails } → Goes num look following whole s (t ∷ ts) stack contexts out → Goes num look following whole r ts stack contexts out
  refused s r t ts stack contexts out z h e g =
      fails num look following whole stack contexts out r ts e (no_move _ ts g.onward h (begins s t ts stack contexts out z g))

  some_move : (x : ItemMove) (r : Stepped) (m : Option Move) (ts : List (ModelToken ℕ)) (F : List Item → Option Parse) (stack : List Entry) (contexts : List Context) (out : List Cell) → MoveIs num (Some x) m → whole ≡ bound (after_move ts m) F → ((i : Item) → ItemIs num x.item i → Steps num (λ is. F (i ∷ is)) r stack contexts out) → Goes num look following whole (record { more = x.more; to_operand = x.to_operand; last = r }) ts stack contexts out
  some_move x r None ts F stack contexts out h e step = absurd h
  some_move x r (Some m) ts F stack contexts out h e step = record {
    onward = λ is. F (m.item ∷ is);
    same = e ∙ bound-with_item look m.item (items_of look following m.more m.place ts) F
        ∙ ap (λ n. bound (items_of look following n m.place ts) (λ is. F (m.item ∷ is))) (sym h.1)
        ∙ ap (λ p. bound (items_of look following x.more p ts) (λ is. F (m.item ∷ is))) (sym h.2);
    stands = step m.item h.0;
  }

  pub moved : (s : ReadState) (x : ItemMove) (r : Stepped) (t : ModelToken ℕ) (ts : List (ModelToken ℕ)) (stack stack2 : List Entry) (contexts contexts2 : List Context) (out out2 : List Cell) → s.more ≡ 0 → MoveIs num (Some x) (move look (place_of s.to_operand) t (peek look ts following) (peek_second look ts following)) → ((F : List Item → Option Parse) (i : Item) → ItemIs num x.item i → Steps num F s.last stack contexts out → Steps num (λ is. F (i ∷ is)) r stack2 contexts2 out2) → Goes num look following whole s (t ∷ ts) stack contexts out → Goes num look following whole (record { more = x.more; to_operand = x.to_operand; last = r }) ts stack2 contexts2 out2
  moved s x r t ts stack stack2 contexts contexts2 out out2 z h step g =
      some_move x r _ ts g.onward stack2 contexts2 out2 h (begins s t ts stack contexts out z g) (λ i k. step g.onward i k g.stands)

  -- a text of codes
  abbrev code_tree : List ℕ → Tree (List ℕ)
  code_tree s = list_to (code_list look (chars s)) empty_list

  text_onward : (text : List ℕ) (l : Lexeme ℕ) (byte : ℕ) (direct : Bool) (ts : List (ModelToken ℕ)) (F : List Item → Option Parse) → SymbolIs num CodeText text l → whole ≡ bound (after_move ts (move look at_operand (record { lexeme = l; byte = byte; direct = direct }) (peek look ts following) (peek_second look ts following))) F → whole ≡ bound (items_of look following 0 at_operator ts) (λ is. F (operand (code_tree text) ∷ is))
  text_onward text (text_codes s) byte direct ts F h e =
      e ∙ bound-with_item look (operand (code_tree s)) (items_of look following 0 at_operator ts) F ∙ ap (λ x. bound (items_of look following 0 at_operator ts) (λ is. F (operand (code_tree x) ∷ is))) (sym h)
  text_onward text _ byte direct ts F h e = absurd h

  text_nowhere : (text : List ℕ) (l : Lexeme ℕ) (byte : ℕ) (direct : Bool) (ts : List (ModelToken ℕ)) (F : List Item → Option Parse) → SymbolIs num CodeText text l → whole ≡ bound (after_move ts (move look at_operator (record { lexeme = l; byte = byte; direct = direct }) (peek look ts following) (peek_second look ts following))) F → whole ≡ None
  text_nowhere text (text_codes s) byte direct ts F h e = e
  text_nowhere text _ byte direct ts F h e = absurd h

  pub text_taken : (s : ReadState) (r : Stepped) (text : List ℕ) (t : ModelToken ℕ) (ts : List (ModelToken ℕ)) (stack : List Entry) (contexts : List Context) (out out2 : List Cell) → s.more ≡ 0 → s.to_operand ≡ true → SymbolIs num CodeText text t.lexeme → ((F : List Item → Option Parse) → Steps num F s.last stack contexts out → Steps num (λ is. F (operand (code_tree text) ∷ is)) r stack contexts out2) → Goes num look following whole s (t ∷ ts) stack contexts out → Goes num look following whole (record { more = 0; to_operand = false; last = r }) ts stack contexts out2
  text_taken s r text t ts stack contexts out out2 z p h step g =
      let e = begins s t ts stack contexts out z g ∙ ap (λ b. bound (after_move ts (move look (place_of b) t (peek look ts following) (peek_second look ts following))) g.onward) p in
      record {
        onward = λ is. g.onward (operand (code_tree text) ∷ is);
        same = text_onward text t.lexeme t.byte t.direct ts g.onward h e;
        stands = step g.onward g.stands;
      }

  pub text_refused : (s r : ReadState) (text : List ℕ) (t : ModelToken ℕ) (ts : List (ModelToken ℕ)) (stack : List Entry) (contexts : List Context) (out : List Cell) → s.more ≡ 0 → s.to_operand ≡ false → SymbolIs num CodeText text t.lexeme → r ≡ record { more = 0; to_operand = false; last = Fails } → Goes num look following whole s (t ∷ ts) stack contexts out → Goes num look following whole r ts stack contexts out
  text_refused s r text t ts stack contexts out z p h d g =
      let e = begins s t ts stack contexts out z g ∙ ap (λ b. bound (after_move ts (move look (place_of b) t (peek look ts following) (peek_second look ts following))) g.onward) p in
      fails num look following whole stack contexts out r ts d (text_nowhere text t.lexeme t.byte t.direct ts g.onward h e)

-- one token with its variable's number
numbered_step : (m : Met) (l : Lexeme (List ℕ)) (byte : ℕ) (direct : Bool) (ts : List (ModelToken (List ℕ))) → numbered_from m (record { lexeme = l; byte = byte; direct = direct } ∷ ts) ≡ with_token (record { lexeme = lexeme_at m l; byte = byte; direct = direct }) (numbered_from (met_after m l) ts)
numbered_step m (name s) byte direct ts = refl
numbered_step m (quoted s) byte direct ts = refl
numbered_step m (integer n) byte direct ts = refl
numbered_step m (text_codes s) byte direct ts = refl
numbered_step m (punctuation c) byte direct ts = refl
numbered_step m stop byte direct ts = refl
numbered_step m (variable s) byte direct ts = go (known_number m s)
  where
    label : ℕ → ModelToken ℕ
    label n = record { lexeme = variable n; byte = byte; direct = direct }

    go : (o : Option ℕ) → (elim o as (λ _. Numbered) [
      | Some n ↦ with_token (label n) (numbered_from m ts)
      | None ↦ with_token (label m.next) (numbered_from (with_variable m s) ts)
    ]) ≡ with_token (label (Rattle.std.specs.Option.unwrap_or o m.next)) (numbered_from (elim o as (λ _. Met) [ Some n ↦ m | None ↦ with_variable m s ]) ts)
    go None = refl
    go (Some n) = refl

pub numbered-step : (m : Met) (t : ModelToken (List ℕ)) (ts : List (ModelToken (List ℕ))) → numbered_from m (t ∷ ts) ≡ with_token (relabelled t (lexeme_at m t.lexeme)) (numbered_from (met_after m t.lexeme) ts)
numbered-step m t ts = numbered_step m t.lexeme t.byte t.direct ts
