-- The innermost bracket, and what a comma, a bar and a closing bracket do there.
use Rattle.std.proofs.Common.{◌≡◌, ℕ, zero, suc, ◌+◌, ◌-◌, ◌≤◌, ◌<◌, List, [], ◌∷◌, ◌++◌, length, take, Bool, true, false, Option, Some, None, refl, sym, ap, ◌∙◌, arith, subst, append_assoc, append-nil, length-append}
use Rattle.pl_terms.specs.Trees.{Tree, Trees, nil, cons, count}
use Rattle.text_model.specs.Grammar.{Parse, meaning, one, all_meaning, list_to, empty_list, arity, comma_op, argument_priority, grouped, braced, called, listed, listed_to, Bracket, round, curly, square}
use Rattle.pl_reader.specs.Machine.{waits_conjoined, close, close_all, closed_left, within, after_comma, after_bar, waits_right, when, built, call_of, closing, next_argument, next_tail, Frame, Open, in_round, in_curly, in_arguments, in_tail, Head, of_call, of_list, Context as Opened, with_front}
use Rattle.pl_reader.specs.Stands.{id, behind, all_behind, output, outputs}
use Rattle.pl_reader.specs.Standing.{context_of, contexts_of, innermost, base, base_out, open_out, done_out, entries, NextArgument, NextTail, StandsBefore, StandsWhole, Joins, GoesOn, EndsWhole, Makes, dots, Brackets, bracketed, ends_bracket, greatest_inside, AreNames, ClosesBracket, after_bracket, closed_in}
use Rattle.pl_reader.specs.declared.machine.Entry.TheVariants.{Mark}
use Rattle.pl_atoms.specs.declared.names.NameId.{NameId}
use Rattle.pl_terms.specs.declared.cell.Cell.{Cell}
use Rattle.pl_terms.specs.declared.cell.Cell.TheVariants.{Name, Comp}
use Rattle.pl_reader.specs.declared.machine.GrammarNames.{GrammarNames}
use Rattle.std.proofs.lemmas.Bool.{le-leb, lt-leb}
use Rattle.pl_reader.specs.declared.machine.Entry.{Entry}
use Rattle.pl_reader.specs.declared.machine.Context.{Context}
use Rattle.pl_reader.specs.declared.machine.Context.TheVariants.{Round, Curly, Call, List as Listed, Tail}

module _ (num : List ℕ → ℕ) where
  length-more : (done : List Parse) (e : Parse) → length (done ++ e ∷ []) ≡ length done + 1
  length-more done e = omega (arith, length-append done (e ∷ []))

  pub inner_list_tail : (cs : List Opened) (n : ℕ) → Some (Listed n) ≡ innermost num cs → NextTail num cs (Tail n)
  inner_list_tail [] n h = absurd (cc)
  inner_list_tail (c ∷ cs) n h = go c.0 h
    where
      go : (o : Open) → Some (Listed n) ≡ Some (context_of num o) → NextTail num ((o, c.1) ∷ cs) (Tail n)
      go in_round h = absurd (cc)
      go in_curly h = absurd (cc)
      go (in_arguments (of_call s) done) h = absurd (cc)
      go (in_arguments of_list done) h = let e : n ≡ length done = cc in record { done = done; saved = c.1; outer = cs; are = refl; grown = λ d. ap Tail (sym e) }
      go (in_tail done last) h = absurd (cc)

  pub inner_list : (cs : List Opened) (n m : ℕ) → Some (Listed n) ≡ innermost num cs → m ≡ n + 1 → NextArgument num cs (Listed m)
  inner_list [] n m h k = absurd (cc)
  inner_list (c ∷ cs) n m h k = go c.0 h
    where
      go : (o : Open) → Some (Listed n) ≡ Some (context_of num o) → NextArgument num ((o, c.1) ∷ cs) (Listed m)
      go in_round h = absurd (cc)
      go in_curly h = absurd (cc)
      go (in_arguments (of_call s) done) h = absurd (cc)
      go (in_arguments of_list done) h = let e : n ≡ length done = cc in record { head = of_list; done = done; saved = c.1; outer = cs; are = refl; grown = λ d. ap Listed (length-more done d ∙ ap (λ x. x + 1) (sym e) ∙ sym k) }
      go (in_tail done last) h = absurd (cc)

  pub inner_call : (cs : List Opened) (name : NameId) (n m : ℕ) → Some (Call name n) ≡ innermost num cs → m ≡ n + 1 → NextArgument num cs (Call name m)
  inner_call [] name n m h k = absurd (cc)
  inner_call (c ∷ cs) name n m h k = go c.0 h
    where
      go : (o : Open) → Some (Call name n) ≡ Some (context_of num o) → NextArgument num ((o, c.1) ∷ cs) (Call name m)
      go in_round h = absurd (cc)
      go in_curly h = absurd (cc)
      go (in_arguments (of_call s) done) h =
          let e : n ≡ length done = cc in
          let f : name ≡ id num s = cc in
          record { head = of_call s; done = done; saved = c.1; outer = cs; are = refl; grown = λ d. ap (Call (id num s)) (length-more done d ∙ ap (λ x. x + 1) (sym e) ∙ sym k) ∙ ap (λ x. Call x m) (sym f) }
      go (in_arguments of_list done) h = absurd (cc)
      go (in_tail done last) h = absurd (cc)

  pub done_out-more : (es : List Parse) (e : Parse) → done_out num (es ++ e ∷ []) ≡ done_out num es ++ output num e
  done_out-more [] e = append-nil (output num e)
  done_out-more (d ∷ es) e = ap (λ l. output num d ++ l) (done_out-more es e) ∙ sym (append_assoc (output num d) (done_out num es) (output num e))

  -- one argument more
  pub argument_more : (head : Head) (done : List Parse) (saved : List Frame) (outer : List Opened) (q : Parse) (stack : List Entry) (out : List Cell) → StandsWhole num ((in_arguments head done, saved) ∷ outer) q stack out → StandsBefore num ((in_arguments head (done ++ q ∷ []), saved) ∷ outer) [] stack out
  argument_more head done saved outer q stack out h = record {
    stack_is = h.stack_is ∙ sym (append-nil _);
    out_is = h.out_is ∙ append_assoc (base_out num outer ++ outputs num saved) (done_out num done) (output num q) ∙ ap (λ l. (base_out num outer ++ outputs num saved) ++ l) (sym (done_out-more done q)) ∙ sym (append-nil _);
  }

  -- the tail after the last item
  pub tail_begins : (done : List Parse) (saved : List Frame) (outer : List Opened) (q : Parse) (stack : List Entry) (out : List Cell) → StandsWhole num ((in_arguments of_list done, saved) ∷ outer) q stack out → StandsBefore num ((in_tail done q, saved) ∷ outer) [] stack out
  tail_begins done saved outer q stack out h = record {
    stack_is = h.stack_is ∙ sym (append-nil _);
    out_is = h.out_is ∙ append_assoc (base_out num outer ++ outputs num saved) (done_out num done) (output num q) ∙ sym (append-nil _);
  }

  take-but_last : {A : Type 0} (xs : List A) (y : A) → take (length (xs ++ y ∷ []) - 1) (xs ++ y ∷ []) ≡ xs
  take-but_last {A = A} xs y =
      let n : length (xs ++ y ∷ []) - 1 ≡ length xs = omega (arith, length-append xs (y ∷ [])) in
      ap (λ k. take k (xs ++ y ∷ [])) n ∙ front xs
    where
      front : (zs : List A) → take (length zs) (zs ++ y ∷ []) ≡ zs
      front [] = refl
      front (z ∷ zs) = ap (λ l. z ∷ l) (front zs)

  pub contexts-outer : (contexts : List Context) (c : Opened) (cs : List Opened) → contexts ≡ contexts_of num (c ∷ cs) → take (length contexts - 1) contexts ≡ contexts_of num cs
  contexts-outer contexts c cs h = ap (λ l. take (length l - 1) l) h ∙ take-but_last (contexts_of num cs) (context_of num c.0)

  contexts-replaced : (contexts new : List Context) (c : Opened) (cs : List Opened) (o : Open) (context : Context) → contexts ≡ contexts_of num (c ∷ cs) → new ≡ take (length contexts - 1) contexts ++ context ∷ [] → context_of num o ≡ context → new ≡ contexts_of num ((o, c.1) ∷ cs)
  contexts-replaced contexts new c cs o context h e k = e ∙ ap (λ l. l ++ context ∷ []) (contexts-outer contexts c cs h) ∙ ap (λ x. contexts_of num cs ++ x ∷ []) (sym k)

  pub comma_argument : (cs : List Opened) (fs : List Frame) (e : Parse) (context : Context) (stack : List Entry) (contexts new : List Context) (out : List Cell) → NextArgument num cs context → EndsWhole num argument_priority cs fs e true stack out → contexts ≡ contexts_of num cs → new ≡ take (length contexts - 1) contexts ++ context ∷ [] → GoesOn num (after_comma cs fs e) true stack new out
  comma_argument cs fs e context stack contexts new out n w h k =
      let c : Opened = (in_arguments n.head n.done, n.saved) in
      let q = w.0 in
      let whole : StandsWhole num (c ∷ n.outer) q stack out = subst (λ l. StandsWhole num l q stack out) n.are w.2 in (
        ((in_arguments n.head (n.done ++ q ∷ []), n.saved) ∷ n.outer, []),
        ap (λ l. after_comma l fs e) n.are ∙ ap (next_argument n.head n.done n.saved n.outer) w.1,
        record {
          before = argument_more n.head n.done n.saved n.outer q stack out whole;
          contexts_are = contexts-replaced contexts new c n.outer (in_arguments n.head (n.done ++ q ∷ [])) context (subst (λ l. contexts ≡ contexts_of num l) n.are h) k (n.grown q);
        },
      )

  pub comma_refused : (cs : List Opened) (fs : List Frame) (e : Parse) (context : Context) → NextArgument num cs context → within argument_priority (close_all fs e) ≡ None → after_comma cs fs e ≡ None
  comma_refused cs fs e context n w = ap (λ l. after_comma l fs e) n.are ∙ ap (next_argument n.head n.done n.saved n.outer) w

  pub bar_tail : (cs : List Opened) (fs : List Frame) (e : Parse) (context : Context) (stack : List Entry) (contexts new : List Context) (out : List Cell) → NextTail num cs context → EndsWhole num argument_priority cs fs e true stack out → contexts ≡ contexts_of num cs → new ≡ take (length contexts - 1) contexts ++ context ∷ [] → GoesOn num (after_bar cs fs e) true stack new out
  bar_tail cs fs e context stack contexts new out n w h k =
      let c : Opened = (in_arguments of_list n.done, n.saved) in
      let q = w.0 in
      let whole : StandsWhole num (c ∷ n.outer) q stack out = subst (λ l. StandsWhole num l q stack out) n.are w.2 in (
        ((in_tail n.done q, n.saved) ∷ n.outer, []),
        ap (λ l. after_bar l fs e) n.are ∙ ap (next_tail n.done n.saved n.outer) w.1,
        record {
          before = tail_begins n.done n.saved n.outer q stack out whole;
          contexts_are = contexts-replaced contexts new c n.outer (in_tail n.done q) context (subst (λ l. contexts ≡ contexts_of num l) n.are h) k (n.grown q);
        },
      )

  pub bar_refused : (cs : List Opened) (fs : List Frame) (e : Parse) (context : Context) → NextTail num cs context → within argument_priority (close_all fs e) ≡ None → after_bar cs fs e ≡ None
  bar_refused cs fs e context n w = ap (λ l. after_bar l fs e) n.are ∙ ap (next_tail n.done n.saved n.outer) w

  pub conjoins : (name : NameId) → name ≡ id num (Rattle.std.specs.Prelude.codes ",") → Makes num comma_op name waits_conjoined
  conjoins name h = record { entry_is = λ e. ap (λ n. Rattle.pl_reader.specs.declared.machine.Entry.TheVariants.Waits comma_op n 2) (sym h); left_is = λ e. refl }

  pub comma_joins : (r : Bool) (cs : List Opened) (fs : List Frame) (e : Parse) (stack : List Entry) (contexts : List Context) (out : List Cell) → after_comma cs fs e ≡ waits_right cs (closed_left comma_op (close comma_op.priority fs e)) → contexts ≡ contexts_of num cs → Joins num comma_op waits_conjoined cs fs e r stack out → GoesOn num (after_comma cs fs e) r stack contexts out
  comma_joins false cs fs e stack contexts out same h j = same ∙ ap (waits_right cs) j
  comma_joins true cs fs e stack contexts out same h j = ((cs, waits_conjoined j.0.1 ∷ j.0.0), same ∙ ap (waits_right cs) j.1, record { before = j.2; contexts_are = h })

  -- what stands behind the terms in brackets
  all-with_front : (done : List Parse) (e : Parse) → all_behind num (all_meaning (with_front done (one e))) ≡ done_out num done ++ output num e
  all-with_front [] e = append-nil (output num e)
  all-with_front (d ∷ done) e = ap (λ l. output num d ++ l) (all-with_front done e) ∙ sym (append_assoc (output num d) (done_out num done) (output num e))

  count-with_front : (done : List Parse) (e : Parse) → count (all_meaning (with_front done (one e))) ≡ suc (length done)
  count-with_front [] e = refl
  count-with_front (d ∷ done) e = ap suc (count-with_front done e)

  arity-with_front : (done : List Parse) (e : Parse) → arity (with_front done (one e)) ≡ suc (length done)
  arity-with_front [] e = refl
  arity-with_front (d ∷ done) e = ap suc (arity-with_front done e)

  pub dots-more : (d : NameId) (n : ℕ) → dots d n ++ Comp d 2 ∷ [] ≡ dots d (suc n)
  dots-more d zero = refl
  dots-more d (suc n) = ap (λ l. Comp d 2 ∷ l) (dots-more d n)

  pub list-out : (us : Trees (List ℕ)) (t : Tree (List ℕ)) → behind num (list_to us t) ≡ all_behind num us ++ (behind num t ++ dots (id num (Rattle.std.specs.Prelude.codes ".")) (count us))
  list-out nil t = sym (append-nil (behind num t))
  list-out (cons u us) t =
      let d = id num (Rattle.std.specs.Prelude.codes ".") in
      ap (λ l. (behind num u ++ (l ++ [])) ++ Comp d 2 ∷ []) (list-out us t)
      ∙ regroup (behind num u) (all_behind num us) (behind num t) (dots d (count us)) (Comp d 2 ∷ [])
      ∙ ap (λ l. (behind num u ++ all_behind num us) ++ (behind num t ++ l)) (dots-more d (count us))
    where
      regroup : (a b c e f : List Cell) → (a ++ ((b ++ (c ++ e)) ++ [])) ++ f ≡ (a ++ b) ++ (c ++ (e ++ f))
      regroup a b c e f = simp (append_assoc, append-nil)

  pub bracket_round : (o : Open) (q : Parse) (b out : List Cell) → Round ≡ context_of num o → out ≡ b ++ (open_out num o ++ output num q) → Brackets num o q b true out
  bracket_round in_round q b out k h = (grouped q, refl, h, refl, refl)
  bracket_round in_curly q b out k h = absurd (cc)
  bracket_round (in_arguments (of_call s) done) q b out k h = absurd (cc)
  bracket_round (in_arguments of_list done) q b out k h = absurd (cc)
  bracket_round (in_tail done last) q b out k h = absurd (cc)

  pub bracket_curly : (o : Open) (q : Parse) (b out new : List Cell) (curl : NameId) → Curly ≡ context_of num o → out ≡ b ++ (open_out num o ++ output num q) → curl ≡ id num (Rattle.std.specs.Prelude.codes "{}") → new ≡ out ++ Comp curl 1 ∷ [] → Brackets num o q b true new
  bracket_curly in_round q b out new curl k h n e = absurd (cc)
  bracket_curly in_curly q b out new curl k h n e = (braced q, refl, e ∙ ap (λ l. l ++ Comp curl 1 ∷ []) h ∙ ap (λ x. (b ++ output num q) ++ Comp x 1 ∷ []) n ∙ regroup b (output num q) (Comp (id num (Rattle.std.specs.Prelude.codes "{}")) 1 ∷ []), refl, refl)
    where
      regroup : (a c d : List Cell) → (a ++ c) ++ d ≡ a ++ ((c ++ []) ++ d)
      regroup a c d = simp (append_assoc, append-nil)
  bracket_curly (in_arguments (of_call s) done) q b out new curl k h n e = absurd (cc)
  bracket_curly (in_arguments of_list done) q b out new curl k h n e = absurd (cc)
  bracket_curly (in_tail done last) q b out new curl k h n e = absurd (cc)

  pub bracket_call : (o : Open) (q : Parse) (b out new : List Cell) (name : NameId) (n : ℕ) → Call name n ≡ context_of num o → out ≡ b ++ (open_out num o ++ output num q) → n < 255 → new ≡ out ++ Comp name (n + 1) ∷ [] → Brackets num o q b true new
  bracket_call in_round q b out new name n k h l e = absurd (cc)
  bracket_call in_curly q b out new name n k h l e = absurd (cc)
  bracket_call (in_arguments (of_call s) done) q b out new name n k h l e =
      let m : n ≡ length done = cc in
      let i : name ≡ id num s = cc in
      let few : arity (with_front done (one q)) ≤ 255 = omega (arith, arity-with_front done q) in
      let same : n + 1 ≡ count (all_meaning (with_front done (one q))) = omega (arith, count-with_front done q) in (
        called s (with_front done (one q)),
        ap (λ t. when t (Some (called s (with_front done (one q))))) (le-leb (arity (with_front done (one q))) 255 few),
        e ∙ ap (λ x. x ++ Comp name (n + 1) ∷ []) h ∙ append_assoc b (done_out num done ++ output num q) (Comp name (n + 1) ∷ [])
            ∙ ap (λ x. b ++ (x ++ Comp name (n + 1) ∷ [])) (sym (all-with_front done q))
            ∙ ap (λ x. b ++ (all_behind num (all_meaning (with_front done (one q))) ++ Comp x (n + 1) ∷ [])) i
            ∙ ap (λ x. b ++ (all_behind num (all_meaning (with_front done (one q))) ++ Comp (id num s) x ∷ [])) same,
        refl,
        refl,
      )
  bracket_call (in_arguments of_list done) q b out new name n k h l e = absurd (cc)
  bracket_call (in_tail done last) q b out new name n k h l e = absurd (cc)

  pub bracket_call_full : (o : Open) (q : Parse) (name : NameId) (n : ℕ) → Call name n ≡ context_of num o → 255 ≤ n → bracketed o q ≡ None
  bracket_call_full in_round q name n k l = absurd (cc)
  bracket_call_full in_curly q name n k l = absurd (cc)
  bracket_call_full (in_arguments (of_call s) done) q name n k l =
      let m : n ≡ length done = cc in
      let many : 255 < arity (with_front done (one q)) = omega (arith, arity-with_front done q) in
      ap (λ t. when t (Some (called s (with_front done (one q))))) (lt-leb (arity (with_front done (one q))) 255 many)
  bracket_call_full (in_arguments of_list done) q name n k l = absurd (cc)
  bracket_call_full (in_tail done last) q name n k l = absurd (cc)

  list-cells : (b : List Cell) (us : Trees (List ℕ)) (t : Tree (List ℕ)) (dot : NameId) (n : ℕ) → dot ≡ id num (Rattle.std.specs.Prelude.codes ".") → suc n ≡ count us → ((b ++ (all_behind num us ++ behind num t)) ++ dots dot n) ++ Comp dot 2 ∷ [] ≡ b ++ behind num (list_to us t)
  list-cells b us t dot n d e =
      regroup b (all_behind num us) (behind num t) (dots dot n) (Comp dot 2 ∷ [])
      ∙ ap (λ l. b ++ (all_behind num us ++ (behind num t ++ l))) (dots-more dot n ∙ ap (dots dot) e)
      ∙ ap (λ x. b ++ (all_behind num us ++ (behind num t ++ dots x (count us)))) d
      ∙ ap (λ l. b ++ l) (sym (list-out us t))
    where
      regroup : (a c f g h : List Cell) → ((a ++ (c ++ f)) ++ g) ++ h ≡ a ++ (c ++ (f ++ (g ++ h)))
      regroup a c f g h = simp append_assoc

  pub bracket_list : (o : Open) (q : Parse) (b out one_out dots_out new : List Cell) (names : GrammarNames) (n : ℕ) → Listed n ≡ context_of num o → out ≡ b ++ (open_out num o ++ output num q) → AreNames num names → one_out ≡ out ++ Name names.nil ∷ [] → dots_out ≡ one_out ++ dots names.dot n → new ≡ dots_out ++ Comp names.dot 2 ∷ [] → Brackets num o q b true new
  bracket_list in_round q b out one_out dots_out new names n k h are e f g = absurd (cc)
  bracket_list in_curly q b out one_out dots_out new names n k h are e f g = absurd (cc)
  bracket_list (in_arguments (of_call s) done) q b out one_out dots_out new names n k h are e f g = absurd (cc)
  bracket_list (in_arguments of_list done) q b out one_out dots_out new names n k h are e f g =
      let m : n ≡ length done = cc in
      let us = all_meaning (with_front done (one q)) in
      let same : suc n ≡ count us = omega (arith, count-with_front done q) in (
        listed (with_front done (one q)),
        refl,
        g ∙ ap (λ l. l ++ Comp names.dot 2 ∷ []) (f ∙ ap (λ l. l ++ dots names.dot n) (e ∙ ap (λ l. l ++ Name names.nil ∷ []) h ∙ append_assoc b (done_out num done ++ output num q) (Name names.nil ∷ []) ∙ ap (λ l. b ++ (l ++ Name names.nil ∷ [])) (sym (all-with_front done q)) ∙ ap (λ x. b ++ (all_behind num us ++ Name x ∷ [])) are.nil_is))
            ∙ list-cells b us empty_list names.dot n are.dot_is same,
        refl,
        refl,
      )
  bracket_list (in_tail done last) q b out one_out dots_out new names n k h are e f g = absurd (cc)

  pub bracket_tail : (o : Open) (q : Parse) (b out dots_out new : List Cell) (names : GrammarNames) (n : ℕ) → Tail n ≡ context_of num o → out ≡ b ++ (open_out num o ++ output num q) → AreNames num names → dots_out ≡ out ++ dots names.dot n → new ≡ dots_out ++ Comp names.dot 2 ∷ [] → Brackets num o q b true new
  bracket_tail in_round q b out dots_out new names n k h are f g = absurd (cc)
  bracket_tail in_curly q b out dots_out new names n k h are f g = absurd (cc)
  bracket_tail (in_arguments (of_call s) done) q b out dots_out new names n k h are f g = absurd (cc)
  bracket_tail (in_arguments of_list done) q b out dots_out new names n k h are f g = absurd (cc)
  bracket_tail (in_tail done last) q b out dots_out new names n k h are f g =
      let m : n ≡ length done = cc in
      let us = all_meaning (with_front done (one last)) in
      let same : suc n ≡ count us = omega (arith, count-with_front done last) in (
        listed_to (with_front done (one last)) q,
        refl,
        g ∙ ap (λ l. l ++ Comp names.dot 2 ∷ []) (f ∙ ap (λ l. l ++ dots names.dot n) (h ∙ ap (λ l. b ++ (l ++ output num q)) (sym (all-with_front done last))))
            ∙ list-cells b us (meaning q) names.dot n are.dot_is same,
        refl,
        refl,
      )

  -- closing brackets
  pub closing-wrong : (k : Bracket) (o : Open) (r : Option Parse) → ends_bracket k o ≡ false → closing k o r ≡ None
  closing-wrong round in_round r h = absurd (cc)
  closing-wrong round in_curly r h = refl
  closing-wrong round (in_arguments (of_call s) done) r h = absurd (cc)
  closing-wrong round (in_arguments of_list done) r h = refl
  closing-wrong round (in_tail done last) r h = refl
  closing-wrong curly in_round r h = refl
  closing-wrong curly in_curly r h = absurd (cc)
  closing-wrong curly (in_arguments g done) r h = refl
  closing-wrong curly (in_tail done last) r h = refl
  closing-wrong square in_round r h = refl
  closing-wrong square in_curly r h = refl
  closing-wrong square (in_arguments (of_call s) done) r h = refl
  closing-wrong square (in_arguments of_list done) r h = absurd (cc)
  closing-wrong square (in_tail done last) r h = absurd (cc)

  abbrev after_within : Open → Option Parse → Option Parse
  after_within o None = None
  after_within o (Some q) = bracketed o q

  closing-is : (k : Bracket) (o : Open) (r : Option Parse) → ends_bracket k o ≡ true → (w : Option Parse) → within (greatest_inside o) r ≡ w → closing k o r ≡ after_within o w
  closing-is round in_round r h None e = ap (built grouped) e
  closing-is round in_round r h (Some q) e = ap (built grouped) e
  closing-is round in_curly r h w e = absurd (cc)
  closing-is round (in_arguments (of_call s) done) r h None e = ap (call_of s done) e
  closing-is round (in_arguments (of_call s) done) r h (Some q) e = ap (call_of s done) e
  closing-is round (in_arguments of_list done) r h w e = absurd (cc)
  closing-is round (in_tail done last) r h w e = absurd (cc)
  closing-is curly in_round r h w e = absurd (cc)
  closing-is curly in_curly r h None e = ap (built braced) e
  closing-is curly in_curly r h (Some q) e = ap (built braced) e
  closing-is curly (in_arguments g done) r h w e = absurd (cc)
  closing-is curly (in_tail done last) r h w e = absurd (cc)
  closing-is square in_round r h w e = absurd (cc)
  closing-is square in_curly r h w e = absurd (cc)
  closing-is square (in_arguments (of_call s) done) r h w e = absurd (cc)
  closing-is square (in_arguments of_list done) r h None e = ap (built (λ x. listed (with_front done (one x)))) e
  closing-is square (in_arguments of_list done) r h (Some q) e = ap (built (λ x. listed (with_front done (one x)))) e
  closing-is square (in_tail done last) r h None e = ap (built (λ x. listed_to (with_front done (one last)) x)) e
  closing-is square (in_tail done last) r h (Some q) e = ap (built (λ x. listed_to (with_front done (one last)) x)) e

  pub closing-some : (k : Bracket) (o : Open) (r : Option Parse) (q : Parse) → ends_bracket k o ≡ true → within (greatest_inside o) r ≡ Some q → closing k o r ≡ bracketed o q
  closing-some k o r q h e = closing-is k o r h (Some q) e

  pub closing-none : (k : Bracket) (o : Open) (r : Option Parse) → ends_bracket k o ≡ true → within (greatest_inside o) r ≡ None → closing k o r ≡ None
  closing-none k o r h e = closing-is k o r h None e

  pub bracket_closed : (k : Bracket) (cs : List Opened) (fs : List Frame) (e : Parse) (context : Context) (greatest : ℕ) (stack stack2 : List Entry) (contexts contexts2 : List Context) (out out2 : List Cell) → Some context ≡ innermost num cs → ((o : Open) → context ≡ context_of num o → true ≡ ends_bracket k o) → ((o : Open) → context ≡ context_of num o → greatest ≡ greatest_inside o) → EndsWhole num greatest cs fs e true stack out → ((o : Open) (q : Parse) (b : List Cell) → context ≡ context_of num o → out ≡ b ++ (open_out num o ++ output num q) → Brackets num o q b true out2) → contexts ≡ contexts_of num cs → stack2 ≡ take (length stack - 1) stack → contexts2 ≡ take (length contexts - 1) contexts → ClosesBracket num (after_bracket k cs fs e) true stack2 contexts2 out2
  bracket_closed k [] fs e context greatest stack stack2 contexts contexts2 out out2 inner right max w made h s t = absurd (cc)
  bracket_closed k (c ∷ cs) fs e context greatest stack stack2 contexts contexts2 out out2 inner right max w made h s t =
      let is : context ≡ context_of num c.0 = cc in
      let inside : within (greatest_inside c.0) (close_all fs e) ≡ Some w.0 = ap (λ m. within m (close_all fs e)) (sym (max c.0 is)) ∙ w.1 in
      let b : List Cell = base_out num cs ++ outputs num c.1 in
      let x = made c.0 w.0 b is (w.2.out_is ∙ append_assoc b (open_out num c.0) (output num w.0)) in (
        (cs, c.1, x.0),
        ap (closed_in cs c.1) (closing-some k c.0 (close_all fs e) w.0 (sym (right c.0 is)) inside ∙ x.1),
        t ∙ contexts-outer contexts c cs h,
        record {
          stack_is = s ∙ ap (λ l. take (length l - 1) l) w.2.stack_is ∙ take-but_last (base num cs ++ entries num c.1) Mark;
          out_is = x.2;
          priority_is = sym x.3;
          weight_is = sym x.4;
        },
      )
