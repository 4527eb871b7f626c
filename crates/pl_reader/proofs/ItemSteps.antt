-- What each item does to the parser and to the machine.
use Rattle.std.proofs.Common.{◌≡◌, ℕ, List, [], ◌∷◌, ◌++◌, Bool, true, false, Option, Some, None, refl, sym, ap, ◌∙◌, subst, append_assoc, append-nil, if◌then◌else◌}
use Rattle.pl_ops.specs.declared.op.Op.{Op as Operator}
use Rattle.text_model.specs.Grammar.{Parse, leaf, postfixed, Bracket, round, curly, square, Item, operand, before, between, after, comma, bar, calls, opens, closes}
use Rattle.pl_reader.specs.Machine.{run, Frame, waits_prefix, waits_joined, close, closed_left, Open, in_arguments, of_call, opening, Context as Opened, after_comma, after_bar}
use Rattle.pl_reader.specs.Stands.{id, outputs}
use Rattle.pl_reader.specs.Standing.{entries, context_of, contexts_of, base, base_out, open_out, StandsOpen, Joins, EndsTerm, GoesOn, ClosesBracket, after_bracket, closed_in, Makes, ItemIs, Steps, bracket_of}
use Rattle.pl_atoms.specs.declared.names.NameId.{NameId}
use Rattle.pl_terms.specs.declared.cell.Cell.{Cell}
use Rattle.pl_reader.specs.declared.machine.Entry.{Entry}
use Rattle.pl_reader.specs.declared.machine.Entry.TheVariants.{Waits, Mark}
use Rattle.pl_reader.specs.declared.machine.Context.{Context}
use Rattle.pl_reader.specs.declared.machine.Context.TheVariants.{Call}
use Rattle.pl_reader.specs.declared.machine.BracketKind.{BracketKind}
use Rattle.pl_reader.specs.declared.machine.LastTerm.{LastTerm}
use Rattle.pl_reader.specs.declared.machine.Stepped.{Stepped}
use Rattle.pl_reader.specs.declared.machine.Stepped.TheVariants.{Fails, ToOperand, ToOperator}
use Rattle.pl_reader.specs.declared.machine.ParseItem.{ParseItem}
use Rattle.pl_reader.specs.declared.machine.ParseItem.TheVariants.{Operand, Before, Between, After, Comma, Bar, Calls, Opens, Closes}

module _ (num : List ℕ → ℕ) where
  -- an item that may not stand where a term is to come, or after one
  abbrev pub begins : ParseItem → Bool
  begins (Operand c) = true
  begins (Before o n) = true
  begins (Calls n) = true
  begins (Opens b) = true
  begins (Between o n) = false
  begins (After o n) = false
  begins Comma = false
  begins Bar = false
  begins (Closes b) = false

  abbrev first_of : Item → Bool
  first_of (operand t) = true
  first_of (before o s) = true
  first_of (calls s) = true
  first_of (opens b) = true
  first_of (between o s) = false
  first_of (after o s) = false
  first_of comma = false
  first_of bar = false
  first_of (closes b) = false

  same_kind : (x : ParseItem) (i : Item) → ItemIs num x i → begins x ≡ first_of i
  same_kind (Operand c) (operand t) h = refl
  same_kind (Before o n) (before p s) h = refl
  same_kind (Between o n) (between p s) h = refl
  same_kind (After o n) (after p s) h = refl
  same_kind Comma comma h = refl
  same_kind Bar bar h = refl
  same_kind (Calls n) (calls s) h = refl
  same_kind (Opens b) (opens c) h = refl
  same_kind (Closes b) (closes c) h = refl
  same_kind _ _ h = absurd h

  no_operand : (i : Item) (cs : List Opened) (fs : List Frame) (is : List Item) → first_of i ≡ false → run cs fs None (i ∷ is) ≡ None
  no_operand (operand t) cs fs is h = absurd (cc)
  no_operand (before o s) cs fs is h = absurd (cc)
  no_operand (calls s) cs fs is h = absurd (cc)
  no_operand (opens b) cs fs is h = absurd (cc)
  no_operand (between o s) cs fs is h = refl
  no_operand (after o s) cs fs is h = refl
  no_operand comma cs fs is h = refl
  no_operand bar cs fs is h = refl
  no_operand (closes b) cs fs is h = refl

  no_operator : (i : Item) (cs : List Opened) (fs : List Frame) (e : Parse) (is : List Item) → first_of i ≡ true → run cs fs (Some e) (i ∷ is) ≡ None
  no_operator (operand t) cs fs e is h = refl
  no_operator (before o s) cs fs e is h = refl
  no_operator (calls s) cs fs e is h = refl
  no_operator (opens b) cs fs e is h = refl
  no_operator (between o s) cs fs e is h = absurd (cc)
  no_operator (after o s) cs fs e is h = absurd (cc)
  no_operator comma cs fs e is h = absurd (cc)
  no_operator bar cs fs e is h = absurd (cc)
  no_operator (closes b) cs fs e is h = absurd (cc)

  pub late : (y x : ParseItem) (i : Item) (cs : List Opened) (fs : List Frame) → y ≡ x → begins x ≡ false → ItemIs num y i → (is : List Item) → run cs fs None (i ∷ is) ≡ None
  late y x i cs fs k h g is = no_operand i cs fs is (sym (same_kind y i g) ∙ ap begins k ∙ h)

  pub early : (y x : ParseItem) (i : Item) (cs : List Opened) (fs : List Frame) (e : Parse) → y ≡ x → begins x ≡ true → ItemIs num y i → (is : List Item) → run cs fs (Some e) (i ∷ is) ≡ None
  early y x i cs fs e k h g is = no_operator i cs fs e is (sym (same_kind y i g) ∙ ap begins k ∙ h)

  pub step_operand : (c : Cell) (i : Item) (cs : List Opened) (fs : List Frame) (stack : List Entry) (contexts : List Context) (out new : List Cell) → ItemIs num (Operand c) i → StandsOpen num cs fs stack contexts out → new ≡ out ++ c ∷ [] → Steps num (λ is. run cs fs None (i ∷ is)) (ToOperator (record { priority = 0; weight = 0 })) stack contexts new
  step_operand c (operand t) cs fs stack contexts out new h s e = (
    (cs, fs, leaf t),
    λ is. refl,
    s.contexts_are,
    record {
      stack_is = s.before.stack_is;
      out_is = e ∙ ap (λ l. l ++ c ∷ []) s.before.out_is ∙ ap (λ l. (base_out num cs ++ outputs num fs) ++ l) (sym h);
      priority_is = refl;
      weight_is = refl;
    },
  )
  step_operand c _ cs fs stack contexts out new h s e = absurd h

  pub step_before : (o : Operator) (n : NameId) (i : Item) (cs : List Opened) (fs : List Frame) (stack new : List Entry) (contexts : List Context) (out : List Cell) → ItemIs num (Before o n) i → StandsOpen num cs fs stack contexts out → new ≡ stack ++ Waits o n 1 ∷ [] → Steps num (λ is. run cs fs None (i ∷ is)) ToOperand new contexts out
  step_before o n (before p w) cs fs stack new contexts out h s e = (
    (cs, waits_prefix p w ∷ fs),
    λ is. refl,
    record {
      before = record {
        stack_is = e ∙ ap (λ l. l ++ Waits o n 1 ∷ []) s.before.stack_is ∙ append_assoc (base num cs) (entries num fs) (Waits o n 1 ∷ [])
            ∙ ap (λ x. base num cs ++ (entries num fs ++ Waits x n 1 ∷ [])) h.0 ∙ ap (λ x. base num cs ++ (entries num fs ++ Waits p x 1 ∷ [])) h.1;
        out_is = s.before.out_is ∙ ap (λ l. base_out num cs ++ l) (sym (append-nil (outputs num fs)));
      };
      contexts_are = s.contexts_are;
    },
  )
  step_before o n _ cs fs stack new contexts out h s e = absurd h

  opened : (o : Open) (cs : List Opened) (fs : List Frame) (stack new : List Entry) (contexts grown : List Context) (context : Context) (out : List Cell) → open_out num o ≡ [] → context ≡ context_of num o → StandsOpen num cs fs stack contexts out → new ≡ stack ++ Mark ∷ [] → grown ≡ contexts ++ context ∷ [] → StandsOpen num ((o, fs) ∷ cs) [] new grown out
  opened o cs fs stack new contexts grown context out none is s e g = record {
    before = record {
      stack_is = e ∙ ap (λ l. l ++ Mark ∷ []) s.before.stack_is ∙ sym (append-nil _);
      out_is = s.before.out_is ∙ sym (append-nil _) ∙ ap (λ l. (base_out num cs ++ outputs num fs) ++ l) (sym none) ∙ sym (append-nil _);
    };
    contexts_are = g ∙ ap (λ l. l ++ context ∷ []) s.contexts_are ∙ ap (λ x. contexts_of num cs ++ x ∷ []) is;
  }

  pub step_calls : (n : NameId) (i : Item) (cs : List Opened) (fs : List Frame) (stack new : List Entry) (contexts grown : List Context) (out : List Cell) → ItemIs num (Calls n) i → StandsOpen num cs fs stack contexts out → new ≡ stack ++ Mark ∷ [] → grown ≡ contexts ++ Call n 0 ∷ [] → Steps num (λ is. run cs fs None (i ∷ is)) ToOperand new grown out
  step_calls n (calls w) cs fs stack new contexts grown out h s e g = (
    ((in_arguments (of_call w) [], fs) ∷ cs, []),
    λ is. refl,
    opened (in_arguments (of_call w) []) cs fs stack new contexts grown (Call n 0) out refl (ap (λ x. Call x 0) h) s e g,
  )
  step_calls n _ cs fs stack new contexts grown out h s e g = absurd h

  opening-empty : (b : Bracket) → open_out num (opening b) ≡ []
  opening-empty round = refl
  opening-empty curly = refl
  opening-empty square = refl

  pub step_opens : (b : BracketKind) (context : Context) (i : Item) (cs : List Opened) (fs : List Frame) (stack new : List Entry) (contexts grown : List Context) (out : List Cell) → ItemIs num (Opens b) i → context ≡ context_of num (opening (bracket_of b)) → StandsOpen num cs fs stack contexts out → new ≡ stack ++ Mark ∷ [] → grown ≡ contexts ++ context ∷ [] → Steps num (λ is. run cs fs None (i ∷ is)) ToOperand new grown out
  step_opens b context (opens k) cs fs stack new contexts grown out h is s e g = (
    ((opening k, fs) ∷ cs, []),
    λ is2. refl,
    opened (opening k) cs fs stack new contexts grown context out (opening-empty k) (is ∙ ap (λ x. context_of num (opening x)) h) s e g,
  )
  step_opens b context _ cs fs stack new contexts grown out h is s e g = absurd h

  abbrev pub stepped_on : Bool → Stepped
  stepped_on r = if r then ToOperand else Fails

  after_join : Option (List Frame × Parse) → List Opened → Operator → List ℕ → List Item → Option Parse
  after_join r cs o s is = elim r [ None ↦ None | Some p ↦ run cs (waits_joined p.1 o s ∷ p.0) None is ]

  pub step_between : (o : Operator) (n : NameId) (i : Item) (cs : List Opened) (fs : List Frame) (e : Parse) (r : Bool) (stack : List Entry) (contexts : List Context) (out : List Cell) → ItemIs num (Between o n) i → contexts ≡ contexts_of num cs → ((frame : Parse → Frame) → Makes num o n frame → Joins num o frame cs fs e r stack out) → Steps num (λ is. run cs fs (Some e) (i ∷ is)) (stepped_on r) stack contexts out
  step_between o n (between p w) cs fs e r stack contexts out h k j = go r (j (λ l. waits_joined l p w) (record { entry_is = λ d. ap (λ x. Waits x (id num w) 2) (sym h.0) ∙ ap (λ x. Waits o x 2) (sym h.1); left_is = λ d. refl }))
    where
      go : (r : Bool) → Joins num o (λ l. waits_joined l p w) cs fs e r stack out → Steps num (λ is. run cs fs (Some e) (between p w ∷ is)) (stepped_on r) stack contexts out
      go false j = λ is. ap (λ x. elim (closed_left x (close x.priority fs e)) as (λ _. Option Parse) [ None ↦ None | Some q ↦ run cs (waits_joined q.1 p w ∷ q.0) None is ]) (sym h.0) ∙ ap (λ x. elim x as (λ _. Option Parse) [ None ↦ None | Some q ↦ run cs (waits_joined q.1 p w ∷ q.0) None is ]) j
      go true j = (
        (cs, waits_joined j.0.1 p w ∷ j.0.0),
        λ is. ap (λ x. elim (closed_left x (close x.priority fs e)) as (λ _. Option Parse) [ None ↦ None | Some q ↦ run cs (waits_joined q.1 p w ∷ q.0) None is ]) (sym h.0) ∙ ap (λ x. elim x as (λ _. Option Parse) [ None ↦ None | Some q ↦ run cs (waits_joined q.1 p w ∷ q.0) None is ]) j.1,
        record { before = j.2; contexts_are = k },
      )
  step_between o n _ cs fs e r stack contexts out h k j = absurd h

  pub step_after : (o : Operator) (n : NameId) (i : Item) (cs : List Opened) (fs : List Frame) (e : Parse) (top : LastTerm) (stack : List Entry) (contexts : List Context) (out : List Cell) → ItemIs num (After o n) i → contexts ≡ contexts_of num cs → ((s : List ℕ) → n ≡ id num s → EndsTerm num o s cs fs e (Some top) stack out) → Steps num (λ is. run cs fs (Some e) (i ∷ is)) (ToOperator top) stack contexts out
  step_after o n (after p w) cs fs e top stack contexts out h k j =
      let t = j w h.1 in (
        (cs, t.0.0, postfixed t.0.1 o w),
        λ is. ap (λ x. elim (closed_left x (close x.priority fs e)) as (λ _. Option Parse) [ None ↦ None | Some q ↦ run cs q.0 (Some (postfixed q.1 x w)) is ]) (sym h.0) ∙ ap (λ x. elim x as (λ _. Option Parse) [ None ↦ None | Some q ↦ run cs q.0 (Some (postfixed q.1 o w)) is ]) t.1,
        k,
        t.2,
      )
  step_after o n _ cs fs e top stack contexts out h k j = absurd h

  pub step_after_fails : (o : Operator) (n : NameId) (i : Item) (cs : List Opened) (fs : List Frame) (e : Parse) → ItemIs num (After o n) i → closed_left o (close o.priority fs e) ≡ None → (is : List Item) → run cs fs (Some e) (i ∷ is) ≡ None
  step_after_fails o n (after p w) cs fs e h j = λ is. ap (λ x. elim (closed_left x (close x.priority fs e)) as (λ _. Option Parse) [ None ↦ None | Some q ↦ run cs q.0 (Some (postfixed q.1 x w)) is ]) (sym h.0) ∙ ap (λ x. elim x as (λ _. Option Parse) [ None ↦ None | Some q ↦ run cs q.0 (Some (postfixed q.1 o w)) is ]) j
  step_after_fails o n _ cs fs e h j = absurd h

  pub none_ended : (o : Operator) (n : NameId) (i : Item) (cs : List Opened) (fs : List Frame) (e : Parse) (r : Option LastTerm) (stack : List Entry) (out : List Cell) → ItemIs num (After o n) i → r ≡ None → ((s : List ℕ) → n ≡ id num s → EndsTerm num o s cs fs e r stack out) → closed_left o (close o.priority fs e) ≡ None
  none_ended o n (after p w) cs fs e r stack out h k j = let P : Option LastTerm → Type 0 = λ x. EndsTerm num o w cs fs e x stack out in subst P k (j w h.1)
  none_ended o n _ cs fs e r stack out h k j = absurd h

  goes_on : (F : List Item → Option Parse) (m : Option (List Opened × List Frame)) (r : Bool) (stack : List Entry) (contexts : List Context) (out : List Cell) → ((is : List Item) → F is ≡ elim m as (λ _. Option Parse) [ None ↦ None | Some p ↦ run p.0 p.1 None is ]) → GoesOn num m r stack contexts out → Steps num F (stepped_on r) stack contexts out
  goes_on F m false stack contexts out same g = λ is. same is ∙ ap (λ x. elim x as (λ _. Option Parse) [ None ↦ None | Some p ↦ run p.0 p.1 None is ]) g
  goes_on F m true stack contexts out same g = (g.0, λ is. same is ∙ ap (λ x. elim x as (λ _. Option Parse) [ None ↦ None | Some p ↦ run p.0 p.1 None is ]) g.1, g.2)

  pub step_comma : (i : Item) (cs : List Opened) (fs : List Frame) (e : Parse) (r : Bool) (stack : List Entry) (contexts : List Context) (out : List Cell) → ItemIs num Comma i → GoesOn num (after_comma cs fs e) r stack contexts out → Steps num (λ is. run cs fs (Some e) (i ∷ is)) (stepped_on r) stack contexts out
  step_comma comma cs fs e r stack contexts out h g = goes_on _ (after_comma cs fs e) r stack contexts out (λ is. refl) g
  step_comma _ cs fs e r stack contexts out h g = absurd h

  pub step_bar : (i : Item) (cs : List Opened) (fs : List Frame) (e : Parse) (r : Bool) (stack : List Entry) (contexts : List Context) (out : List Cell) → ItemIs num Bar i → GoesOn num (after_bar cs fs e) r stack contexts out → Steps num (λ is. run cs fs (Some e) (i ∷ is)) (stepped_on r) stack contexts out
  step_bar bar cs fs e r stack contexts out h g = goes_on _ (after_bar cs fs e) r stack contexts out (λ is. refl) g
  step_bar _ cs fs e r stack contexts out h g = absurd h

  abbrev after_closed : Option (List Opened × List Frame × Parse) → List Item → Option Parse
  after_closed m is = elim m as (λ _. Option Parse) [ None ↦ None | Some p ↦ run p.0 p.1 (Some p.2) is ]

  closed-run : (k : Bracket) (cs : List Opened) (fs : List Frame) (e : Parse) (is : List Item) → run cs fs (Some e) (closes k ∷ is) ≡ after_closed (after_bracket k cs fs e) is
  closed-run k [] fs e is = refl
  closed-run k (c ∷ cs) fs e is = go (Rattle.pl_reader.specs.Machine.closing k c.0 (Rattle.pl_reader.specs.Machine.close_all fs e))
    where
      go : (x : Option Parse) → (elim x as (λ _. Option Parse) [ None ↦ None | Some y ↦ run cs c.1 (Some y) is ]) ≡ after_closed (closed_in cs c.1 x) is
      go None = refl
      go (Some y) = refl

  pub step_closes : (b : BracketKind) (i : Item) (cs : List Opened) (fs : List Frame) (e : Parse) (stack : List Entry) (contexts : List Context) (out : List Cell) → ItemIs num (Closes b) i → ClosesBracket num (after_bracket (bracket_of b) cs fs e) true stack contexts out → Steps num (λ is. run cs fs (Some e) (i ∷ is)) (ToOperator (record { priority = 0; weight = 0 })) stack contexts out
  step_closes b (closes k) cs fs e stack contexts out h g = (g.0, λ is. closed-run k cs fs e is ∙ ap (λ x. after_closed (after_bracket x cs fs e) is) (sym h) ∙ ap (λ m. after_closed m is) g.1, g.2, g.3)
  step_closes b _ cs fs e stack contexts out h g = absurd h

  pub step_closes_fails : (b : BracketKind) (i : Item) (cs : List Opened) (fs : List Frame) (e : Parse) → ItemIs num (Closes b) i → after_bracket (bracket_of b) cs fs e ≡ None → (is : List Item) → run cs fs (Some e) (i ∷ is) ≡ None
  step_closes_fails b (closes k) cs fs e h g = λ is. closed-run k cs fs e is ∙ ap (λ x. after_closed (after_bracket x cs fs e) is) (sym h) ∙ ap (λ m. after_closed m is) g
  step_closes_fails b _ cs fs e h g = absurd h
