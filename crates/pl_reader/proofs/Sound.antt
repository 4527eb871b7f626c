-- What the machine reads is a good term of the items.
use Rattle.std.proofs.Common.{◌≡◌, ℕ, ◌*◌, ◌≤◌, List, [], ◌∷◌, ◌++◌, Bool, true, false, Option, Some, None, refl, sym, ap, ◌∙◌, subst, nat_lt, nat_le, append_assoc, append-nil, ◌⊎◌, inl, inr}
use Rattle.std.proofs.lemmas.Bool.{ltb-true, leb-true}
use Rattle.pl_ops.specs.declared.op.Op.{Op as Operator}
use Rattle.text_model.specs.Grammar.{Bracket, round, curly, square, Item, operand, before, between, after, comma, bar, calls, opens, closes, Parse, leaf, grouped, braced, called, listed, listed_to, postfixed, one, comma_op, yield, all_yield, priority, right_weight, left_weight, weight, FitsRight, FitsLeft, IsGood, AreGood, max_priority, argument_priority, max_arity, arity}
use Rattle.pl_reader.specs.Machine.{Frame, waits_prefix, waits_joined, waits_conjoined, op_of, applied, Head, of_call, of_list, Open, in_round, in_curly, in_arguments, in_tail, Context, State, with_front, when, within, built, call_of, close, close_all, closed_left, closing, waits_right, next_argument, next_tail, comma_in, after_comma, bar_in, after_bar, opening, run, parsed}

-- ---- the items that stand before the rest, by what the machine holds

abbrev pub frame_ahead : Frame → List Item → List Item
frame_ahead (waits_prefix o s) rest = before o s ∷ rest
frame_ahead (waits_joined l o s) rest = yield l ++ between o s ∷ rest
frame_ahead (waits_conjoined l) rest = yield l ++ comma ∷ rest

abbrev pub frames_ahead : List Frame → List Item → List Item
frames_ahead [] rest = rest
frames_ahead (f ∷ fs) rest = frames_ahead fs (frame_ahead f rest)

abbrev pub head_ahead : Head → List Item → List Item
head_ahead (of_call s) rest = calls s ∷ rest
head_ahead of_list rest = opens square ∷ rest

abbrev pub done_ahead : List Parse → List Item → List Item
done_ahead [] rest = rest
done_ahead (d ∷ ds) rest = yield d ++ comma ∷ done_ahead ds rest

abbrev pub open_ahead : Open → List Item → List Item
open_ahead in_round rest = opens round ∷ rest
open_ahead in_curly rest = opens curly ∷ rest
open_ahead (in_arguments h done) rest = head_ahead h (done_ahead done rest)
open_ahead (in_tail done last) rest = opens square ∷ done_ahead done (yield last ++ bar ∷ rest)

abbrev pub contexts_ahead : List Context → List Item → List Item
contexts_ahead [] rest = rest
contexts_ahead (c ∷ cs) rest = contexts_ahead cs (frames_ahead c.1 (open_ahead c.0 rest))

abbrev pub operand_ahead : Option Parse → List Item → List Item
operand_ahead None rest = rest
operand_ahead (Some e) rest = yield e ++ rest

abbrev pub ahead : List Context → List Frame → Option Parse → List Item → List Item
ahead cs fs e rest = contexts_ahead cs (frames_ahead fs (operand_ahead e rest))

-- ---- what the machine holds is good

abbrev pub FrameIsGood : Frame → Type 0
FrameIsGood (waits_prefix o s) = Unit {0}
FrameIsGood (waits_joined l o s) = FitsLeft o l × IsGood l
FrameIsGood (waits_conjoined l) = FitsLeft comma_op l × IsGood l

abbrev pub FramesAreGood : List Frame → Type 0
FramesAreGood [] = Unit {0}
FramesAreGood (f ∷ fs) = FrameIsGood f × FramesAreGood fs

abbrev pub AreDone : List Parse → Type 0
AreDone [] = Unit {0}
AreDone (d ∷ ds) = (priority d ≤ argument_priority) × IsGood d × AreDone ds

abbrev pub OpenIsGood : Open → Type 0
OpenIsGood in_round = Unit {0}
OpenIsGood in_curly = Unit {0}
OpenIsGood (in_arguments h done) = AreDone done
OpenIsGood (in_tail done last) = AreDone done × (priority last ≤ argument_priority) × IsGood last

abbrev pub ContextsAreGood : List Context → Type 0
ContextsAreGood [] = Unit {0}
ContextsAreGood (c ∷ cs) = OpenIsGood c.0 × FramesAreGood c.1 × ContextsAreGood cs

abbrev pub OperandIsGood : Option Parse → Type 0
OperandIsGood None = Unit {0}
OperandIsGood (Some e) = IsGood e

-- ---- tools

tested : {A : Type 0} (b : Bool) (o : Option A) (y : A) → when b o ≡ Some y → (b ≡ true) × (o ≡ Some y)
tested true o y h = (refl, h)
tested false o y h = absurd (cc)

split_test : {A : Type 0} (b : Bool) (o p : Option A) (y : A) → (elim b [ true ↦ o | false ↦ p ]) ≡ Some y → ((b ≡ true) × (o ≡ Some y)) ⊎ ((b ≡ false) × (p ≡ Some y))
split_test true o p y h = inl (refl, h)
split_test false o p y h = inr (refl, h)

some-same : {A : Type 0} (x y : A) → Some x ≡ Some y → x ≡ y
some-same x y h = cc

-- ---- frames close

applied-ahead : (f : Frame) (e : Parse) (rest : List Item) → yield (applied f e) ++ rest ≡ frame_ahead f (yield e ++ rest)
applied-ahead (waits_prefix o s) e rest = refl
applied-ahead (waits_joined l o s) e rest = append_assoc (yield l) (between o s ∷ yield e) rest
applied-ahead (waits_conjoined l) e rest = append_assoc (yield l) (comma ∷ yield e) rest

applied-good : (f : Frame) (e : Parse) → FrameIsGood f → FitsRight (op_of f) e → IsGood e → IsGood (applied f e)
applied-good (waits_prefix o s) e g fits good = (fits, good)
applied-good (waits_joined l o s) e g fits good = (g.0, fits, g.1, good)
applied-good (waits_conjoined l) e g fits good = (g.0, fits, g.1, good)

record Closed (fs : List Frame) (e x : Parse) : Type 0 where
  pub spelled : (rest : List Item) → yield x ++ rest ≡ frames_ahead fs (yield e ++ rest)
  pub good : IsGood x

close_all-sound : (fs : List Frame) (e x : Parse) → FramesAreGood fs → IsGood e → close_all fs e ≡ Some x → Closed fs e x
close_all-sound [] e x gs g h = record { spelled = λ rest. ap (λ d. yield d ++ rest) (sym (some-same e x h)); good = subst IsGood (some-same e x h) g }
close_all-sound (f ∷ fs) e x gs g h = elim (split_test (nat_lt (2 * priority e) (right_weight (op_of f))) (close_all fs (applied f e)) None x h) [
  | inl p ↦
      let fits : FitsRight (op_of f) e = record { bound = ltb-true _ _ p.0 } in
      let c = close_all-sound fs (applied f e) x gs.1 (applied-good f e gs.0 fits g) p.1 in
      record { spelled = λ rest. c.spelled rest ∙ ap (frames_ahead fs) (applied-ahead f e rest); good = c.good }
  | inr p ↦ absurd (cc)
]

record Left (fs : List Frame) (e : Parse) (q : List Frame × Parse) : Type 0 where
  pub spelled : (rest : List Item) → frames_ahead q.0 (yield q.1 ++ rest) ≡ frames_ahead fs (yield e ++ rest)
  pub frames : FramesAreGood q.0
  pub good : IsGood q.1

close-sound : (p : ℕ) (fs : List Frame) (e : Parse) (q : List Frame × Parse) → FramesAreGood fs → IsGood e → close p fs e ≡ Some q → Left fs e q
close-sound p [] e q gs g h = subst (Left [] e) (some-same _ q h) (record { spelled = λ rest. refl; frames = tt; good = g })
close-sound p (f ∷ fs) e q gs g h = elim (split_test (nat_le (right_weight (op_of f)) (2 * p)) _ _ q h) [
  | inl t ↦ elim (split_test (nat_lt (2 * priority e) (right_weight (op_of f))) (close p fs (applied f e)) None q t.1) [
    | inl u ↦
        let fits : FitsRight (op_of f) e = record { bound = ltb-true _ _ u.0 } in
        let c = close-sound p fs (applied f e) q gs.1 (applied-good f e gs.0 fits g) u.1 in
        record { spelled = λ rest. c.spelled rest ∙ ap (frames_ahead fs) (applied-ahead f e rest); frames = c.frames; good = c.good }
    | inr u ↦ absurd (cc)
  ]
  | inr t ↦ subst (Left (f ∷ fs) e) (some-same _ q t.1) (record { spelled = λ rest. refl; frames = gs; good = g })
]

record LeftOf (o : Operator) (fs : List Frame) (e : Parse) (q : List Frame × Parse) : Type 0 where
  pub closed : Left fs e q
  pub fits : FitsLeft o q.1

closed_left-sound : (o : Operator) (fs : List Frame) (e : Parse) (r : Option (List Frame × Parse)) (q : List Frame × Parse) → FramesAreGood fs → IsGood e → close o.priority fs e ≡ r → closed_left o r ≡ Some q → LeftOf o fs e q
closed_left-sound o fs e None q gs g was h = absurd (cc)
closed_left-sound o fs e (Some p) q gs g was h =
    let t = tested (nat_lt (weight p.1) (left_weight o)) (Some p) q h in
    subst (LeftOf o fs e) (some-same p q t.1) (record { closed = close-sound o.priority fs e p gs g was; fits = record { bound = ltb-true _ _ t.0 } })

record WithinOf (max : ℕ) (fs : List Frame) (e x : Parse) : Type 0 where
  pub closed : Closed fs e x
  pub fits : priority x ≤ max

within-sound : (max : ℕ) (fs : List Frame) (e : Parse) (r : Option Parse) (x : Parse) → FramesAreGood fs → IsGood e → close_all fs e ≡ r → within max r ≡ Some x → WithinOf max fs e x
within-sound max fs e None x gs g was h = absurd (cc)
within-sound max fs e (Some d) x gs g was h =
    let t = tested (nat_le (priority d) max) (Some d) x h in
    subst (WithinOf max fs e) (some-same d x t.1) (record { closed = close_all-sound fs e d gs g was; fits = leb-true _ _ t.0 })

-- ---- arguments

with_front-ahead : (done : List Parse) (e : Parse) (rest : List Item) → all_yield (with_front done (one e)) ++ rest ≡ done_ahead done (yield e ++ rest)
with_front-ahead [] e rest = refl
with_front-ahead (d ∷ ds) e rest = append_assoc (yield d) (comma ∷ all_yield (with_front ds (one e))) rest ∙ ap (λ l. yield d ++ comma ∷ l) (with_front-ahead ds e rest)

with_front-good : (done : List Parse) (e : Parse) → AreDone done → priority e ≤ argument_priority → IsGood e → AreGood (with_front done (one e))
with_front-good [] e gs fits g = (fits, g)
with_front-good (d ∷ ds) e gs fits g = (gs.0, gs.1, with_front-good ds e gs.2 fits g)

done_ahead-push : (done : List Parse) (e : Parse) (rest : List Item) → done_ahead (done ++ e ∷ []) rest ≡ done_ahead done (yield e ++ comma ∷ rest)
done_ahead-push [] e rest = refl
done_ahead-push (d ∷ ds) e rest = ap (λ l. yield d ++ comma ∷ l) (done_ahead-push ds e rest)

AreDone-push : (done : List Parse) (e : Parse) → AreDone done → priority e ≤ argument_priority → IsGood e → AreDone (done ++ e ∷ [])
AreDone-push [] e gs fits g = (fits, g, tt)
AreDone-push (d ∷ ds) e gs fits g = (gs.0, gs.1, AreDone-push ds e gs.2 fits g)

-- ---- a closing bracket

record Made (b : Bracket) (o : Open) (fs : List Frame) (e x : Parse) : Type 0 where
  pub spelled : (rest : List Item) → yield x ++ rest ≡ open_ahead o (frames_ahead fs (yield e ++ closes b ∷ rest))
  pub good : IsGood x

built-some : (f : Parse → Parse) (r : Option Parse) (x : Parse) → built f r ≡ Some x → (d : Parse) × (r ≡ Some d) × (f d ≡ x)
built-some f None x h = absurd (cc)
built-some f (Some d) x h = (d, refl, some-same (f d) x h)

call_of-some : (s : List ℕ) (done : List Parse) (r : Option Parse) (x : Parse) → call_of s done r ≡ Some x → (d : Parse) × (r ≡ Some d) × (arity (with_front done (one d)) ≤ max_arity) × (called s (with_front done (one d)) ≡ x)
call_of-some s done None x h = absurd (cc)
call_of-some s done (Some d) x h =
    let t = tested (nat_le (arity (with_front done (one d))) max_arity) (Some (called s (with_front done (one d)))) x h in
    (d, refl, leb-true _ _ t.0, some-same _ x t.1)

bracket-ahead : (e d : Parse) (fs : List Frame) (b : Bracket) (rest : List Item) → Closed fs e d → (yield d ++ closes b ∷ []) ++ rest ≡ frames_ahead fs (yield e ++ closes b ∷ rest)
bracket-ahead e d fs b rest c = append_assoc (yield d) (closes b ∷ []) rest ∙ c.spelled (closes b ∷ rest)

arguments-ahead : (done : List Parse) (e d : Parse) (fs : List Frame) (b : Bracket) (rest : List Item) → Closed fs e d → (all_yield (with_front done (one d)) ++ closes b ∷ []) ++ rest ≡ done_ahead done (frames_ahead fs (yield e ++ closes b ∷ rest))
arguments-ahead done e d fs b rest c =
    append_assoc (all_yield (with_front done (one d))) (closes b ∷ []) rest
    ∙ with_front-ahead done d (closes b ∷ rest) ∙ ap (done_ahead done) (c.spelled (closes b ∷ rest))

closing-sound : (b : Bracket) (o : Open) (fs : List Frame) (e x : Parse) → OpenIsGood o → FramesAreGood fs → IsGood e → closing b o (close_all fs e) ≡ Some x → Made b o fs e x
closing-sound round in_round fs e x og gs g h =
    let t = built-some grouped (within max_priority (close_all fs e)) x h in
    let w = within-sound max_priority fs e (close_all fs e) t.0 gs g refl t.1 in
    subst (Made round in_round fs e) t.2 (record { spelled = λ rest. ap (λ l. opens round ∷ l) (bracket-ahead e t.0 fs round rest w.closed); good = (w.fits, w.closed.good) })
closing-sound round in_curly fs e x og gs g h = absurd (cc)
closing-sound round (in_arguments (of_call s) done) fs e x og gs g h =
    let t = call_of-some s done (within argument_priority (close_all fs e)) x h in
    let w = within-sound argument_priority fs e (close_all fs e) t.0 gs g refl t.1 in
    subst (Made round (in_arguments (of_call s) done) fs e) t.3 (record {
      spelled = λ rest. ap (λ l. calls s ∷ l) (arguments-ahead done e t.0 fs round rest w.closed);
      good = (t.2, with_front-good done t.0 og w.fits w.closed.good);
    })
closing-sound round (in_arguments of_list done) fs e x og gs g h = absurd (cc)
closing-sound round (in_tail done last) fs e x og gs g h = absurd (cc)
closing-sound curly in_round fs e x og gs g h = absurd (cc)
closing-sound curly in_curly fs e x og gs g h =
    let t = built-some braced (within max_priority (close_all fs e)) x h in
    let w = within-sound max_priority fs e (close_all fs e) t.0 gs g refl t.1 in
    subst (Made curly in_curly fs e) t.2 (record { spelled = λ rest. ap (λ l. opens curly ∷ l) (bracket-ahead e t.0 fs curly rest w.closed); good = (w.fits, w.closed.good) })
closing-sound curly (in_arguments h2 done) fs e x og gs g h = absurd (cc)
closing-sound curly (in_tail done last) fs e x og gs g h = absurd (cc)
closing-sound square in_round fs e x og gs g h = absurd (cc)
closing-sound square in_curly fs e x og gs g h = absurd (cc)
closing-sound square (in_arguments (of_call s) done) fs e x og gs g h = absurd (cc)
closing-sound square (in_arguments of_list done) fs e x og gs g h =
    let t = built-some (λ d. listed (with_front done (one d))) (within argument_priority (close_all fs e)) x h in
    let w = within-sound argument_priority fs e (close_all fs e) t.0 gs g refl t.1 in
    subst (Made square (in_arguments of_list done) fs e) t.2 (record {
      spelled = λ rest. ap (λ l. opens square ∷ l) (arguments-ahead done e t.0 fs square rest w.closed);
      good = with_front-good done t.0 og w.fits w.closed.good;
    })
closing-sound square (in_tail done last) fs e x og gs g h =
    let t = built-some (λ d. listed_to (with_front done (one last)) d) (within argument_priority (close_all fs e)) x h in
    let w = within-sound argument_priority fs e (close_all fs e) t.0 gs g refl t.1 in
    subst (Made square (in_tail done last) fs e) t.2 (record {
      spelled = λ rest. ap (λ l. opens square ∷ l) (
          append_assoc (all_yield (with_front done (one last))) (bar ∷ (yield t.0 ++ closes square ∷ [])) rest
          ∙ with_front-ahead done last (bar ∷ ((yield t.0 ++ closes square ∷ []) ++ rest))
          ∙ ap (λ l. done_ahead done (yield last ++ bar ∷ l)) (bracket-ahead e t.0 fs square rest w.closed));
      good = (with_front-good done last og.0 og.1 og.2, w.fits, w.closed.good);
    })

-- ---- a comma and a bar

record Moved (cs : List Context) (fs : List Frame) (e : Parse) (i : Item) (p : State) : Type 0 where
  pub spelled : (rest : List Item) → ahead p.0 p.1 None rest ≡ ahead cs fs (Some e) (i ∷ rest)
  pub contexts : ContextsAreGood p.0
  pub frames : FramesAreGood p.1

waits_right-some : (cs : List Context) (r : Option (List Frame × Parse)) (p : State) → waits_right cs r ≡ Some p → (q : List Frame × Parse) × (r ≡ Some q) × ((cs, waits_conjoined q.1 ∷ q.0) ≡ p)
waits_right-some cs None p h = absurd (cc)
waits_right-some cs (Some q) p h = (q, refl, some-same _ p h)

waits_right-sound : (cs : List Context) (fs : List Frame) (e : Parse) (p : State) → ContextsAreGood cs → FramesAreGood fs → IsGood e → waits_right cs (closed_left comma_op (close comma_op.priority fs e)) ≡ Some p → Moved cs fs e comma p
waits_right-sound cs fs e p cg gs g h =
    let t = waits_right-some cs (closed_left comma_op (close comma_op.priority fs e)) p h in
    let l = closed_left-sound comma_op fs e (close comma_op.priority fs e) t.0 gs g refl t.1 in
    subst (Moved cs fs e comma) t.2 (record {
      spelled = λ rest. ap (contexts_ahead cs) (l.closed.spelled (comma ∷ rest));
      contexts = cg;
      frames = ((l.fits, l.closed.good), l.closed.frames);
    })

next_argument-some : (h : Head) (done : List Parse) (saved : List Frame) (cs : List Context) (r : Option Parse) (p : State) → next_argument h done saved cs r ≡ Some p → (d : Parse) × (r ≡ Some d) × (((in_arguments h (done ++ d ∷ []), saved) ∷ cs, []) ≡ p)
next_argument-some h done saved cs None p e = absurd (cc)
next_argument-some h done saved cs (Some d) p e = (d, refl, some-same _ p e)

next_tail-some : (done : List Parse) (saved : List Frame) (cs : List Context) (r : Option Parse) (p : State) → next_tail done saved cs r ≡ Some p → (d : Parse) × (r ≡ Some d) × (((in_tail done d, saved) ∷ cs, []) ≡ p)
next_tail-some done saved cs None p e = absurd (cc)
next_tail-some done saved cs (Some d) p e = (d, refl, some-same _ p e)

after_comma-sound : (cs : List Context) (fs : List Frame) (e : Parse) (p : State) → ContextsAreGood cs → FramesAreGood fs → IsGood e → after_comma cs fs e ≡ Some p → Moved cs fs e comma p
after_comma-sound [] fs e p cg gs g h = waits_right-sound [] fs e p cg gs g h
after_comma-sound (c ∷ cs) fs e p cg gs g h = go c.0 c.1 cg.0 cg.1 h
  where
    go : (o : Open) (saved : List Frame) → OpenIsGood o → FramesAreGood saved → comma_in o saved cs fs e ≡ Some p → Moved ((o, saved) ∷ cs) fs e comma p
    go in_round saved og sg k = waits_right-sound ((in_round, saved) ∷ cs) fs e p (og, sg, cg.2) gs g k
    go in_curly saved og sg k = waits_right-sound ((in_curly, saved) ∷ cs) fs e p (og, sg, cg.2) gs g k
    go (in_arguments head done) saved og sg k =
        let t = next_argument-some head done saved cs (within argument_priority (close_all fs e)) p k in
        let w = within-sound argument_priority fs e (close_all fs e) t.0 gs g refl t.1 in
        subst (Moved ((in_arguments head done, saved) ∷ cs) fs e comma) t.2 (record {
          spelled = λ rest. ap (λ l. contexts_ahead cs (frames_ahead saved (head_ahead head l))) (done_ahead-push done t.0 rest ∙ ap (done_ahead done) (w.closed.spelled (comma ∷ rest)));
          contexts = (AreDone-push done t.0 og w.fits w.closed.good, sg, cg.2);
          frames = tt;
        })
    go (in_tail done last) saved og sg k = absurd (cc)

after_bar-sound : (cs : List Context) (fs : List Frame) (e : Parse) (p : State) → ContextsAreGood cs → FramesAreGood fs → IsGood e → after_bar cs fs e ≡ Some p → Moved cs fs e bar p
after_bar-sound [] fs e p cg gs g h = absurd (cc)
after_bar-sound (c ∷ cs) fs e p cg gs g h = go c.0 c.1 cg.0 cg.1 h
  where
    go : (o : Open) (saved : List Frame) → OpenIsGood o → FramesAreGood saved → bar_in o saved cs fs e ≡ Some p → Moved ((o, saved) ∷ cs) fs e bar p
    go in_round saved og sg k = absurd (cc)
    go in_curly saved og sg k = absurd (cc)
    go (in_arguments (of_call s) done) saved og sg k = absurd (cc)
    go (in_arguments of_list done) saved og sg k =
        let t = next_tail-some done saved cs (within argument_priority (close_all fs e)) p k in
        let w = within-sound argument_priority fs e (close_all fs e) t.0 gs g refl t.1 in
        subst (Moved ((in_arguments of_list done, saved) ∷ cs) fs e bar) t.2 (record {
          spelled = λ rest. ap (λ l. contexts_ahead cs (frames_ahead saved (opens square ∷ done_ahead done l))) (w.closed.spelled (bar ∷ rest));
          contexts = ((og, w.fits, w.closed.good), sg, cg.2);
          frames = tt;
        })
    go (in_tail done last) saved og sg k = absurd (cc)

-- ---- whole runs

pub record Whole (items : List Item) (x : Parse) : Type 0 where
  pub spelled : yield x ≡ items
  pub good : IsGood x
  pub fits : priority x ≤ max_priority

opening-good : (b : Bracket) → OpenIsGood (opening b)
opening-good round = tt
opening-good curly = tt
opening-good square = tt

opening-ahead : (b : Bracket) (rest : List Item) → open_ahead (opening b) rest ≡ opens b ∷ rest
opening-ahead round rest = refl
opening-ahead curly rest = refl
opening-ahead square rest = refl

-- a test of an option that goes on only where there is a value
carried : {A B : Type 0} (r : Option A) (f : A → Option B) (y : B) → (elim r [ None ↦ None | Some a ↦ f a ]) ≡ Some y → (a : A) × (r ≡ Some a) × (f a ≡ Some y)
carried None f y h = absurd (cc)
carried (Some a) f y h = (a, refl, h)

pub run-sound : (items : List Item) (cs : List Context) (fs : List Frame) (e : Option Parse) (x : Parse) → ContextsAreGood cs → FramesAreGood fs → OperandIsGood e → run cs fs e items ≡ Some x → Whole (ahead cs fs e items) x
run-sound [] cs fs None x cg gs g h = absurd (cc)
run-sound (operand t ∷ is) cs fs None x cg gs g h = run-sound is cs fs (Some (leaf t)) x cg gs tt h
run-sound (before o s ∷ is) cs fs None x cg gs g h = run-sound is cs (waits_prefix o s ∷ fs) None x cg (tt, gs) tt h
run-sound (calls s ∷ is) cs fs None x cg gs g h = run-sound is ((in_arguments (of_call s) [], fs) ∷ cs) [] None x (tt, gs, cg) tt tt h
run-sound (opens b ∷ is) cs fs None x cg gs g h =
    subst (λ l. Whole (contexts_ahead cs (frames_ahead fs l)) x) (opening-ahead b is) (run-sound is ((opening b, fs) ∷ cs) [] None x (opening-good b, gs, cg) tt tt h)
run-sound (between o s ∷ is) cs fs None x cg gs g h = absurd (cc)
run-sound (after o s ∷ is) cs fs None x cg gs g h = absurd (cc)
run-sound (comma ∷ is) cs fs None x cg gs g h = absurd (cc)
run-sound (bar ∷ is) cs fs None x cg gs g h = absurd (cc)
run-sound (closes b ∷ is) cs fs None x cg gs g h = absurd (cc)
run-sound [] [] fs (Some e) x cg gs g h =
    let w = within-sound max_priority fs e (close_all fs e) x gs g refl h in
    record { spelled = sym (append-nil (yield x)) ∙ w.closed.spelled []; good = w.closed.good; fits = w.fits }
run-sound [] (c ∷ cs) fs (Some e) x cg gs g h = absurd (cc)
run-sound (operand t ∷ is) cs fs (Some e) x cg gs g h = absurd (cc)
run-sound (before o s ∷ is) cs fs (Some e) x cg gs g h = absurd (cc)
run-sound (calls s ∷ is) cs fs (Some e) x cg gs g h = absurd (cc)
run-sound (opens b ∷ is) cs fs (Some e) x cg gs g h = absurd (cc)
run-sound (between o s ∷ is) cs fs (Some e) x cg gs g h =
    let t = carried (closed_left o (close o.priority fs e)) (λ p. run cs (waits_joined p.1 o s ∷ p.0) None is) x h in
    let l = closed_left-sound o fs e (close o.priority fs e) t.0 gs g refl t.1 in
    subst (λ k. Whole (contexts_ahead cs k) x) (l.closed.spelled (between o s ∷ is))
    (run-sound is cs (waits_joined t.0.1 o s ∷ t.0.0) None x cg ((l.fits, l.closed.good), l.closed.frames) tt t.2)
run-sound (after o s ∷ is) cs fs (Some e) x cg gs g h =
    let t = carried (closed_left o (close o.priority fs e)) (λ p. run cs p.0 (Some (postfixed p.1 o s)) is) x h in
    let l = closed_left-sound o fs e (close o.priority fs e) t.0 gs g refl t.1 in
    subst (λ k. Whole (contexts_ahead cs k) x) (ap (frames_ahead t.0.0) (append_assoc (yield t.0.1) (after o s ∷ []) is) ∙ l.closed.spelled (after o s ∷ is))
    (run-sound is cs t.0.0 (Some (postfixed t.0.1 o s)) x cg l.closed.frames (l.fits, l.closed.good) t.2)
run-sound (comma ∷ is) cs fs (Some e) x cg gs g h =
    let t = carried (after_comma cs fs e) (λ p. run p.0 p.1 None is) x h in
    let m = after_comma-sound cs fs e t.0 cg gs g t.1 in
    subst (λ k. Whole k x) (m.spelled is) (run-sound is t.0.0 t.0.1 None x m.contexts m.frames tt t.2)
run-sound (bar ∷ is) cs fs (Some e) x cg gs g h =
    let t = carried (after_bar cs fs e) (λ p. run p.0 p.1 None is) x h in
    let m = after_bar-sound cs fs e t.0 cg gs g t.1 in
    subst (λ k. Whole k x) (m.spelled is) (run-sound is t.0.0 t.0.1 None x m.contexts m.frames tt t.2)
run-sound (closes b ∷ is) [] fs (Some e) x cg gs g h = absurd (cc)
run-sound (closes b ∷ is) (c ∷ cs) fs (Some e) x cg gs g h =
    let t = carried (closing b c.0 (close_all fs e)) (λ y. run cs c.1 (Some y) is) x h in
    let m = closing-sound b c.0 fs e t.0 cg.0 gs g t.1 in
    subst (λ k. Whole (contexts_ahead cs (frames_ahead c.1 k)) x) (m.spelled is) (run-sound is cs c.1 (Some t.0) x cg.2 cg.1 m.good t.2)

pub parsed-sound : (items : List Item) (x : Parse) → parsed items ≡ Some x → Whole items x
parsed-sound items x h = run-sound items [] [] None x tt tt tt h
