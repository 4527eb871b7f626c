-- One turn of closing, on the parser's stack and on the machine's frames.
use Rattle.std.proofs.Common.{◌≡◌, ℕ, ◌*◌, ◌-◌, ◌≤◌, ◌<◌, List, [], ◌∷◌, ◌++◌, length, take, get_or, Bool, true, false, Some, None, refl, sym, ap, ◌∙◌, arith, subst, nat_lt, append_assoc, append-nil, length-append, ◌⊎◌, inl, inr, ◌↔◌}
use Rattle.std.proofs.lemmas.Bool.{le-leb, lt-ltb, lt-leb, ltb-true, ltb-false}
use Rattle.std.proofs.Math.Seq.{get_or-append_seam}
use Rattle.std.proofs.lemmas.Grind.{common_steps}
use Rattle.pl_ops.specs.declared.op.Op.{Op as Operator}
use Rattle.text_model.specs.Grammar.{Parse, priority, weight, right_weight}
use Rattle.pl_reader.specs.Machine.{Frame, waits_prefix, waits_joined, waits_conjoined, op_of, applied, close, close_all, Context as Opened}
use Rattle.pl_reader.specs.Stands.{id, output, left_output, outputs}
use Rattle.pl_reader.specs.Standing.{entry_of, entries, base, base_out, StandsAfter}
use Rattle.pl_atoms.specs.declared.names.NameId.{NameId}
use Rattle.pl_terms.specs.declared.cell.Cell.{Cell}
use Rattle.pl_terms.specs.declared.cell.Cell.TheVariants.{Comp}
use Rattle.pl_reader.specs.declared.machine.Entry.{Entry}
use Rattle.pl_reader.specs.declared.machine.Entry.TheVariants.{Waits, Mark}
use Rattle.pl_reader.specs.declared.machine.LastTerm.{LastTerm}

take-front : {A : Type 0} (xs : List A) (y : A) → take (length xs) (xs ++ y ∷ []) ≡ xs
take-front [] y = refl
take-front (x ∷ xs) y = ap (λ l. x ∷ l) (take-front xs y)

module _ (num : List ℕ → ℕ) where
  -- an operator on top of the stack is the first frame's
  pub record Topped (b : List Entry) (fs : List Frame) (o : Operator) (name : NameId) (arity : ℕ) (rest : List Entry) : Type 0 where
    pub frame : Frame
    pub frames : List Frame
    pub are : fs ≡ frame ∷ frames
    pub op_is : o ≡ op_of frame
    pub last_is : Waits o name arity ≡ entry_of num frame
    pub rest_is : rest ≡ b ++ entries num frames

  last-more : (b xs : List Entry) (x d : Entry) → get_or (b ++ (xs ++ x ∷ [])) (length (b ++ (xs ++ x ∷ [])) - 1) d ≡ x
  last-more b xs x d =
      let n : length (b ++ (xs ++ x ∷ [])) - 1 ≡ length (b ++ xs) = omega (arith, length-append b (xs ++ x ∷ []), length-append xs (x ∷ []), length-append b xs) in
      ap (λ k. get_or (b ++ (xs ++ x ∷ [])) k d) n ∙ ap (λ l. get_or l (length (b ++ xs)) d) (sym (append_assoc b xs (x ∷ []))) ∙ get_or-append_seam (b ++ xs) x [] d

  rest-more : (b xs : List Entry) (x : Entry) → take (length (b ++ (xs ++ x ∷ [])) - 1) (b ++ (xs ++ x ∷ [])) ≡ b ++ xs
  rest-more b xs x =
      let n : length (b ++ (xs ++ x ∷ [])) - 1 ≡ length (b ++ xs) = omega (arith, length-append b (xs ++ x ∷ []), length-append xs (x ∷ []), length-append b xs) in
      ap (λ k. take k (b ++ (xs ++ x ∷ []))) n ∙ ap (take (length (b ++ xs))) (sym (append_assoc b xs (x ∷ []))) ∙ take-front (b ++ xs) x

  -- below the frames of the innermost bracket stands a mark, or nothing
  base-last : (cs : List Opened) (d : Entry) → 0 < length (base num cs) → get_or (base num cs) (length (base num cs) - 1) d ≡ Mark
  base-last [] d h = absurd (omega arith)
  base-last (c ∷ cs) d h = last-more [] (base num cs ++ entries num c.1) Mark d

  frame-op : (f : Frame) (o : Operator) (n : NameId) (k : ℕ) → Waits o n k ≡ entry_of num f → o ≡ op_of f
  frame-op (waits_prefix p s) o n k e = cc
  frame-op (waits_joined l p s) o n k e = cc
  frame-op (waits_conjoined l) o n k e = cc

  frame-not_mark : (f : Frame) → Mark ≡ entry_of num f → ⊥
  frame-not_mark (waits_prefix p s) e = cc
  frame-not_mark (waits_joined l p s) e = cc
  frame-not_mark (waits_conjoined l) e = cc

  pub topped : (s : List Entry) (cs : List Opened) (fs : List Frame) (w : Entry) (o : Operator) (n : NameId) (k : ℕ) → s ≡ base num cs ++ entries num fs → 0 < length s → w ≡ get_or s (length s - 1) w → w ≡ Waits o n k → Topped (base num cs) fs o n k (take (length s - 1) s)
  topped s cs [] w o n k e some last is =
      let same : s ≡ base num cs = e ∙ append-nil (base num cs) in
      let some2 : 0 < length (base num cs) = omega (arith, ap length same) in
      let mark : Waits o n k ≡ Mark = sym is ∙ last ∙ ap (λ l. get_or l (length l - 1) w) same ∙ base-last cs w some2 in
      absurd (cc)
  topped s cs (f ∷ fs) w o n k e some last is =
      let last_is : Waits o n k ≡ entry_of num f = sym is ∙ last ∙ ap (λ l. get_or l (length l - 1) w) e ∙ last-more (base num cs) (entries num fs) (entry_of num f) w in
      record {
        frame = f;
        frames = fs;
        are = refl;
        op_is = frame-op f o n k last_is;
        last_is = last_is;
        rest_is = ap (λ l. take (length l - 1) l) e ∙ rest-more (base num cs) (entries num fs) (entry_of num f);
      }

  -- no frame is left where the stack is empty, or a mark is on top
  pub bare_empty : (s : List Entry) (cs : List Opened) (fs : List Frame) → s ≡ base num cs ++ entries num fs → length s ≤ 0 → fs ≡ []
  bare_empty s cs [] e h = refl
  bare_empty s cs (f ∷ fs) e h = absurd (omega (arith, ap length e, length-append (base num cs) (entries num fs ++ entry_of num f ∷ []), length-append (entries num fs) (entry_of num f ∷ [])))

  pub bare_mark : (s : List Entry) (cs : List Opened) (fs : List Frame) (w : Entry) → s ≡ base num cs ++ entries num fs → w ≡ get_or s (length s - 1) w → w ≡ Mark → fs ≡ []
  bare_mark s cs [] w e last is = refl
  bare_mark s cs (f ∷ fs) w e last is = absurd (frame-not_mark f (sym is ∙ last ∙ ap (λ l. get_or l (length l - 1) w) e ∙ last-more (base num cs) (entries num fs) (entry_of num f) w))

  weight-applied : (f : Frame) (e : Parse) → weight (applied f e) ≡ right_weight (op_of f)
  weight-applied (waits_prefix o s) e = refl
  weight-applied (waits_joined l o s) e = refl
  weight-applied (waits_conjoined l) e = refl

  priority-applied : (f : Frame) (e : Parse) → priority (applied f e) ≡ (op_of f).priority
  priority-applied (waits_prefix o s) e = refl
  priority-applied (waits_joined l o s) e = refl
  priority-applied (waits_conjoined l) e = refl

  output-applied : (f : Frame) (e : Parse) (b before : List Cell) (o : Operator) (n : NameId) (k : ℕ) → Waits o n k ≡ entry_of num f → ((b ++ (before ++ left_output num f)) ++ output num e) ++ Comp n k ∷ [] ≡ (b ++ before) ++ output num (applied f e)
  output-applied (waits_prefix p s) e b before o n k h =
      let a : n ≡ id num s = cc in
      let c : k ≡ 1 = cc in
      rw a (rw c (simp (append_assoc, append-nil)))
  output-applied (waits_joined l p s) e b before o n k h =
      let a : n ≡ id num s = cc in
      let c : k ≡ 2 = cc in
      rw a (rw c (simp (append_assoc, append-nil)))
  output-applied (waits_conjoined l) e b before o n k h =
      let a : n ≡ id num (Rattle.std.specs.Prelude.codes ",") = cc in
      let c : k ≡ 2 = cc in
      rw a (rw c (simp (append_assoc, append-nil)))

  close-none : (limit : ℕ) (f : Frame) (fs : List Frame) (e : Parse) → right_weight (op_of f) ≤ 2 * limit → right_weight (op_of f) ≤ 2 * priority e → close limit (f ∷ fs) e ≡ None
  close-none limit f fs e light wide = rw (le-leb (right_weight (op_of f)) (2 * limit) light, close) (rw (le-ltb' (2 * priority e) (right_weight (op_of f)) wide) refl)
    where
      le-ltb' : (a b : ℕ) → b ≤ a → nat_lt a b ≡ false
      le-ltb' a b h = grind (arith, common_steps)

  close-on : (limit : ℕ) (f : Frame) (fs : List Frame) (e : Parse) → right_weight (op_of f) ≤ 2 * limit → 2 * priority e < right_weight (op_of f) → close limit (f ∷ fs) e ≡ close limit fs (applied f e)
  close-on limit f fs e light fits = rw (le-leb (right_weight (op_of f)) (2 * limit) light, close) (rw (lt-ltb (2 * priority e) (right_weight (op_of f)) fits) refl)

  close-stop : (limit : ℕ) (f : Frame) (fs : List Frame) (e : Parse) → 2 * limit < right_weight (op_of f) → close limit (f ∷ fs) e ≡ Some (f ∷ fs, e)
  close-stop limit f fs e h = rw (lt-leb (right_weight (op_of f)) (2 * limit) h, close) refl

  pub refused : (limit : ℕ) (b : List Entry) (fs : List Frame) (e : Parse) (o : Operator) (n : NameId) (k : ℕ) (rest : List Entry) → Topped b fs o n k rest → right_weight o ≤ 2 * limit → right_weight o ≤ 2 * priority e → close limit fs e ≡ None
  refused limit b fs e o n k rest t light wide =
      ap (λ l. close limit l e) t.are ∙ close-none limit t.frame t.frames e (subst (λ x. right_weight x ≤ 2 * limit) t.op_is light) (subst (λ x. right_weight x ≤ 2 * priority e) t.op_is wide)

  pub stopped : (limit : ℕ) (b : List Entry) (fs : List Frame) (e : Parse) (o : Operator) (n : NameId) (k : ℕ) (rest : List Entry) → Topped b fs o n k rest → 2 * limit < right_weight o → close limit fs e ≡ Some (fs, e)
  stopped limit b fs e o n k rest t heavy =
      ap (λ l. close limit l e) t.are ∙ close-stop limit t.frame t.frames e (subst (λ x. 2 * limit < right_weight x) t.op_is heavy) ∙ ap (λ l. Some (l, e)) (sym t.are)

  pub none_left : (limit : ℕ) (fs : List Frame) (e : Parse) → fs ≡ [] → close limit fs e ≡ Some (fs, e)
  none_left limit [] e h = refl
  none_left limit (f ∷ fs) e h = absurd (cc)

  pub all_closed : (fs : List Frame) (e : Parse) → fs ≡ [] → close_all fs e ≡ Some e
  all_closed [] e h = refl
  all_closed (f ∷ fs) e h = absurd (cc)

  all-none : (f : Frame) (fs : List Frame) (e : Parse) → right_weight (op_of f) ≤ 2 * priority e → close_all (f ∷ fs) e ≡ None
  all-none f fs e wide = rw (le-ltb' (2 * priority e) (right_weight (op_of f)) wide, close_all) refl
    where
      le-ltb' : (a b : ℕ) → b ≤ a → nat_lt a b ≡ false
      le-ltb' a b h = grind (arith, common_steps)

  all-on : (f : Frame) (fs : List Frame) (e : Parse) → 2 * priority e < right_weight (op_of f) → close_all (f ∷ fs) e ≡ close_all fs (applied f e)
  all-on f fs e fits = rw (lt-ltb (2 * priority e) (right_weight (op_of f)) fits, close_all) refl

  pub all_refused : (b : List Entry) (fs : List Frame) (e : Parse) (o : Operator) (n : NameId) (k : ℕ) (rest : List Entry) → Topped b fs o n k rest → right_weight o ≤ 2 * priority e → close_all fs e ≡ None
  all_refused b fs e o n k rest t wide =
      ap (λ l. close_all l e) t.are ∙ all-none t.frame t.frames e (subst (λ x. right_weight x ≤ 2 * priority e) t.op_is wide)

  pub close_on : (limit : ℕ) (b : List Entry) (fs : List Frame) (e : Parse) (o : Operator) (n : NameId) (k : ℕ) (rest : List Entry) → (t : Topped b fs o n k rest) → right_weight o ≤ 2 * limit → 2 * priority e < right_weight o → close limit fs e ≡ close limit t.frames (applied t.frame e)
  close_on limit b fs e o n k rest t light fits =
      ap (λ l. close limit l e) t.are ∙ close-on limit t.frame t.frames e (subst (λ x. right_weight x ≤ 2 * limit) t.op_is light) (subst (λ x. 2 * priority e < right_weight x) t.op_is fits)

  pub all_on : (b : List Entry) (fs : List Frame) (e : Parse) (o : Operator) (n : NameId) (k : ℕ) (rest : List Entry) → (t : Topped b fs o n k rest) → 2 * priority e < right_weight o → close_all fs e ≡ close_all t.frames (applied t.frame e)
  all_on b fs e o n k rest t fits =
      ap (λ l. close_all l e) t.are ∙ all-on t.frame t.frames e (subst (λ x. 2 * priority e < right_weight x) t.op_is fits)

  -- as far as closing has come, by what it does to frames and an operand
  pub record Turned {X : Type 0} (F : List Frame → Parse → X) (cs : List Opened) (fs : List Frame) (e : Parse) (stack : List Entry) (out : List Cell) (top : LastTerm) : Type 0 where
    pub frames : List Frame
    pub operand : Parse
    pub stands : StandsAfter num cs frames operand stack out top
    pub same : F fs e ≡ F frames operand

  -- one operator closed
  pub turned : (cs : List Opened) (fs : List Frame) (e : Parse) (s rest : List Entry) (out : List Cell) (top : LastTerm) (o : Operator) (n : NameId) (k : ℕ) → StandsAfter num cs fs e s out top → (t : Topped (base num cs) fs o n k rest) → StandsAfter num cs t.frames (applied t.frame e) rest (out ++ Comp n k ∷ []) (record { priority = o.priority; weight = right_weight o })
  turned cs fs e s rest out top o n k h t = record {
    stack_is = t.rest_is;
    out_is =
        ap (λ l. l ++ Comp n k ∷ []) (h.out_is ∙ ap (λ l. (base_out num cs ++ outputs num l) ++ output num e) t.are)
        ∙ output-applied t.frame e (base_out num cs) (outputs num t.frames) o n k t.last_is;
    priority_is = ap (λ x. x.priority) t.op_is ∙ sym (priority-applied t.frame e);
    weight_is = ap right_weight t.op_is ∙ sym (weight-applied t.frame e);
  }

  pub bare_stands : (cs : List Opened) (fs : List Frame) (e : Parse) (s : List Entry) (out : List Cell) (top : LastTerm) → fs ≡ [] → StandsAfter num cs fs e s out top → StandsAfter num cs [] e s out top
  bare_stands cs fs e s out top h t = subst (λ l. StandsAfter num cs l e s out top) h t

bool_of : (b : Bool) → (b ≡ true) ⊎ (b ≡ false)
bool_of true = inl refl
bool_of false = inr refl

pub not_below : (b : Bool) (p w : ℕ) → (b ≡ true) ↔ (2 * p < w) → b ≡ false → w ≤ 2 * p
not_below b p w iff no_test = elim (bool_of (nat_lt (2 * p) w)) [
  | inl e ↦ absurd (let t : b ≡ true = iff.1 (ltb-true (2 * p) w e) in cc)
  | inr e ↦ ltb-false (2 * p) w e
]
