-- The parser as a machine over items: operators that wait for their last operand, and the open brackets, each with those that waited outside it.
use Rattle.std.proofs.Common.{ℕ, ◌*◌, List, [], ◌∷◌, ◌++◌, Bool, true, false, Option, Some, None, nat_lt, nat_le}
use Rattle.pl_ops.specs.declared.op.Op.{Op as Operator}
use Rattle.text_model.specs.Grammar.{Bracket, round, curly, square, Item, operand, before, between, after, comma, bar, calls, opens, closes, Parse, leaf, grouped, braced, called, listed, listed_to, prefixed, joined, conjoined, postfixed, Arguments, one, more, comma_op, priority, right_weight, left_weight, weight, max_priority, argument_priority, max_arity, arity}

pub data Frame : Type 0 where
  waits_prefix : Operator → List ℕ → Frame
  waits_joined : Parse → Operator → List ℕ → Frame
  waits_conjoined : Parse → Frame

abbrev pub op_of : Frame → Operator
op_of (waits_prefix o s) = o
op_of (waits_joined l o s) = o
op_of (waits_conjoined l) = comma_op

abbrev pub applied : Frame → Parse → Parse
applied (waits_prefix o s) e = prefixed o s e
applied (waits_joined l o s) e = joined l o s e
applied (waits_conjoined l) e = conjoined l e

-- What the arguments belong to.
pub data Head : Type 0 where
  of_call : List ℕ → Head
  of_list : Head

-- An open bracket, with what stands between it and the last comma or bar in it.
pub data Open : Type 0 where
  in_round : Open
  in_curly : Open
  in_arguments : Head → List Parse → Open
  in_tail : List Parse → Parse → Open

abbrev pub Context : Type 0
Context = Open × List Frame

abbrev pub with_front : List Parse → Arguments → Arguments
with_front [] es = es
with_front (d ∷ ds) es = more d (with_front ds es)

abbrev pub when : {A : Type 0} → Bool → Option A → Option A
when true x = x
when false x = None

abbrev pub within : ℕ → Option Parse → Option Parse
within max None = None
within max (Some e) = when (nat_le (priority e) max) (Some e)

abbrev pub built : (Parse → Parse) → Option Parse → Option Parse
built f None = None
built f (Some e) = Some (f e)

abbrev pub call_of : List ℕ → List Parse → Option Parse → Option Parse
call_of s done None = None
call_of s done (Some e) = when (nat_le (arity (with_front done (one e))) max_arity) (Some (called s (with_front done (one e))))

-- closes each frame whose operator is within a left operand of an operator of that priority
abbrev pub close : ℕ → List Frame → Parse → Option (List Frame × Parse)
close p [] e = Some ([], e)
close p (f ∷ fs) e = elim (nat_le (right_weight (op_of f)) (2 * p)) [
  | true ↦ elim (nat_lt (2 * priority e) (right_weight (op_of f))) [ true ↦ close p fs (applied f e) | false ↦ None ]
  | false ↦ Some (f ∷ fs, e)
]

abbrev pub close_all : List Frame → Parse → Option Parse
close_all [] e = Some e
close_all (f ∷ fs) e = elim (nat_lt (2 * priority e) (right_weight (op_of f))) [ true ↦ close_all fs (applied f e) | false ↦ None ]

abbrev pub closed_left : Operator → Option (List Frame × Parse) → Option (List Frame × Parse)
closed_left o None = None
closed_left o (Some p) = when (nat_lt (weight p.1) (left_weight o)) (Some p)

-- what stands in brackets, from what stands before the closing one
abbrev pub closing : Bracket → Open → Option Parse → Option Parse
closing round in_round r = built grouped (within max_priority r)
closing round in_curly r = None
closing round (in_arguments (of_call s) done) r = call_of s done (within argument_priority r)
closing round (in_arguments of_list done) r = None
closing round (in_tail done last) r = None
closing curly in_round r = None
closing curly in_curly r = built braced (within max_priority r)
closing curly (in_arguments h done) r = None
closing curly (in_tail done last) r = None
closing square in_round r = None
closing square in_curly r = None
closing square (in_arguments (of_call s) done) r = None
closing square (in_arguments of_list done) r = built (λ e. listed (with_front done (one e))) (within argument_priority r)
closing square (in_tail done last) r = built (λ e. listed_to (with_front done (one last)) e) (within argument_priority r)

abbrev pub State : Type 0
State = List Context × List Frame

abbrev pub waits_right : List Context → Option (List Frame × Parse) → Option State
waits_right cs None = None
waits_right cs (Some p) = Some (cs, waits_conjoined p.1 ∷ p.0)

abbrev pub next_argument : Head → List Parse → List Frame → List Context → Option Parse → Option State
next_argument h done saved cs None = None
next_argument h done saved cs (Some e) = Some ((in_arguments h (done ++ e ∷ []), saved) ∷ cs, [])

abbrev pub next_tail : List Parse → List Frame → List Context → Option Parse → Option State
next_tail done saved cs None = None
next_tail done saved cs (Some e) = Some ((in_tail done e, saved) ∷ cs, [])

abbrev pub comma_in : Open → List Frame → List Context → List Frame → Parse → Option State
comma_in in_round saved cs fs e = waits_right ((in_round, saved) ∷ cs) (closed_left comma_op (close comma_op.priority fs e))
comma_in in_curly saved cs fs e = waits_right ((in_curly, saved) ∷ cs) (closed_left comma_op (close comma_op.priority fs e))
comma_in (in_arguments h done) saved cs fs e = next_argument h done saved cs (within argument_priority (close_all fs e))
comma_in (in_tail done last) saved cs fs e = None

abbrev pub after_comma : List Context → List Frame → Parse → Option State
after_comma [] fs e = waits_right [] (closed_left comma_op (close comma_op.priority fs e))
after_comma (c ∷ cs) fs e = comma_in c.0 c.1 cs fs e

abbrev pub bar_in : Open → List Frame → List Context → List Frame → Parse → Option State
bar_in in_round saved cs fs e = None
bar_in in_curly saved cs fs e = None
bar_in (in_arguments (of_call s) done) saved cs fs e = None
bar_in (in_arguments of_list done) saved cs fs e = next_tail done saved cs (within argument_priority (close_all fs e))
bar_in (in_tail done last) saved cs fs e = None

abbrev pub after_bar : List Context → List Frame → Parse → Option State
after_bar [] fs e = None
after_bar (c ∷ cs) fs e = bar_in c.0 c.1 cs fs e

abbrev pub opening : Bracket → Open
opening round = in_round
opening curly = in_curly
opening square = in_arguments of_list []

abbrev pub run : List Context → List Frame → Option Parse → List Item → Option Parse
run cs fs None [] = None
run cs fs None (operand t ∷ is) = run cs fs (Some (leaf t)) is
run cs fs None (before o s ∷ is) = run cs (waits_prefix o s ∷ fs) None is
run cs fs None (calls s ∷ is) = run ((in_arguments (of_call s) [], fs) ∷ cs) [] None is
run cs fs None (opens b ∷ is) = run ((opening b, fs) ∷ cs) [] None is
run cs fs None (between o s ∷ is) = None
run cs fs None (after o s ∷ is) = None
run cs fs None (comma ∷ is) = None
run cs fs None (bar ∷ is) = None
run cs fs None (closes b ∷ is) = None
run cs fs (Some e) [] = elim cs [ [] ↦ within max_priority (close_all fs e) | c ∷ ds ↦ None ]
run cs fs (Some e) (operand t ∷ is) = None
run cs fs (Some e) (before o s ∷ is) = None
run cs fs (Some e) (calls s ∷ is) = None
run cs fs (Some e) (opens b ∷ is) = None
run cs fs (Some e) (between o s ∷ is) = elim (closed_left o (close o.priority fs e)) [ None ↦ None | Some p ↦ run cs (waits_joined p.1 o s ∷ p.0) None is ]
run cs fs (Some e) (after o s ∷ is) = elim (closed_left o (close o.priority fs e)) [ None ↦ None | Some p ↦ run cs p.0 (Some (postfixed p.1 o s)) is ]
run cs fs (Some e) (comma ∷ is) = elim (after_comma cs fs e) [ None ↦ None | Some p ↦ run p.0 p.1 None is ]
run cs fs (Some e) (bar ∷ is) = elim (after_bar cs fs e) [ None ↦ None | Some p ↦ run p.0 p.1 None is ]
run cs fs (Some e) (closes b ∷ is) = elim cs [ [] ↦ None | c ∷ ds ↦ elim (closing b c.0 (close_all fs e)) [ None ↦ None | Some x ↦ run ds c.1 (Some x) is ] ]

-- the machine from the start
abbrev pub parsed : List Item → Option Parse
parsed = run [] [] None
