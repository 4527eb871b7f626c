-- How the parser's stacks and output stand for the machine's contexts and frames. The output has the finished terms' cells,
-- each operator after its operands; num gives a name's number.
use Rattle.std.specs.Prelude.{◌≡◌, nat_le, ℕ, zero, suc, List, [], ◌∷◌, ◌++◌, length, Option, Some, None, Bool, true, false, codes}
use Rattle.pl_terms.specs.Cells.{cells}
use Rattle.pl_ops.specs.declared.op.Op.{Op as Operator}
use Rattle.text_model.specs.Grammar.{Parse, postfixed, grouped, braced, called, listed, listed_to, comma_op, priority, weight, Bracket, round, curly, square, max_priority, argument_priority, max_arity, arity, one, Item, operand, before, between, after, comma, bar, calls, opens, closes}
use Rattle.pl_reader.specs.Machine.{run, Frame, waits_prefix, waits_joined, waits_conjoined, close, close_all, closed_left, within, after_comma, after_bar, waits_right, closing, when, with_front, Open, in_round, in_curly, in_arguments, in_tail, Head, of_call, of_list, Context as Opened}
use Rattle.pl_reader.specs.Stands.{id, behind, output, left_output, outputs}
use Rattle.pl_atoms.specs.declared.names.NameId.{NameId}
use Rattle.pl_terms.specs.declared.cell.Cell.{Cell}
use Rattle.pl_terms.specs.declared.cell.Cell.TheVariants.{Comp}
use Rattle.pl_reader.specs.declared.machine.GrammarNames.{GrammarNames}
use Rattle.pl_reader.specs.declared.machine.BracketKind.{BracketKind}
use Rattle.pl_reader.specs.declared.machine.BracketKind.TheVariants.{RoundPair, CurlyPair, SquarePair}
use Rattle.pl_reader.specs.declared.machine.Entry.{Entry}
use Rattle.pl_reader.specs.declared.machine.Entry.TheVariants.{Waits, Mark}
use Rattle.pl_reader.specs.declared.machine.Context.{Context}
use Rattle.pl_reader.specs.declared.machine.Context.TheVariants.{Round, Curly, Call, List as Listed, Tail}
use Rattle.pl_reader.specs.declared.machine.Stepped.{Stepped}
use Rattle.pl_reader.specs.declared.machine.Stepped.TheVariants.{Fails, ToOperand, ToOperator}
use Rattle.pl_reader.specs.declared.machine.ParseItem.{ParseItem}
use Rattle.pl_reader.specs.declared.machine.ParseItem.TheVariants.{Operand, Before, Between, After, Comma, Bar, Calls, Opens, Closes}
use Rattle.pl_reader.specs.declared.machine.CommaKind.{CommaKind}
use Rattle.pl_reader.specs.declared.machine.CommaKind.TheVariants.{Joining, Argument, Misplaced}
use Rattle.pl_reader.specs.declared.machine.LastTerm.{LastTerm}

module _ (num : List ℕ → ℕ) where
  abbrev pub entry_of : Frame → Entry
  entry_of (waits_prefix o s) = Waits o (id num s) 1
  entry_of (waits_joined l o s) = Waits o (id num s) 2
  entry_of (waits_conjoined l) = Waits comma_op (id num (codes ",")) 2

  abbrev pub entries : List Frame → List Entry
  entries [] = []
  entries (f ∷ fs) = entries fs ++ entry_of f ∷ []

  abbrev pub context_of : Open → Context
  context_of in_round = Round
  context_of in_curly = Curly
  context_of (in_arguments (of_call s) done) = Call (id num s) (length done)
  context_of (in_arguments of_list done) = Listed (length done)
  context_of (in_tail done last) = Tail (length done)

  abbrev pub contexts_of : List Opened → List Context
  contexts_of [] = []
  contexts_of (c ∷ cs) = contexts_of cs ++ context_of c.0 ∷ []

  -- what stands below the frames of the innermost bracket
  abbrev pub base : List Opened → List Entry
  base [] = []
  base (c ∷ cs) = (base cs ++ entries c.1) ++ Mark ∷ []

  abbrev pub done_out : List Parse → List Cell
  done_out [] = []
  done_out (e ∷ es) = output num e ++ done_out es

  abbrev pub open_out : Open → List Cell
  open_out in_round = []
  open_out in_curly = []
  open_out (in_arguments h done) = done_out done
  open_out (in_tail done last) = done_out done ++ output num last

  abbrev pub base_out : List Opened → List Cell
  base_out [] = []
  base_out (c ∷ cs) = (base_out cs ++ outputs num c.1) ++ open_out c.0

  -- where a term is to come
  pub record StandsBefore (cs : List Opened) (fs : List Frame) (stack : List Entry) (out : List Cell) : Type 0 where
    pub stack_is : stack ≡ base cs ++ entries fs
    pub out_is : out ≡ base_out cs ++ outputs num fs

  -- where a term has come, the contexts aside
  pub record StandsAfter (cs : List Opened) (fs : List Frame) (e : Parse) (stack : List Entry) (out : List Cell) (top : LastTerm) : Type 0 where
    pub stack_is : stack ≡ base cs ++ entries fs
    pub out_is : out ≡ (base_out cs ++ outputs num fs) ++ output num e
    pub priority_is : top.priority ≡ priority e
    pub weight_is : top.weight ≡ weight e

  -- what closing gave
  abbrev pub ClosesWithin : ℕ → List Opened → List Frame → Parse → Option LastTerm → List Entry → List Cell → Type 0
  ClosesWithin limit cs fs e None stack out = close limit fs e ≡ None
  ClosesWithin limit cs fs e (Some top) stack out = (q : List Frame × Parse) × (close limit fs e ≡ Some q) × StandsAfter cs q.0 q.1 stack out top

  abbrev pub ClosesLeft : Operator → List Opened → List Frame → Parse → Option LastTerm → List Entry → List Cell → Type 0
  ClosesLeft o cs fs e None stack out = closed_left o (close o.priority fs e) ≡ None
  ClosesLeft o cs fs e (Some top) stack out = (q : List Frame × Parse) × (closed_left o (close o.priority fs e) ≡ Some q) × StandsAfter cs q.0 q.1 stack out top

  abbrev pub ClosesAll : List Opened → List Frame → Parse → Option LastTerm → List Entry → List Cell → Type 0
  ClosesAll cs fs e None stack out = close_all fs e ≡ None
  ClosesAll cs fs e (Some top) stack out = (q : Parse) × (close_all fs e ≡ Some q) × StandsAfter cs [] q stack out top

  -- a frame of this operator, made of its left operand
  pub record Makes (o : Operator) (name : NameId) (frame : Parse → Frame) : Type 0 where
    pub entry_is : (e : Parse) → entry_of (frame e) ≡ Waits o name 2
    pub left_is : (e : Parse) → left_output num (frame e) ≡ output num e

  abbrev pub Joins : Operator → (Parse → Frame) → List Opened → List Frame → Parse → Bool → List Entry → List Cell → Type 0
  Joins o frame cs fs e false stack out = closed_left o (close o.priority fs e) ≡ None
  Joins o frame cs fs e true stack out = (q : List Frame × Parse) × (closed_left o (close o.priority fs e) ≡ Some q) × StandsBefore cs (frame q.1 ∷ q.0) stack out

  abbrev pub EndsTerm : Operator → List ℕ → List Opened → List Frame → Parse → Option LastTerm → List Entry → List Cell → Type 0
  EndsTerm o s cs fs e None stack out = closed_left o (close o.priority fs e) ≡ None
  EndsTerm o s cs fs e (Some top) stack out = (q : List Frame × Parse) × (closed_left o (close o.priority fs e) ≡ Some q) × StandsAfter cs q.0 (postfixed q.1 o s) stack out top

  -- a whole term between brackets, commas and bars
  pub record StandsWhole (cs : List Opened) (e : Parse) (stack : List Entry) (out : List Cell) : Type 0 where
    pub stack_is : stack ≡ base cs
    pub out_is : out ≡ base_out cs ++ output num e

  abbrev pub EndsWhole : ℕ → List Opened → List Frame → Parse → Bool → List Entry → List Cell → Type 0
  EndsWhole max cs fs e false stack out = within max (close_all fs e) ≡ None
  EndsWhole max cs fs e true stack out = (q : Parse) × (within max (close_all fs e) ≡ Some q) × StandsWhole cs q stack out

  -- the innermost bracket
  abbrev pub innermost : List Opened → Option Context
  innermost [] = None
  innermost (c ∷ cs) = Some (context_of c.0)

  -- what a comma does
  pub record NextArgument (cs : List Opened) (context : Context) : Type 0 where
    pub head : Head
    pub done : List Parse
    pub saved : List Frame
    pub outer : List Opened
    pub are : cs ≡ (in_arguments head done, saved) ∷ outer
    pub grown : (e : Parse) → context_of (in_arguments head (done ++ e ∷ [])) ≡ context

  abbrev pub CommaDoes : List Opened → CommaKind → Type 0
  CommaDoes cs Joining = (fs : List Frame) (e : Parse) → after_comma cs fs e ≡ waits_right cs (closed_left comma_op (close comma_op.priority fs e))
  CommaDoes cs (Argument context) = NextArgument cs context
  CommaDoes cs Misplaced = (fs : List Frame) (e : Parse) → after_comma cs fs e ≡ None

  pub record NextTail (cs : List Opened) (context : Context) : Type 0 where
    pub done : List Parse
    pub saved : List Frame
    pub outer : List Opened
    pub are : cs ≡ (in_arguments of_list done, saved) ∷ outer
    pub grown : (e : Parse) → context_of (in_tail done e) ≡ context

  abbrev pub BarDoes : List Opened → Option Context → Type 0
  BarDoes cs (Some context) = NextTail cs context
  BarDoes cs None = (fs : List Frame) (e : Parse) → after_bar cs fs e ≡ None

  pub record StandsOpen (cs : List Opened) (fs : List Frame) (stack : List Entry) (contexts : List Context) (out : List Cell) : Type 0 where
    pub before : StandsBefore cs fs stack out
    pub contexts_are : contexts ≡ contexts_of cs

  -- what follows a comma or a bar
  abbrev pub GoesOn : Option (List Opened × List Frame) → Bool → List Entry → List Context → List Cell → Type 0
  GoesOn r false stack contexts out = r ≡ None
  GoesOn r true stack contexts out = (p : List Opened × List Frame) × (r ≡ Some p) × StandsOpen p.0 p.1 stack contexts out

  pub record AreNames (names : GrammarNames) : Type 0 where
    pub comma_is : names.comma ≡ id num (codes ",")
    pub nil_is : names.nil ≡ id num (codes "[]")
    pub curly_is : names.curly ≡ id num (codes "{}")
    pub dot_is : names.dot ≡ id num (codes ".")

-- which brackets end which
abbrev pub bracket_of : BracketKind → Bracket
bracket_of RoundPair = round
bracket_of CurlyPair = curly
bracket_of SquarePair = square

abbrev pub ends_bracket : Bracket → Open → Bool
ends_bracket round in_round = true
ends_bracket round in_curly = false
ends_bracket round (in_arguments (of_call s) done) = true
ends_bracket round (in_arguments of_list done) = false
ends_bracket round (in_tail done last) = false
ends_bracket curly in_round = false
ends_bracket curly in_curly = true
ends_bracket curly (in_arguments h done) = false
ends_bracket curly (in_tail done last) = false
ends_bracket square in_round = false
ends_bracket square in_curly = false
ends_bracket square (in_arguments (of_call s) done) = false
ends_bracket square (in_arguments of_list done) = true
ends_bracket square (in_tail done last) = true

abbrev pub greatest_inside : Open → ℕ
greatest_inside in_round = max_priority
greatest_inside in_curly = max_priority
greatest_inside (in_arguments h done) = argument_priority
greatest_inside (in_tail done last) = argument_priority

-- what the brackets make of the last term in them
abbrev pub bracketed : Open → Parse → Option Parse
bracketed in_round e = Some (grouped e)
bracketed in_curly e = Some (braced e)
bracketed (in_arguments (of_call s) done) e = when (nat_le (arity (with_front done (one e))) max_arity) (Some (called s (with_front done (one e))))
bracketed (in_arguments of_list done) e = Some (listed (with_front done (one e)))
bracketed (in_tail done last) e = Some (listed_to (with_front done (one last)) e)

abbrev pub dots : NameId → ℕ → List Cell
dots dot zero = []
dots dot (suc n) = Comp dot 2 ∷ dots dot n

module _ (num : List ℕ → ℕ) where
  -- what stands behind the last term in brackets, after the cells b
  abbrev pub Brackets : Open → Parse → List Cell → Bool → List Cell → Type 0
  Brackets o q b false out = bracketed o q ≡ None
  Brackets o q b true out = (x : Parse) × (bracketed o q ≡ Some x) × (out ≡ b ++ output num x) × (priority x ≡ 0) × (weight x ≡ 0)

  abbrev pub ClosesBracket : Option (List Opened × List Frame × Parse) → Bool → List Entry → List Context → List Cell → Type 0
  ClosesBracket r false stack contexts out = r ≡ None
  ClosesBracket r true stack contexts out = (p : List Opened × List Frame × Parse) × (r ≡ Some p) × (contexts ≡ contexts_of num p.0) × StandsAfter num p.0 p.1 p.2 stack out (record { priority = 0; weight = 0 })

abbrev pub closed_in : List Opened → List Frame → Option Parse → Option (List Opened × List Frame × Parse)
closed_in cs fs None = None
closed_in cs fs (Some x) = Some (cs, fs, x)

-- a closing bracket after a term
abbrev pub after_bracket : Bracket → List Opened → List Frame → Parse → Option (List Opened × List Frame × Parse)
after_bracket k [] fs e = None
after_bracket k (c ∷ cs) fs e = closed_in cs c.1 (closing k c.0 (close_all fs e))

-- items by name numbers
module _ (num : List ℕ → ℕ) where
  abbrev pub ItemIs : ParseItem → Item → Type 0
  ItemIs (Operand c) (operand t) = behind num t ≡ c ∷ []
  ItemIs (Before o n) (before p s) = (o ≡ p) × (n ≡ id num s)
  ItemIs (Between o n) (between p s) = (o ≡ p) × (n ≡ id num s)
  ItemIs (After o n) (after p s) = (o ≡ p) × (n ≡ id num s)
  ItemIs Comma comma = Unit {0}
  ItemIs Bar bar = Unit {0}
  ItemIs (Calls n) (calls s) = n ≡ id num s
  ItemIs (Opens b) (opens c) = bracket_of b ≡ c
  ItemIs (Closes b) (closes c) = bracket_of b ≡ c
  ItemIs _ _ = ⊥

  -- what an item does, as a function of the items after it
  abbrev pub Steps : (List Item → Option Parse) → Stepped → List Entry → List Context → List Cell → Type 0
  Steps F Fails stack contexts out = (is : List Item) → F is ≡ None
  Steps F ToOperand stack contexts out = (p : List Opened × List Frame) × ((is : List Item) → F is ≡ run p.0 p.1 None is) × StandsOpen num p.0 p.1 stack contexts out
  Steps F (ToOperator top) stack contexts out = (p : List Opened × List Frame × Parse) × ((is : List Item) → F is ≡ run p.0 p.1 (Some p.2) is) × (contexts ≡ contexts_of num p.0) × StandsAfter num p.0 p.1 p.2 stack out top

  -- what comes of no more items
  abbrev pub Finishes : (List Item → Option Parse) → Bool → List Cell → Type 0
  Finishes F false out = F [] ≡ None
  Finishes F true out = (e : Parse) × (F [] ≡ Some e) × (out ≡ output num e)
