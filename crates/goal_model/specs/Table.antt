-- What each goal does (ISO/IEC 13211-1, 7.8): its alternatives, in the environment in which it runs.
use Rattle.std.specs.Prelude.{ℕ, ◌+◌, List, [], ◌∷◌, ◌++◌, length, map, codes, Bool, Option, Some, None, is_some, Result, Ok, Err, if◌then◌else◌}
use Rattle.pl_terms.specs.Trees.{Tree, var, atom, comp, Trees, nil, count}
use Rattle.pl_terms.specs.Occurrence.{variables, canon}
use Rattle.unit_model.specs.Facts.{Indicator}
use Rattle.unifier_model.specs.Substitution.{apply, raise}
use Rattle.unifier_model.specs.Mgu.{unifier}
use Rattle.solver_model.specs.Search.{Item, Event, State, Point, Activation, Call, Cut, Pop, Fail, Out, Failed, Thrown, Halted, At, Over, Tries, Catches, Collects, Ends, Opens, Language, pops}
use Rattle.solver_model.specs.Tables.{Table, language}
use Rattle.builtin_model.specs.Naming.{Naming}
use Rattle.builtin_model.specs.Faults.{instantiation, type_fault, fault_tree, named, term_of_two, indicator}
use Rattle.builtin_model.specs.declared.error.Expected.TheVariants as E
use Rattle.builtin_model.specs.Lists.{Listing, improper, listing, list_tree}
use Rattle.builtin_model.specs.Deeds.{Deed, equal, differ, no, raise as raises, halt, deed}
use Rattle.builtin_model.specs.Output.{output}
use Rattle.goal_model.specs.Program.{Clause, Clauses, Program}
use Rattle.goal_model.specs.Environments.{Environment, argument_place, body_place, qualified}
use Rattle.goal_model.specs.Bodies.{Goal, is_named, goal_of, called, flat}
use Rattle.goal_model.specs.Rows.{Row, commit, if_then_else, if_then, either, negation, once, calling, in_module, from_context, repeat, throwing, catching, collecting, plain, user, row_of, name_of, arity_of}

-- what a search has beside its items: the terms whose values are an answer, and the number of the next new variable
pub record World (N : Type 0) : Type 0 where
  pub template : List (Tree N)
  pub next : ℕ

abbrev pub Items : Type 0 → Type 0
Items N = List (Item (Goal N))

abbrev pub Place : Type 0 → Type 0
Place N = State (Goal N) (World N)

-- a goal whose clauses are tried: the goal with its arguments qualified, where the bodies run, and what stands after it
pub record Resolution (N : Type 0) : Type 0 where
  pub depth : ℕ
  pub goal : Tree N
  pub env : Environment N
  pub rest : Items N
  pub world : World N

pub data Alternative (N : Type 0) : Type 0 where
  leads : Place N → Alternative N
  -- by a clause, where its head and the goal have a unifier
  resolves : Resolution N → Clause N → Alternative N

-- a catch: its catcher and recovery, where that runs, and what stands after it
pub record Recovery (N : Type 0) : Type 0 where
  pub depth : ℕ
  pub catcher : Tree N
  pub recovery : Tree N
  -- the name of the construct, for the errors of the recovery
  pub name : N
  pub env : Environment N
  pub rest : Items N
  pub world : World N

-- a findall: the term that becomes the list of its answers, and what stands after it
pub record Gathering (N : Type 0) : Type 0 where
  pub depth : ℕ
  pub list : Tree N
  pub rest : Items N
  pub world : World N

abbrev pub Moved : Type 0 → Type 0
Moved N = Activation (Goal N) (World N) (Alternative N) (Recovery N) (Gathering N) (List (Tree N)) (Tree N)

-- ---- states

abbrev pub item_under : {N : Type 0} → List (ℕ × Tree N) → Item (Goal N) → Item (Goal N)
item_under bs (Call g) = Call (record { tree = apply bs g.tree; env = g.env; reach = g.reach })
item_under bs (Cut d) = Cut d
item_under bs (Pop d) = Pop d
item_under bs Fail = Fail

-- the search of items in a node of depth e
abbrev pub place : {N : Type 0} → ℕ → Items N → World N → Place N
place e items w = record { depth = e + 1; items = items; world = w }

-- the same under replacements, where the next new variable is another
abbrev pub place_under : {N : Type 0} → ℕ → List (ℕ × Tree N) → Items N → World N → ℕ → Place N
place_under e bs items w next = place e (map (item_under bs) items) (record { template = map (apply bs) w.template; next = next })

-- a copy with new variables, numbered from the next one on in order of first occurrence
abbrev pub copy_from : {N : Type 0} → ℕ → Tree N → Tree N
copy_from next t = raise next (canon t)

abbrev pub variable_count : {N : Type 0} → Tree N → ℕ
variable_count t = length (variables t)

abbrev pub node : {N : Type 0} → ℕ → List (Alternative N) → Moved N
node e alternatives = Opens [] (Over Failed) (Tries e alternatives)

-- a ball, with its variables numbered from 0
abbrev pub raised : {N : Type 0} → Tree N → Items N → Moved N
raised ball rest = Ends [] (Thrown (canon ball) (pops rest))

abbrev pub unless_raised : {A N : Type 0} → Result A (Tree N) → Items N → (A → Moved N) → Moved N
unless_raised (Ok a) rest go = go a
unless_raised (Err ball) rest go = raised ball rest

-- the one alternative of a goal that binds variables, where the replacements are given
abbrev pub bound : {N : Type 0} → ℕ → Option (List (ℕ × Tree N)) → Items N → World N → ℕ → List (Alternative N)
bound e None rest w next = []
bound e (Some bs) rest w next = leads (place_under e bs rest w next) ∷ []

-- what is written, where that is something
abbrev pub shown : {N : Type 0} → List ℕ → List (Event (List (Tree N)))
shown [] = []
shown (b ∷ bytes) = Out (b ∷ bytes) ∷ []

-- answers renamed one after the other from the next new variable on, and the number of the next one then
abbrev pub copies : {N : Type 0} → ℕ → List (Tree N) → List (Tree N) × ℕ
copies next [] = ([], next)
copies next (t ∷ ts) = let r = copies (next + variable_count t) ts in (copy_from next t ∷ r.0, r.1)

-- an alternative that binds nothing
abbrev pub on : {N : Type 0} → ℕ → World N → Items N → Alternative N
on e w items = leads (place e items w)

-- an alternative only where the replacements are none
abbrev pub apart : {N : Type 0} → ℕ → Option (List (ℕ × Tree N)) → Items N → World N → List (Alternative N)
apart e None rest w = on e w rest ∷ []
apart e (Some bs) rest w = []

abbrev pub goal_tree : {N : Type 0} → N → Trees N → Tree N
goal_tree s nil = atom s
goal_tree s ts = comp s ts

module _ {N : Type 0} (n : Naming N) where
  -- the term of an answer of a nested search
  abbrev pub answer_term : List (Tree N) → Tree N
  answer_term [] = list_tree n []
  answer_term (t ∷ ts) = t

  -- no goal where a clause's body is true
  abbrev pub body_items : Tree N → Environment N → ℕ → Items N
  body_items (atom s) env e = if is_named n s (codes "true") then [] else flat n (atom s) env e
  body_items t env e = flat n t env e

  -- ---- alternatives

  abbrev pub resolved : Resolution N → Clause N → Clauses N → Option (List (ℕ × Tree N)) → Option (Place N × Clauses N)
  resolved r clause c None = None
  resolved r clause c (Some bs) =
      Some (place_under r.depth bs (body_items (raise r.world.next clause.body) r.env r.depth ++ r.rest) r.world (r.world.next + clause.width), c)

  -- ---- recoveries

  abbrev pub recovery_point : Recovery N → Result (Tree N) (Tree N) → List (ℕ × Tree N) → ℕ → Point (Goal N) (World N) (Tree N)
  recovery_point r (Err ball) bs next = Over (Thrown (canon ball) (pops r.rest))
  recovery_point r (Ok t) bs next = At (place_under r.depth bs (flat n t r.env (r.depth + 1) ++ r.rest) r.world next)

  abbrev pub recovered : Recovery N → ℕ → Option (List (ℕ × Tree N)) → Option (Point (Goal N) (World N) (Tree N))
  recovered r next None = None
  recovered r next (Some bs) = Some (recovery_point r (goal_of n (apply bs r.recovery) r.name 3) bs next)

  -- ---- answers of nested searches

  abbrev pub gathered : Gathering N → ℕ → Option (List (ℕ × Tree N)) → Point (Goal N) (World N) (Tree N)
  gathered f next None = Over Failed
  gathered f next (Some bs) = At (place_under f.depth bs f.rest f.world next)

  -- ---- balls of errors

  -- error(existence_error(module, M), L)
  abbrev pub no_module : N → N → Tree N
  no_module m lookup =
      term_of_two n (codes "error") (term_of_two n (codes "existence_error") (named n (codes "module")) (atom m)) (atom lookup)

  -- error(existence_error(procedure, N/A), L)
  abbrev pub no_procedure : N → ℕ → N → Tree N
  no_procedure f k lookup =
      term_of_two n (codes "error") (term_of_two n (codes "existence_error") (named n (codes "procedure")) (indicator n f k)) (atom lookup)

  -- the list that answers are to be must be a list or a partial list
  abbrev pub list_fault : Listing N → Tree N → N → ℕ → Result (Tree N) (Tree N)
  list_fault improper z f k = Err (fault_tree n (type_fault E.List z) f k)
  list_fault _ z f k = Ok z

  abbrev pub ball_of : Tree N → N → ℕ → Tree N
  ball_of (var v) f k = fault_tree n instantiation f k
  ball_of t f k = t

  -- ---- procedures of the program

  abbrev pub arguments_in : N → Option (List Bool) → Trees N → Trees N
  arguments_in context None ts = ts
  arguments_in context (Some modes) ts = qualified n modes context ts

  -- a goal s(ts..) whose procedure is that of d
  abbrev pub resolution : ℕ → Goal N → Items N → World N → N → N → Trees N → Option (List Bool) → Resolution N
  resolution e g rest w d s ts modes = record {
    depth = e;
    goal = goal_tree s (arguments_in g.env.context modes ts);
    env = body_place d g.env.context (is_some modes);
    rest = rest;
    world = w;
  }

  -- ---- control constructs

  -- the goal of a catch; an error of its conversion is thrown inside the catch
  abbrev pub caught : ℕ → Goal N → Items N → World N → Result (Tree N) (Tree N) → Point (Goal N) (World N) (Tree N)
  caught e g rest w (Err ball) = Over (Thrown (canon ball) (e ∷ pops rest))
  caught e g rest w (Ok t) = At (place e (flat n t (argument_place g.env) (e + 1) ++ (Pop e ∷ rest)) w)

  module _ (p : Program N) where
    -- the module that a term names, for the construct f with k arguments
    abbrev pub module_of : Tree N → N → N → ℕ → Result N (Tree N)
    module_of (var v) lookup f k = Err (fault_tree n instantiation f k)
    module_of (atom m) lookup f k = if p.exists m then Ok m else Err (no_module m lookup)
    module_of t lookup f k = Err (fault_tree n (type_fault E.Atom t) f k)

    -- one alternative for each clause of the definer, in their order
    abbrev pub by_clauses : ℕ → Goal N → Items N → World N → Clauses N → N → Trees N → Option N → Moved N
    by_clauses e g rest w c s ts None = raised (no_procedure s (count ts) g.env.lookup) rest
    by_clauses e g rest w c s ts (Some d) =
        let i : Indicator N = record { name = s; arity = count ts } in
        node e (map (resolves (resolution e g rest w d s ts (p.modes d i))) (c d i))

-- What looks at names to compare them: `same` tells whether two are one.
module _ {N : Type 0} (n : Naming N) (same : N → N → Bool) where
  abbrev pub attempt : Alternative N → Clauses N → Option (Place N × Clauses N)
  attempt (leads s) c = Some (s, c)
  attempt (resolves r clause) c = resolved n r clause c (unifier same ((r.goal, raise r.world.next clause.head) ∷ []))

  -- the ball is renamed from the next new variable of the catch on
  abbrev pub recover : Recovery N → Tree N → Option (Point (Goal N) (World N) (Tree N))
  recover r ball = recovered n r (r.world.next + variable_count ball) (unifier same ((copy_from r.world.next ball, r.catcher) ∷ []))

  abbrev pub gather : Gathering N → List (List (Tree N)) → Point (Goal N) (World N) (Tree N)
  gather f answers =
      let r = copies f.world.next (map (answer_term n) answers) in
      gathered n f r.1 (unifier same ((list_tree n r.0, f.list) ∷ []))

  -- a deed with its output, of the predicate f with k arguments, which is activated at depth e
  abbrev pub done : ℕ → N → ℕ → Items N → World N → List ℕ → Deed N → Moved N
  done e f k rest w bytes (equal es new) = Opens (shown bytes) (Over Failed) (Tries e (bound e (unifier same es) rest w (w.next + new)))
  done e f k rest w bytes (differ t u) = Opens (shown bytes) (Over Failed) (Tries e (apart e (unifier same ((t, u) ∷ [])) rest w))
  done e f k rest w bytes no = Opens (shown bytes) (Over Failed) (Tries e [])
  done e f k rest w bytes (raises fault) = raised (fault_tree n fault f k) rest
  done e f k rest w bytes (halt z) = Ends (shown bytes) (Halted z)

  module _ (p : Program N) where
    -- what a goal does that is activated at depth e, with the items after it; f and k are its name and number of arguments
    module _ (e : ℕ) (g : Goal N) (f : N) (k : ℕ) (rest : Items N) (w : World N) (c : Clauses N) where
      -- a goal as call/1 runs it, and then the items
      abbrev pub running : Tree N → Environment N → Items N → Alternative N
      running t env items = on e w (flat n t env (e + 1) ++ items)

      abbrev pub row : Row N → Moved N
      row commit = node e (on e w (Cut g.reach ∷ rest) ∷ [])
      row (if_then_else i t u) =
          node e (on e w (flat n i g.env (e + 1) ++ (Cut e ∷ (flat n t g.env g.reach ++ rest))) ∷ on e w (flat n u g.env g.reach ++ rest) ∷ [])
      row (if_then i t) = node e (on e w (flat n i g.env (e + 1) ++ (Cut e ∷ (flat n t g.env g.reach ++ rest))) ∷ [])
      row (either t u) = node e (on e w (flat n t g.env g.reach ++ rest) ∷ on e w (flat n u g.env g.reach ++ rest) ∷ [])
      row (negation t) =
          unless_raised (goal_of n t f k) rest (λ b. node e (running b (argument_place g.env) (Cut e ∷ Fail ∷ rest) ∷ on e w rest ∷ []))
      row (once t) = unless_raised (goal_of n t f k) rest (λ b. node e (running b (argument_place g.env) (Cut e ∷ rest) ∷ []))
      row (calling t ts) = unless_raised (called n t ts f k) rest (λ b. node e (running b (argument_place g.env) rest ∷ []))
      row (in_module m t) =
          unless_raised (module_of n p m g.env.lookup f k) rest (λ d.
          unless_raised (goal_of n t f k) rest (λ b.
          node e (running b (record { lookup = d; context = d; caller = g.env.caller }) rest ∷ [])))
      row (from_context t m) =
          unless_raised (module_of n p m g.env.lookup f k) rest (λ d.
          unless_raised (goal_of n t f k) rest (λ b.
          node e (running b (record { lookup = g.env.lookup; context = d; caller = g.env.caller }) rest ∷ [])))
      row repeat = node e (on e w rest ∷ on e w (Call g ∷ rest) ∷ [])
      row (throwing t) = raised (ball_of n t f k) rest
      row (catching t x r) =
          Opens [] (caught n e g rest w (goal_of n t f k))
          (Catches e (record { depth = e; catcher = x; recovery = r; name = f; env = argument_place g.env; rest = rest; world = w }))
      row (collecting x t z) =
          unless_raised (list_fault n (listing n z) z f k) rest (λ z.
          unless_raised (goal_of n t f k) rest (λ b.
          Opens [] (At (place e (flat n b (argument_place g.env) (e + 1)) (record { template = x ∷ []; next = w.next })))
          (Collects e [] (record { depth = e; list = z; rest = rest; world = w }))))
      row (plain r ts) = done e f k rest w (output n r ts) (deed n r ts g.env.caller w.next)
      row (user s ts) = by_clauses n p e g rest w c s ts (p.visible g.env.lookup (record { name = s; arity = count ts }))

    abbrev pub activate : ℕ → Goal N → Items N → World N → Clauses N → Moved N
    activate e g rest w c = row e g (name_of n g.tree) (arity_of n g.tree) rest w c (row_of n g.tree)

    abbrev pub goals : Table (Goal N) (World N) (Alternative N) (Recovery N) (Gathering N) (List (Tree N)) (Tree N) (Clauses N)
    goals = record {
      attempt = attempt;
      recover = recover;
      gather = gather;
      active_of = λ f. pops f.rest;
      answer_of = λ w. w.template;
      cut = λ g. g.reach;
      activate = activate;
    }

    -- the language of Prolog's goals, over a program
    abbrev pub prolog : Language
    prolog = language goals
