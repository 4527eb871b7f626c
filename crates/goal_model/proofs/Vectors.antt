-- Worked runs.
use Rattle.std.proofs.Common.{◌≡◌, ℕ, negsuc, Bool, true, false, Option, List, [], ◌∷◌, codes, refl, Some, None}
use Rattle.pl_terms.specs.Trees.{Tree, var, int}
use Rattle.pl_ops.specs.Standard.{standard}
use Rattle.unit_model.specs.Builtins.{builtins}
use Rattle.solver_model.specs.Search.{Event, Out, Ans, Failed, Thrown, Halted, Spent}
use Rattle.builtin_model.specs.Faults.{instantiation, fault_tree}
use Rattle.builtin_model.specs.Lists.{list_tree}
use Rattle.goal_model.specs.Program.{Clause, Program}
use Rattle.goal_model.specs.Bodies.{not_callable}
use Rattle.goal_model.specs.Rows.{row_of}
use Rattle.goal_model.specs.Table.{no_module, no_procedure}
use Rattle.goal_model.proofs.Worked.{Procedure, n, at, num, one, two, three, both, program, clause, fact, own, empty, run, shows}

abbrev X : Tree ℕ
X = var 0

abbrev Y : Tree ℕ
Y = var 1

abbrev cut : Tree ℕ
cut = at (codes "!")

abbrev truth : Tree ℕ
truth = at (codes "true")

abbrev failure : Tree ℕ
failure = at (codes "fail")

abbrev unify : Tree ℕ → Tree ℕ → Tree ℕ
unify = two (codes "=")

abbrev catch : Tree ℕ → Tree ℕ → Tree ℕ → Tree ℕ
catch = three (codes "catch")

abbrev throw : Tree ℕ → Tree ℕ
throw = one (codes "throw")

abbrev or : Tree ℕ → Tree ℕ → Tree ℕ
or = two (codes ";")

abbrev write : List ℕ → Tree ℕ
write s = one (codes "write") (at s)

abbrev answer : Tree ℕ → Event (List (Tree ℕ))
answer t = Ans (t ∷ [])

-- the answer of a goal without variables
abbrev yes : Event (List (Tree ℕ))
yes = Ans []

abbrev two_facts : Program ℕ
two_facts = program (codes "user" ∷ []) (own (codes "p") 1 (fact (one (codes "p") (num 1)) ∷ fact (one (codes "p") (num 2)) ∷ []) ∷ [])

facts : run two_facts (one (codes "p") X) 100 ≡ shows (answer (num 1) ∷ answer (num 2) ∷ []) 99 Failed
unfolding builtins row_of
facts = refl

answer_costs_nothing : run empty truth 1 ≡ shows (yes ∷ []) 0 Failed
unfolding builtins row_of
answer_costs_nothing = refl

no_step : run empty truth 0 ≡ shows [] 0 Spent
unfolding builtins row_of
no_step = refl

abbrev loop : Program ℕ
loop = program (codes "user" ∷ []) (own (codes "p") 0 (clause 0 (at (codes "p")) (at (codes "p")) ∷ []) ∷ [])

endless : run loop (at (codes "p")) 1000 ≡ shows [] 0 Spent
unfolding builtins row_of
endless = refl

repeated : run empty (both (at (codes "repeat")) failure) 5 ≡ shows [] 0 Spent
unfolding builtins row_of
repeated = refl

abbrev twice : Procedure
twice = record {
  of = n.name (codes "m");
  indicator = record { name = n.name (codes "twice"); arity = 1 };
  seen_in = n.name (codes "m") ∷ n.name (codes "user") ∷ [];
  modes = Some (true ∷ []);
  clauses = clause 1 (one (codes "twice") (var 0)) (both (one (codes "call") (var 0)) (one (codes "call") (var 0))) ∷ [];
}

-- g of a module writes its name
abbrev writer : List ℕ → Procedure
writer m = record {
  of = n.name m;
  indicator = record { name = n.name (codes "g"); arity = 0 };
  seen_in = n.name m ∷ [];
  modes = None;
  clauses = clause 0 (at (codes "g")) (write m) ∷ [];
}

abbrev calling : Program ℕ
calling = program (codes "user" ∷ codes "m" ∷ []) (twice ∷ writer (codes "m") ∷ writer (codes "user") ∷ [])

abbrev twice_g : Tree ℕ
twice_g = one (codes "twice") (at (codes "g"))

-- twice(g) of m, called in user, runs the g of user
twice_in_its_caller : run calling twice_g 100 ≡ shows (Out (codes "user") ∷ Out (codes "user") ∷ yes ∷ []) 91 Failed
unfolding builtins row_of standard
twice_in_its_caller = refl

abbrev contexts : Program ℕ
contexts = program (codes "user" ∷ codes "m" ∷ codes "n" ∷ []) (twice ∷ writer (codes "n") ∷ [])

-- the goal is found in m, and its argument in n
context_is_no_lookup : run contexts (two (codes ":") (at (codes "m")) (two (codes "@") twice_g (at (codes "n")))) 100 ≡ shows (Out (codes "n") ∷ Out (codes "n") ∷ yes ∷ []) 89 Failed
unfolding builtins row_of standard
context_is_no_lookup = refl

abbrev g_in_m : Tree ℕ
g_in_m = no_procedure n (n.name (codes "g")) 0 (n.name (codes "m"))

module_is_the_context : run contexts (two (codes ":") (at (codes "m")) twice_g) 100 ≡ shows [] 95 (Thrown g_in_m [])
unfolding builtins row_of
module_is_the_context = refl

inner_module_wins : run contexts (two (codes "@") (two (codes ":") (at (codes "m")) twice_g) (at (codes "n"))) 100 ≡ shows [] 94 (Thrown g_in_m [])
unfolding builtins row_of
inner_module_wins = refl

catch_has_exited : run empty (both (catch truth X truth) (throw (at (codes "oops")))) 9 ≡ shows [] 6 (Thrown (at (codes "oops")) [])
unfolding builtins row_of
catch_has_exited = refl

caught : run empty (catch (throw (at (codes "a"))) X truth) 9 ≡ shows (answer (at (codes "a")) ∷ []) 6 Failed
unfolding builtins row_of
caught = refl

-- what was bound before the ball was thrown is not
bindings_are_undone : run empty (catch (both (unify X (num 1)) (throw (at (codes "a")))) Y truth) 9 ≡ shows (Ans (X ∷ at (codes "a") ∷ []) ∷ []) 5 Failed
unfolding builtins row_of
bindings_are_undone = refl

-- an error of the recovery is thrown outside the catch
recovery_is_not_callable : run empty (catch (throw (at (codes "a"))) X (num 1)) 9 ≡ shows [] 7 (Thrown (not_callable n (num 1) (n.name (codes "catch")) 3) [])
unfolding builtins row_of
recovery_is_not_callable = refl

-- an error of the goal is thrown inside it
caught_goal_is_not_callable : run empty (catch (num 1) X truth) 9 ≡ shows (answer (not_callable n (num 1) (n.name (codes "catch")) 3) ∷ []) 7 Failed
unfolding builtins row_of
caught_goal_is_not_callable = refl

cut_in_call : run empty (one (codes "call") (or (both cut failure) truth)) 9 ≡ shows [] 5 Failed
unfolding builtins row_of
cut_in_call = refl

negation_binds_nothing : run empty (both (one (codes "\\+") (one (codes "\\+") (unify X (num 1)))) (one (codes "var") X)) 9 ≡ shows (answer X ∷ []) 5 Failed
unfolding builtins row_of
negation_binds_nothing = refl

abbrev committed : Program ℕ
committed = program (codes "user" ∷ []) (own (codes "a") 1 (clause 0 (one (codes "a") (num 1)) cut ∷ fact (one (codes "a") (num 2)) ∷ []) ∷ [])

cut_in_a_clause : run committed (one (codes "a") X) 9 ≡ shows (answer (num 1) ∷ []) 7 Failed
unfolding builtins row_of
cut_in_a_clause = refl

cut_stays_in_call : run empty (or (both (one (codes "call") cut) failure) truth) 9 ≡ shows (yes ∷ []) 4 Failed
unfolding builtins row_of
cut_stays_in_call = refl

condition_commits : run empty (or (two (codes "->") (or (unify X (num 1)) (unify X (num 2))) truth) failure) 9 ≡ shows (answer (num 1) ∷ []) 5 Failed
unfolding builtins row_of
condition_commits = refl

otherwise : run empty (or (two (codes "->") failure truth) (unify X (num 3))) 9 ≡ shows (answer (num 3) ∷ []) 6 Failed
unfolding builtins row_of
otherwise = refl

once_commits : run empty (one (codes "once") (or (unify X (num 1)) (unify X (num 2)))) 9 ≡ shows (answer (num 1) ∷ []) 6 Failed
unfolding builtins row_of
once_commits = refl

no_infinite_term : run empty (unify X (one (codes "f") X)) 9 ≡ shows [] 8 Failed
unfolding builtins row_of
no_infinite_term = refl

abbrev writers : Program ℕ
writers = program (codes "user" ∷ []) (own (codes "a") 0 (clause 0 (at (codes "a")) (both (write (codes "x")) failure) ∷ clause 0 (at (codes "a")) (write (codes "y")) ∷ []) ∷ [])

output_stays : run writers (at (codes "a")) 9 ≡ shows (Out (codes "x") ∷ Out (codes "y") ∷ yes ∷ []) 5 Failed
unfolding builtins row_of standard
output_stays = refl

integer_is_no_goal : run empty (num 1) 9 ≡ shows [] 9 (Thrown (not_callable n (num 1) (n.name (codes "call")) 1) [])
unfolding builtins row_of
integer_is_no_goal = refl

variable_is_no_goal : run empty X 9 ≡ shows [] 9 (Thrown (fault_tree n instantiation (n.name (codes "call")) 1) [])
unfolding builtins row_of
variable_is_no_goal = refl

integer_in_a_conjunction : run empty (both truth (num 1)) 9 ≡ shows [] 9 (Thrown (not_callable n (both truth (num 1)) (n.name (codes "call")) 1) [])
unfolding builtins row_of
integer_in_a_conjunction = refl

unknown_procedure : run empty (at (codes "p")) 9 ≡ shows [] 8 (Thrown (no_procedure n (n.name (codes "p")) 0 (n.name (codes "user"))) [])
unfolding builtins row_of
unknown_procedure = refl

unknown_module : run empty (two (codes ":") (at (codes "nomod")) truth) 9 ≡ shows [] 8 (Thrown (no_module n (n.name (codes "nomod")) (n.name (codes "user"))) [])
unfolding builtins row_of
unknown_module = refl

ball_is_numbered : run empty (throw (three (codes "f") (var 1) (var 0) (var 1))) 9 ≡ shows [] 8 (Thrown (three (codes "f") (var 0) (var 1) (var 0)) [])
unfolding builtins row_of
ball_is_numbered = refl

abbrev list : List (Tree ℕ) → Tree ℕ
list = list_tree n

answers_are_renamed : run empty (three (codes "findall") (two (codes "-") X Y) (or (unify X (num 1)) (unify X (num 2))) (var 2)) 9 ≡ shows (Ans (X ∷ Y ∷ list (two (codes "-") (num 1) (var 3) ∷ two (codes "-") (num 2) (var 4) ∷ []) ∷ []) ∷ []) 5 Failed
unfolding builtins row_of
answers_are_renamed = refl

-- call(m:twice, g)
arguments_are_added : run contexts (two (codes "call") (two (codes ":") (at (codes "m")) (at (codes "twice"))) (at (codes "g"))) 100 ≡ shows [] 94 (Thrown g_in_m [])
unfolding builtins row_of
arguments_are_added = refl

halted : run empty (or (one (codes "halt") (int (negsuc 0))) truth) 9 ≡ shows [] 7 (Halted (negsuc 0))
unfolding builtins row_of
halted = refl

-- a goal among the arguments of call is looked up in the calling context
argument_runs_in_the_context : run contexts (two (codes "@") (one (codes "call") (at (codes "g"))) (at (codes "n"))) 9 ≡ shows (Out (codes "n") ∷ yes ∷ []) 5 Failed
unfolding builtins row_of standard
argument_runs_in_the_context = refl

unknown_in_its_lookup_module : run contexts (two (codes "@") (at (codes "g")) (at (codes "n"))) 9 ≡ shows [] 7 (Thrown (no_procedure n (n.name (codes "g")) 0 (n.name (codes "user"))) [])
unfolding builtins row_of
unknown_in_its_lookup_module = refl

ball_is_renamed : run empty (catch (throw (one (codes "f") X)) Y truth) 9 ≡ shows (Ans (X ∷ one (codes "f") (var 2) ∷ []) ∷ []) 6 Failed
unfolding builtins row_of
ball_is_renamed = refl

nested_search_throws : run empty (catch (three (codes "findall") X (both (catch truth Y truth) (throw (at (codes "oops")))) X) Y truth) 9 ≡ shows (Ans (X ∷ at (codes "oops") ∷ []) ∷ []) 3 Failed
unfolding builtins row_of
nested_search_throws = refl

-- a procedure of k, which user sees, with one clause
abbrev of_k : List ℕ → ℕ → Option (List Bool) → Clause ℕ → Procedure
of_k s k modes c = record { of = n.name (codes "k"); indicator = record { name = n.name s; arity = k }; seen_in = n.name (codes "k") ∷ n.name (codes "user") ∷ []; modes = modes; clauses = c ∷ [] }

abbrev telling : Program ℕ
telling = program (codes "user" ∷ codes "k" ∷ []) (
    of_k (codes "who") 1 None (clause 1 (one (codes "who") (var 0)) (one (codes "calling_context") (var 0)))
    ∷ of_k (codes "whom") 2 (Some (true ∷ false ∷ [])) (clause 2 (two (codes "whom") (var 0) (var 1)) (one (codes "calling_context") (var 1)))
    ∷ [])

-- the caller of a metapredicate is its calling context, and that of another procedure its own module
callers : run telling (both (one (codes "who") X) (two (codes "whom") (at (codes "a")) Y)) 9 ≡ shows (Ans (at (codes "k") ∷ at (codes "user") ∷ []) ∷ []) 5 Failed
unfolding builtins row_of
callers = refl

abbrev consed : Tree ℕ → Tree ℕ → Tree ℕ
consed = two (codes ".")

abbrev member : Tree ℕ → Tree ℕ → Tree ℕ
member = two (codes "member")

abbrev members : Program ℕ
members = program (codes "user" ∷ []) (
    own (codes "member") 2 (
    clause 2 (member (var 0) (consed (var 0) (var 1))) truth
    ∷ clause 3 (member (var 0) (consed (var 1) (var 2))) (member (var 0) (var 2))
    ∷ [])
    ∷ [])

abbrev pair : ℕ → ℕ → Tree ℕ
pair i j = two (codes "-") (var i) (var j)

-- each answer has variables of its own
answers_of_clauses : run members (three (codes "findall") (pair 0 1) (or (member (var 0) (list (var 2 ∷ var 1 ∷ var 3 ∷ []))) (unify (var 0) (var 1))) (var 4)) 100 ≡ shows (Ans (var 0 ∷ var 1 ∷ var 2 ∷ var 3 ∷ list (pair 5 6 ∷ pair 7 7 ∷ pair 8 9 ∷ pair 10 10 ∷ []) ∷ []) ∷ []) 93 Failed
unfolding builtins row_of
answers_of_clauses = refl

abbrev f_of : ℕ → ℕ → ℕ → Tree ℕ
f_of i j k = three (codes "f") (var i) (var j) (var k)

-- its answers are lost, and its bindings undone
thrown_out_of_a_nested_search : run empty (catch (three (codes "findall") (var 0) (or (unify (var 0) (num 1)) (throw (f_of 0 1 2))) (var 3)) (f_of 4 5 6) (or (unify (var 4) (var 5)) truth)) 100 ≡ shows (Ans (var 0 ∷ var 1 ∷ var 2 ∷ var 3 ∷ var 4 ∷ var 4 ∷ var 6 ∷ []) ∷ Ans (var 0 ∷ var 1 ∷ var 2 ∷ var 3 ∷ var 4 ∷ var 5 ∷ var 6 ∷ []) ∷ []) 92 Failed
unfolding builtins row_of
thrown_out_of_a_nested_search = refl

cut_in_a_called_goal : run empty (both (two (codes "call") (at (codes "call")) (or (both (unify X (num 1)) cut) (unify X (num 2)))) (unify Y X)) 9 ≡ shows (Ans (num 1 ∷ num 1 ∷ []) ∷ []) 3 Failed
unfolding builtins row_of
cut_in_a_called_goal = refl

abbrev conditions : Program ℕ
conditions = program (codes "user" ∷ []) (
    own (codes "a") 0 (clause 0 (at (codes "a")) (or (two (codes "->") (at (codes "b")) (at (codes "c"))) (at (codes "d"))) ∷ [])
    ∷ own (codes "b") 0 (fact (at (codes "b")) ∷ fact (at (codes "b")) ∷ [])
    ∷ own (codes "c") 0 (fact (at (codes "c")) ∷ fact (at (codes "c")) ∷ [])
    ∷ own (codes "d") 0 (fact (at (codes "d")) ∷ [])
    ∷ [])

-- the condition commits, and what follows it does not
condition_in_a_clause : run conditions (both (at (codes "a")) (unify X (num 1))) 9 ≡ shows (answer (num 1) ∷ answer (num 1) ∷ []) 3 Failed
unfolding builtins row_of
condition_in_a_clause = refl
