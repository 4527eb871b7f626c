-- Each goal leads to no exit that is not among the items after it, but for the one that it brings itself.
use Rattle.std.proofs.Common.{◌≡◌, ℕ, ◌+◌, ◌<◌, Bool, true, false, ◌||◌, List, [], ◌∷◌, ◌++◌, Option, Some, None, Result, Ok, Err, refl, sym, ap, ◌∙◌, arith, map}
use Rattle.std.specs.Prelude.{nat_eq}
use Rattle.std.proofs.lemmas.Bool.{eqb-true}
use Rattle.pl_terms.specs.Trees.{Tree, count}
use Rattle.unifier_model.specs.Substitution.{apply, raise}
use Rattle.unifier_model.specs.Mgu.{unifier}
use Rattle.solver_model.specs.Search.{Call, Cut, Pop, Fail, At, pops, has}
use Rattle.solver_model.specs.Guards.{Within, PointOk, AttemptOk, RecoverOk, AlternativesOk, ActivationOk, TableOk}
use Rattle.builtin_model.specs.Naming.{Naming}
use Rattle.builtin_model.specs.Lists.{listing, list_tree}
use Rattle.builtin_model.specs.Deeds.{Deed, equal, differ, no, raise as raises, halt, deed}
use Rattle.builtin_model.specs.Output.{output}
use Rattle.goal_model.specs.Program.{Clause, Clauses, Program}
use Rattle.goal_model.specs.Environments.{Environment, argument_place}
use Rattle.goal_model.specs.Bodies.{Goal, goal_of, called, flat}
use Rattle.goal_model.specs.Rows.{Row, commit, if_then_else, if_then, either, negation, once, calling, in_module, from_context, repeat, throwing, catching, collecting, plain, user, row_of, name_of, arity_of}
use Rattle.goal_model.specs.Table.{Items, World, Resolution, Recovery, Gathering, resolves, Moved, item_under, place, place_under, copy_from, variable_count, raised, unless_raised, bound, apart, copies, answer_term, body_items, resolved, recovery_point, recovered, gathered, list_fault, module_of, done, resolution, by_clauses, caught, row, prolog}
use Rattle.goal_model.proofs.ItemLaws.{pops-under, pops-flat, pops-goals, pops-body}

-- another exit in front, from e on, is of no matter below e
pub has-later : (e k : ℕ) (ps : List ℕ) → k < e → has (e ∷ ps) k ≡ true → has ps k ≡ true
has-later e k ps lt h = ap (λ b. b || has ps k) (sym (differs (nat_eq e k) refl)) ∙ h
  where
    differs : (b : Bool) → nat_eq e k ≡ b → nat_eq e k ≡ false
    differs true q = let same : e ≡ k = eqb-true e k q in absurd (omega arith)
    differs false q = q

module _ {N : Type 0} (n : Naming N) (same : N → N → Bool) (p : Program N) where
  module _ (e : ℕ) (rest : Items N) where
    within : (items : Items N) → pops items ≡ pops rest → Within e (pops items) (pops rest)
    within items h = λ k lt i. ap (λ l. has l k) (sym h) ∙ i

    guards : (items : Items N) (w : World N) → pops items ≡ pops rest → PointOk (prolog n same p) e (pops rest) (At (place e items w))
    guards items w h = (omega arith, within items h)

    guards_under : (bs : List (ℕ × Tree N)) (items : Items N) (w : World N) (next : ℕ) → pops items ≡ pops rest → PointOk (prolog n same p) e (pops rest) (At (place_under e bs items w next))
    guards_under bs items w next h = (omega arith, within (map (item_under bs) items) (pops-under bs items ∙ h))

    raised_ok : (ball : Tree N) → ActivationOk (prolog n same p) e (pops rest) (raised ball rest)
    raised_ok ball = λ k lt h. h

    unless_ok : {A : Type 0} (a : Result A (Tree N)) (go : A → Moved N) → ((x : A) → ActivationOk (prolog n same p) e (pops rest) (go x)) → ActivationOk (prolog n same p) e (pops rest) (unless_raised a rest go)
    unless_ok (Ok x) go h = h x
    unless_ok (Err ball) go h = raised_ok ball

    bound_ok : (o : Option (List (ℕ × Tree N))) (w : World N) (next : ℕ) → AlternativesOk (prolog n same p) e (pops rest) (bound e o rest w next)
    bound_ok None w next = tt
    bound_ok (Some bs) w next = (λ _. guards_under bs rest w next refl, tt)

  resolved_ok : (r : Resolution N) (clause : Clause N) (c : Clauses N) (o : Option (List (ℕ × Tree N))) → AttemptOk (prolog n same p) r.depth (pops r.rest) (resolved n r clause c o)
  resolved_ok r clause c None = tt
  resolved_ok r clause c (Some bs) =
      let body = raise r.world.next clause.body in
      guards_under r.depth r.rest bs (body_items n body r.env r.depth ++ r.rest) r.world (r.world.next + clause.width) (pops-body n body r.env r.depth r.rest)

  clauses_ok : (r : Resolution N) (cs : List (Clause N)) → AlternativesOk (prolog n same p) r.depth (pops r.rest) (map (resolves r) cs)
  clauses_ok r [] = tt
  clauses_ok r (clause ∷ cs) = (λ c. resolved_ok r clause c (unifier same ((r.goal, raise r.world.next clause.head) ∷ [])), clauses_ok r cs)

  recovery_ok : (r : Recovery N) (t : Result (Tree N) (Tree N)) (bs : List (ℕ × Tree N)) (next : ℕ) → PointOk (prolog n same p) r.depth (pops r.rest) (recovery_point n r t bs next)
  recovery_ok r (Err ball) bs next = λ k lt h. h
  recovery_ok r (Ok t) bs next =
      guards_under r.depth r.rest bs (flat n t r.env (r.depth + 1) ++ r.rest) r.world next (pops-flat n t r.env (r.depth + 1) r.rest)

  recover_ok : (r : Recovery N) (next : ℕ) (o : Option (List (ℕ × Tree N))) → RecoverOk (prolog n same p) r.depth (pops r.rest) (recovered n r next o)
  recover_ok r next None = tt
  recover_ok r next (Some bs) = recovery_ok r (goal_of n (apply bs r.recovery) r.name 3) bs next

  gather_ok : (f : Gathering N) (next : ℕ) (o : Option (List (ℕ × Tree N))) → PointOk (prolog n same p) f.depth (pops f.rest) (gathered n f next o)
  gather_ok f next None = tt
  gather_ok f next (Some bs) = guards_under f.depth f.rest bs f.rest f.world next refl

  module _ (e : ℕ) (g : Goal N) (f : N) (k : ℕ) (rest : Items N) (w : World N) (c : Clauses N) where
    differ_ok : (o : Option (List (ℕ × Tree N))) → AlternativesOk (prolog n same p) e (pops rest) (apart e o rest w)
    differ_ok None = (λ _. guards e rest rest w refl, tt)
    differ_ok (Some bs) = tt

    done_ok : (bytes : List ℕ) (d : Deed N) → ActivationOk (prolog n same p) e (pops rest) (done n same e f k rest w bytes d)
    done_ok bytes (equal es new) = (tt, bound_ok e rest (unifier same es) w (w.next + new))
    done_ok bytes (differ t u) = (tt, differ_ok (unifier same ((t, u) ∷ [])))
    done_ok bytes no = (tt, tt)
    done_ok bytes (raises fault) = λ k lt h. h
    done_ok bytes (halt z) = tt

    user_ok : (s : N) (ts : Rattle.pl_terms.specs.Trees.Trees N) (o : Option N) → ActivationOk (prolog n same p) e (pops rest) (by_clauses n p e g rest w c s ts o)
    user_ok s ts None = λ k lt h. h
    user_ok s ts (Some d) =
        (tt, clauses_ok (resolution n e g rest w d s ts (p.modes d (record { name = s; arity = count ts }))) (c d (record { name = s; arity = count ts })))

    caught_ok : (t : Result (Tree N) (Tree N)) → PointOk (prolog n same p) e (pops rest) (caught n e g rest w t)
    caught_ok (Err ball) = λ k lt h. has-later e k (pops rest) lt h
    caught_ok (Ok t) =
        (omega arith, λ k lt h. has-later e k (pops rest) lt (ap (λ l. has l k) (sym (pops-flat n t (argument_place g.env) (e + 1) (Pop e ∷ rest))) ∙ h))

    nested_ok : (x b : Tree N) → PointOk (prolog n same p) e (pops rest) (At (place e (flat n b (argument_place g.env) (e + 1)) (record { template = x ∷ []; next = w.next })))
    nested_ok x b = (omega arith, λ k lt h. absurd_has (has (pops rest) k) (ap (λ l. has l k) (sym (pops-goals n b (argument_place g.env) (e + 1))) ∙ h))
      where
        absurd_has : (b : Bool) → false ≡ true → b ≡ true
        absurd_has b q = cc

    condition_pops : (i t : Tree N) → pops (flat n i g.env (e + 1) ++ (Cut e ∷ (flat n t g.env g.reach ++ rest))) ≡ pops rest
    condition_pops i t = pops-flat n i g.env (e + 1) (Cut e ∷ (flat n t g.env g.reach ++ rest)) ∙ pops-flat n t g.env g.reach rest

    row_ok : (r : Row N) → ActivationOk (prolog n same p) e (pops rest) (row n same p e g f k rest w c r)
    row_ok commit = (tt, (λ _. guards e rest (Cut g.reach ∷ rest) w refl, tt))
    row_ok (if_then_else i t u) =
        (tt, (λ _. guards e rest (flat n i g.env (e + 1) ++ (Cut e ∷ (flat n t g.env g.reach ++ rest))) w (condition_pops i t), (λ _. guards e rest (flat n u g.env g.reach ++ rest) w (pops-flat n u g.env g.reach rest), tt)))
    row_ok (if_then i t) = (tt, (λ _. guards e rest (flat n i g.env (e + 1) ++ (Cut e ∷ (flat n t g.env g.reach ++ rest))) w (condition_pops i t), tt))
    row_ok (either t u) =
        (tt, (λ _. guards e rest (flat n t g.env g.reach ++ rest) w (pops-flat n t g.env g.reach rest), (λ _. guards e rest (flat n u g.env g.reach ++ rest) w (pops-flat n u g.env g.reach rest), tt)))
    row_ok (negation t) =
        unless_ok e rest (goal_of n t f k) _ (λ b.
        (tt, (λ _. guards e rest (flat n b (argument_place g.env) (e + 1) ++ (Cut e ∷ Fail ∷ rest)) w (pops-flat n b (argument_place g.env) (e + 1) (Cut e ∷ Fail ∷ rest)), (λ _. guards e rest rest w refl, tt))))
    row_ok (once t) =
        unless_ok e rest (goal_of n t f k) _ (λ b.
        (tt, (λ _. guards e rest (flat n b (argument_place g.env) (e + 1) ++ (Cut e ∷ rest)) w (pops-flat n b (argument_place g.env) (e + 1) (Cut e ∷ rest)), tt)))
    row_ok (calling t ts) =
        unless_ok e rest (called n t ts f k) _ (λ b.
        (tt, (λ _. guards e rest (flat n b (argument_place g.env) (e + 1) ++ rest) w (pops-flat n b (argument_place g.env) (e + 1) rest), tt)))
    row_ok (in_module m t) =
        unless_ok e rest (module_of n p m g.env.lookup f k) _ (λ d. unless_ok e rest (goal_of n t f k) _ (λ b.
        let env : Environment N = record { lookup = d; context = d; caller = g.env.caller } in
        (tt, (λ _. guards e rest (flat n b env (e + 1) ++ rest) w (pops-flat n b env (e + 1) rest), tt))))
    row_ok (from_context t m) =
        unless_ok e rest (module_of n p m g.env.lookup f k) _ (λ d. unless_ok e rest (goal_of n t f k) _ (λ b.
        let env : Environment N = record { lookup = g.env.lookup; context = d; caller = g.env.caller } in
        (tt, (λ _. guards e rest (flat n b env (e + 1) ++ rest) w (pops-flat n b env (e + 1) rest), tt))))
    row_ok repeat = (tt, (λ _. guards e rest rest w refl, (λ _. guards e rest (Call g ∷ rest) w refl, tt)))
    row_ok (throwing t) = λ k lt h. h
    row_ok (catching t x r) =
        let rec : Recovery N = record { depth = e; catcher = x; recovery = r; name = f; env = argument_place g.env; rest = rest; world = w } in
        (caught_ok (goal_of n t f k), λ ball. recover_ok rec (w.next + variable_count ball) (unifier same ((copy_from w.next ball, x) ∷ [])))
    row_ok (collecting x t z) =
        unless_ok e rest (list_fault n (listing n z) z f k) _ (λ z. unless_ok e rest (goal_of n t f k) _ (λ b.
        let gathering : Gathering N = record { depth = e; list = z; rest = rest; world = w } in
        (nested_ok x b, ((λ ts. gather_ok gathering (copies w.next (map (answer_term n) ts)).1 (unifier same ((list_tree n (copies w.next (map (answer_term n) ts)).0, z) ∷ []))), λ k lt h. h))))
    row_ok (plain r ts) = done_ok (output n r ts) (deed n r ts g.env.caller w.next)
    row_ok (user s ts) = user_ok s ts (p.visible g.env.lookup (record { name = s; arity = count ts }))

  pub table_ok : TableOk (prolog n same p)
  table_ok e g rest w c = row_ok e g (name_of n g.tree) (arity_of n g.tree) rest w c (row_of n g.tree)
