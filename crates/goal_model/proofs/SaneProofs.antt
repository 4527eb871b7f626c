-- Each goal's cuts meet no exit and no nested search, and its nodes stand above those around it.
use Rattle.std.proofs.Common.{ℕ, Bool, ◌+◌, List, [], ◌∷◌, ◌++◌, Option, Some, None, Result, Ok, Err, refl, sym, ◌∙◌, subst, arith, map}
use Rattle.pl_terms.specs.Trees.{Tree, Trees, count}
use Rattle.unifier_model.specs.Substitution.{apply, raise}
use Rattle.unifier_model.specs.Mgu.{unifier}
use Rattle.solver_model.specs.Search.{Call, Cut, Pop, Fail, At, Catches, Collects, FrameOf, pops}
use Rattle.solver_model.specs.Frames.{Falls}
use Rattle.solver_model.specs.Configurations.{AllBelow, Clear, ItemsOk, StateOk, SaneAt, AttemptSane, AlternativesSane, RecoverSane, ActivationSane, TableSane}
use Rattle.solver_model.proofs.FrameLaws.{append-nil}
use Rattle.solver_model.proofs.ExitLaws.{pops-fall}
use Rattle.solver_model.proofs.TurnLaws.{Falls-wider, below_wider, falls_ungathered, chain_falls}
use Rattle.builtin_model.specs.Naming.{Naming}
use Rattle.builtin_model.specs.Lists.{listing, list_tree}
use Rattle.builtin_model.specs.Deeds.{Deed, equal, differ, no, raise as raises, halt, deed}
use Rattle.builtin_model.specs.Output.{output}
use Rattle.goal_model.specs.Program.{Clause, Clauses, Program}
use Rattle.goal_model.specs.Environments.{Environment, argument_place}
use Rattle.goal_model.specs.Bodies.{Goal, goal_of, called, flat}
use Rattle.goal_model.specs.Rows.{Row, commit, if_then_else, if_then, either, negation, once, calling, in_module, from_context, repeat, throwing, catching, collecting, plain, user, row_of, name_of, arity_of}
use Rattle.goal_model.specs.Table.{Items, World, Resolution, Recovery, Gathering, resolves, Moved, item_under, place, copy_from, variable_count, unless_raised, bound, apart, copies, answer_term, body_items, resolved, recovery_point, recovered, gathered, list_fault, module_of, done, resolution, by_clauses, caught, row, prolog}
use Rattle.goal_model.specs.Run.{user_place, starting, start}
use Rattle.pl_terms.specs.Occurrence.{variables}
use Rattle.std.specs.Prelude.{length, codes}
use Rattle.goal_model.proofs.ItemLaws.{pops-under, pops-goals, Fits, Clear-before, flat_fits, body_fits, ItemsOk-under, ItemsOk-catch}

module _ {N : Type 0} (n : Naming N) (same : N → N → Bool) (p : Program N) where
  -- what stands after a goal of depth e: exits below it, and nothing in the way of its cuts
  module _ (fs : List (FrameOf (prolog n same p))) (e : ℕ) (rest : Items N) (falls : Falls e fs) (below : AllBelow (prolog n same p) e (pops rest)) (ok : ItemsOk (prolog n same p) fs rest) where
    clear_here : Clear (prolog n same p) fs e rest
    clear_here = (below, falls_ungathered (prolog n same p) e e fs (omega arith) falls)

    clear_above : Clear (prolog n same p) fs (e + 1) rest
    clear_above = (below_wider (prolog n same p) e (e + 1) (pops rest) (omega arith) below, falls_ungathered (prolog n same p) e (e + 1) fs (omega arith) falls)

    state_sane : (items : Items N) (w : World N) → Fits n same p fs items rest → StateOk (prolog n same p) fs (place e items w)
    state_sane items w h = (
      Falls-wider (prolog n same p) e (e + 1) fs (omega arith) falls,
      below_wider (prolog n same p) e (e + 1) (pops items) (omega arith) (subst (AllBelow (prolog n same p) e) (sym h.exits) below),
      h.ok,
    )

    under_fits : (bs : List (ℕ × Tree N)) (items : Items N) → Fits n same p fs items rest → Fits n same p fs (map (item_under bs) items) rest
    under_fits bs items h = record { ok = ItemsOk-under n same p fs bs items h.ok; exits = pops-under bs items ∙ h.exits }

    rest_fits : Fits n same p fs rest rest
    rest_fits = record { ok = ok; exits = refl }

    bound_sane : (o : Option (List (ℕ × Tree N))) (w : World N) (next : ℕ) → AlternativesSane (prolog n same p) e fs (bound e o rest w next)
    bound_sane None w next = tt
    bound_sane (Some bs) w next = (λ _. (refl, state_sane (map (item_under bs) rest) (record { template = map (apply bs) w.template; next = next }) (under_fits bs rest rest_fits)), tt)

    -- a goal as call/1 runs it
    running_fits : (t : Tree N) (env : Environment N) → Fits n same p fs (flat n t env (e + 1) ++ rest) rest
    running_fits t env = flat_fits n same p fs t env (e + 1) rest clear_above ok

  resolved_sane : (r : Resolution N) (fs : List (FrameOf (prolog n same p))) (clause : Clause N) (c : Clauses N) (o : Option (List (ℕ × Tree N))) → Falls r.depth fs → AllBelow (prolog n same p) r.depth (pops r.rest) → ItemsOk (prolog n same p) fs r.rest → AttemptSane (prolog n same p) r.depth fs (resolved n r clause c o)
  resolved_sane r fs clause c None falls below ok = tt
  resolved_sane r fs clause c (Some bs) falls below ok =
      let body = raise r.world.next clause.body in
      let items = body_items n body r.env r.depth ++ r.rest in
      let fits = body_fits n same p fs body r.env r.depth r.rest (clear_here fs r.depth r.rest falls below ok) ok in
      (refl, state_sane fs r.depth r.rest falls below ok (map (item_under bs) items) (record { template = map (apply bs) r.world.template; next = r.world.next + clause.width }) (under_fits fs r.depth r.rest falls below ok bs items fits))

  clauses_sane : (r : Resolution N) (fs : List (FrameOf (prolog n same p))) (cs : List (Clause N)) → Falls r.depth fs → AllBelow (prolog n same p) r.depth (pops r.rest) → ItemsOk (prolog n same p) fs r.rest → AlternativesSane (prolog n same p) r.depth fs (map (resolves r) cs)
  clauses_sane r fs [] falls below ok = tt
  clauses_sane r fs (clause ∷ cs) falls below ok =
      (λ c. resolved_sane r fs clause c (unifier same ((r.goal, raise r.world.next clause.head) ∷ [])) falls below ok, clauses_sane r fs cs falls below ok)

  recovery_sane : (r : Recovery N) (fs : List (FrameOf (prolog n same p))) (t : Result (Tree N) (Tree N)) (bs : List (ℕ × Tree N)) (next : ℕ) → Falls r.depth fs → AllBelow (prolog n same p) r.depth (pops r.rest) → ItemsOk (prolog n same p) fs r.rest → SaneAt (prolog n same p) fs (recovery_point n r t bs next)
  recovery_sane r fs (Err ball) bs next falls below ok = (chain_falls (prolog n same p) r.depth fs falls, pops-fall (prolog n same p) fs r.rest ok)
  recovery_sane r fs (Ok t) bs next falls below ok =
      let items = flat n t r.env (r.depth + 1) ++ r.rest in
      state_sane fs r.depth r.rest falls below ok (map (item_under bs) items) (record { template = map (apply bs) r.world.template; next = next })
      (under_fits fs r.depth r.rest falls below ok bs items (running_fits fs r.depth r.rest falls below ok t r.env))

  recover_sane : (r : Recovery N) (fs : List (FrameOf (prolog n same p))) (next : ℕ) (o : Option (List (ℕ × Tree N))) → Falls r.depth fs → AllBelow (prolog n same p) r.depth (pops r.rest) → ItemsOk (prolog n same p) fs r.rest → RecoverSane (prolog n same p) fs (recovered n r next o)
  recover_sane r fs next None falls below ok = tt
  recover_sane r fs next (Some bs) falls below ok = recovery_sane r fs (goal_of n (apply bs r.recovery) r.name 3) bs next falls below ok

  gather_sane : (f : Gathering N) (fs : List (FrameOf (prolog n same p))) (next : ℕ) (o : Option (List (ℕ × Tree N))) → Falls f.depth fs → AllBelow (prolog n same p) f.depth (pops f.rest) → ItemsOk (prolog n same p) fs f.rest → SaneAt (prolog n same p) fs (gathered n f next o)
  gather_sane f fs next None falls below ok = (chain_falls (prolog n same p) f.depth fs falls, tt)
  gather_sane f fs next (Some bs) falls below ok =
      state_sane fs f.depth f.rest falls below ok (map (item_under bs) f.rest) (record { template = map (apply bs) f.world.template; next = next })
      (under_fits fs f.depth f.rest falls below ok bs f.rest (rest_fits fs f.depth f.rest falls below ok))

  module _ (e : ℕ) (g : Goal N) (f : N) (k : ℕ) (rest : Items N) (w : World N) (c : Clauses N) (fs : List (FrameOf (prolog n same p))) (falls : Falls e fs) (below : AllBelow (prolog n same p) e (pops rest)) (clear : Clear (prolog n same p) fs g.reach rest) (ok : ItemsOk (prolog n same p) fs rest) where
    unless_sane : {A : Type 0} (a : Result A (Tree N)) (go : A → Moved N) → ((x : A) → ActivationSane (prolog n same p) e fs (go x)) → ActivationSane (prolog n same p) e fs (unless_raised a rest go)
    unless_sane (Ok x) go h = h x
    unless_sane (Err ball) go h = pops-fall (prolog n same p) fs rest ok

    -- an alternative that binds nothing
    on_sane : (items : Items N) → Fits n same p fs items rest → (d : Clauses N) → AttemptSane (prolog n same p) e fs (Some (place e items w, d))
    on_sane items h d = (refl, state_sane fs e rest falls below ok items w h)

    cut_fits : (d : ℕ) (items : Items N) → Clear (prolog n same p) fs d rest → Fits n same p fs items rest → Fits n same p fs (Cut d ∷ items) rest
    cut_fits d items h i = record { ok = (Clear-before n same p fs d items rest i.exits h, i.ok); exits = i.exits }

    -- goals to whose start nothing cuts, before items
    local_fits : (t : Tree N) (env : Environment N) (items : Items N) → Fits n same p fs items rest → Fits n same p fs (flat n t env (e + 1) ++ items) rest
    local_fits t env items h =
        let i = flat_fits n same p fs t env (e + 1) items (Clear-before n same p fs (e + 1) items rest h.exits (clear_above fs e rest falls below ok)) h.ok in
        record { ok = i.ok; exits = i.exits ∙ h.exits }

    -- goals that cut as the goal does
    open_fits : (t : Tree N) → Fits n same p fs (flat n t g.env g.reach ++ rest) rest
    open_fits t = flat_fits n same p fs t g.env g.reach rest clear ok

    here : Clear (prolog n same p) fs e rest
    here = clear_here fs e rest falls below ok

    after : Fits n same p fs rest rest
    after = rest_fits fs e rest falls below ok

    condition_fits : (i t : Tree N) → Fits n same p fs (flat n i g.env (e + 1) ++ (Cut e ∷ (flat n t g.env g.reach ++ rest))) rest
    condition_fits i t = local_fits i g.env (Cut e ∷ (flat n t g.env g.reach ++ rest)) (cut_fits e (flat n t g.env g.reach ++ rest) here (open_fits t))

    fail_fits : Fits n same p fs (Fail ∷ rest) rest
    fail_fits = record { ok = ok; exits = refl }

    differ_sane : (o : Option (List (ℕ × Tree N))) → AlternativesSane (prolog n same p) e fs (apart e o rest w)
    differ_sane None = (on_sane rest after, tt)
    differ_sane (Some bs) = tt

    done_sane : (bytes : List ℕ) (d : Deed N) → ActivationSane (prolog n same p) e fs (done n same e f k rest w bytes d)
    done_sane bytes (equal es new) = (refl, (falls, tt), bound_sane fs e rest falls below ok (unifier same es) w (w.next + new))
    done_sane bytes (differ t u) = (refl, (falls, tt), differ_sane (unifier same ((t, u) ∷ [])))
    done_sane bytes no = (refl, (falls, tt), tt)
    done_sane bytes (raises fault) = pops-fall (prolog n same p) fs rest ok
    done_sane bytes (halt z) = tt

    user_sane : (s : N) (ts : Trees N) (o : Option N) → ActivationSane (prolog n same p) e fs (by_clauses n p e g rest w c s ts o)
    user_sane s ts None = pops-fall (prolog n same p) fs rest ok
    user_sane s ts (Some d) =
        (refl, (falls, tt), clauses_sane (resolution n e g rest w d s ts (p.modes d (record { name = s; arity = count ts }))) fs (c d (record { name = s; arity = count ts })) falls below ok)

    caught_sane : (r : Recovery N) (t : Result (Tree N) (Tree N)) → SaneAt (prolog n same p) (Catches e r ∷ fs) (caught n e g rest w t)
    caught_sane r (Err ball) = (falls, (below, pops-fall (prolog n same p) fs rest ok))
    caught_sane r (Ok t) =
        let items = flat n t (argument_place g.env) (e + 1) ++ (Pop e ∷ rest) in
        let above : Clear (prolog n same p) (Catches e r ∷ fs) (e + 1) (Pop e ∷ rest) = ((omega arith, (clear_above fs e rest falls below ok).0), (clear_above fs e rest falls below ok).1) in
        let fits = flat_fits n same p (Catches e r ∷ fs) t (argument_place g.env) (e + 1) (Pop e ∷ rest) above (below, ItemsOk-catch n same p e r fs rest ok) in
        ((omega arith, falls), subst (AllBelow (prolog n same p) (e + 1)) (sym fits.exits) above.0, fits.ok)

    nested_sane : (x b : Tree N) (gathering : Gathering N) → SaneAt (prolog n same p) (Collects e [] gathering ∷ fs) (At (place e (flat n b (argument_place g.env) (e + 1)) (record { template = x ∷ []; next = w.next })))
    nested_sane x b gathering =
        let items = flat n b (argument_place g.env) (e + 1) in
        let inner : List (FrameOf (prolog n same p)) = Collects e [] gathering ∷ fs in
        let fits = flat_fits n same p inner b (argument_place g.env) (e + 1) [] (tt, (omega arith, (clear_above fs e rest falls below ok).1)) tt in
        ((omega arith, falls), subst (AllBelow (prolog n same p) (e + 1)) (sym (pops-goals n b (argument_place g.env) (e + 1))) tt, subst (ItemsOk (prolog n same p) inner) (append-nil items) fits.ok)

    row_sane : (r : Row N) → ActivationSane (prolog n same p) e fs (row n same p e g f k rest w c r)
    row_sane commit = (refl, (falls, tt), (on_sane (Cut g.reach ∷ rest) (cut_fits g.reach rest clear after), tt))
    row_sane (if_then_else i t u) =
        (refl, (falls, tt), (on_sane (flat n i g.env (e + 1) ++ (Cut e ∷ (flat n t g.env g.reach ++ rest))) (condition_fits i t), (on_sane (flat n u g.env g.reach ++ rest) (open_fits u), tt)))
    row_sane (if_then i t) = (refl, (falls, tt), (on_sane (flat n i g.env (e + 1) ++ (Cut e ∷ (flat n t g.env g.reach ++ rest))) (condition_fits i t), tt))
    row_sane (either t u) = (refl, (falls, tt), (on_sane (flat n t g.env g.reach ++ rest) (open_fits t), (on_sane (flat n u g.env g.reach ++ rest) (open_fits u), tt)))
    row_sane (negation t) =
        unless_sane (goal_of n t f k) _ (λ b.
        (refl, (falls, tt), (on_sane (flat n b (argument_place g.env) (e + 1) ++ (Cut e ∷ Fail ∷ rest)) (local_fits b (argument_place g.env) (Cut e ∷ Fail ∷ rest) (cut_fits e (Fail ∷ rest) here fail_fits)), (on_sane rest after, tt))))
    row_sane (once t) =
        unless_sane (goal_of n t f k) _ (λ b.
        (refl, (falls, tt), (on_sane (flat n b (argument_place g.env) (e + 1) ++ (Cut e ∷ rest)) (local_fits b (argument_place g.env) (Cut e ∷ rest) (cut_fits e rest here after)), tt)))
    row_sane (calling t ts) =
        unless_sane (called n t ts f k) _ (λ b.
        (refl, (falls, tt), (on_sane (flat n b (argument_place g.env) (e + 1) ++ rest) (local_fits b (argument_place g.env) rest after), tt)))
    row_sane (in_module m t) =
        unless_sane (module_of n p m g.env.lookup f k) _ (λ d. unless_sane (goal_of n t f k) _ (λ b.
        let env : Environment N = record { lookup = d; context = d; caller = g.env.caller } in
        (refl, (falls, tt), (on_sane (flat n b env (e + 1) ++ rest) (local_fits b env rest after), tt))))
    row_sane (from_context t m) =
        unless_sane (module_of n p m g.env.lookup f k) _ (λ d. unless_sane (goal_of n t f k) _ (λ b.
        let env : Environment N = record { lookup = g.env.lookup; context = d; caller = g.env.caller } in
        (refl, (falls, tt), (on_sane (flat n b env (e + 1) ++ rest) (local_fits b env rest after), tt))))
    row_sane repeat = (refl, (falls, tt), (on_sane rest after, (on_sane (Call g ∷ rest) (record { ok = (clear, ok); exits = refl }), tt)))
    row_sane (throwing t) = pops-fall (prolog n same p) fs rest ok
    row_sane (catching t x r) =
        let rec : Recovery N = record { depth = e; catcher = x; recovery = r; name = f; env = argument_place g.env; rest = rest; world = w } in
        (refl, caught_sane rec (goal_of n t f k), λ ball. recover_sane rec fs (w.next + variable_count ball) (unifier same ((copy_from w.next ball, x) ∷ [])) falls below ok)
    row_sane (collecting x t z) =
        unless_sane (list_fault n (listing n z) z f k) _ (λ z. unless_sane (goal_of n t f k) _ (λ b.
        let gathering : Gathering N = record { depth = e; list = z; rest = rest; world = w } in
        (refl, nested_sane x b gathering, (pops-fall (prolog n same p) fs rest ok, λ ts. gather_sane gathering fs (copies w.next (map (answer_term n) ts)).1 (unifier same ((list_tree n (copies w.next (map (answer_term n) ts)).0, z) ∷ [])) falls below ok))))
    row_sane (plain r ts) = done_sane (output n r ts) (deed n r ts g.env.caller w.next)
    row_sane (user s ts) = user_sane s ts (p.visible g.env.lookup (record { name = s; arity = count ts }))

  pub table_sane : TableSane (prolog n same p)
  table_sane e g rest w c fs falls below clear ok =
      row_sane e g (name_of n g.tree) (arity_of n g.tree) rest w c fs falls below clear ok (row_of n g.tree)

  -- where a run starts there are no exits and no frames
  pub start_sane : (t : Tree N) → SaneAt (prolog n same p) [] (start n t)
  start_sane t = go (goal_of n t (n.name (codes "call")) 1)
    where
      go : (r : Result (Tree N) (Tree N)) → SaneAt (prolog n same p) [] (starting n r (length (variables t)))
      go (Err ball) = (tt, tt)
      go (Ok b) =
          let items = flat n b (user_place n) 0 in
          let fits = flat_fits n same p [] b (user_place n) 0 [] (tt, tt) tt in
          (tt, subst (AllBelow (prolog n same p) 0) (sym (pops-goals n b (user_place n) 0)) tt, subst (ItemsOk (prolog n same p) []) (append-nil items) fits.ok)
