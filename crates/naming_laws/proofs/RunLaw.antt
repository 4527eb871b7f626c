-- The run of a goal under other names.
use Rattle.std.proofs.Common.{◌≡◌, ◌∙◌, ℕ, List, [], map, length, codes, Result, Ok, Err, refl, ap, sym, subst}
use Rattle.pl_terms.specs.Trees.{Tree, var, renamed}
use Rattle.pl_terms.specs.Occurrence.{variables, from_to}
use Rattle.solver_model.specs.Search.{Point, Thrown, At, Over}
use Rattle.solver_model.proofs.Simulation.{value-related}
use Rattle.builtin_model.specs.Naming.{Naming}
use Rattle.builtin_model.proofs.TextLaw.{variables-renamed, canon-renamed, vars-renamed}
use Rattle.goal_model.specs.Bodies.{Goal, goal_of, flat}
use Rattle.goal_model.specs.Table.{World, Items, goals}
use Rattle.goal_model.specs.Run.{user_place, starting, start, run_of}
use Rattle.naming_laws.specs.Translation.{Translates}
use Rattle.naming_laws.specs.SameRun.{RunsTranslate}
use Rattle.naming_laws.proofs.Maps.{env_by, items_by, given_by, point_by}
use Rattle.naming_laws.proofs.BodyLaw.{goal_of-by, flat-by}
use Rattle.naming_laws.proofs.Related.{SameAnswer, SameBall, SameClauses, SameWorld, SameGoal, SameAlternative, SameRecovery, SameGathering, SamePoint, events_same, end_same, point_related, keeping}

module _ {N M : Type 0} (n : Naming N) (m : Naming M) (f : N → M) (tr : Translates n m f) where
  user_place-by : user_place m ≡ env_by f (user_place n)
  user_place-by = ap (λ (s : M). record { lookup = s; context = s; caller = s }) (sym (tr.name (codes "user") refl))

  starting-by : (r : Result (Tree N) (Tree N)) (v : ℕ) → starting m (given_by f (renamed f) r) v ≡ point_by f (starting n r v)
  starting-by (Err ball) v = ap (λ b. Over (Thrown b [])) (canon-renamed f ball)
  starting-by (Ok t) v =
      let at : Items M → List (Tree M) → Point (Goal M) (World M) (Tree M) = λ items template. At (record { depth = 0; items = items; world = record { template = template; next = v } }) in
      ap (λ env. at (flat m (renamed f t) env 0) (map var (from_to 0 v))) user_place-by
      ∙ ap (λ items. at items (map var (from_to 0 v))) (flat-by n m f tr t (user_place n) 0)
      ∙ ap (at (items_by f (flat n t (user_place n) 0))) (sym (vars-renamed f (from_to 0 v)))

  pub start-by : (t : Tree N) → start m (renamed f t) ≡ point_by f (start n t)
  start-by t =
      ap (λ vs. starting m (goal_of m (renamed f t) (m.name (codes "call")) 1) (length vs)) (variables-renamed f t)
      ∙ ap (λ s. starting m (goal_of m (renamed f t) s 1) (length (variables t))) (sym (tr.name (codes "call") refl))
      ∙ ap (λ r. starting m r (length (variables t))) (goal_of-by n m f tr t (n.name (codes "call")) 1)
      ∙ starting-by (goal_of n t (n.name (codes "call")) 1) (length (variables t))

pub runs-translate : {N M : Type 0} → RunsTranslate N M
runs-translate n same p m same' q f tr one fo goal budget =
    let from : SamePoint n m f same same' p q (start n goal) (start m (renamed f goal))
    = subst (SamePoint n m f same same' p q (start n goal)) (sym (start-by n m f tr goal)) (point_related n m f same same' p q (start n goal)) in
    let r = value-related (goals n same p) (goals m same' q) (SameAnswer f) (SameBall f) (SameClauses f) (SameWorld n m f same same' p q) (SameGoal n m f same same' p q) (SameAlternative n m f same same' p q) (SameRecovery n m f same same' p q) (SameGathering n m f same same' p q)
    (keeping n m f same same' p q tr one fo)
    (start n goal) (start m (renamed f goal)) budget budget p.clauses q.clauses [] [] from refl fo.clauses tt in
    record {
      events = events_same f (run_of n same p goal budget).events (run_of m same' q (renamed f goal) budget).events r.events;
      left = r.left;
      ended = end_same f (run_of n same p goal budget).ended (run_of m same' q (renamed f goal) budget).ended r.ended;
    }
