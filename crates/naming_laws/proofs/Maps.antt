-- What a run has, with other names.
use Rattle.std.proofs.Common.{List, map, Result, Ok, Err}
use Rattle.pl_terms.specs.Trees.{Tree, renamed, all_renamed}
use Rattle.solver_model.specs.Search.{Item, Point, Frame, Call, Cut, Pop, Fail, At, Over, Tries, Catches, Collects, Ends, Opens}
use Rattle.goal_model.specs.Environments.{Environment}
use Rattle.goal_model.specs.Bodies.{Goal}
use Rattle.goal_model.specs.Rows.{Row, commit, if_then_else, if_then, either, negation, once, calling, in_module, from_context, repeat, throwing, catching, collecting, plain, user}
use Rattle.goal_model.specs.Table.{World, Place, Resolution, Alternative, leads, resolves, Recovery, Gathering, Moved}
use Rattle.naming_laws.specs.Translation.{clause_by}
use Rattle.naming_laws.specs.SameRun.{event_by, end_by}

module _ {N M : Type 0} (f : N → M) where
  abbrev pub env_by : Environment N → Environment M
  env_by e = record { lookup = f e.lookup; context = f e.context; caller = f e.caller }

  abbrev pub goal_by : Goal N → Goal M
  goal_by g = record { tree = renamed f g.tree; env = env_by g.env; reach = g.reach }

  abbrev pub item_by : Item (Goal N) → Item (Goal M)
  item_by (Call g) = Call (goal_by g)
  item_by (Cut d) = Cut d
  item_by (Pop d) = Pop d
  item_by Fail = Fail

  abbrev pub items_by : List (Item (Goal N)) → List (Item (Goal M))
  items_by = map item_by

  -- a result, or a ball
  abbrev pub given_by : {A B : Type 0} → (A → B) → Result A (Tree N) → Result B (Tree M)
  given_by h (Ok a) = Ok (h a)
  given_by h (Err ball) = Err (renamed f ball)

  abbrev pub row_by : Row N → Row M
  row_by commit = commit
  row_by (if_then_else i t u) = if_then_else (renamed f i) (renamed f t) (renamed f u)
  row_by (if_then i t) = if_then (renamed f i) (renamed f t)
  row_by (either t u) = either (renamed f t) (renamed f u)
  row_by (negation t) = negation (renamed f t)
  row_by (once t) = once (renamed f t)
  row_by (calling t ts) = calling (renamed f t) (all_renamed f ts)
  row_by (in_module m t) = in_module (renamed f m) (renamed f t)
  row_by (from_context t m) = from_context (renamed f t) (renamed f m)
  row_by repeat = repeat
  row_by (throwing t) = throwing (renamed f t)
  row_by (catching t x r) = catching (renamed f t) (renamed f x) (renamed f r)
  row_by (collecting x t z) = collecting (renamed f x) (renamed f t) (renamed f z)
  row_by (plain r ts) = plain r (map (renamed f) ts)
  row_by (user s ts) = user (f s) (all_renamed f ts)

  abbrev pub world_by : World N → World M
  world_by w = record { template = map (renamed f) w.template; next = w.next }

  abbrev pub place_by : Place N → Place M
  place_by s = record { depth = s.depth; items = items_by s.items; world = world_by s.world }

  abbrev pub resolution_by : Resolution N → Resolution M
  resolution_by r = record { depth = r.depth; goal = renamed f r.goal; env = env_by r.env; rest = items_by r.rest; world = world_by r.world }

  abbrev pub alternative_by : Alternative N → Alternative M
  alternative_by (leads s) = leads (place_by s)
  alternative_by (resolves r clause) = resolves (resolution_by r) (clause_by f clause)

  abbrev pub recovery_by : Recovery N → Recovery M
  recovery_by r = record {
    depth = r.depth;
    catcher = renamed f r.catcher;
    recovery = renamed f r.recovery;
    name = f r.name;
    env = env_by r.env;
    rest = items_by r.rest;
    world = world_by r.world;
  }

  abbrev pub gathering_by : Gathering N → Gathering M
  gathering_by g = record { depth = g.depth; list = renamed f g.list; rest = items_by g.rest; world = world_by g.world }

  abbrev pub point_by : Point (Goal N) (World N) (Tree N) → Point (Goal M) (World M) (Tree M)
  point_by (At s) = At (place_by s)
  point_by (Over e) = Over (end_by f e)

  abbrev pub frame_by : Frame (Alternative N) (Recovery N) (Gathering N) (List (Tree N)) → Frame (Alternative M) (Recovery M) (Gathering M) (List (Tree M))
  frame_by (Tries e alternatives) = Tries e (map alternative_by alternatives)
  frame_by (Catches e r) = Catches e (recovery_by r)
  frame_by (Collects e answers g) = Collects e (map (map (renamed f)) answers) (gathering_by g)

  abbrev pub moved_by : Moved N → Moved M
  moved_by (Ends events e) = Ends (map (event_by f) events) (end_by f e)
  moved_by (Opens events p frame) = Opens (map (event_by f) events) (point_by p) (frame_by frame)
