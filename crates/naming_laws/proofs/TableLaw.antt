-- What each goal does under other names.
use Rattle.std.proofs.Common.{◌≡◌, ◌∙◌, ℕ, ◌+◌, List, [], ◌∷◌, ◌++◌, length, map, codes, Bool, true, false, if◌then◌else◌, Option, Some, None, is_some, Result, Ok, Err, refl, ap, sym}
use Rattle.std.specs.Prelude.{option_map}
use Rattle.std.proofs.lemmas.List.{map-append}
use Rattle.pl_atoms.specs.Names.{same_text}
use Rattle.pl_terms.specs.Trees.{Tree, Trees, var, int, atom, comp, nil, cons, count, renamed, all_renamed}
use Rattle.pl_terms.specs.Occurrence.{canon}
use Rattle.unit_model.specs.Facts.{Indicator, indicator_by}
use Rattle.unifier_model.specs.Substitution.{apply, raise}
use Rattle.unifier_model.specs.Mgu.{unifier}
use Rattle.solver_model.specs.Search.{Item, Point, Call, Cut, Pop, Fail, Failed, Thrown, Halted, At, Over, Tries, Catches, Collects, Ends, Opens, pops}
use Rattle.builtin_model.specs.Naming.{Naming}
use Rattle.builtin_model.specs.Faults.{instantiation, type_fault, fault_tree}
use Rattle.builtin_model.specs.declared.error.Expected.TheVariants as E
use Rattle.builtin_model.specs.Lists.{Listing, proper, partial, improper, listing, list_tree}
use Rattle.builtin_model.specs.Deeds.{Deed, equal, differ, no, raise as raises, halt, deed}
use Rattle.builtin_model.specs.Output.{output}
use Rattle.builtin_model.specs.Renaming.{deed_renamed}
use Rattle.builtin_model.proofs.TextLaw.{count-renamed, variables-renamed, numbered_by-renamed, canon-renamed, listing_renamed}
use Rattle.goal_model.specs.Program.{Clause, Clauses, Program}
use Rattle.goal_model.specs.Environments.{Environment, argument_place, body_place}
use Rattle.goal_model.specs.Bodies.{Goal, goal_of, called, flat}
use Rattle.goal_model.specs.Rows.{Row, commit, if_then_else, if_then, either, negation, once, calling, in_module, from_context, repeat, throwing, catching, collecting, plain, user, row_of, name_of, arity_of}
use Rattle.goal_model.specs.Table.{World, Items, Resolution, Alternative, leads, resolves, Recovery, Gathering, Moved, item_under, place, place_under, copy_from, variable_count, node, raised, unless_raised, bound, shown, copies, on, apart, goal_tree, answer_term, body_items, recovery_point, recovered, recover, gathered, gather, no_module, no_procedure, list_fault, ball_of, done, arguments_in, resolution, caught, module_of, by_clauses, row, activate}
use Rattle.goal_model.specs.NameLaws.{SameNames, replacement_by}
use Rattle.goal_model.proofs.RenamingProofs.{replace-renamed, unifier-renamed}
use Rattle.naming_laws.specs.Translation.{Translates, Follows, clause_by}
use Rattle.naming_laws.specs.SameRun.{event_by}
use Rattle.naming_laws.proofs.Maps.{env_by, goal_by, item_by, items_by, given_by, row_by, world_by, place_by, resolution_by, alternative_by, recovery_by, gathering_by, point_by, moved_by}
use Rattle.naming_laws.proofs.DeedLaw.{listing-renamed, list_tree-renamed, deed-renamed, output-renamed}
use Rattle.naming_laws.proofs.BodyLaw.{if-by, text-if, fault_tree-by, no_module-by, no_procedure-by, goal_of-by, flat-by, called-by, qualified-by, row_of-by, name_of-by, arity_of-by}

abbrev Replacements : Type 0 → Type 0
Replacements N = List (ℕ × Tree N)

-- ---- states

module _ {N M : Type 0} (f : N → M) where
  abbrev by_bindings : Replacements N → Replacements M
  by_bindings = map (replacement_by f)

  apply-by : (bs : Replacements N) (t : Tree N) → apply (by_bindings bs) (renamed f t) ≡ renamed f (apply bs t)
  apply-by [] t = refl
  apply-by (b ∷ bs) t = ap (apply (by_bindings bs)) (replace-renamed f b.0 b.1 t) ∙ apply-by bs (Rattle.unifier_model.specs.Substitution.replace b.0 b.1 t)

  applies-by : (bs : Replacements N) (ts : List (Tree N)) → map (apply (by_bindings bs)) (map (renamed f) ts) ≡ map (renamed f) (map (apply bs) ts)
  applies-by bs [] = refl
  applies-by bs (t ∷ ts) = ap (λ u. u ∷ map (apply (by_bindings bs)) (map (renamed f) ts)) (apply-by bs t) ∙ ap (λ l. renamed f (apply bs t) ∷ l) (applies-by bs ts)

  item_under-by : (bs : Replacements N) (i : Item (Goal N)) → item_under (by_bindings bs) (item_by f i) ≡ item_by f (item_under bs i)
  item_under-by bs (Call g) = ap (λ t. Call (record { tree = t; env = env_by f g.env; reach = g.reach })) (apply-by bs g.tree)
  item_under-by bs (Cut d) = refl
  item_under-by bs (Pop d) = refl
  item_under-by bs Fail = refl

  items_under-by : (bs : Replacements N) (items : Items N) → map (item_under (by_bindings bs)) (items_by f items) ≡ items_by f (map (item_under bs) items)
  items_under-by bs [] = refl
  items_under-by bs (i ∷ items) =
      ap (λ j. j ∷ map (item_under (by_bindings bs)) (items_by f items)) (item_under-by bs i) ∙ ap (λ l. item_by f (item_under bs i) ∷ l) (items_under-by bs items)

  place_under-by : (e : ℕ) (bs : Replacements N) (items : Items N) (w : World N) (next : ℕ) → place_under e (by_bindings bs) (items_by f items) (world_by f w) next ≡ place_by f (place_under e bs items w next)
  place_under-by e bs items w next =
      ap (λ l. place e l (record { template = map (apply (by_bindings bs)) (map (renamed f) w.template); next = next })) (items_under-by bs items)
      ∙ ap (λ l. place e (items_by f (map (item_under bs) items)) (record { template = l; next = next })) (applies-by bs w.template)

  pub raise-by : (next : ℕ) (t : Tree N) → raise next (renamed f t) ≡ renamed f (raise next t)
  raise-by next t = numbered_by-renamed f (λ v. v + next) t

  copy_from-by : (next : ℕ) (t : Tree N) → copy_from next (renamed f t) ≡ renamed f (copy_from next t)
  copy_from-by next t = ap (raise next) (canon-renamed f t) ∙ raise-by next (canon t)

  variable_count-by : (t : Tree N) → variable_count (renamed f t) ≡ variable_count t
  variable_count-by t = ap length (variables-renamed f t)

  pub pops-by : (items : Items N) → pops (items_by f items) ≡ pops items
  pops-by [] = refl
  pops-by (Call g ∷ items) = pops-by items
  pops-by (Cut d ∷ items) = pops-by items
  pops-by (Pop d ∷ items) = ap (λ l. d ∷ l) (pops-by items)
  pops-by (Fail ∷ items) = pops-by items

  abbrev thrown : Tree M → List ℕ → Moved M
  thrown ball active = Ends [] (Thrown ball active)

  raised-by : (ball : Tree N) (rest : Items N) → raised (renamed f ball) (items_by f rest) ≡ moved_by f (raised ball rest)
  raised-by ball rest = ap (λ b. thrown b (pops (items_by f rest))) (canon-renamed f ball) ∙ ap (thrown (renamed f (canon ball))) (pops-by rest)

  unless_raised-by : {A B : Type 0} (h : A → B) (a : Result A (Tree N)) (rest : Items N) (go : A → Moved N) (go' : B → Moved M)
      → ((x : A) → go' (h x) ≡ moved_by f (go x)) → unless_raised (given_by f h a) (items_by f rest) go' ≡ moved_by f (unless_raised a rest go)
  unless_raised-by h (Ok x) rest go go' k = k x
  unless_raised-by h (Err ball) rest go go' k = raised-by ball rest

  bound-by : (e : ℕ) (o : Option (Replacements N)) (rest : Items N) (w : World N) (next : ℕ) → bound e (option_map by_bindings o) (items_by f rest) (world_by f w) next ≡ map (alternative_by f) (bound e o rest w next)
  bound-by e None rest w next = refl
  bound-by e (Some bs) rest w next = ap (λ s. leads s ∷ []) (place_under-by e bs rest w next)

  apart-by : (e : ℕ) (o : Option (Replacements N)) (rest : Items N) (w : World N) → apart e (option_map by_bindings o) (items_by f rest) (world_by f w) ≡ map (alternative_by f) (apart e o rest w)
  apart-by e None rest w = refl
  apart-by e (Some bs) rest w = refl

  abbrev copies_by : List (Tree N) × ℕ → List (Tree M) × ℕ
  copies_by r = (map (renamed f) r.0, r.1)

  copies-by : (next : ℕ) (ts : List (Tree N)) → copies next (map (renamed f) ts) ≡ copies_by (copies next ts)
  copies-by next [] = refl
  copies-by next (t ∷ ts) =
      let before : Tree M → List (Tree M) × ℕ → List (Tree M) × ℕ = λ u r. (u ∷ r.0, r.1) in
      ap (λ k. before (copy_from next (renamed f t)) (copies (next + k) (map (renamed f) ts))) (variable_count-by t)
      ∙ ap (before (copy_from next (renamed f t))) (copies-by (next + variable_count t) ts)
      ∙ ap (λ u. before u (copies_by (copies (next + variable_count t) ts))) (copy_from-by next t)

  goal_tree-by : (s : N) (ts : Trees N) → goal_tree (f s) (all_renamed f ts) ≡ renamed f (goal_tree s ts)
  goal_tree-by s nil = refl
  goal_tree-by s (cons t ts) = refl

  body_place-by : (d context : N) (b : Bool) → body_place (f d) (f context) b ≡ env_by f (body_place d context b)
  body_place-by d context true = refl
  body_place-by d context false = refl

  shown-by : (bytes : List ℕ) → shown {N = M} bytes ≡ map (event_by f) (shown {N = N} bytes)
  shown-by [] = refl
  shown-by (b ∷ bytes) = refl

  resolves-by : (r : Resolution N) (cs : List (Clause N)) → map (resolves (resolution_by f r)) (map (clause_by f) cs) ≡ map (alternative_by f) (map (resolves r) cs)
  resolves-by r [] = refl
  resolves-by r (c ∷ cs) = ap (λ l. resolves (resolution_by f r) (clause_by f c) ∷ l) (resolves-by r cs)

-- ---- what the names of a naming are written into

module _ {N M : Type 0} (n : Naming N) (m : Naming M) (f : N → M) (tr : Translates n m f) where
  answer_term-by : (ts : List (Tree N)) → answer_term m (map (renamed f) ts) ≡ renamed f (answer_term n ts)
  answer_term-by [] = sym (list_tree-renamed n m f tr [])
  answer_term-by (t ∷ ts) = refl

  answers-by : (answers : List (List (Tree N))) → map (answer_term m) (map (map (renamed f)) answers) ≡ map (renamed f) (map (answer_term n) answers)
  answers-by [] = refl
  answers-by (ts ∷ answers) =
      ap (λ t. t ∷ map (answer_term m) (map (map (renamed f)) answers)) (answer_term-by ts) ∙ ap (λ l. renamed f (answer_term n ts) ∷ l) (answers-by answers)

  body_items-by : (t : Tree N) (env : Environment N) (d : ℕ) → body_items m (renamed f t) (env_by f env) d ≡ items_by f (body_items n t env d)
  body_items-by (var v) env d = refl
  body_items-by (int z) env d = refl
  body_items-by (atom s) env d = text-if n m f tr (items_by f) s (λ u. same_text u (codes "true")) [] (flat n (atom s) env d) refl refl
  body_items-by (comp g ts) env d = flat-by n m f tr (comp g ts) env d

  -- a body or a goal in front of items
  flat_before : (t : Tree N) (env : Environment N) (d : ℕ) (items : Items N) → flat m (renamed f t) (env_by f env) d ++ items_by f items ≡ items_by f (flat n t env d ++ items)
  flat_before t env d items = ap (λ l. l ++ items_by f items) (flat-by n m f tr t env d) ∙ sym (map-append (item_by f) (flat n t env d) items)

  body_before : (t : Tree N) (env : Environment N) (d : ℕ) (items : Items N) → body_items m (renamed f t) (env_by f env) d ++ items_by f items ≡ items_by f (body_items n t env d ++ items)
  body_before t env d items = ap (λ l. l ++ items_by f items) (body_items-by t env d) ∙ sym (map-append (item_by f) (body_items n t env d) items)

  -- where a clause leads
  pub resolved_place : (r : Resolution N) (clause : Clause N) (bs : Replacements N)
      → place_under r.depth (by_bindings f bs) (body_items m (raise r.world.next (renamed f clause.body)) (env_by f r.env) r.depth ++ items_by f r.rest) (world_by f r.world) (r.world.next + clause.width)
      ≡ place_by f (place_under r.depth bs (body_items n (raise r.world.next clause.body) r.env r.depth ++ r.rest) r.world (r.world.next + clause.width))
  resolved_place r clause bs =
      ap (λ t. place_under r.depth (by_bindings f bs) (body_items m t (env_by f r.env) r.depth ++ items_by f r.rest) (world_by f r.world) (r.world.next + clause.width)) (raise-by f r.world.next clause.body)
      ∙ ap (λ l. place_under r.depth (by_bindings f bs) l (world_by f r.world) (r.world.next + clause.width)) (body_before (raise r.world.next clause.body) r.env r.depth r.rest)
      ∙ place_under-by f r.depth bs (body_items n (raise r.world.next clause.body) r.env r.depth ++ r.rest) r.world (r.world.next + clause.width)

  recovery_point-by : (r : Recovery N) (t : Result (Tree N) (Tree N)) (bs : Replacements N) (next : ℕ) → recovery_point m (recovery_by f r) (given_by f (renamed f) t) (by_bindings f bs) next ≡ point_by f (recovery_point n r t bs next)
  recovery_point-by r (Err ball) bs next =
      ap (λ b. Over (Thrown b (pops (items_by f r.rest)))) (canon-renamed f ball) ∙ ap (λ l. Over (Thrown (renamed f (canon ball)) l)) (pops-by f r.rest)
  recovery_point-by r (Ok t) bs next =
      ap (λ l. At (place_under r.depth (by_bindings f bs) l (world_by f r.world) next)) (flat_before t r.env (r.depth + 1) r.rest)
      ∙ ap At (place_under-by f r.depth bs (flat n t r.env (r.depth + 1) ++ r.rest) r.world next)

  recovered-by : (r : Recovery N) (next : ℕ) (o : Option (Replacements N)) → recovered m (recovery_by f r) next (option_map (by_bindings f) o) ≡ option_map (point_by f) (recovered n r next o)
  recovered-by r next None = refl
  recovered-by r next (Some bs) =
      ap (λ t. Some (recovery_point m (recovery_by f r) (goal_of m t (f r.name) 3) (by_bindings f bs) next)) (apply-by f bs r.recovery)
      ∙ ap (λ g. Some (recovery_point m (recovery_by f r) g (by_bindings f bs) next)) (goal_of-by n m f tr (apply bs r.recovery) r.name 3)
      ∙ ap Some (recovery_point-by r (goal_of n (apply bs r.recovery) r.name 3) bs next)

  gathered-by : (g : Gathering N) (next : ℕ) (o : Option (Replacements N)) → gathered m (gathering_by f g) next (option_map (by_bindings f) o) ≡ point_by f (gathered n g next o)
  gathered-by g next None = refl
  gathered-by g next (Some bs) = ap At (place_under-by f g.depth bs g.rest g.world next)

  arguments_in-by : (context : N) (modes : Option (List Bool)) (ts : Trees N) → arguments_in m (f context) modes (all_renamed f ts) ≡ all_renamed f (arguments_in n context modes ts)
  arguments_in-by context None ts = refl
  arguments_in-by context (Some modes) ts = qualified-by n m f tr modes context ts

  list_fault-by : (l : Listing N) (z : Tree N) (g : N) (k : ℕ) → list_fault m (listing_renamed f l) (renamed f z) (f g) k ≡ given_by f (renamed f) (list_fault n l z g k)
  list_fault-by improper z g k = ap Err (fault_tree-by n m f tr (type_fault E.List z) g k)
  list_fault-by partial z g k = refl
  list_fault-by (proper ts) z g k = refl

  ball_of-by : (t : Tree N) (g : N) (k : ℕ) → ball_of m (renamed f t) (f g) k ≡ renamed f (ball_of n t g k)
  ball_of-by (var v) g k = fault_tree-by n m f tr instantiation g k
  ball_of-by (int z) g k = refl
  ball_of-by (atom s) g k = refl
  ball_of-by (comp s ts) g k = refl

  resolution-by : (e : ℕ) (g : Goal N) (rest : Items N) (w : World N) (d s : N) (ts : Trees N) (modes : Option (List Bool))
      → resolution m e (goal_by f g) (items_by f rest) (world_by f w) (f d) (f s) (all_renamed f ts) modes ≡ resolution_by f (resolution n e g rest w d s ts modes)
  resolution-by e g rest w d s ts modes =
      let made : Tree M → Environment M → Resolution M = λ t env. record { depth = e; goal = t; env = env; rest = items_by f rest; world = world_by f w } in
      let env' : Environment M = body_place (f d) (f g.env.context) (is_some modes) in
      ap (λ us. made (goal_tree (f s) us) env') (arguments_in-by g.env.context modes ts)
      ∙ ap (λ t. made t env') (goal_tree-by f s (arguments_in n g.env.context modes ts))
      ∙ ap (made (renamed f (goal_tree s (arguments_in n g.env.context modes ts)))) (body_place-by f d g.env.context (is_some modes))

  caught-by : (e : ℕ) (g : Goal N) (rest : Items N) (w : World N) (t : Result (Tree N) (Tree N)) → caught m e (goal_by f g) (items_by f rest) (world_by f w) (given_by f (renamed f) t) ≡ point_by f (caught n e g rest w t)
  caught-by e g rest w (Err ball) =
      ap (λ b. Over (Thrown b (e ∷ pops (items_by f rest)))) (canon-renamed f ball) ∙ ap (λ l. Over (Thrown (renamed f (canon ball)) (e ∷ l))) (pops-by f rest)
  caught-by e g rest w (Ok t) = ap (λ l. At (place e l (world_by f w))) (flat_before t (argument_place g.env) (e + 1) (Pop e ∷ rest))

  -- ---- programs

  module _ (p : Program N) (q : Program M) (fo : Follows f p q) where
    module_of-by : (t : Tree N) (lookup g : N) (k : ℕ) → module_of m q (renamed f t) (f lookup) (f g) k ≡ given_by f f (module_of n p t lookup g k)
    module_of-by (var v) lookup g k = ap Err (fault_tree-by n m f tr instantiation g k)
    module_of-by (int z) lookup g k = ap Err (fault_tree-by n m f tr (type_fault E.Atom (int z)) g k)
    module_of-by (atom a) lookup g k =
        ap (λ b. if b then Ok (f a) else Err (no_module m (f a) (f lookup))) (fo.exists a)
        ∙ if-by (given_by f f) (p.exists a) (Ok a) (Err (no_module n a lookup)) refl (ap Err (no_module-by n m f tr a lookup))
    module_of-by (comp s ts) lookup g k = ap Err (fault_tree-by n m f tr (type_fault E.Atom (comp s ts)) g k)

    by_clauses-by : (e : ℕ) (g : Goal N) (rest : Items N) (w : World N) (c : Clauses N) (c' : Clauses M)
        → ((d : N) (i : Indicator N) → c' (f d) (indicator_by f i) ≡ map (clause_by f) (c d i))
        → (s : N) (ts : Trees N) (o : Option N) → by_clauses m q e (goal_by f g) (items_by f rest) (world_by f w) c' (f s) (all_renamed f ts) (option_map f o) ≡ moved_by f (by_clauses n p e g rest w c s ts o)
    by_clauses-by e g rest w c c' rc s ts None =
        ap (λ k. raised (no_procedure m (f s) k (f g.env.lookup)) (items_by f rest)) (count-renamed f ts)
        ∙ ap (λ b. raised b (items_by f rest)) (no_procedure-by n m f tr s (count ts) g.env.lookup)
        ∙ raised-by f (no_procedure n s (count ts) g.env.lookup) rest
    by_clauses-by e g rest w c c' rc s ts (Some d) =
        let i : Indicator N = record { name = s; arity = count ts } in
        let made : Option (List Bool) → Resolution M = resolution m e (goal_by f g) (items_by f rest) (world_by f w) (f d) (f s) (all_renamed f ts) in
        ap (λ k. node e (map (resolves (made (q.modes (f d) (record { name = f s; arity = k })))) (c' (f d) (record { name = f s; arity = k })))) (count-renamed f ts)
        ∙ ap (λ modes. node e (map (resolves (made modes)) (c' (f d) (indicator_by f i)))) (fo.modes d i)
        ∙ ap (λ cs. node e (map (resolves (made (p.modes d i))) cs)) (rc d i)
        ∙ ap (λ r. node e (map (resolves r) (map (clause_by f) (c d i)))) (resolution-by e g rest w d s ts (p.modes d i))
        ∙ ap (node e) (resolves-by f (resolution n e g rest w d s ts (p.modes d i)) (c d i))

-- ---- where names are compared

module _ {N M : Type 0} (n : Naming N) (m : Naming M) (f : N → M) (tr : Translates n m f) (same : N → N → Bool) (same' : M → M → Bool) (one : SameNames f same same') where
  pub recover-by : (r : Recovery N) (ball : Tree N) → recover m same' (recovery_by f r) (renamed f ball) ≡ option_map (point_by f) (recover n same r ball)
  recover-by r ball =
      let next : ℕ = r.world.next in
      ap (λ k. recovered m (recovery_by f r) (next + k) (unifier same' ((copy_from next (renamed f ball), renamed f r.catcher) ∷ []))) (variable_count-by f ball)
      ∙ ap (λ t. recovered m (recovery_by f r) (next + variable_count ball) (unifier same' ((t, renamed f r.catcher) ∷ []))) (copy_from-by f next ball)
      ∙ ap (recovered m (recovery_by f r) (next + variable_count ball)) (unifier-renamed f same same' one ((copy_from next ball, r.catcher) ∷ []))
      ∙ recovered-by n m f tr r (next + variable_count ball) (unifier same ((copy_from next ball, r.catcher) ∷ []))

  pub gather-by : (g : Gathering N) (answers : List (List (Tree N))) → gather m same' (gathering_by f g) (map (map (renamed f)) answers) ≡ point_by f (gather n same g answers)
  gather-by g answers =
      let found : List (Tree M) × ℕ → Point (Goal M) (World M) (Tree M) = λ r. gathered m (gathering_by f g) r.1 (unifier same' ((list_tree m r.0, renamed f g.list) ∷ [])) in
      let r : List (Tree N) × ℕ = copies g.world.next (map (answer_term n) answers) in
      ap (λ l. found (copies g.world.next l)) (answers-by n m f tr answers)
      ∙ ap found (copies-by f g.world.next (map (answer_term n) answers))
      ∙ ap (λ t. gathered m (gathering_by f g) r.1 (unifier same' ((t, renamed f g.list) ∷ []))) (sym (list_tree-renamed n m f tr r.0))
      ∙ ap (gathered m (gathering_by f g) r.1) (unifier-renamed f same same' one ((list_tree n r.0, g.list) ∷ []))
      ∙ gathered-by n m f tr g r.1 (unifier same ((list_tree n r.0, g.list) ∷ []))

  -- a deed of a built-in predicate
  abbrev tried : ℕ → List ℕ → List (Alternative M) → Moved M
  tried e bytes alternatives = Opens (shown bytes) (Over Failed) (Tries e alternatives)

  shown_first : (e : ℕ) (bytes : List ℕ) (alternatives : List (Alternative N)) → tried e bytes (map (alternative_by f) alternatives) ≡ moved_by f (Opens (shown bytes) (Over Failed) (Tries e alternatives))
  shown_first e bytes alternatives = ap (λ events. Opens events (Over Failed) (Tries e (map (alternative_by f) alternatives))) (shown-by f bytes)

  done-by : (e : ℕ) (g : N) (k : ℕ) (rest : Items N) (w : World N) (bytes : List ℕ) (d : Deed N)
      → done m same' e (f g) k (items_by f rest) (world_by f w) bytes (deed_renamed f d) ≡ moved_by f (done n same e g k rest w bytes d)
  done-by e g k rest w bytes (equal es new) =
      ap (λ o. tried e bytes (bound e o (items_by f rest) (world_by f w) (w.next + new))) (unifier-renamed f same same' one es)
      ∙ ap (tried e bytes) (bound-by f e (unifier same es) rest w (w.next + new))
      ∙ shown_first e bytes (bound e (unifier same es) rest w (w.next + new))
  done-by e g k rest w bytes (differ t u) =
      ap (λ o. tried e bytes (apart e o (items_by f rest) (world_by f w))) (unifier-renamed f same same' one ((t, u) ∷ []))
      ∙ ap (tried e bytes) (apart-by f e (unifier same ((t, u) ∷ [])) rest w)
      ∙ shown_first e bytes (apart e (unifier same ((t, u) ∷ [])) rest w)
  done-by e g k rest w bytes no = shown_first e bytes []
  done-by e g k rest w bytes (raises fault) = ap (λ b. raised b (items_by f rest)) (fault_tree-by n m f tr fault g k) ∙ raised-by f (fault_tree n fault g k) rest
  done-by e g k rest w bytes (halt z) = ap (λ events. Ends events (Halted z)) (shown-by f bytes)

  module _ (p : Program N) (q : Program M) (fo : Follows f p q) where
    module _ (e : ℕ) (g : Goal N) (s : N) (k : ℕ) (rest : Items N) (w : World N) where
      abbrev on' : Items M → Alternative M
      on' = on e (world_by f w)

      -- one alternative, which is a goal in front of items
      one_way : (t : Tree N) (env : Environment N) (d : ℕ) (items : Items N) → node e (on' (flat m (renamed f t) (env_by f env) d ++ items_by f items) ∷ []) ≡ moved_by f (node e (on e w (flat n t env d ++ items) ∷ []))
      one_way t env d items = ap (λ l. node e (on' l ∷ [])) (flat_before n m f tr t env d items)

      -- two alternatives
      two_ways : {a' b' : Items M} (a b : Items N) → a' ≡ items_by f a → b' ≡ items_by f b → node e (on' a' ∷ on' b' ∷ []) ≡ moved_by f (node e (on e w a ∷ on e w b ∷ []))
      two_ways {a'} {b'} a b p q = ap (λ l. node e (on' l ∷ on' b' ∷ [])) p ∙ ap (λ l. node e (on' (items_by f a) ∷ on' l ∷ [])) q

      -- a condition in front of what it leads to
      condition : (i t : Tree N) → flat m (renamed f i) (env_by f g.env) (e + 1) ++ (Cut e ∷ (flat m (renamed f t) (env_by f g.env) g.reach ++ items_by f rest)) ≡ items_by f (flat n i g.env (e + 1) ++ (Cut e ∷ (flat n t g.env g.reach ++ rest)))
      condition i t =
          ap (λ l. flat m (renamed f i) (env_by f g.env) (e + 1) ++ (Cut e ∷ l)) (flat_before n m f tr t g.env g.reach rest)
          ∙ flat_before n m f tr i g.env (e + 1) (Cut e ∷ (flat n t g.env g.reach ++ rest))

      -- a goal as call/1 runs it, where it is one
      called_way : (r : Result (Tree N) (Tree N)) (env : Environment N) (items : Items N)
          → unless_raised (given_by f (renamed f) r) (items_by f rest) (λ b. node e (on' (flat m b (env_by f env) (e + 1) ++ items_by f items) ∷ []))
          ≡ moved_by f (unless_raised r rest (λ b. node e (on e w (flat n b env (e + 1) ++ items) ∷ [])))
      called_way r env items = unless_raised-by f (renamed f) r rest _ _ (λ b. one_way b env (e + 1) items)

      goal_way : (t : Tree N) (env : Environment N) (items : Items N)
          → unless_raised (goal_of m (renamed f t) (f s) k) (items_by f rest) (λ b. node e (on' (flat m b (env_by f env) (e + 1) ++ items_by f items) ∷ []))
          ≡ moved_by f (unless_raised (goal_of n t s k) rest (λ b. node e (on e w (flat n b env (e + 1) ++ items) ∷ [])))
      goal_way t env items =
          ap (λ r. unless_raised r (items_by f rest) (λ b. node e (on' (flat m b (env_by f env) (e + 1) ++ items_by f items) ∷ []))) (goal_of-by n m f tr t s k)
          ∙ called_way (goal_of n t s k) env items

      row-by : (c : Clauses N) (c' : Clauses M) → ((d : N) (i : Indicator N) → c' (f d) (indicator_by f i) ≡ map (clause_by f) (c d i))
          → (r : Row N) → row m same' q e (goal_by f g) (f s) k (items_by f rest) (world_by f w) c' (row_by f r) ≡ moved_by f (row n same p e g s k rest w c r)
      row-by c c' rc commit = refl
      row-by c c' rc (if_then_else i t u) =
          two_ways (flat n i g.env (e + 1) ++ (Cut e ∷ (flat n t g.env g.reach ++ rest))) (flat n u g.env g.reach ++ rest) (condition i t) (flat_before n m f tr u g.env g.reach rest)
      row-by c c' rc (if_then i t) = ap (λ l. node e (on' l ∷ [])) (condition i t)
      row-by c c' rc (either t u) =
          two_ways (flat n t g.env g.reach ++ rest) (flat n u g.env g.reach ++ rest) (flat_before n m f tr t g.env g.reach rest) (flat_before n m f tr u g.env g.reach rest)
      row-by c c' rc (negation t) =
          let go' : Tree M → Moved M = λ b. node e (on' (flat m b (env_by f (argument_place g.env)) (e + 1) ++ (Cut e ∷ Fail ∷ items_by f rest)) ∷ on' (items_by f rest) ∷ []) in
          ap (λ r. unless_raised r (items_by f rest) go') (goal_of-by n m f tr t s k)
          ∙ unless_raised-by f (renamed f) (goal_of n t s k) rest _ go' (λ b.
          two_ways (flat n b (argument_place g.env) (e + 1) ++ (Cut e ∷ Fail ∷ rest)) rest (flat_before n m f tr b (argument_place g.env) (e + 1) (Cut e ∷ Fail ∷ rest)) refl)
      row-by c c' rc (once t) = goal_way t (argument_place g.env) (Cut e ∷ rest)
      row-by c c' rc (calling t ts) =
          ap (λ r. unless_raised r (items_by f rest) (λ b. node e (on' (flat m b (env_by f (argument_place g.env)) (e + 1) ++ items_by f rest) ∷ []))) (called-by n m f tr t ts s k)
          ∙ called_way (called n t ts s k) (argument_place g.env) rest
      row-by c c' rc (in_module x t) =
          let go' : M → Moved M = λ d. unless_raised (goal_of m (renamed f t) (f s) k) (items_by f rest) (λ b. node e (on' (flat m b (record { lookup = d; context = d; caller = f g.env.caller }) (e + 1) ++ items_by f rest) ∷ [])) in
          ap (λ r. unless_raised r (items_by f rest) go') (module_of-by n m f tr p q fo x g.env.lookup s k)
          ∙ unless_raised-by f f (module_of n p x g.env.lookup s k) rest _ go' (λ d. goal_way t (record { lookup = d; context = d; caller = g.env.caller }) rest)
      row-by c c' rc (from_context t x) =
          let go' : M → Moved M = λ d. unless_raised (goal_of m (renamed f t) (f s) k) (items_by f rest) (λ b. node e (on' (flat m b (record { lookup = f g.env.lookup; context = d; caller = f g.env.caller }) (e + 1) ++ items_by f rest) ∷ [])) in
          ap (λ r. unless_raised r (items_by f rest) go') (module_of-by n m f tr p q fo x g.env.lookup s k)
          ∙ unless_raised-by f f (module_of n p x g.env.lookup s k) rest _ go' (λ d. goal_way t (record { lookup = g.env.lookup; context = d; caller = g.env.caller }) rest)
      row-by c c' rc repeat = refl
      row-by c c' rc (throwing t) = ap (λ b. raised b (items_by f rest)) (ball_of-by n m f tr t s k) ∙ raised-by f (ball_of n t s k) rest
      row-by c c' rc (catching t x r) =
          let frame : Recovery M = record { depth = e; catcher = renamed f x; recovery = renamed f r; name = f s; env = env_by f (argument_place g.env); rest = items_by f rest; world = world_by f w } in
          let opened : Point (Goal M) (World M) (Tree M) → Moved M = λ a. Opens [] a (Catches e frame) in
          ap (λ b. opened (caught m e (goal_by f g) (items_by f rest) (world_by f w) b)) (goal_of-by n m f tr t s k) ∙ ap opened (caught-by n m f tr e g rest w (goal_of n t s k))
      row-by c c' rc (collecting x t z) =
          let nested' : Tree M → Tree M → Moved M = λ y b. Opens [] (At (place e (flat m b (env_by f (argument_place g.env)) (e + 1)) (record { template = renamed f x ∷ []; next = w.next }))) (Collects e [] (record { depth = e; list = y; rest = items_by f rest; world = world_by f w })) in
          let nested : Tree N → Tree N → Moved N = λ y b. Opens [] (At (place e (flat n b (argument_place g.env) (e + 1)) (record { template = x ∷ []; next = w.next }))) (Collects e [] (record { depth = e; list = y; rest = rest; world = w })) in
          let go' : Tree M → Moved M = λ y. unless_raised (goal_of m (renamed f t) (f s) k) (items_by f rest) (nested' y) in
          let go : Tree N → Moved N = λ y. unless_raised (goal_of n t s k) rest (nested y) in
          ap (λ l. unless_raised (list_fault m l (renamed f z) (f s) k) (items_by f rest) go') (sym (listing-renamed n m f tr z))
          ∙ ap (λ r. unless_raised r (items_by f rest) go') (list_fault-by n m f tr (listing n z) z s k)
          ∙ unless_raised-by f (renamed f) (list_fault n (listing n z) z s k) rest go go' (λ y.
          ap (λ r. unless_raised r (items_by f rest) (nested' (renamed f y))) (goal_of-by n m f tr t s k)
          ∙ unless_raised-by f (renamed f) (goal_of n t s k) rest (nested y) (nested' (renamed f y)) (λ b.
          ap (λ l. Opens [] (At (place e l (record { template = renamed f x ∷ []; next = w.next }))) (Collects e [] (record { depth = e; list = renamed f y; rest = items_by f rest; world = world_by f w }))) (flat-by n m f tr b (argument_place g.env) (e + 1))))
      row-by c c' rc (plain r ts) =
          ap (λ bytes. done m same' e (f s) k (items_by f rest) (world_by f w) bytes (deed m r (map (renamed f) ts) (f g.env.caller) w.next)) (sym (output-renamed n m f tr r ts))
          ∙ ap (done m same' e (f s) k (items_by f rest) (world_by f w) (output n r ts)) (sym (deed-renamed n m f tr r ts g.env.caller w.next))
          ∙ done-by e s k rest w (output n r ts) (deed n r ts g.env.caller w.next)
      row-by c c' rc (user a ts) =
          ap (λ j. by_clauses m q e (goal_by f g) (items_by f rest) (world_by f w) c' (f a) (all_renamed f ts) (q.visible (f g.env.lookup) (record { name = f a; arity = j }))) (count-renamed f ts)
          ∙ ap (by_clauses m q e (goal_by f g) (items_by f rest) (world_by f w) c' (f a) (all_renamed f ts)) (fo.visible g.env.lookup (record { name = a; arity = count ts }))
          ∙ by_clauses-by n m f tr p q fo e g rest w c c' rc a ts (p.visible g.env.lookup (record { name = a; arity = count ts }))

    pub activate-by : (e : ℕ) (g : Goal N) (rest : Items N) (w : World N) (c : Clauses N) (c' : Clauses M) → ((d : N) (i : Indicator N) → c' (f d) (indicator_by f i) ≡ map (clause_by f) (c d i))
        → activate m same' q e (goal_by f g) (items_by f rest) (world_by f w) c' ≡ moved_by f (activate n same p e g rest w c)
    activate-by e g rest w c c' rc =
        let done' : M → ℕ → Row M → Moved M = λ s k r. row m same' q e (goal_by f g) s k (items_by f rest) (world_by f w) c' r in
        ap (λ s. done' s (arity_of m (renamed f g.tree)) (row_of m (renamed f g.tree))) (name_of-by n m f tr g.tree)
        ∙ ap (λ k. done' (f (name_of n g.tree)) k (row_of m (renamed f g.tree))) (arity_of-by n m f tr g.tree)
        ∙ ap (done' (f (name_of n g.tree)) (arity_of n g.tree)) (row_of-by n m f tr g.tree)
        ∙ row-by e g (name_of n g.tree) (arity_of n g.tree) rest w c c' rc (row_of n g.tree)
