-- What a place in a run stands for: items, frames of the search, and the whole configuration.
use Rattle.std.specs.Prelude.{ℕ, nat_eq, List, [], ◌∷◌, map, filter, drop, reverse, Option, Some, None}
use Rattle.pl_terms.specs.Trees.{Tree}
use Rattle.pl_terms.specs.Occurrence.{from_to}
use Rattle.pl_unify.specs.declared.word.Ref.{Ref}
use Rattle.pl_unify.specs.State.{State, state_at, tree_at, tree_of_var}
use Rattle.solver_model.specs.Search.{At, Tries, Catches, Collects, Language, FrameOf, PointOf}
use Rattle.solver_model.specs.Configurations.{Configuration}
use Rattle.builtin_model.specs.Naming.{Naming, by_numbers}
use Rattle.goal_model.specs.Program.{Clause}
use Rattle.goal_model.specs.Environments.{Environment}
use Rattle.goal_model.specs.Table.{World, Items, leads, resolves, place, prolog}
use Rattle.pl_store.specs.Linked.{Linked, clause_at, with_names}
use Rattle.pl_store.specs.Runs.{program_of}
use Rattle.goal_state.specs.declared.frames.Frame.{Frame}
use Rattle.goal_state.specs.declared.frames.Setting.{Setting}
use Rattle.goal_code.specs.BodyCode.{BodyCode}
use Rattle.goal_state.specs.Frames.{place_get, env_of, items_of}
use Rattle.goal_state.specs.declared.choice.Choice.{Choice}
use Rattle.goal_state.specs.declared.choice.ChoiceKind.{ChoiceKind}
use Rattle.goal_state.specs.declared.choice.ChoiceKind.TheVariants.{Clauses, Branch, Catch, Collect}
use Rattle.goal_state.specs.declared.compiled.CompiledProgram.{CompiledProgram}
use Rattle.goal_state.specs.declared.path.Path.{Path}
use Rattle.clause_code.specs.Codes.{codes_of}

-- the linked program of a compiled
abbrev pub linked : CompiledProgram → Linked
linked b = with_names b.tables b.names

-- its names, by their numbers
abbrev pub naming : CompiledProgram → Naming ℕ
naming b = by_numbers b.names

-- the language of the goals over its program
abbrev pub language_of : CompiledProgram → Language
language_of b = prolog (naming b) nat_eq (program_of (linked b))

-- the code of its clauses' bodies
abbrev pub bodies : CompiledProgram → ℕ → BodyCode
bodies b = codes_of b.codes

-- ---- the terms that an answer is made of

-- the term that a nested search collects, or the variables of the run's goal
abbrev pub template_of : State → ℕ → Option Ref → List (Tree ℕ)
template_of s v None = map (tree_of_var s) (from_to 0 v)
template_of s v (Some r) = tree_at s r ∷ []

abbrev pub world_of : State → ℕ → Option Ref → World ℕ
world_of s v t = record { template = template_of s v t; next = s.next }

-- ---- records

-- the term that is collected around a node
abbrev pub outer_of : ChoiceKind → Option Ref → Option Ref
outer_of (Collect z outer) t = outer
outer_of kind t = t

abbrev pub first : List (List (Tree ℕ)) → List (Tree ℕ)
first [] = []
first (g ∷ gs) = g

abbrev pub others : List (List (Tree ℕ)) → List (List (Tree ℕ))
others [] = []
others (g ∷ gs) = gs

-- the answers of the nested searches around a node
abbrev pub outer_answers : ChoiceKind → List (List (Tree ℕ)) → List (List (Tree ℕ))
outer_answers (Collect z outer) gs = others gs
outer_answers kind gs = gs

abbrev pub no_setting : Setting
no_setting = record { clause = 0; base = 0; lookup = record { 0 = 0 }; context = record { 0 = 0 }; caller = record { 0 = 0 }; depth = 0 }

abbrev pub setting_in : Option Frame → Setting
setting_in None = no_setting
setting_in (Some fr) = fr.setting

-- the setting of the frame at a place
abbrev pub setting_at : List Frame → ℕ → Setting
setting_at frames f = setting_in (place_get (reverse frames) f)

-- the clauses of a clause's procedure, from this one on
abbrev pub clauses_on : Linked → ℕ → List (Clause ℕ)
clauses_on l c = map (λ e. e.clause) (filter (λ e. nat_eq (clause_at l c).procedure e.procedure) (drop c l.clauses))

-- What a record of this kind and depth stands for: in the state of its mark, with what comes after its node's goal, where its
-- alternatives run, the term that is collected around it, and the answers that its nested search has given.
abbrev pub frame_from : (b : CompiledProgram) → ℕ → ChoiceKind → ℕ → State → Items ℕ → Environment ℕ → Option Ref → List (Tree ℕ) → FrameOf (language_of b)
frame_from b v (Clauses clause goal) depth s rest env t answers =
    Tries depth (map (resolves (record { depth = depth; goal = tree_at s goal; env = env; rest = rest; world = world_of s v t })) (clauses_on (linked b) clause.0))
frame_from b v Branch depth s rest env t answers = Tries depth (leads (place depth rest (world_of s v t)) ∷ [])
frame_from b v (Catch name catcher recovery) depth s rest env t answers =
    Catches depth (record { depth = depth; catcher = tree_at s catcher; recovery = tree_at s recovery; name = name.0; env = env; rest = rest; world = world_of s v t })
frame_from b v (Collect list outer) depth s rest env t answers =
    Collects depth (map (λ a. a ∷ []) answers) (record { depth = depth; list = tree_at s list; rest = rest; world = world_of s v outer })

-- a compiled, the number of the goal's variables, the store and the frames of a run
module _ (b : CompiledProgram) (v : ℕ) (s : State) (frames : List Frame) where
  -- what comes after the goal of a record's node, in the state of its mark
  abbrev pub rest_items : Choice → Items ℕ
  rest_items c = items_of (bodies b) (state_at c.mark s) frames c.rest 0

  abbrev pub frame_by : Choice → Option Ref → List (Tree ℕ) → FrameOf (language_of b)
  frame_by c t answers = frame_from b v c.kind c.depth (state_at c.mark s) (rest_items c) (env_of (setting_at frames c.rest)) t answers

  -- what records stand for, the newest first, where the innermost nested search collects this term
  abbrev pub frames_by : List Choice → Option Ref → List (List (Tree ℕ)) → List (FrameOf (language_of b))
  frames_by [] t gs = []
  frames_by (c ∷ cs) t gs = frame_by c t (first gs) ∷ frames_by cs (outer_of c.kind t) (outer_answers c.kind gs)

-- ---- a path

abbrev pub state_of : Path → State
state_of p = p.store.state

-- the answers of the nested searches, the innermost first
abbrev pub answers_of : Path → List (List (Tree ℕ))
answers_of p = reverse (map (λ g. g.items) p.gathered.items)

module _ (b : CompiledProgram) (p : Path) where
  abbrev pub items_here : ℕ → ℕ → Items ℕ
  items_here f pc = items_of (bodies b) (state_of p) p.frames f pc

  abbrev pub world_here : World ℕ
  world_here = world_of (state_of p) p.width p.template

  -- what records stand for on this path, the newest first
  abbrev pub frames_on : List Choice → List (FrameOf (language_of b))
  frames_on cs = frames_by b p.width (state_of p) p.frames cs p.template (answers_of p)

  abbrev pub point_here : PointOf (language_of b)
  point_here = At (record { depth = p.depth; items = items_here p.f p.pc; world = world_here })

  -- the search on this path, at a point and with so many steps left
  abbrev pub search_at : PointOf (language_of b) → ℕ → Configuration (language_of b)
  search_at point left = record { point = point; left = left; clauses = (program_of (linked b)).clauses; frames = frames_on (reverse p.choices.items) }
