-- Paths that a run makes.
use Rattle.std.specs.Prelude.{◌≡◌, ℕ, ◌+◌, ◌-◌, ◌<◌, ◌≤◌, List, [], ◌∷◌, length, take, reverse, nat_eq, Option, Some, None, is_some, true}
use Rattle.pl_terms.specs.Trees.{Tree}
use Rattle.pl_unify.specs.declared.word.Ref.{Ref}
use Rattle.pl_unify.specs.declared.store.Mark.{Mark}
use Rattle.pl_unify.specs.State.{State, state_at, tree_at, IsRef, IsMark, IsStore}
use Rattle.pl_builtin_ends.specs.Made.{HasNames}
use Rattle.goal_model.specs.Choices.{key_of, fits, choices}
use Rattle.pl_store.specs.Linked.{Linked, procedure_at, clause_at}
use Rattle.pl_store.specs.Rules.{indicator_of}
use Rattle.pl_store.specs.Facts.{IsLinked}
use Rattle.goal_constructs.specs.Constructs.{AreConstructs}
use Rattle.clause_code.specs.Codes.{IsCodes}
use Rattle.clause_code.specs.Targets.{AreTargets}
use Rattle.goal_state.specs.declared.frames.Frame.{Frame}
use Rattle.goal_state.specs.Frames.{FramesFit}
use Rattle.goal_state.specs.declared.choice.Choice.{Choice}
use Rattle.goal_state.specs.declared.choice.ChoiceKind.{ChoiceKind}
use Rattle.goal_state.specs.declared.choice.ChoiceKind.TheVariants.{Clauses, Branch, Catch, Collect}
use Rattle.goal_state.specs.declared.compiled.CompiledProgram.{CompiledProgram}
use Rattle.goal_state.specs.declared.path.Path.{Path}
use Rattle.goal_state.specs.Denotation.{outer_of, state_of, linked, naming, frames_on}

-- a compiled as a run needs it: a linked program with the names that built-in procedures make, and what goals lead to
pub record IsCompiled (b : CompiledProgram) : Type 0 where
  pub facts : IsLinked (linked b)
  pub made : HasNames b.names
  pub constructs : AreConstructs (naming b) b.constructs
  pub codes : IsCodes b.constructs.names.control (linked b).clauses b.codes
  pub targets : AreTargets b.constructs b.tables b.codes b.targets

-- the term that is collected is one of the store
abbrev pub TemplateFits : State → Option Ref → Type 0
TemplateFits s None = Unit {0}
TemplateFits s (Some r) = IsRef s r

-- a goal of a clause's procedure
abbrev pub IsGoalOf : Linked → ℕ → Tree ℕ → Type 0
IsGoalOf l c t = (c < length l.clauses) × (indicator_of t ≡ Some (procedure_at l (clause_at l c).procedure).indicator)

-- the clause's first argument can unify with the goal's
abbrev pub MayResolve : Linked → ℕ → Tree ℕ → Type 0
MayResolve l c t = fits nat_eq (key_of t) (clause_at l c).clause.head ≡ true

-- The places of a record are those of the state of its mark, and what it has untried can be taken; within a nested search a term is
-- collected.
abbrev pub KindFits : Linked → State → ChoiceKind → Option Ref → Type 0
KindFits l s (Clauses clause goal) t = IsRef s goal × IsGoalOf l clause.0 (tree_at s goal) × MayResolve l clause.0 (tree_at s goal)
KindFits l s Branch t = Unit {0}
KindFits l s (Catch name catcher recovery) t = IsRef s catcher × IsRef s recovery
KindFits l s (Collect list outer) t = IsRef s list × (is_some t ≡ true)

-- a mark that was made no later
pub record Older (m n : Mark) : Type 0 where
  pub cells : m.cells ≤ n.cells
  pub trail : m.trail ≤ n.trail
  pub vars : m.vars ≤ n.vars

-- a record is in order: its frame is among the first `top`, its depth below `depth`, and its mark no later than `last`
pub record Stands (l : Linked) (v : ℕ) (s : State) (frames : List Frame) (top depth : ℕ) (last : Mark) (c : Choice) (t : Option Ref) : Type 0 where
  pub mark : IsMark c.mark s
  pub older : Older c.mark last
  pub some : 0 < c.rest
  pub rest : c.rest ≤ top
  pub shallow : c.depth < depth
  pub wide : v ≤ c.mark.vars
  pub fit : FramesFit (state_at c.mark s) (take c.rest frames)
  pub kind : KindFits l (state_at c.mark s) c.kind t
  pub template : TemplateFits (state_at c.mark s) (outer_of c.kind t)

-- records are in order, the newest first: each stands above the older ones. Where no nested search is left no term is collected.
abbrev pub Stand : Linked → ℕ → State → List Frame → ℕ → ℕ → Mark → List Choice → Option Ref → Type 0
Stand l v s frames top depth last [] t = t ≡ None
Stand l v s frames top depth last (c ∷ cs) t =
    Stands l v s frames top depth last c t × Stand l v s frames (c.rest - 1) c.depth c.mark cs (outer_of c.kind t)

-- how many records are of nested searches
abbrev pub collects : List Choice → ℕ
collects [] = 0
collects (c ∷ cs) = elim c.kind [ Collect list outer ↦ collects cs + 1 | _ ↦ collects cs ]

-- the mark of a state
abbrev pub mark_of : State → Mark
mark_of s = record { cells = length s.cells; trail = length s.links; vars = s.next }

-- A path with these records, the newest first, for a node of this depth.
pub record IsWellWith (b : CompiledProgram) (p : Path) (cs : List Choice) (depth : ℕ) : Type 0 where
  pub store : IsStore (state_of p)
  pub frames : FramesFit (state_of p) p.frames
  pub template : TemplateFits (state_of p) p.template
  pub wide : p.width ≤ (state_of p).next
  pub records : Stand (linked b) p.width (state_of p) p.frames (length p.frames) depth (mark_of (state_of p)) cs p.template
  pub gathered : collects cs ≡ length p.gathered.items

-- a path between two moves, or in one, where `depth` is that of the next record or node
abbrev pub IsWell : CompiledProgram → Path → Type 0
IsWell b p = IsWellWith b p (reverse p.choices.items) p.depth

-- the place of the newest record's frame, 0 where there is none
abbrev pub floor_of : List Choice → ℕ
floor_of [] = 0
floor_of (c ∷ cs) = c.rest

-- as many nodes of the search have something untried as there are records
abbrev pub RecordsAreOpen : Type 0
RecordsAreOpen = (b : CompiledProgram) (p : Path) (d : ℕ) → IsWellWith b p (reverse p.choices.items) d
    → choices nat_eq (frames_on b p (reverse p.choices.items)) ≡ length p.choices.items
