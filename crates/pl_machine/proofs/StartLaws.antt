-- Where the run of a goal starts.
use Rattle.std.proofs.Common.{◌≡◌, ℕ, ◌≤◌, [], ◌++◌, None, Ok, Err, refl, sym, ap, ◌∙◌, subst, arith, length, reverse, map}
use Rattle.std.specs.Prelude.{nat_eq, codes}
use Rattle.std.proofs.lemmas.List.{append-nil}
use Rattle.pl_terms.specs.Trees.{Tree, var}
use Rattle.pl_terms.specs.Occurrence.{canon, variables, from_to}
use Rattle.unifier_model.specs.Substitution.{apply}
use Rattle.pl_unify.specs.declared.word.Ref.{Ref}
use Rattle.pl_unify.specs.Words.{bound_onto}
use Rattle.pl_unify.specs.State.{base, tree_at}
use Rattle.solver_model.specs.Search.{At, Over, Thrown, pops}
use Rattle.solver_model.specs.Configurations.{Configuration, Sane, value_of, Turns}
use Rattle.solver_model.proofs.TurnLaws.{turns_none}
use Rattle.goal_model.specs.Bodies.{goal_of, flat}
use Rattle.goal_model.specs.Run.{run_of, start, starting, user_place}
use Rattle.goal_model.specs.Table.{Items}
use Rattle.goal_model.proofs.SaneProofs.{start_sane}
use Rattle.pl_store.specs.Runs.{program_of}
use Rattle.goal_state.specs.Frames.{env_of, items_of}
use Rattle.goal_constructs.specs.Calling.{IsCalled}
use Rattle.goal_constructs.specs.declared.calling.Called.TheVariants as C
use Rattle.goal_state.specs.declared.compiled.CompiledProgram.{CompiledProgram}
use Rattle.goal_state.specs.declared.path.Path.{Path}
use Rattle.goal_state.specs.Denotation.{linked, naming, language_of, bodies, state_of, template_of, items_here, world_here, point_here, frames_on, search_at}
use Rattle.goal_state.specs.Well.{IsCompiled, IsWell, IsWellWith}
use Rattle.goal_moves.specs.declared.active.Rest.{Rest}
use Rattle.goal_moves.specs.declared.going.Going.{Going}
use Rattle.goal_moves.specs.declared.going.Going.TheVariants.{On}
use Rattle.goal_moves.specs.Control.{Grew}
use Rattle.goal_moves.specs.Moves.{Entered, Moved, here, thrown}
use Rattle.goal_moves.proofs.PlainLaws.{stays_then}
use Rattle.goal_moves.proofs.Steady.{entered_depth}
use Rattle.goal_state.proofs.PathLaws.{grown_well}
use Rattle.pl_machine.specs.Starting.{IsFresh, outermost, Begins}

-- the first place
abbrev pub first : Rest
first = record { f = 0; pc = 0 }

-- the name under which a run's goal is called
abbrev pub call_name : CompiledProgram → ℕ
call_name b = (naming b).name (codes "call")

-- the search that a run is
abbrev pub begun : (b : CompiledProgram) → Tree ℕ → ℕ → Configuration (language_of b)
begun b goal left = record { point = start (naming b) goal; left = left; clauses = (program_of (linked b)).clauses; frames = [] }

-- the value of a search that turns from it
turned_gives : (b : CompiledProgram) (goal : Tree ℕ) (left : ℕ) (x : Configuration (language_of b)) → x ≡ begun b goal left → (y : Configuration (language_of b)) → Turns (language_of b) x y
    → Sane (language_of b) y × (value_of (language_of b) y ≡ run_of (naming b) nat_eq (program_of (linked b)) goal left)
turned_gives b goal left x e y t =
    let P : Configuration (language_of b) → Type 0 = λ z. Sane (language_of b) z × (value_of (language_of b) z ≡ run_of (naming b) nat_eq (program_of (linked b)) goal left) in
    let h : P x = subst P (sym e) ((start_sane (naming b) nat_eq (program_of (linked b)) goal, tt), refl) in
    (t.sane h.0, t.value h.0 ∙ h.1)

-- places alone were added to a path
pub grew_fresh : (p q : Path) (goal : Tree ℕ) → Grew p q → IsFresh p goal → IsFresh q goal
grew_fresh p q goal g h = record {
  depth = ap (λ r. r.depth) g.others ∙ h.depth;
  choices = ap (λ r. r.choices.items) g.others ∙ h.choices;
  template = ap (λ r. r.template) g.others ∙ h.template;
  frames = ap (λ r. r.frames) g.others ∙ h.frames;
  width = ap (λ r. r.width) g.others ∙ h.width;
  next = g.next ∙ h.next;
  links = g.grows.links ∙ h.links;
}

pub grew_depth : (p q : Path) → Grew p q → q.depth ≡ p.depth
grew_depth p q g = ap (λ r. r.depth) g.others

pub grew_width : (p q : Path) → Grew p q → q.width ≡ p.width
grew_width p q g = ap (λ r. r.width) g.others

pub grew_well : (b : CompiledProgram) (p q : Path) → Grew p q → IsWell b p → IsWell b q
grew_well b p q g w =
    subst (λ r. IsWellWith b q (reverse r.choices.items) r.depth) (sym g.others) (grown_well b p q g.others g.grows.extends (reverse p.choices.items) p.depth g.store w)

-- goals were put before a path
module _ (b : CompiledProgram) (p q : Path) (rest at : Rest) (items : Items ℕ) (h : Entered b p q rest at items) where
  pub entered_well : IsWell b p → IsWell b q
  entered_well well = subst (λ d. IsWellWith b q (reverse q.choices.items) d) (sym (entered_depth b p q rest at items h)) (h.well p.depth well)

  pub entered_low : q.depth ≤ p.depth
  entered_low = let same : q.depth ≡ p.depth = entered_depth b p q rest at items h in omega (arith, same)

  pub entered_width : q.width ≡ p.width
  entered_width = ap (λ r. r.width) h.others

module _ (b : CompiledProgram) (p : Path) (goal : Tree ℕ) (fresh : IsFresh p goal) where
  abbrev width : ℕ
  width = length (variables goal)

  no_items : items_here b p 0 0 ≡ []
  no_items = ap (λ l. items_of (bodies b) (state_of p) l 0 0) fresh.frames

  no_frames : frames_on b p (reverse p.choices.items) ≡ []
  no_frames = ap (λ l. frames_on b p (reverse l)) fresh.choices

  -- the ball of the goal's conversion is thrown
  ball_begins : (ball : Tree ℕ) (left : ℕ) → goal_of (naming b) goal (call_name b) 1 ≡ Err ball → thrown b p (canon ball) (pops (items_here b p 0 0)) left ≡ begun b goal left
  ball_begins ball left e =
      let here : thrown b p (canon ball) (pops (items_here b p 0 0)) left ≡ record { point = Over (Thrown (canon ball) []); left = left; clauses = (program_of (linked b)).clauses; frames = [] } =
      λ i. record { point = Over (Thrown (canon ball) (pops (no_items i))); left = left; clauses = (program_of (linked b)).clauses; frames = no_frames i } in
      let there : record { point = Over (Thrown (canon ball) []); left = left; clauses = (program_of (linked b)).clauses; frames = [] } ≡ begun b goal left =
      λ i. record { point = starting (naming b) (sym e i) width; left = left; clauses = (program_of (linked b)).clauses; frames = [] } in
      here ∙ there

  pub raised_begins : (q : Path) (at : Ref) (g : Going) → IsCalled (state_of p) (goal_of (naming b) goal (call_name b) 1) (C.Ball at)
      → Moved b p q (thrown b p (canon (tree_at (state_of p) at)) (pops (items_here b p 0 0))) g → (left : ℕ) → Begins b q goal left g
  raised_begins q at g called m left =
      let ball : Tree ℕ = tree_at (state_of p) at in
      stays_then b (Turns (language_of b) (thrown b p (canon ball) (pops (items_here b p 0 0)) left)) _ q left g
      (turned_gives b goal left (thrown b p (canon ball) (pops (items_here b p 0 0)) left) (ball_begins ball left called.1)) (m.goes left)

  -- the goals of its conversion are before a path
  first_world : world_here b p ≡ record { template = map var (from_to 0 width); next = width }
  first_world =
      let none : template_of (state_of p) p.width p.template ≡ template_of (state_of p) p.width None = ap (template_of (state_of p) p.width) fresh.template in
      let own : template_of (state_of p) p.width None ≡ map var (from_to 0 p.width) = ap (λ l. map (λ n. apply (bound_onto (base (state_of p)) [] l) (var n)) (from_to 0 p.width)) fresh.links in
      let all : template_of (state_of p) p.width p.template ≡ map var (from_to 0 width) = none ∙ own ∙ ap (λ n. map var (from_to 0 n)) fresh.width in
      λ i. record { template = all i; next = fresh.next i }

  module _ (compiled : IsCompiled b) (well : IsWell b p) (q : Path) (at : Ref) (h : Entered b p q first (here q) (flat (naming b) (tree_at (state_of p) at) (env_of (outermost b)) 0 ++ items_here b p 0 0)) where
    abbrev body : Tree ℕ
    body = tree_at (state_of p) at

    user : (naming b).name (codes "user") ≡ b.constructs.names.user_word.0
    user = compiled.constructs.names.user_word.made

    its_items : items_here b q q.f q.pc ≡ flat (naming b) body (user_place (naming b)) 0
    its_items =
        h.goes ∙ ap (λ l. flat (naming b) body (env_of (outermost b)) 0 ++ l) no_items ∙ append-nil (flat (naming b) body (env_of (outermost b)) 0)
        ∙ ap (λ n. flat (naming b) body (record { lookup = n; context = n; caller = n }) 0) (sym user)

    its_depth : q.depth ≡ 0
    its_depth = entered_depth b p q first (here q) _ h ∙ fresh.depth

    its_world : world_here b q ≡ record { template = map var (from_to 0 width); next = width }
    its_world = ap (λ r. world_here b r) h.others ∙ first_world

    its_frames : frames_on b q (reverse q.choices.items) ≡ []
    its_frames = h.records p.depth well ∙ no_frames

    pub goals_begin : IsCalled (state_of p) (goal_of (naming b) goal (call_name b) 1) (C.Goal at) → (left : ℕ) → Begins b q goal left On
    goals_begin called left =
        let one : search_at b q (point_here b q) left ≡ record { point = starting (naming b) (Ok body) width; left = left; clauses = (program_of (linked b)).clauses; frames = [] } =
        λ i. record { point = At (record { depth = its_depth i; items = its_items i; world = its_world i }); left = left; clauses = (program_of (linked b)).clauses; frames = its_frames i } in
        let two : record { point = starting (naming b) (Ok body) width; left = left; clauses = (program_of (linked b)).clauses; frames = [] } ≡ begun b goal left =
        λ i. record { point = starting (naming b) (sym called.1 i) width; left = left; clauses = (program_of (linked b)).clauses; frames = [] } in
        turned_gives b goal left (search_at b q (point_here b q) left) (one ∙ two) (search_at b q (point_here b q) left) (turns_none (language_of b) (search_at b q (point_here b q) left))
