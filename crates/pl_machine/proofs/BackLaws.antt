-- Machines that go back to the node of their last record.
use Rattle.std.proofs.Common.{◌≡◌, ℕ, ◌+◌, ◌∷◌, refl, sym, ap, ◌∙◌, subst, length, reverse, take}
use Rattle.pl_unify.specs.State.{state_at}
use Rattle.goal_state.specs.declared.choice.Choice.{Choice}
use Rattle.goal_state.specs.declared.compiled.CompiledProgram.{CompiledProgram}
use Rattle.goal_state.specs.declared.path.Path.{Path}
use Rattle.goal_state.specs.Denotation.{state_of, answers_of, outer_of, outer_answers}
use Rattle.goal_state.specs.Well.{IsCompiled, IsWellWith, collects}
use Rattle.goal_state.proofs.BackLaws.{back_well, outer_count, answers_count}
use Rattle.pl_machine.specs.declared.machine.Machine.{Machine}
use Rattle.pl_machine.specs.Inside.{IsInside, WentBack}
use Rattle.pl_machine.proofs.RoomLaws.{records_well}

-- a record was taken off, gone back to, and its nested search left
pub record Steps (p popped back left : Path) (c : Choice) : Type 0 where
  pub last : reverse p.choices.items ≡ c ∷ reverse popped.choices.items
  pub pop : popped ≡ record p { choices = popped.choices }
  pub state : state_of back ≡ state_at c.mark (state_of popped)
  pub frames : back.frames ≡ take c.rest popped.frames
  pub gone : back ≡ record popped { store = back.store; frames = back.frames }
  pub template : left.template ≡ outer_of c.kind back.template
  pub gathered : answers_of left ≡ outer_answers c.kind (answers_of back)
  pub others : left ≡ record back { template = left.template; gathered = left.gathered }

-- the record stands on the path that it was taken off
pub popped_well : (b : CompiledProgram) (p q : Path) (c : Choice) (d : ℕ) → reverse p.choices.items ≡ c ∷ reverse q.choices.items → q ≡ record p { choices = q.choices } → IsWellWith b p (reverse p.choices.items) d → IsWellWith b q (c ∷ reverse q.choices.items) d
popped_well b p q c d last pop w = records_well b p q pop (c ∷ reverse q.choices.items) d (subst (λ cs. IsWellWith b p cs d) last w)

module _ (p popped back left : Path) (c : Choice) (h : Steps p popped back left c) where
  store_same : left.store ≡ back.store
  store_same = ap (λ (r : Path). r.store) h.others

  frames_same : left.frames ≡ back.frames
  frames_same = ap (λ (r : Path). r.frames) h.others

  choices_same : left.choices ≡ popped.choices
  choices_same = ap (λ (r : Path). r.choices) h.others ∙ ap (λ (r : Path). r.choices) h.gone

  template_same : back.template ≡ p.template
  template_same = ap (λ (r : Path). r.template) h.gone ∙ ap (λ (r : Path). r.template) h.pop

  -- what is another
  whole : left ≡ record p { store = left.store; frames = left.frames; choices = left.choices; gathered = left.gathered; template = left.template }
  whole =
      h.others
      ∙ ap (λ (r : Path). record r { template = left.template; gathered = left.gathered }) h.gone
      ∙ ap (λ (r : Path). record r { store = back.store; frames = back.frames; template = left.template; gathered = left.gathered }) h.pop
      ∙ ap (λ s. record p { store = s; frames = back.frames; choices = popped.choices; gathered = left.gathered; template = left.template }) (sym store_same)
      ∙ ap (λ f. record p { store = left.store; frames = f; choices = popped.choices; gathered = left.gathered; template = left.template }) (sym frames_same)
      ∙ ap (λ k. record p { store = left.store; frames = left.frames; choices = k; gathered = left.gathered; template = left.template }) (sym choices_same)

  pub node_well : (b : CompiledProgram) (d : ℕ) → IsWellWith b p (reverse p.choices.items) d → IsWellWith b left (reverse left.choices.items) c.depth
  node_well b d well =
      let w : IsWellWith b popped (c ∷ reverse popped.choices.items) d = popped_well b p popped c d h.last h.pop well in
      let kind : left ≡ record back { template = outer_of c.kind popped.template; gathered = left.gathered } =
      h.others ∙ ap (λ t. record back { template = t; gathered = left.gathered }) (h.template ∙ ap (λ (r : Path). outer_of c.kind r.template) h.gone) in
      let answers : answers_of left ≡ outer_answers c.kind (answers_of popped) = h.gathered ∙ ap (λ (r : Path). outer_answers c.kind (answers_of r)) h.gone in
      let count : collects (reverse popped.choices.items) ≡ length left.gathered.items =
      outer_count c (reverse popped.choices.items) (answers_of popped) (w.gathered ∙ sym (answers_count popped)) ∙ sym (ap length answers) ∙ answers_count left in
      subst (λ k. IsWellWith b left (reverse k.items) c.depth) (sym choices_same)
      (back_well b popped back c (reverse popped.choices.items) d w h.state h.frames h.gone left kind count)

-- a machine that went back
module _ (m : Machine) (popped back left : Path) (c : Choice) (h : Steps m.path popped back left c) where
  abbrev there : Machine
  there = record m { path = record left { depth = c.depth + 1 } }

  pub went_back : WentBack m there c
  went_back = record {
    choices = h.last ∙ ap (λ k. c ∷ reverse k.items) (sym (choices_same m.path popped back left c h));
    state = ap (λ (r : Path). state_of r) h.others ∙ h.state ∙ ap (λ (r : Path). state_at c.mark (state_of r)) h.pop;
    frames = frames_same m.path popped back left c h ∙ h.frames ∙ ap (λ (r : Path). take c.rest r.frames) h.pop;
    depth = refl;
    template = h.template ∙ ap (outer_of c.kind) (template_same m.path popped back left c h);
    gathered = h.gathered ∙ ap (λ (r : Path). outer_answers c.kind (answers_of r)) (h.gone) ∙ ap (λ (r : Path). outer_answers c.kind (answers_of r)) h.pop;
    others = ap (λ (r : Path). record m { path = record r { depth = c.depth + 1 } }) (whole m.path popped back left c h);
  }

  pub back_inside : (d : ℕ) → IsCompiled m.compiled → IsWellWith m.compiled m.path (reverse m.path.choices.items) d → IsInside there c.depth
  back_inside d compiled well =
      let w = node_well m.path popped back left c h m.compiled d well in
      record {
        compiled = compiled;
        well = record { store = w.store; frames = w.frames; template = w.template; wide = w.wide; records = w.records; gathered = w.gathered };
        depth = refl;
      }
