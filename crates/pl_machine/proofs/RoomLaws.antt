-- Machines of which the records alone are others.
use Rattle.std.proofs.Common.{◌≡◌, ℕ, zero, suc, Bool, true, false, List, [], ◌∷◌, ◌++◌, Option, refl, sym, ap, ◌∙◌, subst, arith, reverse}
use Rattle.std.specs.Prelude.{nat_lt, if◌then◌else◌}
use Rattle.std.proofs.lemmas.Bool.{ltb-false}
use Rattle.std.proofs.lemmas.List.{reverse-append}
use Rattle.pl_terms.specs.Trees.{Tree}
use Rattle.pl_unify.specs.declared.word.Ref.{Ref}
use Rattle.solver_model.specs.Search.{Over, Failed, Thrown, Halted, PointOf}
use Rattle.solver_model.specs.Configurations.{Configuration}
use Rattle.pl_store.specs.Runs.{program_of}
use Rattle.goal_state.specs.declared.choice.Choice.{Choice}
use Rattle.goal_state.specs.declared.choice.ChoiceKind.{ChoiceKind}
use Rattle.goal_state.specs.declared.choice.ChoiceKind.TheVariants.{Clauses, Branch, Catch, Collect}
use Rattle.goal_state.specs.declared.compiled.CompiledProgram.{CompiledProgram}
use Rattle.goal_state.specs.declared.path.Path.{Path}
use Rattle.goal_state.specs.Denotation.{linked, language_of, answers_of, outer_of, outer_answers, frames_on, point_here, search_at}
use Rattle.goal_state.specs.Well.{IsWell, IsWellWith}
use Rattle.goal_state.specs.Steps.{kept, template_kept, answers_kept}
use Rattle.goal_state.proofs.BackLaws.{cut_well}
use Rattle.goal_moves.specs.declared.going.Going.{Going}
use Rattle.goal_moves.specs.declared.going.Going.TheVariants.{On, Fails, Halts, Uncaught}
use Rattle.goal_moves.specs.Moves.{Stays}
use Rattle.pl_machine.specs.declared.machine.Machine.{Machine}
use Rattle.pl_machine.specs.Inside.{IsInside, IsNested, Unnested}
use Rattle.pl_machine.specs.Machine.{IsMachine}
use Rattle.pl_machine.specs.Running.{Outcomes, Remains}
use Rattle.pl_machine.specs.Parts.{IsSo}
use Rattle.pl_machine.proofs.MachineLaws.{moved_machine}

-- ---- other records

module _ (b : CompiledProgram) (p q : Path) (others : q ≡ record p { choices = q.choices }) where
  pub records_well : (cs : List Choice) (d : ℕ) → IsWellWith b p cs d → IsWellWith b q cs d
  records_well cs d w = subst (λ r. IsWellWith b r cs d) (sym others) (record { store = w.store; frames = w.frames; template = w.template; wide = w.wide; records = w.records; gathered = w.gathered })

  -- the same records
  module _ (same : q.choices.items ≡ p.choices.items) where
    pub same_well : (d : ℕ) → IsWellWith b p (reverse p.choices.items) d → IsWellWith b q (reverse q.choices.items) d
    same_well d w = subst (λ cs. IsWellWith b q (reverse cs) d) (sym same) (records_well (reverse p.choices.items) d w)

    -- what a search with these records has before it
    abbrev over : (R : Configuration (language_of b) → Type 0) → PointOf (language_of b) → ℕ → List Choice → Type 0
    over R point left cs = R (record { point = point; left = left; clauses = (program_of (linked b)).clauses; frames = frames_on b p (reverse cs) })

    pub same_stays : (R : Configuration (language_of b) → Type 0) (left : ℕ) (g : Going) → Stays b R p left g → Stays b R q left g
    same_stays R left On h = subst (λ r. R (search_at b r (point_here b r) left)) (sym others) (subst (over R (point_here b p) left) (sym same) h)
    same_stays R left Fails h = subst (λ r. R (search_at b r (Over Failed) left)) (sym others) (subst (over R (Over Failed) left) (sym same) h)
    same_stays R left (Halts z) h = subst (λ r. R (search_at b r (Over (Halted z)) left)) (sym others) (subst (over R (Over (Halted z)) left) (sym same) h)
    same_stays R left (Uncaught t) h = (h.0, same ∙ h.1, subst (λ r. R (search_at b r (Over (Thrown t.value h.0)) left)) (sym others) (subst (over R (Over (Thrown t.value h.0)) left) (sym same) h.2))

-- ---- room for a record

module _ (m : Machine) (q : Path) (others : q ≡ record m.path { choices = q.choices }) (same : q.choices.items ≡ m.path.choices.items) where
  pub room_machine : IsMachine m → IsMachine (record m { path = q })
  room_machine h =
      moved_machine m q m.going h (subst (λ d. IsWellWith m.compiled q (reverse q.choices.items) d) (sym (ap (λ (r : Path). r.depth) others)) (same_well m.compiled m.path q others same m.path.depth h.well))
      (let deep : q.depth ≡ m.path.depth = ap (λ (r : Path). r.depth) others in omega (arith, deep)) (ap (λ (r : Path). r.width) others)

  pub room_inside : (node : ℕ) → IsInside m node → IsInside (record m { path = q }) node
  room_inside node h = record { compiled = h.compiled; well = same_well m.compiled m.path q others same node h.well; depth = ap (λ (r : Path). r.depth) others ∙ h.depth }

  pub room_remains : (r : Outcomes) → Remains m r → Remains (record m { path = q }) r
  room_remains r h = same_stays m.compiled m.path q others same (λ x. IsSo m.compiled x r) m.left m.going h

-- ---- a record that is opened

module _ (b : CompiledProgram) (p q : Path) (c : Choice) (others : q ≡ record p { choices = q.choices }) (opened : q.choices.items ≡ p.choices.items ++ c ∷ []) where
  pub opened_well : (d : ℕ) → IsWellWith b p (c ∷ reverse p.choices.items) d → IsWellWith b q (reverse q.choices.items) d
  opened_well d w =
      let is : reverse q.choices.items ≡ c ∷ reverse p.choices.items = ap reverse opened ∙ reverse-append p.choices.items (c ∷ []) in
      subst (λ cs. IsWellWith b q cs d) (sym is) (records_well b p q others (c ∷ reverse p.choices.items) d w)

  pub opened_deep : IsWellWith b p (c ∷ reverse p.choices.items) p.depth → IsWell b q
  opened_deep w = subst (λ d. IsWellWith b q (reverse q.choices.items) d) (sym (ap (λ (r : Path). r.depth) others)) (opened_well p.depth w)

-- ---- records that are cut off, none of them of a nested search

kept_out : (kind : ChoiceKind) (t u : Option Ref) (gs hs : List (List (Tree ℕ))) → (IsNested kind → ⊥) → (u ≡ outer_of kind t) × (hs ≡ outer_answers kind gs) → (u ≡ t) × (hs ≡ gs)
kept_out (Clauses c g) t u gs hs n e = e
kept_out Branch t u gs hs n e = e
kept_out (Catch k c r) t u gs hs n e = e
kept_out (Collect l o) t u gs hs n e = absurd (n tt)

pub unnested_kept : (d : ℕ) (cs : List Choice) (t : Option Ref) (gs : List (List (Tree ℕ))) → Unnested d cs → (template_kept d cs t ≡ t) × (answers_kept d cs gs ≡ gs)
unnested_kept d [] t gs h = (refl, refl)
unnested_kept d (c ∷ cs) t gs h = go (nat_lt c.depth d) refl (unnested_kept d cs (outer_of c.kind t) (outer_answers c.kind gs) (λ k x l. h (suc k) x (omega (arith, l))))
  where
    go : (x : Bool) → nat_lt c.depth d ≡ x
        → (template_kept d cs (outer_of c.kind t) ≡ outer_of c.kind t) × (answers_kept d cs (outer_answers c.kind gs) ≡ outer_answers c.kind gs)
        → ((if x then t else template_kept d cs (outer_of c.kind t)) ≡ t) × ((if x then gs else answers_kept d cs (outer_answers c.kind gs)) ≡ gs)
    go true e ih = (refl, refl)
    go false e ih = kept_out c.kind t (template_kept d cs (outer_of c.kind t)) gs (answers_kept d cs (outer_answers c.kind gs)) (h zero c (omega arith) (ltb-false c.depth d e)) ih

pub record CutOff (p q : Path) (d : ℕ) : Type 0 where
  pub unnested : Unnested d (reverse p.choices.items)
  pub choices : reverse q.choices.items ≡ kept d (reverse p.choices.items)
  pub template : q.template ≡ template_kept d (reverse p.choices.items) p.template
  pub gathered : answers_of q ≡ answers_kept d (reverse p.choices.items) (answers_of p)
  pub others : q ≡ record p { choices = q.choices; template = q.template; gathered = q.gathered }

module _ (p q : Path) (d : ℕ) (h : CutOff p q d) where
  pub cut_answers : answers_of q ≡ answers_of p
  cut_answers = h.gathered ∙ (unnested_kept d (reverse p.choices.items) p.template (answers_of p) h.unnested).1

  pub cut_others : q ≡ record p { choices = q.choices; gathered = q.gathered }
  cut_others = h.others ∙ ap (λ t. record p { choices = q.choices; template = t; gathered = q.gathered }) (h.template ∙ (unnested_kept d (reverse p.choices.items) p.template (answers_of p) h.unnested).0)

  pub cut_depth : q.depth ≡ p.depth
  cut_depth = ap (λ (r : Path). r.depth) h.others

module _ (m : Machine) (q : Path) (d : ℕ) (h : CutOff m.path q d) where
  cut_on : (depth : ℕ) → IsWellWith m.compiled m.path (reverse m.path.choices.items) depth → IsWellWith m.compiled q (reverse q.choices.items) depth
  cut_on depth w = cut_well m.compiled m.path q d depth h.choices h.template h.gathered h.others w

  pub cut_machine : IsMachine m → IsMachine (record m { path = q })
  cut_machine i =
      let deep : q.depth ≡ m.path.depth = cut_depth m.path q d h in
      moved_machine m q m.going i (subst (λ k. IsWellWith m.compiled q (reverse q.choices.items) k) (sym deep) (cut_on m.path.depth i.well)) (omega (arith, deep)) (ap (λ (r : Path). r.width) h.others)

  pub cut_inside : (node : ℕ) → IsInside m node → IsInside (record m { path = q }) node
  cut_inside node i = record { compiled = i.compiled; well = cut_on node i.well; depth = cut_depth m.path q d h ∙ i.depth }
