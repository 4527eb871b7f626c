-- A nested search that has no more answers.
use Rattle.std.proofs.Common.{◌≡◌, ℕ, ◌+◌, ◌≤◌, List, [], ◌∷◌, Option, Some, None, refl, sym, ap, ◌∙◌, subst, arith, reverse, take, map}
use Rattle.std.specs.Prelude.{nat_eq, MatchBool, Bool, true, false}
use Rattle.pl_terms.specs.Trees.{Tree}
use Rattle.unifier_model.specs.Substitution.{apply}
use Rattle.unifier_model.specs.Mgu.{mgu, unifier}
use Rattle.pl_unify.specs.declared.word.Ref.{Ref}
use Rattle.pl_unify.specs.State.{State, Stored, state_at, tree_at, IsRef, IsStore, Extends, Grows}
use Rattle.pl_unify.specs.Steps.{Unified, NotUnified}
use Rattle.pl_unify.proofs.StoreLaws.{Extends-trans}
use Rattle.solver_model.specs.Search.{At, Over, Failed, Collects, PointOf, FrameOf, Language}
use Rattle.solver_model.specs.Configurations.{Turns}
use Rattle.solver_model.proofs.TurnLaws.{turns_then, turns_same, turn_gather}
use Rattle.builtin_model.specs.Lists.{list_tree}
use Rattle.goal_model.specs.Table.{Gathering, copies, answer_term, item_under, gathered}
use Rattle.pl_store.specs.Runs.{program_of}
use Rattle.goal_code.specs.BodyCode.{BodyCode}
use Rattle.goal_state.specs.Frames.{env_of, items_of}
use Rattle.goal_state.specs.declared.choice.Choice.{Choice}
use Rattle.goal_state.specs.declared.choice.ChoiceKind.{ChoiceKind}
use Rattle.goal_state.specs.declared.choice.ChoiceKind.TheVariants.{Collect}
use Rattle.goal_state.specs.declared.compiled.CompiledProgram.{CompiledProgram}
use Rattle.goal_state.specs.declared.path.Path.{Path}
use Rattle.goal_state.specs.Denotation.{linked, naming, language_of, state_of, answers_of, items_here, world_here, frames_on, frames_by, frame_from, rest_items, setting_at, outer_of, outer_answers, first, search_at}
use Rattle.goal_state.specs.Well.{KindFits, IsWellWith}
use Rattle.goal_state.proofs.PathLaws.{grown_frames_on, grown_well}
use Rattle.goal_state.proofs.BindLaws.{grown_items, bound_items, bound_world, template_same}
use Rattle.goal_moves.specs.Moves.{search_with, resumed, Moved}
use Rattle.goal_moves.specs.declared.going.Going.TheVariants.{On, Fails}
use Rattle.goal_moves.proofs.BackLaws.{back_well, back_frames, back_rest}
use Rattle.goal_moves.proofs.RetryLaws.{placed_well, deeper_well}

pub some_gathered : (kind : ChoiceKind) (list : Ref) (outer : Option Ref) (k n : ℕ) → kind ≡ Collect list outer → elim kind [ Collect list outer ↦ k + 1 | _ ↦ k ] ≡ n → n ≡ 0 → ⊥
some_gathered kind list outer k n is h none =
    let e : k + 1 ≡ n = ap (λ x. elim x [ Collect list outer ↦ k + 1 | _ ↦ k ]) (sym is) ∙ h in omega (arith, e, none)

pub mgu_is : (es : List (Tree ℕ × Tree ℕ)) → mgu es ≡ unifier nat_eq es
unfolding mgu
mgu_is es = refl

single : (b : CompiledProgram) (A : List (Tree ℕ)) → map (answer_term (naming b)) (map (λ a. a ∷ []) A) ≡ A
single b [] = refl
single b (a ∷ A) = ap (λ l. a ∷ l) (single b A)

module _ (b : CompiledProgram) (p q : Path) (c : Choice) (list : Ref) (outer : Option Ref) (is : c.kind ≡ Collect list outer) (d : ℕ) (w : IsWellWith b p (c ∷ reverse p.choices.items) d)
    (state : state_of q ≡ state_at c.mark (state_of p)) (frames : q.frames ≡ take c.rest p.frames) (template : q.template ≡ outer_of c.kind p.template) (gathered_is : answers_of q ≡ outer_answers c.kind (answers_of p))
    (others : q ≡ record p { store = q.store; frames = q.frames; template = q.template; gathered = q.gathered }) where
  abbrev A : List (Tree ℕ)
  A = first (answers_of p)

  abbrev L : Language
  L = language_of b

  width : q.width ≡ p.width
  width = ap (λ x. x.width) others

  choices : reverse q.choices.items ≡ reverse p.choices.items
  choices = ap (λ x. reverse x.choices.items) others

  pub left_search : IsWellWith b q (reverse q.choices.items) c.depth
  left_search = subst (λ l. IsWellWith b q l c.depth) (sym choices) (back_well b p q c (reverse p.choices.items) d w state frames template gathered_is width)

  pub list_fits : IsRef (state_of q) list
  list_fits =
      let kind : KindFits (linked b) (state_at c.mark (state_of p)) (Collect list outer) p.template = subst (λ k. KindFits (linked b) (state_at c.mark (state_of p)) k p.template) is w.records.0.kind in
      subst (λ σ. IsRef σ list) (sym state) kind.0

  outside : q.template ≡ outer
  outside = template ∙ ap (λ k. outer_of k p.template) is

  -- what is gathered, where the search goes on from a place
  abbrev gathering : ℕ → ℕ → Gathering ℕ
  gathering f pc = record { depth = c.depth; list = tree_at (state_of q) list; rest = items_here b q f pc; world = world_here b q }

  abbrev GoesOn : ℕ → ℕ → Type 0
  GoesOn f pc = (x : ℕ → BodyCode) (s : State) → items_of x s q.frames f pc ≡ items_of x s q.frames c.rest 0

  gather_frames : (f pc : ℕ) → GoesOn f pc → frames_on b p (c ∷ reverse p.choices.items) ≡ Collects c.depth (map (λ a. a ∷ []) A) (gathering f pc) ∷ frames_on b q (reverse q.choices.items)
  gather_frames f pc h =
      let cs : List Choice = reverse p.choices.items in
      let σ : State = state_at c.mark (state_of p) in
      let below : frames_on b q (reverse q.choices.items) ≡ frames_by b p.width (state_of p) p.frames cs (outer_of c.kind p.template) (outer_answers c.kind (answers_of p)) =
      ap (frames_on b q) choices ∙ back_frames b p q c cs d w state frames template gathered_is width in
      ap (λ fs. frame_from b p.width c.kind c.depth σ (rest_items b p.width (state_of p) p.frames c) (env_of (setting_at p.frames c.rest)) p.template A ∷ fs) (sym below)
      ∙ ap (λ k. frame_from b p.width k c.depth σ (rest_items b p.width (state_of p) p.frames c) (env_of (setting_at p.frames c.rest)) p.template A ∷ frames_on b q (reverse q.choices.items)) is
      ∙ ap (λ t. frame_from b p.width (Collect list t) c.depth σ (rest_items b p.width (state_of p) p.frames c) (env_of (setting_at p.frames c.rest)) p.template A ∷ frames_on b q (reverse q.choices.items)) (sym outside)
      ∙ ap (λ v. frame_from b v (Collect list q.template) c.depth σ (rest_items b p.width (state_of p) p.frames c) (env_of (setting_at p.frames c.rest)) p.template A ∷ frames_on b q (reverse q.choices.items)) (sym width)
      ∙ ap (λ s. frame_from b q.width (Collect list q.template) c.depth s (rest_items b p.width (state_of p) p.frames c) (env_of (setting_at p.frames c.rest)) p.template A ∷ frames_on b q (reverse q.choices.items)) (sym state)
      ∙ ap (λ r. frame_from b q.width (Collect list q.template) c.depth (state_of q) r (env_of (setting_at p.frames c.rest)) p.template A ∷ frames_on b q (reverse q.choices.items)) (sym (back_rest b p q c cs d w state frames template gathered_is width f pc h))

  -- the list of the answers was made
  module _ (S1 : Stored) (found : Ref) (grows : Grows (state_of q) S1.state) (tree : tree_at S1.state found ≡ list_tree (naming b) (copies (state_of q).next A).0) where
    gather_is : (f pc : ℕ) (o : Option (List (ℕ × Tree ℕ))) → mgu ((tree_at S1.state found, tree_at S1.state list) ∷ []) ≡ o → L.gather (gathering f pc) (map (λ a. a ∷ []) A) ≡ gathered (naming b) (gathering f pc) (copies (state_of q).next A).1 o
    gather_is f pc o e =
        ap (λ l. gathered (naming b) (gathering f pc) (copies (state_of q).next l).1 (unifier nat_eq ((list_tree (naming b) (copies (state_of q).next l).0, tree_at (state_of q) list) ∷ []))) (single b A)
        ∙ ap (λ t. gathered (naming b) (gathering f pc) (copies (state_of q).next A).1 (unifier nat_eq ((t, tree_at (state_of q) list) ∷ []))) (sym tree)
        ∙ ap (λ t. gathered (naming b) (gathering f pc) (copies (state_of q).next A).1 (unifier nat_eq ((tree_at S1.state found, t) ∷ []))) (sym (grows.places list list_fits))
        ∙ ap (gathered (naming b) (gathering f pc) (copies (state_of q).next A).1) (sym (mgu_is ((tree_at S1.state found, tree_at S1.state list) ∷ [])) ∙ e)

    -- a search that goes on from what is gathered
    gather_turns : (f pc : ℕ) → GoesOn f pc → (point : PointOf L) → L.gather (gathering f pc) (map (λ a. a ∷ []) A) ≡ point → (r : Path) → frames_on b r (reverse r.choices.items) ≡ frames_on b q (reverse q.choices.items) → (left : ℕ)
        → Turns L (resumed b p c (Over Failed) left) (search_at b r point left)
    gather_turns f pc h point e r same left =
        let inner : FrameOf L = Collects c.depth (map (λ a. a ∷ []) A) (gathering f pc) in
        let fs : List (FrameOf L) = frames_on b q (reverse q.choices.items) in
        turns_then L (resumed b p c (Over Failed) left) (search_with b p (Over Failed) (inner ∷ fs) left) (search_at b r point left)
        (turns_same L (resumed b p c (Over Failed) left) (search_with b p (Over Failed) (inner ∷ fs) left) (ap (λ gs. search_with b p (Over Failed) gs left) (gather_frames f pc h)))
        (turns_then L (search_with b p (Over Failed) (inner ∷ fs) left) (search_with b p point fs left) (search_at b r point left)
        (turn_gather L c.depth left (program_of (linked b)).clauses (map (λ a. a ∷ []) A) (gathering f pc) point fs e)
        (turns_same L (search_with b p point fs left) (search_at b r point left) (ap (λ gs. search_with b p point gs left) (sym same))))

    -- the list does not unify
    pub gather_fails : (S2 : Stored) → Extends (state_of q) S2.state → IsStore S2.state → NotUnified S1.state found list → c.depth + 1 ≤ p.depth → Moved b p (record q { store = S2 }) (resumed b p c (Over Failed)) Fails
    gather_fails S2 extends store differ low =
        let same_depth : q.depth ≡ p.depth = ap (λ x. x.depth) others in
        record {
          well = grown_well b q (record q { store = S2 }) refl extends (reverse q.choices.items) q.depth store (deeper_well b q (reverse q.choices.items) c.depth q.depth (omega (arith, same_depth, low)) left_search);
          low = omega (arith, same_depth);
          width = width;
          goes = gather_turns c.rest 0 (λ x s. refl) (Over Failed) (gather_is c.rest 0 None differ) (record q { store = S2 }) (grown_frames_on b q (record q { store = S2 }) refl extends (reverse q.choices.items) c.depth left_search);
        }

    -- it unifies
    pub gather_on : (S2 : Stored) → Unified S1.state S2.state found list → IsStore S1.state → IsStore S2.state → S1.state.next ≡ (copies (state_of q).next A).1 → (f pc : ℕ) → GoesOn f pc → c.depth + 1 ≤ p.depth
        → Moved b p (record q { store = S2; f = f; pc = pc; depth = c.depth + 1 }) (resumed b p c (Over Failed)) On
    gather_on S2 un store1 store2 next f pc h low =
        let mid : Path = record q { store = S1 } in
        let end : Path = record q { store = S2 } in
        let extends : Extends (state_of q) S2.state = Extends-trans (state_of q) S1.state S2.state grows.extends un.only.extends in
        let mid_well : IsWellWith b mid (reverse q.choices.items) c.depth = grown_well b q mid refl grows.extends (reverse q.choices.items) c.depth store1 left_search in
        let moves : (r : Ref) → IsRef S1.state r → tree_at S2.state r ≡ apply un.unifier (tree_at S1.state r) = λ r k. un.places r in
        let items : items_here b end f pc ≡ map (item_under un.unifier) (items_here b q f pc) =
        bound_items b mid end un.unifier refl un.bound moves f pc mid_well.frames ∙ ap (map (item_under un.unifier)) (grown_items b q mid refl grows f pc left_search.frames) in
        let world : world_here b end ≡ record { template = map (apply un.unifier) (world_here b q).template; next = (copies (state_of q).next A).1 } =
        bound_world b mid end un.unifier refl un.bound moves (copies (state_of q).next A).1 un.variables (un.only.next ∙ next) mid_well.template
        ∙ ap (λ l. record { template = map (apply un.unifier) l; next = (copies (state_of q).next A).1 }) (template_same (state_of q) S1.state q.width q.template grows left_search.template) in
        let point : L.gather (gathering f pc) (map (λ a. a ∷ []) A) ≡ At (record { depth = c.depth + 1; items = items_here b end f pc; world = world_here b end }) =
        gather_is f pc (Some un.unifier) un.solved
        ∙ ap (λ i. At (record { depth = c.depth + 1; items = i; world = record { template = map (apply un.unifier) (world_here b q).template; next = (copies (state_of q).next A).1 } })) (sym items)
        ∙ ap (λ x. At (record { depth = c.depth + 1; items = items_here b end f pc; world = x })) (sym world) in
        record {
          well = placed_well b end (reverse q.choices.items) c.depth (c.depth + 1) f pc (c.depth + 1) (omega arith) (grown_well b q end refl extends (reverse q.choices.items) c.depth store2 left_search);
          low = low;
          width = width;
          goes = gather_turns f pc h (At (record { depth = c.depth + 1; items = items_here b end f pc; world = world_here b end })) point (record end { f = f; pc = pc; depth = c.depth + 1 }) (grown_frames_on b q end refl extends (reverse q.choices.items) c.depth left_search);
        }

pub when_false : (P Q : Type 0) (y : Bool) → y ≡ false → MatchBool y P Q → Q
when_false P Q false e h = h
when_false P Q true e h = cc

pub when_true : (P Q : Type 0) (y : Bool) → y ≡ true → MatchBool y P Q → P
when_true P Q true e h = h
when_true P Q false e h = cc
