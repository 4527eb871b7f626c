-- A nested search that is begun.
use Rattle.std.proofs.Common.{◌≡◌, ℕ, ◌+◌, ◌-◌, ◌≤◌, List, [], ◌∷◌, ◌++◌, Some, Result, Ok, Err, refl, sym, ap, ◌∙◌, subst, arith, length, reverse, take, map, Vec, Global}
use Rattle.std.proofs.lemmas.List.{append-nil, length-append, length-take}
use Rattle.pl_terms.specs.Trees.{Tree}
use Rattle.pl_unify.specs.declared.word.Ref.{Ref}
use Rattle.pl_unify.specs.State.{State, tree_at, IsRef}
use Rattle.solver_model.specs.Search.{At, Opens, Collects, FrameOf}
use Rattle.solver_model.proofs.TurnLaws.{turns_then, turns_same}
use Rattle.builtin_model.specs.Lists.{listing}
use Rattle.goal_model.specs.Bodies.{flat, goal_of}
use Rattle.goal_model.specs.Environments.{argument_place}
use Rattle.goal_model.specs.Rows.{collecting, row_of, name_of, arity_of}
use Rattle.goal_model.specs.Table.{Items, World, Moved as Activation, place, unless_raised, raised, list_fault}
use Rattle.goal_state.specs.declared.frames.Setting.{Setting}
use Rattle.goal_state.specs.Frames.{env_of, items_of, FramesFit}
use Rattle.goal_state.proofs.FrameLaws.{nothing_outside}
use Rattle.goal_state.proofs.FramePlaces.{place_zero}
use Rattle.goal_state.proofs.StoreLaws.{fits_take}
use Rattle.goal_state.specs.declared.choice.Choice.{Choice}
use Rattle.goal_state.specs.declared.choice.ChoiceKind.TheVariants.{Collect}
use Rattle.goal_state.specs.declared.compiled.CompiledProgram.{CompiledProgram}
use Rattle.goal_state.specs.declared.path.Path.{Path}
use Rattle.goal_state.specs.Denotation.{bodies, linked, naming, language_of, state_of, answers_of, items_here, world_here, world_of, frames_on, frames_by, point_here, search_at}
use Rattle.goal_state.specs.Well.{IsWellWith, Stands, Stand, KindFits, TemplateFits, mark_of, floor_of}
use Rattle.goal_state.specs.Steps.{link_to}
use Rattle.goal_state.proofs.PathLaws.{put_within, put_well, put_frames_on, opened_choices}
use Rattle.goal_state.proofs.RecordLaws.{stand_wider}
use Rattle.goal_constructs.specs.Calling.{IsCalled}
use Rattle.goal_constructs.specs.declared.calling.Called.{Called}
use Rattle.goal_moves.specs.declared.active.Active.{Active}
use Rattle.goal_moves.specs.declared.going.Going.TheVariants.{On}
use Rattle.goal_moves.specs.Control.{Grew, OpenedHere, activation}
use Rattle.goal_moves.specs.Moves.{goal_items, called, IsReady, Moved, Entered, here}
use Rattle.goal_moves.proofs.KeepLaws.{last_first}
use Rattle.goal_moves.proofs.Steady.{Steady, well_deeper}
use Rattle.goal_moves.proofs.Turning.{stack_of, at_point, acts, reach_open}
use Rattle.goal_moves.proofs.TakenMoves.{grown_steady, grown_rest}
use Rattle.goal_moves.proofs.ArgumentMoves.{name_at, arity_at, taken_at}

module _ (b : CompiledProgram) (old p : Path) (a : Active) (ready : IsReady b old a) (g : Grew old p) (template goal list : Ref)
    (template_is : IsRef (state_of old) template) (list_is : IsRef (state_of old) list)
    (q : Path) (o : OpenedHere p q (Collect list p.template) a.rest.f a.rest.pc a.setting a.node)
    (G : Vec (Vec (Tree ℕ) Global) Global) (v : Vec (Tree ℕ) Global) (none : v.items ≡ []) (pushed : G.items ≡ q.gathered.items ++ v ∷ []) where
  abbrev begun : Path
  begun = record q { gathered = G; template = Some template }

  abbrev s : State
  s = state_of p

  abbrev cs : List Choice
  cs = reverse p.choices.items

  abbrev top : Choice
  top = record { kind = Collect list p.template; mark = o.mark; rest = o.opened.rest; depth = a.node }

  st : Steady b old p a.node (stack_of b old)
  st = grown_steady b old p a ready g

  fits : (r : Ref) → IsRef (state_of old) r → IsRef s r
  fits r le = let more = g.grows.extends.more_cells in omega (arith, le, more)

  length_of : {A : Type 0} (k : ℕ) (xs : List A) → take k xs ≡ xs → k ≤ length xs → k ≡ length xs
  length_of k xs e le = let l : length (take k xs) ≡ length xs = ap length e in omega (arith, l, le, length-take k xs)

  mark_is : (o.mark.cells ≡ length s.cells) × (o.mark.trail ≡ length s.links) × (o.mark.vars ≡ s.next)
  mark_is = (
    length_of o.mark.cells s.cells (ap (λ x. x.cells) o.at_mark) o.is_mark.cells,
    length_of o.mark.trail s.links (ap (λ x. x.links) o.at_mark) o.is_mark.trail,
    ap (λ x. x.next) o.at_mark,
  )

  abbrev bare : Path
  bare = record p { frames = q.frames }

  same_gathered : q.gathered.items ≡ p.gathered.items
  same_gathered = ap (λ x. x.gathered.items) o.opened.others

  answers_begun : reverse (map (λ x. x.items) G.items) ≡ [] ∷ answers_of p
  answers_begun =
      ap (λ l. reverse (map (λ x. x.items) l)) (pushed ∙ ap (λ l. l ++ v ∷ []) same_gathered)
      ∙ last_first p.gathered.items v
      ∙ ap (λ l. l ∷ answers_of p) none

  put_is : IsWellWith b bare cs a.node
  put_is = put_well b p bare (link_to a.rest.f a.rest.pc a.setting) o.opened.rest o.opened.put cs a.node (omega arith) (let le = ready.base in let n = g.next in omega (arith, le, n), tt) st.well

  pub begun_well : IsWellWith b begun (reverse q.choices.items) (a.node + 1)
  begun_well =
      let placed : o.opened.rest ≡ length q.frames = (put_within b p bare (link_to a.rest.f a.rest.pc a.setting) o.opened.rest o.opened.put).1 in
      let above : o.opened.rest ≡ o.opened.put.keep + 1 = o.opened.put.put.above in
      let floor : floor_of cs ≤ o.opened.put.keep = o.opened.put.floor in
      let one : Stands (linked b) p.width s q.frames (length q.frames) (a.node + 1) (mark_of s) top (Some template) = record {
        mark = o.is_mark;
        older = record { cells = omega (arith, mark_is.0); trail = omega (arith, mark_is.1); vars = omega (arith, mark_is.2) };
        some = omega (arith, above);
        rest = omega (arith, placed);
        shallow = omega arith;
        wide = let wide = st.well.wide in omega (arith, wide, mark_is.2);
        fit = subst (λ σ. FramesFit σ (take o.opened.rest q.frames)) (sym o.at_mark) (fits_take s o.opened.rest q.frames put_is.frames);
        kind = subst (λ σ. KindFits (linked b) σ (Collect list p.template) (Some template)) (sym o.at_mark) (fits list list_is, refl);
        template = subst (λ σ. TemplateFits σ p.template) (sym o.at_mark) st.well.template;
      } in
      let under : Stand (linked b) p.width s q.frames (o.opened.rest - 1) a.node o.mark cs p.template =
      stand_wider (linked b) p.width s q.frames (length q.frames) (o.opened.rest - 1) a.node a.node (mark_of s) o.mark cs p.template (omega (arith, above, floor)) (omega arith)
      (record { cells = omega (arith, mark_is.0); trail = omega (arith, mark_is.1); vars = omega (arith, mark_is.2) }) put_is.records in
      let count : length G.items ≡ length p.gathered.items + 1 = ap length pushed ∙ omega (arith, length-append q.gathered.items (v ∷ []), ap length same_gathered) in
      let had = st.well.gathered in
      subst (λ r. IsWellWith b (record r { gathered = G; template = Some template }) (reverse q.choices.items) (a.node + 1)) (sym o.opened.others)
      (subst (λ l. IsWellWith b (record p { frames = q.frames; choices = q.choices; gathered = G; template = Some template }) l (a.node + 1)) (sym (opened_choices b p q (Collect list p.template) o.mark a.rest.f a.rest.pc a.setting a.node o.opened))
      (record {
        store = put_is.store;
        frames = put_is.frames;
        template = fits template template_is;
        wide = put_is.wide;
        records = (one, under);
        gathered = omega (arith, count, had);
      }))

  abbrev inner_frame : FrameOf (language_of b)
  inner_frame = Collects a.node [] (record { depth = a.node; list = tree_at (state_of old) list; rest = items_here b old a.rest.f a.rest.pc; world = world_here b old })

  pub begun_frames : frames_on b begun (reverse q.choices.items) ≡ inner_frame ∷ stack_of b old
  begun_frames =
      let tree : tree_at s list ≡ tree_at (state_of old) list = g.grows.places list list_is in
      let rest : items_here b p a.rest.f a.rest.pc ≡ items_here b old a.rest.f a.rest.pc = grown_rest b old p a ready g in
      ap (λ r. frames_by b r.width (state_of r) r.frames (reverse q.choices.items) (Some template) (reverse (map (λ x. x.items) G.items))) o.opened.others
      ∙ ap (λ l. frames_by b p.width s q.frames l (Some template) (reverse (map (λ x. x.items) G.items))) (opened_choices b p q (Collect list p.template) o.mark a.rest.f a.rest.pc a.setting a.node o.opened)
      ∙ ap (λ gs. frames_by b p.width s q.frames (top ∷ cs) (Some template) gs) answers_begun
      ∙ ap (λ σ. Collects a.node [] (record { depth = a.node; list = tree_at σ list; rest = items_of (bodies b) σ q.frames o.opened.rest 0; world = world_of σ p.width p.template }) ∷ frames_by b p.width s q.frames cs p.template (answers_of p)) o.at_mark
      ∙ ap (λ r. Collects a.node [] (record { depth = a.node; list = tree_at s list; rest = r; world = world_here b p }) ∷ frames_by b p.width s q.frames cs p.template (answers_of p)) (o.opened.put.put.items (bodies b) s 0)
      ∙ ap (λ fs. Collects a.node [] (record { depth = a.node; list = tree_at s list; rest = items_here b p a.rest.f a.rest.pc; world = world_here b p }) ∷ fs) (put_frames_on b p bare (link_to a.rest.f a.rest.pc a.setting) o.opened.rest o.opened.put cs a.node (omega arith) st.well ∙ st.frames)
      ∙ (λ i. Collects a.node [] (record { depth = a.node; list = tree i; rest = rest i; world = st.world i }) ∷ stack_of b old)

  -- ---- the goal is entered

  abbrev outside : Items ℕ
  outside = items_here b old a.rest.f a.rest.pc

  abbrev goal_world : World ℕ
  goal_world = record { template = tree_at (state_of old) template ∷ []; next = (state_of old).next }

  abbrev found_goal : Tree ℕ → Items ℕ
  found_goal t = flat (naming b) t (argument_place (env_of a.setting)) (a.node + 1)

  same_state : state_of q ≡ state_of p
  same_state = ap (λ x. state_of x) o.opened.others

  begun_depth : q.depth ≡ a.node + 1
  begun_depth = ap (λ x. x.depth) o.opened.others ∙ st.depth ∙ ready.depth

  begun_world : world_here b begun ≡ goal_world
  begun_world =
      ap (λ σ. world_of σ q.width (Some template)) same_state
      ∙ (λ i. record { template = g.grows.places template template_is i ∷ []; next = g.next i })

  nothing_here : items_here b begun 0 0 ≡ []
  nothing_here = nothing_outside (bodies b) (state_of q) q.frames 0 0 (place_zero (reverse q.frames))

  pub collect_goal : (new : Path) (body : Ref) (inner : Setting) (depth : ℕ) → depth ≡ a.node + 1 → inner ≡ record a.setting { lookup = a.setting.context; depth = depth }
      → activation b old a ≡ Opens [] (At (place a.node (found_goal (tree_at (state_of p) body)) goal_world)) inner_frame
      → Entered b begun new (record { f = 0; pc = 0 }) (here new) (flat (naming b) (tree_at (state_of begun) body) (env_of inner) inner.depth ++ items_here b begun 0 0)
      → Moved b old new (called b old a.node (goal_items b old a)) On
  collect_goal new body inner depth deep is act h =
      let items : Items ℕ = found_goal (tree_at (state_of p) body) in
      let new_depth : new.depth ≡ a.node + 1 = ap (λ x. x.depth) h.others ∙ begun_depth in
      let new_width : new.width ≡ old.width = ap (λ x. x.width) h.others ∙ ap (λ x. x.width) o.opened.others ∙ st.width in
      let goes : items_here b new new.f new.pc ≡ items =
      h.goes
      ∙ ap (λ l. flat (naming b) (tree_at (state_of begun) body) (env_of inner) inner.depth ++ l) nothing_here
      ∙ append-nil (flat (naming b) (tree_at (state_of begun) body) (env_of inner) inner.depth)
      ∙ ap (λ x. flat (naming b) (tree_at (state_of begun) body) (env_of x) x.depth) is
      ∙ ap (λ d. flat (naming b) (tree_at (state_of begun) body) (argument_place (env_of a.setting)) d) deep
      ∙ ap (λ σ. found_goal (tree_at σ body)) same_state in
      let world : world_here b new ≡ goal_world = ap (λ x. world_here b x) h.others ∙ begun_world in
      let frames : frames_on b new (reverse new.choices.items) ≡ inner_frame ∷ stack_of b old = h.records (a.node + 1) begun_well ∙ begun_frames in
      let deeper : old.depth ≡ a.node + 1 = ready.depth in
      record {
        well = well_deeper b new (reverse new.choices.items) (a.node + 1) new.depth (omega (arith, new_depth)) (h.well (a.node + 1) begun_well);
        low = omega (arith, new_depth, deeper);
        width = new_width;
        goes = λ left.
            turns_then (language_of b) (called b old a.node (goal_items b old a) left) (at_point b (At (place a.node items goal_world)) left (inner_frame ∷ stack_of b old)) (search_at b new (point_here b new) left)
            (reach_open b old a (At (place a.node items goal_world)) inner_frame act left)
            (turns_same (language_of b) (at_point b (At (place a.node items goal_world)) left (inner_frame ∷ stack_of b old)) (search_at b new (point_here b new) left)
            (λ i. at_point b (At (record { depth = sym new_depth i; items = sym goes i; world = sym world i })) left (sym frames i)));
      }

-- ---- what findall does

module _ (b : CompiledProgram) (old : Path) (a : Active) (template goal list : Ref) where
  abbrev goal_or : Tree ℕ → Result (Tree ℕ) (Tree ℕ) → Activation ℕ
  goal_or z taken =
      unless_raised taken (items_here b old a.rest.f a.rest.pc) (λ t.
      Opens [] (At (place a.node (flat (naming b) t (argument_place (env_of a.setting)) (a.node + 1)) (record { template = tree_at (state_of old) template ∷ []; next = (state_of old).next })))
      (Collects a.node [] (record { depth = a.node; list = z; rest = items_here b old a.rest.f a.rest.pc; world = world_here b old })))

  abbrev list_or : Result (Tree ℕ) (Tree ℕ) → Activation ℕ
  list_or r = unless_raised r (items_here b old a.rest.f a.rest.pc) (λ z. goal_or z (taken_at b old a goal))

  abbrev pub listed_at : Result (Tree ℕ) (Tree ℕ)
  listed_at = list_fault (naming b) (listing (naming b) (tree_at (state_of old) list)) (tree_at (state_of old) list) (name_at b old a) (arity_at b old a)

  abbrev IsCollecting : Type 0
  IsCollecting = row_of (naming b) (tree_at (state_of old) a.goal) ≡ collecting (tree_at (state_of old) template) (tree_at (state_of old) goal) (tree_at (state_of old) list)

  acts_collecting : IsCollecting → activation b old a ≡ list_or listed_at
  acts_collecting row = acts b old a (collecting (tree_at (state_of old) template) (tree_at (state_of old) goal) (tree_at (state_of old) list)) row

  pub list_raised : (t : Tree ℕ) → IsCollecting → listed_at ≡ Err t → activation b old a ≡ raised t (items_here b old a.rest.f a.rest.pc)
  list_raised t row is = acts_collecting row ∙ ap list_or is

  pub goal_raised : (t : Tree ℕ) → IsCollecting → listed_at ≡ Ok (tree_at (state_of old) list) → taken_at b old a goal ≡ Err t → activation b old a ≡ raised t (items_here b old a.rest.f a.rest.pc)
  goal_raised t row is taken = acts_collecting row ∙ ap list_or is ∙ ap (goal_or (tree_at (state_of old) list)) taken

  pub goal_opened : (t : Tree ℕ) → IsCollecting → listed_at ≡ Ok (tree_at (state_of old) list) → taken_at b old a goal ≡ Ok t
      → activation b old a
      ≡ Opens [] (At (place a.node (flat (naming b) t (argument_place (env_of a.setting)) (a.node + 1)) (record { template = tree_at (state_of old) template ∷ []; next = (state_of old).next })))
      (Collects a.node [] (record { depth = a.node; list = tree_at (state_of old) list; rest = items_here b old a.rest.f a.rest.pc; world = world_here b old }))
  goal_opened t row is taken = acts_collecting row ∙ ap list_or is ∙ ap (goal_or (tree_at (state_of old) list)) taken

-- what a goal was taken for later
pub taken_after : (b : CompiledProgram) (old p q : Path) (a : Active) (ready : IsReady b old a) (g : Grew old p) (goal : Ref) (goal_is : IsRef (state_of old) goal) (c : Called) → IsCalled (state_of q) (taken_at b p a goal) c → IsCalled (state_of q) (taken_at b old a goal) c
taken_after b old p q a ready g goal goal_is c is =
    let t : tree_at (state_of p) goal ≡ tree_at (state_of old) goal = g.grows.places goal goal_is in
    let u : tree_at (state_of p) a.goal ≡ tree_at (state_of old) a.goal = g.grows.places a.goal ready.goal in
    subst (λ x. IsCalled (state_of q) (goal_of (naming b) (tree_at (state_of old) goal) (name_of (naming b) x) (arity_of (naming b) x)) c) u
    (subst (λ x. IsCalled (state_of q) (goal_of (naming b) x (name_at b p a) (arity_at b p a)) c) t is)
