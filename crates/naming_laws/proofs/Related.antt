-- The search keeps the relation of what runs have under two namings: each thing is related to itself with other names.
use Rattle.std.proofs.Common.{◌≡◌, ◌∙◌, ℕ, ◌+◌, List, [], ◌∷◌, map, Bool, Option, Some, None, refl, ap, sym, subst}
use Rattle.std.specs.Prelude.{option_map}
use Rattle.pl_terms.specs.Trees.{Tree, renamed}
use Rattle.unit_model.specs.Facts.{Indicator, indicator_by}
use Rattle.unifier_model.specs.Substitution.{raise}
use Rattle.unifier_model.specs.Mgu.{unifier}
use Rattle.solver_model.specs.Search.{Event, End, Point, Frame, Call, Cut, Pop, Fail, Out, Ans, Failed, CutTo, Thrown, Halted, Spent, At, Over, Tries, Catches, Collects, Ends, Opens, pops}
use Rattle.solver_model.proofs.Simulation.{RList, REvent, REnd, RItems, RState, RPoint, RAttempt, RRecover, RFrame, RActivation, Keeps}
use Rattle.builtin_model.specs.Naming.{Naming}
use Rattle.goal_model.specs.Program.{Clause, Clauses, Program}
use Rattle.goal_model.specs.Bodies.{Goal}
use Rattle.goal_model.specs.Table.{World, Items, Place, Resolution, Alternative, leads, resolves, Recovery, Gathering, Moved, attempt, resolved, recover, gather, place_under, body_items, activate, goals}
use Rattle.goal_model.specs.NameLaws.{SameNames, replacement_by}
use Rattle.goal_model.proofs.RenamingProofs.{unifier-renamed}
use Rattle.naming_laws.specs.Translation.{Translates, Follows, clause_by}
use Rattle.naming_laws.specs.SameRun.{event_by, end_by}
use Rattle.naming_laws.proofs.Maps.{goal_by, items_by, world_by, place_by, resolution_by, alternative_by, recovery_by, gathering_by, point_by, frame_by, moved_by}
use Rattle.naming_laws.proofs.TableLaw.{raise-by, pops-by, resolved_place, recover-by, gather-by, activate-by}

-- ---- lists, events and ends

list_related : {X Y : Type 0} (h : X → Y) (xs : List X) → RList (λ x y. h x ≡ y) xs (map h xs)
list_related h [] = tt
list_related h (x ∷ xs) = (refl, list_related h xs)

list_same : {X Y : Type 0} (h : X → Y) (xs : List X) (ys : List Y) → RList (λ x y. h x ≡ y) xs ys → map h xs ≡ ys
list_same h [] [] r = refl
list_same h (x ∷ xs) (y ∷ ys) r = ap (λ z. z ∷ map h xs) r.0 ∙ ap (λ l. y ∷ l) (list_same h xs ys r.1)
list_same h [] (y ∷ ys) r = absurd r
list_same h (x ∷ xs) [] r = absurd r

module _ {N M : Type 0} (f : N → M) where
  abbrev pub SameAnswer : List (Tree N) → List (Tree M) → Type 0
  SameAnswer ts us = map (renamed f) ts ≡ us

  abbrev pub SameBall : Tree N → Tree M → Type 0
  SameBall t u = renamed f t ≡ u

  abbrev pub SameClauses : Clauses N → Clauses M → Type 0
  SameClauses c c' = (d : N) (i : Indicator N) → c' (f d) (indicator_by f i) ≡ map (clause_by f) (c d i)

  events_related : (events : List (Event (List (Tree N)))) → RList (REvent SameAnswer) events (map (event_by f) events)
  events_related [] = tt
  events_related (Out bytes ∷ events) = (refl, events_related events)
  events_related (Ans ts ∷ events) = (refl, events_related events)

  pub events_same : (a : List (Event (List (Tree N)))) (b : List (Event (List (Tree M)))) → RList (REvent SameAnswer) a b → map (event_by f) a ≡ b
  events_same [] [] h = refl
  events_same (Out x ∷ a) (Out y ∷ b) h = ap (λ z. Out z ∷ map (event_by f) a) h.0 ∙ ap (λ l. Out y ∷ l) (events_same a b h.1)
  events_same (Ans t ∷ a) (Ans u ∷ b) h = ap (λ z. Ans z ∷ map (event_by f) a) h.0 ∙ ap (λ l. Ans u ∷ l) (events_same a b h.1)
  events_same (Out x ∷ a) (Ans u ∷ b) h = absurd h.0
  events_same (Ans t ∷ a) (Out y ∷ b) h = absurd h.0
  events_same [] (y ∷ b) h = absurd h
  events_same (x ∷ a) [] h = absurd h

  end_related : (e : End (Tree N)) → REnd SameBall e (end_by f e)
  end_related Failed = tt
  end_related (CutTo c) = refl
  end_related (Thrown ball active) = (refl, refl)
  end_related (Halted z) = refl
  end_related Spent = tt

  pub end_same : (x : End (Tree N)) (y : End (Tree M)) → REnd SameBall x y → end_by f x ≡ y
  end_same Failed Failed h = refl
  end_same (CutTo c) (CutTo d) h = ap CutTo h
  end_same (Thrown ball active) (Thrown other active') h = ap (λ b. Thrown b active) h.0 ∙ ap (Thrown other) h.1
  end_same (Halted y) (Halted z) h = ap Halted h
  end_same Spent Spent h = refl
  end_same _ _ h = absurd h

-- ---- the relations of two tables

module _ {N M : Type 0} (n : Naming N) (m : Naming M) (f : N → M) (same : N → N → Bool) (same' : M → M → Bool) (p : Program N) (q : Program M) where
  abbrev pub SameWorld : World N → World M → Type 0
  SameWorld w v = world_by f w ≡ v

  abbrev pub SameGoal : World N → World M → Goal N → Goal M → Type 0
  SameGoal w v g h = goal_by f g ≡ h

  abbrev pub SameAlternative : Alternative N → Alternative M → Type 0
  SameAlternative a b = alternative_by f a ≡ b

  abbrev pub SameRecovery : Recovery N → Recovery M → Type 0
  SameRecovery r s = recovery_by f r ≡ s

  abbrev pub SameGathering : Gathering N → Gathering M → Type 0
  SameGathering g h = gathering_by f g ≡ h

  abbrev pub Keeping : Type 0
  Keeping = Keeps (goals n same p) (goals m same' q) (SameAnswer f) (SameBall f) (SameClauses f) SameWorld SameGoal SameAlternative SameRecovery SameGathering

  abbrev SameItems : World N → World M → Items N → Items M → Type 0
  SameItems = RItems (goals n same p) (goals m same' q) (SameAnswer f) (SameBall f) (SameClauses f) SameWorld SameGoal SameAlternative SameRecovery SameGathering

  abbrev SameState : Place N → Place M → Type 0
  SameState = RState (goals n same p) (goals m same' q) (SameAnswer f) (SameBall f) (SameClauses f) SameWorld SameGoal SameAlternative SameRecovery SameGathering

  abbrev pub SamePoint : Point (Goal N) (World N) (Tree N) → Point (Goal M) (World M) (Tree M) → Type 0
  SamePoint = RPoint (goals n same p) (goals m same' q) (SameAnswer f) (SameBall f) (SameClauses f) SameWorld SameGoal SameAlternative SameRecovery SameGathering

  abbrev SameAttempt : Option (Place N × Clauses N) → Option (Place M × Clauses M) → Type 0
  SameAttempt = RAttempt (goals n same p) (goals m same' q) (SameAnswer f) (SameBall f) (SameClauses f) SameWorld SameGoal SameAlternative SameRecovery SameGathering

  abbrev SameRecovered : Option (Point (Goal N) (World N) (Tree N)) → Option (Point (Goal M) (World M) (Tree M)) → Type 0
  SameRecovered = RRecover (goals n same p) (goals m same' q) (SameAnswer f) (SameBall f) (SameClauses f) SameWorld SameGoal SameAlternative SameRecovery SameGathering

  abbrev SameFrame : Frame (Alternative N) (Recovery N) (Gathering N) (List (Tree N)) → Frame (Alternative M) (Recovery M) (Gathering M) (List (Tree M)) → Type 0
  SameFrame = RFrame (goals n same p) (goals m same' q) (SameAnswer f) (SameBall f) (SameClauses f) SameWorld SameGoal SameAlternative SameRecovery SameGathering

  abbrev SameMoved : Moved N → Moved M → Type 0
  SameMoved = RActivation (goals n same p) (goals m same' q) (SameAnswer f) (SameBall f) (SameClauses f) SameWorld SameGoal SameAlternative SameRecovery SameGathering

  items_related : (w : World N) (v : World M) (items : Items N) → SameItems w v items (items_by f items)
  items_related w v [] = tt
  items_related w v (Call g ∷ items) = (refl, items_related w v items)
  items_related w v (Cut d ∷ items) = (refl, items_related w v items)
  items_related w v (Pop d ∷ items) = (refl, items_related w v items)
  items_related w v (Fail ∷ items) = items_related w v items

  items_same : (w : World N) (v : World M) (a : Items N) (b : Items M) → SameItems w v a b → items_by f a ≡ b
  items_same w v [] [] h = refl
  items_same w v (Call g ∷ a) (Call k ∷ b) h = ap (λ x. Call x ∷ items_by f a) h.0 ∙ ap (λ l. Call k ∷ l) (items_same w v a b h.1)
  items_same w v (Cut d ∷ a) (Cut k ∷ b) h = ap (λ x. Cut x ∷ items_by f a) h.0 ∙ ap (λ l. Cut k ∷ l) (items_same w v a b h.1)
  items_same w v (Pop d ∷ a) (Pop k ∷ b) h = ap (λ x. Pop x ∷ items_by f a) h.0 ∙ ap (λ l. Pop k ∷ l) (items_same w v a b h.1)
  items_same w v (Fail ∷ a) (Fail ∷ b) h = ap (λ l. Fail ∷ l) (items_same w v a b h)
  items_same w v _ _ h = absurd h

  state_related : (s : Place N) → SameState s (place_by f s)
  state_related s = (refl, refl, items_related s.world (world_by f s.world) s.items)

  pub point_related : (x : Point (Goal N) (World N) (Tree N)) → SamePoint x (point_by f x)
  point_related (At s) = state_related s
  point_related (Over e) = end_related f e

  recovered_related : (o : Option (Point (Goal N) (World N) (Tree N))) → SameRecovered o (option_map (point_by f) o)
  recovered_related None = tt
  recovered_related (Some x) = point_related x

  frame_related : (x : Frame (Alternative N) (Recovery N) (Gathering N) (List (Tree N))) → SameFrame x (frame_by f x)
  frame_related (Tries e alternatives) = (refl, list_related (alternative_by f) alternatives)
  frame_related (Catches e r) = (refl, refl)
  frame_related (Collects e answers g) = (refl, list_related (map (renamed f)) answers, refl)

  moved_related : (x : Moved N) → SameMoved x (moved_by f x)
  moved_related (Ends events e) = (events_related f events, end_related f e)
  moved_related (Opens events x frame) = (events_related f events, point_related x, frame_related frame)

  -- ---- what the tables do

  module _ (tr : Translates n m f) (one : SameNames f same same') (fo : Follows f p q) where
    resolved_related : (r : Resolution N) (clause : Clause N) (c : Clauses N) (c' : Clauses M) → SameClauses f c c' → (o : Option (List (ℕ × Tree N)))
        → SameAttempt (resolved n r clause c o) (resolved m (resolution_by f r) (clause_by f clause) c' (option_map (map (replacement_by f)) o))
    resolved_related r clause c c' rc None = tt
    resolved_related r clause c c' rc (Some bs) =
        let s : Place N = place_under r.depth bs (Rattle.std.specs.Prelude.◌++◌ (body_items n (raise r.world.next clause.body) r.env r.depth) r.rest) r.world (r.world.next + clause.width) in
        (subst (SameState s) (sym (resolved_place n m f tr r clause bs)) (state_related s), rc)

    attempt_related : (a : Alternative N) (c : Clauses N) (c' : Clauses M) → SameClauses f c c' → SameAttempt (attempt n same a c) (attempt m same' (alternative_by f a) c')
    attempt_related (leads s) c c' rc = (state_related s, rc)
    attempt_related (resolves r clause) c c' rc =
        let next : ℕ = r.world.next in
        let found : Option (List (ℕ × Tree N)) = unifier same ((r.goal, raise next clause.head) ∷ []) in
        let e : unifier same' ((renamed f r.goal, raise next (renamed f clause.head)) ∷ []) ≡ option_map (map (replacement_by f)) found
        = ap (λ t. unifier same' ((renamed f r.goal, t) ∷ [])) (raise-by f next clause.head) ∙ unifier-renamed f same same' one ((r.goal, raise next clause.head) ∷ []) in
        subst (λ o. SameAttempt (resolved n r clause c found) (resolved m (resolution_by f r) (clause_by f clause) c' o)) (sym e) (resolved_related r clause c c' rc found)

    recover_related : (r : Recovery N) (ball : Tree N) → SameRecovered (recover n same r ball) (recover m same' (recovery_by f r) (renamed f ball))
    recover_related r ball = subst (SameRecovered (recover n same r ball)) (sym (recover-by n m f tr same same' one r ball)) (recovered_related (recover n same r ball))

    gather_related : (g : Gathering N) (answers : List (List (Tree N))) → SamePoint (gather n same g answers) (gather m same' (gathering_by f g) (map (map (renamed f)) answers))
    gather_related g answers = subst (SamePoint (gather n same g answers)) (sym (gather-by n m f tr same same' one g answers)) (point_related (gather n same g answers))

    activate_related : (e : ℕ) (g : Goal N) (rest : Items N) (w : World N) (c : Clauses N) (c' : Clauses M) → SameClauses f c c' → SameMoved (activate n same p e g rest w c) (activate m same' q e (goal_by f g) (items_by f rest) (world_by f w) c')
    activate_related e g rest w c c' rc =
        subst (SameMoved (activate n same p e g rest w c)) (sym (activate-by n m f tr same same' one p q fo e g rest w c c' rc)) (moved_related (activate n same p e g rest w c))

    pub keeping : Keeping
    keeping = record {
      answer = λ w v h. ap (λ (x : World M). x.template) h;
      attempt = λ a b c c' h rc. subst (λ y. SameAttempt (attempt n same a c) (attempt m same' y c')) h (attempt_related a c c' rc);
      recover = λ r s x y h k. subst (λ z. SameRecovered (recover n same r x) (recover m same' z y)) h (subst (λ z. SameRecovered (recover n same r x) (recover m same' (recovery_by f r) z)) k (recover_related r x));
      gather = λ g h ts us e k.
          subst (λ z. SamePoint (gather n same g ts) (gather m same' z us)) e
          (subst (λ z. SamePoint (gather n same g ts) (gather m same' (gathering_by f g) z)) (list_same (map (renamed f)) ts us k) (gather_related g ts));
      active = λ g h e. sym (pops-by f g.rest) ∙ ap (λ (x : Gathering M). pops x.rest) e;
      activate = λ e g h a b w v c c' rc rw1 rg ri.
          subst (λ x. SameMoved (activate n same p e g a w c) (activate m same' q e h b x c')) rw1
          (subst (λ x. SameMoved (activate n same p e g a w c) (activate m same' q e h x (world_by f w) c')) (items_same w v a b ri)
          (subst (λ x. SameMoved (activate n same p e g a w c) (activate m same' q e x (items_by f a) (world_by f w) c')) rg (activate_related e g a w c c' rc)));
    }
