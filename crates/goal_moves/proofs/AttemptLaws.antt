-- What clauses are as alternatives of a goal.
use Rattle.std.proofs.Common.{◌≡◌, ℕ, ◌+◌, false, List, [], ◌∷◌, ◌++◌, Some, None, refl, sym, ap, ◌∙◌, subst, map, nat_eq, ◌||◌}
use Rattle.std.specs.List.{list_any}
use Rattle.pl_terms.specs.Trees.{Tree}
use Rattle.unifier_model.specs.Substitution.{apply, raise}
use Rattle.unifier_model.specs.Mgu.{mgu}
use Rattle.solver_model.specs.Search.{At, Over, Failed, Tries, FrameOf}
use Rattle.solver_model.specs.Configurations.{Turns}
use Rattle.solver_model.proofs.TurnLaws.{stands, turns_then, turn_skip, turn_take}
use Rattle.solver_model.proofs.SkipLaws.{Hopeless, turn_hopeless, turn_skips}
use Rattle.goal_model.specs.Program.{Clause, Clauses}
use Rattle.goal_model.specs.Choices.{key_of, fits, is_untried}
use Rattle.goal_model.specs.Table.{Resolution, resolves, resolved, attempt, body_items, item_under, World, Items}
use Rattle.goal_model.proofs.ChoiceProofs.{untried-hopeless}
use Rattle.pl_store.specs.Runs.{program_of}
use Rattle.pl_store.specs.Walks.{any_fits}
use Rattle.goal_state.specs.declared.compiled.CompiledProgram.{CompiledProgram}
use Rattle.goal_state.specs.Denotation.{linked, naming, language_of}
use Rattle.goal_moves.proofs.ThinLaws.{turn_thins}

pub untried_fits : (r : Resolution ℕ) (cs : List (Clause ℕ)) → list_any (is_untried nat_eq) (map (resolves r) cs) ≡ any_fits (key_of r.goal) cs
untried_fits r [] = refl
untried_fits r (c ∷ cs) = ap (λ x. fits nat_eq (key_of r.goal) c.head || x) (untried_fits r cs)

pub split_map : {A B : Type 0} (f : A → B) (xs ys : List A) → map f (xs ++ ys) ≡ map f xs ++ map f ys
split_map f [] ys = refl
split_map f (x ∷ xs) ys = ap (λ l. f x ∷ l) (split_map f xs ys)

module _ (b : CompiledProgram) (r : Resolution ℕ) where
  pub unfit_hopeless : (cs : List (Clause ℕ)) → any_fits (key_of r.goal) cs ≡ false → Hopeless (language_of b) (map (resolves r) cs)
  unfit_hopeless cs h = untried-hopeless (naming b) (program_of (linked b)) (map (resolves r) cs) (untried_fits r cs ∙ h)

  pub clause_fails : (c : Clause ℕ) (all : Clauses ℕ) → mgu ((r.goal, raise r.world.next c.head) ∷ []) ≡ None → attempt (naming b) nat_eq (resolves r c) all ≡ None
  unfolding mgu
  clause_fails c all h = ap (resolved (naming b) r c all) h

  -- the items and the world to which a clause leads with a unifier
  abbrev pub items_by : Clause ℕ → List (ℕ × Tree ℕ) → Items ℕ
  items_by c bs = map (item_under bs) (body_items (naming b) (raise r.world.next c.body) r.env r.depth ++ r.rest)

  abbrev pub world_by : Clause ℕ → List (ℕ × Tree ℕ) → World ℕ
  world_by c bs = record { template = map (apply bs) r.world.template; next = r.world.next + c.width }

  pub clause_leads : (c : Clause ℕ) (all : Clauses ℕ) (bs : List (ℕ × Tree ℕ)) → mgu ((r.goal, raise r.world.next c.head) ∷ []) ≡ Some bs
      → attempt (naming b) nat_eq (resolves r c) all ≡ Some (record { depth = r.depth + 1; items = items_by c bs; world = world_by c bs }, all)
  unfolding mgu
  clause_leads c all bs h = ap (resolved (naming b) r c all) h

  module _ (l : ℕ) (all : Clauses ℕ) (fs : List (FrameOf (language_of b))) (c : Clause ℕ) where
    -- the last clause that may be taken is not
    pub turn_last_fails : (cs : List (Clause ℕ)) → mgu ((r.goal, raise r.world.next c.head) ∷ []) ≡ None → any_fits (key_of r.goal) cs ≡ false
        → Turns (language_of b) (stands (language_of b) (Over Failed) l all (Tries r.depth (map (resolves r) (c ∷ cs)) ∷ fs)) (stands (language_of b) (Over Failed) l all fs)
    turn_last_fails cs h none =
        turns_then (language_of b) (stands (language_of b) (Over Failed) l all (Tries r.depth (map (resolves r) (c ∷ cs)) ∷ fs)) (stands (language_of b) (Over Failed) l all (Tries r.depth (map (resolves r) cs) ∷ fs)) (stands (language_of b) (Over Failed) l all fs)
        (turn_skip (language_of b) r.depth l all (resolves r c) (map (resolves r) cs) fs (clause_fails c all h))
        (turn_hopeless (language_of b) (Over Failed) l all r.depth (map (resolves r) cs) fs (unfit_hopeless cs none))

    -- a clause is not taken, and the next one that may be is tried
    pub turn_next : (skipped next : List (Clause ℕ)) → mgu ((r.goal, raise r.world.next c.head) ∷ []) ≡ None → any_fits (key_of r.goal) skipped ≡ false
        → Turns (language_of b) (stands (language_of b) (Over Failed) l all (Tries r.depth (map (resolves r) (c ∷ (skipped ++ next))) ∷ fs)) (stands (language_of b) (Over Failed) l all (Tries r.depth (map (resolves r) next) ∷ fs))
    turn_next skipped next h none =
        turns_then (language_of b) (stands (language_of b) (Over Failed) l all (Tries r.depth (map (resolves r) (c ∷ (skipped ++ next))) ∷ fs)) (stands (language_of b) (Over Failed) l all (Tries r.depth (map (resolves r) (skipped ++ next)) ∷ fs)) (stands (language_of b) (Over Failed) l all (Tries r.depth (map (resolves r) next) ∷ fs))
        (turn_skip (language_of b) r.depth l all (resolves r c) (map (resolves r) (skipped ++ next)) fs (clause_fails c all h))
        (subst (λ alts. Turns (language_of b) (stands (language_of b) (Over Failed) l all (Tries r.depth alts ∷ fs)) (stands (language_of b) (Over Failed) l all (Tries r.depth (map (resolves r) next) ∷ fs))) (sym (split_map (resolves r) skipped next))
        (turn_skips (language_of b) r.depth l all (map (resolves r) skipped) (map (resolves r) next) fs (unfit_hopeless skipped none)))

    -- the last clause that may be taken is
    pub turn_last_leads : (cs : List (Clause ℕ)) (bs : List (ℕ × Tree ℕ)) → mgu ((r.goal, raise r.world.next c.head) ∷ []) ≡ Some bs → any_fits (key_of r.goal) cs ≡ false
        → Turns (language_of b) (stands (language_of b) (Over Failed) l all (Tries r.depth (map (resolves r) (c ∷ cs)) ∷ fs)) (stands (language_of b) (At (record { depth = r.depth + 1; items = items_by c bs; world = world_by c bs })) l all fs)
    turn_last_leads cs bs h none =
        turns_then (language_of b) (stands (language_of b) (Over Failed) l all (Tries r.depth (map (resolves r) (c ∷ cs)) ∷ fs)) (stands (language_of b) (At (record { depth = r.depth + 1; items = items_by c bs; world = world_by c bs })) l all (Tries r.depth (map (resolves r) cs) ∷ fs)) (stands (language_of b) (At (record { depth = r.depth + 1; items = items_by c bs; world = world_by c bs })) l all fs)
        (turn_take (language_of b) r.depth l all all (resolves r c) (items_by c bs) (world_by c bs) (map (resolves r) cs) fs (clause_leads c all bs h))
        (turn_hopeless (language_of b) (At (record { depth = r.depth + 1; items = items_by c bs; world = world_by c bs })) l all r.depth (map (resolves r) cs) fs (unfit_hopeless cs none))

    -- a clause is taken, and another one is left that may be
    pub turn_leads : (skipped next : List (Clause ℕ)) (bs : List (ℕ × Tree ℕ)) → mgu ((r.goal, raise r.world.next c.head) ∷ []) ≡ Some bs → any_fits (key_of r.goal) skipped ≡ false
        → Turns (language_of b) (stands (language_of b) (Over Failed) l all (Tries r.depth (map (resolves r) (c ∷ (skipped ++ next))) ∷ fs)) (stands (language_of b) (At (record { depth = r.depth + 1; items = items_by c bs; world = world_by c bs })) l all (Tries r.depth (map (resolves r) next) ∷ fs))
    turn_leads skipped next bs h none =
        turns_then (language_of b) (stands (language_of b) (Over Failed) l all (Tries r.depth (map (resolves r) (c ∷ (skipped ++ next))) ∷ fs)) (stands (language_of b) (At (record { depth = r.depth + 1; items = items_by c bs; world = world_by c bs })) l all (Tries r.depth (map (resolves r) (skipped ++ next)) ∷ fs)) (stands (language_of b) (At (record { depth = r.depth + 1; items = items_by c bs; world = world_by c bs })) l all (Tries r.depth (map (resolves r) next) ∷ fs))
        (turn_take (language_of b) r.depth l all all (resolves r c) (items_by c bs) (world_by c bs) (map (resolves r) (skipped ++ next)) fs (clause_leads c all bs h))
        (subst (λ alts. Turns (language_of b) (stands (language_of b) (At (record { depth = r.depth + 1; items = items_by c bs; world = world_by c bs })) l all (Tries r.depth alts ∷ fs)) (stands (language_of b) (At (record { depth = r.depth + 1; items = items_by c bs; world = world_by c bs })) l all (Tries r.depth (map (resolves r) next) ∷ fs))) (sym (split_map (resolves r) skipped next))
        (turn_thins (language_of b) (At (record { depth = r.depth + 1; items = items_by c bs; world = world_by c bs })) l all r.depth (map (resolves r) skipped) (map (resolves r) next) fs (unfit_hopeless skipped none)))
