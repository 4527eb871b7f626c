-- What is left untried where clauses are tried for a goal.
use Rattle.std.proofs.Common.{◌≡◌, ℕ, Bool, true, false, ◌||◌, List, [], ◌∷◌, ◌++◌, Option, Some, None, refl, sym, ap, ◌∙◌, length, map, nat_eq}
use Rattle.std.specs.Prelude.{is_some, nat_lt, if◌then◌else◌}
use Rattle.std.specs.List.{list_any}
use Rattle.std.proofs.lemmas.List.Folds.{list_any-append}
use Rattle.pl_terms.specs.Trees.{Tree}
use Rattle.unifier_model.specs.Substitution.{raise}
use Rattle.unifier_model.specs.Mgu.{mgu}
use Rattle.pl_unify.specs.declared.store.Mark.{Mark}
use Rattle.pl_unify.specs.State.{tree_at}
use Rattle.solver_model.proofs.SkipLaws.{Hopeless}
use Rattle.goal_model.specs.Program.{Clause, Clauses}
use Rattle.goal_model.specs.Choices.{Key, key_of, fits, is_untried}
use Rattle.goal_model.specs.Table.{Resolution, Alternative, Place, resolves}
use Rattle.pl_store.specs.Linked.{clause_at}
use Rattle.pl_store.specs.Runs.{program_of}
use Rattle.pl_store.specs.Walks.{any_fits}
use Rattle.pl_store.specs.declared.key.ClauseId.{ClauseId}
use Rattle.goal_state.specs.declared.choice.ChoiceKind.TheVariants as Kind
use Rattle.goal_state.specs.declared.compiled.CompiledProgram.{CompiledProgram}
use Rattle.goal_state.specs.declared.path.Path.{Path}
use Rattle.goal_state.specs.Denotation.{linked, naming, language_of, clauses_on, state_of}
use Rattle.goal_state.specs.Steps.{Opened}
use Rattle.goal_moves.specs.declared.procedures.Attempt.{Attempt}
use Rattle.goal_moves.specs.Clauses.{clauses_after, NothingFits, FitsNext}
use Rattle.goal_moves.specs.Moves.{IsTrying}
use Rattle.goal_moves.specs.Untried.{behind_taken, leaves_one, clause_alternatives, TriesLeave}
use Rattle.goal_moves.proofs.NextLaws.{clauses_first}
use Rattle.goal_moves.proofs.AttemptLaws.{split_map, untried_fits, unfit_hopeless, clause_fails, clause_leads}
use Rattle.goal_moves.proofs.TryLaws.{resolution_at, with_state}
use Rattle.goal_moves.proofs.UntriedLaws.{same_records, put_one}

-- ---- alternatives behind the one that is taken

or_true : (x : Bool) → (x || true) ≡ true
or_true true = refl
or_true false = refl

fits_later : (key : Key ℕ) (skipped next : List (Clause ℕ)) → any_fits key next ≡ true → any_fits key (skipped ++ next) ≡ true
fits_later key skipped next h =
    list_any-append (λ c. fits nat_eq key c.head) skipped next
    ∙ ap (λ x. any_fits key skipped || x) h
    ∙ or_true (any_fits key skipped)

module _ (b : CompiledProgram) (all : Clauses ℕ) where
  -- those that cannot be taken are passed over
  pub behind_skips : (skipped next : List (Alternative ℕ)) → Hopeless (language_of b) skipped → behind_taken (naming b) all (skipped ++ next) ≡ behind_taken (naming b) all next
  behind_skips [] next h = refl
  behind_skips (a ∷ skipped) next h =
      ap (λ (o : Option (Place ℕ × Clauses ℕ)). if is_some o then skipped ++ next else behind_taken (naming b) all (skipped ++ next)) (h.0 all) ∙ behind_skips skipped next h.1

  pub behind_none : (none : List (Alternative ℕ)) → Hopeless (language_of b) none → behind_taken (naming b) all none ≡ []
  behind_none [] h = refl
  behind_none (a ∷ none) h = ap (λ (o : Option (Place ℕ × Clauses ℕ)). if is_some o then none else behind_taken (naming b) all none) (h.0 all) ∙ behind_none none h.1

  module _ (r : Resolution ℕ) (c : Clause ℕ) where
    behind_fails : (others : List (Alternative ℕ)) → mgu ((r.goal, raise r.world.next c.head) ∷ []) ≡ None → behind_taken (naming b) all (resolves r c ∷ others) ≡ behind_taken (naming b) all others
    behind_fails others h = ap (λ (o : Option (Place ℕ × Clauses ℕ)). if is_some o then others else behind_taken (naming b) all others) (clause_fails b r c all h)

    behind_takes : (others : List (Alternative ℕ)) (bs : List (ℕ × Tree ℕ)) → mgu ((r.goal, raise r.world.next c.head) ∷ []) ≡ Some bs → behind_taken (naming b) all (resolves r c ∷ others) ≡ others
    behind_takes others bs h = ap (λ (o : Option (Place ℕ × Clauses ℕ)). if is_some o then others else behind_taken (naming b) all others) (clause_leads b r c all bs h)

    -- the last clause that may be taken is
    last_taken : (cs : List (Clause ℕ)) (bs : List (ℕ × Tree ℕ)) → mgu ((r.goal, raise r.world.next c.head) ∷ []) ≡ Some bs → any_fits (key_of r.goal) cs ≡ false
        → leaves_one (naming b) all (map (resolves r) (c ∷ cs)) ≡ false
    last_taken cs bs h none = ap (list_any (is_untried nat_eq)) (behind_takes (map (resolves r) cs) bs h) ∙ untried_fits r cs ∙ none

    -- it is not
    last_fails : (cs : List (Clause ℕ)) → mgu ((r.goal, raise r.world.next c.head) ∷ []) ≡ None → any_fits (key_of r.goal) cs ≡ false → leaves_one (naming b) all (map (resolves r) (c ∷ cs)) ≡ false
    last_fails cs h none = ap (list_any (is_untried nat_eq)) (behind_fails (map (resolves r) cs) h ∙ behind_none (map (resolves r) cs) (unfit_hopeless b r cs none))

    -- a clause is taken, and another one is left that may be
    one_taken : (skipped next : List (Clause ℕ)) (bs : List (ℕ × Tree ℕ)) → mgu ((r.goal, raise r.world.next c.head) ∷ []) ≡ Some bs → any_fits (key_of r.goal) next ≡ true
        → leaves_one (naming b) all (map (resolves r) (c ∷ (skipped ++ next))) ≡ true
    one_taken skipped next bs h fit =
        ap (list_any (is_untried nat_eq)) (behind_takes (map (resolves r) (skipped ++ next)) bs h)
        ∙ untried_fits r (skipped ++ next) ∙ fits_later (key_of r.goal) skipped next fit

    -- it is not, and the next one that may be is tried
    one_fails : (skipped next : List (Clause ℕ)) → mgu ((r.goal, raise r.world.next c.head) ∷ []) ≡ None → any_fits (key_of r.goal) skipped ≡ false
        → behind_taken (naming b) all (map (resolves r) (c ∷ (skipped ++ next))) ≡ behind_taken (naming b) all (map (resolves r) next)
    one_fails skipped next h none =
        behind_fails (map (resolves r) (skipped ++ next)) h
        ∙ ap (behind_taken (naming b) all) (split_map (resolves r) skipped next)
        ∙ behind_skips (map (resolves r) skipped) (map (resolves r) next) (unfit_hopeless b r skipped none)

-- ---- paths on which clauses are tried

alternatives_same : (b : CompiledProgram) (p q : Path) (a : Attempt) (n : ℕ) → q ≡ record p { store = q.store } → state_of q ≡ state_of p → clause_alternatives b q a n ≡ clause_alternatives b p a n
alternatives_same b p q a n others same = ap (λ (r : Path). clause_alternatives b r a n) others ∙ ap (λ s. clause_alternatives b (with_state p s) a n) same

module _ (b : CompiledProgram) (p : Path) (a : Attempt) (c : ℕ) (t : IsTrying b p a c) where
  first_of : clause_alternatives b p a c ≡ map (resolves (resolution_at b p a)) ((clause_at (linked b) c).clause ∷ clauses_after b c)
  first_of = ap (map (resolves (resolution_at b p a))) (clauses_first b c t.fits.0)

  split_of : (n : ℕ) (next : FitsNext b p a c n) → clause_alternatives b p a c ≡ map (resolves (resolution_at b p a)) ((clause_at (linked b) c).clause ∷ (next.skipped ++ clauses_on (linked b) n))
  split_of n next = first_of ∙ ap (λ cs. map (resolves (resolution_at b p a)) ((clause_at (linked b) c).clause ∷ cs)) next.split

  next_fits : (n : ℕ) → FitsNext b p a c n → any_fits (key_of (tree_at (state_of p) a.goal)) (clauses_on (linked b) n) ≡ true
  next_fits n next =
      ap (any_fits (key_of (tree_at (state_of p) a.goal))) (clauses_first b n next.within)
      ∙ ap (λ x. x || any_fits (key_of (tree_at (state_of p) a.goal)) (clauses_after b n)) next.fit

  -- the last clause that may be taken is, and no record was put
  pub last_taken_leaves : (q r : Path) (bs : List (ℕ × Tree ℕ)) → q ≡ record p { store = q.store } → r ≡ record q { frames = r.frames; f = r.f; pc = r.pc }
      → mgu ((tree_at (state_of p) a.goal, raise (state_of p).next (clause_at (linked b) c).clause.head) ∷ []) ≡ Some bs → NothingFits b p a c → TriesLeave b p r a c
  last_taken_leaves q r bs others entered h none =
      same_records p r (ap (λ (y : Path). y.choices) entered ∙ ap (λ (y : Path). y.choices) others)
      ∙ sym (ap (leaves_one (naming b) (program_of (linked b)).clauses) first_of ∙ last_taken b (program_of (linked b)).clauses (resolution_at b p a) (clause_at (linked b) c).clause (clauses_after b c) bs h none)

  -- it is not
  pub last_fails_leaves : (q : Path) → q ≡ record p { store = q.store }
      → mgu ((tree_at (state_of p) a.goal, raise (state_of p).next (clause_at (linked b) c).clause.head) ∷ []) ≡ None → NothingFits b p a c → TriesLeave b p q a c
  last_fails_leaves q others h none =
      same_records p q (ap (λ (y : Path). y.choices) others)
      ∙ sym (ap (leaves_one (naming b) (program_of (linked b)).clauses) first_of ∙ last_fails b (program_of (linked b)).clauses (resolution_at b p a) (clause_at (linked b) c).clause (clauses_after b c) h none)

  -- a clause is taken, and a record was opened for the next one that may be
  pub one_taken_leaves : (q o r : Path) (n : ClauseId) (mark : Mark) (bs : List (ℕ × Tree ℕ)) → q ≡ record p { store = q.store }
      → Opened q o (Kind.Clauses n a.goal) mark a.rest.f a.rest.pc a.setting a.setting.depth → r ≡ record o { frames = r.frames; f = r.f; pc = r.pc }
      → mgu ((tree_at (state_of p) a.goal, raise (state_of p).next (clause_at (linked b) c).clause.head) ∷ []) ≡ Some bs → FitsNext b p a c n.0 → TriesLeave b p r a c
  one_taken_leaves q o r n mark bs others made entered h next =
      put_one p r (record { kind = Kind.Clauses n a.goal; mark = mark; rest = made.rest; depth = a.setting.depth })
      (ap (λ (y : Path). y.choices.items) entered ∙ made.choices ∙ ap (λ (y : Path). y.choices.items ++ record { kind = Kind.Clauses n a.goal; mark = mark; rest = made.rest; depth = a.setting.depth } ∷ []) others)
      ∙ sym (ap (leaves_one (naming b) (program_of (linked b)).clauses) (split_of n.0 next)
      ∙ one_taken b (program_of (linked b)).clauses (resolution_at b p a) (clause_at (linked b) c).clause next.skipped (clauses_on (linked b) n.0) bs h (next_fits n.0 next))

  -- it is not
  pub one_fails_leaves : (q : Path) (n : ℕ) → q ≡ record p { store = q.store } → state_of q ≡ state_of p
      → mgu ((tree_at (state_of p) a.goal, raise (state_of p).next (clause_at (linked b) c).clause.head) ∷ []) ≡ None → FitsNext b p a c n
      → behind_taken (naming b) (program_of (linked b)).clauses (clause_alternatives b p a c) ≡ behind_taken (naming b) (program_of (linked b)).clauses (clause_alternatives b q a n)
  one_fails_leaves q n others same h next =
      ap (behind_taken (naming b) (program_of (linked b)).clauses) (split_of n next)
      ∙ one_fails b (program_of (linked b)).clauses (resolution_at b p a) (clause_at (linked b) c).clause next.skipped (clauses_on (linked b) n) h next.unfit
      ∙ ap (behind_taken (naming b) (program_of (linked b)).clauses) (sym (alternatives_same b p q a n others same))

-- where clauses were passed over, those from a later one on leave as much
pub leaves_after : (b : CompiledProgram) (old mid new : Path) (a : Attempt) (c n : ℕ) → mid.choices ≡ old.choices
    → behind_taken (naming b) (program_of (linked b)).clauses (clause_alternatives b old a c) ≡ behind_taken (naming b) (program_of (linked b)).clauses (clause_alternatives b mid a n)
    → TriesLeave b mid new a n → TriesLeave b old new a c
leaves_after b old mid new a c n same behind h =
    ap (λ v. nat_lt (length v.items) (length new.choices.items)) (sym same) ∙ h ∙ sym (ap (list_any (is_untried nat_eq)) behind)
