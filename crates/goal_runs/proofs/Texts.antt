-- Events and names of variables, over numbers and over texts; programs that say nothing of other texts.
use Rattle.std.proofs.Common.{◌≡◌, ◌∙◌, ℕ, suc, List, [], ◌∷◌, ◌++◌, map, length, drop, refl, ap, sym, take-append-drop, Bool, true, false, ◌||◌, ◌&&◌}
use Rattle.std.specs.List.{list_any}
use Rattle.std.proofs.lemmas.List.Folds.{list_any-append}
use Rattle.pl_atoms.specs.Names.{same_text, IsFront}
use Rattle.pl_terms.specs.Trees.{Tree}
use Rattle.pl_terms.specs.Order.{text_of}
use Rattle.pl_terms.specs.declared.read_term.VarName.{VarName}
use Rattle.unit_model.specs.Facts.{Indicator}
use Rattle.unit_model.specs.Directives.{Text}
use Rattle.solver_model.specs.Search.{Event, Out, Ans, answers_of}
use Rattle.goal_model.specs.Program.{Program}
use Rattle.naming_laws.specs.SameRun.{event_by}
use Rattle.mod_linker.specs.Linking.{is_among, are_among, SaysNothingElse}
use Rattle.goal_runs.specs.Runs.{variables_of}

-- as many answers
pub answers-by : (names : List (List ℕ)) (events : List (Event (List (Tree ℕ)))) → length (answers_of (map (event_by (text_of names)) events)) ≡ length (answers_of events)
answers-by names [] = refl
answers-by names (Out bytes ∷ events) = answers-by names events
answers-by names (Ans ts ∷ events) = ap suc (answers-by names events)

pub variables-of-pairs : (vs : List VarName) → variables_of (map (λ v. (v.name, v.number)) vs) ≡ vs
variables-of-pairs [] = refl
variables-of-pairs (v ∷ vs) = ap (λ l. v ∷ l) (variables-of-pairs vs)

-- ---- more texts

neither : (a b : Bool) → (a || b) ≡ false → a ≡ false
neither false b h = refl
neither true b h = h

not_both : (a b x y : Bool) → ((a || x) && (b || y)) ≡ false → (a && b) ≡ false
not_both false b x y h = refl
not_both true b x y h = neither b y h

module _ (old new : List Text) (front : IsFront old new) where
  among-more : (t : Text) → is_among new t ≡ (is_among old t || is_among (drop (length old) new) t)
  among-more t =
      ap (list_any (same_text t)) (sym (take-append-drop (length old) new) ∙ ap (λ l. l ++ drop (length old) new) front)
      ∙ list_any-append (same_text t) old (drop (length old) new)

  among-less : (t : Text) → is_among new t ≡ false → is_among old t ≡ false
  among-less t h = neither (is_among old t) (is_among (drop (length old) new) t) (sym (among-more t) ∙ h)

  both-less : (m : Text) (i : Indicator Text) → are_among new m i ≡ false → are_among old m i ≡ false
  both-less m i h =
      not_both (is_among old m) (is_among old i.name) (is_among (drop (length old) new) m) (is_among (drop (length old) new) i.name)
      (sym (ap (λ b. b && is_among new i.name) (among-more m) ∙ ap (λ b. (is_among old m || is_among (drop (length old) new) m) && b) (among-more i.name)) ∙ h)

  pub nothing-else-of-more : (q : Program Text) → SaysNothingElse old q → SaysNothingElse new q
  nothing-else-of-more q h = record {
    exists = λ m e. h.exists m (among-less m e);
    visible = λ m i e. h.visible m i (both-less m i e);
    modes = λ d i e. h.modes d i (both-less d i e);
    clauses = λ d i e. h.clauses d i (both-less d i e);
  }
