-- A run over the numbers of names, and the run over their texts.
use Rattle.std.specs.Prelude.{◌≡◌, ℕ, ◌<◌, List, length, map, nat_eq, Bool, Some, option_map}
use Rattle.std.specs.List.{All, Contains}
use Rattle.pl_atoms.specs.Names.{same_text, with_texts, AreDistinct}
use Rattle.pl_terms.specs.Trees.{Tree, renamed}
use Rattle.pl_terms.specs.Order.{text_of, texts_of}
use Rattle.pl_terms.specs.NameBounds.{NamesBelow}
use Rattle.unit_model.specs.Facts.{Indicator, indicator_by}
use Rattle.solver_model.specs.Search.{Event, Out, Ans, End, Failed, CutTo, Thrown, Halted, Spent, Outcome}
use Rattle.builtin_model.specs.Naming.{Naming, number_in, by_texts, by_numbers}
use Rattle.goal_model.specs.Program.{Clause, Clauses, Program}
use Rattle.goal_model.specs.NameLaws.{SameNames}
use Rattle.goal_model.specs.Run.{run_of}
use Rattle.naming_laws.specs.Translation.{written_names, clause_by, Translates, Follows}

module _ {N M : Type 0} (f : N → M) where
  -- an answer with other names; output is the same
  abbrev pub event_by : Event (List (Tree N)) → Event (List (Tree M))
  event_by (Out bytes) = Out bytes
  event_by (Ans ts) = Ans (map (renamed f) ts)

  -- a ball with other names
  abbrev pub end_by : End (Tree N) → End (Tree M)
  end_by Failed = Failed
  end_by (CutTo c) = CutTo c
  end_by (Thrown ball active) = Thrown (renamed f ball) active
  end_by (Halted z) = Halted z
  end_by Spent = Spent

  -- the same output and answers in their order, as many steps left, and the same end, under other names
  pub record SameRun (r : Outcome (List (Tree N)) (Tree N) (Clauses N)) (q : Outcome (List (Tree M)) (Tree M) (Clauses M)) : Type 0 where
    pub events : map event_by r.events ≡ q.events
    pub left : r.left ≡ q.left
    pub ended : end_by r.ended ≡ q.ended

-- the run of a goal is the same under names that stand for others
abbrev pub RunsTranslate : Type 0 → Type 0 → Type 0
RunsTranslate N M =
    (n : Naming N) (same : N → N → Bool) (p : Program N) (m : Naming M) (same' : M → M → Bool) (q : Program M) (f : N → M)
    → Translates n m f → SameNames f same same' → Follows f p q
    → (goal : Tree N) (budget : ℕ) → SameRun f (run_of n same p goal budget) (run_of m same' q (renamed f goal) budget)

-- a table of names, each once, with those that a run writes
pub record HasNames (names : List (List ℕ)) : Type 0 where
  pub distinct : AreDistinct names
  pub written : All (Contains names) written_names

-- where names are in the table, the program brings no others: neither definers nor clauses have any
pub record IsNamedBelow (limit : ℕ) (p : Program ℕ) : Type 0 where
  pub definers : (m : ℕ) (i : Indicator ℕ) (d : ℕ) → m < limit → i.name < limit → p.visible m i ≡ Some d → d < limit
  pub clauses : (d : ℕ) (i : Indicator ℕ) → d < limit → i.name < limit → All (λ (c : Clause ℕ). NamesBelow limit c.head × NamesBelow limit c.body) (p.clauses d i)

-- a program over the numbers of a table, and one over texts that says the same
pub record SaysSame (names : List (List ℕ)) (p : Program ℕ) (q : Program (List ℕ)) : Type 0 where
  pub within : IsNamedBelow (length names) p
  pub exists : (m : ℕ) → m < length names → q.exists (text_of names m) ≡ p.exists m
  pub visible : (m : ℕ) (i : Indicator ℕ) → m < length names → i.name < length names → q.visible (text_of names m) (indicator_by (text_of names) i) ≡ option_map (text_of names) (p.visible m i)
  pub modes : (d : ℕ) (i : Indicator ℕ) → d < length names → i.name < length names → q.modes (text_of names d) (indicator_by (text_of names) i) ≡ p.modes d i
  pub clauses : (d : ℕ) (i : Indicator ℕ) → d < length names → i.name < length names → q.clauses (text_of names d) (indicator_by (text_of names) i) ≡ map (clause_by (text_of names)) (p.clauses d i)

-- a goal with its names in the table has the same run by their numbers and by their texts
abbrev pub RunsByTexts : Type 0
RunsByTexts =
    (names : List (List ℕ)) (p : Program ℕ) (q : Program (List ℕ)) → HasNames names → SaysSame names p q
    → (goal : Tree ℕ) (budget : ℕ) → NamesBelow (length names) goal
    → SameRun (text_of names) (run_of (by_numbers names) nat_eq p goal budget) (run_of by_texts same_text q (texts_of names goal) budget)

-- a table in which no name is twice has those that a run writes once they are put in
abbrev pub NamesAreAdded : Type 0
NamesAreAdded = (names : List (List ℕ)) → AreDistinct names → HasNames (with_texts names written_names)

-- the program over texts that looks up their numbers
abbrev pub by_its_texts : List (List ℕ) → Program ℕ → Program (List ℕ)
by_its_texts names p = record {
  exists = λ m. p.exists (number_in names m);
  visible = λ m i. option_map (text_of names) (p.visible (number_in names m) (indicator_by (number_in names) i));
  modes = λ d i. p.modes (number_in names d) (indicator_by (number_in names) i);
  clauses = λ d i. map (clause_by (text_of names)) (p.clauses (number_in names d) (indicator_by (number_in names) i));
}

-- it says the same as the program
abbrev pub TextsSaySame : Type 0
TextsSaySame = (names : List (List ℕ)) (p : Program ℕ) → AreDistinct names → IsNamedBelow (length names) p → SaysSame names p (by_its_texts names p)
