-- The run over the numbers of a table is the run over their texts: both are the run over the table's entries, with other names.
use Rattle.std.proofs.Common.{◌≡◌, ◌∙◌, ℕ, ◌<◌, ◌≤◌, Bool, true, nat_eq, List, map, length, codes, refl, ap, sym, subst, arith, inl, inr, ◌⊎◌, eqb-true, eq-eqb}
use Rattle.std.specs.Prelude.{option_map}
use Rattle.std.specs.List.{Contains}
use Rattle.std.proofs.lemmas.List.Folds.{Any-from_list_any}
use Rattle.pl_atoms.specs.Names.{same_text}
use Rattle.pl_atoms.proofs.Numbers.{number-is}
use Rattle.pl_atoms.proofs.Texts.{same_text-is, same_text-itself}
use Rattle.pl_terms.specs.Trees.{Tree}
use Rattle.pl_terms.specs.Order.{text_of, texts_of}
use Rattle.pl_terms.specs.NameBounds.{NamesBelow}
use Rattle.unit_model.specs.Facts.{Indicator, indicator_by}
use Rattle.solver_model.specs.Search.{Outcome}
use Rattle.builtin_model.specs.Naming.{Naming, number_in, by_texts, by_numbers}
use Rattle.goal_model.specs.Program.{Clauses, Program}
use Rattle.goal_model.specs.NameLaws.{SameNames}
use Rattle.goal_model.specs.Run.{run_of}
use Rattle.naming_laws.specs.Translation.{written_names, is_written, Translates, Follows, clause_by}
use Rattle.naming_laws.specs.SameRun.{event_by, end_by, SameRun, HasNames, SaysSame, RunsByTexts}
use Rattle.naming_laws.proofs.Tables.{within-or-past, same_tests, IsThere, there}
use Rattle.naming_laws.proofs.Entries.{Entry, number_of, placed, placed-number, placed_option, placed_option-number, placed_clauses, placed_clauses-number, renamed-renamed, events-renamed, end-renamed, option-renamed, clauses-renamed}
use Rattle.naming_laws.proofs.RunLaw.{runs-translate}

module _ (names : List (List ℕ)) (has : HasNames names) where
  abbrev limit : ℕ
  limit = length names

  written_there : (s : List ℕ) → is_written s ≡ true → IsThere names s
  written_there s h =
      let a = Any-from_list_any (same_text s) written_names h in
      let e : s ≡ a.1 = same_text-is s a.1 a.4 in
      there names s (subst (Contains names) (a.3 ∙ sym e) (has.written a.0 a.1 a.2))

  -- ---- entries as names

  abbrev entry_at : (k : ℕ) → (k < limit) ⊎ (limit ≤ k) → Entry limit
  entry_at k (inl h) = record { number = k; within = h }
  entry_at k (inr h) = record { number = number_in names (codes "call"); within = (written_there (codes "call") refl).within }

  entry_at-number : (k : ℕ) (x : (k < limit) ⊎ (limit ≤ k)) → k < limit → (entry_at k x).number ≡ k
  entry_at-number k (inl h) l = refl
  entry_at-number k (inr h) l = absurd (omega arith)

  abbrev entry_text : Entry limit → List ℕ
  entry_text e = text_of names e.number

  abbrev by_entries : Naming (Entry limit)
  by_entries = record { text = entry_text; name = λ s. entry_at (number_in names s) (within-or-past (number_in names s) limit) }

  numbers_written : (s : List ℕ) → is_written s ≡ true → (by_entries.name s).number ≡ number_in names s
  numbers_written s h = entry_at-number (number_in names s) (within-or-past (number_in names s) limit) (written_there s h).within

  to_numbers : Translates by_entries (by_numbers names) (number_of limit)
  to_numbers = record { text = λ a. refl; name = numbers_written }

  to_texts : Translates by_entries by_texts entry_text
  to_texts = record { text = λ a. refl; name = λ s h. ap (text_of names) (numbers_written s h) ∙ (written_there s h).text }

  abbrev same_entry : Entry limit → Entry limit → Bool
  same_entry a b = nat_eq a.number b.number

  entries_by_text : SameNames entry_text same_entry same_text
  entries_by_text a b =
      same_tests (same_text (entry_text a) (entry_text b)) (nat_eq a.number b.number)
      (λ h. eq-eqb a.number b.number (number-is names has.distinct a.number b.number a.within b.within (same_text-is (entry_text a) (entry_text b) h)))
      (λ h. ap (λ k. same_text (entry_text a) (text_of names k)) (sym (eqb-true a.number b.number h)) ∙ same_text-itself (entry_text a))

  -- ---- the program over entries

  module _ (p : Program ℕ) (q : Program (List ℕ)) (says : SaysSame names p q) where
    abbrev entry_indicator : Indicator (Entry limit) → Indicator ℕ
    entry_indicator = indicator_by (number_of limit)

    abbrev program : Program (Entry limit)
    program = record {
      exists = λ a. p.exists a.number;
      visible = λ a i. placed_option limit (p.visible a.number (entry_indicator i)) (λ d e. says.within.definers a.number (entry_indicator i) d a.within i.name.within e);
      modes = λ a i. p.modes a.number (entry_indicator i);
      clauses = λ a i. placed_clauses limit (p.clauses a.number (entry_indicator i)) (says.within.clauses a.number (entry_indicator i) a.within i.name.within);
    }

    follows_numbers : Follows (number_of limit) program p
    follows_numbers = record {
      exists = λ a. refl;
      visible = λ a i. sym (placed_option-number limit (p.visible a.number (entry_indicator i)) (λ d e. says.within.definers a.number (entry_indicator i) d a.within i.name.within e));
      modes = λ a i. refl;
      clauses = λ a i. sym (placed_clauses-number limit (p.clauses a.number (entry_indicator i)) (says.within.clauses a.number (entry_indicator i) a.within i.name.within));
    }

    follows_texts : Follows entry_text program q
    follows_texts = record {
      exists = λ a. says.exists a.number a.within;
      visible = λ a i.
          says.visible a.number (entry_indicator i) a.within i.name.within
          ∙ ap (option_map (text_of names)) (follows_numbers.visible a i)
          ∙ option-renamed (number_of limit) (text_of names) (program.visible a i);
      modes = λ a i. says.modes a.number (entry_indicator i) a.within i.name.within;
      clauses = λ a i.
          says.clauses a.number (entry_indicator i) a.within i.name.within
          ∙ ap (map (clause_by (text_of names))) (follows_numbers.clauses a i)
          ∙ clauses-renamed (number_of limit) (text_of names) (program.clauses a i);
    }

    pub same_run : (goal : Tree ℕ) (budget : ℕ) → NamesBelow (length names) goal
        → SameRun (text_of names) (run_of (by_numbers names) nat_eq p goal budget) (run_of by_texts same_text q (texts_of names goal) budget)
    same_run goal budget h =
        let start : Tree (Entry limit) = placed limit goal h in
        let whole : Outcome (List (Tree (Entry limit))) (Tree (Entry limit)) (Clauses (Entry limit)) = run_of by_entries same_entry program start budget in
        let numbers : SameRun (number_of limit) whole (run_of (by_numbers names) nat_eq p goal budget)
        = subst (λ t. SameRun (number_of limit) whole (run_of (by_numbers names) nat_eq p t budget)) (placed-number limit goal h)
        (runs-translate by_entries same_entry program (by_numbers names) nat_eq p (number_of limit) to_numbers (λ a b. refl) follows_numbers start budget) in
        let texts : SameRun entry_text whole (run_of by_texts same_text q (texts_of names goal) budget)
        = subst (λ t. SameRun entry_text whole (run_of by_texts same_text q t budget)) (sym (renamed-renamed (number_of limit) (text_of names) start) ∙ ap (texts_of names) (placed-number limit goal h))
        (runs-translate by_entries same_entry program by_texts same_text q entry_text to_texts entries_by_text follows_texts start budget) in
        record {
          events = ap (map (event_by (text_of names))) (sym numbers.events) ∙ events-renamed (number_of limit) (text_of names) whole.events ∙ texts.events;
          left = sym numbers.left ∙ texts.left;
          ended = ap (end_by (text_of names)) (sym numbers.ended) ∙ end-renamed (number_of limit) (text_of names) whole.ended ∙ texts.ended;
        }

pub runs-by-texts : RunsByTexts
runs-by-texts names p q has says goal budget h = same_run names has p q says goal budget h
