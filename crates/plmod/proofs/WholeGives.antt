-- What comes of a goal over the whole of texts.
use Rattle.std.proofs.Common.{◌≡◌, ℕ, List, [], get_or, refl}
use Rattle.link_model.specs.Texts.{Whole, prep_fault, link_fault, program, WholeIs}
use Rattle.plmod.specs.Outcome.{Outcome}
use Rattle.plmod.specs.Prepares.{faulty}
use Rattle.plmod.specs.Links.{link_faulty, link_lines}
use Rattle.plmod.specs.Growing.{grow_texts}
use Rattle.plmod.specs.Runs.{GoalGives, AllGives, faulty_text, faulty_link, runs, CountGives, no_count, counts, GrowGives, no_goal}

-- what comes of it over this whole of texts of these names
abbrev pub WholeGives : List (List ℕ) → ℕ → List ℕ → Whole → Outcome → Type 0
WholeGives names budget goal (prep_fault n text byte) o = o ≡ faulty (get_or names text []) n byte
WholeGives names budget goal (link_fault f) o = o ≡ link_faulty names f
WholeGives names budget goal (program us) o = GoalGives us budget goal o

pub record InWhole (names contents : List (List ℕ)) (budget : ℕ) (goal : List ℕ) (o : Outcome) : Type 0 where
  pub whole : Whole
  pub is : WholeIs contents whole
  pub gives : WholeGives names budget goal whole o

pub of_all : (names contents : List (List ℕ)) (budget : ℕ) (goal : List ℕ) (o : Outcome) → AllGives names contents budget goal o → InWhole names contents budget goal o
of_all names contents budget goal o (faulty_text n text byte h) = record { whole = prep_fault n text byte; is = h; gives = refl }
of_all names contents budget goal o (faulty_link f h) = record { whole = link_fault f; is = h; gives = refl }
of_all names contents budget goal o (runs us _ h g) = record { whole = program us; is = h; gives = g }

-- what comes of the texts of so many modules, which have no names, where this is their whole
abbrev pub GrownGives : ℕ → Whole → Outcome → Type 0
GrownGives budget (prep_fault n text byte) o = o ≡ faulty [] n byte
GrownGives budget (link_fault f) o = o ≡ link_faulty [] f
GrownGives budget (program us) o = CountGives (link_lines us) us budget o

pub record InGrown (count budget : ℕ) (o : Outcome) : Type 0 where
  pub whole : Whole
  pub is : WholeIs (grow_texts count) whole
  pub gives : GrownGives budget whole o

pub of_grow : (count budget : ℕ) (o : Outcome) → GrowGives count budget o → InGrown count budget o
of_grow count budget o (faulty_text n text byte h) = record { whole = prep_fault n text byte; is = h; gives = refl }
of_grow count budget o (faulty_link f h) = record { whole = link_fault f; is = h; gives = refl }
of_grow count budget o (no_goal us n byte h fault) = record { whole = program us; is = h; gives = no_count n byte fault }
of_grow count budget o (runs us t names h goal) = record { whole = program us; is = h; gives = counts t names goal }
