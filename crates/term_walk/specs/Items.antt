-- Indicators and modes by number.
use Rattle.std.specs.Prelude.{ℕ, zero, suc, List, [], codes, Bool, true, false, Option, Some, None, if◌then◌else◌, option_map}
use Rattle.pl_ops.specs.Tables.{same_text}
use Rattle.pl_terms.specs.Trees.{Trees, nil, cons, renamed}
use Rattle.pl_terms.specs.declared.cell.Cell.{Cell}
use Rattle.pl_terms.specs.declared.cell.Cell.TheVariants.{Int, Name}
use Rattle.unit_model.specs.Facts.{Indicator}
use Rattle.unit_model.specs.declared.facts.Ind.{Ind}
use Rattle.unit_model.specs.Directives.{both, single, small, mode_in}
use Rattle.term_walk.specs.declared.items.ModeTerm.{ModeTerm}

abbrev pub indicator_text : (ℕ → List ℕ) → Ind → Indicator (List ℕ)
indicator_text f i = record { name = f i.name.0; arity = i.arity }

abbrev pub mode_term_text : (ℕ → List ℕ) → ModeTerm → List ℕ × List Bool
mode_term_text f m = (f m.name.0, m.modes)

-- the indicator that two cells make
abbrev pub indicator_of : (ℕ → List ℕ) → Option Cell → Option Cell → Option (Indicator (List ℕ))
indicator_of f (Some (Name s)) (Some (Int z)) = option_map (λ a. record { name = f s.0; arity = a }) (small z)
indicator_of f _ _ = None

-- the mode that an argument's first cell is
abbrev pub mode_of : (ℕ → List ℕ) → Option Cell → Option Bool
mode_of f (Some (Name s)) = if same_text (f s.0) (codes ":") then Some true else if same_text (f s.0) (codes "*") then Some false else None
mode_of f _ = None

-- the modes that the first trees are, so many of them
abbrev pub front_modes : (ℕ → List ℕ) → ℕ → Trees ℕ → Option (List Bool)
front_modes f zero ts = Some []
front_modes f (suc n) nil = None
front_modes f (suc n) (cons t ts) = both (single (mode_in (renamed f t))) (front_modes f n ts)
