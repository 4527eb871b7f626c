-- Ends of runs over numbers, and over their texts.
use Rattle.std.proofs.Common.{◌≡◌, ℕ, List, refl}
use Rattle.pl_terms.specs.Trees.{Tree}
use Rattle.pl_terms.specs.Order.{text_of}
use Rattle.pl_ops.specs.Tables.{Operators}
use Rattle.solver_model.specs.Search.{End, Failed, CutTo, Thrown, Halted, Spent}
use Rattle.naming_laws.specs.SameRun.{end_by}
use Rattle.prep_report.specs.Lines.{end_text}
use Rattle.pl_machine.specs.Running.{end_of}
use Rattle.goal_runs.specs.Ends.{end_shown, manner, manner_of}

pub end-shown : (look : Operators) (names : List (List ℕ)) (e : End (Tree ℕ)) → end_text look names (end_of e) ≡ end_shown look (end_by (text_of names) e)
end-shown look names Failed = refl
end-shown look names (CutTo c) = refl
end-shown look names (Thrown ball active) = refl
end-shown look names (Halted n) = refl
end-shown look names Spent = refl

pub manner-by : (names : List (List ℕ)) (e : End (Tree ℕ)) → manner (end_of e) ≡ manner_of (end_by (text_of names) e)
manner-by names Failed = refl
manner-by names (CutTo c) = refl
manner-by names (Thrown ball active) = refl
manner-by names (Halted n) = refl
manner-by names Spent = refl
