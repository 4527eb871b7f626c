use Rattle.std.proofs.Common.{ℕ, ◌+◌, ◌<◌, ◌^◌, [], ◌∷◌, arith}
use Rattle.std.proofs.lemmas.List.Elements.{All-cons, All-nil}
use Rattle.pl_terms.proofs.Numbering.{All-occurrences}
use Rattle.pl_terms.proofs.tests.variables_are_found_and_renamed.Goals as goal

abbrev Fits3 : ℕ → Type 0
Fits3 n = n + 3 < 2 ^ 64

pub rename-requires : goal.rename-requires
rename-requires g c =
    All-occurrences Fits3 _ c.in-Some.term c.in-Some.ensures
    (All-cons Fits3 1 (0 ∷ 1 ∷ []) (omega arith) (All-cons Fits3 0 (1 ∷ []) (omega arith) (All-cons Fits3 1 [] (omega arith) (All-nil Fits3))))
