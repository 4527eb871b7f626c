use Rattle.std.proofs.Common.{reverse, sym, subst}
use Rattle.std.proofs.lemmas.List.Elements.{All-nil}
use Rattle.pl_machine.specs.Inside.{Unnested}
use Rattle.test_machine.proofs.tests.moves.cuts_none.Goals as goal

pub cut-requires : goal.cut-requires
cut-requires c = subst (λ l. Unnested 0 (reverse l)) (sym c.requires) (All-nil _)
