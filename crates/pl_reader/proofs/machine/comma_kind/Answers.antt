use Rattle.std.proofs.Common.{Some, ap, sym, ◌∙◌}
use Rattle.pl_reader.proofs.Contexts.{inner_list, inner_call}
use Rattle.pl_reader.proofs.machine.comma_kind.Goals as goal

pub returns-in_ok-one_more-in-List : goal.returns-in_ok-one_more-in-List
returns-in_ok-one_more-in-List c = λ num cs h. inner_list num cs c.in-List.n _ (ap Some (sym c.in-List.is) ∙ sym c.in-Some.is ∙ h) c.in_ok-one_more-in-List.ensures

pub returns-in_ok-one_more-in-Call : goal.returns-in_ok-one_more-in-Call
returns-in_ok-one_more-in-Call c = λ num cs h. inner_call num cs c.in-Call.name c.in-Call.n _ (ap Some (sym c.in-Call.is) ∙ sym c.in-Some.is ∙ h) c.in_ok-one_more-in-Call.ensures
