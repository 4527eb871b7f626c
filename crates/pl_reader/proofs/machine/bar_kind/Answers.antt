use Rattle.std.proofs.Common.{Some, ap, sym, ◌∙◌}
use Rattle.pl_reader.proofs.Contexts.{inner_list_tail}
use Rattle.pl_reader.proofs.machine.bar_kind.Goals as goal

pub returns-in-List : goal.returns-in-List
returns-in-List c = λ num cs h. inner_list_tail num cs c.in-List.n (ap Some (sym c.in-List.is) ∙ sym c.in-Some.is ∙ h)
