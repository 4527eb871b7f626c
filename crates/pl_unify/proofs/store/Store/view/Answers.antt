use Rattle.std.proofs.Common.{◌∙◌, sym, ap}
use Rattle.pl_unify.specs.Shape.{root}
use Rattle.pl_unify.proofs.Shapes.{root-shape}
use Rattle.pl_unify.specs.declared.word.Word.TheVariants.{Comp}
use Rattle.pl_unify.proofs.store.Store.view.Goals as goal

pub returns-in-Comp : goal.returns-in-Comp
returns-in-Comp c = sym (ap root c.in-Comp.ensures.shape ∙ root-shape c.args.self.now.state (Comp c.in-Comp.arity c.in-Comp.name c.in-Comp.field-2) c.in-Comp.ensures.within)
