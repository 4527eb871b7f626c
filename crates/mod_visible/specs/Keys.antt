-- What procedures and modules are looked up by.
use Rattle.std.specs.Prelude.{nat_eq, Bool, false, ◌&&◌}
use Rattle.pl_atoms.specs.declared.names.NameId.{NameId}
use Rattle.unit_model.specs.declared.facts.Ind.{Ind}
use Rattle.mod_visible.specs.declared.keys.Procedure.{Procedure}
use Rattle.mod_visible.specs.declared.keys.Given.{Given}
use Rattle.mod_visible.specs.declared.keys.Source.{Source}
use Rattle.mod_visible.specs.declared.keys.Source.TheVariants.{All, One}

abbrev pub procedure : NameId → Ind → Procedure
procedure m i = record { «module» = m.0; name = i.name.0; arity = i.arity }

abbrev pub same_procedure : Procedure → Procedure → Bool
same_procedure p q = nat_eq p.module q.module && (nat_eq p.name q.name && nat_eq p.arity q.arity)

abbrev pub same_given : Given → Given → Bool
same_given g h = same_procedure g.procedure h.procedure && nat_eq g.definer h.definer

abbrev pub same_source : Source → Source → Bool
same_source (All m) (All n) = nat_eq m n
same_source (One p) (One q) = same_procedure p q
same_source _ _ = false
