use Rattle.std.proofs.Common.{◌≡◌, List, true, false, ap, sym, ◌∙◌}
use Rattle.std.specs.List.{list_any}
use Rattle.std.proofs.lemmas.List.{append-nil}
use Rattle.pl_ops.specs.Tables.{same_text}
use Rattle.mod_faults.specs.declared.fault.Fault.{Fault}
use Rattle.mod_faults.proofs.Repeating.{noted-put}
use Rattle.mod_faults.proofs.Lookups.{found_any}
use Rattle.mod_faults.proofs.interfaces.note.Goals as goal
use Rattle.mod_faults.proofs.interfaces.note.Goals.{then-is_some+in_ok-push, else-is_some}

pub returns-clause-faults : goal.returns-clause-faults
returns-clause-faults c =
    let old : List Fault = c.args.out.now.items in
    let found = found_any c.args.seen.now c.args.of.now c.find.result c.find.ensures in
    elim c.if-is_some.branch [
      | then-is_some+in_ok-push w ↦
          let e : true ≡ list_any (same_text c.args.of.now) c.args.seen.now = cc in
          ap (λ v. v.items) w.out-is ∙ w.in_ok-push.ensures.items ∙ noted-put c.args.unit c.args.byte c.args.of.now c.args.seen.now old true e
      | else-is_some w ↦
          let e : false ≡ list_any (same_text c.args.of.now) c.args.seen.now = cc in
          ap (λ v. v.items) w.out-is ∙ sym (append-nil old) ∙ noted-put c.args.unit c.args.byte c.args.of.now c.args.seen.now old false e
    ]
