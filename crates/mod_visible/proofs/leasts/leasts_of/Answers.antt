use Rattle.std.proofs.Common.{◌+◌, take, sym, subst, ◌∙◌}
use Rattle.mod_visible.specs.declared.leasts.Leasts.{Leasts}
use Rattle.mod_visible.specs.Leasts.{AreLeasts}
use Rattle.mod_visible.proofs.LeastLaws.{leasts_more, leasts_same, leasts_all}
use Rattle.mod_visible.proofs.leasts.leasts_of.Goals.{then-is_wanted+in_ok-add, else-is_wanted}
use Rattle.mod_visible.proofs.leasts.leasts_of.Goals as goal

pub loop-cause-preserved : goal.loop-cause-preserved
loop-cause-preserved c =
    let table = c.args.table.now.causes.entries in
    let causes = c.args.causes.now in
    let at = c.loop-cause.cause-index in
    let old = c.loop-cause.leasts.causes.entries in
    elim c.if-is_wanted.branch [
      | then-is_wanted+in_ok-add w ↦
          subst (λ (l : Leasts). AreLeasts table (take (at + 1) causes) l.causes.entries) (sym w.leasts-is)
          (leasts_more table causes at _ old c.loop-cause-test.true c.loop-cause.invariant w.add.new.self.causes.entries (sym c.is_wanted.ensures ∙ w.if-is_wanted.true) w.in_ok-add.ensures)
      | else-is_wanted w ↦
          subst (λ (l : Leasts). AreLeasts table (take (at + 1) causes) l.causes.entries) (sym w.leasts-is)
          (leasts_same table causes at _ old c.loop-cause-test.true c.loop-cause.invariant (sym c.is_wanted.ensures ∙ w.if-is_wanted.false))
    ]

pub returns : goal.returns
returns c = leasts_all c.args.table.now.causes.entries c.args.causes.now c.loop-cause.cause-index c.loop-cause.leasts.causes.entries c.loop-cause-test.false c.loop-cause.invariant
