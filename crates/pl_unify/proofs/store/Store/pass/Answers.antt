use Rattle.std.proofs.Common.{◌+◌, ◌-◌, arith}
use Rattle.pl_unify.proofs.Grounds.{passed-more}
use Rattle.pl_unify.proofs.store.Store.pass.Goals as goal

pub returns-then-fill : goal.returns-then-fill
returns-then-fill c = λ n clear was.
    passed-more c.args.self.now.state n c.args.passed.now.items c.fill.new.ground.items c.args.first c.args.count (c.args.first + (c.args.count - 1)) was c.fill.ensures.same (c.fill.ensures.room c.if-fill.true) (omega arith) clear
