use Rattle.std.proofs.Common.{codes}
use Rattle.pl_builtin_ends.proofs.Known.{number-kept}
use Rattle.pl_builtin_ends.proofs.Kept.{kept-first, kept-step}
use Rattle.pl_builtin_terms.proofs.Made.{nil-made, dot-made}
use Rattle.pl_builtin_terms.proofs.items.list_names.Goals as goal

pub returns-clause-nil : goal.returns-clause-nil
returns-clause-nil c =
    number-kept c.intern.new.names c.intern-2.new.names c.intern-2.ensures.front c.in_ok-dot.ensures.distinct (codes "[]") c.in_ok-nil.nil.0 c.in_ok-nil.ensures.known

pub returns-in_err-dot-clause-kept : goal.returns-in_err-dot-clause-kept
returns-in_err-dot-clause-kept c =
    kept-step c.args.names.now c.intern.new.names c.intern-2.new.names (codes ".") dot-made (kept-first c.args.names.now c.intern.new.names (codes "[]") nil-made c.intern.ensures.there) c.intern-2.ensures.there

pub returns-clause-kept : goal.returns-clause-kept
returns-clause-kept c =
    kept-step c.args.names.now c.intern.new.names c.intern-2.new.names (codes ".") dot-made (kept-first c.args.names.now c.intern.new.names (codes "[]") nil-made c.intern.ensures.there) c.intern-2.ensures.there
