use Rattle.std.proofs.Common.{codes, refl}
use Rattle.pl_atoms.proofs.Numbers.{IsFront-trans}
use Rattle.pl_builtin_ends.specs.Made.{made_texts, HasText}
use Rattle.pl_builtin_ends.proofs.Known.{number-kept}
use Rattle.pl_builtin_ends.proofs.Kept.{kept-first, kept-step}
use Rattle.pl_builtins.proofs.comparison.order_names.Goals as goal

pub returns-clause-less : goal.returns-clause-less
returns-clause-less c =
    number-kept c.intern.new.names c.intern-3.new.names (IsFront-trans c.intern.new.names c.intern-2.new.names c.intern-3.new.names c.intern-2.ensures.front c.intern-3.ensures.front)
    c.in_ok-greater.ensures.distinct (codes "<") c.in_ok-less.less.0 c.in_ok-less.ensures.known

pub returns-clause-equal : goal.returns-clause-equal
returns-clause-equal c =
    number-kept c.intern-2.new.names c.intern-3.new.names c.intern-3.ensures.front c.in_ok-greater.ensures.distinct (codes "=") c.in_ok-equal.equal.0 c.in_ok-equal.ensures.known

less-made : HasText made_texts (codes "<")
unfolding made_texts
less-made = refl

equal-made : HasText made_texts (codes "=")
unfolding made_texts
equal-made = refl

greater-made : HasText made_texts (codes ">")
unfolding made_texts
greater-made = refl

pub returns-in_err-equal-clause-kept : goal.returns-in_err-equal-clause-kept
returns-in_err-equal-clause-kept c =
    kept-step c.args.names.now c.intern.new.names c.intern-2.new.names (codes "=") equal-made
    (kept-first c.args.names.now c.intern.new.names (codes "<") less-made c.intern.ensures.there) c.intern-2.ensures.there

pub returns-in_err-greater-clause-kept : goal.returns-in_err-greater-clause-kept
returns-in_err-greater-clause-kept c =
    kept-step c.args.names.now c.intern-2.new.names c.intern-3.new.names (codes ">") greater-made
    (kept-step c.args.names.now c.intern.new.names c.intern-2.new.names (codes "=") equal-made
    (kept-first c.args.names.now c.intern.new.names (codes "<") less-made c.intern.ensures.there) c.intern-2.ensures.there) c.intern-3.ensures.there

pub returns-clause-kept : goal.returns-clause-kept
returns-clause-kept c =
    kept-step c.args.names.now c.intern-2.new.names c.intern-3.new.names (codes ">") greater-made
    (kept-step c.args.names.now c.intern.new.names c.intern-2.new.names (codes "=") equal-made
    (kept-first c.args.names.now c.intern.new.names (codes "<") less-made c.intern.ensures.there) c.intern-2.ensures.there) c.intern-3.ensures.there
