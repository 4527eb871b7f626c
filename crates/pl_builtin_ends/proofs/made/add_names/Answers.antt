use Rattle.std.proofs.Common.{◌<◌, length, arith}
use Rattle.pl_atoms.proofs.Numbers.{IsFront-trans}
use Rattle.pl_builtin_ends.proofs.Kept.{Grown-none, Grown-more, text-at, texts_in, procedure-at, procedures_in, HasNames-all}
use Rattle.pl_builtin_ends.proofs.made.add_names.Goals as goal

pub loop-text-init : goal.loop-text-init
loop-text-init c = Grown-none c.args.names.now (texts_in c.texts-text-items.result.now)

pub returns-in_err-intern-clause-front : goal.returns-in_err-intern-clause-front
returns-in_err-intern-clause-front c = IsFront-trans c.args.names.now c.loop-text.names c.intern.new.names c.loop-text.invariant.front c.intern.ensures.front

pub loop-text-preserved : goal.loop-text-preserved
loop-text-preserved c =
    let low : c.loop-text.text-index < length c.texts-text-items.result.now = omega arith in
    Grown-more c.args.names.now c.loop-text.names c.intern.new.names (texts_in c.texts-text-items.result.now) c.loop-text.text-index c.in_ok-intern.field-0.0 _ c.loop-text.invariant c.intern.ensures.front
    c.in_ok-intern.ensures.known (text-at c.texts-text-items.result.now c.loop-text.text-index _ low)

pub loop-procedure-init : goal.loop-procedure-init
loop-procedure-init c = Grown-none c.loop-text.names (procedures_in c.builtins-procedure-items.result.now)

pub returns-in_err-intern-2-clause-front : goal.returns-in_err-intern-2-clause-front
returns-in_err-intern-2-clause-front c =
    IsFront-trans c.args.names.now c.loop-text.names c.intern-in-loop-procedure.new.names c.loop-text.invariant.front
    (IsFront-trans c.loop-text.names c.loop-procedure.names c.intern-in-loop-procedure.new.names c.loop-procedure.invariant.front c.intern-in-loop-procedure.ensures.front)

pub loop-procedure-preserved : goal.loop-procedure-preserved
loop-procedure-preserved c =
    let low : c.loop-procedure.procedure-index < length c.builtins-procedure-items.result.now = omega arith in
    Grown-more c.loop-text.names c.loop-procedure.names c.intern-in-loop-procedure.new.names (procedures_in c.builtins-procedure-items.result.now) c.loop-procedure.procedure-index c.in_ok-intern-2.field-0.0 _
    c.loop-procedure.invariant c.intern-in-loop-procedure.ensures.front
    c.in_ok-intern-2.ensures.known (procedure-at c.builtins-procedure-items.result.now c.loop-procedure.procedure-index _ low)

pub returns-clause-front : goal.returns-clause-front
returns-clause-front c = IsFront-trans c.args.names.now c.loop-text.names c.loop-procedure.names c.loop-text.invariant.front c.loop-procedure.invariant.front

pub returns-clause-ok : goal.returns-clause-ok
returns-clause-ok c =
    HasNames-all c.args.names.now c.loop-text.names c.loop-procedure.names c.texts-text-items.result.now c.builtins-procedure-items.result.now c.loop-text.text-index c.loop-procedure.procedure-index
    c.texts-text-items.ensures c.builtins-procedure-items.ensures.rows c.loop-text.invariant (omega arith) c.loop-procedure.invariant (omega arith)
