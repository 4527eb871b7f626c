use Rattle.std.proofs.Common.{codes, ◌∙◌, ap, Some}
use Rattle.pl_atoms.proofs.Numbers.{IsFront-trans}
use Rattle.pl_builtin_terms.specs.ErrorTerms.{kind_text}
use Rattle.pl_builtin_ends.proofs.Known.{number-kept}
use Rattle.pl_builtin_ends.proofs.Kept.{kept-first, kept-step}
use Rattle.pl_builtin_terms.proofs.Made.{error-made, slash-made, kind-made, detail-made}
use Rattle.pl_builtin_terms.proofs.error_term.error_names.Goals as goal

pub returns-clause-error : goal.returns-clause-error
returns-clause-error c =
    number-kept c.intern.new.names c.intern-4.new.names
    (IsFront-trans c.intern.new.names c.intern-3.new.names c.intern-4.new.names
    (IsFront-trans c.intern.new.names c.intern-2.new.names c.intern-3.new.names c.intern-2.ensures.front c.intern-3.ensures.front) c.intern-4.ensures.front)
    c.in_ok-detail.ensures.distinct (codes "error") c.in_ok-error.error.0 c.in_ok-error.ensures.known

pub returns-clause-slash : goal.returns-clause-slash
returns-clause-slash c =
    number-kept c.intern-2.new.names c.intern-4.new.names (IsFront-trans c.intern-2.new.names c.intern-3.new.names c.intern-4.new.names c.intern-3.ensures.front c.intern-4.ensures.front)
    c.in_ok-detail.ensures.distinct (codes "/") c.in_ok-slash.slash.0 c.in_ok-slash.ensures.known

pub returns-clause-kind : goal.returns-clause-kind
returns-clause-kind c =
    number-kept c.intern-3.new.names c.intern-4.new.names c.intern-4.ensures.front c.in_ok-detail.ensures.distinct (kind_text c.args.fault) c.in_ok-kind.kind.0
    (c.in_ok-kind.ensures.known ∙ ap Some c.kind_text.ensures)

pub returns-in_err-slash-clause-kept : goal.returns-in_err-slash-clause-kept
returns-in_err-slash-clause-kept c =
    kept-step c.args.names.now c.intern.new.names c.intern-2.new.names (codes "/") slash-made
    (kept-first c.args.names.now c.intern.new.names (codes "error") error-made c.intern.ensures.there) c.intern-2.ensures.there

pub returns-in_err-kind-clause-kept : goal.returns-in_err-kind-clause-kept
returns-in_err-kind-clause-kept c =
    kept-step c.args.names.now c.intern-2.new.names c.intern-3.new.names c.kind_text.result.now (kind-made c.args.fault c.kind_text.result.now c.kind_text.ensures)
    (kept-step c.args.names.now c.intern.new.names c.intern-2.new.names (codes "/") slash-made
    (kept-first c.args.names.now c.intern.new.names (codes "error") error-made c.intern.ensures.there) c.intern-2.ensures.there) c.intern-3.ensures.there

pub returns-in_err-detail-clause-kept : goal.returns-in_err-detail-clause-kept
returns-in_err-detail-clause-kept c =
    kept-step c.args.names.now c.intern-3.new.names c.intern-4.new.names c.detail_text.result.now (detail-made c.args.fault c.detail_text.result.now c.detail_text.ensures)
    (kept-step c.args.names.now c.intern-2.new.names c.intern-3.new.names c.kind_text.result.now (kind-made c.args.fault c.kind_text.result.now c.kind_text.ensures)
    (kept-step c.args.names.now c.intern.new.names c.intern-2.new.names (codes "/") slash-made
    (kept-first c.args.names.now c.intern.new.names (codes "error") error-made c.intern.ensures.there) c.intern-2.ensures.there) c.intern-3.ensures.there) c.intern-4.ensures.there

pub returns-clause-kept : goal.returns-clause-kept
returns-clause-kept c =
    kept-step c.args.names.now c.intern-3.new.names c.intern-4.new.names c.detail_text.result.now (detail-made c.args.fault c.detail_text.result.now c.detail_text.ensures)
    (kept-step c.args.names.now c.intern-2.new.names c.intern-3.new.names c.kind_text.result.now (kind-made c.args.fault c.kind_text.result.now c.kind_text.ensures)
    (kept-step c.args.names.now c.intern.new.names c.intern-2.new.names (codes "/") slash-made
    (kept-first c.args.names.now c.intern.new.names (codes "error") error-made c.intern.ensures.there) c.intern-2.ensures.there) c.intern-3.ensures.there) c.intern-4.ensures.there
