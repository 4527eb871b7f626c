use Rattle.std.proofs.Common.{◌≡◌, ℕ, length, codes, Some, None}
use Rattle.std.proofs.lemmas.Result.{IfOk-weaker, IfErr-weaker}
use Rattle.pl_atoms.proofs.Numbers.{IsFront-grown}
use Rattle.pl_terms.specs.Trees.{Tree}
use Rattle.pl_terms.specs.Cells.{first}
use Rattle.pl_terms.specs.Order.{text_of, texts_of}
use Rattle.unit_model.specs.Directives.{converted}
use Rattle.pl_terms.specs.NameBounds.{NamesBelow}
use Rattle.mod_body.specs.Converting.{converted_by}
use Rattle.mod_body.specs.declared.convert.BodyFault.{BodyFault}
use Rattle.mod_body.specs.declared.convert.BodyFault.TheVariants.{NotCallable}
use Rattle.mod_body.proofs.Steps.{body-is, body-below}
use Rattle.mod_body.proofs.convert.convert_body.Goals as goal

pub returns-clause-ok : goal.returns-clause-ok
returns-clause-ok c =
    let front = IsFront-grown _ _ (codes "call") c.in_ok-call.ensures.ok in
    IfOk-weaker c.converted.result
    (λ (t : Tree ℕ). converted_by (text_of c.intern.new.self) c.in_ok-call.call.0 (first c.of.result) ≡ Some t)
    (λ (t : Tree ℕ). converted (texts_of c.args.names.now c.args.body.now) ≡ Some (texts_of c.intern.new.self t))
    (λ t h. body-is c.args.names.now c.intern.new.self c.in_ok-call.call.0 front c.in_ok-call.ensures.number c.args.body.now c.requires c.of.result (Some t) c.of.ensures h)
    c.converted.ensures.ok

pub returns-clause-below : goal.returns-clause-below
returns-clause-below c =
    let front = IsFront-grown _ _ (codes "call") c.in_ok-call.ensures.ok in
    IfOk-weaker c.converted.result
    (λ (t : Tree ℕ). converted_by (text_of c.intern.new.self) c.in_ok-call.call.0 (first c.of.result) ≡ Some t)
    (λ (t : Tree ℕ). NamesBelow (length c.intern.new.self) t)
    (λ t h. body-below c.args.names.now c.intern.new.self c.in_ok-call.call.0 front c.in_ok-call.ensures.number c.args.body.now c.requires c.in_ok-call.ensures.below c.of.result t c.of.ensures h)
    c.converted.ensures.ok

pub returns-clause-none : goal.returns-clause-none
returns-clause-none c =
    let front = IsFront-grown _ _ (codes "call") c.in_ok-call.ensures.ok in
    IfErr-weaker c.converted.result
    (λ (e : BodyFault). e ≡ NotCallable → converted_by (text_of c.intern.new.self) c.in_ok-call.call.0 (first c.of.result) ≡ None)
    (λ (e : BodyFault). e ≡ NotCallable → converted (texts_of c.args.names.now c.args.body.now) ≡ None)
    (λ e h is. body-is c.args.names.now c.intern.new.self c.in_ok-call.call.0 front c.in_ok-call.ensures.number c.args.body.now c.requires c.of.result None c.of.ensures (h is))
    c.converted.ensures.none
