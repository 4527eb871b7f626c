use Rattle.std.proofs.Common.{◌≡◌, ◌-◌, length, codes, Some, None, Err, true, false, ap, sym, ◌∙◌, subst, All, refl, arith}
use Rattle.std.proofs.lemmas.Result.{err_from_is_err_and}
use Rattle.pl_atoms.proofs.Numbers.{IsFront-grown}
use Rattle.pl_terms.specs.Trees.{cons, nil, count, back}
use Rattle.pl_terms.specs.Cells.{first, IsTerm, IsCell}
use Rattle.pl_terms.specs.Order.{text_of, texts_of}
use Rattle.pl_terms.proofs.Whole.{IsTerm-cells}
use Rattle.unit_model.specs.Builtins.{is_builtin}
use Rattle.unit_model.specs.Directives.{converted}
use Rattle.term_walk.proofs.Walking.{count-back, one_tree}
use Rattle.mod_directives.specs.declared.fault.DirFault.TheVariants.{Fault}
use Rattle.mod_body.specs.Clauses.{clause_by}
use Rattle.mod_body.proofs.Steps.{body-is, body-below}
use Rattle.mod_body.proofs.Making.{made, built_in, no_body, IsClause-same, first-below, back-below}
use Rattle.mod_body.proofs.clause.rule.Goals as goal

pub copy-requires-clause-whole : goal.copy-requires-clause-whole
copy-requires-clause-whole c =
    subst IsTerm (sym c.take_tree.ensures.tree) (IsTerm-cells (first c.args.parts) (subst (All IsCell) c.take_tree.ensures.tree c.take_tree.ensures.are))

pub returns-in_err-body-clause-clause : goal.returns-in_err-body-clause-clause
returns-in_err-body-clause-clause c =
    let old = c.args.names.now in
    let new = c.intern.new.self in
    let front = IsFront-grown old new (codes "call") c.in_ok-call.ensures.ok in
    let body = first (back 1 c.args.parts) in
    let below = first-below (length old) (back 1 c.args.parts) (back-below (length old) c.args.parts c.requires.below) in
    let left : count (back 1 c.args.parts) ≡ count c.args.parts - 1 = count-back 1 c.args.parts in
    let single : count (back 1 c.args.parts) ≡ 1 = omega arith in
    let one : c.take_tree.new.self ≡ cons body nil = c.take_tree.ensures.trees ∙ one_tree (back 1 c.args.parts) single in
    let p = err_from_is_err_and c.from_residual-in_err-body.result c.from_residual-in_err-body.ensures.1 in
    rw (p.1, p.2) (record {
      ok = tt;
      bound = tt;
      fault = λ n e.
          let same : c.in_err-body.field-0.0 ≡ Fault n = cc in
          let f = c.in_err-body.ensures.fault n (ap Err same) in
          ap (clause_by c.args.variables false (texts_of old (first c.args.parts)))
          (body-is old new c.in_ok-call.call.0 front c.in_ok-call.ensures.number body below c.take_tree.new.self None one f.1)
          ∙ no_body new old c.args.variables false (texts_of old (first c.args.parts)) c.in-Some.ind (c.in-Some.ensures.procedure (text_of old))
          ∙ ap Err (sym f.0);
    })

pub returns-then-is_builtin-clause-clause : goal.returns-then-is_builtin-clause-clause
returns-then-is_builtin-clause-clause c =
    let old = c.args.names.now in
    let new = c.intern.new.self in
    let front = IsFront-grown old new (codes "call") c.in_ok-call.ensures.ok in
    let body = first (back 1 c.args.parts) in
    let below = first-below (length old) (back 1 c.args.parts) (back-below (length old) c.args.parts c.requires.below) in
    let left : count (back 1 c.args.parts) ≡ count c.args.parts - 1 = count-back 1 c.args.parts in
    let single : count (back 1 c.args.parts) ≡ 1 = omega arith in
    let one : c.take_tree.new.self ≡ cons body nil = c.take_tree.ensures.trees ∙ one_tree (back 1 c.args.parts) single in
    let is : converted (texts_of old body) ≡ Some (texts_of new c.in_ok-body.body) = body-is old new c.in_ok-call.call.0 front c.in_ok-call.ensures.number body below c.take_tree.new.self (Some c.in_ok-body.body) one c.in_ok-body.ensures.ok in
    IsClause-same new _ _ _ (ap (clause_by c.args.variables false (texts_of old (first c.args.parts))) is)
    (built_in new old c.args.variables false (texts_of old (first c.args.parts)) (texts_of new c.in_ok-body.body) c.in-Some.ind c.is_builtin-is_builtin.result
    (c.in-Some.ensures.procedure (text_of old)) (c.is_builtin-is_builtin.ensures ∙ ap (λ s. is_builtin s c.in-Some.ind.arity) c.text.ensures) c.if-is_builtin.true)

pub returns-clause-clause : goal.returns-clause-clause
returns-clause-clause c =
    let old = c.args.names.now in
    let new = c.intern.new.self in
    let front = IsFront-grown old new (codes "call") c.in_ok-call.ensures.ok in
    let body = first (back 1 c.args.parts) in
    let below = first-below (length old) (back 1 c.args.parts) (back-below (length old) c.args.parts c.requires.below) in
    let left : count (back 1 c.args.parts) ≡ count c.args.parts - 1 = count-back 1 c.args.parts in
    let single : count (back 1 c.args.parts) ≡ 1 = omega arith in
    let one : c.take_tree.new.self ≡ cons body nil = c.take_tree.ensures.trees ∙ one_tree (back 1 c.args.parts) single in
    let is : converted (texts_of old body) ≡ Some (texts_of new c.in_ok-body.body) = body-is old new c.in_ok-call.call.0 front c.in_ok-call.ensures.number body below c.take_tree.new.self (Some c.in_ok-body.body) one c.in_ok-body.ensures.ok in
    IsClause-same new _ _ _ (ap (clause_by c.args.variables false (texts_of old (first c.args.parts))) is)
    (made old new front c.args.variables false (first c.args.parts) (texts_of new c.in_ok-body.body) c.in-Some.ind c.is_builtin-is_builtin.result c.in_ok-head.head c.in_ok-body.body
    (c.in-Some.ensures.procedure (text_of old)) (c.is_builtin-is_builtin.ensures ∙ ap (λ s. is_builtin s c.in-Some.ind.arity) c.text.ensures) c.if-is_builtin.false refl
    (c.in_ok-head.ensures ∙ c.take_tree.ensures.tree) refl
    (first-below (length old) c.args.parts c.requires.below)
    (body-below old new c.in_ok-call.call.0 front c.in_ok-call.ensures.number body below c.in_ok-call.ensures.below c.take_tree.new.self c.in_ok-body.body one c.in_ok-body.ensures.ok))
