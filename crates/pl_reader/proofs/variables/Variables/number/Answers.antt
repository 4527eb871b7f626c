use Rattle.std.proofs.Common.{ℕ, ◌++◌, ◌∷◌, [], ap, sym, ◌∙◌}
use Rattle.pl_atoms.specs.Names.{with_text}
use Rattle.pl_reader.specs.Numbering.{paired}
use Rattle.pl_reader.proofs.Numbers.{number_found, met_found, number_new, met_new, paired_new}
use Rattle.pl_reader.proofs.variables.Variables.number.Goals as goal

pub returns-in-Some-clause-number : goal.returns-in-Some-clause-number
returns-in-Some-clause-number c = number_found c.args.name.now c.args.self.now.texts c.args.self.now.numbers.items c.args.self.now.next (sym c.if-is_anonymous.ensures) c.in-Some.id.0 c.index.result.now c.requires.same c.in-Some.ensures c.index.ensures

pub returns-in-Some-clause-met : goal.returns-in-Some-clause-met
returns-in-Some-clause-met c = met_found c.args.name.now c.args.self.now.texts c.args.self.now.numbers.items c.args.self.now.next (sym c.if-is_anonymous.ensures) c.in-Some.id.0 c.requires.same c.in-Some.ensures

pub returns-in_ok-push-in-None-clause-number : goal.returns-in_ok-push-in-None-clause-number
returns-in_ok-push-in-None-clause-number c = c.in_ok-number-in-None.ensures.number ∙ number_new c.args.name.now c.args.self.now.texts c.args.self.now.numbers.items c.args.self.now.next (sym c.if-is_anonymous.ensures) c.in-None.ensures

pub returns-in_ok-push-in-None-clause-met : goal.returns-in_ok-push-in-None-clause-met
returns-in_ok-push-in-None-clause-met c =
    let now = c.in_ok-number-in-None.ensures.next in
    ap (λ (n : ℕ). record { names = paired c.intern.new.self c.push.new.self.items; next = n }) (ap (λ v. v.next) now)
    ∙ met_new c.args.name.now c.args.self.now.texts c.args.self.now.numbers.items c.args.self.now.next (sym c.if-is_anonymous.ensures) c.intern.new.self c.push.new.self.items c.requires.same c.in-None.ensures
    (c.in_ok-intern-in-None.ensures.ok ∙ ap (λ v. with_text v.texts c.args.name.now) now)
    (c.in_ok-push-in-None.ensures.items ∙ ap (λ v. v.numbers.items ++ c.in_ok-number-in-None.number ∷ []) now ∙ ap (λ n. c.args.self.now.numbers.items ++ n ∷ []) c.in_ok-number-in-None.ensures.number)

pub returns-in_ok-push-in-None-clause-paired : goal.returns-in_ok-push-in-None-clause-paired
returns-in_ok-push-in-None-clause-paired c =
    let now = c.in_ok-number-in-None.ensures.next in
    record {
      same = paired_new c.args.name.now c.args.self.now.texts c.args.self.now.numbers.items c.args.self.now.next (sym c.if-is_anonymous.ensures) _ c.intern.new.self _ c.requires.same c.in-None.ensures
          (c.in_ok-intern-in-None.ensures.ok ∙ ap (λ v. with_text v.texts c.args.name.now) now)
          (c.in_ok-push-in-None.ensures.items ∙ ap (λ v. v.numbers.items ++ c.in_ok-number-in-None.number ∷ []) now);
    }
