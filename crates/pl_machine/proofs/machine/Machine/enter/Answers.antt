use Rattle.std.proofs.Common.{◌≡◌, ◌+◌, ◌-◌, refl, sym, subst, arith}
use Rattle.goal_state.specs.declared.path.Path.{Path}
use Rattle.goal_state.specs.Denotation.{items_here}
use Rattle.goal_moves.specs.declared.standing.Stand.TheVariants as S
use Rattle.goal_moves.specs.Moves.{called, goal_items}
use Rattle.pl_machine.specs.declared.machine.Machine.{Machine}
use Rattle.goal_moves.specs.Untried.{has_more}
use Rattle.pl_machine.specs.Fronts.{first_at}
use Rattle.pl_machine.specs.Moving.{leaves_at}
use Rattle.pl_machine.specs.Parts.{Acted}
use Rattle.pl_machine.specs.Running.{with_left}
use Rattle.pl_machine.proofs.MoveLaws.{acted_by}
use Rattle.pl_machine.proofs.machine.Machine.enter.Goals as goal

pub returns-in_ok-going-in-Code-clause-acted : goal.returns-in_ok-going-in-Code-clause-acted
returns-in_ok-going-in-Code-clause-acted c =
    let m : Machine = c.args.self.now in
    let p : Path = record m.path { depth = m.path.depth + 1 } in
    let new : Machine = record m { compiled = c.activate_code.new.compiled; path = c.activate_code.new.path; going = c.in_ok-going-in-Code.going; left = m.left - 1 } in
    let one : m.left - 1 + 1 ≡ m.left = omega (arith, c.requires.left) in
    subst (λ s. Acted m s new c.args.text.now c.activate_code.new.text) (sym c.in-Code.is)
    (acted_by m new (S.Code c.in-Code.instruction c.in-Code.setting) p (called m.compiled p m.path.depth (items_here m.compiled p p.f p.pc)) c.args.text.now c.activate_code.new.text
    (c.in_ok-going-in-Code.ensures.compiled, refl, refl) c.requires.machine.answers refl one (λ k. refl) c.in_ok-going-in-Code.ensures.activated)

pub returns-in_ok-going-in-Term-clause-acted : goal.returns-in_ok-going-in-Term-clause-acted
returns-in_ok-going-in-Term-clause-acted c =
    let m : Machine = c.args.self.now in
    let p : Path = record m.path { depth = m.path.depth + 1 } in
    let new : Machine = record m { compiled = c.activate_term.new.compiled; path = c.activate_term.new.path; going = c.in_ok-going-in-Term.going; left = m.left - 1 } in
    let one : m.left - 1 + 1 ≡ m.left = omega (arith, c.requires.left) in
    subst (λ s. Acted m s new c.args.text.now c.activate_term.new.text) (sym c.in-Term.is)
    (acted_by m new (S.Term c.in-Term.goal c.in-Term.setting c.in-Term.rest) p
    (called m.compiled p m.path.depth (goal_items m.compiled p (record { goal = c.in-Term.goal; setting = c.in-Term.setting; rest = c.in-Term.rest; node = m.path.depth }))) c.args.text.now c.activate_term.new.text
    (c.in_ok-going-in-Term.ensures.compiled, refl, refl) c.requires.machine.answers refl one (λ k. refl) c.in_ok-going-in-Term.ensures.activated)

pub returns-in_ok-going-in-Code-clause-further : goal.returns-in_ok-going-in-Code-clause-further
returns-in_ok-going-in-Code-clause-further c left =
    let m : Machine = c.args.self.now in
    let p : Path = record m.path { depth = m.path.depth + 1 } in
    let old : Machine = with_left m (left + 1) in
    let new : Machine = record m { compiled = c.activate_code.new.compiled; path = c.activate_code.new.path; going = c.in_ok-going-in-Code.going; left = left } in
    subst (λ s. Acted old s new c.args.text.now c.activate_code.new.text) (sym c.in-Code.is)
    (acted_by old new (S.Code c.in-Code.instruction c.in-Code.setting) p (called m.compiled p m.path.depth (items_here m.compiled p p.f p.pc)) c.args.text.now c.activate_code.new.text
    (c.in_ok-going-in-Code.ensures.compiled, refl, refl) c.requires.machine.answers refl refl (λ k. refl) c.in_ok-going-in-Code.ensures.activated)

pub returns-in_ok-going-in-Term-clause-further : goal.returns-in_ok-going-in-Term-clause-further
returns-in_ok-going-in-Term-clause-further c left =
    let m : Machine = c.args.self.now in
    let p : Path = record m.path { depth = m.path.depth + 1 } in
    let old : Machine = with_left m (left + 1) in
    let new : Machine = record m { compiled = c.activate_term.new.compiled; path = c.activate_term.new.path; going = c.in_ok-going-in-Term.going; left = left } in
    subst (λ s. Acted old s new c.args.text.now c.activate_term.new.text) (sym c.in-Term.is)
    (acted_by old new (S.Term c.in-Term.goal c.in-Term.setting c.in-Term.rest) p
    (called m.compiled p m.path.depth (goal_items m.compiled p (record { goal = c.in-Term.goal; setting = c.in-Term.setting; rest = c.in-Term.rest; node = m.path.depth }))) c.args.text.now c.activate_term.new.text
    (c.in_ok-going-in-Term.ensures.compiled, refl, refl) c.requires.machine.answers refl refl (λ k. refl) c.in_ok-going-in-Term.ensures.activated)

pub returns-in_ok-going-in-Code-clause-untried : goal.returns-in_ok-going-in-Code-clause-untried
returns-in_ok-going-in-Code-clause-untried c =
    let m : Machine = c.args.self.now in
    subst (λ s. has_more m.path c.activate_code.new.path ≡ leaves_at m (first_at m.compiled m.path s)) (sym c.in-Code.is) (c.in_ok-going-in-Code.ensures.untried m.left)

pub returns-in_ok-going-in-Term-clause-untried : goal.returns-in_ok-going-in-Term-clause-untried
returns-in_ok-going-in-Term-clause-untried c =
    let m : Machine = c.args.self.now in
    subst (λ s. has_more m.path c.activate_term.new.path ≡ leaves_at m (first_at m.compiled m.path s)) (sym c.in-Term.is) (c.in_ok-going-in-Term.ensures.untried m.left)
