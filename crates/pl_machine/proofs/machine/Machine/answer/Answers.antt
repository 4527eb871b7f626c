use Rattle.std.proofs.Common.{◌≡◌, ◌∙◌, ◌++◌, ◌^◌, ◌<◌, List, ℕ, None, refl, ap, sym, subst, arith, map}
use Rattle.std.specs.List.{All}
use Rattle.pl_terms.specs.Trees.{Tree}
use Rattle.pl_terms.specs.Order.{texts_of}
use Rattle.pl_terms.specs.declared.read_term.VarName.{VarName}
use Rattle.pl_ops.specs.Tables.{operator}
use Rattle.goal_state.specs.Denotation.{state_of, template_of}
use Rattle.goal_moves.specs.declared.going.Going.TheVariants.{Fails}
use Rattle.goal_moves.specs.Moves.{answering}
use Rattle.pl_machine.specs.declared.machine.Machine.{Machine}
use Rattle.pl_machine.specs.Running.{with_left}
use Rattle.pl_machine.specs.Shown.{answer_shown}
use Rattle.pl_machine.proofs.MachineLaws.{answered_machine, none_of}
use Rattle.pl_machine.proofs.MoveLaws.{remains_of, moved_remains, went_answer}
use Rattle.pl_machine.proofs.QuietLaws.{line_grows}
use Rattle.pl_machine.proofs.machine.Machine.answer.Goals as goal

pub returns-in-Some-clause-further : goal.returns-in-Some-clause-further
returns-in-Some-clause-further c left =
    let m : Machine = with_left c.args.self.now left in (
      record { text = refl; same = (refl, refl, refl); answers = refl },
      λ r so. remains_of (record m { path = c.keep_answer.new.path }) Fails r c.requires.going
          (moved_remains m.compiled m.path c.keep_answer.new.path (answering m.compiled m.path) left Fails r c.in_ok-keep_answer.ensures.0 so),
    )

pub returns-in-Some-clause-did : goal.returns-in-Some-clause-did
returns-in-Some-clause-did c = returns-in-Some-clause-further c c.args.self.now.left

pub returns-clause-machine : goal.returns-clause-machine
returns-clause-machine c =
    let few : c.saturating_add-self.result < 2 ^ 64 = omega (arith, c.saturating_add-self.ensures) in
    answered_machine c.args.self.now c.line_of.new.store c.saturating_add-self.result c.requires.machine c.next_var-store.ensures.store c.in_ok-line.ensures.grows.extends few

pub returns-clause-further : goal.returns-clause-further
returns-clause-further c left =
    let m : Machine = with_left c.args.self.now left in
    let new : Machine = record m { path = record m.path { store = c.line_of.new.store }; answers = c.saturating_add-self.result } in
    let all : All (λ (v : VarName). v.number < m.path.width) c.as_slice.result.now = subst (λ (vs : List VarName). All (λ (v : VarName). v.number < m.path.width) vs) (sym c.as_slice.ensures.value) c.requires.machine.variables in
    let ts : List (Tree (List ℕ)) = map (texts_of m.compiled.names) (template_of (state_of m.path) m.path.width None) in
    let line : c.in_ok-line.line ≡ answer_shown (operator m.table) c.as_slice.result.now ts = c.in_ok-line.ensures.line m.path.width all in (
      (refl, refl, refl),
      λ r so.
          went_answer m new c.args.text.now c.extend_from_slice.new.self c.in_ok-line.line r c.requires.machine.well (none_of m.path.template c.in_default.not-Some)
          refl refl c.in_ok-line.ensures.grows.extends refl c.requires.going c.saturating_add-self.ensures
          (c.in_ok-extend_from_slice.ensures.ok ∙ ap (λ l. c.args.text.now ++ l) c.as_slice-2.ensures)
          (line ∙ ap (λ (vs : List VarName). answer_shown (operator m.table) vs ts) c.as_slice.ensures.value ∙ ap (λ look. answer_shown look m.variables.items ts) c.requires.machine.table) so,
    )

pub returns-clause-did : goal.returns-clause-did
returns-clause-did c =
    let one = returns-clause-further c c.args.self.now.left in
    (one.0, λ r so. (one.1 r so).went)

pub returns-clause-grew : goal.returns-clause-grew
returns-clause-grew c e =
    let m : Machine = c.args.self.now in
    let all : All (λ (v : VarName). v.number < m.path.width) c.as_slice.result.now = subst (λ (vs : List VarName). All (λ (v : VarName). v.number < m.path.width) vs) (sym c.as_slice.ensures.value) c.requires.machine.variables in
    line_grows c.args.text.now c.extend_from_slice.new.self c.in_ok-line.line _ (c.in_ok-extend_from_slice.ensures.ok ∙ ap (λ l. c.args.text.now ++ l) c.as_slice-2.ensures) (c.in_ok-line.ensures.line m.path.width all)
