use Rattle.std.proofs.Common.{◌<◌, sym, subst, length}
use Rattle.std.proofs.lemmas.Option.{IfSome_then}
use Rattle.goal_state.specs.Denotation.{bodies, state_of}
use Rattle.goal_moves.specs.Values.{DoesBy}
use Rattle.goal_moves.proofs.CodeMoves.{clause_there, goal_there}
use Rattle.goal_moves.proofs.ValueLaws.{is_value_goal}
use Rattle.goal_moves.proofs.code_values.value_goal.Goals as goal

pub get-requires : goal.get-requires
get-requires c = clause_there c.args.compiled.now c.args.path.now c.args.instruction c.args.setting c.requires.code

pub by_values-requires : goal.by_values-requires
by_values-requires c =
    let b = c.args.compiled.now in
    subst (λ k. c.place_of.result < length k.body.words) (sym c.get.ensures)
    (subst (λ place. place < length (bodies b c.args.setting.clause).words) (sym c.place_of.ensures) (goal_there b c.args.path.now c.args.instruction c.args.setting c.requires.code c.requires.compiled))

pub returns : goal.returns
returns c =
    let b = c.args.compiled.now in
    let p = c.args.path.now in
    let st = c.args.setting in
    IfSome_then c.by_values.result c.by_values.ensures
    (λ g h. is_value_goal b p c.args.instruction st c.requires.code c.requires.compiled c.args.target c.in-Plain.number c.in_ok-row.row g c.requires.plain c.requires.target c.in-Plain.is (sym c.in_ok-row.ensures)
    (subst (λ place. DoesBy b.names (state_of p) st.base (bodies b st.clause).words place c.in_ok-row.row g) c.place_of.ensures
    (subst (λ k. DoesBy b.names (state_of p) st.base k.body.words c.place_of.result c.in_ok-row.row g) c.get.ensures h)))
