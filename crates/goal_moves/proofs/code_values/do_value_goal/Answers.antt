use Rattle.std.proofs.Common.{[], subst, refl}
use Rattle.pl_builtin_ends.specs.Meets.{Meets}
use Rattle.goal_state.specs.declared.path.Path.{Path}
use Rattle.goal_state.specs.Denotation.{bodies, state_of}
use Rattle.goal_moves.specs.Values.{value_deed}
use Rattle.goal_moves.proofs.CodeMoves.{code_base}
use Rattle.goal_moves.proofs.ValueLaws.{goes_on, gives_up, leaves_nothing}
use Rattle.goal_moves.proofs.code_values.do_value_goal.Goals as goal

pub do_in_store-requires-clause-base : goal.do_in_store-requires-clause-base
do_in_store-requires-clause-base c = code_base c.args.compiled.now c.args.path.now c.args.instruction c.args.setting c.requires.code c.args.node c.requires.well

pub returns-in-Yes-clause-activated : goal.returns-in-Yes-clause-activated
returns-in-Yes-clause-activated c = λ text.
    let b = c.args.compiled.now in
    let p = c.args.path.now in
    goes_on b p c.args.instruction c.args.setting c.requires.code c.requires.compiled c.args.node c.get-frame.ensures.linked c.requires.well c.requires.depth c.args.goal c.requires.goal
    c.after-f.result.0 c.after-f.result.1 c.next_of.result c.next_of.ensures (c.after-f.ensures.items (bodies b) (state_of p)) c.do_in_store.new.store c.next_var-store.ensures.store text c.in_ok-done.done c.in-Yes.is
    (subst (λ k. Meets (state_of p) c.do_in_store.new.store.state (value_deed (state_of p) c.args.setting.base k.body.words c.args.goal) c.in_ok-done.done) c.get.ensures c.in_ok-done.ensures)

pub returns-in_default-clause-activated : goal.returns-in_default-clause-activated
returns-in_default-clause-activated c = λ text.
    let b = c.args.compiled.now in
    let p = c.args.path.now in
    gives_up b p c.args.instruction c.args.setting c.requires.code c.requires.compiled c.args.node c.get-frame.ensures.linked c.requires.well c.requires.depth c.args.goal c.requires.goal
    c.after-f.result.0 c.after-f.result.1 c.next_of.result c.next_of.ensures (c.after-f.ensures.items (bodies b) (state_of p)) c.do_in_store.new.store c.next_var-store.ensures.store text c.in_ok-done.done c.in_default.not-Yes
    (subst (λ k. Meets (state_of p) c.do_in_store.new.store.state (value_deed (state_of p) c.args.setting.base k.body.words c.args.goal) c.in_ok-done.done) c.get.ensures c.in_ok-done.ensures)

pub returns-in-Yes-clause-untried : goal.returns-in-Yes-clause-untried
returns-in-Yes-clause-untried c =
    let b = c.args.compiled.now in
    let p : Path = c.args.path.now in
    leaves_nothing b p c.args.instruction c.args.setting c.requires.code c.requires.compiled c.args.node c.get-frame.ensures.linked c.requires.well c.requires.depth c.args.goal c.requires.goal
    c.after-f.result.0 c.after-f.result.1 c.next_of.result c.next_of.ensures (c.after-f.ensures.items (bodies b) (state_of p)) c.do_in_store.new.store c.next_var-store.ensures.store [] (record p { store = c.do_in_store.new.store; f = c.after-f.result.0; pc = c.after-f.result.1 }) refl

pub returns-in_default-clause-untried : goal.returns-in_default-clause-untried
returns-in_default-clause-untried c =
    let b = c.args.compiled.now in
    let p : Path = c.args.path.now in
    leaves_nothing b p c.args.instruction c.args.setting c.requires.code c.requires.compiled c.args.node c.get-frame.ensures.linked c.requires.well c.requires.depth c.args.goal c.requires.goal
    c.after-f.result.0 c.after-f.result.1 c.next_of.result c.next_of.ensures (c.after-f.ensures.items (bodies b) (state_of p)) c.do_in_store.new.store c.next_var-store.ensures.store [] (record p { store = c.do_in_store.new.store }) refl
