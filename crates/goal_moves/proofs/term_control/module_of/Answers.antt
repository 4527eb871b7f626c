use Rattle.std.proofs.Common.{◌∙◌, sym, ap, Err}
use Rattle.pl_unify.specs.State.{tree_at}
use Rattle.pl_store.specs.Runs.{program_of}
use Rattle.builtin_model.specs.Faults.{instantiation, fault_tree}
use Rattle.pl_terms.specs.Trees.{atom}
use Rattle.goal_model.specs.Table.{module_of}
use Rattle.goal_state.specs.Denotation.{linked, naming, state_of}
use Rattle.goal_moves.specs.Control.{no_atom}
use Rattle.goal_moves.proofs.Committing.{IfOk-then}
use Rattle.goal_moves.proofs.ArgumentMoves.{name_at, arity_at}
use Rattle.goal_moves.proofs.ModuleNames.{is_named, named_module, var_module, int_module, comp_module}
use Rattle.goal_moves.proofs.term_control.module_of.Goals as goal

pub returns-in-Name-clause-named : goal.returns-in-Name-clause-named
returns-in-Name-clause-named c =
    let b = c.args.compiled.now in
    let p = c.args.path.now in
    let t = tree_at (state_of p) c.args.place in
    let l = c.args.active.setting.lookup.0 in
    let f = name_at b p c.args.active in
    let k = arity_at b p c.args.active in
    IfOk-then c.module_named.result c.module_named.ensures.named (λ r h. is_named (state_of c.module_named.new.path) (module_of (naming b) (program_of (linked b)) (atom c.in-Name.home.0) l f k) (module_of (naming b) (program_of (linked b)) t l f k) r
    (named_module (naming b) (program_of (linked b)) t c.in-Name.home l f k (sym c.in-Name.is ∙ c.view.ensures)) (h f k))

pub returns-in_ok-ball-in-Var-clause-named : goal.returns-in_ok-ball-in-Var-clause-named
returns-in_ok-ball-in-Var-clause-named c =
    let b = c.args.compiled.now in
    let p = c.args.path.now in
    let t = tree_at (state_of p) c.args.place in
    let l = c.args.active.setting.lookup.0 in
    let f = name_at b p c.args.active in
    let k = arity_at b p c.args.active in (
      c.in_ok-ball-in-Var.ensures.place,
      sym (var_module (naming b) (program_of (linked b)) t c.in-Var.field-0 l f k (sym c.in-Var.is ∙ c.view.ensures))
          ∙ ap Err (sym (c.in_ok-ball-in-Var.ensures.tree (naming b) c.requires.compiled.constructs ∙ (λ i. fault_tree (naming b) instantiation (c.construct_of-arity.ensures.name i) (c.construct_of-arity.ensures.arity i)))),
    )

pub returns-in-Int-clause-named : goal.returns-in-Int-clause-named
returns-in-Int-clause-named c =
    let b = c.args.compiled.now in
    let p = c.args.path.now in
    let t = tree_at (state_of p) c.args.place in
    let l = c.args.active.setting.lookup.0 in
    let f = name_at b p c.args.active in
    let k = arity_at b p c.args.active in
    IfOk-then c.no_atom.result c.no_atom.ensures.named (λ r h. is_named (state_of c.no_atom.new.path) (no_atom (naming b) t c.construct_of-arity.result.0.0 c.construct_of-arity.result.1) (module_of (naming b) (program_of (linked b)) t l f k) r
    ((λ i. no_atom (naming b) t (c.construct_of-arity.ensures.name i) (c.construct_of-arity.ensures.arity i)) ∙ int_module (naming b) (program_of (linked b)) t c.in-Int.field-0 l f k (sym c.in-Int.is ∙ c.view.ensures)) h)

pub returns-in-Comp-clause-named : goal.returns-in-Comp-clause-named
returns-in-Comp-clause-named c =
    let b = c.args.compiled.now in
    let p = c.args.path.now in
    let t = tree_at (state_of p) c.args.place in
    let l = c.args.active.setting.lookup.0 in
    let f = name_at b p c.args.active in
    let k = arity_at b p c.args.active in
    IfOk-then c.no_atom-in-Comp.result c.no_atom-in-Comp.ensures.named (λ r h. is_named (state_of c.no_atom-in-Comp.new.path) (no_atom (naming b) t c.construct_of-arity.result.0.0 c.construct_of-arity.result.1) (module_of (naming b) (program_of (linked b)) t l f k) r
    ((λ i. no_atom (naming b) t (c.construct_of-arity.ensures.name i) (c.construct_of-arity.ensures.arity i)) ∙ comp_module (naming b) (program_of (linked b)) t c.in-Comp.field-0 c.in-Comp.field-1 l f k (sym c.in-Comp.is ∙ c.view.ensures)) h)
