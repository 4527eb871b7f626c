use Rattle.std.proofs.Common.{◌≡◌, ◌∙◌, ℕ, List, sym, ap, subst, map, rules, refl}
use Rattle.pl_terms.specs.Trees.{Tree}
use Rattle.pl_terms.specs.Occurrence.{canon}
use Rattle.pl_unify.specs.State.{tree_at}
use Rattle.builtin_model.specs.Lists.{listed}
use Rattle.solver_model.specs.Search.{pops}
use Rattle.goal_constructs.specs.Goals.{arguments_of}
use Rattle.goal_state.specs.declared.compiled.CompiledProgram.{CompiledProgram}
use Rattle.goal_state.specs.declared.path.Path.{Path}
use Rattle.goal_state.specs.Denotation.{state_of, items_here}
use Rattle.goal_state.specs.Well.{IsCompiled, IsWell}
use Rattle.std.specs.Int.{w64}
use Rattle.std.specs.Int.RustNames.{FitsSigned as SFits}
use Rattle.std.proofs.lemmas.Int.{to_z-of_z}
use Rattle.goal_moves.specs.declared.going.Going.TheVariants.{Halts}
use Rattle.goal_moves.specs.Moves.{Activated, Moved, called, goal_items, thrown}
use Rattle.goal_moves.proofs.PlainLaws.{compiled_same, if_ok, yes-of, no-of, halt-of, error-well, error-of}
use Rattle.goal_moves.proofs.Committing.{IfOk-then}
use Rattle.goal_moves.proofs.UntriedLaws.{same_records, same_taken_off}
use Rattle.goal_moves.proofs.UntriedPlain.{active_leaves}
use Rattle.goal_moves.proofs.builtins.do_row.Goals as goal

pub returns-in-Yes-clause-activated : goal.returns-in-Yes-clause-activated
returns-in-Yes-clause-activated c =
    let b = c.args.compiled.now in
    let p = c.args.path.now in
    let a = c.args.active in
    let row = c.requires.row in
    let ts : List (Tree ℕ) = listed (arguments_of (tree_at (state_of p) a.goal)) in
    let kept : c.call.new.names ≡ b.names = c.call.ensures.kept c.requires.compiled.made in
    let given : map (tree_at (state_of p)) c.as_slice.result.now ≡ ts = ap (map (tree_at (state_of p))) c.as_slice.ensures ∙ c.in_ok-args.ensures.trees in
    yes-of b p (tree_at (state_of p) a.goal) a.setting a.node a.rest.f a.rest.pc c.requires.ready.depth c.requires.ready.well row.0 ts row.2 c.call.new.store c.next_var-store.ensures.store c.args.text.now c.call.new.text c.args.row row.1 c.requires.compiled.facts.names c.call.new.names kept (map (tree_at (state_of p)) c.as_slice.result.now) given
    c.in_ok-outcome.outcome c.in-Yes.is c.in_ok-outcome.ensures.outcome c.in_ok-outcome.ensures.text

pub returns-in-No-clause-activated : goal.returns-in-No-clause-activated
returns-in-No-clause-activated c =
    let b = c.args.compiled.now in
    let p = c.args.path.now in
    let a = c.args.active in
    let row = c.requires.row in
    let ts : List (Tree ℕ) = listed (arguments_of (tree_at (state_of p) a.goal)) in
    let kept : c.call.new.names ≡ b.names = c.call.ensures.kept c.requires.compiled.made in
    let given : map (tree_at (state_of p)) c.as_slice.result.now ≡ ts = ap (map (tree_at (state_of p))) c.as_slice.ensures ∙ c.in_ok-args.ensures.trees in
    no-of b p (tree_at (state_of p) a.goal) a.setting a.node a.rest.f a.rest.pc c.requires.ready.depth c.requires.ready.well row.0 ts row.2 c.call.new.store c.next_var-store.ensures.store c.args.text.now c.call.new.text c.args.row row.1 c.requires.compiled.facts.names c.call.new.names kept (map (tree_at (state_of p)) c.as_slice.result.now) given
    c.in_ok-outcome.outcome c.in-No.is c.in_ok-outcome.ensures.outcome c.in_ok-outcome.ensures.text

pub returns-clause-activated : goal.returns-clause-activated
returns-clause-activated c =
    let b = c.args.compiled.now in
    let p = c.args.path.now in
    let a = c.args.active in
    let row = c.requires.row in
    let ts : List (Tree ℕ) = listed (arguments_of (tree_at (state_of p) a.goal)) in
    let kept : c.call.new.names ≡ b.names = c.call.ensures.kept c.requires.compiled.made in
    let given : map (tree_at (state_of p)) c.as_slice.result.now ≡ ts = ap (map (tree_at (state_of p))) c.as_slice.ensures ∙ c.in_ok-args.ensures.trees in
    let fits : SFits w64 c.in-Halt.status = search rules in
    subst (λ z. Activated b p (record p { store = c.call.new.store }) (called b p a.node (goal_items b p a)) c.args.text.now c.call.new.text (Halts z)) (sym (to_z-of_z w64 c.in-Halt.status fits)) (
    halt-of b p (tree_at (state_of p) a.goal) a.setting a.node a.rest.f a.rest.pc c.requires.ready.depth c.requires.ready.well row.0 ts row.2 c.call.new.store c.next_var-store.ensures.store c.args.text.now c.call.new.text c.args.row row.1 c.requires.compiled.facts.names c.call.new.names kept (map (tree_at (state_of p)) c.as_slice.result.now) given
    c.in-Halt.status c.in_ok-outcome.outcome c.in-Halt.is c.in_ok-outcome.ensures.outcome c.in_ok-outcome.ensures.text
    )

pub raise-requires : goal.raise-requires
raise-requires c =
    let b = c.args.compiled.now in
    let p = c.args.path.now in
    let a = c.args.active in
    let row = c.requires.row in
    let ts : List (Tree ℕ) = listed (arguments_of (tree_at (state_of p) a.goal)) in
    let kept : c.call.new.names ≡ b.names = c.call.ensures.kept c.requires.compiled.made in
    let given : map (tree_at (state_of p)) c.as_slice.result.now ≡ ts = ap (map (tree_at (state_of p))) c.as_slice.ensures ∙ c.in_ok-args.ensures.trees in
    let same : record b { names = c.call.new.names } ≡ b = compiled_same b c.call.new.names kept in
    let h = error-well b p (tree_at (state_of p) a.goal) a.setting a.node a.rest.f a.rest.pc c.requires.ready.depth c.requires.ready.well row.0 ts row.2 c.call.new.store c.next_var-store.ensures.store c.args.text.now c.call.new.text c.args.row row.1 c.requires.compiled.facts.names c.call.new.names kept (map (tree_at (state_of p)) c.as_slice.result.now) given
    c.in-Error.ball c.in_ok-outcome.outcome c.in-Error.is c.in_ok-outcome.ensures.outcome in
    record {
      compiled = subst IsCompiled (sym same) c.requires.compiled;
      well = subst (λ l. IsWell l (record p { store = c.call.new.store })) (sym same) h.0;
      ball = h.1;
    }

pub returns-in-Error-clause-activated : goal.returns-in-Error-clause-activated
returns-in-Error-clause-activated c =
    let b = c.args.compiled.now in
    let p = c.args.path.now in
    let a = c.args.active in
    let row = c.requires.row in
    let ts : List (Tree ℕ) = listed (arguments_of (tree_at (state_of p) a.goal)) in
    let kept : c.call.new.names ≡ b.names = c.call.ensures.kept c.requires.compiled.made in
    let given : map (tree_at (state_of p)) c.as_slice.result.now ≡ ts = ap (map (tree_at (state_of p))) c.as_slice.ensures ∙ c.in_ok-args.ensures.trees in
    let l : CompiledProgram = record b { names = c.call.new.names } in
    let same : l ≡ b = compiled_same b c.call.new.names kept in
    let mid : Path = record p { store = c.call.new.store } in
    if_ok
    (λ g. Moved l mid c.raise.new.path (thrown l mid (canon (tree_at (state_of mid) c.in-Error.ball)) (pops (items_here l mid a.rest.f a.rest.pc))) g)
    (λ g. Activated b p c.raise.new.path (called b p a.node (goal_items b p a)) c.args.text.now c.call.new.text g)
    c.raise.result
    (λ g m. error-of b p (tree_at (state_of p) a.goal) a.setting a.node a.rest.f a.rest.pc c.requires.ready.depth c.requires.ready.well row.0 ts row.2 c.call.new.store c.next_var-store.ensures.store c.args.text.now c.call.new.text c.args.row row.1 c.requires.compiled.facts.names c.call.new.names kept (map (tree_at (state_of p)) c.as_slice.result.now) given
    c.in-Error.ball c.raise.new.path l c.in_ok-outcome.outcome g c.in-Error.is c.in_ok-outcome.ensures.outcome c.in_ok-outcome.ensures.text same m)
    c.raise.ensures.moved

pub returns-in-Yes-clause-untried : goal.returns-in-Yes-clause-untried
returns-in-Yes-clause-untried c =
    let p : Path = c.args.path.now in
    let new : Path = record p { store = c.call.new.store; f = c.args.active.rest.f; pc = c.args.active.rest.pc } in
    active_leaves c.args.compiled.now p c.args.active c.requires.row.0 (listed (arguments_of (tree_at (state_of p) c.args.active.goal))) c.requires.row.2 new (same_records p new refl)

pub returns-in-No-clause-untried : goal.returns-in-No-clause-untried
returns-in-No-clause-untried c =
    let p : Path = c.args.path.now in
    let new : Path = record p { store = c.call.new.store } in
    active_leaves c.args.compiled.now p c.args.active c.requires.row.0 (listed (arguments_of (tree_at (state_of p) c.args.active.goal))) c.requires.row.2 new (same_records p new refl)

pub returns-clause-untried : goal.returns-clause-untried
returns-clause-untried c =
    let p : Path = c.args.path.now in
    let new : Path = record p { store = c.call.new.store } in
    active_leaves c.args.compiled.now p c.args.active c.requires.row.0 (listed (arguments_of (tree_at (state_of p) c.args.active.goal))) c.requires.row.2 new (same_records p new refl)

pub returns-in-Error-clause-untried : goal.returns-in-Error-clause-untried
returns-in-Error-clause-untried c =
    let p : Path = c.args.path.now in
    let new : Path = c.raise.new.path in
    IfOk-then c.raise.result c.raise.ensures.fewer (λ g off.
    active_leaves c.args.compiled.now p c.args.active c.requires.row.0 (listed (arguments_of (tree_at (state_of p) c.args.active.goal))) c.requires.row.2 new (same_taken_off p (record p { store = c.call.new.store }) new refl off))
