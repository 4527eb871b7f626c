use Rattle.std.proofs.Common.{◌≡◌, ◌∙◌, ℕ, ap, subst, arith}
use Rattle.pl_terms.specs.Trees.{Tree}
use Rattle.pl_unify.specs.State.{State, Stored, tree_at}
use Rattle.goal_state.specs.declared.path.Path.{Path}
use Rattle.goal_state.specs.Denotation.{state_of}
use Rattle.pl_machine.specs.Starting.{IsFresh, Begins}
use Rattle.pl_machine.proofs.MadeLaws.{Loaded, IsBare, made_tree, made_order, made_fresh}
use Rattle.pl_machine.proofs.machine.standing.Goals as goal

pub load-requires : goal.load-requires
load-requires c = made_order c.new-store.result.state c.args.goal.now c.requires.variables c.new-store.ensures.empty.2

pub start-requires-clause-well : goal.start-requires-clause-well
start-requires-clause-well c = c.first_path-path.ensures.path c.args.compiled.now

pub returns : goal.returns
returns c =
    let goal : Tree ℕ = c.args.goal.now in
    let p : Path = c.first_path-path.result in
    let loaded : Loaded c.new-store.result.state c.load.new.self.state goal = record {
      empty = c.new-store.ensures.empty.1;
      none = c.new-store.ensures.empty.2;
      grows = c.in_ok-term.ensures.grows;
      next = c.in_ok-term.ensures.next;
    } in
    let bare : IsBare p c.load.new.self.state = record {
      store = ap (λ (x : Stored). x.state) c.first_path-path.ensures.store;
      width = c.first_path-path.ensures.width ∙ c.next_var-width.ensures.next;
      depth = c.first_path-path.ensures.depth;
      choices = c.first_path-path.ensures.choices;
      template = c.first_path-path.ensures.template;
      frames = c.first_path-path.ensures.frames;
    } in
    let fresh : IsFresh p goal = made_fresh c.new-store.result.state c.load.new.self.state p goal c.requires.variables loaded bare in
    let tree : tree_at (state_of p) c.in_ok-term.term ≡ goal =
    ap (λ (x : State). tree_at x c.in_ok-term.term) bare.store ∙ made_tree c.new-store.result.state goal (tree_at c.load.new.self.state c.in_ok-term.term) c.new-store.ensures.empty.1 c.in_ok-term.ensures.tree in
    let depth : p.depth ≡ 0 = bare.depth in
    record {
      well = c.in_ok-going.ensures.well;
      low = omega (arith, c.in_ok-going.ensures.low, depth);
      width = c.in_ok-going.ensures.width ∙ fresh.width;
      begins = λ (left : ℕ). subst (λ t. IsFresh p t → Begins c.args.compiled.now c.start.new.path t left c.in_ok-going.going) tree (c.in_ok-going.ensures.begins left) fresh;
    }
