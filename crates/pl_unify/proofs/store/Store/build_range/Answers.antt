use Rattle.std.proofs.Common.{◌≡◌, ℕ, ◌<◌, ◌≤◌, ◌∙◌, ◌++◌, ap, sym, subst, length, arith, ◌+◌, ◌-◌, rules, List, map, take, drop, get_or}
use Rattle.std.proofs.lemmas.List.{length-append}
use Rattle.pl_terms.specs.Trees.{var}
use Rattle.unifier_model.specs.Substitution.{raise}
use Rattle.pl_unify.specs.declared.word.Word.{Word}
use Rattle.pl_unify.specs.declared.code.CodeWord.{CodeWord}
use Rattle.pl_unify.specs.State.{State, Stored, IsStore, base, Grows}
use Rattle.pl_unify.specs.Code.{Layout, Closed, placed, own_words, code_tree}
use Rattle.pl_unify.proofs.Fields.{fields-grown}
use Rattle.pl_unify.proofs.Follow.{inside}
use Rattle.pl_unify.proofs.Adds.{with_more}
use Rattle.pl_unify.proofs.Building.{RangeMade, range_made, range-store, range-grows, range-trees, length-own}
use Rattle.pl_unify.proofs.store.Store.build_range.Goals as goal
use Rattle.pl_unify.proofs.store.Store.build_range.Goals.{In-Ok}

-- what was put behind the places, from the fields as they were
record Built (cells vars : List Word) (trail : List ℕ) (ws : List CodeWord) (from to b top : ℕ) (cells' vars' : List Word) : Type 0 where
  made : RangeMade cells vars (map (placed b from (length cells)) (take (to - from) (drop from ws))) trail top
  grows : Grows (inside cells vars trail) (inside cells' vars' trail)
  is_cells : cells' ≡ cells ++ map (placed b from (length cells)) (take (to - from) (drop from ws))
  is_vars : vars' ≡ vars ++ own_words (length vars) (top - length vars)
  trees : (q : ℕ) → from ≤ q → q < to → get_or (base (inside cells' vars' trail)) ((q - from) + length cells) (var 0) ≡ raise b (code_tree ws q)

built : (c : In-Ok) → Built c.self.inside.cells.items c.self.inside.vars.items c.self.inside.trail.items c.code.inside.words.items c.args.from c.args.to c.args.base c.copy_code-top.result c.copy_code-top.new.cells.items c.make_up_to.new.vars.items
built c =
    let cells : List Word = c.self.inside.cells.items in
    let vars : List Word = c.self.inside.vars.items in
    let trail : List ℕ = c.self.inside.trail.items in
    let ws : List CodeWord = c.code.inside.words.items in
    let s : State = inside cells vars trail in
    let words_are : c.args.code.now.words ≡ ws = ap (λ (l : Layout). l.words) (sym c.code.view_is) in
    let order : c.args.from ≤ c.args.to = c.requires.range.0 in
    let end : c.args.to ≤ length ws = subst (λ w. c.args.to ≤ length w) words_are c.requires.range.1 in
    let closed : Closed ws c.args.from c.args.to = subst (λ w. Closed w c.args.from c.args.to) words_are c.requires.closed in
    let number : c.len-next.result ≡ length vars = search rules in
    let top : ℕ = c.copy_code-top.result in
    let up : length vars ≤ top = omega (arith, c.copy_code-top.ensures.up) in
    let st : IsStore (with_more s (map (placed c.args.base c.args.from (length cells)) (take (c.args.to - c.args.from) (drop c.args.from ws))) top) =
    range-store s c.self.invariant.inside.store ws c.code.inside.vars c.args.from c.args.to c.args.base top c.code.invariant order end closed up c.copy_code-top.ensures.below in
    let made = range_made cells vars (map (placed c.args.base c.args.from (length cells)) (take (c.args.to - c.args.from) (drop c.args.from ws))) trail top c.self.invariant.inside up st in
    let cells_are : c.copy_code-top.new.cells.items ≡ cells ++ map (placed c.args.base c.args.from (length cells)) (take (c.args.to - c.args.from) (drop c.args.from ws)) =
    c.copy_code-top.ensures.cells ∙ ap (λ (cs : List Word). cs ++ map (placed c.args.base c.args.from (length cs)) (take (c.args.to - c.args.from) (drop c.args.from ws))) c.in_ok-make_room.ensures.items in
    let vars_are : c.make_up_to.new.vars.items ≡ vars ++ own_words (length vars) (top - length vars) = c.in-Ok.ensures.ok in
    let state : inside c.copy_code-top.new.cells.items c.make_up_to.new.vars.items trail ≡ with_more s (map (placed c.args.base c.args.from (length cells)) (take (c.args.to - c.args.from) (drop c.args.from ws))) top =
    ap (λ cs. inside cs c.make_up_to.new.vars.items trail) cells_are ∙ (ap (λ vs. inside (cells ++ map (placed c.args.base c.args.from (length cells)) (take (c.args.to - c.args.from) (drop c.args.from ws))) vs trail) vars_are ∙ made.state) in
    record {
      made = made;
      grows = subst (Grows s) (sym state) (range-grows s c.self.invariant.inside.store ws c.code.inside.vars c.args.from c.args.to c.args.base top c.code.invariant order end closed up c.copy_code-top.ensures.below);
      is_cells = cells_are;
      is_vars = vars_are;
      trees = λ q h l. ap (λ (x : State). get_or (base x) ((q - c.args.from) + length cells) (var 0)) state
          ∙ range-trees s c.self.invariant.inside.store ws c.code.inside.vars c.args.from c.args.to c.args.base top c.code.invariant order end closed up c.copy_code-top.ensures.below q h l;
    }

pub invariant_of-self-in-Ok : goal.invariant_of-self-in-Ok
invariant_of-self-in-Ok c = let b = built (goal.at.invariant_of-self-in-Ok c).In-Ok in
    fields-grown c.self.inside.cells.items c.self.inside.vars.items c.self.inside.trail.items c.self.inside.ground.items c.self.inside.noted.items _ _ _ _ c.self.invariant b.is_cells b.is_vars
    (rw (b.is_cells, b.is_vars) b.made.fields)

pub returns-in-Ok-clause-grows : goal.returns-in-Ok-clause-grows
returns-in-Ok-clause-grows c = rw (← c.self.view_is) (built (goal.at.returns-in-Ok-clause-grows c).In-Ok).grows

pub returns-in-Ok-clause-next : goal.returns-in-Ok-clause-next
returns-in-Ok-clause-next c =
    let b = built (goal.at.returns-in-Ok-clause-next c).In-Ok in
    let next : c.args.self.now.state.next ≡ length c.self.inside.vars.items = ap (λ (v : Stored). v.state.next) (sym c.self.view_is) in
    let vars : c.args.code.now.vars ≡ c.code.inside.vars = ap (λ (l : Layout). l.vars) (sym c.code.view_is) in
    let count = ap length b.is_vars ∙ (length-append c.self.inside.vars.items (own_words (length c.self.inside.vars.items) (c.copy_code-top.result - length c.self.inside.vars.items))) in
    omega (arith, count, length-own (length c.self.inside.vars.items) (c.copy_code-top.result - length c.self.inside.vars.items), c.copy_code-top.ensures.few, c.copy_code-top.ensures.up)

pub returns-in-Ok-clause-trees : goal.returns-in-Ok-clause-trees
returns-in-Ok-clause-trees c =
    let b = built (goal.at.returns-in-Ok-clause-trees c).In-Ok in
    let at : c.len-at.result ≡ length c.self.inside.cells.items = search rules in
    let words : c.args.code.now.words ≡ c.code.inside.words.items = ap (λ (l : Layout). l.words) (sym c.code.view_is) in
    λ q h l. rw (at, words) (b.trees q h l)
