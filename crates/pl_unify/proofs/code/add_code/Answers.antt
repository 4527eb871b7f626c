use Rattle.std.proofs.Common.{◌≡◌, ◌≤◌, ◌∙◌, ◌++◌, ◌∷◌, [], ap, arith, reverse, sym, take, drop, subst, rules, length}
use Rattle.std.proofs.lemmas.List.{length-reverse}
use Rattle.pl_terms.specs.declared.cell.Cell.TheVariants as C
use Rattle.pl_unify.specs.Prefix.{Has, with_cell}
use Rattle.pl_unify.specs.declared.code.CodeWord.TheVariants.{Comp}
use Rattle.pl_unify.specs.Code.{piece_words, start_of}
use Rattle.pl_unify.specs.Coding.{Coded, piece_trees}
use Rattle.pl_unify.proofs.Loading.{OnOk-map}
use Rattle.pl_unify.proofs.CodeMaking.{comp_coded, comp_trees, reverse-piece}
use Rattle.pl_unify.proofs.code.add_code.Goals as goal
use Rattle.pl_unify.proofs.code.add_code.Goals.{After-push-in-Comp}

has : (c : After-push-in-Comp) → Has (C.Comp c.in-Comp.name c.in-Comp.arity) (length c.args.pieces.now.items)
has c = subst (λ x. Has x (length c.args.pieces.now.items)) c.in-Comp.is c.requires.enough

few : (c : After-push-in-Comp) → c.in-Comp.arity ≤ length (reverse c.args.pieces.now.items)
few c = omega (arith, length-reverse c.args.pieces.now.items, (has c).0)

first : (c : After-push-in-Comp) → c.len-first.result ≡ length c.args.words.now.items
first c = search rules

list : (c : After-push-in-Comp) → c.push-in-Comp.new.list.items ≡ c.move_pieces.new.pieces.items ++ (Comp c.in-Comp.arity c.in-Comp.name c.len-first.result c.in_ok-from-in-Comp.from, c.in_ok-from-in-Comp.from) ∷ []
    → reverse c.push-in-Comp.new.list.items
    ≡ (Comp c.in-Comp.arity c.in-Comp.name (length c.args.words.now.items) (start_of c.in-Comp.arity (length c.args.words.now.items) (reverse c.args.pieces.now.items)), start_of c.in-Comp.arity (length c.args.words.now.items) (reverse c.args.pieces.now.items)) ∷ drop c.in-Comp.arity (reverse c.args.pieces.now.items)
list c e =
    ap reverse e ∙ (reverse-piece c.move_pieces.new.pieces.items (Comp c.in-Comp.arity c.in-Comp.name c.len-first.result c.in_ok-from-in-Comp.from, c.in_ok-from-in-Comp.from)
    ∙ (ap (λ n. (Comp c.in-Comp.arity c.in-Comp.name n c.in_ok-from-in-Comp.from, c.in_ok-from-in-Comp.from) ∷ reverse c.move_pieces.new.pieces.items) (first c)
    ∙ (ap (λ n. (Comp c.in-Comp.arity c.in-Comp.name (length c.args.words.now.items) n, n) ∷ reverse c.move_pieces.new.pieces.items) c.in_ok-from-in-Comp.ensures.from
    ∙ ap (λ ps. (Comp c.in-Comp.arity c.in-Comp.name (length c.args.words.now.items) (start_of c.in-Comp.arity (length c.args.words.now.items) (reverse c.args.pieces.now.items)), start_of c.in-Comp.arity (length c.args.words.now.items) (reverse c.args.pieces.now.items)) ∷ ps) c.in_ok-from-in-Comp.ensures.pieces)))

pub returns-in_ok-from-in-Comp-clause-coded : goal.returns-in_ok-from-in-Comp-clause-coded
returns-in_ok-from-in-Comp-clause-coded c =
    let at = (goal.at.returns-in_ok-from-in-Comp-clause-coded c).After-push-in-Comp in
    OnOk-map c.push-in-Comp.result _ (Coded c.move_pieces.new.words.items c.args.vars (reverse c.push-in-Comp.new.list.items))
    (λ e. rw (list at e, c.in_ok-from-in-Comp.ensures.words) (comp_coded c.args.words.now.items c.args.vars c.in-Comp.arity c.in-Comp.name (reverse c.args.pieces.now.items) (few at) (has at).1 c.requires.coded))
    c.push-in-Comp.ensures.ok

pub returns-in_ok-from-in-Comp-clause-trees : goal.returns-in_ok-from-in-Comp-clause-trees
returns-in_ok-from-in-Comp-clause-trees c =
    let at = (goal.at.returns-in_ok-from-in-Comp-clause-trees c).After-push-in-Comp in
    OnOk-map c.push-in-Comp.result _ (piece_trees c.move_pieces.new.words.items (reverse c.push-in-Comp.new.list.items) ≡ with_cell c.args.cell (piece_trees c.args.words.now.items (reverse c.args.pieces.now.items)))
    (λ e.
    let words = c.args.words.now.items in
    let ps = reverse c.args.pieces.now.items in
    let k = c.in-Comp.arity in
    let from = start_of k (length words) ps in
    let made = comp_trees words c.args.vars k c.in-Comp.name ps from (few at) c.requires.coded in
    subst (λ q. piece_trees c.move_pieces.new.words.items q ≡ with_cell c.args.cell (piece_trees words ps)) (sym (list at e))
    (subst (λ ws. piece_trees ws ((Comp k c.in-Comp.name (length words) from, from) ∷ drop k ps) ≡ with_cell c.args.cell (piece_trees words ps)) (sym c.in_ok-from-in-Comp.ensures.words)
    (subst (λ x. piece_trees (words ++ piece_words (take k ps)) ((Comp k c.in-Comp.name (length words) from, from) ∷ drop k ps) ≡ with_cell x (piece_trees words ps)) (sym c.in-Comp.is) made)))
    c.push-in-Comp.ensures.ok
