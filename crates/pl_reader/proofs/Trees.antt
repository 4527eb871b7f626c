-- The tree of a run, and its cells.
use Rattle.std.proofs.Common.{◌≡◌, ℕ, zero, suc, ◌<◌, List, [], ◌∷◌, ◌++◌, length, get_or, Option, Some, None, refl, sym, ap, ◌∙◌, subst, arith}
use Rattle.std.proofs.lemmas.Option.{slice_get_within, get_or_from_slice_get}
use Rattle.pl_terms.specs.Trees.{Tree, var, int, atom, comp, Trees, nil, cons, count, renamed, all_renamed}
use Rattle.pl_terms.specs.Cells.{cells, all_cells, IsCell, tree_of}
use Rattle.pl_terms.specs.Forest.{tree_of-cells}
use Rattle.pl_terms.specs.Order.{text_of, texts_of}
use Rattle.pl_ops.specs.Tables.{Operators}
use Rattle.text_model.specs.Grammar.{Parse, Item, meaning}
use Rattle.text_model.specs.Reading.{items_of, at_operand}
use Rattle.pl_tokens.specs.declared.token.Token.{Token}
use Rattle.pl_reader.specs.Runs.{body_of, end_of}
use Rattle.pl_terms.specs.declared.cell.Cell.{Cell}
use Rattle.pl_terms.specs.declared.cell.Cell.TheVariants.{Comp}
use Rattle.pl_reader.specs.Machine.{parsed}
use Rattle.pl_reader.specs.Stands.{id, behind}
use Rattle.pl_reader.specs.Turning.{in_front, all_in_front}
use Rattle.pl_reader.specs.Reads.{Agrees, IsNamed, AreKnown, HasGrammar, Found, ReadsRun, IsWithin, AreWithin, run_parse, run_tokens, bound}
use Rattle.pl_atoms.specs.Names.{AreDistinct}
use Rattle.pl_reader.proofs.Tables.{number_in, agrees}
use Rattle.pl_reader.proofs.Sound.{parsed-sound}
use Rattle.pl_reader.proofs.Complete.{parsed-yield}
use Rattle.pl_reader.proofs.Fine.{Fine, AllFine, FineItems, FineGrammar, FineSome, fine_meaning, fine_items, fine_tokens}
use Rattle.pl_reader.specs.declared.machine.GrammarNames.{GrammarNames}

pub no_tree : (look : Operators) (run : List Token) → run_parse look run ≡ None → (t : Tree (List ℕ)) → ReadsRun look run t → ⊥
no_tree look run h t r =
    let e : run_parse look run ≡ Some r.reads.parse = ap (λ x. bound x parsed) r.classified ∙ ap parsed (sym r.reads.spelled) ∙ parsed-yield r.reads.parse r.reads.good r.reads.within in
    differ (sym h ∙ e)
  where
    differ : {x : Parse} → None ≡ Some x → ⊥
    differ e = cc

-- the items of a run that reads
items_are : (x : Option (List Item)) (e : Parse) → bound x parsed ≡ Some e → (is : List Item) × (x ≡ Some is) × (parsed is ≡ Some e)
items_are None e h = absurd (cc)
items_are (Some is) e h = (is, refl, h)

-- the tree of a run, whose names are all in the table
pub record TreeOf (look : Operators) (run : List Token) (names : List (List ℕ)) (num : List ℕ → ℕ) (out : List Cell) : Type 0 where
  pub tree : Tree (List ℕ)
  pub reads : ReadsRun look run tree
  pub cells_are : out ≡ behind num tree
  pub fine : Fine (IsNamed names) tree

pub tree_found : (look : Operators) (run : List Token) (names : List (List ℕ)) (g : GrammarNames) (num : List ℕ → ℕ) (out : List Cell) → HasGrammar names g → AreKnown names (body_of run) → Found num (run_parse look run) out → TreeOf look run names num out
tree_found look run names g num out has known f =
    let r = items_are (items_of look (end_of run) 0 at_operand (run_tokens run)) f.0 f.1 in
    let w = parsed-sound r.0 f.0 r.2 in
    let own : FineGrammar (IsNamed names) = record { comma_fine = (g.comma.0, has.comma_at); nil_fine = (g.nil.0, has.nil_at); curly_fine = (g.curly.0, has.curly_at); dot_fine = (g.dot.0, has.dot_at) } in
    let all = fine_items (IsNamed names) own look (end_of run) (run_tokens run) (fine_tokens names (record { names = []; next = 0 }) (body_of run) known) 0 at_operand in
    let items : FineItems (IsNamed names) r.0 = subst (FineSome (IsNamed names) own look) r.1 all in
    record {
      tree = meaning f.0;
      reads = record { items = r.0; classified = r.1; reads = record { parse = f.0; spelled = w.spelled; within = w.fits; good = w.good; tree = refl } };
      cells_are = f.2;
      fine = fine_meaning (IsNamed names) own f.0 w.good (subst (FineItems (IsNamed names)) (sym w.spelled) items);
    }

module _ (num : List ℕ → ℕ) where
  count-renamed : (ts : Trees (List ℕ)) → count (all_renamed num ts) ≡ count ts
  count-renamed nil = refl
  count-renamed (cons t ts) = ap suc (count-renamed ts)

  mutual
    pub cells-renamed : (t : Tree (List ℕ)) → in_front num t ≡ cells (renamed num t)
    cells-renamed (var n) = refl
    cells-renamed (int z) = refl
    cells-renamed (atom s) = refl
    cells-renamed (comp s ts) = ap (λ l. Comp (id num s) (count ts) ∷ l) (all-renamed ts) ∙ ap (λ n. Comp (id num s) n ∷ all_cells (all_renamed num ts)) (sym (count-renamed ts))

    all-renamed : (ts : Trees (List ℕ)) → all_in_front num ts ≡ all_cells (all_renamed num ts)
    all-renamed nil = refl
    all-renamed (cons t ts) = ap (λ l. l ++ all_in_front num ts) (cells-renamed t) ∙ ap (λ l. cells (renamed num t) ++ l) (all-renamed ts)

  module _ (names : List (List ℕ)) (agrees : Agrees num names) where
    text_back : (s : List ℕ) → IsNamed names s → text_of names (num s) ≡ s
    text_back s h = ap (text_of names) (agrees.at s h.0 h.1) ∙ get_or_from_slice_get names h.0 s [] h.1

    below : (s : List ℕ) → IsNamed names s → num s < length names
    below s h = let l = slice_get_within names h.0 s h.1 in omega (arith, agrees.at s h.0 h.1)

    mutual
      pub texts_back : (t : Tree (List ℕ)) → Fine (IsNamed names) t → texts_of names (renamed num t) ≡ t
      texts_back (var n) h = refl
      texts_back (int z) h = refl
      texts_back (atom s) h = ap atom (text_back s h)
      texts_back (comp s ts) h = ap (λ r. comp r (all_renamed (text_of names) (all_renamed num ts))) (text_back s h.0) ∙ ap (comp s) (all_texts_back ts h.3)

      all_texts_back : (ts : Trees (List ℕ)) → AllFine (IsNamed names) ts → all_renamed (text_of names) (all_renamed num ts) ≡ ts
      all_texts_back nil h = refl
      all_texts_back (cons t ts) h = ap (λ r. cons r (all_renamed (text_of names) (all_renamed num ts))) (texts_back t h.0) ∙ ap (cons t) (all_texts_back ts h.1)

    mutual
      pub names_within : (t : Tree (List ℕ)) → Fine (IsNamed names) t → IsWithin (length names) (renamed num t)
      names_within (var n) h = tt
      names_within (int z) h = tt
      names_within (atom s) h = below s h
      names_within (comp s ts) h = (below s h.0, omega (arith, count-renamed ts, h.1), omega (arith, count-renamed ts, h.2), all_names_within ts h.3)

      all_names_within : (ts : Trees (List ℕ)) → AllFine (IsNamed names) ts → AreWithin (length names) (all_renamed num ts)
      all_names_within nil h = tt
      all_names_within (cons t ts) h = (names_within t h.0, all_names_within ts h.1)

-- each cell of a tree
abbrev pub EachCell : List Cell → Type 0
EachCell [] = Unit {0}
EachCell (c ∷ cs) = IsCell c × EachCell cs

each_append : (xs ys : List Cell) → EachCell xs → EachCell ys → EachCell (xs ++ ys)
each_append [] ys h k = k
each_append (x ∷ xs) ys h k = (h.0, each_append xs ys h.1 k)

mutual
  pub each_cell : (n : ℕ) (t : Tree ℕ) → IsWithin n t → EachCell (cells t)
  each_cell n (var v) h = (tt, tt)
  each_cell n (int z) h = (tt, tt)
  each_cell n (atom s) h = (tt, tt)
  each_cell n (comp s ts) h = (omega (arith, h.1), each_all n ts h.3)

  each_all : (n : ℕ) (ts : Trees ℕ) → AreWithin n ts → EachCell (all_cells ts)
  each_all n nil h = tt
  each_all n (cons t ts) h = each_append (cells t) (all_cells ts) (each_cell n t h.0) (each_all n ts h.1)

pub all_are_cells : (cs : List Cell) → EachCell cs → (k : ℕ) (d : Cell) → k < length cs → IsCell (get_or cs k d)
all_are_cells [] h k d l = absurd (omega arith)
all_are_cells (c ∷ cs) h zero d l = h.0
all_are_cells (c ∷ cs) h (suc k) d l = all_are_cells cs h.1 k d (omega arith)

-- trees of the same cells are the same
pub same_tree : (t u : Tree ℕ) → cells t ≡ cells u → t ≡ u
same_tree t u e = sym (tree_of-cells t) ∙ ap tree_of e ∙ tree_of-cells u

-- the term of a run, from its cells
pub record TermOf (look : Operators) (run : List Token) (names : List (List ℕ)) (prefix_cells : List Cell) : Type 0 where
  pub term : Tree ℕ
  pub cells_are : cells term ≡ prefix_cells
  pub reads : ReadsRun look run (texts_of names term)
  pub within : IsWithin (length names) term

pub term_found : (look : Operators) (run : List Token) (names : List (List ℕ)) (g : GrammarNames) (out prefix_cells : List Cell) → AreDistinct names → HasGrammar names g → AreKnown names (body_of run) → ((num : List ℕ → ℕ) → Agrees num names → Found num (run_parse look run) out) → ((num : List ℕ → ℕ) (t : Tree (List ℕ)) → out ≡ behind num t → prefix_cells ≡ in_front num t) → TermOf look run names prefix_cells
term_found look run names g out prefix_cells distinct has known found turned =
    let num = number_in names in
    let a = agrees names distinct in
    let r = tree_found look run names g num out has known (found num a) in
    record {
      term = renamed num r.tree;
      cells_are = sym (turned num r.tree r.cells_are ∙ cells-renamed num r.tree);
      reads = subst (ReadsRun look run) (sym (texts_back num names a r.tree r.fine)) r.reads;
      within = names_within num names a r.tree r.fine;
    }

module _ (look : Operators) (run : List Token) (names : List (List ℕ)) (prefix_cells : List Cell) (f : TermOf look run names prefix_cells) where
  pub each_is_cell : (cs : List Cell) → cs ≡ prefix_cells → (k : ℕ) (d : Cell) → k < length cs → IsCell (get_or cs k d)
  each_is_cell cs e = all_are_cells cs (subst EachCell (f.cells_are ∙ sym e) (each_cell (length names) f.term f.within))

  same_term : (t : Tree ℕ) → cells t ≡ prefix_cells → f.term ≡ t
  same_term t e = same_tree f.term t (f.cells_are ∙ sym e)

  pub term_reads : (t : Tree ℕ) → cells t ≡ prefix_cells → ReadsRun look run (texts_of names t)
  term_reads t e = subst (λ u. ReadsRun look run (texts_of names u)) (same_term t e) f.reads

  pub term_within : (t : Tree ℕ) → cells t ≡ prefix_cells → IsWithin (length names) t
  term_within t e = subst (IsWithin (length names)) (same_term t e) f.within
