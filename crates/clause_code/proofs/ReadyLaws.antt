-- The clauses of a linked program are ready for their codes.
use Rattle.std.proofs.Common.{◌≡◌, ℕ, zero, suc, ◌+◌, ◌<◌, ◌≤◌, Bool, true, false, ◌&&◌, ◌||◌, not, List, [], ◌∷◌, ◌++◌, nat_eq, get_or, refl, sym, ap, subst, ◌∙◌, arith, if◌then◌else◌}
use Rattle.std.specs.Prelude.{codes}
use Rattle.std.proofs.lemmas.Bool.{false≢true, eqb-true}
use Rattle.pl_terms.specs.Trees.{Tree, var, int, atom, comp, Trees, nil, cons}
use Rattle.pl_terms.specs.Order.{text_of, texts_of}
use Rattle.pl_terms.specs.Cells.{cells, all_cells}
use Rattle.pl_terms.specs.Occurrence.{occurrences, all_occurrences, is_in, first_after, from_to}
use Rattle.pl_terms.specs.declared.cell.Cell.{Cell}
use Rattle.pl_terms.specs.declared.cell.Cell.TheVariants.{Var, Int, Name, Comp}
use Rattle.pl_atoms.specs.Names.{same_text}
use Rattle.pl_unify.specs.Code.{VarsBelow}
use Rattle.unit_model.specs.Validity as V
use Rattle.builtin_model.specs.Naming.{by_numbers}
use Rattle.goal_code.specs.declared.shape.ControlNames.{ControlNames}
use Rattle.goal_code.specs.Denotation.{AreControlNames}
use Rattle.goal_code.specs.Settled.{is_settled, is_control}
use Rattle.pl_store.specs.Linked.{Linked, no_clause}
use Rattle.pl_store.specs.Facts.{IsLinked, EachAt}
use Rattle.clause_code.specs.Codes.{IsReady}

-- ---- variables

abbrev AllBelow : ℕ → List ℕ → Type 0
AllBelow v [] = Unit {0}
AllBelow v (n ∷ ns) = (n < v) × AllBelow v ns

module _ (v : ℕ) where
  in-below : (n : ℕ) (seen : List ℕ) → AllBelow v seen → is_in n seen ≡ true → n < v
  in-below n [] h e = absurd (false≢true e)
  in-below n (m ∷ ms) h e = go (nat_eq n m) refl e (in-below n ms h.1)
    where
      go : (b : Bool) → nat_eq n m ≡ b → (b || is_in n ms) ≡ true → (is_in n ms ≡ true → n < v) → n < v
      go true same e rest = let is : n ≡ m = eqb-true n m same in omega (arith, is, h.0)
      go false same e rest = rest e

  before-first : (seen ns : List ℕ) → AllBelow v seen → AllBelow v (first_after seen ns) → AllBelow v ns
  before-first seen [] s h = tt
  before-first seen (n ∷ ns) s h = go (is_in n seen) refl h (λ lt. before-first (n ∷ seen) ns (lt, s))
    where
      go : (b : Bool) → is_in n seen ≡ b → AllBelow v (Rattle.pl_terms.specs.Occurrence.unless_seen b n (first_after (n ∷ seen) ns)) → (n < v → AllBelow v (first_after (n ∷ seen) ns) → AllBelow v ns) → (n < v) × AllBelow v ns
      go true e h rest = let lt = in-below n seen s e in (lt, rest lt h)
      go false e h rest = (h.0, rest h.0 h.1)

  below-from_to : (a k : ℕ) → a + k ≤ v → AllBelow v (from_to a k)
  below-from_to a zero h = tt
  below-from_to a (suc k) h = (omega (arith, h), below-from_to (suc a) k (omega (arith, h)))

  below-left : (ms ns : List ℕ) → AllBelow v (ms ++ ns) → AllBelow v ms
  below-left [] ns h = tt
  below-left (m ∷ ms) ns h = (h.0, below-left ms ns h.1)

  below-right : (ms ns : List ℕ) → AllBelow v (ms ++ ns) → AllBelow v ns
  below-right [] ns h = h
  below-right (m ∷ ms) ns h = below-right ms ns h.1

  vars-append : (cs ds : List Cell) → VarsBelow v cs → VarsBelow v ds → VarsBelow v (cs ++ ds)
  vars-append [] ds h k = k
  vars-append (Var n ∷ cs) ds h k = (h.0, vars-append cs ds h.1 k)
  vars-append (Int z ∷ cs) ds h k = vars-append cs ds h k
  vars-append (Name a ∷ cs) ds h k = vars-append cs ds h k
  vars-append (Comp f n ∷ cs) ds h k = vars-append cs ds h k

  mutual
    vars-below : (t : Tree ℕ) → AllBelow v (occurrences t) → VarsBelow v (cells t)
    vars-below (var n) h = h
    vars-below (int z) h = tt
    vars-below (atom s) h = tt
    vars-below (comp s ts) h = all-vars-below ts h

    all-vars-below : (ts : Trees ℕ) → AllBelow v (all_occurrences ts) → VarsBelow v (all_cells ts)
    all-vars-below nil h = tt
    all-vars-below (cons t ts) h =
        vars-append (cells t) (all_cells ts) (vars-below t (below-left (occurrences t) (all_occurrences ts) h)) (all-vars-below ts (below-right (occurrences t) (all_occurrences ts) h))

  module _ (h b : Tree ℕ) (numbered : first_after [] (occurrences h ++ occurrences b) ≡ from_to 0 v) where
    all-below : AllBelow v (occurrences h ++ occurrences b)
    all-below = before-first [] (occurrences h ++ occurrences b) tt (subst (AllBelow v) (sym numbered) (below-from_to 0 v (omega arith)))

    pub head-vars : VarsBelow v (cells h)
    head-vars = vars-below h (below-left (occurrences h) (occurrences b) all-below)

    pub body-vars : VarsBelow v (cells b)
    body-vars = vars-below b (below-right (occurrences h) (occurrences b) all-below)

-- ---- bodies

or_false : (b : Bool) → (b || false) ≡ b
or_false true = refl
or_false false = refl

both : (a b : Bool) → a && b ≡ true → (a ≡ true) × (b ≡ true)
both true b h = (refl, h)
both false b h = absurd (false≢true h)

module _ (names : List (List ℕ)) (s : ControlNames) (are : AreControlNames (by_numbers names) s) where
  control-same : (f : ℕ) → V.is_control (text_of names f) 2 ≡ is_control s f
  control-same f =
      ap (λ b. b || (same_text (text_of names f) (codes ";") || (same_text (text_of names f) (codes "->") || false))) (are.conjunction f)
      ∙ ap (λ b. nat_eq f s.conjunction.0 || (b || (same_text (text_of names f) (codes "->") || false))) (are.disjunction f)
      ∙ ap (λ b. nat_eq f s.conjunction.0 || (nat_eq f s.disjunction.0 || b)) (or_false (same_text (text_of names f) (codes "->")) ∙ are.implication f)

  settled : (t : Tree ℕ) → V.is_converted (texts_of names t) ≡ true → is_settled s t ≡ true
  settled (var v) h = h
  settled (int z) h = h
  settled (atom a) h = refl
  settled (comp f nil) h = refl
  settled (comp f (cons l nil)) h = refl
  settled (comp f (cons l (cons r nil))) h = go (is_control s f) (control-same f) h (settled l) (settled r)
    where
      go : (b : Bool) → V.is_control (text_of names f) 2 ≡ b → V.is_converted (texts_of names (comp f (cons l (cons r nil)))) ≡ true
          → (V.is_converted (texts_of names l) ≡ true → is_settled s l ≡ true) → (V.is_converted (texts_of names r) ≡ true → is_settled s r ≡ true)
          → (if b then is_settled s l && is_settled s r else true) ≡ true
      go false e h left right = refl
      go true e h left right =
          let parts : V.is_converted (texts_of names l) && (V.is_converted (texts_of names r) && true) ≡ true = ap (λ b. not b || (V.is_converted (texts_of names l) && (V.is_converted (texts_of names r) && true))) (sym e) ∙ h in
          let one = both (V.is_converted (texts_of names l)) (V.is_converted (texts_of names r) && true) parts in
          let two = both (V.is_converted (texts_of names r)) true one.1 in
          ap (λ b. b && is_settled s r) (left one.0) ∙ right two.0
  settled (comp f (cons l (cons r (cons u us)))) h = refl

pub all-ready : (l : Linked) (s : ControlNames) → IsLinked l → AreControlNames (by_numbers l.names) s → EachAt (IsReady s) no_clause l.clauses
all-ready l s h are c lt =
    let k = (h.clauses c lt).clause in
    record { numbered = k.numbered; width = k.width; settled = settled l.names s are (get_or l.clauses c no_clause).clause.body k.converted }
