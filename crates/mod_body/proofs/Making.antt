-- Clauses from the cells of terms.
use Rattle.std.proofs.Common.{◌≡◌, ℕ, suc, ◌<◌, List, [], ◌∷◌, ◌++◌, length, codes, nat_eq, Bool, true, false, ◌&&◌, ◌||◌, Option, Some, None, Result, Ok, Err, if◌then◌else◌, refl, sym, ap, ◌∙◌, arith, subst}
use Rattle.std.specs.List.{AllByRecursion}
use Rattle.std.proofs.lemmas.Bool.{eqb-true, ne_eqb}
use Rattle.pl_atoms.specs.Names.{IsFront}
use Rattle.pl_atoms.proofs.Texts.{same_text-is}
use Rattle.pl_atoms.proofs.Numbers.{length-front}
use Rattle.pl_ops.specs.Tables.{Declaration, same_text}
use Rattle.pl_terms.specs.Trees.{Tree, var, int, atom, comp, Trees, nil, cons, count, back, renamed, all_renamed}
use Rattle.pl_terms.specs.Cells.{cells, first}
use Rattle.pl_terms.specs.Order.{text_of, texts_of}
use Rattle.pl_terms.specs.NameBounds.{NamesBelow, AllNamesBelow}
use Rattle.pl_terms.specs.Occurrence.{occurrences, all_occurrences, first_after, variables}
use Rattle.unit_model.specs.Builtins.{is_builtin}
use Rattle.unit_model.specs.Directives.{Text, Parts, parts_of, converted, head_indicator, is_grammar_rule}
use Rattle.unit_model.specs.Facts.{Indicator, What, clause, what_by, what_names, tree_names, trees_names}
use Rattle.unit_model.specs.Preparing.{clause_in, clause_said, with_clause}
use Rattle.unit_model.specs.Views.{what_view}
use Rattle.unit_model.specs.declared.facts.Ind.{Ind}
use Rattle.pl_atoms.specs.declared.names.NameId.{NameId}
use Rattle.pl_terms.specs.declared.cell.Cell.{Cell}
use Rattle.pl_terms.specs.declared.cell.Cell.TheVariants.{Comp}
use Rattle.unit_model.specs.declared.facts.What.{What as CodeWhat}
use Rattle.unit_model.specs.declared.facts.What.TheVariants.{Clause}
use Rattle.term_walk.specs.Items.{indicator_text}
use Rattle.term_walk.specs.Walks.{first_cell, entered, is_functor}
use Rattle.term_walk.proofs.NameBounds.{texts_of-front, NamesBelow-more}
use Rattle.mod_directives.specs.declared.fault.DirFault.{DirFault}
use Rattle.mod_directives.specs.declared.fault.DirFault.TheVariants.{Fault}
use Rattle.mod_body.specs.Clauses.{clause_of, clause_by, IsClause}
use Rattle.unit_model.specs.declared.facts.Entry.{Entry as CodeEntry}
use Rattle.mod_directives.specs.Reads.{Tells}
use Rattle.mod_directives.proofs.Putting.{entries_in-push, EntriesBelow-push}
use Rattle.mod_body.proofs.Steps.{same_cells}

-- the variables of a term don't depend on its names
module _ (f : ℕ → List ℕ) where
  mutual
    occurrences-renamed : (t : Tree ℕ) → occurrences (renamed f t) ≡ occurrences t
    occurrences-renamed (var n) = refl
    occurrences-renamed (int z) = refl
    occurrences-renamed (atom s) = refl
    occurrences-renamed (comp s ts) = all_occurrences-renamed ts

    all_occurrences-renamed : (ts : Trees ℕ) → all_occurrences (all_renamed f ts) ≡ all_occurrences ts
    all_occurrences-renamed nil = refl
    all_occurrences-renamed (cons t ts) =
        ap (λ l. l ++ all_occurrences (all_renamed f ts)) (occurrences-renamed t) ∙ ap (λ l. occurrences t ++ l) (all_occurrences-renamed ts)

  pub count-variables : (t : Tree ℕ) → length (variables (renamed f t)) ≡ length (variables t)
  count-variables t = ap (λ ns. length (first_after [] ns)) (occurrences-renamed t)

-- by cases of the head and of the body
abbrev clause_at : ℕ → Bool → Tree Text → Option (Indicator Text) → Option (Tree Text) → Result (What Text) ℕ
clause_at n grammar head o body = elim o [
  | None ↦ Err 13
  | Some i ↦ elim body [
    | None ↦ Err 13
    | Some b ↦ if grammar || is_builtin i.name i.arity then Err 14 else Ok (clause n head b)
  ]
]

same_cases : (n : ℕ) (grammar : Bool) (head : Tree Text) (o : Option (Indicator Text)) (body : Option (Tree Text)) → clause_at n grammar head o body ≡ clause_of n grammar head o body
same_cases n grammar head None body = refl
same_cases n grammar head (Some i) None = refl
same_cases n grammar head (Some i) (Some b) = refl

clause_in-is : (t : Tree Text) → clause_in t ≡ clause_of (length (variables t)) (is_grammar_rule t) (parts_of t).head (head_indicator (parts_of t).head) (converted (parts_of t).body)
clause_in-is t = same_cases (length (variables t)) (is_grammar_rule t) (parts_of t).head (head_indicator (parts_of t).head) (converted (parts_of t).body)

and_right : (a b : Bool) → a && b ≡ true → b ≡ true
and_right true b h = h
and_right false b h = absurd (cc)

and_left : (a b : Bool) → a && b ≡ true → a ≡ true
and_left true b h = refl
and_left false b h = h

three : (n : ℕ) → nat_eq (suc (suc (suc n))) 2 ≡ false
three n = ne_eqb (suc (suc (suc n))) 2 (λ h. absurd (omega arith))

no_three : (n : ℕ) (b : Bool) → nat_eq (suc (suc (suc n))) 2 && b ≡ true → ⊥
no_three n b h = let e : suc (suc (suc n)) ≡ 2 = eqb-true (suc (suc (suc n))) 2 (and_left (nat_eq (suc (suc (suc n))) 2) b h) in omega arith

module _ (f : ℕ → List ℕ) where
  -- a head and a body
  pub record IsRule (t : Tree ℕ) (us : Trees ℕ) : Type 0 where
    pub two : count us ≡ 2
    pub is : clause_in (renamed f t) ≡ clause_by (length (variables t)) false (renamed f (first us)) (converted (renamed f (first (back 1 us))))

  rule-of : (s : ℕ) (l r : Tree ℕ) → same_text (f s) (codes ":-") ≡ true → clause_in (renamed f (comp s (cons l (cons r nil)))) ≡ clause_by (length (variables (comp s (cons l (cons r nil))))) false (renamed f l) (converted (renamed f r))
  rule-of s l r h =
      let t : Tree ℕ = comp s (cons l (cons r nil)) in
      let n : ℕ = length (variables (renamed f t)) in
      let neck : f s ≡ codes ":-" = same_text-is (f s) (codes ":-") h in
      clause_in-is (renamed f t)
      ∙ ap (λ (p : Parts). clause_of n (same_text (f s) (codes "-->")) p.head (head_indicator p.head) (converted p.body))
      (ap (λ (b : Bool). if b then record { head = renamed f l; body = renamed f r } else record { head = renamed f t; body = atom (codes "true") }) h)
      ∙ ap (λ r'. clause_of n (same_text r' (codes "-->")) (renamed f l) (head_indicator (renamed f l)) (converted (renamed f r))) neck
      ∙ ap (λ m. clause_by m false (renamed f l) (converted (renamed f r))) (count-variables f t)

  pub rule-is : (ts us : Trees ℕ) (t : Tree ℕ) (b : Bool) → ts ≡ cons t nil → b ≡ is_functor f (codes ":-") 2 ts → b ≡ true → us ≡ entered ts → IsRule t us
  rule-is ts us t b one e h next = subst (IsRule t) (sym (next ∙ ap entered one)) (by t (sym (e ∙ ap (is_functor f (codes ":-") 2) one) ∙ h))
    where
      by : (t : Tree ℕ) → is_functor f (codes ":-") 2 (cons t nil) ≡ true → IsRule t (entered (cons t nil))
      by (var n) h = absurd (cc)
      by (int z) h = absurd (cc)
      by (atom s) h = absurd (cc)
      by (comp s nil) h = absurd (cc)
      by (comp s (cons l nil)) h = absurd (cc)
      by (comp s (cons l (cons r nil))) h = record { two = refl; is = rule-of s l r (and_right (nat_eq 2 2) (same_text (f s) (codes ":-")) h) }
      by (comp s (cons l (cons r (cons u us)))) h = absurd (no_three (count us) (same_text (f s) (codes ":-")) h)

  -- a head alone
  fact-of : (t : Tree ℕ) → is_functor f (codes ":-") 2 (cons t nil) ≡ false → clause_in (renamed f t) ≡ clause_by (length (variables (renamed f t))) (is_functor f (codes "-->") 2 (cons t nil)) (renamed f t) (Some (atom (codes "true")))
  fact-of (var n) h = clause_in-is (renamed f (var n))
  fact-of (int z) h = clause_in-is (renamed f (int z))
  fact-of (atom s) h = clause_in-is (renamed f (atom s))
  fact-of (comp s nil) h = clause_in-is (renamed f (comp s nil))
  fact-of (comp s (cons l nil)) h = clause_in-is (renamed f (comp s (cons l nil)))
  fact-of (comp s (cons l (cons r nil))) h =
      let t : Tree ℕ = comp s (cons l (cons r nil)) in
      clause_in-is (renamed f t)
      ∙ ap (λ (p : Parts). clause_of (length (variables (renamed f t))) (same_text (f s) (codes "-->")) p.head (head_indicator p.head) (converted p.body))
      (ap (λ (b : Bool). if b then record { head = renamed f l; body = renamed f r } else record { head = renamed f t; body = atom (codes "true") }) h)
  fact-of (comp s (cons l (cons r (cons u us)))) h =
      let t : Tree ℕ = comp s (cons l (cons r (cons u us))) in
      clause_in-is (renamed f t)
      ∙ ap (λ (b : Bool). clause_by (length (variables (renamed f t))) (b && same_text (f s) (codes "-->")) (renamed f t) (Some (atom (codes "true")))) (sym (three (count us)))

  pub fact-is : (ts : Trees ℕ) (t : Tree ℕ) (b : Bool) → ts ≡ cons t nil → b ≡ is_functor f (codes ":-") 2 ts → b ≡ false
      → clause_in (renamed f t) ≡ clause_by (length (variables t)) (is_functor f (codes "-->") 2 ts) (renamed f (first ts)) (Some (atom (codes "true")))
  fact-is ts t b one e h =
      fact-of t (sym (e ∙ ap (is_functor f (codes ":-") 2) one) ∙ h)
      ∙ ap (λ n. clause_by n (is_functor f (codes "-->") 2 (cons t nil)) (renamed f t) (Some (atom (codes "true")))) (count-variables f t)
      ∙ ap (λ us. clause_by (length (variables t)) (is_functor f (codes "-->") 2 us) (renamed f (first us)) (Some (atom (codes "true")))) (sym one)

-- names of trees below a number
module _ (n : ℕ) where
  all-append : (xs ys : List ℕ) → AllByRecursion (λ k. k < n) xs → AllByRecursion (λ k. k < n) ys → AllByRecursion (λ k. k < n) (xs ++ ys)
  all-append [] ys h k = k
  all-append (x ∷ xs) ys h k = (h.0, all-append xs ys h.1 k)

  mutual
    tree_names-below : (t : Tree ℕ) → NamesBelow n t → AllByRecursion (λ k. k < n) (tree_names t)
    tree_names-below (var m) h = tt
    tree_names-below (int z) h = tt
    tree_names-below (atom s) h = (h, tt)
    tree_names-below (comp s ts) h = (h.0, trees_names-below ts h.1)

    trees_names-below : (ts : Trees ℕ) → AllNamesBelow n ts → AllByRecursion (λ k. k < n) (trees_names ts)
    trees_names-below nil h = tt
    trees_names-below (cons t ts) h = all-append (tree_names t) (trees_names ts) (tree_names-below t h.0) (trees_names-below ts h.1)

  pub clause-below : (k : ℕ) (h b : Tree ℕ) → NamesBelow n h → NamesBelow n b → AllByRecursion (λ m. m < n) (what_names (what_view (Clause k h b)))
  clause-below k h b hh hb = all-append (tree_names h) (tree_names b) (tree_names-below h hh) (tree_names-below b hb)

-- what reading comes to
pub fault-clause : (names : List (List ℕ)) (n : ℕ) (c : Result (What Text) ℕ) → c ≡ Err n → IsClause names c (Err (Fault n))
fault-clause names n c is = record { ok = tt; bound = tt; fault = λ m e. is ∙ (let same : n ≡ m = cc in ap Err same) }

pub IsClause-same : (names : List (List ℕ)) (c d : Result (What Text) ℕ) (r : Result CodeWhat DirFault) → c ≡ d → IsClause names d r → IsClause names c r
IsClause-same names c d r e h = subst (λ x. IsClause names x r) (sym e) h

pub no_head : (names : List (List ℕ)) (n : ℕ) (grammar : Bool) (head : Tree Text) (body : Option (Tree Text)) → None ≡ head_indicator head → IsClause names (clause_by n grammar head body) (Err (Fault 13))
no_head names n grammar head body e = fault-clause names 13 (clause_by n grammar head body) (ap (λ o. clause_of n grammar head o body) (sym e))

pub no_body : (names old : List (List ℕ)) (n : ℕ) (grammar : Bool) (head : Tree Text) (i : Ind) → Some (indicator_text (text_of old) i) ≡ head_indicator head → clause_by n grammar head None ≡ Err 13
no_body names old n grammar head i e = ap (λ o. clause_of n grammar head o None) (sym e)

or_true : (b : Bool) → b || true ≡ true
or_true true = refl
or_true false = refl

pub built_in : (names old : List (List ℕ)) (n : ℕ) (grammar : Bool) (head body : Tree Text) (i : Ind) (b : Bool) → Some (indicator_text (text_of old) i) ≡ head_indicator head
    → b ≡ is_builtin (text_of old i.name.0) i.arity → b ≡ true → IsClause names (clause_by n grammar head (Some body)) (Err (Fault 14))
built_in names old n grammar head body i b e is holds =
    fault-clause names 14 (clause_by n grammar head (Some body))
    (ap (λ o. clause_of n grammar head o (Some body)) (sym e)
    ∙ ap (λ (c : Bool). if grammar || c then Err 14 else Ok (clause n head body)) (sym is ∙ holds)
    ∙ ap (λ (c : Bool). if c then Err 14 else Ok (clause n head body)) (or_true grammar))

pub grammar_rule : (names old : List (List ℕ)) (n : ℕ) (grammar : Bool) (head body : Tree Text) (i : Ind) → Some (indicator_text (text_of old) i) ≡ head_indicator head
    → grammar ≡ true → IsClause names (clause_by n grammar head (Some body)) (Err (Fault 14))
grammar_rule names old n grammar head body i e holds =
    fault-clause names 14 (clause_by n grammar head (Some body))
    (ap (λ o. clause_of n grammar head o (Some body)) (sym e)
    ∙ ap (λ (c : Bool). if c || is_builtin (text_of old i.name.0) i.arity then Err 14 else Ok (clause n head body)) holds)

module _ (old new : List (List ℕ)) (front : IsFront old new) where
  pub made : (n : ℕ) (grammar : Bool) (h : Tree ℕ) (bt : Tree Text) (i : Ind) (b : Bool) (head body : Tree ℕ) → Some (indicator_text (text_of old) i) ≡ head_indicator (texts_of old h)
      → b ≡ is_builtin (text_of old i.name.0) i.arity → b ≡ false → grammar ≡ false → cells head ≡ cells h → bt ≡ texts_of new body → NamesBelow (length old) h → NamesBelow (length new) body
      → IsClause new (clause_by n grammar (texts_of old h) (Some bt)) (Ok (Clause n head body))
  made n grammar h bt i b head body e is fails plain same is_body below_h below_b =
      let it : head ≡ h = same_cells head h same in
      record {
        ok =
            ap (λ o. clause_of n grammar (texts_of old h) o (Some bt)) (sym e)
            ∙ ap (λ (c : Bool). if grammar || c then Err 14 else Ok (clause n (texts_of old h) bt)) (sym is ∙ fails)
            ∙ ap (λ (c : Bool). if c || false then Err 14 else Ok (clause n (texts_of old h) bt)) plain
            ∙ ap (λ t. Ok (clause n t bt)) (sym (texts_of-front old new front h below_h) ∙ ap (texts_of new) (sym it))
            ∙ ap (λ t. Ok (clause n (texts_of new head) t)) is_body;
        bound = clause-below (length new) n head body (NamesBelow-more (length old) (length new) (length-front old new front) head (subst (NamesBelow (length old)) (sym it) below_h)) below_b;
        fault = λ m d. absurd (cc);
      }

-- a term alone has the names of its walk
pub first-below : (n : ℕ) (ts : Trees ℕ) → AllNamesBelow n ts → NamesBelow n (first ts)
first-below n nil h = tt
first-below n (cons t ts) h = h.0

pub back-below : (n : ℕ) (ts : Trees ℕ) → AllNamesBelow n ts → AllNamesBelow n (back 1 ts)
back-below n nil h = tt
back-below n (cons t ts) h = h.1

pub one-below : (n : ℕ) (ts : Trees ℕ) (t : Tree ℕ) → ts ≡ cons t nil → NamesBelow n t → AllNamesBelow n ts
one-below n ts t e h = subst (AllNamesBelow n) (sym e) (h, tt)

-- the entry of a clause
module _ (names : List (List ℕ)) (byte : ℕ) (t : Tree Text) (table : List Declaration) where
  pub clause-tells : (r : Result CodeWhat DirFault) (w : CodeWhat) (es : List CodeEntry) → IsClause names (clause_in t) r → r ≡ Ok w → es ≡ [] ++ record { byte = byte; what = w } ∷ [] → Tells names byte (clause_said false t table) table (Ok es)
  clause-tells r w es is e put = by (subst (IsClause names (clause_in t)) e is)
    where
      by : IsClause names (clause_in t) (Ok w) → Tells names byte (clause_said false t table) table (Ok es)
      by i = record {
        ok = record {
          what = record { entries = what_by (text_of names) (what_view w) ∷ []; table = table };
          is = ap (λ c. with_clause c table) i.ok;
          entries_are = entries_in-push names [] es byte w put;
          operators = refl;
        };
        bound = EntriesBelow-push (length names) [] es byte w put i.bound tt;
        fault = λ n d. absurd (cc);
      }

  pub fault-tells : (r : Result CodeWhat DirFault) (e : DirFault) → IsClause names (clause_in t) r → r ≡ Err e → Tells names byte (clause_said false t table) table (Err e)
  fault-tells r e is d = record {
    ok = tt;
    bound = tt;
    fault = λ n f. ap (λ c. with_clause c table) (is.fault n (d ∙ (let same : e ≡ Fault n = cc in ap Err same)));
  }

-- the procedure of a compound head
module _ (f : ℕ → List ℕ) where
  count-renamed : (us : Trees ℕ) → count (all_renamed f us) ≡ count us
  count-renamed nil = refl
  count-renamed (cons t ts) = ap suc (count-renamed ts)

  pub compound-head : (ts : Trees ℕ) (c : Option Cell) (name : NameId) (k : ℕ) → c ≡ first_cell ts → c ≡ Some (Comp name k) → Some (indicator_text f (record { name = name; arity = k })) ≡ head_indicator (renamed f (first ts))
  compound-head nil c name k e is = absurd (cc)
  compound-head (cons (var n) ts) c name k e is = absurd (cc)
  compound-head (cons (int z) ts) c name k e is = absurd (cc)
  compound-head (cons (atom s) ts) c name k e is = absurd (cc)
  compound-head (cons (comp s vs) ts) c name k e is =
      let same : name.0 ≡ s = cc in
      let number : k ≡ count vs = cc in
      ap (λ m. Some (record { name = f m; arity = k })) same ∙ ap (λ n. Some (record { name = f s; arity = n })) (number ∙ sym (count-renamed vs))
