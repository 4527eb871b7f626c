-- Names in a table that grows.
use Rattle.std.proofs.Common.{◌≡◌, ℕ, ◌<◌, ◌≤◌, List, length, arith, ap, ◌∙◌, refl, sym, subst, nat_lt, Bool, true, false, Option, Some, None}
use Rattle.std.proofs.lemmas.Bool.{ltb-true, ltb-false, false≢true}
use Rattle.pl_terms.specs.Trees.{Tree, var, int, atom, comp, Trees, nil, cons, count, append, all_renamed}
use Rattle.pl_atoms.specs.declared.names.NameId.{NameId}
use Rattle.pl_terms.specs.declared.cell.Cell.{Cell}
use Rattle.pl_terms.specs.declared.cell.Cell.TheVariants.{Var, Int, Name, Comp}
use Rattle.pl_terms.specs.Order.{text_of, texts_of}
use Rattle.pl_atoms.specs.Names.{IsFront}
use Rattle.pl_atoms.proofs.Numbers.{get_or-front}
use Rattle.pl_terms.specs.NameBounds.{NamesBelow, AllNamesBelow}
use Rattle.term_walk.specs.NameBounds.{is_below}
use Rattle.term_walk.specs.Walks.{first_cell, entered}

-- each name keeps its text
module _ (old new : List (List ℕ)) (front : IsFront old new) where
  mutual
    pub texts_of-front : (t : Tree ℕ) → NamesBelow (length old) t → texts_of new t ≡ texts_of old t
    texts_of-front (var n) h = refl
    texts_of-front (int z) h = refl
    texts_of-front (atom s) h = ap atom (get_or-front old new front s h)
    texts_of-front (comp s ts) h =
        ap (λ r. comp r (all_renamed (text_of new) ts)) (get_or-front old new front s h.0)
        ∙ ap (comp (text_of old s)) (all_texts_of-front ts h.1)

    all_texts_of-front : (ts : Trees ℕ) → AllNamesBelow (length old) ts → all_renamed (text_of new) ts ≡ all_renamed (text_of old) ts
    all_texts_of-front nil h = refl
    all_texts_of-front (cons t ts) h =
        ap (λ u. cons u (all_renamed (text_of new) ts)) (texts_of-front t h.0)
        ∙ ap (cons (texts_of old t)) (all_texts_of-front ts h.1)

mutual
  pub NamesBelow-more : (m n : ℕ) → m ≤ n → (t : Tree ℕ) → NamesBelow m t → NamesBelow n t
  NamesBelow-more m n le (var k) h = tt
  NamesBelow-more m n le (int z) h = tt
  NamesBelow-more m n le (atom s) h = omega arith
  NamesBelow-more m n le (comp s ts) h = (omega (arith, h.0), AllNamesBelow-more m n le ts h.1)

  pub AllNamesBelow-more : (m n : ℕ) → m ≤ n → (ts : Trees ℕ) → AllNamesBelow m ts → AllNamesBelow n ts
  AllNamesBelow-more m n le nil h = tt
  AllNamesBelow-more m n le (cons t ts) h = (NamesBelow-more m n le t h.0, AllNamesBelow-more m n le ts h.1)

-- over a walk
module _ (n : ℕ) where
  all_below-append : (us ts : Trees ℕ) → AllNamesBelow n us → AllNamesBelow n ts → AllNamesBelow n (append us ts)
  all_below-append nil ts h k = k
  all_below-append (cons u us) ts h k = (h.0, all_below-append us ts h.1 k)

  all_below-split : (us ts : Trees ℕ) → AllNamesBelow n (append us ts) → AllNamesBelow n us × AllNamesBelow n ts
  all_below-split nil ts h = (tt, h)
  all_below-split (cons u us) ts h = let rest = all_below-split us ts h.1 in ((h.0, rest.0), rest.1)

  -- a name below the bound, by the test of its cell
  bound : (s : ℕ) (c : Cell) → is_below n c ≡ nat_lt s n → is_below n c ≡ true → s < n
  bound s c e t = ltb-true s n (sym e ∙ t)

  pub below_entered : (ts us : Trees ℕ) (c : Cell) → first_cell ts ≡ Some c → us ≡ entered ts → is_below n c ≡ true → AllNamesBelow n us → AllNamesBelow n ts
  below_entered nil us c h e t k = tt
  below_entered (cons (var m) ts) us c h e t k = (tt, subst (AllNamesBelow n) e k)
  below_entered (cons (int z) ts) us c h e t k = (tt, subst (AllNamesBelow n) e k)
  below_entered (cons (atom s) ts) us c h e t k =
      let same : Name (record { 0 = s }) ≡ c = cc in
      (bound s c (ap (is_below n) (sym same)) t, subst (AllNamesBelow n) e k)
  below_entered (cons (comp s vs) ts) us c h e t k =
      let same : Comp (record { 0 = s }) (count vs) ≡ c = cc in
      let parts = all_below-split vs ts (subst (AllNamesBelow n) e k) in
      ((bound s c (ap (is_below n) (sym same)) t, parts.0), parts.1)

  pub entered_below : (ts us : Trees ℕ) → us ≡ entered ts → AllNamesBelow n ts → AllNamesBelow n us
  entered_below ts us e k = subst (AllNamesBelow n) (sym e) (by ts k)
    where
      by : (ts : Trees ℕ) → AllNamesBelow n ts → AllNamesBelow n (entered ts)
      by nil k = tt
      by (cons (var m) ts) k = k.1
      by (cons (int z) ts) k = k.1
      by (cons (atom s) ts) k = k.1
      by (cons (comp s vs) ts) k = all_below-append vs ts k.0.1 k.1

  less_test : (s : ℕ) → nat_lt s n ≡ false → s < n → ⊥
  less_test s e h = let le : n ≤ s = ltb-false s n e in omega arith

  pub not_below : (ts : Trees ℕ) (c : Cell) → first_cell ts ≡ Some c → is_below n c ≡ false → AllNamesBelow n ts → ⊥
  not_below nil c h t k = absurd (cc)
  not_below (cons (var m) ts) c h t k = let same : Var m ≡ c = cc in false≢true (sym t ∙ ap (is_below n) (sym same))
  not_below (cons (int z) ts) c h t k = let same : Int z ≡ c = cc in false≢true (sym t ∙ ap (is_below n) (sym same))
  not_below (cons (atom s) ts) c h t k = let same : Name (record { 0 = s }) ≡ c = cc in less_test s (ap (is_below n) same ∙ t) k.0
  not_below (cons (comp s vs) ts) c h t k = let same : Comp (record { 0 = s }) (count vs) ≡ c = cc in less_test s (ap (is_below n) same ∙ t) k.0.0

  pub below_none : (ts : Trees ℕ) → first_cell ts ≡ None → AllNamesBelow n ts
  below_none nil h = tt
  below_none (cons (var m) ts) h = absurd (cc)
  below_none (cons (int z) ts) h = absurd (cc)
  below_none (cons (atom s) ts) h = absurd (cc)
  below_none (cons (comp s vs) ts) h = absurd (cc)

  -- the names of the first cell
  pub name_below : (ts us : Trees ℕ) (c : Option Cell) (s : NameId) → us ≡ ts → c ≡ first_cell us → c ≡ Some (Name s) → AllNamesBelow n ts → s.0 < n
  name_below nil us c s same e is k = let empty : ◌≡◌ {A = Option Cell} None (Some (Name s)) = sym (e ∙ ap first_cell same) ∙ is in absurd (cc)
  name_below (cons (var m) ts) us c s same e is k = let other : Some (Var m) ≡ Some (Name s) = sym (e ∙ ap first_cell same) ∙ is in absurd (cc)
  name_below (cons (int z) ts) us c s same e is k = let other : Some (Int z) ≡ Some (Name s) = sym (e ∙ ap first_cell same) ∙ is in absurd (cc)
  name_below (cons (atom r) ts) us c s same e is k = let that : Some (Name (record { 0 = r })) ≡ Some (Name s) = sym (e ∙ ap first_cell same) ∙ is in let number : r ≡ s.0 = cc in subst (λ m. m < n) number k.0
  name_below (cons (comp r vs) ts) us c s same e is k = let other : Some (Comp (record { 0 = r }) (count vs)) ≡ Some (Name s) = sym (e ∙ ap first_cell same) ∙ is in absurd (cc)

  pub functor_below : (ts us : Trees ℕ) (c : Option Cell) (s : NameId) (a : ℕ) → us ≡ ts → c ≡ first_cell us → c ≡ Some (Comp s a) → AllNamesBelow n ts → s.0 < n
  functor_below nil us c s a same e is k = let empty : ◌≡◌ {A = Option Cell} None (Some (Comp s a)) = sym (e ∙ ap first_cell same) ∙ is in absurd (cc)
  functor_below (cons (var m) ts) us c s a same e is k = let other : Some (Var m) ≡ Some (Comp s a) = sym (e ∙ ap first_cell same) ∙ is in absurd (cc)
  functor_below (cons (int z) ts) us c s a same e is k = let other : Some (Int z) ≡ Some (Comp s a) = sym (e ∙ ap first_cell same) ∙ is in absurd (cc)
  functor_below (cons (atom r) ts) us c s a same e is k = let other : Some (Name (record { 0 = r })) ≡ Some (Comp s a) = sym (e ∙ ap first_cell same) ∙ is in absurd (cc)
  functor_below (cons (comp r vs) ts) us c s a same e is k = let that : Some (Comp (record { 0 = r }) (count vs)) ≡ Some (Comp s a) = sym (e ∙ ap first_cell same) ∙ is in let number : r ≡ s.0 = cc in subst (λ m. m < n) number k.0.0

  -- one cell further
  pub record Passed (start ts us : Trees ℕ) : Type 0 where
    pub up : AllNamesBelow n us → AllNamesBelow n start
    pub down : AllNamesBelow n start → AllNamesBelow n us

  pub passed : (start ts us : Trees ℕ) (len : ℕ) (c : Cell) (r : Bool) → (AllNamesBelow n ts → AllNamesBelow n start) → (AllNamesBelow n start → AllNamesBelow n ts)
      → Some c ≡ first_cell ts → us ≡ entered ts → len ≡ n → r ≡ is_below len c → r ≡ true → Passed start ts us
  passed start ts us len c r up down cell next e is t = record {
    up = λ h. up (below_entered ts us c (sym cell) next (ap (λ m. is_below m c) (sym e) ∙ sym is ∙ t) h);
    down = λ h. entered_below ts us next (down h);
  }
