-- What rows do with numbers for names, and with texts.
use Rattle.std.proofs.Common.{◌≡◌, ◌∙◌, ℕ, ℤ, zero, suc, pos, negsuc, ◌+◌, List, [], ◌∷◌, ◌++◌, length, map, codes, nat_eq, nat_lt, Bool, true, false, if◌then◌else◌, Option, Some, None, Result, Ok, Err, refl, ap, sym}
use Rattle.std.proofs.lemmas.List.{length-map}
use Rattle.std.specs.declared.cmp.Ordering.{Ordering}
use Rattle.std.specs.declared.cmp.Ordering.TheVariants.{Less, Equal, Greater}
use Rattle.std.specs.Ordering.{nat_cmp, ordering_then}
use Rattle.pl_atoms.specs.Names.{same_text}
use Rattle.pl_ops.specs.Tables.{operator}
use Rattle.pl_ops.specs.Standard.{standard}
use Rattle.pl_terms.specs.Trees.{Tree, Trees, var, int, atom, comp, nil, cons, count, renamed, all_renamed}
use Rattle.pl_terms.specs.Order.{trees_cmp, text_cmp}
use Rattle.pl_terms.specs.Occurrence.{occurrences, all_occurrences, variables, first_after, place_of, numbered_by, all_numbered_by, canon}
use Rattle.text_model.specs.Writing.{written}
use Rattle.value_model.specs.declared.Operation.{Operation}
use Rattle.value_model.specs.declared.Operation.TheVariants.{One, Two}
use Rattle.value_model.specs.declared.EvalFault.{EvalFault}
use Rattle.value_model.specs.Value.{apply_one, apply_two, operation_of}
use Rattle.builtin_model.specs.declared.error.Expected.TheVariants as E
use Rattle.builtin_model.specs.declared.error.Domain.TheVariants as D
use Rattle.builtin_model.specs.declared.row.Row.{Row}
use Rattle.builtin_model.specs.declared.row.Row.TheVariants as R
use Rattle.builtin_model.specs.declared.row.TypeTest.{TypeTest}
use Rattle.builtin_model.specs.declared.row.TypeTest.TheVariants as T
use Rattle.builtin_model.specs.declared.row.Relation.{Relation}
use Rattle.builtin_model.specs.Naming.{Naming, by_texts}
use Rattle.builtin_model.specs.Faults.{Fault, type_fault, domain_fault, max_arity, not_evaluable}
use Rattle.builtin_model.specs.Lists.{Listing, proper, partial, improper, before, listing, list_tree, arguments, listed, variables_from}
use Rattle.builtin_model.specs.Values.{Valued, operated, combined, value, values}
use Rattle.builtin_model.specs.Deeds.{equal, raise, yes, unify, whether, passes, is_ground, order_holds, holds, with_arity, made_by_name, functor_deed, nth, arg_deed, made_by_items, made_by_list, copy_deed, assigned, related, halt_deed, order_text, is_order, is_character, order, ordered, compare_deed, univ_deed, put_deed, deed}
use Rattle.builtin_model.specs.Output.{put_text, output}
use Rattle.builtin_model.specs.Renaming.{fault_renamed, deed_renamed, WritesNames}

module _ {N M : Type 0} (f : N → M) where
  pub count-renamed : (ts : Trees N) → count (all_renamed f ts) ≡ count ts
  count-renamed nil = refl
  count-renamed (cons t ts) = ap suc (count-renamed ts)

  mutual
    pub occurrences-renamed : (t : Tree N) → occurrences (renamed f t) ≡ occurrences t
    occurrences-renamed (var n) = refl
    occurrences-renamed (int z) = refl
    occurrences-renamed (atom a) = refl
    occurrences-renamed (comp g ts) = all_occurrences-renamed ts

    all_occurrences-renamed : (ts : Trees N) → all_occurrences (all_renamed f ts) ≡ all_occurrences ts
    all_occurrences-renamed nil = refl
    all_occurrences-renamed (cons t ts) = ap (λ l. l ++ all_occurrences (all_renamed f ts)) (occurrences-renamed t) ∙ ap (λ l. occurrences t ++ l) (all_occurrences-renamed ts)

  pub variables-renamed : (t : Tree N) → variables (renamed f t) ≡ variables t
  variables-renamed t = ap (first_after []) (occurrences-renamed t)

  module _ (g : ℕ → ℕ) where
    mutual
      pub numbered_by-renamed : (t : Tree N) → numbered_by g (renamed f t) ≡ renamed f (numbered_by g t)
      numbered_by-renamed (var n) = refl
      numbered_by-renamed (int z) = refl
      numbered_by-renamed (atom a) = refl
      numbered_by-renamed (comp h ts) = ap (comp (f h)) (all_numbered_by-renamed ts)

      all_numbered_by-renamed : (ts : Trees N) → all_numbered_by g (all_renamed f ts) ≡ all_renamed f (all_numbered_by g ts)
      all_numbered_by-renamed nil = refl
      all_numbered_by-renamed (cons t ts) =
          ap (λ u. cons u (all_numbered_by g (all_renamed f ts))) (numbered_by-renamed t)
          ∙ ap (cons (renamed f (numbered_by g t))) (all_numbered_by-renamed ts)

  pub canon-renamed : (t : Tree N) → canon (renamed f t) ≡ renamed f (canon t)
  canon-renamed t =
      ap (λ vs. numbered_by (λ n. place_of n vs) (renamed f t)) (variables-renamed t)
      ∙ numbered_by-renamed (λ n. place_of n (variables t)) t

  pub arguments-renamed : (ts : List (Tree N)) → all_renamed f (arguments ts) ≡ arguments (map (renamed f) ts)
  arguments-renamed [] = refl
  arguments-renamed (t ∷ ts) = ap (cons (renamed f t)) (arguments-renamed ts)

  pub listed-renamed : (ts : Trees N) → map (renamed f) (listed ts) ≡ listed (all_renamed f ts)
  listed-renamed nil = refl
  listed-renamed (cons t ts) = ap (λ l. renamed f t ∷ l) (listed-renamed ts)

  pub variables_from-renamed : (n k : ℕ) → map (renamed f) (variables_from n k) ≡ variables_from n k
  variables_from-renamed n zero = refl
  variables_from-renamed n (suc k) = ap (λ l. var n ∷ l) (variables_from-renamed (suc n) k)

  pub vars-renamed : (ns : List ℕ) → map (renamed f) (map var ns) ≡ map var ns
  vars-renamed [] = refl
  vars-renamed (n ∷ ns) = ap (λ l. var n ∷ l) (vars-renamed ns)

  -- rows that look at no names
  whether-renamed : (b : Bool) → deed_renamed f (whether b) ≡ whether b
  whether-renamed true = refl
  whether-renamed false = refl

  passes-renamed : (test : TypeTest) (t : Tree N) → passes test t ≡ passes test (renamed f t)
  passes-renamed T.Var (var n) = refl
  passes-renamed T.Var (int z) = refl
  passes-renamed T.Var (atom a) = refl
  passes-renamed T.Var (comp g ts) = refl
  passes-renamed T.Nonvar (var n) = refl
  passes-renamed T.Nonvar (int z) = refl
  passes-renamed T.Nonvar (atom a) = refl
  passes-renamed T.Nonvar (comp g ts) = refl
  passes-renamed T.Atom (var n) = refl
  passes-renamed T.Atom (int z) = refl
  passes-renamed T.Atom (atom a) = refl
  passes-renamed T.Atom (comp g ts) = refl
  passes-renamed T.Integer (var n) = refl
  passes-renamed T.Integer (int z) = refl
  passes-renamed T.Integer (atom a) = refl
  passes-renamed T.Integer (comp g ts) = refl
  passes-renamed T.Number (var n) = refl
  passes-renamed T.Number (int z) = refl
  passes-renamed T.Number (atom a) = refl
  passes-renamed T.Number (comp g ts) = refl
  passes-renamed T.Float (var n) = refl
  passes-renamed T.Float (int z) = refl
  passes-renamed T.Float (atom a) = refl
  passes-renamed T.Float (comp g ts) = refl
  passes-renamed T.Atomic (var n) = refl
  passes-renamed T.Atomic (int z) = refl
  passes-renamed T.Atomic (atom a) = refl
  passes-renamed T.Atomic (comp g ts) = refl
  passes-renamed T.Compound (var n) = refl
  passes-renamed T.Compound (int z) = refl
  passes-renamed T.Compound (atom a) = refl
  passes-renamed T.Compound (comp g ts) = refl
  passes-renamed T.Callable (var n) = refl
  passes-renamed T.Callable (int z) = refl
  passes-renamed T.Callable (atom a) = refl
  passes-renamed T.Callable (comp g ts) = refl

  with_arity-renamed : (t name : Tree N) (k next : ℕ) → deed_renamed f (with_arity t name k next) ≡ with_arity (renamed f t) (renamed f name) k next
  with_arity-renamed t name zero next = refl
  with_arity-renamed t (var n) (suc k) next = refl
  with_arity-renamed t (int z) (suc k) next = refl
  with_arity-renamed t (atom a) (suc k) next =
      ap (λ ts. equal ((renamed f t, comp (f a) ts) ∷ []) (suc k)) (arguments-renamed (variables_from next (suc k)) ∙ ap arguments (variables_from-renamed next (suc k)))
  with_arity-renamed t (comp g ts) (suc k) next = refl

  sized-renamed : (b : Bool) (t name : Tree N) (k next : ℕ) → deed_renamed f (if b then raise max_arity else with_arity t name k next) ≡ (if b then raise max_arity else with_arity (renamed f t) (renamed f name) k next)
  sized-renamed true t name k next = refl
  sized-renamed false t name k next = with_arity-renamed t name k next

  made_by_name-renamed : (t name k : Tree N) (next : ℕ) → deed_renamed f (made_by_name t name k next) ≡ made_by_name (renamed f t) (renamed f name) (renamed f k) next
  made_by_name-renamed t (var m) k next = refl
  made_by_name-renamed t (int z) (var m) next = refl
  made_by_name-renamed t (int z) (int (pos k)) next = sized-renamed (nat_lt 255 k) t (int z) k next
  made_by_name-renamed t (int z) (int (negsuc k)) next = refl
  made_by_name-renamed t (int z) (atom a) next = refl
  made_by_name-renamed t (int z) (comp g ts) next = refl
  made_by_name-renamed t (atom b) (var m) next = refl
  made_by_name-renamed t (atom b) (int (pos k)) next = sized-renamed (nat_lt 255 k) t (atom b) k next
  made_by_name-renamed t (atom b) (int (negsuc k)) next = refl
  made_by_name-renamed t (atom b) (atom a) next = refl
  made_by_name-renamed t (atom b) (comp g ts) next = refl
  made_by_name-renamed t (comp h us) (var m) next = refl
  made_by_name-renamed t (comp h us) (int z) next = refl
  made_by_name-renamed t (comp h us) (atom a) next = refl
  made_by_name-renamed t (comp h us) (comp g ts) next = refl

  functor_deed-renamed : (t name k : Tree N) (next : ℕ) → deed_renamed f (functor_deed t name k next) ≡ functor_deed (renamed f t) (renamed f name) (renamed f k) next
  functor_deed-renamed (var n) name k next = made_by_name-renamed (var n) name k next
  functor_deed-renamed (int z) name k next = refl
  functor_deed-renamed (atom a) name k next = refl
  functor_deed-renamed (comp g ts) name k next = ap (λ c. equal ((renamed f name, atom (f g)) ∷ (renamed f k, int (pos c)) ∷ []) 0) (sym (count-renamed ts))

  nth-renamed : (ts : List (Tree N)) (k : ℕ) (a : Tree N) → deed_renamed f (nth ts k a) ≡ nth (map (renamed f) ts) k (renamed f a)
  nth-renamed [] k a = refl
  nth-renamed (t ∷ ts) zero a = refl
  nth-renamed (t ∷ ts) (suc zero) a = refl
  nth-renamed (t ∷ ts) (suc (suc k)) a = nth-renamed ts (suc k) a

  arg_deed-renamed : (k t a : Tree N) → deed_renamed f (arg_deed k t a) ≡ arg_deed (renamed f k) (renamed f t) (renamed f a)
  arg_deed-renamed (var m) t a = refl
  arg_deed-renamed (int z) (var m) a = refl
  arg_deed-renamed (int (pos k)) (comp g ts) a = nth-renamed (listed ts) k a ∙ ap (λ l. nth l k (renamed f a)) (listed-renamed ts)
  arg_deed-renamed (int (negsuc k)) (comp g ts) a = refl
  arg_deed-renamed (int z) (int y) a = refl
  arg_deed-renamed (int z) (atom b) a = refl
  arg_deed-renamed (atom b) (var m) a = refl
  arg_deed-renamed (atom b) (int y) a = refl
  arg_deed-renamed (atom b) (atom c) a = refl
  arg_deed-renamed (atom b) (comp g ts) a = refl
  arg_deed-renamed (comp h us) (var m) a = refl
  arg_deed-renamed (comp h us) (int y) a = refl
  arg_deed-renamed (comp h us) (atom c) a = refl
  arg_deed-renamed (comp h us) (comp g ts) a = refl

  -- a list with other names
  abbrev pub listing_renamed : Listing N → Listing M
  listing_renamed (proper ts) = proper (map (renamed f) ts)
  listing_renamed partial = partial
  listing_renamed improper = improper

  many-renamed : (b : Bool) (t : Tree N) (g : N) (u : Tree N) (us : List (Tree N))
      → deed_renamed f (if b then raise max_arity else unify t (comp g (arguments (u ∷ us)))) ≡ (if b then raise max_arity else unify (renamed f t) (comp (f g) (arguments (map (renamed f) (u ∷ us)))))
  many-renamed true t g u us = refl
  many-renamed false t g u us = ap (λ ts. unify (renamed f t) (comp (f g) ts)) (arguments-renamed (u ∷ us))

  made_by_items-renamed : (t h : Tree N) (ts : List (Tree N)) → deed_renamed f (made_by_items t h ts) ≡ made_by_items (renamed f t) (renamed f h) (map (renamed f) ts)
  made_by_items-renamed t (var m) ts = refl
  made_by_items-renamed t (comp g us) ts = refl
  made_by_items-renamed t (int z) [] = refl
  made_by_items-renamed t (int z) (u ∷ us) = refl
  made_by_items-renamed t (atom g) [] = refl
  made_by_items-renamed t (atom g) (u ∷ us) =
      many-renamed (nat_lt 255 (length (u ∷ us))) t g u us
      ∙ ap (λ k. if nat_lt 255 (suc k) then raise max_arity else unify (renamed f t) (comp (f g) (arguments (map (renamed f) (u ∷ us))))) (sym (length-map us (renamed f)))

  copy_deed-renamed : (t u : Tree N) (next : ℕ) → deed_renamed f (copy_deed t u next) ≡ copy_deed (renamed f t) (renamed f u) next
  copy_deed-renamed t u next =
      ap (λ c. equal ((renamed f u, c) ∷ []) (length (variables t))) (sym (numbered_by-renamed (λ m. m + next) (canon t)) ∙ ap (numbered_by (λ m. m + next)) (sym (canon-renamed t)))
      ∙ ap (λ vs. equal ((renamed f u, numbered_by (λ m. m + next) (canon (renamed f t))) ∷ []) (length vs)) (sym (variables-renamed t))

  halt_deed-renamed : (t : Tree N) → deed_renamed f (halt_deed t) ≡ halt_deed (renamed f t)
  halt_deed-renamed (var m) = refl
  halt_deed-renamed (int z) = refl
  halt_deed-renamed (atom a) = refl
  halt_deed-renamed (comp g ts) = refl

  made_by_list-renamed : (t l : Tree N) (ls : Listing N) → deed_renamed f (made_by_list t l ls) ≡ made_by_list (renamed f t) (renamed f l) (listing_renamed ls)
  made_by_list-renamed t l (proper []) = refl
  made_by_list-renamed t l (proper (h ∷ ts)) = made_by_items-renamed t h ts
  made_by_list-renamed t l partial = refl
  made_by_list-renamed t l improper = refl

  before-renamed : (t : Tree N) (l : Listing N) → listing_renamed (before t l) ≡ before (renamed f t) (listing_renamed l)
  before-renamed t (proper ts) = refl
  before-renamed t partial = refl
  before-renamed t improper = refl

  -- values
  abbrev pub valued_renamed : Valued N → Valued M
  valued_renamed (Ok z) = Ok z
  valued_renamed (Err e) = Err (fault_renamed f e)

  operated-renamed : (r : Result ℤ EvalFault) → valued_renamed (operated r) ≡ operated r
  operated-renamed (Ok z) = refl
  operated-renamed (Err e) = refl

  combined-renamed : (e : Fault N) (op : Option Operation) (vs : List (Valued N)) → valued_renamed (combined e op vs) ≡ combined (fault_renamed f e) op (map valued_renamed vs)
  combined-renamed e None vs = refl
  combined-renamed e (Some (One op)) [] = refl
  combined-renamed e (Some (One op)) (Ok x ∷ vs) = operated-renamed (apply_one op x)
  combined-renamed e (Some (One op)) (Err g ∷ vs) = refl
  combined-renamed e (Some (Two op)) [] = refl
  combined-renamed e (Some (Two op)) (v ∷ []) = refl
  combined-renamed e (Some (Two op)) (Ok x ∷ Ok y ∷ vs) = operated-renamed (apply_two op x y)
  combined-renamed e (Some (Two op)) (Ok x ∷ Err g ∷ vs) = refl
  combined-renamed e (Some (Two op)) (Err g ∷ w ∷ vs) = refl

  assigned-renamed : (t : Tree N) (v : Valued N) → deed_renamed f (assigned t v) ≡ assigned (renamed f t) (valued_renamed v)
  assigned-renamed t (Ok z) = refl
  assigned-renamed t (Err e) = refl

  related-renamed : (r : Relation) (v w : Valued N) → deed_renamed f (related r v w) ≡ related r (valued_renamed v) (valued_renamed w)
  related-renamed r (Ok x) (Ok y) = whether-renamed (holds r x y)
  related-renamed r (Ok x) (Err e) = refl
  related-renamed r (Err e) (Ok y) = refl
  related-renamed r (Err e) (Err g) = refl

-- ---- rows that look at names
module _ {N : Type 0} (n : Naming N) where
  abbrev texts : Tree N → Tree (List ℕ)
  texts = renamed n.text

  mutual
    value-texts : (t : Tree N) → valued_renamed n.text (value n t) ≡ value by_texts (texts t)
    value-texts (var m) = refl
    value-texts (int z) = refl
    value-texts (atom a) = refl
    value-texts (comp g ts) =
        combined-renamed n.text (not_evaluable g (count ts)) (operation_of (n.text g) (count ts)) (values n ts)
        ∙ ap (combined (not_evaluable (n.text g) (count ts)) (operation_of (n.text g) (count ts))) (values-texts ts)
        ∙ ap (λ k. combined (not_evaluable (n.text g) k) (operation_of (n.text g) k) (values by_texts (all_renamed n.text ts))) (sym (count-renamed n.text ts))

    values-texts : (ts : Trees N) → map (valued_renamed n.text) (values n ts) ≡ values by_texts (all_renamed n.text ts)
    values-texts nil = refl
    values-texts (cons t ts) =
        ap (λ v. v ∷ map (valued_renamed n.text) (values n ts)) (value-texts t)
        ∙ ap (λ vs. value by_texts (texts t) ∷ vs) (values-texts ts)

  mutual
    order-texts : (t u : Tree N) → order by_texts (texts t) (texts u) ≡ order n t u
    order-texts (var m) (var k) = refl
    order-texts (var m) (int y) = refl
    order-texts (var m) (atom b) = refl
    order-texts (var m) (comp h us) = refl
    order-texts (int z) (var k) = refl
    order-texts (int z) (int y) = refl
    order-texts (int z) (atom b) = refl
    order-texts (int z) (comp h us) = refl
    order-texts (atom a) (var k) = refl
    order-texts (atom a) (int y) = refl
    order-texts (atom a) (atom b) = refl
    order-texts (atom a) (comp h us) = refl
    order-texts (comp g ts) (var k) = refl
    order-texts (comp g ts) (int y) = refl
    order-texts (comp g ts) (atom b) = refl
    order-texts (comp g ts) (comp h us) =
        ap (λ k. ordering_then (nat_cmp k (count (all_renamed n.text us))) (ordering_then (text_cmp (n.text g) (n.text h)) (trees_cmp text_cmp (all_renamed n.text ts) (all_renamed n.text us)))) (count-renamed n.text ts)
        ∙ ap (λ k. ordering_then (nat_cmp (count ts) k) (ordering_then (text_cmp (n.text g) (n.text h)) (trees_cmp text_cmp (all_renamed n.text ts) (all_renamed n.text us)))) (count-renamed n.text us)
        ∙ ap (λ o. ordering_then (nat_cmp (count ts) (count us)) (ordering_then (text_cmp (n.text g) (n.text h)) o)) (orders-texts ts us)

    orders-texts : (ts us : Trees N) → trees_cmp text_cmp (all_renamed n.text ts) (all_renamed n.text us) ≡ trees_cmp (λ a b. text_cmp (n.text a) (n.text b)) ts us
    orders-texts nil nil = refl
    orders-texts nil (cons u us) = refl
    orders-texts (cons t ts) nil = refl
    orders-texts (cons t ts) (cons u us) =
        ap (λ o. ordering_then o (trees_cmp text_cmp (all_renamed n.text ts) (all_renamed n.text us))) (order-texts t u)
        ∙ ap (ordering_then (order n t u)) (orders-texts ts us)

  listing-atom : (b : Bool) → listing_renamed n.text (if b then proper [] else improper) ≡ (if b then proper [] else improper)
  listing-atom true = refl
  listing-atom false = refl

  listing-pair : (b : Bool) (h : Tree N) (l : Listing N) → listing_renamed n.text (if b then before h l else improper) ≡ (if b then before (texts h) (listing_renamed n.text l) else improper)
  listing-pair true h l = before-renamed n.text h l
  listing-pair false h l = refl

  listing-texts : (t : Tree N) → listing_renamed n.text (listing n t) ≡ listing by_texts (texts t)
  listing-texts (var m) = refl
  listing-texts (int z) = refl
  listing-texts (atom a) = listing-atom (same_text (n.text a) (codes "[]"))
  listing-texts (comp g nil) = refl
  listing-texts (comp g (cons h nil)) = refl
  listing-texts (comp g (cons h (cons t nil))) =
      listing-pair (same_text (n.text g) (codes ".")) h (listing n t)
      ∙ ap (λ l. if same_text (n.text g) (codes ".") then before (texts h) l else improper) (listing-texts t)
  listing-texts (comp g (cons h (cons t (cons u us)))) = refl

  put_deed-texts : (t : Tree N) → deed_renamed n.text (put_deed n t) ≡ put_deed by_texts (texts t)
  put_deed-texts (var m) = refl
  put_deed-texts (int z) = refl
  put_deed-texts (atom a) = by (is_character (n.text a))
    where
      by : (b : Bool) → deed_renamed n.text (if b then yes else raise (type_fault E.Character (atom a))) ≡ (if b then yes else raise (type_fault E.Character (atom (n.text a))))
      by true = refl
      by false = refl
  put_deed-texts (comp g ts) = refl

  -- with the names that rows write
  module _ (w : WritesNames n) where
    list_tree-texts : (ts : List (Tree N)) → texts (list_tree n ts) ≡ list_tree by_texts (map texts ts)
    list_tree-texts [] = ap atom w.empty
    list_tree-texts (t ∷ ts) =
        ap (λ d. comp d (cons (texts t) (cons (texts (list_tree n ts)) nil))) w.dot
        ∙ ap (λ r. comp (codes ".") (cons (texts t) (cons r nil))) (list_tree-texts ts)

    order_text-texts : (o : Ordering) → n.text (n.name (order_text o)) ≡ order_text o
    order_text-texts Less = w.less
    order_text-texts Equal = w.same
    order_text-texts Greater = w.greater

    ordered-texts : (t : Tree N) (o : Ordering) → deed_renamed n.text (ordered n t o) ≡ ordered by_texts (texts t) o
    ordered-texts t o = ap (λ s. unify (texts t) (atom s)) (order_text-texts o)

    compare_deed-texts : (t : Tree N) (o : Ordering) → deed_renamed n.text (compare_deed n t o) ≡ compare_deed by_texts (texts t) o
    compare_deed-texts (var m) o = ordered-texts (var m) o
    compare_deed-texts (int z) o = refl
    compare_deed-texts (atom a) o = by (is_order (n.text a))
      where
        by : (b : Bool) → deed_renamed n.text (if b then ordered n (atom a) o else raise (domain_fault D.Order (atom a))) ≡ (if b then ordered by_texts (atom (n.text a)) o else raise (domain_fault D.Order (atom (n.text a))))
        by true = ordered-texts (atom a) o
        by false = refl
    compare_deed-texts (comp g ts) o = refl

    univ_deed-texts : (t l : Tree N) → deed_renamed n.text (univ_deed n t l) ≡ univ_deed by_texts (texts t) (texts l)
    univ_deed-texts (var m) l = made_by_list-renamed n.text (var m) l (listing n l) ∙ ap (made_by_list (var m) (texts l)) (listing-texts l)
    univ_deed-texts (int z) l = ap (unify (texts l)) (list_tree-texts (int z ∷ []))
    univ_deed-texts (atom a) l = ap (unify (texts l)) (list_tree-texts (atom a ∷ []))
    univ_deed-texts (comp g ts) l =
        ap (unify (texts l)) (list_tree-texts (atom g ∷ listed ts))
        ∙ ap (λ us. unify (texts l) (list_tree by_texts (atom (n.text g) ∷ us))) (listed-renamed n.text ts)

    variables_deed-texts : (t l : Tree N) → deed_renamed n.text (unify l (list_tree n (map var (variables t)))) ≡ unify (texts l) (list_tree by_texts (map var (variables (texts t))))
    variables_deed-texts t l =
        ap (unify (texts l)) (list_tree-texts (map var (variables t)) ∙ ap (list_tree by_texts) (vars-renamed n.text (variables t)))
        ∙ ap (λ vs. unify (texts l) (list_tree by_texts (map var vs))) (sym (variables-renamed n.text t))

    pub deed-texts : (row : Row) (ts : List (Tree N)) (caller : N) (next : ℕ) → deed_renamed n.text (deed n row ts caller next) ≡ deed by_texts row (map texts ts) (n.text caller) next
    deed-texts R.Unify (t ∷ u ∷ []) caller next = refl
    deed-texts R.NotUnifiable (t ∷ u ∷ []) caller next = refl
    deed-texts (R.Type test) (t ∷ []) caller next = whether-renamed n.text (passes test t) ∙ ap whether (passes-renamed n.text test t)
    deed-texts R.Ground (t ∷ []) caller next = whether-renamed n.text (is_ground t) ∙ ap (λ vs. whether (nat_eq (length vs) 0)) (sym (variables-renamed n.text t))
    deed-texts (R.Order test) (t ∷ u ∷ []) caller next = whether-renamed n.text (order_holds test (order n t u)) ∙ ap (λ o. whether (order_holds test o)) (sym (order-texts t u))
    deed-texts R.Compare (o ∷ t ∷ u ∷ []) caller next = compare_deed-texts o (order n t u) ∙ ap (compare_deed by_texts (texts o)) (sym (order-texts t u))
    deed-texts R.Functor (t ∷ name ∷ k ∷ []) caller next = functor_deed-renamed n.text t name k next
    deed-texts R.Arg (k ∷ t ∷ a ∷ []) caller next = arg_deed-renamed n.text k t a
    deed-texts R.Univ (t ∷ l ∷ []) caller next = univ_deed-texts t l
    deed-texts R.CopyTerm (t ∷ u ∷ []) caller next = copy_deed-renamed n.text t u next
    deed-texts R.TermVariables (t ∷ l ∷ []) caller next = variables_deed-texts t l
    deed-texts R.Is (t ∷ e ∷ []) caller next = assigned-renamed n.text t (value n e) ∙ ap (assigned (texts t)) (value-texts e)
    deed-texts (R.Value r) (t ∷ u ∷ []) caller next =
        related-renamed n.text r (value n t) (value n u)
        ∙ ap (λ v. related r v (valued_renamed n.text (value n u))) (value-texts t)
        ∙ ap (related r (value by_texts (texts t))) (value-texts u)
    deed-texts R.PutChar (t ∷ []) caller next = put_deed-texts t
    deed-texts R.HaltWith (t ∷ []) caller next = halt_deed-renamed n.text t
    deed-texts R.NewLine [] caller next = refl
    deed-texts (R.Write q) (t ∷ []) caller next = refl
    deed-texts R.CallingContext (t ∷ []) caller next = refl
    deed-texts R.True [] caller next = refl
    deed-texts R.Fail [] caller next = refl
    deed-texts R.Halt [] caller next = refl
    deed-texts _ _ caller next = refl

-- texts of texts are themselves
mutual
  renamed-same : (t : Tree (List ℕ)) → renamed (λ s. s) t ≡ t
  renamed-same (var n) = refl
  renamed-same (int z) = refl
  renamed-same (atom a) = refl
  renamed-same (comp g ts) = ap (comp g) (all_renamed-same ts)

  all_renamed-same : (ts : Trees (List ℕ)) → all_renamed (λ s. s) ts ≡ ts
  all_renamed-same nil = refl
  all_renamed-same (cons t ts) = ap (λ u. cons u (all_renamed (λ s. s) ts)) (renamed-same t) ∙ ap (cons t) (all_renamed-same ts)

module _ {N : Type 0} (n : Naming N) where
  put_text-texts : (t : Tree N) → put_text n t ≡ put_text by_texts (renamed n.text t)
  put_text-texts (var m) = refl
  put_text-texts (int z) = refl
  put_text-texts (atom a) = refl
  put_text-texts (comp g ts) = refl

  pub output-texts : (row : Row) (ts : List (Tree N)) → output n row ts ≡ output by_texts row (map (renamed n.text) ts)
  output-texts R.NewLine [] = refl
  output-texts R.PutChar (t ∷ []) = put_text-texts t
  output-texts (R.Write q) (t ∷ []) = ap (written (operator standard) q 1200) (sym (renamed-same (renamed n.text t)))
  output-texts _ _ = refl
