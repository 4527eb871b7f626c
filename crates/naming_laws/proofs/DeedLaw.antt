-- What rows do under other names.
use Rattle.std.proofs.Common.{◌≡◌, ◌∙◌, ℕ, ℤ, zero, suc, pos, negsuc, ◌+◌, List, [], ◌∷◌, length, map, codes, nat_eq, nat_lt, Bool, true, false, if◌then◌else◌, Option, Some, None, Result, Ok, Err, refl, ap, sym}
use Rattle.std.proofs.lemmas.List.{length-map}
use Rattle.std.specs.declared.cmp.Ordering.{Ordering}
use Rattle.std.specs.declared.cmp.Ordering.TheVariants.{Less, Equal, Greater}
use Rattle.std.specs.Ordering.{nat_cmp, ordering_then}
use Rattle.pl_atoms.specs.Names.{same_text}
use Rattle.pl_ops.specs.Tables.{operator}
use Rattle.pl_ops.specs.Standard.{standard}
use Rattle.pl_terms.specs.Trees.{Tree, Trees, var, int, atom, comp, nil, cons, count, renamed, all_renamed}
use Rattle.pl_terms.specs.Order.{trees_cmp, text_cmp}
use Rattle.pl_terms.specs.Occurrence.{variables, numbered_by, canon}
use Rattle.text_model.specs.Writing.{written}
use Rattle.value_model.specs.declared.Operation.{Operation}
use Rattle.value_model.specs.declared.Operation.TheVariants.{One, Two}
use Rattle.value_model.specs.declared.EvalFault.{EvalFault}
use Rattle.value_model.specs.Value.{apply_one, apply_two, operation_of}
use Rattle.builtin_model.specs.declared.error.Expected.TheVariants as E
use Rattle.builtin_model.specs.declared.error.Domain.TheVariants as D
use Rattle.builtin_model.specs.declared.row.Row.{Row}
use Rattle.builtin_model.specs.declared.row.Row.TheVariants as R
use Rattle.builtin_model.specs.declared.row.TypeTest.{TypeTest}
use Rattle.builtin_model.specs.declared.row.TypeTest.TheVariants as T
use Rattle.builtin_model.specs.declared.row.Relation.{Relation}
use Rattle.builtin_model.specs.Naming.{Naming}
use Rattle.builtin_model.specs.Faults.{Fault, type_fault, domain_fault, max_arity, not_evaluable}
use Rattle.builtin_model.specs.Lists.{Listing, proper, partial, improper, before, listing, list_tree, arguments, listed, variables_from}
use Rattle.builtin_model.specs.Values.{Valued, operated, combined, value, values}
use Rattle.builtin_model.specs.Deeds.{equal, raise, yes, unify, whether, passes, is_ground, order_holds, holds, with_arity, made_by_name, functor_deed, nth, arg_deed, made_by_items, made_by_list, copy_deed, assigned, related, halt_deed, order_text, is_order, is_character, order, ordered, compare_deed, univ_deed, put_deed, deed}
use Rattle.builtin_model.specs.Output.{put_text, output}
use Rattle.builtin_model.specs.Renaming.{fault_renamed, deed_renamed}
use Rattle.builtin_model.proofs.TextLaw.{count-renamed, variables-renamed, numbered_by-renamed, canon-renamed, arguments-renamed, listed-renamed, variables_from-renamed, vars-renamed}
use Rattle.naming_laws.specs.Translation.{Translates}

module _ {N M : Type 0} (f : N → M) where
  -- rows that look at no names
  whether-renamed : (b : Bool) → deed_renamed f (whether b) ≡ whether b
  whether-renamed true = refl
  whether-renamed false = refl

  passes-renamed : (test : TypeTest) (t : Tree N) → passes test t ≡ passes test (renamed f t)
  passes-renamed T.Var (var n) = refl
  passes-renamed T.Var (int z) = refl
  passes-renamed T.Var (atom a) = refl
  passes-renamed T.Var (comp g ts) = refl
  passes-renamed T.Nonvar (var n) = refl
  passes-renamed T.Nonvar (int z) = refl
  passes-renamed T.Nonvar (atom a) = refl
  passes-renamed T.Nonvar (comp g ts) = refl
  passes-renamed T.Atom (var n) = refl
  passes-renamed T.Atom (int z) = refl
  passes-renamed T.Atom (atom a) = refl
  passes-renamed T.Atom (comp g ts) = refl
  passes-renamed T.Integer (var n) = refl
  passes-renamed T.Integer (int z) = refl
  passes-renamed T.Integer (atom a) = refl
  passes-renamed T.Integer (comp g ts) = refl
  passes-renamed T.Number (var n) = refl
  passes-renamed T.Number (int z) = refl
  passes-renamed T.Number (atom a) = refl
  passes-renamed T.Number (comp g ts) = refl
  passes-renamed T.Float (var n) = refl
  passes-renamed T.Float (int z) = refl
  passes-renamed T.Float (atom a) = refl
  passes-renamed T.Float (comp g ts) = refl
  passes-renamed T.Atomic (var n) = refl
  passes-renamed T.Atomic (int z) = refl
  passes-renamed T.Atomic (atom a) = refl
  passes-renamed T.Atomic (comp g ts) = refl
  passes-renamed T.Compound (var n) = refl
  passes-renamed T.Compound (int z) = refl
  passes-renamed T.Compound (atom a) = refl
  passes-renamed T.Compound (comp g ts) = refl
  passes-renamed T.Callable (var n) = refl
  passes-renamed T.Callable (int z) = refl
  passes-renamed T.Callable (atom a) = refl
  passes-renamed T.Callable (comp g ts) = refl

  with_arity-renamed : (t name : Tree N) (k next : ℕ) → deed_renamed f (with_arity t name k next) ≡ with_arity (renamed f t) (renamed f name) k next
  with_arity-renamed t name zero next = refl
  with_arity-renamed t (var n) (suc k) next = refl
  with_arity-renamed t (int z) (suc k) next = refl
  with_arity-renamed t (atom a) (suc k) next =
      ap (λ ts. equal ((renamed f t, comp (f a) ts) ∷ []) (suc k)) (arguments-renamed f (variables_from next (suc k)) ∙ ap arguments (variables_from-renamed f next (suc k)))
  with_arity-renamed t (comp g ts) (suc k) next = refl

  sized-renamed : (b : Bool) (t name : Tree N) (k next : ℕ) → deed_renamed f (if b then raise max_arity else with_arity t name k next) ≡ (if b then raise max_arity else with_arity (renamed f t) (renamed f name) k next)
  sized-renamed true t name k next = refl
  sized-renamed false t name k next = with_arity-renamed t name k next

  made_by_name-renamed : (t name k : Tree N) (next : ℕ) → deed_renamed f (made_by_name t name k next) ≡ made_by_name (renamed f t) (renamed f name) (renamed f k) next
  made_by_name-renamed t (var v) k next = refl
  made_by_name-renamed t (int z) (var v) next = refl
  made_by_name-renamed t (int z) (int (pos k)) next = sized-renamed (nat_lt 255 k) t (int z) k next
  made_by_name-renamed t (int z) (int (negsuc k)) next = refl
  made_by_name-renamed t (int z) (atom a) next = refl
  made_by_name-renamed t (int z) (comp g ts) next = refl
  made_by_name-renamed t (atom b) (var v) next = refl
  made_by_name-renamed t (atom b) (int (pos k)) next = sized-renamed (nat_lt 255 k) t (atom b) k next
  made_by_name-renamed t (atom b) (int (negsuc k)) next = refl
  made_by_name-renamed t (atom b) (atom a) next = refl
  made_by_name-renamed t (atom b) (comp g ts) next = refl
  made_by_name-renamed t (comp h us) (var v) next = refl
  made_by_name-renamed t (comp h us) (int z) next = refl
  made_by_name-renamed t (comp h us) (atom a) next = refl
  made_by_name-renamed t (comp h us) (comp g ts) next = refl

  functor_deed-renamed : (t name k : Tree N) (next : ℕ) → deed_renamed f (functor_deed t name k next) ≡ functor_deed (renamed f t) (renamed f name) (renamed f k) next
  functor_deed-renamed (var n) name k next = made_by_name-renamed (var n) name k next
  functor_deed-renamed (int z) name k next = refl
  functor_deed-renamed (atom a) name k next = refl
  functor_deed-renamed (comp g ts) name k next = ap (λ c. equal ((renamed f name, atom (f g)) ∷ (renamed f k, int (pos c)) ∷ []) 0) (sym (count-renamed f ts))

  nth-renamed : (ts : List (Tree N)) (k : ℕ) (a : Tree N) → deed_renamed f (nth ts k a) ≡ nth (map (renamed f) ts) k (renamed f a)
  nth-renamed [] k a = refl
  nth-renamed (t ∷ ts) zero a = refl
  nth-renamed (t ∷ ts) (suc zero) a = refl
  nth-renamed (t ∷ ts) (suc (suc k)) a = nth-renamed ts (suc k) a

  arg_deed-renamed : (k t a : Tree N) → deed_renamed f (arg_deed k t a) ≡ arg_deed (renamed f k) (renamed f t) (renamed f a)
  arg_deed-renamed (var v) t a = refl
  arg_deed-renamed (int z) (var v) a = refl
  arg_deed-renamed (int (pos k)) (comp g ts) a = nth-renamed (listed ts) k a ∙ ap (λ l. nth l k (renamed f a)) (listed-renamed f ts)
  arg_deed-renamed (int (negsuc k)) (comp g ts) a = refl
  arg_deed-renamed (int z) (int y) a = refl
  arg_deed-renamed (int z) (atom b) a = refl
  arg_deed-renamed (atom b) (var v) a = refl
  arg_deed-renamed (atom b) (int y) a = refl
  arg_deed-renamed (atom b) (atom c) a = refl
  arg_deed-renamed (atom b) (comp g ts) a = refl
  arg_deed-renamed (comp h us) (var v) a = refl
  arg_deed-renamed (comp h us) (int y) a = refl
  arg_deed-renamed (comp h us) (atom c) a = refl
  arg_deed-renamed (comp h us) (comp g ts) a = refl

  -- a list with other names
  abbrev pub listing_renamed : Listing N → Listing M
  listing_renamed (proper ts) = proper (map (renamed f) ts)
  listing_renamed partial = partial
  listing_renamed improper = improper

  many-renamed : (b : Bool) (t : Tree N) (g : N) (u : Tree N) (us : List (Tree N))
      → deed_renamed f (if b then raise max_arity else unify t (comp g (arguments (u ∷ us)))) ≡ (if b then raise max_arity else unify (renamed f t) (comp (f g) (arguments (map (renamed f) (u ∷ us)))))
  many-renamed true t g u us = refl
  many-renamed false t g u us = ap (λ ts. unify (renamed f t) (comp (f g) ts)) (arguments-renamed f (u ∷ us))

  made_by_items-renamed : (t h : Tree N) (ts : List (Tree N)) → deed_renamed f (made_by_items t h ts) ≡ made_by_items (renamed f t) (renamed f h) (map (renamed f) ts)
  made_by_items-renamed t (var v) ts = refl
  made_by_items-renamed t (comp g us) ts = refl
  made_by_items-renamed t (int z) [] = refl
  made_by_items-renamed t (int z) (u ∷ us) = refl
  made_by_items-renamed t (atom g) [] = refl
  made_by_items-renamed t (atom g) (u ∷ us) =
      many-renamed (nat_lt 255 (length (u ∷ us))) t g u us
      ∙ ap (λ k. if nat_lt 255 (suc k) then raise max_arity else unify (renamed f t) (comp (f g) (arguments (map (renamed f) (u ∷ us))))) (sym (length-map us (renamed f)))

  copy_deed-renamed : (t u : Tree N) (next : ℕ) → deed_renamed f (copy_deed t u next) ≡ copy_deed (renamed f t) (renamed f u) next
  copy_deed-renamed t u next =
      ap (λ c. equal ((renamed f u, c) ∷ []) (length (variables t))) (sym (numbered_by-renamed f (λ v. v + next) (canon t)) ∙ ap (numbered_by (λ v. v + next)) (sym (canon-renamed f t)))
      ∙ ap (λ vs. equal ((renamed f u, numbered_by (λ v. v + next) (canon (renamed f t))) ∷ []) (length vs)) (sym (variables-renamed f t))

  halt_deed-renamed : (t : Tree N) → deed_renamed f (halt_deed t) ≡ halt_deed (renamed f t)
  halt_deed-renamed (var v) = refl
  halt_deed-renamed (int z) = refl
  halt_deed-renamed (atom a) = refl
  halt_deed-renamed (comp g ts) = refl

  made_by_list-renamed : (t l : Tree N) (ls : Listing N) → deed_renamed f (made_by_list t l ls) ≡ made_by_list (renamed f t) (renamed f l) (listing_renamed ls)
  made_by_list-renamed t l (proper []) = refl
  made_by_list-renamed t l (proper (h ∷ ts)) = made_by_items-renamed t h ts
  made_by_list-renamed t l partial = refl
  made_by_list-renamed t l improper = refl

  before-renamed : (t : Tree N) (l : Listing N) → listing_renamed (before t l) ≡ before (renamed f t) (listing_renamed l)
  before-renamed t (proper ts) = refl
  before-renamed t partial = refl
  before-renamed t improper = refl

  -- values
  abbrev pub valued_renamed : Valued N → Valued M
  valued_renamed (Ok z) = Ok z
  valued_renamed (Err e) = Err (fault_renamed f e)

  operated-renamed : (r : Result ℤ EvalFault) → valued_renamed (operated r) ≡ operated r
  operated-renamed (Ok z) = refl
  operated-renamed (Err e) = refl

  combined-renamed : (e : Fault N) (op : Option Operation) (vs : List (Valued N)) → valued_renamed (combined e op vs) ≡ combined (fault_renamed f e) op (map valued_renamed vs)
  combined-renamed e None vs = refl
  combined-renamed e (Some (One op)) [] = refl
  combined-renamed e (Some (One op)) (Ok x ∷ vs) = operated-renamed (apply_one op x)
  combined-renamed e (Some (One op)) (Err g ∷ vs) = refl
  combined-renamed e (Some (Two op)) [] = refl
  combined-renamed e (Some (Two op)) (v ∷ []) = refl
  combined-renamed e (Some (Two op)) (Ok x ∷ Ok y ∷ vs) = operated-renamed (apply_two op x y)
  combined-renamed e (Some (Two op)) (Ok x ∷ Err g ∷ vs) = refl
  combined-renamed e (Some (Two op)) (Err g ∷ w ∷ vs) = refl

  assigned-renamed : (t : Tree N) (v : Valued N) → deed_renamed f (assigned t v) ≡ assigned (renamed f t) (valued_renamed v)
  assigned-renamed t (Ok z) = refl
  assigned-renamed t (Err e) = refl

  related-renamed : (r : Relation) (v w : Valued N) → deed_renamed f (related r v w) ≡ related r (valued_renamed v) (valued_renamed w)
  related-renamed r (Ok x) (Ok y) = whether-renamed (holds r x y)
  related-renamed r (Ok x) (Err e) = refl
  related-renamed r (Err e) (Ok y) = refl
  related-renamed r (Err e) (Err g) = refl

-- ---- rows that look at names
module _ {N M : Type 0} (n : Naming N) (m : Naming M) (f : N → M) (tr : Translates n m f) where
  operation_at : (g : N) (k : ℕ) → operation_of (n.text g) k ≡ operation_of (m.text (f g)) k
  operation_at g k = ap (λ s. operation_of s k) (sym (tr.text g))

  mutual
    value-renamed : (t : Tree N) → valued_renamed f (value n t) ≡ value m (renamed f t)
    value-renamed (var v) = refl
    value-renamed (int z) = refl
    value-renamed (atom a) = refl
    value-renamed (comp g ts) =
        combined-renamed f (not_evaluable g (count ts)) (operation_of (n.text g) (count ts)) (values n ts)
        ∙ ap (λ o. combined (not_evaluable (f g) (count ts)) o (map (valued_renamed f) (values n ts))) (operation_at g (count ts))
        ∙ ap (combined (not_evaluable (f g) (count ts)) (operation_of (m.text (f g)) (count ts))) (values-renamed ts)
        ∙ ap (λ k. combined (not_evaluable (f g) k) (operation_of (m.text (f g)) k) (values m (all_renamed f ts))) (sym (count-renamed f ts))

    values-renamed : (ts : Trees N) → map (valued_renamed f) (values n ts) ≡ values m (all_renamed f ts)
    values-renamed nil = refl
    values-renamed (cons t ts) =
        ap (λ v. v ∷ map (valued_renamed f) (values n ts)) (value-renamed t) ∙ ap (λ vs. value m (renamed f t) ∷ vs) (values-renamed ts)

  compared : (a b : N) → text_cmp (m.text (f a)) (m.text (f b)) ≡ text_cmp (n.text a) (n.text b)
  compared a b = ap (λ s. text_cmp s (m.text (f b))) (tr.text a) ∙ ap (text_cmp (n.text a)) (tr.text b)

  abbrev compared_by : Naming M → M → M → Ordering
  compared_by m a b = text_cmp (m.text a) (m.text b)

  mutual
    order-renamed : (t u : Tree N) → order m (renamed f t) (renamed f u) ≡ order n t u
    order-renamed (var v) (var k) = refl
    order-renamed (var v) (int y) = refl
    order-renamed (var v) (atom b) = refl
    order-renamed (var v) (comp h us) = refl
    order-renamed (int z) (var k) = refl
    order-renamed (int z) (int y) = refl
    order-renamed (int z) (atom b) = refl
    order-renamed (int z) (comp h us) = refl
    order-renamed (atom a) (var k) = refl
    order-renamed (atom a) (int y) = refl
    order-renamed (atom a) (atom b) = compared a b
    order-renamed (atom a) (comp h us) = refl
    order-renamed (comp g ts) (var k) = refl
    order-renamed (comp g ts) (int y) = refl
    order-renamed (comp g ts) (atom b) = refl
    order-renamed (comp g ts) (comp h us) =
        let here : Ordering = text_cmp (m.text (f g)) (m.text (f h)) in
        let rest : Ordering = trees_cmp (compared_by m) (all_renamed f ts) (all_renamed f us) in
        ap (λ k. ordering_then (nat_cmp k (count (all_renamed f us))) (ordering_then here rest)) (count-renamed f ts)
        ∙ ap (λ k. ordering_then (nat_cmp (count ts) k) (ordering_then here rest)) (count-renamed f us)
        ∙ ap (λ o. ordering_then (nat_cmp (count ts) (count us)) (ordering_then o rest)) (compared g h)
        ∙ ap (λ o. ordering_then (nat_cmp (count ts) (count us)) (ordering_then (text_cmp (n.text g) (n.text h)) o)) (orders-renamed ts us)

    orders-renamed : (ts us : Trees N) → trees_cmp (λ a b. text_cmp (m.text a) (m.text b)) (all_renamed f ts) (all_renamed f us) ≡ trees_cmp (λ a b. text_cmp (n.text a) (n.text b)) ts us
    orders-renamed nil nil = refl
    orders-renamed nil (cons u us) = refl
    orders-renamed (cons t ts) nil = refl
    orders-renamed (cons t ts) (cons u us) =
        ap (λ o. ordering_then o (trees_cmp (compared_by m) (all_renamed f ts) (all_renamed f us))) (order-renamed t u)
        ∙ ap (ordering_then (order n t u)) (orders-renamed ts us)

  listing-atom : (b : Bool) → listing_renamed f (if b then proper [] else improper) ≡ (if b then proper [] else improper)
  listing-atom true = refl
  listing-atom false = refl

  listing-pair : (b : Bool) (h : Tree N) (l : Listing N) → listing_renamed f (if b then before h l else improper) ≡ (if b then before (renamed f h) (listing_renamed f l) else improper)
  listing-pair true h l = before-renamed f h l
  listing-pair false h l = refl

  named_at : (g : N) (s : List ℕ) → same_text (n.text g) s ≡ same_text (m.text (f g)) s
  named_at g s = ap (λ t. same_text t s) (sym (tr.text g))

  pub listing-renamed : (t : Tree N) → listing_renamed f (listing n t) ≡ listing m (renamed f t)
  listing-renamed (var v) = refl
  listing-renamed (int z) = refl
  listing-renamed (atom a) = listing-atom (same_text (n.text a) (codes "[]")) ∙ ap (λ b. if b then proper [] else improper) (named_at a (codes "[]"))
  listing-renamed (comp g nil) = refl
  listing-renamed (comp g (cons h nil)) = refl
  listing-renamed (comp g (cons h (cons t nil))) =
      listing-pair (same_text (n.text g) (codes ".")) h (listing n t)
      ∙ ap (λ b. if b then before (renamed f h) (listing_renamed f (listing n t)) else improper) (named_at g (codes "."))
      ∙ ap (λ l. if same_text (m.text (f g)) (codes ".") then before (renamed f h) l else improper) (listing-renamed t)
  listing-renamed (comp g (cons h (cons t (cons u us)))) = refl

  put_deed-renamed : (t : Tree N) → deed_renamed f (put_deed n t) ≡ put_deed m (renamed f t)
  put_deed-renamed (var v) = refl
  put_deed-renamed (int z) = refl
  put_deed-renamed (atom a) = by (is_character (n.text a)) ∙ ap (λ s. if is_character s then yes else raise (type_fault E.Character (atom (f a)))) (sym (tr.text a))
    where
      by : (b : Bool) → deed_renamed f (if b then yes else raise (type_fault E.Character (atom a))) ≡ (if b then yes else raise (type_fault E.Character (atom (f a))))
      by true = refl
      by false = refl
  put_deed-renamed (comp g ts) = refl

  -- with the names that rows write
  pub list_tree-renamed : (ts : List (Tree N)) → renamed f (list_tree n ts) ≡ list_tree m (map (renamed f) ts)
  list_tree-renamed [] = ap atom (tr.name (codes "[]") refl)
  list_tree-renamed (t ∷ ts) =
      ap (λ d. comp d (cons (renamed f t) (cons (renamed f (list_tree n ts)) nil))) (tr.name (codes ".") refl)
      ∙ ap (λ r. comp (m.name (codes ".")) (cons (renamed f t) (cons r nil))) (list_tree-renamed ts)

  order_text-renamed : (o : Ordering) → f (n.name (order_text o)) ≡ m.name (order_text o)
  order_text-renamed Less = tr.name (codes "<") refl
  order_text-renamed Equal = tr.name (codes "=") refl
  order_text-renamed Greater = tr.name (codes ">") refl

  ordered-renamed : (t : Tree N) (o : Ordering) → deed_renamed f (ordered n t o) ≡ ordered m (renamed f t) o
  ordered-renamed t o = ap (λ s. unify (renamed f t) (atom s)) (order_text-renamed o)

  compare_deed-renamed : (t : Tree N) (o : Ordering) → deed_renamed f (compare_deed n t o) ≡ compare_deed m (renamed f t) o
  compare_deed-renamed (var v) o = ordered-renamed (var v) o
  compare_deed-renamed (int z) o = refl
  compare_deed-renamed (atom a) o =
      by (is_order (n.text a)) ∙ ap (λ s. if is_order s then ordered m (atom (f a)) o else raise (domain_fault D.Order (atom (f a)))) (sym (tr.text a))
    where
      by : (b : Bool) → deed_renamed f (if b then ordered n (atom a) o else raise (domain_fault D.Order (atom a))) ≡ (if b then ordered m (atom (f a)) o else raise (domain_fault D.Order (atom (f a))))
      by true = ordered-renamed (atom a) o
      by false = refl
  compare_deed-renamed (comp g ts) o = refl

  univ_deed-renamed : (t l : Tree N) → deed_renamed f (univ_deed n t l) ≡ univ_deed m (renamed f t) (renamed f l)
  univ_deed-renamed (var v) l = made_by_list-renamed f (var v) l (listing n l) ∙ ap (made_by_list (var v) (renamed f l)) (listing-renamed l)
  univ_deed-renamed (int z) l = ap (unify (renamed f l)) (list_tree-renamed (int z ∷ []))
  univ_deed-renamed (atom a) l = ap (unify (renamed f l)) (list_tree-renamed (atom a ∷ []))
  univ_deed-renamed (comp g ts) l =
      ap (unify (renamed f l)) (list_tree-renamed (atom g ∷ listed ts))
      ∙ ap (λ us. unify (renamed f l) (list_tree m (atom (f g) ∷ us))) (listed-renamed f ts)

  variables_deed-renamed : (t l : Tree N) → deed_renamed f (unify l (list_tree n (map var (variables t)))) ≡ unify (renamed f l) (list_tree m (map var (variables (renamed f t))))
  variables_deed-renamed t l =
      ap (unify (renamed f l)) (list_tree-renamed (map var (variables t)) ∙ ap (list_tree m) (vars-renamed f (variables t)))
      ∙ ap (λ vs. unify (renamed f l) (list_tree m (map var vs))) (sym (variables-renamed f t))

  pub deed-renamed : (row : Row) (ts : List (Tree N)) (caller : N) (next : ℕ) → deed_renamed f (deed n row ts caller next) ≡ deed m row (map (renamed f) ts) (f caller) next
  deed-renamed R.Unify (t ∷ u ∷ []) caller next = refl
  deed-renamed R.NotUnifiable (t ∷ u ∷ []) caller next = refl
  deed-renamed (R.Type test) (t ∷ []) caller next = whether-renamed f (passes test t) ∙ ap whether (passes-renamed f test t)
  deed-renamed R.Ground (t ∷ []) caller next = whether-renamed f (is_ground t) ∙ ap (λ vs. whether (nat_eq (length vs) 0)) (sym (variables-renamed f t))
  deed-renamed (R.Order test) (t ∷ u ∷ []) caller next = whether-renamed f (order_holds test (order n t u)) ∙ ap (λ o. whether (order_holds test o)) (sym (order-renamed t u))
  deed-renamed R.Compare (o ∷ t ∷ u ∷ []) caller next = compare_deed-renamed o (order n t u) ∙ ap (compare_deed m (renamed f o)) (sym (order-renamed t u))
  deed-renamed R.Functor (t ∷ name ∷ k ∷ []) caller next = functor_deed-renamed f t name k next
  deed-renamed R.Arg (k ∷ t ∷ a ∷ []) caller next = arg_deed-renamed f k t a
  deed-renamed R.Univ (t ∷ l ∷ []) caller next = univ_deed-renamed t l
  deed-renamed R.CopyTerm (t ∷ u ∷ []) caller next = copy_deed-renamed f t u next
  deed-renamed R.TermVariables (t ∷ l ∷ []) caller next = variables_deed-renamed t l
  deed-renamed R.Is (t ∷ e ∷ []) caller next = assigned-renamed f t (value n e) ∙ ap (assigned (renamed f t)) (value-renamed e)
  deed-renamed (R.Value r) (t ∷ u ∷ []) caller next =
      related-renamed f r (value n t) (value n u)
      ∙ ap (λ v. related r v (valued_renamed f (value n u))) (value-renamed t)
      ∙ ap (related r (value m (renamed f t))) (value-renamed u)
  deed-renamed R.PutChar (t ∷ []) caller next = put_deed-renamed t
  deed-renamed R.HaltWith (t ∷ []) caller next = halt_deed-renamed f t
  deed-renamed R.NewLine [] caller next = refl
  deed-renamed (R.Write q) (t ∷ []) caller next = refl
  deed-renamed R.CallingContext (t ∷ []) caller next = refl
  deed-renamed R.True [] caller next = refl
  deed-renamed R.Fail [] caller next = refl
  deed-renamed R.Halt [] caller next = refl
  deed-renamed _ _ caller next = refl

  -- texts of names that stand for others are theirs
  mutual
    texts-renamed : (t : Tree N) → renamed n.text t ≡ renamed m.text (renamed f t)
    texts-renamed (var v) = refl
    texts-renamed (int z) = refl
    texts-renamed (atom a) = ap atom (sym (tr.text a))
    texts-renamed (comp g ts) = ap (λ s. comp s (all_renamed n.text ts)) (sym (tr.text g)) ∙ ap (comp (m.text (f g))) (all_texts-renamed ts)

    all_texts-renamed : (ts : Trees N) → all_renamed n.text ts ≡ all_renamed m.text (all_renamed f ts)
    all_texts-renamed nil = refl
    all_texts-renamed (cons t ts) = ap (λ u. cons u (all_renamed n.text ts)) (texts-renamed t) ∙ ap (cons (renamed m.text (renamed f t))) (all_texts-renamed ts)

  put_text-renamed : (t : Tree N) → put_text n t ≡ put_text m (renamed f t)
  put_text-renamed (var v) = refl
  put_text-renamed (int z) = refl
  put_text-renamed (atom a) = ap (λ s. if is_character s then s else []) (sym (tr.text a))
  put_text-renamed (comp g ts) = refl

  pub output-renamed : (row : Row) (ts : List (Tree N)) → output n row ts ≡ output m row (map (renamed f) ts)
  output-renamed R.NewLine [] = refl
  output-renamed R.PutChar (t ∷ []) = put_text-renamed t
  output-renamed (R.Write q) (t ∷ []) = ap (written (operator standard) q 1200) (texts-renamed t)
  output-renamed _ _ = refl
