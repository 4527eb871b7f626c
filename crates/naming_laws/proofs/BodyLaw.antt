-- Terms as goals under other names.
use Rattle.std.proofs.Common.{◌≡◌, ◌∙◌, ℕ, pos, List, [], ◌∷◌, ◌++◌, codes, nat_lt, Bool, true, false, ◌&&◌, if◌then◌else◌, Option, Some, None, Result, Ok, Err, refl, ap, sym}
use Rattle.std.specs.Prelude.{option_map}
use Rattle.std.proofs.lemmas.List.{map-append}
use Rattle.pl_atoms.specs.Names.{same_text}
use Rattle.pl_terms.specs.Trees.{Tree, Trees, var, int, atom, comp, nil, cons, count, append, renamed, all_renamed}
use Rattle.value_model.specs.declared.EvalFault.{EvalFault}
use Rattle.value_model.specs.declared.EvalFault.TheVariants as V
use Rattle.unit_model.specs.Directives.{is_control}
use Rattle.solver_model.specs.Search.{Call}
use Rattle.builtin_model.specs.declared.error.Expected.{Expected}
use Rattle.builtin_model.specs.declared.error.Expected.TheVariants as E
use Rattle.builtin_model.specs.declared.error.Domain.{Domain}
use Rattle.builtin_model.specs.declared.error.Domain.TheVariants as D
use Rattle.builtin_model.specs.declared.row.Row.{Row as Builtin}
use Rattle.builtin_model.specs.Naming.{Naming}
use Rattle.builtin_model.specs.Faults.{Fault, instantiation, type_fault, domain_fault, max_arity, not_evaluable, evaluation, expected_text, domain_text, evaluation_text, named, term_of_one, term_of_two, indicator, error_term, fault_tree}
use Rattle.builtin_model.specs.Renaming.{fault_renamed}
use Rattle.builtin_model.specs.Rows.{row_called}
use Rattle.builtin_model.proofs.TextLaw.{count-renamed, listed-renamed}
use Rattle.goal_model.specs.Environments.{Environment, is_qualified, in_context, qualified}
use Rattle.goal_model.specs.Bodies.{joined, under, is_named, converted, not_callable, convertible, goal_of, flat, with_arguments, added, goal_with, called}
use Rattle.goal_model.specs.Rows.{Row, commit, if_then_else, if_then, either, negation, once, calling, in_module, from_context, repeat, throwing, catching, collecting, plain, builtin_or_user, other_row, call_row, atom_row, unary_row, either_row, binary_row, ternary_row, row_of, name_of, arity_of}
use Rattle.goal_model.specs.Table.{no_module, no_procedure}
use Rattle.naming_laws.specs.Translation.{Translates, is_written}
use Rattle.naming_laws.proofs.Maps.{env_by, item_by, items_by, given_by, row_by}

pub if-by : {A B : Type 0} (h : A → B) (b : Bool) (x y : A) {x' y' : B} → x' ≡ h x → y' ≡ h y → (if b then x' else y') ≡ h (if b then x else y)
if-by h true x y p q = p
if-by h false x y p q = q

expected_written : (e : Expected) → is_written (expected_text e) ≡ true
expected_written E.Atom = refl
expected_written E.Atomic = refl
expected_written E.Character = refl
expected_written E.Compound = refl
expected_written E.Integer = refl
expected_written E.List = refl

domain_written : (d : Domain) → is_written (domain_text d) ≡ true
domain_written D.NonEmptyList = refl
domain_written D.NotLessThanZero = refl
domain_written D.Order = refl

evaluation_written : (e : EvalFault) → is_written (evaluation_text e) ≡ true
evaluation_written V.Overflow = refl
evaluation_written V.ZeroDivisor = refl
evaluation_written _ = refl

module _ {N M : Type 0} (f : N → M) where
  joined-by : (g : N) (p q : Option (Tree N)) → joined (f g) (option_map (renamed f) p) (option_map (renamed f) q) ≡ option_map (renamed f) (joined g p q)
  joined-by g None q = refl
  joined-by g (Some l) None = refl
  joined-by g (Some l) (Some r) = refl

  append-by : (ts us : Trees N) → append (all_renamed f ts) (all_renamed f us) ≡ all_renamed f (append ts us)
  append-by nil us = refl
  append-by (cons t ts) us = ap (cons (renamed f t)) (append-by ts us)

  under-by : (s : N) (x : Tree N) (r : Result (Tree N) (Tree N))
      → under (λ u. comp (f s) (cons (renamed f x) (cons u nil))) (given_by f (renamed f) r) ≡ given_by f (renamed f) (under (λ u. comp s (cons x (cons u nil))) r)
  under-by s x (Ok t) = refl
  under-by s x (Err b) = refl

module _ {N M : Type 0} (n : Naming N) (m : Naming M) (f : N → M) (tr : Translates n m f) where
  -- ---- terms of errors

  named-by : (s : List ℕ) → is_written s ≡ true → named m s ≡ renamed f (named n s)
  named-by s h = ap atom (sym (tr.name s h))

  one-by : (s : List ℕ) → is_written s ≡ true → (t : Tree N) {u : Tree M} → u ≡ renamed f t → term_of_one m s u ≡ renamed f (term_of_one n s t)
  one-by s h t p = ap (term_of_one m s) p ∙ ap (λ g. comp g (cons (renamed f t) nil)) (sym (tr.name s h))

  pub two-by : (s : List ℕ) → is_written s ≡ true → (t u : Tree N) {t' u' : Tree M} → t' ≡ renamed f t → u' ≡ renamed f u → term_of_two m s t' u' ≡ renamed f (term_of_two n s t u)
  two-by s h t u {t'} {u'} p q =
      ap (λ x. term_of_two m s x u') p ∙ ap (term_of_two m s (renamed f t)) q ∙ ap (λ g. comp g (cons (renamed f t) (cons (renamed f u) nil))) (sym (tr.name s h))

  indicator-by : (g : N) (k : ℕ) → indicator m (f g) k ≡ renamed f (indicator n g k)
  indicator-by g k = two-by (codes "/") refl (atom g) (int (pos k)) refl refl

  error_term-by : (e : Fault N) → error_term m (fault_renamed f e) ≡ renamed f (error_term n e)
  error_term-by instantiation = named-by (codes "instantiation_error") refl
  error_term-by (type_fault e t) = two-by (codes "type_error") refl (named n (expected_text e)) t (named-by (expected_text e) (expected_written e)) refl
  error_term-by (domain_fault d t) = two-by (codes "domain_error") refl (named n (domain_text d)) t (named-by (domain_text d) (domain_written d)) refl
  error_term-by max_arity = one-by (codes "representation_error") refl (named n (codes "max_arity")) (named-by (codes "max_arity") refl)
  error_term-by (not_evaluable g k) = two-by (codes "type_error") refl (named n (codes "evaluable")) (indicator n g k) (named-by (codes "evaluable") refl) (indicator-by g k)
  error_term-by (evaluation e) = one-by (codes "evaluation_error") refl (named n (evaluation_text e)) (named-by (evaluation_text e) (evaluation_written e))

  pub fault_tree-by : (e : Fault N) (g : N) (k : ℕ) → fault_tree m (fault_renamed f e) (f g) k ≡ renamed f (fault_tree n e g k)
  fault_tree-by e g k = two-by (codes "error") refl (error_term n e) (indicator n g k) (error_term-by e) (indicator-by g k)

  pub no_module-by : (a lookup : N) → no_module m (f a) (f lookup) ≡ renamed f (no_module n a lookup)
  no_module-by a lookup =
      two-by (codes "error") refl (term_of_two n (codes "existence_error") (named n (codes "module")) (atom a)) (atom lookup)
      (two-by (codes "existence_error") refl (named n (codes "module")) (atom a) (named-by (codes "module") refl) refl)
      refl

  pub no_procedure-by : (g : N) (k : ℕ) (lookup : N) → no_procedure m (f g) k (f lookup) ≡ renamed f (no_procedure n g k lookup)
  no_procedure-by g k lookup =
      two-by (codes "error") refl (term_of_two n (codes "existence_error") (named n (codes "procedure")) (indicator n g k)) (atom lookup)
      (two-by (codes "existence_error") refl (named n (codes "procedure")) (indicator n g k) (named-by (codes "procedure") refl) (indicator-by g k))
      refl

  not_callable-by : (t : Tree N) (g : N) (k : ℕ) → not_callable m (renamed f t) (f g) k ≡ renamed f (not_callable n t g k)
  not_callable-by t g k =
      two-by (codes "error") refl (term_of_two n (codes "type_error") (named n (codes "callable")) t) (indicator n g k)
      (two-by (codes "type_error") refl (named n (codes "callable")) t (named-by (codes "callable") refl) refl)
      (indicator-by g k)

  -- ---- tests of a name's text

  pub text-if : {A B : Type 0} (h : A → B) (g : N) (test : List ℕ → Bool) (x y : A) {x' y' : B} → x' ≡ h x → y' ≡ h y → (if test (m.text (f g)) then x' else y') ≡ h (if test (n.text g) then x else y)
  text-if h g test x y {x'} {y'} p q = ap (λ s. if test s then x' else y') (tr.text g) ∙ if-by h (test (n.text g)) x y p q

  -- ---- terms as bodies

  converted-by : (t : Tree N) → converted m (renamed f t) ≡ option_map (renamed f) (converted n t)
  converted-by (var v) = ap (λ g. Some (comp g (cons (var v) nil))) (sym (tr.name (codes "call") refl))
  converted-by (int z) = refl
  converted-by (atom s) = refl
  converted-by (comp g nil) = refl
  converted-by (comp g (cons l nil)) = refl
  converted-by (comp g (cons l (cons r (cons t ts)))) = refl
  converted-by (comp g (cons l (cons r nil))) =
      text-if (option_map (renamed f)) g is_control (joined g (converted n l) (converted n r)) (Some (comp g (cons l (cons r nil))))
      (ap (λ x. joined (f g) x (converted m (renamed f r))) (converted-by l)
      ∙ ap (joined (f g) (option_map (renamed f) (converted n l))) (converted-by r)
      ∙ joined-by f g (converted n l) (converted n r))
      refl

  convertible-by : (o : Option (Tree N)) (t : Tree N) (g : N) (k : ℕ) → convertible m (option_map (renamed f) o) (renamed f t) (f g) k ≡ given_by f (renamed f) (convertible n o t g k)
  convertible-by None t g k = ap Err (not_callable-by t g k)
  convertible-by (Some b) t g k = refl

  body-by : (t : Tree N) (g : N) (k : ℕ) → convertible m (converted m (renamed f t)) (renamed f t) (f g) k ≡ given_by f (renamed f) (convertible n (converted n t) t g k)
  body-by t g k = ap (λ o. convertible m o (renamed f t) (f g) k) (converted-by t) ∙ convertible-by (converted n t) t g k

  pub goal_of-by : (t : Tree N) (g : N) (k : ℕ) → goal_of m (renamed f t) (f g) k ≡ given_by f (renamed f) (goal_of n t g k)
  goal_of-by (var v) g k = ap Err (fault_tree-by instantiation g k)
  goal_of-by (int z) g k = body-by (int z) g k
  goal_of-by (atom s) g k = body-by (atom s) g k
  goal_of-by (comp s ts) g k = body-by (comp s ts) g k

  pub flat-by : (t : Tree N) (env : Environment N) (d : ℕ) → flat m (renamed f t) (env_by f env) d ≡ items_by f (flat n t env d)
  flat-by (var v) env d = refl
  flat-by (int z) env d = refl
  flat-by (atom s) env d = refl
  flat-by (comp g nil) env d = refl
  flat-by (comp g (cons l nil)) env d = refl
  flat-by (comp g (cons l (cons r (cons t ts)))) env d = refl
  flat-by (comp g (cons l (cons r nil))) env d =
      text-if (items_by f) g (λ s. same_text s (codes ",")) (flat n l env d ++ flat n r env d) (Call (record { tree = comp g (cons l (cons r nil)); env = env; reach = d }) ∷ [])
      (ap (λ x. x ++ flat m (renamed f r) (env_by f env) d) (flat-by l env d)
      ∙ ap (λ x. items_by f (flat n l env d) ++ x) (flat-by r env d)
      ∙ sym (map-append (item_by f) (flat n l env d) (flat n r env d)))
      refl

  -- ---- goals with arguments added

  with_arguments-by : (s : N) (ts : Trees N) (g : N) (k : ℕ) → with_arguments m (f s) (all_renamed f ts) (f g) k ≡ given_by f (renamed f) (with_arguments n s ts g k)
  with_arguments-by s ts g k =
      ap (λ c. if nat_lt 255 c then Err (fault_tree m max_arity (f g) k) else Ok (comp (f s) (all_renamed f ts))) (count-renamed f ts)
      ∙ if-by (given_by f (renamed f)) (nat_lt 255 (count ts)) (Err (fault_tree n max_arity g k)) (Ok (comp s ts)) (ap Err (fault_tree-by max_arity g k)) refl

  appended : (s : N) (ts us : Trees N) (g : N) (k : ℕ) → with_arguments m (f s) (append (all_renamed f ts) (all_renamed f us)) (f g) k ≡ given_by f (renamed f) (with_arguments n s (append ts us) g k)
  appended s ts us g k = ap (λ l. with_arguments m (f s) l (f g) k) (append-by f ts us) ∙ with_arguments-by s (append ts us) g k

  added-by : (whole : Tree N) (us : Trees N) (t : Tree N) (g : N) (k : ℕ) → added m (renamed f whole) (all_renamed f us) (renamed f t) (f g) k ≡ given_by f (renamed f) (added n whole us t g k)
  added-by whole us (var v) g k = ap Err (fault_tree-by instantiation g k)
  added-by whole us (int z) g k = ap Err (not_callable-by whole g k)
  added-by whole us (atom s) g k = with_arguments-by s us g k
  added-by whole us (comp s nil) g k = appended s nil us g k
  added-by whole us (comp s (cons x nil)) g k = appended s (cons x nil) us g k
  added-by whole us (comp s (cons x (cons y (cons z ts)))) g k = appended s (cons x (cons y (cons z ts))) us g k
  added-by whole us (comp s (cons x (cons t nil))) g k =
      text-if (given_by f (renamed f)) s (λ u. same_text u (codes ":")) (under (λ u. comp s (cons x (cons u nil))) (added n whole us t g k)) (with_arguments n s (append (cons x (cons t nil)) us) g k)
      (ap (under (λ u. comp (f s) (cons (renamed f x) (cons u nil)))) (added-by whole us t g k) ∙ under-by f s x (added n whole us t g k))
      (appended s (cons x (cons t nil)) us g k)

  goal_with-by : (r : Result (Tree N) (Tree N)) (g : N) (k : ℕ) → goal_with m (given_by f (renamed f) r) (f g) k ≡ given_by f (renamed f) (goal_with n r g k)
  goal_with-by (Ok t) g k = goal_of-by t g k
  goal_with-by (Err b) g k = refl

  pub called-by : (t : Tree N) (us : Trees N) (g : N) (k : ℕ) → called m (renamed f t) (all_renamed f us) (f g) k ≡ given_by f (renamed f) (called n t us g k)
  called-by t nil g k = goal_of-by t g k
  called-by t (cons u us) g k = ap (λ r. goal_with m r (f g) k) (added-by t (cons u us) t g k) ∙ goal_with-by (added n t (cons u us) t g k) g k

  -- ---- arguments of metapredicates

  is_qualified-by : (t : Tree N) → is_qualified m (renamed f t) ≡ is_qualified n t
  is_qualified-by (var v) = refl
  is_qualified-by (int z) = refl
  is_qualified-by (atom s) = refl
  is_qualified-by (comp g nil) = refl
  is_qualified-by (comp g (cons (var v) us)) = refl
  is_qualified-by (comp g (cons (int z) us)) = refl
  is_qualified-by (comp g (cons (comp h ts) us)) = refl
  is_qualified-by (comp g (cons (atom a) nil)) = refl
  is_qualified-by (comp g (cons (atom a) (cons t nil))) = ap (λ s. same_text s (codes ":")) (tr.text g)
  is_qualified-by (comp g (cons (atom a) (cons t (cons u us)))) = refl

  in_context-by : (context : N) (b : Bool) (t : Tree N) → in_context m (f context) b (renamed f t) ≡ renamed f (in_context n context b t)
  in_context-by context true t =
      ap (λ b. if b then renamed f t else term_of_two m (codes ":") (atom (f context)) (renamed f t)) (is_qualified-by t)
      ∙ if-by (renamed f) (is_qualified n t) t (term_of_two n (codes ":") (atom context) t) refl (two-by (codes ":") refl (atom context) t refl refl)
  in_context-by context false t = refl

  pub qualified-by : (bs : List Bool) (context : N) (ts : Trees N) → qualified m bs (f context) (all_renamed f ts) ≡ all_renamed f (qualified n bs context ts)
  qualified-by [] context ts = refl
  qualified-by (b ∷ bs) context nil = refl
  qualified-by (b ∷ bs) context (cons t ts) =
      ap (λ u. cons u (qualified m bs (f context) (all_renamed f ts))) (in_context-by context b t) ∙ ap (cons (renamed f (in_context n context b t))) (qualified-by bs context ts)

  -- ---- what a goal is

  builtin_or_user-by : (o : Option Builtin) (g : N) (ts : Trees N) → builtin_or_user m o (f g) (all_renamed f ts) ≡ row_by f (builtin_or_user n o g ts)
  builtin_or_user-by (Some r) g ts = ap (plain r) (sym (listed-renamed f ts))
  builtin_or_user-by None g ts = refl

  other_row-by : (g : N) (ts : Trees N) → other_row m (f g) (all_renamed f ts) ≡ row_by f (other_row n g ts)
  other_row-by g ts =
      ap (λ s. builtin_or_user m (row_called s (count (all_renamed f ts))) (f g) (all_renamed f ts)) (tr.text g)
      ∙ ap (λ k. builtin_or_user m (row_called (n.text g) k) (f g) (all_renamed f ts)) (count-renamed f ts)
      ∙ builtin_or_user-by (row_called (n.text g) (count ts)) g ts

  call_row-by : (g : N) (ts : Trees N) → call_row m (f g) (all_renamed f ts) ≡ row_by f (call_row n g ts)
  call_row-by g nil = other_row-by g nil
  call_row-by g (cons t us) =
      ap (λ k. if is_named m (f g) (codes "call") && nat_lt k 8 then calling (renamed f t) (all_renamed f us) else other_row m (f g) (all_renamed f (cons t us))) (count-renamed f us)
      ∙ text-if (row_by f) g (λ s. same_text s (codes "call") && nat_lt (count us) 8) (calling t us) (other_row n g (cons t us)) refl (other_row-by g (cons t us))

  atom_row-by : (s : N) → atom_row m (f s) ≡ row_by f (atom_row n s)
  atom_row-by s =
      text-if (row_by f) s (λ u. same_text u (codes "!")) commit (if is_named n s (codes "repeat") then repeat else other_row n s nil) refl
      (text-if (row_by f) s (λ u. same_text u (codes "repeat")) repeat (other_row n s nil) refl (other_row-by s nil))

  unary_row-by : (g : N) (t : Tree N) → unary_row m (f g) (renamed f t) ≡ row_by f (unary_row n g t)
  unary_row-by g t =
      text-if (row_by f) g (λ s. same_text s (codes "\\+")) (negation t) (if is_named n g (codes "once") then once t else if is_named n g (codes "throw") then throwing t else call_row n g (cons t nil)) refl
      (text-if (row_by f) g (λ s. same_text s (codes "once")) (once t) (if is_named n g (codes "throw") then throwing t else call_row n g (cons t nil)) refl
      (text-if (row_by f) g (λ s. same_text s (codes "throw")) (throwing t) (call_row n g (cons t nil)) refl (call_row-by g (cons t nil))))

  either_row-by : (t u : Tree N) → either_row m (renamed f t) (renamed f u) ≡ row_by f (either_row n t u)
  either_row-by (var v) u = refl
  either_row-by (int z) u = refl
  either_row-by (atom s) u = refl
  either_row-by (comp g nil) u = refl
  either_row-by (comp g (cons c nil)) u = refl
  either_row-by (comp g (cons c (cons t (cons x ts)))) u = refl
  either_row-by (comp g (cons c (cons t nil))) u =
      text-if (row_by f) g (λ s. same_text s (codes "->")) (if_then_else c t u) (either (comp g (cons c (cons t nil))) u) refl refl

  binary_row-by : (g : N) (t u : Tree N) → binary_row m (f g) (renamed f t) (renamed f u) ≡ row_by f (binary_row n g t u)
  binary_row-by g t u =
      let call : Row N = call_row n g (cons t (cons u nil)) in
      let at : Row N = if is_named n g (codes "@") then from_context t u else call in
      let colon : Row N = if is_named n g (codes ":") then in_module t u else at in
      let arrow : Row N = if is_named n g (codes "->") then if_then t u else colon in
      text-if (row_by f) g (λ s. same_text s (codes ";")) (either_row n t u) arrow (either_row-by t u)
      (text-if (row_by f) g (λ s. same_text s (codes "->")) (if_then t u) colon refl
      (text-if (row_by f) g (λ s. same_text s (codes ":")) (in_module t u) at refl
      (text-if (row_by f) g (λ s. same_text s (codes "@")) (from_context t u) call refl (call_row-by g (cons t (cons u nil))))))

  ternary_row-by : (g : N) (t u v : Tree N) → ternary_row m (f g) (renamed f t) (renamed f u) (renamed f v) ≡ row_by f (ternary_row n g t u v)
  ternary_row-by g t u v =
      let call : Row N = call_row n g (cons t (cons u (cons v nil))) in
      text-if (row_by f) g (λ s. same_text s (codes "catch")) (catching t u v) (if is_named n g (codes "findall") then collecting t u v else call) refl
      (text-if (row_by f) g (λ s. same_text s (codes "findall")) (collecting t u v) call refl (call_row-by g (cons t (cons u (cons v nil)))))

  pub row_of-by : (t : Tree N) → row_of m (renamed f t) ≡ row_by f (row_of n t)
  unfolding row_of
  row_of-by (var v) = refl
  row_of-by (int z) = refl
  row_of-by (atom s) = atom_row-by s
  row_of-by (comp g nil) = call_row-by g nil
  row_of-by (comp g (cons t nil)) = unary_row-by g t
  row_of-by (comp g (cons t (cons u nil))) = binary_row-by g t u
  row_of-by (comp g (cons t (cons u (cons v nil)))) = ternary_row-by g t u v
  row_of-by (comp g (cons t (cons u (cons v (cons x ts))))) = call_row-by g (cons t (cons u (cons v (cons x ts))))

  pub name_of-by : (t : Tree N) → name_of m (renamed f t) ≡ f (name_of n t)
  name_of-by (var v) = sym (tr.name (codes "call") refl)
  name_of-by (int z) = sym (tr.name (codes "call") refl)
  name_of-by (atom s) = refl
  name_of-by (comp g ts) = refl

  pub arity_of-by : (t : Tree N) → arity_of m (renamed f t) ≡ arity_of n t
  arity_of-by (var v) = refl
  arity_of-by (int z) = refl
  arity_of-by (atom s) = refl
  arity_of-by (comp g ts) = count-renamed f ts
