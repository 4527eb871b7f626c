-- Calls by the numbers of rows: the rows of the table, and errors that write nothing.
use Rattle.std.proofs.Common.{◌≡◌, ◌∙◌, ℕ, zero, suc, ◌<◌, nat_lt, Bool, true, false, ◌&&◌, List, [], ◌∷◌, ◌++◌, map, length, get_or, Some, None, refl, ap, sym, subst, arith, if◌then◌else◌, Result, Ok, Err}
use Rattle.std.specs.Prelude.{OnOk, OnErr}
use Rattle.std.proofs.lemmas.List.{append-nil, get_or_past}
use Rattle.std.proofs.lemmas.List.Folds.{list_any_at}
use Rattle.pl_atoms.specs.Names.{same_text}
use Rattle.pl_atoms.proofs.Texts.{same_text-itself}
use Rattle.pl_atoms.specs.CaseTable.{Case, case_of, cases_of}
use Rattle.pl_atoms.specs.declared.case_table.CaseRow.{CaseRow}
use Rattle.pl_terms.specs.Trees.{Tree, var, int, atom, comp}
use Rattle.unit_model.specs.Builtins.{builtins}
use Rattle.pl_unify.specs.declared.word.Ref.{Ref}
use Rattle.pl_unify.specs.State.{State, tree_at}
use Rattle.builtin_model.specs.declared.error.Expected.TheVariants as X
use Rattle.builtin_model.specs.declared.row.Row.{Row}
use Rattle.builtin_model.specs.declared.row.Row.TheVariants as R
use Rattle.builtin_model.specs.Naming.{Naming}
use Rattle.builtin_model.specs.Rows.{rows, row_of}
use Rattle.builtin_model.specs.Faults.{Fault, type_fault}
use Rattle.builtin_model.specs.Deeds.{Deed, deed, raise, yes, put_deed, is_character}
use Rattle.builtin_model.specs.Output.{output, put_text}
use Rattle.pl_builtin_ends.specs.declared.done.Raised.{Raised}
use Rattle.pl_builtin_ends.specs.declared.done.Done.{Done}
use Rattle.pl_builtin_ends.specs.declared.done.Done.TheVariants as D
use Rattle.pl_builtin_ends.specs.Meets.{Meets, fault_of}
use Rattle.pl_builtin_ends.specs.Made.{HasText, procedure_names}
use Rattle.pl_builtin_ends.proofs.Kept.{procedures_in, procedure-at}
use Rattle.pl_builtins.specs.Ends.{row_at}
use Rattle.pl_builtins.proofs.Arguments.{is-below, is-not-below}

map-at : {A B : Type 0} (f : A → B) (xs : List A) (k : ℕ) (d : A) → get_or (map f xs) k (f d) ≡ f (get_or xs k d)
map-at f [] zero d = refl
map-at f [] (suc k) d = refl
map-at f (x ∷ xs) zero d = refl
map-at f (x ∷ xs) (suc k) d = map-at f xs k d

count-map : {A B : Type 0} (f : A → B) (xs : List A) → length (map f xs) ≡ length xs
count-map f [] = refl
count-map f (x ∷ xs) = ap suc (count-map f xs)

abbrev pub no_row : CaseRow
no_row = record { name = record { ref_ptr = (0, 0); now = [] }; arity = 0; value = 0 }

-- a row as the table has it
pub row-is : (xs : List CaseRow) (k : ℕ) → cases_of xs ≡ builtins → case_of (get_or xs k no_row) ≡ row_at k
row-is xs k e = sym (map-at case_of xs k no_row) ∙ ap (λ cs. get_or cs k (case_of no_row)) e

count-builtins : length builtins ≡ 62
unfolding builtins
count-builtins = refl

pub row-count : (xs : List CaseRow) → cases_of xs ≡ builtins → length xs ≡ 62
row-count xs e = sym (count-map case_of xs) ∙ (ap length e ∙ count-builtins)

-- the name of a row is one of the built-in procedures'
pub row-name : (xs : List CaseRow) (k : ℕ) → cases_of xs ≡ builtins → k < length xs → HasText (procedure_names builtins) (get_or xs k no_row).name.now
row-name xs k e low =
    let t : List ℕ = (get_or xs k no_row).name.now in
    let here : k < length (procedures_in xs) = omega (arith, count-map (λ (procedure : Case). procedure.name) (cases_of xs), count-map case_of xs) in
    subst (λ cs. HasText (procedure_names cs) t) e (list_any_at (same_text t) (procedures_in xs) k [] here (ap (same_text t) (procedure-at xs k no_row low) ∙ same_text-itself t))

-- no row has more arguments than a compound may have
abbrev are-few : List Case → Bool
are-few [] = true
are-few (c ∷ cs) = nat_lt c.arity 256 && are-few cs

few-builtins : are-few builtins ≡ true
unfolding builtins
few-builtins = refl

left : (b c : Bool) → (b && c) ≡ true → b ≡ true
left true c h = refl
left false c h = cc

right : (b c : Bool) → (b && c) ≡ true → c ≡ true
right true c h = h
right false c h = cc

few-at : (cs : List Case) (k : ℕ) (d : Case) → are-few cs ≡ true → d.arity < 256 → (get_or cs k d).arity < 256
few-at [] zero d h l = l
few-at [] (suc k) d h l = l
few-at (c ∷ cs) zero d h l = is-below c.arity 256 (left (nat_lt c.arity 256) (are-few cs) h)
few-at (c ∷ cs) (suc k) d h l = few-at cs k d (right (nat_lt c.arity 256) (are-few cs) h) l

pub row-few : (k : ℕ) → (row_at k).arity < 256
row-few k = few-at builtins k (case_of no_row) few-builtins (omega arith)

some-none : (r : Row) → Some r ≡ None → ⊥
some-none r e = cc

-- a number with a row is one of the table
pub row_of-low : (k : ℕ) (r : Row) → Some r ≡ row_of k → k < 62
row_of-low k r e = by (nat_lt k 62) refl
  where
    by : (b : Bool) → nat_lt k 62 ≡ b → k < 62
    by true h = is-below k 62 h
    by false h = absurd (some-none r (e ∙ get_or_past rows k None (is-not-below k 62 h)))

-- an error writes nothing
module _ {N : Type 0} (n : Naming N) (f : Fault N) where
  put-silent : (a : N) (b : Bool) → is_character (n.text a) ≡ b → raise f ≡ put_deed n (atom a) → put_text n (atom a) ≡ []
  put-silent a true h e = absurd (not-yes (e ∙ ap (λ b. if b then yes else raise (type_fault X.Character (atom a))) h))
    where
      not-yes : raise f ≡ yes → ⊥
      not-yes p = cc
  put-silent a false h e = ap (λ b. if b then n.text a else []) h

  pub silent : (row : Row) (ts : List (Tree N)) (caller : N) (next : ℕ) → raise f ≡ deed n row ts caller next → output n row ts ≡ []
  silent R.NewLine [] c k e = cc
  silent R.NewLine (t ∷ ts) c k e = refl
  silent R.PutChar [] c k e = refl
  silent R.PutChar (var m ∷ []) c k e = refl
  silent R.PutChar (int z ∷ []) c k e = refl
  silent R.PutChar (atom a ∷ []) c k e = put-silent a (is_character (n.text a)) refl e
  silent R.PutChar (comp g us ∷ []) c k e = refl
  silent R.PutChar (t ∷ u ∷ ts) c k e = refl
  silent (R.Write q) [] c k e = refl
  silent (R.Write q) (t ∷ []) c k e = cc
  silent (R.Write q) (t ∷ u ∷ ts) c k e = refl
  silent R.Unify ts c k e = refl
  silent R.NotUnifiable ts c k e = refl
  silent (R.Type test) ts c k e = refl
  silent R.Ground ts c k e = refl
  silent (R.Order test) ts c k e = refl
  silent R.Compare ts c k e = refl
  silent R.Functor ts c k e = refl
  silent R.Arg ts c k e = refl
  silent R.Univ ts c k e = refl
  silent R.CopyTerm ts c k e = refl
  silent R.TermVariables ts c k e = refl
  silent R.Is ts c k e = refl
  silent (R.Value r) ts c k e = refl
  silent R.CallingContext ts c k e = refl
  silent R.True ts c k e = refl
  silent R.Fail ts c k e = refl
  silent R.Halt ts c k e = refl
  silent R.HaltWith ts c k e = refl

-- with more than two arguments nothing is written
long-silent : (n : Naming ℕ) (row : Row) (t u v : Tree ℕ) (ts : List (Tree ℕ)) → output n row (t ∷ u ∷ v ∷ ts) ≡ []
long-silent n R.NewLine t u v ts = refl
long-silent n R.PutChar t u v ts = refl
long-silent n (R.Write q) t u v ts = refl
long-silent n _ t u v ts = refl

long-output : (n : Naming ℕ) (row : Row) (ts : List (Tree ℕ)) → 2 < length ts → output n row ts ≡ []
long-output n row [] h = absurd (omega arith)
long-output n row (t ∷ []) h = absurd (omega arith)
long-output n row (t ∷ u ∷ []) h = absurd (omega arith)
long-output n row (t ∷ u ∷ v ∷ ts) h = long-silent n row t u v ts

pub long-text : {A B : Type 0} (r : Result A B) (n : Naming ℕ) (row : Row) (s : State) (args : List Ref) (text : List ℕ) → 2 < length args → OnOk r (text ≡ text ++ output n row (map (tree_at s) args))
long-text (Ok x) n row s args text h =
    sym (ap (λ written. text ++ written) (long-output n row (map (tree_at s) args) (omega (arith, h, count-map (tree_at s) args))) ∙ append-nil text)
long-text (Err e) n row s args text h = tt

thrown : (old new : State) (d : Deed ℕ) (done : Done) (r : Raised) → Meets old new d done → done ≡ D.Raise r → raise (fault_of old r) ≡ d
thrown old new d done r h e = (subst (Meets old new d) e h).1

-- the text after an error
pub kept-text : (n : Naming ℕ) (row : Row) (ts : List (Tree ℕ)) (caller next : ℕ) (old new : State) (done : Done) (r : Raised) (text more : List ℕ)
    → Meets old new (deed n row ts caller next) done → done ≡ D.Raise r → more ≡ text ++ output n row ts → more ≡ text ++ []
kept-text n row ts caller next old new done r text more h e m =
    m ∙ ap (λ x. text ++ x) (silent n (fault_of old r) row ts caller next (thrown old new _ done r h e))

pub on_err : {A E : Type 0} (r : Result A E) (P : Type 0) → P → OnErr r P
on_err (Ok x) P h = tt
on_err (Err x) P h = h
