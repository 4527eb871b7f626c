-- What ends of built-in predicates show.
use Rattle.std.proofs.Common.{◌≡◌, ◌∙◌, ℕ, List, refl, ap, sym, subst, Bool, true, false, if◌then◌else◌, IfOk, OnErr, Result, Ok, Err}
use Rattle.pl_atoms.specs.declared.memory.NoMemory.{NoMemory}
use Rattle.pl_atoms.specs.declared.names.NameId.{NameId}
use Rattle.pl_terms.specs.Trees.{Tree, var, int, atom, comp}
use Rattle.pl_terms.specs.Order.{text_of}
use Rattle.pl_unify.specs.declared.word.Ref.{Ref}
use Rattle.pl_unify.specs.declared.word.View.TheVariants as V
use Rattle.pl_unify.specs.Shape.{root}
use Rattle.pl_unify.specs.State.{State, tree_at, IsRef, Extends}
use Rattle.pl_unify.proofs.StoreLaws.{Extends-refl}
use Rattle.builtin_model.specs.declared.error.Expected.TheVariants as X
use Rattle.builtin_model.specs.declared.row.TypeTest.{TypeTest}
use Rattle.builtin_model.specs.declared.row.TypeTest.TheVariants as T
use Rattle.builtin_model.specs.Naming.{by_numbers}
use Rattle.builtin_model.specs.Faults.{type_fault}
use Rattle.builtin_model.specs.Deeds.{Deed, equal, differ, no, halt, passes, raise, is_character, yes, put_deed}
use Rattle.pl_builtin_ends.specs.declared.done.Done.{Done}
use Rattle.pl_builtin_ends.specs.declared.done.Done.TheVariants as D
use Rattle.pl_builtin_ends.specs.declared.done.Raised.TheVariants as R
use Rattle.pl_builtin_ends.proofs.Ends.{Unifies-none}
use Rattle.pl_builtins.specs.Views.{passes_view, put_done}
use Rattle.pl_builtin_ends.specs.Meets.{Meets, Succeeds}

pub if_ok : {A E : Type 0} (r : Result A E) (P Q : A → Type 0) → ((x : A) → P x → Q x) → IfOk r P → IfOk r Q
if_ok (Ok x) P Q f h = f x h
if_ok (Err e) P Q f h = tt

-- what is done is named otherwise
pub deed_if : (old new : State) (r : Result Done NoMemory) (d e : Deed ℕ) → d ≡ e → IfOk r (λ done. Meets old new d done) → IfOk r (λ done. Meets old new e done)
deed_if old new r d e same h = subst (λ x. IfOk r (λ done. Meets old new x done)) same h

-- whatever a predicate does, what was there is still there
pub Succeeds-extends : (old new : State) (d : Deed ℕ) → Succeeds old new d → Extends old new
Succeeds-extends old new (equal es k) h = h.extends
Succeeds-extends old new (differ t u) h = subst (Extends old) (sym h.0) (Extends-refl old)
Succeeds-extends old new no h = absurd h
Succeeds-extends old new (raise f) h = absurd h
Succeeds-extends old new (halt z) h = absurd h

pub Meets-extends : (old new : State) (d : Deed ℕ) (done : Done) → Meets old new d done → Extends old new
Meets-extends old new d D.Yes h = Succeeds-extends old new d h
Meets-extends old new d D.No h = subst (Extends old) (sym h.0) (Extends-refl old)
Meets-extends old new d (D.Raise r) h = subst (Extends old) (sym h.0) (Extends-refl old)
Meets-extends old new d (D.Halt z) h = subst (Extends old) (sym h.0) (Extends-refl old)

pub run-extends : (old new : State) (d : Deed ℕ) (r : Result Done NoMemory) → IfOk r (λ done. Meets old new d done) → OnErr r (new ≡ old) → Extends old new
run-extends old new d (Ok done) h e = Meets-extends old new d done h
run-extends old new d (Err x) h e = subst (Extends old) (sym e) (Extends-refl old)

pub passes-root : (test : TypeTest) (t : Tree ℕ) → passes test t ≡ passes_view test (root t)
passes-root T.Var (var n) = refl
passes-root T.Var (int n) = refl
passes-root T.Var (atom n) = refl
passes-root T.Var (comp f ts) = refl
passes-root T.Nonvar (var n) = refl
passes-root T.Nonvar (int n) = refl
passes-root T.Nonvar (atom n) = refl
passes-root T.Nonvar (comp f ts) = refl
passes-root T.Atom (var n) = refl
passes-root T.Atom (int n) = refl
passes-root T.Atom (atom n) = refl
passes-root T.Atom (comp f ts) = refl
passes-root T.Integer (var n) = refl
passes-root T.Integer (int n) = refl
passes-root T.Integer (atom n) = refl
passes-root T.Integer (comp f ts) = refl
passes-root T.Number (var n) = refl
passes-root T.Number (int n) = refl
passes-root T.Number (atom n) = refl
passes-root T.Number (comp f ts) = refl
passes-root T.Float (var n) = refl
passes-root T.Float (int n) = refl
passes-root T.Float (atom n) = refl
passes-root T.Float (comp f ts) = refl
passes-root T.Atomic (var n) = refl
passes-root T.Atomic (int n) = refl
passes-root T.Atomic (atom n) = refl
passes-root T.Atomic (comp f ts) = refl
passes-root T.Compound (var n) = refl
passes-root T.Compound (int n) = refl
passes-root T.Compound (atom n) = refl
passes-root T.Compound (comp f ts) = refl
passes-root T.Callable (var n) = refl
passes-root T.Callable (int n) = refl
passes-root T.Callable (atom n) = refl
passes-root T.Callable (comp f ts) = refl

put-atom : (names : List (List ℕ)) (s : State) (at : Ref) (a : ℕ) (b : Bool) → IsRef s at → is_character (text_of names a) ≡ b → tree_at s at ≡ atom a
    → Meets s s (if b then yes else raise (type_fault X.Character (atom a))) (if b then D.Yes else D.Raise (R.Type X.Character at))
put-atom names s at a true r e t = Unifies-none s
put-atom names s at a false r e t = (refl, ap (λ u. raise (type_fault X.Character u)) t, r)

atom-root : (t : Tree ℕ) (a : NameId) → V.Name a ≡ root t → t ≡ atom a.0
atom-root (var n) a e = absurd (cc)
atom-root (int n) a e = absurd (cc)
atom-root (atom n) a e = let x : a ≡ record { 0 = n } = cc in ap (λ v. atom v.0) (sym x)
atom-root (comp f ts) a e = absurd (cc)

pub put-name : (names : List (List ℕ)) (s : State) (at : Ref) (a : NameId) (name : List ℕ) (done : Done) → IsRef s at → V.Name a ≡ root (tree_at s at) → name ≡ text_of names a.0 → done ≡ put_done name at → Meets s s (put_deed (by_numbers names) (tree_at s at)) done
put-name names s at a name done r v n e =
    let t : tree_at s at ≡ atom a.0 = atom-root (tree_at s at) a v in
    subst (λ d. Meets s s (put_deed (by_numbers names) (tree_at s at)) d) (sym (e ∙ ap (λ x. put_done x at) n))
    (subst (λ u. Meets s s (put_deed (by_numbers names) u) (put_done (text_of names a.0) at)) (sym t) (put-atom names s at a.0 (is_character (text_of names a.0)) r refl t))
