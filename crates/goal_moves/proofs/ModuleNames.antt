-- Terms as the names of modules, and as balls.
use Rattle.std.proofs.Common.{◌≡◌, ℕ, suc, ◌<◌, ◌≤◌, Bool, true, false, List, [], ◌∷◌, Result, Ok, Err, refl, sym, ap, ◌∙◌, subst, arith, length, ◌||◌}
use Rattle.std.specs.Prelude.{ℤ, nat_eq, codes, if◌then◌else◌}
use Rattle.std.specs.List.{list_any}
use Rattle.std.proofs.lemmas.Bool.{eqb-true}
use Rattle.std.proofs.lemmas.List.{get_or_past}
use Rattle.pl_atoms.specs.Names.{same_text}
use Rattle.pl_store.specs.Linked.{Linked, is_system, is_module}
use Rattle.pl_store.specs.Facts.{EachAt, IsLinked}
use Rattle.pl_atoms.specs.declared.names.NameId.{NameId}
use Rattle.pl_terms.specs.Trees.{Tree, var, int, atom, comp}
use Rattle.pl_unify.specs.State.{State}
use Rattle.pl_unify.specs.Shape.{root}
use Rattle.pl_unify.specs.declared.word.View.TheVariants as V
use Rattle.builtin_model.specs.Naming.{Naming}
use Rattle.builtin_model.specs.Faults.{instantiation, fault_tree}
use Rattle.goal_model.specs.Program.{Program}
use Rattle.goal_model.specs.Table.{module_of, ball_of}
use Rattle.goal_moves.specs.declared.term_control.Named.{Named}
use Rattle.goal_moves.specs.Control.{IsNamed, no_atom}

differs : (m x : ℕ) → x < m → nat_eq m x ≡ false
differs m x lt = go (nat_eq m x) refl
  where
    go : (t : Bool) → nat_eq m x ≡ t → t ≡ false
    go true p = absurd (omega (arith, eqb-true m x p, lt))
    go false p = refl

none_above : (m n : ℕ) (xs : List ℕ) → EachAt (λ x. x < n) 0 xs → n ≤ m → list_any (nat_eq m) xs ≡ false
none_above m n [] h le = refl
none_above m n (x ∷ xs) h le =
    let lt : x < n = h 0 (omega arith) in
    ap (λ b. b || list_any (nat_eq m) xs) (differs m x (omega (arith, lt, le)))
    ∙ none_above m n xs (λ i l. h (suc i) (omega (arith, l))) le

-- a number past the names is that of no module
pub no_module_past : (l : Linked) (m : ℕ) → IsLinked l → length l.names ≤ m → false ≡ (is_system l.names m || is_module l m)
no_module_past l m facts le =
    sym (ap (λ t. same_text t (codes "system") || is_module l m) (get_or_past l.names m [] le) ∙ none_above m (length l.names) l.modules facts.modules le)

abbrev pub module_if : Bool → ℕ → Tree ℕ → Result ℕ (Tree ℕ)
module_if x m t = if x then Ok m else Err t

pub no_module_err : (x y : Bool) (m : ℕ) (t u : Tree ℕ) → y ≡ x → y ≡ false → u ≡ t → module_if x m t ≡ Err u
no_module_err x y m t u same e is = ap (λ z. module_if z m t) (sym same ∙ e) ∙ ap Err (sym is)

pub named_module : (n : Naming ℕ) (p : Program ℕ) (t : Tree ℕ) (m : NameId) (lookup f k : ℕ) → V.Name m ≡ root t → module_of n p (atom m.0) lookup f k ≡ module_of n p t lookup f k
named_module n p (var v) m lookup f k e = cc
named_module n p (int z) m lookup f k e = cc
named_module n p (atom a) m lookup f k e = ap (λ x. module_of n p (atom x) lookup f k) (name_of_view e)
  where
    name_of_view : V.Name m ≡ V.Name (record { 0 = a }) → m.0 ≡ a
    name_of_view e = cc
named_module n p (comp s ts) m lookup f k e = cc

pub var_module : (n : Naming ℕ) (p : Program ℕ) (t : Tree ℕ) (v lookup f k : ℕ) → V.Var v ≡ root t → Err (fault_tree n instantiation f k) ≡ module_of n p t lookup f k
var_module n p (var w) v lookup f k e = refl
var_module n p (int z) v lookup f k e = cc
var_module n p (atom a) v lookup f k e = cc
var_module n p (comp s ts) v lookup f k e = cc

pub int_module : (n : Naming ℕ) (p : Program ℕ) (t : Tree ℕ) (z : ℤ) (lookup f k : ℕ) → V.Int z ≡ root t → no_atom n t f k ≡ module_of n p t lookup f k
int_module n p (var w) z lookup f k e = cc
int_module n p (int y) z lookup f k e = refl
int_module n p (atom a) z lookup f k e = cc
int_module n p (comp s ts) z lookup f k e = cc

pub comp_module : (n : Naming ℕ) (p : Program ℕ) (t : Tree ℕ) (m : NameId) (j lookup f k : ℕ) → V.Comp m j ≡ root t → no_atom n t f k ≡ module_of n p t lookup f k
comp_module n p (var w) m j lookup f k e = cc
comp_module n p (int y) m j lookup f k e = cc
comp_module n p (atom a) m j lookup f k e = cc
comp_module n p (comp s ts) m j lookup f k e = refl

pub var_ball : (n : Naming ℕ) (t : Tree ℕ) (v f k : ℕ) → V.Var v ≡ root t → fault_tree n instantiation f k ≡ ball_of n t f k
var_ball n (var w) v f k e = refl
var_ball n (int z) v f k e = cc
var_ball n (atom a) v f k e = cc
var_ball n (comp s ts) v f k e = cc

pub int_ball : (n : Naming ℕ) (t : Tree ℕ) (z : ℤ) (f k : ℕ) → V.Int z ≡ root t → t ≡ ball_of n t f k
int_ball n (var w) z f k e = cc
int_ball n (int y) z f k e = refl
int_ball n (atom a) z f k e = refl
int_ball n (comp s ts) z f k e = refl

pub name_ball : (n : Naming ℕ) (t : Tree ℕ) (m : NameId) (f k : ℕ) → V.Name m ≡ root t → t ≡ ball_of n t f k
name_ball n (var w) m f k e = cc
name_ball n (int y) m f k e = refl
name_ball n (atom a) m f k e = refl
name_ball n (comp s ts) m f k e = refl

pub comp_ball : (n : Naming ℕ) (t : Tree ℕ) (m : NameId) (j f k : ℕ) → V.Comp m j ≡ root t → t ≡ ball_of n t f k
comp_ball n (var w) m j f k e = cc
comp_ball n (int y) m j f k e = refl
comp_ball n (atom a) m j f k e = refl
comp_ball n (comp s ts) m j f k e = refl

-- what a term is as a name of a module, said in another way
pub is_named : (s : State) (r r' : Result ℕ (Tree ℕ)) (named : Named) → r ≡ r' → IsNamed s r named → IsNamed s r' named
is_named s r r' named e h = subst (λ x. IsNamed s x named) e h
