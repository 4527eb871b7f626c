-- A clause whose first argument does not fit has a head without a unifier with the goal.
use Rattle.std.proofs.Common.{◌≡◌, ◌≢◌, ℕ, ℤ, suc, Bool, true, false, ◌&&◌, ◌||◌, List, [], ◌∷◌, None, refl, sym, ap, ◌∙◌, subst, nat_eq, rules}
use Rattle.std.specs.Ordering.{int_eq}
use Rattle.std.proofs.lemmas.Bool.Decides.{Decides-int_eq}
use Rattle.std.proofs.lemmas.Bool.{false≢true, eq-eqb, eqb-true}
use Rattle.pl_terms.specs.Trees.{Tree, var, int, atom, comp, Trees, nil, cons, count}
use Rattle.unifier_model.specs.Substitution.{raise, raise_all}
use Rattle.unifier_model.specs.Unifier.{IsClash, ints, atoms, names, counts, int_atom, atom_int, int_comp, comp_int, atom_comp, comp_atom, Solved, parts, clash}
use Rattle.unifier_model.specs.Mgu.{mgu}
use Rattle.unifier_model.proofs.MguProofs.{Solved-mgu}
use Rattle.unifier_model.proofs.Only.{Solved-only}
use Rattle.std.specs.List.{list_any}
use Rattle.solver_model.proofs.SkipLaws.{Hopeless}
use Rattle.builtin_model.specs.Naming.{Naming}
use Rattle.goal_model.specs.Program.{Clauses, Program}
use Rattle.goal_model.specs.Table.{Alternative, leads, resolves, attempt, resolved, prolog}
use Rattle.goal_model.specs.Choices.{any, argument_key, key_of, argument_fits, fits, is_untried, UnfitFail}

-- numbers and integers that a test tells apart
nat_apart : (a b : ℕ) → nat_eq a b ≡ false → a ≢ b
nat_apart a b h e = false≢true (sym h ∙ eq-eqb a b e)

int_itself : (z : ℤ) → int_eq z z ≡ true
int_itself z = search (rules, Decides-int_eq)

int_apart : (y z : ℤ) → int_eq y z ≡ false → y ≢ z
int_apart y z h e = false≢true (sym h ∙ (ap (int_eq y) (sym e) ∙ int_itself y))

count-raise_all : (base : ℕ) (ts : Trees ℕ) → count (raise_all base ts) ≡ count ts
count-raise_all base nil = refl
count-raise_all base (cons t ts) = ap suc (count-raise_all base ts)

-- names or numbers of arguments differ
comp_clash : (f g : ℕ) (ts us : Trees ℕ) (base : ℕ) → (nat_eq f g && nat_eq (count ts) (count us)) ≡ false → IsClash (comp f ts) (comp g (raise_all base us))
comp_clash f g ts us base = go (nat_eq f g) (nat_eq (count ts) (count us)) refl refl
  where
    go : (b d : Bool) → nat_eq f g ≡ b → nat_eq (count ts) (count us) ≡ d → (b && d) ≡ false → IsClash (comp f ts) (comp g (raise_all base us))
    go false d p q h = names (nat_apart f g p)
    go true false p q h = counts (λ e. nat_apart (count ts) (count us) q (e ∙ count-raise_all base us))
    go true true p q h = absurd (false≢true (sym h))

-- arguments that do not fit clash
argument_clash : (base : ℕ) (t u : Tree ℕ) → argument_fits nat_eq (argument_key t) u ≡ false → IsClash t (raise base u)
argument_clash base (var v) u h = absurd (false≢true (sym h))
argument_clash base (int y) (var v) h = absurd (false≢true (sym h))
argument_clash base (int y) (int z) h = ints (int_apart y z h)
argument_clash base (int y) (atom s) h = int_atom
argument_clash base (int y) (comp g us) h = int_comp
argument_clash base (atom r) (var v) h = absurd (false≢true (sym h))
argument_clash base (atom r) (int z) h = atom_int
argument_clash base (atom r) (atom s) h = atoms (nat_apart r s h)
argument_clash base (atom r) (comp g us) h = atom_comp
argument_clash base (comp f ts) (var v) h = absurd (false≢true (sym h))
argument_clash base (comp f ts) (int z) h = comp_int
argument_clash base (comp f ts) (atom s) h = comp_atom
argument_clash base (comp f ts) (comp g us) h = comp_clash f g ts us base h

-- compounds whose first arguments clash have no unifier
first_clash : (f g : ℕ) (t u : Tree ℕ) (ts us : Trees ℕ) → IsClash t u → Solved ((comp f (cons t ts), comp g (cons u us)) ∷ []) None
first_clash f g t u ts us h = go (nat_eq f g) (nat_eq (count (cons t ts)) (count (cons u us))) refl refl
  where
    go : (b d : Bool) → nat_eq f g ≡ b → nat_eq (count (cons t ts)) (count (cons u us)) ≡ d → Solved ((comp f (cons t ts), comp g (cons u us)) ∷ []) None
    go false d p q = clash (names (nat_apart f g p))
    go true false p q = clash (counts (nat_apart (count (cons t ts)) (count (cons u us)) q))
    go true true p q =
        subst (λ name. Solved ((comp f (cons t ts), comp name (cons u us)) ∷ []) None) (eqb-true f g p)
        (parts (eqb-true (count (cons t ts)) (count (cons u us)) q) (clash h))

any_fits : (head : Tree ℕ) → fits nat_eq any head ≡ false → ⊥
any_fits (comp g (cons u us)) h = false≢true (sym h)
any_fits (comp g nil) h = false≢true (sym h)
any_fits (var v) h = false≢true (sym h)
any_fits (int z) h = false≢true (sym h)
any_fits (atom s) h = false≢true (sym h)

unfit_unsolved : (goal head : Tree ℕ) (base : ℕ) → fits nat_eq (key_of goal) head ≡ false → Solved ((goal, raise base head) ∷ []) None
unfit_unsolved (comp f (cons t ts)) (comp g (cons u us)) base h = first_clash f g t (raise base u) ts (raise_all base us) (argument_clash base t u h)
unfit_unsolved (comp f (cons t ts)) (comp g nil) base h = absurd (false≢true (sym h))
unfit_unsolved (comp f (cons t ts)) (var v) base h = absurd (false≢true (sym h))
unfit_unsolved (comp f (cons t ts)) (int z) base h = absurd (false≢true (sym h))
unfit_unsolved (comp f (cons t ts)) (atom s) base h = absurd (false≢true (sym h))
unfit_unsolved (comp f nil) head base h = absurd (any_fits head h)
unfit_unsolved (var v) head base h = absurd (any_fits head h)
unfit_unsolved (int z) head base h = absurd (any_fits head h)
unfit_unsolved (atom s) head base h = absurd (any_fits head h)

pub unfit_fail : (n : Naming ℕ) → UnfitFail n
unfolding mgu
unfit_fail n r clause c h =
    let es = (r.goal, raise r.world.next clause.head) ∷ [] in
    ap (resolved n r clause c) (sym (Solved-only es None (mgu es) (unfit_unsolved r.goal clause.head r.world.next h) (Solved-mgu es)))

-- alternatives of which none is untried are none
pub untried-hopeless : (n : Naming ℕ) (p : Program ℕ) (alternatives : List (Alternative ℕ)) → list_any (is_untried nat_eq) alternatives ≡ false → Hopeless (prolog n nat_eq p) alternatives
untried-hopeless n p [] h = tt
untried-hopeless n p (a ∷ alternatives) h =
    (λ c. one a (first (is_untried nat_eq a) (list_any (is_untried nat_eq) alternatives) h) c, untried-hopeless n p alternatives (second (is_untried nat_eq a) (list_any (is_untried nat_eq) alternatives) h))
  where
    first : (b d : Bool) → (b || d) ≡ false → b ≡ false
    first true d q = q
    first false d q = refl

    second : (b d : Bool) → (b || d) ≡ false → d ≡ false
    second true d q = absurd (false≢true (sym q))
    second false d q = q

    one : (a : Alternative ℕ) → is_untried nat_eq a ≡ false → (c : Clauses ℕ) → attempt n nat_eq a c ≡ None
    one (leads s) q c = absurd (false≢true (sym q))
    one (resolves r clause) q c = unfit_fail n r clause c q
