-- The first link fault is the least.
use Rattle.std.proofs.Common.{◌≡◌, List, [], ◌∷◌, Bool, true, false, cond, refl, sym, ap, subst, ◌∙◌, Option, Some, None}
use Rattle.std.specs.Prelude.{All, Contains, MatchOption}
use Rattle.std.specs.Ordering.{is_lt, is_gt, ordering_reverse}
use Rattle.std.specs.declared.cmp.Ordering.{Ordering}
use Rattle.std.specs.declared.cmp.Ordering.TheVariants.{Less, Equal, Greater}
use Rattle.std.specs.Cmp.{IsTotalOrder}
use Rattle.std.proofs.lemmas.Cmp.{nat_cmp_total, on_total, then_total, upto, tied_itself}
use Rattle.std.proofs.lemmas.List.Elements.{All-cons, All-nil, All-weaker, Contains-append_right, Contains-append_left}
use Rattle.link_model.specs.Faults.{Fault, fault_cmp, earlier, least, link_faults}
use Rattle.link_model.specs.Laws.{FirstIsLeast}

fault_total : IsTotalOrder fault_cmp
fault_total = then_total (on_total (λ (f : Fault). f.unit) nat_cmp_total) (then_total (on_total (λ (f : Fault). f.byte) nat_cmp_total) (on_total (λ (f : Fault). f.number) nat_cmp_total))

lt_back : (o p : Ordering) → o ≡ ordering_reverse p → is_lt o ≡ is_gt p
lt_back Less Less e = absurd cc
lt_back Less Equal e = absurd cc
lt_back Less Greater e = refl
lt_back Equal Less e = absurd cc
lt_back Equal Equal e = refl
lt_back Equal Greater e = absurd cc
lt_back Greater Less e = refl
lt_back Greater Equal e = absurd cc
lt_back Greater Greater e = absurd cc

lt_is_gt : (a b : Fault) → is_lt (fault_cmp a b) ≡ is_gt (fault_cmp b a)
lt_is_gt a b = lt_back (fault_cmp a b) (fault_cmp b a) (fault_total.antisymm a b)

-- not before one that is not before another
not_before : (g b f : Fault) → is_lt (fault_cmp g b) ≡ false → is_lt (fault_cmp b f) ≡ false → is_lt (fault_cmp g f) ≡ false
not_before g b f p q =
    lt_is_gt g f ∙ upto fault_total f b g (sym (lt_is_gt b f) ∙ q) (sym (lt_is_gt g b) ∙ p)

lt_not : (o : Ordering) → is_lt o ≡ true → is_gt o ≡ false
lt_not Less e = refl
lt_not Equal e = absurd cc
lt_not Greater e = absurd cc

not_itself : (f : Fault) → is_lt (fault_cmp f f) ≡ false
not_itself f = ap is_lt (tied_itself fault_total f)

abbrev NoneBefore : Fault → List Fault → Type 0
NoneBefore f fs = All (λ g. is_lt (fault_cmp g f) ≡ false) fs

Contains-first : (f : Fault) (fs : List Fault) → Contains (f ∷ fs) f
Contains-first f fs = Contains-append_left (f ∷ []) fs f (0, omega Rattle.std.proofs.Common.arith, refl)

choose : (f b : Fault) (fs : List Fault) (t : Bool) → is_lt (fault_cmp b f) ≡ t → Contains fs b → NoneBefore b fs → Contains (f ∷ fs) (cond t b f) × NoneBefore (cond t b f) (f ∷ fs)
choose f b fs true e in' none =
    (Contains-append_right (f ∷ []) fs b in', All-cons (λ g. is_lt (fault_cmp g b) ≡ false) f fs (lt_is_gt f b ∙ lt_not (fault_cmp b f) e) none)
choose f b fs false e in' none =
    (Contains-first f fs, All-cons (λ g. is_lt (fault_cmp g f) ≡ false) f fs (not_itself f) (All-weaker (λ g. is_lt (fault_cmp g b) ≡ false) (λ g. is_lt (fault_cmp g f) ≡ false) (λ g h. not_before g b f h e) fs none))

abbrev IsLeast : List Fault → Option Fault → Type 0
IsLeast fs r = MatchOption r (fs ≡ []) (λ f. Contains fs f × NoneBefore f fs)

after : (f : Fault) (fs : List Fault) (r : Option Fault) → IsLeast fs r → IsLeast (f ∷ fs) (Some (earlier f r))
after f fs None e = (Contains-first f fs, All-cons (λ g. is_lt (fault_cmp g f) ≡ false) f fs (not_itself f) (subst (λ l. NoneBefore f l) (sym e) (All-nil (λ g. is_lt (fault_cmp g f) ≡ false))))
after f fs (Some b) h = choose f b fs (is_lt (fault_cmp b f)) refl h.0 h.1

pub least_is : (fs : List Fault) → IsLeast fs (least fs)
least_is [] = refl
least_is (f ∷ fs) = after f fs (least fs) (least_is fs)

pub first_is : FirstIsLeast
first_is us = least_is (link_faults us)
