-- The least of faults in parts, and the least clash.
use Rattle.std.proofs.Common.{◌≡◌, ℕ, List, [], ◌∷◌, ◌++◌, map, Bool, true, false, cond, refl, sym, ap, ◌∙◌, Option, Some, None}
use Rattle.std.specs.Prelude.{slice_get}
use Rattle.std.specs.List.{flat_map}
use Rattle.std.specs.Option.{option_map}
use Rattle.std.specs.Ordering.{nat_cmp, ordering_then, is_lt, is_gt, ordering_reverse}
use Rattle.std.specs.declared.cmp.Ordering.{Ordering}
use Rattle.std.specs.declared.cmp.Ordering.TheVariants.{Less, Equal, Greater}
use Rattle.std.specs.Cmp.{IsTotalOrder}
use Rattle.std.proofs.lemmas.Cmp.{nat_cmp_total, on_total, then_total, upto, ranked}
use Rattle.std.proofs.lemmas.List.{map-append}
use Rattle.unit_model.specs.Facts.{Facts}
use Rattle.unit_model.specs.Directives.{Text}
use Rattle.link_model.specs.Places.{places_of, steps}
use Rattle.link_model.specs.Seeing.{Cause, causes}
use Rattle.link_model.specs.Faults.{Fault, fault, fault_cmp, earlier, least, only_if, is_clash, clashes, first_link, unmet, repeated, missing, split_at}
use Rattle.mod_visible.specs.Ordered.{put_by, put, ordered}
use Rattle.mod_visible.specs.Finding.{place_cmp, clash_places}
use Rattle.mod_faults.specs.Firsts.{clash_at, clash_by, first_clash}

-- ---- the order of faults

fault_total : IsTotalOrder fault_cmp
fault_total = then_total (on_total (λ (f : Fault). f.unit) nat_cmp_total) (then_total (on_total (λ (f : Fault). f.byte) nat_cmp_total) (on_total (λ (f : Fault). f.number) nat_cmp_total))

lt_back : (o p : Ordering) → o ≡ ordering_reverse p → is_lt o ≡ is_gt p
lt_back Less Less e = absurd cc
lt_back Less Equal e = absurd cc
lt_back Less Greater e = refl
lt_back Equal Less e = absurd cc
lt_back Equal Equal e = refl
lt_back Equal Greater e = absurd cc
lt_back Greater Less e = refl
lt_back Greater Equal e = absurd cc
lt_back Greater Greater e = absurd cc

lt_is_gt : (a b : Fault) → is_lt (fault_cmp a b) ≡ is_gt (fault_cmp b a)
lt_is_gt a b = lt_back (fault_cmp a b) (fault_cmp b a) (fault_total.antisymm a b)

-- not before one that is not before another
not_before : (g b f : Fault) → is_lt (fault_cmp g b) ≡ false → is_lt (fault_cmp b f) ≡ false → is_lt (fault_cmp g f) ≡ false
not_before g b f p q = lt_is_gt g f ∙ upto fault_total f b g (sym (lt_is_gt b f) ∙ q) (sym (lt_is_gt g b) ∙ p)

is_less : (o : Ordering) → is_lt o ≡ true → o ≡ Less
is_less Less e = refl
is_less Equal e = absurd cc
is_less Greater e = absurd cc

before : (a b c : Fault) → is_lt (fault_cmp a b) ≡ true → is_lt (fault_cmp b c) ≡ true → is_lt (fault_cmp a c) ≡ true
before a b c p q = ap is_lt (fault_total.trans a b c (is_less (fault_cmp a b) p) (is_less (fault_cmp b c) q))

-- ---- the least of two parts

abbrev either : Option Fault → Option Fault → Option Fault
either None o = o
either (Some f) o = Some (earlier f o)

abbrev sooner : Fault → Fault → Fault
sooner x y = cond (is_lt (fault_cmp y x)) y x

sooner-assoc : (x y z : Fault) → sooner x (sooner y z) ≡ sooner (sooner x y) z
sooner-assoc x y z = go (is_lt (fault_cmp y x)) refl (is_lt (fault_cmp z y)) refl (is_lt (fault_cmp z x)) refl
  where
    go : (a : Bool) → is_lt (fault_cmp y x) ≡ a → (b : Bool) → is_lt (fault_cmp z y) ≡ b → (c : Bool) → is_lt (fault_cmp z x) ≡ c → sooner x (cond b z y) ≡ sooner (cond a y x) z
    go true e true f c g = ap (λ t. cond t z x) (before z y x f e) ∙ ap (λ t. cond t z y) (sym f)
    go true e false f c g = ap (λ t. cond t y x) e ∙ ap (λ t. cond t z y) (sym f)
    go false e true f c g = refl
    go false e false f c g = ap (λ t. cond t y x) e ∙ ap (λ t. cond t z x) (sym (not_before z y x f e))

either-earlier : (x : Fault) (o p : Option Fault) → Some (earlier x (either o p)) ≡ either (Some (earlier x o)) p
either-earlier x None p = refl
either-earlier x (Some y) None = refl
either-earlier x (Some y) (Some z) = ap Some (sooner-assoc x y z)

least-append : (xs ys : List Fault) → least (xs ++ ys) ≡ either (least xs) (least ys)
least-append [] ys = refl
least-append (x ∷ xs) ys = ap (λ o. Some (earlier x o)) (least-append xs ys) ∙ either-earlier x (least xs) (least ys)

least-front : (xs ys zs : List Fault) → least xs ≡ least ys → least (xs ++ zs) ≡ least (ys ++ zs)
least-front xs ys zs e = least-append xs zs ∙ ap (λ o. either o (least zs)) e ∙ sym (least-append ys zs)

least-back : (xs ys zs : List Fault) → least ys ≡ least zs → least (xs ++ ys) ≡ least (xs ++ zs)
least-back xs ys zs e = least-append xs ys ∙ ap (either (least xs)) e ∙ sym (least-append xs zs)

-- ---- the least clash

abbrev place_of : Fault → ℕ × ℕ
place_of f = (f.unit, f.byte)

abbrev head : List (ℕ × ℕ) → Option (ℕ × ℕ)
head ps = slice_get ps 0

one_clash : (b : Bool) (e : Cause) → map clash_at (map place_of (only_if b (fault e.unit e.byte 7))) ≡ only_if b (fault e.unit e.byte 7)
one_clash true e = refl
one_clash false e = refl

clashes-places : (cs es : List Cause) → map clash_at (map place_of (flat_map (λ e. only_if (is_clash cs e) (fault e.unit e.byte 7)) es)) ≡ flat_map (λ e. only_if (is_clash cs e) (fault e.unit e.byte 7)) es
clashes-places cs [] = refl
clashes-places cs (e ∷ es) =
    let f : Cause → List Fault = λ x. only_if (is_clash cs x) (fault x.unit x.byte 7) in
    ap (map clash_at) (map-append place_of (f e) (flat_map f es)) ∙ map-append clash_at (map place_of (f e)) (map place_of (flat_map f es))
    ∙ ap (λ l. l ++ map clash_at (map place_of (flat_map f es))) (one_clash (is_clash cs e) e) ∙ ap (λ l. f e ++ l) (clashes-places cs es)

same_place : (p q : ℕ × ℕ) → p.0 ≡ q.0 → p.1 ≡ q.1 → p ≡ q
same_place p q e f = ap (λ x. (x, p.1)) e ∙ ap (λ x. (q.0, x)) f

tied : (m n : ℕ) → nat_cmp m n ≡ Equal → m ≡ n
tied m n e = ranked m n Equal (sym e)

first_put : (p q : ℕ × ℕ) (qs rest : List (ℕ × ℕ)) → option_map clash_at (head (put_by (place_cmp p q) p q qs rest)) ≡ Some (earlier (clash_at p) (Some (clash_at q)))
first_put p q qs rest = go (nat_cmp p.0 q.0) refl (nat_cmp p.1 q.1) refl (nat_cmp q.0 p.0) (nat_cmp_total.antisymm q.0 p.0) (nat_cmp q.1 p.1) (nat_cmp_total.antisymm q.1 p.1)
  where
    go : (a : Ordering) → nat_cmp p.0 q.0 ≡ a → (b : Ordering) → nat_cmp p.1 q.1 ≡ b → (a' : Ordering) → a' ≡ ordering_reverse (nat_cmp p.0 q.0) → (b' : Ordering) → b' ≡ ordering_reverse (nat_cmp p.1 q.1)
        → option_map clash_at (head (put_by (ordering_then a b) p q qs rest)) ≡ Some (cond (is_lt (ordering_then a' (ordering_then b' (nat_cmp 7 7)))) (clash_at q) (clash_at p))
    go Less e b f a' g b' h = ap (λ o. Some (cond (is_lt (ordering_then o (ordering_then b' Equal))) (clash_at q) (clash_at p))) (sym (g ∙ ap ordering_reverse e))
    go Greater e b f a' g b' h = ap (λ o. Some (cond (is_lt (ordering_then o (ordering_then b' Equal))) (clash_at q) (clash_at p))) (sym (g ∙ ap ordering_reverse e))
    go Equal e Less f a' g b' h = ap (λ o. Some (cond (is_lt (ordering_then Equal (ordering_then o Equal))) (clash_at q) (clash_at p))) (sym (h ∙ ap ordering_reverse f)) ∙ ap (λ o. Some (cond (is_lt (ordering_then o (ordering_then b' Equal))) (clash_at q) (clash_at p))) (sym (g ∙ ap ordering_reverse e))
    go Equal e Greater f a' g b' h = ap (λ o. Some (cond (is_lt (ordering_then Equal (ordering_then o Equal))) (clash_at q) (clash_at p))) (sym (h ∙ ap ordering_reverse f)) ∙ ap (λ o. Some (cond (is_lt (ordering_then o (ordering_then b' Equal))) (clash_at q) (clash_at p))) (sym (g ∙ ap ordering_reverse e))
    go Equal e Equal f a' g b' h =
        ap (λ x. Some (clash_at x)) (sym (same_place p q (tied p.0 q.0 e) (tied p.1 q.1 f)))
        ∙ ap (λ o. Some (cond (is_lt (ordering_then Equal (ordering_then o Equal))) (clash_at q) (clash_at p))) (sym (h ∙ ap ordering_reverse f)) ∙ ap (λ o. Some (cond (is_lt (ordering_then o (ordering_then b' Equal))) (clash_at q) (clash_at p))) (sym (g ∙ ap ordering_reverse e))

after_put : (p : ℕ × ℕ) (qs : List (ℕ × ℕ)) → option_map clash_at (head (put place_cmp p qs)) ≡ Some (earlier (clash_at p) (option_map clash_at (head qs)))
after_put p [] = refl
after_put p (q ∷ qs) = first_put p q qs (put place_cmp p qs)

least-ordered : (ps : List (ℕ × ℕ)) → option_map clash_at (head (ordered place_cmp ps)) ≡ least (map clash_at ps)
least-ordered [] = refl
least-ordered (p ∷ ps) = after_put p (ordered place_cmp ps) ∙ ap (λ o. Some (earlier (clash_at p) o)) (least-ordered ps)

least-by : (o : Option (ℕ × ℕ)) → least (clash_by o) ≡ option_map clash_at o
least-by None = refl
least-by (Some p) = refl

least-clash : (us : List (Facts Text)) → least (first_clash us) ≡ least (clashes (causes (places_of 0 us)))
least-clash us =
    let cs = causes (places_of 0 us) in
    least-by (slice_get (clash_places us) 0) ∙ least-ordered (map place_of (clashes cs)) ∙ ap least (clashes-places cs cs)

-- the least of all of them
pub first_is : (us : List (Facts Text)) (faults : List Fault)
    → faults ≡ unmet us ++ repeated us ++ flat_map (missing (places_of 0 us)) (places_of 0 us) ++ first_clash us ++ flat_map (λ x. split_at x.0 x.1) (steps [] (places_of 0 us)) → least faults ≡ first_link us
first_is us faults e =
    let ps = places_of 0 us in
    let before = unmet us ++ repeated us ++ flat_map (missing ps) ps in
    ap least e
    ∙ least-front (before ++ first_clash us) (before ++ clashes (causes ps)) (flat_map (λ x. split_at x.0 x.1) (steps [] ps)) (least-back before (first_clash us) (clashes (causes ps)) (least-clash us))

pub collected : (us : List (Facts Text)) (none one two three four five : List Fault) → none ≡ [] → one ≡ none ++ unmet us → two ≡ one ++ repeated us → three ≡ two ++ flat_map (missing (places_of 0 us)) (places_of 0 us) → four ≡ three ++ first_clash us
    → five ≡ four ++ flat_map (λ x. split_at x.0 x.1) (steps [] (places_of 0 us)) → least five ≡ first_link us
collected us none one two three four five a b c d e f =
    let ps = places_of 0 us in
    let first : one ≡ unmet us = b ∙ ap (λ l. l ++ unmet us) a in
    let second : two ≡ unmet us ++ repeated us = c ∙ ap (λ l. l ++ repeated us) first in
    let third : three ≡ unmet us ++ repeated us ++ flat_map (missing ps) ps = d ∙ ap (λ l. l ++ flat_map (missing ps) ps) second in
    first_is us five (f ∙ ap (λ l. l ++ flat_map (λ x. split_at x.0 x.1) (steps [] ps)) (e ∙ ap (λ l. l ++ first_clash us) third))
