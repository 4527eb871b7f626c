-- Lists all of whose elements keep to something, and optional values.
use Rattle.std.proofs.Common.{◌≡◌, List, [], ◌∷◌, ◌++◌, map, Bool, true, false, if◌then◌else◌, Option, Some, None, option_map, refl, ap, ◌∙◌}
use Rattle.std.specs.List.{AllByRecursion, list_all, filter_map, cons_option}
use Rattle.std.proofs.lemmas.Bool.{and_from, and_parts}
use Rattle.unit_model.specs.Directives.{first_of, both, single}

pub all-append : {A : Type 0} (P : A → Type 0) (xs ys : List A) → AllByRecursion P xs → AllByRecursion P ys → AllByRecursion P (xs ++ ys)
all-append P [] ys h k = k
all-append P (x ∷ xs) ys h k = (h.0, all-append P xs ys h.1 k)

pub all-weaker : {A : Type 0} (P Q : A → Type 0) → ((a : A) → P a → Q a) → (xs : List A) → AllByRecursion P xs → AllByRecursion Q xs
all-weaker P Q f [] h = tt
all-weaker P Q f (x ∷ xs) h = (f x h.0, all-weaker P Q f xs h.1)

pub all-map : {A B : Type 0} (P : B → Type 0) (f : A → B) (xs : List A) → AllByRecursion (λ a. P (f a)) xs → AllByRecursion P (map f xs)
all-map P f [] h = tt
all-map P f (x ∷ xs) h = (h.0, all-map P f xs h.1)

pub all-tests : {A : Type 0} (P : A → Type 0) (test : A → Bool) → ((a : A) → P a → test a ≡ true) → (xs : List A) → AllByRecursion P xs → list_all test xs ≡ true
all-tests P test f [] h = refl
all-tests P test f (x ∷ xs) h = and_from (test x) (list_all test xs) (f x h.0) (all-tests P test f xs h.1)

pub tests-all : {A : Type 0} (test : A → Bool) (xs : List A) → list_all test xs ≡ true → AllByRecursion (λ a. test a ≡ true) xs
tests-all test [] h = tt
tests-all test (x ∷ xs) h = let p = and_parts (test x) (list_all test xs) h in (p.0, tests-all test xs p.1)

pub all-both : {A : Type 0} (P Q : A → Type 0) (xs : List A) → AllByRecursion P xs → AllByRecursion Q xs → AllByRecursion (λ a. P a × Q a) xs
all-both P Q [] h k = tt
all-both P Q (x ∷ xs) h k = ((h.0, k.0), all-both P Q xs h.1 k.1)

pub filter_map-append : {A B : Type 0} (f : A → Option B) (xs ys : List A) → filter_map f (xs ++ ys) ≡ filter_map f xs ++ filter_map f ys
filter_map-append f [] ys = refl
filter_map-append {B = B} f (x ∷ xs) ys = ap (cons_option (f x)) (filter_map-append f xs ys) ∙ go (f x)
  where
    go : (o : Option B) → cons_option o (filter_map f xs ++ filter_map f ys) ≡ cons_option o (filter_map f xs) ++ filter_map f ys
    go None = refl
    go (Some b) = refl

-- ---- what holds of the value, where there is one

abbrev pub OfSome : {A : Type 0} → (A → Type 0) → Option A → Type 0
OfSome P None = Unit {0}
OfSome P (Some a) = P a

pub of-map : {A B : Type 0} (P : A → Type 0) (Q : B → Type 0) (f : A → B) → ((a : A) → P a → Q (f a)) → (o : Option A) → OfSome P o → OfSome Q (option_map f o)
of-map P Q f k None h = tt
of-map P Q f k (Some a) h = k a h

pub of-both : {A : Type 0} (P : A → Type 0) (o q : Option (List A)) → OfSome (AllByRecursion P) o → OfSome (AllByRecursion P) q → OfSome (AllByRecursion P) (both o q)
of-both P None q h k = tt
of-both P (Some xs) None h k = tt
of-both P (Some xs) (Some ys) h k = all-append P xs ys h k

pub of-single : {A : Type 0} (P : A → Type 0) (o : Option A) → OfSome P o → OfSome (AllByRecursion P) (single o)
of-single P None h = tt
of-single P (Some a) h = (h, tt)

pub of-first : {A : Type 0} (P : A → Type 0) (o q : Option A) → OfSome P o → OfSome P q → OfSome P (first_of o q)
of-first P None q h k = k
of-first P (Some a) q h k = h

pub either-way : {A : Type 0} (P : A → Type 0) (c : Bool) (x y : A) → P x → P y → P (if c then x else y)
either-way P true x y h k = h
either-way P false x y h k = k
