-- A field that is read is the field that was written, and what was written is read again.
use Rattle.std.proofs.Common.{◌≡◌, ℕ, zero, suc, ◌+◌, ◌^◌, ◌<◌, ◌≤◌, Bool, true, false, cond, ltb, eqb, List, [], ◌∷◌, ◌++◌, length, get_or, take, drop, Option, Some, None, refl, sym, ap, subst, ◌∙◌, append_assoc, arith, inl, inr, eqb-true, ◌⊎◌, map, if◌then◌else◌}
use Rattle.std.specs.Int.{Width, w16, w32, w64, byte_len, from_be_bytes, to_be_bytes}
use Rattle.std.specs.List.{flat_map, AllByRecursion}
use Rattle.std.proofs.lemmas.Bool.{cases_lt, ltb-false, le-ltb}
use Rattle.std.proofs.lemmas.List.{take_at, drop_at, take-append-drop, length-append, length-take, get_or-drop, get_or-take, get_or_past}
use Rattle.std.proofs.lemmas.List.Concat.{flat_map_single}
use Rattle.std.proofs.lemmas.Nat.{be_bytes_2, be_bytes_4, be_bytes_8, from_be_bytes-to_be_bytes_2, from_be_bytes-to_be_bytes_4, from_be_bytes-to_be_bytes_8}
use Rattle.pl_ops.specs.declared.op.Kind.{Kind}
use Rattle.pl_ops.specs.declared.op.Kind.TheVariants.{Xfx as xfx, Xfy as xfy, Yfx as yfx, Fx as fx, Fy as fy, Xf as xf, Yf as yf}
use Rattle.unit_model.specs.Encoding.{kind_byte, operator_bytes, indicator_bytes, counted, need_bytes, name_bytes, mode_byte}
use Rattle.unit_model.specs.Validity.{FitsIndicator, FitsOperator, FitsNeed}
use Rattle.unit_format.specs.Reading.{◌>>=◌, Reader, number_at, byte_at, items_at, counted_at, text_at, kind_of, kind_at, operator_at, indicator_at, need_at, flag_of, flag_at, modes_at, then_at, pair, operator_of, indicator_of, need_of}

abbrev pub IsBytes : List ℕ → Type 0
IsBytes bytes = (i : ℕ) → get_or bytes i 0 < 256

pub IsBytes-drop : (n : ℕ) (bytes : List ℕ) → IsBytes bytes → IsBytes (drop n bytes)
IsBytes-drop n bytes h i = rw get_or-drop (h (n + i))

IsBytes-take : (n : ℕ) (bytes : List ℕ) → IsBytes bytes → IsBytes (take n bytes)
IsBytes-take n bytes h i =
    elim (cases_lt i n) [
      | inl lt ↦ rw (get_or-take n bytes i 0 lt) (h i)
      | inr le ↦ rw (get_or_past (take n bytes) i 0 (omega (arith, length-take n bytes))) (omega arith)
    ]

-- the value of a step that did not fail
pub bind_some : {A B : Type 0} (r : Option A) (f : A → Option B) (y : B) → (r >>= f) ≡ Some y → (x : A) × (r ≡ Some x) × (f x ≡ Some y)
bind_some (Some x) f y e = (x, refl, e)
bind_some None f y e = absurd cc

-- a test that did not fail
pub guard_some : {A : Type 0} (b : Bool) (x y : A) → cond b None (Some x) ≡ Some y → (b ≡ false) × (x ≡ y)
guard_some true x y e = absurd cc
guard_some false x y e = (refl, cc)

abbrev done : {A : Type 0} → A → Option A
done x = Some x

pub some_is : {A : Type 0} (x y : A) → done x ≡ done y → x ≡ y
some_is x y e = cc

-- what a reader took from the front
pub record Takes (bytes text rest : List ℕ) : Type 0 where
  pub parts : bytes ≡ text ++ rest
  pub rest_fits : IsBytes rest

pub Takes-then : (a x b y c : List ℕ) → Takes a x b → Takes b y c → Takes a (x ++ y) c
Takes-then a x b y c p q = record { parts = p.parts ∙ ap (λ (t : List ℕ). x ++ t) q.parts ∙ sym (append_assoc x y c); rest_fits = q.rest_fits }

-- the two laws of a field
pub record IsField {X : Type 0} (read : Reader X) (spelled : X → List ℕ) (Fits : X → Type 0) : Type 0 where
  pub takes : (bytes : List ℕ) (x : X) (rest : List ℕ) → IsBytes bytes → read bytes ≡ Some (x, rest) → Takes bytes (spelled x) rest × Fits x
  pub again : (x : X) (rest : List ℕ) → Fits x → read (spelled x ++ rest) ≡ Some (x, rest)

-- ---- numbers

record IsWide (w : Width) (limit : ℕ) : Type 0 where
  pub len : (n : ℕ) → length (to_be_bytes w n) ≡ byte_len w
  pub back : (bytes : List ℕ) → length bytes ≡ byte_len w → IsBytes bytes → to_be_bytes w (from_be_bytes w bytes) ≡ bytes
  pub again : (n : ℕ) → n < limit → from_be_bytes w (to_be_bytes w n) ≡ n
  pub below : (bytes : List ℕ) → IsBytes bytes → from_be_bytes w bytes < limit

wide16 : IsWide w16 (2 ^ 16)
wide16 = record {
  len = λ n. refl;
  back = λ bytes len fits. be_bytes_2 bytes _ len fits refl;
  again = λ n lt. from_be_bytes-to_be_bytes_2 n lt;
  below = λ bytes fits. omega (arith, fits 0, fits 1);
}

wide32 : IsWide w32 (2 ^ 32)
wide32 = record {
  len = λ n. refl;
  back = λ bytes len fits. be_bytes_4 bytes _ len fits refl;
  again = λ n lt. from_be_bytes-to_be_bytes_4 n lt;
  below = λ bytes fits. omega (arith, fits 0, fits 1, fits 2, fits 3);
}

wide64 : IsWide w64 (2 ^ 64)
wide64 = record {
  len = λ n. refl;
  back = λ bytes len fits. be_bytes_8 bytes _ len fits refl;
  again = λ n lt. from_be_bytes-to_be_bytes_8 n lt;
  below = λ bytes fits. omega (arith, fits 0, fits 1, fits 2, fits 3, fits 4, fits 5, fits 6, fits 7);
}

number_field : (w : Width) (limit : ℕ) → IsWide w limit → IsField (number_at w) (to_be_bytes w) (λ n. n < limit)
number_field w limit wide = record {
  takes = λ bytes n rest fits e.
      let g = guard_some (ltb (length bytes) (byte_len w)) (from_be_bytes w (take (byte_len w) bytes), drop (byte_len w) bytes) (n, rest) e in
      let long : byte_len w ≤ length bytes = ltb-false _ _ g.0 in
      let n-is : from_be_bytes w (take (byte_len w) bytes) ≡ n = ap (λ (p : ℕ × List ℕ). p.0) g.1 in
      let rest-is : drop (byte_len w) bytes ≡ rest = ap (λ (p : ℕ × List ℕ). p.1) g.1 in
      let front : to_be_bytes w n ≡ take (byte_len w) bytes = rw (← n-is) (wide.back (take (byte_len w) bytes) (omega (arith, length-take (byte_len w) bytes)) (IsBytes-take (byte_len w) bytes fits)) in
      (record { parts = rw (front, ← rest-is) (sym (take-append-drop (byte_len w) bytes)); rest_fits = rw (← rest-is) (IsBytes-drop (byte_len w) bytes fits) }, rw (← n-is) (wide.below (take (byte_len w) bytes) (IsBytes-take (byte_len w) bytes fits)));
  again = λ n rest lt.
      let len = wide.len n in
      let long : ltb (length (to_be_bytes w n ++ rest)) (byte_len w) ≡ false = le-ltb _ _ (omega (arith, length-append (to_be_bytes w n) rest)) in
      rw (long, take_at (to_be_bytes w n) rest (byte_len w) len, drop_at (to_be_bytes w n) rest (byte_len w) len, wide.again n lt) refl;
}

pub field16 : IsField (number_at w16) (to_be_bytes w16) (λ n. n < 2 ^ 16)
field16 = number_field w16 (2 ^ 16) wide16

pub field32 : IsField (number_at w32) (to_be_bytes w32) (λ n. n < 2 ^ 32)
field32 = number_field w32 (2 ^ 32) wide32

pub field64 : IsField (number_at w64) (to_be_bytes w64) (λ n. n < 2 ^ 64)
field64 = number_field w64 (2 ^ 64) wide64

abbrev pub one : ℕ → List ℕ
one b = b ∷ []

byte_takes : (bytes : List ℕ) (b : ℕ) (rest : List ℕ) → IsBytes bytes → byte_at bytes ≡ Some (b, rest) → Takes bytes (one b) rest × (b < 256)
byte_takes [] b rest fits e = absurd cc
byte_takes (c ∷ bytes) b rest fits e =
    subst (λ (x : ℕ × List ℕ). Takes (c ∷ bytes) (one x.0) x.1 × (x.0 < 256)) (some_is (c, bytes) (b, rest) e) (record { parts = refl; rest_fits = λ i. fits (suc i) }, fits 0)

pub byte_field : IsField byte_at one (λ b. b < 256)
byte_field = record { takes = byte_takes; again = λ b rest lt. refl }

-- ---- two fields, one after the other, made into one

pub record IsMade {A B X : Type 0} (made : A → B → X) (first : X → A) (second : X → B) : Type 0 where
  pub first_is : (a : A) (b : B) → first (made a b) ≡ a
  pub second_is : (a : A) (b : B) → second (made a b) ≡ b
  pub made_is : (x : X) → made (first x) (second x) ≡ x

pub then_field : {A B X : Type 0} (made : A → B → X) (first : X → A) (second : X → B) (is : IsMade made first second) (f : Reader A) (spelled_a : A → List ℕ) (FitsA : A → Type 0) (g : Reader B) (spelled_b : B → List ℕ) (FitsB : B → Type 0)
    → IsField f spelled_a FitsA → IsField g spelled_b FitsB → IsField (then_at made f g) (λ x. spelled_a (first x) ++ spelled_b (second x)) (λ x. FitsA (first x) × FitsB (second x))
then_field {A} {B} {X} made first second is f spelled_a FitsA g spelled_b FitsB field_a field_b = record {
  takes = λ bytes x rest fits e.
      let a = bind_some (f bytes) (λ a. g a.1 >>= λ b. Some (made a.0 b.0, b.1)) (x, rest) e in
      let b = bind_some (g a.0.1) (λ b. Some (made a.0.0 b.0, b.1)) (x, rest) a.2 in
      let t = field_a.takes bytes a.0.0 a.0.1 fits a.1 in
      let u = field_b.takes a.0.1 b.0.0 b.0.1 t.0.rest_fits b.1 in
      let both : Takes bytes (spelled_a a.0.0 ++ spelled_b b.0.0) b.0.1 = Takes-then bytes (spelled_a a.0.0) a.0.1 (spelled_b b.0.0) b.0.1 t.0 u.0 in
      let P = λ (p : A) (q : B). Takes bytes (spelled_a p ++ spelled_b q) b.0.1 × (FitsA p × FitsB q) in
      let one : P (first (made a.0.0 b.0.0)) (second (made a.0.0 b.0.0)) = rw (is.first_is a.0.0 b.0.0, is.second_is a.0.0 b.0.0) (both, (t.1, u.1)) in
      subst (λ (y : X × List ℕ). Takes bytes (spelled_a (first y.0) ++ spelled_b (second y.0)) y.1 × (FitsA (first y.0) × FitsB (second y.0))) (some_is (made a.0.0 b.0.0, b.0.1) (x, rest) b.2) one;
  again = λ x rest h.
      ap (then_at made f g) (append_assoc (spelled_a (first x)) (spelled_b (second x)) rest)
      ∙ ap (λ r. r >>= λ a. g a.1 >>= λ b. Some (made a.0 b.0, b.1)) (field_a.again (first x) (spelled_b (second x) ++ rest) h.0)
      ∙ ap (λ r. r >>= λ b. Some (made (first x) b.0, b.1)) (field_b.again (second x) rest h.1)
      ∙ ap (λ y. Some (y, rest)) (is.made_is x);
}

-- ---- many

items_takes : {X : Type 0} (f : Reader X) (spelled : X → List ℕ) (Fits : X → Type 0) → IsField f spelled Fits → (n : ℕ) (bytes : List ℕ) (x : List X × List ℕ) → IsBytes bytes → items_at f n bytes ≡ Some x → Takes bytes (flat_map spelled x.0) x.1 × (length x.0 ≡ n) × AllByRecursion Fits x.0
unfolding items_at
items_takes {X} f spelled Fits field zero bytes x fits e =
    subst (λ (y : List X × List ℕ). Takes bytes (flat_map spelled y.0) y.1 × (length y.0 ≡ 0) × AllByRecursion Fits y.0) (some_is ([], bytes) x e) (record { parts = refl; rest_fits = fits }, refl, tt)
items_takes {X} f spelled Fits field (suc n) bytes x fits e =
    let a = bind_some (f bytes) (λ first. items_at f n first.1 >>= λ others. Some (first.0 ∷ others.0, others.1)) x e in
    let b = bind_some (items_at f n a.0.1) (λ others. Some (a.0.0 ∷ others.0, others.1)) x a.2 in
    let first = field.takes bytes a.0.0 a.0.1 fits a.1 in
    let second = items_takes f spelled Fits field n a.0.1 b.0 first.0.rest_fits b.1 in
    let both = Takes-then bytes (spelled a.0.0) a.0.1 (flat_map spelled b.0.0) b.0.1 first.0 second.0 in
    let made : List X × List ℕ = (a.0.0 ∷ b.0.0, b.0.1) in
    subst (λ (y : List X × List ℕ). Takes bytes (flat_map spelled y.0) y.1 × (length y.0 ≡ suc n) × AllByRecursion Fits y.0) (some_is made x b.2) (both, ap suc second.1, (first.1, second.2))

items_again : {X : Type 0} (f : Reader X) (spelled : X → List ℕ) (Fits : X → Type 0) → IsField f spelled Fits → (xs : List X) (rest : List ℕ) → AllByRecursion Fits xs → items_at f (length xs) (flat_map spelled xs ++ rest) ≡ Some (xs, rest)
unfolding items_at
items_again f spelled Fits field [] rest h = refl
items_again f spelled Fits field (x ∷ xs) rest h =
    ap (items_at f (suc (length xs))) (append_assoc (spelled x) (flat_map spelled xs) rest)
    ∙ ap (λ r. r >>= λ a. items_at f (length xs) a.1 >>= λ others. Some (a.0 ∷ others.0, others.1)) (field.again x (flat_map spelled xs ++ rest) h.0)
    ∙ ap (λ r. r >>= λ others. Some (x ∷ others.0, others.1)) (items_again f spelled Fits field xs rest h.1)

abbrev pub Many : {X : Type 0} → ℕ → (X → Type 0) → List X → Type 0
Many limit Fits xs = (length xs < limit) × AllByRecursion Fits xs

-- a count by a reader of numbers, and so many
abbrev pub times_at : {X : Type 0} → Reader ℕ → Reader X → Reader (List X)
times_at count f bytes = count bytes >>= λ n. items_at f n.0 n.1

pub times_field : {X : Type 0} (count : Reader ℕ) (number : ℕ → List ℕ) (limit : ℕ) (f : Reader X) (spelled : X → List ℕ) (Fits : X → Type 0) → IsField count number (λ n. n < limit) → IsField f spelled Fits
    → IsField (times_at count f) (λ xs. number (length xs) ++ flat_map spelled xs) (Many limit Fits)
times_field {X} count number limit f spelled Fits counts field = record {
  takes = λ bytes xs rest fits e.
      let a = bind_some (count bytes) (λ n. items_at f n.0 n.1) (xs, rest) e in
      let t = counts.takes bytes a.0.0 a.0.1 fits a.1 in
      let u = items_takes f spelled Fits field a.0.0 a.0.1 (xs, rest) t.0.rest_fits a.2 in
      let both : Takes bytes (number a.0.0 ++ flat_map spelled xs) rest = Takes-then bytes (number a.0.0) a.0.1 (flat_map spelled xs) rest t.0 u.0 in
      (rw u.1 both, (rw u.1 t.1, u.2));
  again = λ xs rest h.
      ap (times_at count f) (append_assoc (number (length xs)) (flat_map spelled xs) rest)
      ∙ ap (λ r. r >>= λ n. items_at f n.0 n.1) (counts.again (length xs) (flat_map spelled xs ++ rest) h.0)
      ∙ items_again f spelled Fits field xs rest h.1;
}

pub counted_field : {X : Type 0} (f : Reader X) (spelled : X → List ℕ) (Fits : X → Type 0) → IsField f spelled Fits → IsField (counted_at f) (counted spelled) (Many (2 ^ 32) Fits)
unfolding counted_at
counted_field f spelled Fits field = times_field (number_at w32) (to_be_bytes w32) (2 ^ 32) f spelled Fits field32 field

-- ---- the fields of needs and indicators

-- which way a test went
pub chosen : {A : Type 0} (b : Bool) (x y z : A) → cond b x y ≡ z → ((b ≡ true) × (x ≡ z)) ⊎ ((b ≡ false) × (y ≡ z))
chosen true x y z e = inl (refl, e)
chosen false x y z e = inr (refl, e)

pub pair_made : {A B : Type 0} → IsMade {A = A} {B = B} pair (λ x. x.0) (λ x. x.1)
pair_made = record { first_is = λ a b. refl; second_is = λ a b. refl; made_is = λ x. refl }

-- a code of one byte
pub code_field : {X : Type 0} (read : ℕ → Option X) (byte : X → ℕ) → ((b : ℕ) (x : X) → read b ≡ Some x → byte x ≡ b) → ((x : X) → read (byte x) ≡ Some x) → IsField (λ bytes. byte_at bytes >>= λ b. read b.0 >>= λ x. Some (x, b.1)) (λ x. one (byte x)) (λ x. Unit {0})
code_field {X} read byte back there = record {
  takes = λ bytes x rest fits e.
      let a = bind_some (byte_at bytes) (λ b. read b.0 >>= λ y. Some (y, b.1)) (x, rest) e in
      let b = bind_some (read a.0.0) (λ y. Some (y, a.0.1)) (x, rest) a.2 in
      let t = byte_takes bytes a.0.0 a.0.1 fits a.1 in
      (subst (λ (y : X × List ℕ). Takes bytes (one (byte y.0)) y.1) (some_is (b.0, a.0.1) (x, rest) b.2) (rw (back a.0.0 b.0 b.1) t.0), tt);
  again = λ x rest h. ap (λ r. r >>= λ y. Some (y, rest)) (there x);
}

kind_of-back : (b : ℕ) (x : Kind) → kind_of b ≡ Some x → kind_byte x ≡ b
kind_of-back b x e =
    (elim (chosen (eqb b 1) (Some xfx) (if eqb b 2 then Some xfy else (if eqb b 3 then Some yfx else (if eqb b 4 then Some fx else (if eqb b 5 then Some fy else (if eqb b 6 then Some xf else (if eqb b 7 then Some yf else None)))))) (Some x) e) [ inl h0 ↦ (let same : xfx ≡ x = cc in ap kind_byte (sym same) ∙ sym (eqb-true b 1 h0.0)) | inr n0 ↦ (elim (chosen (eqb b 2) (Some xfy) (if eqb b 3 then Some yfx else (if eqb b 4 then Some fx else (if eqb b 5 then Some fy else (if eqb b 6 then Some xf else (if eqb b 7 then Some yf else None))))) (Some x) n0.1) [ inl h1 ↦ (let same : xfy ≡ x = cc in ap kind_byte (sym same) ∙ sym (eqb-true b 2 h1.0)) | inr n1 ↦ (elim (chosen (eqb b 3) (Some yfx) (if eqb b 4 then Some fx else (if eqb b 5 then Some fy else (if eqb b 6 then Some xf else (if eqb b 7 then Some yf else None)))) (Some x) n1.1) [ inl h2 ↦ (let same : yfx ≡ x = cc in ap kind_byte (sym same) ∙ sym (eqb-true b 3 h2.0)) | inr n2 ↦ (elim (chosen (eqb b 4) (Some fx) (if eqb b 5 then Some fy else (if eqb b 6 then Some xf else (if eqb b 7 then Some yf else None))) (Some x) n2.1) [ inl h3 ↦ (let same : fx ≡ x = cc in ap kind_byte (sym same) ∙ sym (eqb-true b 4 h3.0)) | inr n3 ↦ (elim (chosen (eqb b 5) (Some fy) (if eqb b 6 then Some xf else (if eqb b 7 then Some yf else None)) (Some x) n3.1) [ inl h4 ↦ (let same : fy ≡ x = cc in ap kind_byte (sym same) ∙ sym (eqb-true b 5 h4.0)) | inr n4 ↦ (elim (chosen (eqb b 6) (Some xf) (if eqb b 7 then Some yf else None) (Some x) n4.1) [ inl h5 ↦ (let same : xf ≡ x = cc in ap kind_byte (sym same) ∙ sym (eqb-true b 6 h5.0)) | inr n5 ↦ (elim (chosen (eqb b 7) (Some yf) None (Some x) n5.1) [ inl h6 ↦ (let same : yf ≡ x = cc in ap kind_byte (sym same) ∙ sym (eqb-true b 7 h6.0)) | inr n6 ↦ absurd cc ]) ]) ]) ]) ]) ]) ])

kind_of-there : (k : Kind) → kind_of (kind_byte k) ≡ Some k
kind_of-there xfx = refl
kind_of-there xfy = refl
kind_of-there yfx = refl
kind_of-there fx = refl
kind_of-there fy = refl
kind_of-there xf = refl
kind_of-there yf = refl

pub kind_field : IsField kind_at (λ k. one (kind_byte k)) (λ k. Unit {0})
unfolding kind_at
kind_field = code_field kind_of kind_byte kind_of-back kind_of-there

flag_of-back : (b : ℕ) (x : Bool) → flag_of b ≡ Some x → mode_byte x ≡ b
flag_of-back b x e =
    (elim (chosen (eqb b 0) (Some false) (if eqb b 1 then Some true else None) (Some x) e) [ inl h0 ↦ (let same : false ≡ x = cc in ap mode_byte (sym same) ∙ sym (eqb-true b 0 h0.0)) | inr n0 ↦ (elim (chosen (eqb b 1) (Some true) None (Some x) n0.1) [ inl h1 ↦ (let same : true ≡ x = cc in ap mode_byte (sym same) ∙ sym (eqb-true b 1 h1.0)) | inr n1 ↦ absurd cc ]) ])

flag_of-there : (m : Bool) → flag_of (mode_byte m) ≡ Some m
flag_of-there true = refl
flag_of-there false = refl

pub flag_field : IsField flag_at (λ m. one (mode_byte m)) (λ m. Unit {0})
unfolding flag_at
flag_field = code_field flag_of mode_byte flag_of-back flag_of-there

abbrev pub IsPlace : ℕ → Type 0
IsPlace n = n < 2 ^ 32

-- the same field by another account of what fits
pub field_as : {X : Type 0} (read : Reader X) (spelled other : X → List ℕ) (Fits Other : X → Type 0) → ((x : X) → spelled x ≡ other x) → ((x : X) → Fits x → Other x) → ((x : X) → Other x → Fits x) → IsField read spelled Fits → IsField read other Other
field_as read spelled other Fits Other same to from field = record {
  takes = λ bytes x rest fits e. let t = field.takes bytes x rest fits e in (rw (← same x) t.0, to x t.1);
  again = λ x rest h. ap (λ l. read (l ++ rest)) (sym (same x)) ∙ field.again x rest (from x h);
}

pub operator_field : IsField operator_at operator_bytes (FitsOperator IsPlace)
unfolding operator_at
operator_field =
    field_as operator_at (λ o. to_be_bytes w16 o.op.priority ++ (one (kind_byte o.op.kind) ++ to_be_bytes w32 o.name)) operator_bytes (λ o. (o.op.priority < 2 ^ 16) × (Unit {0} × (o.name < 2 ^ 32))) (FitsOperator IsPlace) (λ o. refl) (λ o h. record { priority = h.0; name = h.1.1 }) (λ o h. (h.priority, (tt, h.name)))
    (then_field operator_of (λ o. o.op.priority) (λ o. (o.op.kind, o.name)) (record { first_is = λ a b. refl; second_is = λ a b. refl; made_is = λ x. refl }) (number_at w16) (to_be_bytes w16) (λ n. n < 2 ^ 16) (then_at pair kind_at (number_at w32)) (λ x. one (kind_byte x.0) ++ to_be_bytes w32 x.1) (λ x. Unit {0} × (x.1 < 2 ^ 32)) field16
    (then_field pair (λ x. x.0) (λ x. x.1) pair_made kind_at (λ k. one (kind_byte k)) (λ k. Unit {0}) (number_at w32) (to_be_bytes w32) (λ n. n < 2 ^ 32) kind_field field32))

pub indicator_field : IsField indicator_at indicator_bytes (FitsIndicator IsPlace)
unfolding indicator_at
indicator_field =
    field_as indicator_at (λ i. to_be_bytes w32 i.name ++ one i.arity) indicator_bytes (λ i. (i.name < 2 ^ 32) × (i.arity < 256)) (FitsIndicator IsPlace) (λ i. refl) (λ i h. record { name = h.0; arity = h.1 }) (λ i h. (h.name, h.arity))
    (then_field indicator_of (λ i. i.name) (λ i. i.arity) (record { first_is = λ a b. refl; second_is = λ a b. refl; made_is = λ x. refl }) (number_at w32) (to_be_bytes w32) (λ n. n < 2 ^ 32) byte_at one (λ b. b < 256) field32 byte_field)

pub two_numbers : IsField (then_at pair (number_at w32) (number_at w32)) (λ x. to_be_bytes w32 x.0 ++ to_be_bytes w32 x.1) (λ x. (x.0 < 2 ^ 32) × (x.1 < 2 ^ 32))
two_numbers = then_field pair (λ x. x.0) (λ x. x.1) pair_made (number_at w32) (to_be_bytes w32) (λ n. n < 2 ^ 32) (number_at w32) (to_be_bytes w32) (λ n. n < 2 ^ 32) field32 field32

pub need_field : IsField need_at need_bytes (FitsNeed IsPlace)
unfolding need_at
need_field =
    field_as need_at (λ n. (to_be_bytes w32 n.byte ++ to_be_bytes w32 n.of) ++ counted operator_bytes n.operators) need_bytes (λ n. ((n.byte < 2 ^ 32) × (n.of < 2 ^ 32)) × Many (2 ^ 32) (FitsOperator IsPlace) n.operators) (FitsNeed IsPlace) (λ n. refl) (λ n h. record { byte = h.0.0; of = h.0.1; length = h.1.0; operators = h.1.1 }) (λ n h. ((h.byte, h.of), (h.length, h.operators)))
    (then_field need_of (λ n. (n.byte, n.of)) (λ n. n.operators) (record { first_is = λ a b. refl; second_is = λ a b. refl; made_is = λ x. refl }) (then_at pair (number_at w32) (number_at w32)) (λ x. to_be_bytes w32 x.0 ++ to_be_bytes w32 x.1) (λ x. (x.0 < 2 ^ 32) × (x.1 < 2 ^ 32)) (counted_at operator_at) (counted operator_bytes) (Many (2 ^ 32) (FitsOperator IsPlace)) two_numbers (counted_field operator_at operator_bytes (FitsOperator IsPlace) operator_field))

all_units : {X : Type 0} (xs : List X) → AllByRecursion (λ x. Unit {0}) xs
all_units [] = tt
all_units (x ∷ xs) = (tt, all_units xs)

pub modes_field : IsField modes_at (λ ms. length ms ∷ map mode_byte ms) (λ ms. length ms < 256)
unfolding modes_at
modes_field =
    field_as modes_at (λ ms. one (length ms) ++ flat_map (λ m. one (mode_byte m)) ms) (λ ms. length ms ∷ map mode_byte ms) (Many 256 (λ m. Unit {0})) (λ ms. length ms < 256) (λ ms. ap (λ (l : List ℕ). length ms ∷ l) (flat_map_single mode_byte ms)) (λ ms h. h.0) (λ ms h. (h, all_units ms))
    (times_field byte_at one 256 flag_at (λ m. one (mode_byte m)) (λ m. Unit {0}) byte_field flag_field)

-- ---- texts

pub text_field : IsField text_at name_bytes (λ s. length s < 2 ^ 32)
unfolding text_at
text_field = record {
  takes = λ bytes s rest fits e.
      let b = bind_some (number_at w32 bytes) (λ n. cond (ltb (length n.1) n.0) None (Some (take n.0 n.1, drop n.0 n.1))) (s, rest) e in
      let n = b.0 in
      let t = field32.takes bytes n.0 n.1 fits b.1 in
      let g = guard_some (ltb (length n.1) n.0) (take n.0 n.1, drop n.0 n.1) (s, rest) b.2 in
      let long : n.0 ≤ length n.1 = ltb-false _ _ g.0 in
      let len : length (take n.0 n.1) ≡ n.0 = omega (arith, length-take n.0 n.1) in
      let second : Takes n.1 (take n.0 n.1) (drop n.0 n.1) = record { parts = sym (take-append-drop n.0 n.1); rest_fits = IsBytes-drop n.0 n.1 t.0.rest_fits } in
      let both = Takes-then bytes (to_be_bytes w32 n.0) n.1 (take n.0 n.1) (drop n.0 n.1) t.0 second in
      let whole : Takes bytes (name_bytes (take n.0 n.1)) (drop n.0 n.1) = subst (λ (k : ℕ). Takes bytes (to_be_bytes w32 k ++ take n.0 n.1) (drop n.0 n.1)) (sym len) both in
      subst (λ (p : List ℕ × List ℕ). Takes bytes (name_bytes p.0) p.1 × (length p.0 < 2 ^ 32)) g.1 (whole, omega (arith, t.1));
  again = λ s rest lt.
      let long : ltb (length (s ++ rest)) (length s) ≡ false = le-ltb _ _ (omega (arith, length-append s rest)) in
      rw (field32.again (length s) (s ++ rest) lt, long, take_at s rest (length s) refl, drop_at s rest (length s) refl) refl;
}
