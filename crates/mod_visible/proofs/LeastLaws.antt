-- The causes at the first places, one cause after another.
use Rattle.std.proofs.Common.{◌≡◌, ℕ, ◌+◌, ◌<◌, ◌≤◌, List, [], ◌∷◌, ◌++◌, length, take, get_or, nat_lt, nat_eq, Bool, true, false, not, ◌&&◌, ◌||◌, cond, refl, sym, ap, subst, ◌∙◌, arith, eqb-true, ltb-true, ltb-false, eq-eqb, lt-ltb, inl, inr, ◌⊎◌, Option, Some, None}
use Rattle.std.specs.Prelude.{Contains}
use Rattle.std.specs.Map.{lookup}
use Rattle.std.proofs.lemmas.Bool.{and_parts, and_from, or_cases, or_left, or_right, eqb-false}
use Rattle.std.proofs.lemmas.List.{take_more, take_all}
use Rattle.std.proofs.lemmas.List.Elements.{Contains-append_left, Contains-append_right, Contains-append_cases}
use Rattle.mod_visible.specs.declared.cause.Cause.{Cause}
use Rattle.mod_visible.specs.declared.keys.Key.{Key}
use Rattle.mod_visible.specs.declared.keys.Key.TheVariants.{Seen, Given}
use Rattle.mod_visible.specs.Leasts.{key_of, same_key, is_before, is_upto, lower, is_wanted, IsLeastOf, IsLeast, IsWanted, AreLeasts}
use Rattle.mod_visible.proofs.ChainLaws.{same_procedure-is, same_procedure-itself}
use Rattle.mod_visible.proofs.Members.{in-nil, in-here, in-cases}

-- ---- keys

pub same_key-is : (k l : Key) → same_key k l ≡ true → k ≡ l
same_key-is (Seen p) (Seen q) h = ap Seen (same_procedure-is p q h)
same_key-is (Given p) (Given q) h = ap Given (same_procedure-is p q h)
same_key-is (Seen p) (Given q) h = absurd cc
same_key-is (Given p) (Seen q) h = absurd cc

pub same_key-itself : (k : Key) → same_key k k ≡ true
same_key-itself (Seen p) = same_procedure-itself p
same_key-itself (Given p) = same_procedure-itself p

-- ---- places

abbrev Upto : ℕ → ℕ → ℕ → ℕ → Type 0
Upto u b v d = (u < v) ⊎ ((u ≡ v) × (b ≤ d))

not-true : (b : Bool) → not b ≡ true → b ≡ false
not-true true e = absurd cc
not-true false e = refl

upto_of : (u b v d : ℕ) → (nat_lt u v || (nat_eq u v && not (nat_lt d b))) ≡ true → Upto u b v d
upto_of u b v d h = elim (or_cases (nat_lt u v) (nat_eq u v && not (nat_lt d b)) h) [
  | inl l ↦ inl (ltb-true u v l)
  | inr r ↦ let p = and_parts (nat_eq u v) (not (nat_lt d b)) r in inr (eqb-true u v p.0, ltb-false d b (not-true (nat_lt d b) p.1))
]

upto_by : (u b v d : ℕ) → Upto u b v d → (nat_lt u v || (nat_eq u v && not (nat_lt d b))) ≡ true
upto_by u b v d (inl l) = or_left (nat_lt u v) (nat_eq u v && not (nat_lt d b)) (lt-ltb u v l)
upto_by u b v d (inr (e, le)) = or_right (nat_lt u v) (nat_eq u v && not (nat_lt d b)) (and_from (nat_eq u v) (not (nat_lt d b)) (eq-eqb u v e) (go (nat_lt d b) refl))
  where
    go : (t : Bool) → nat_lt d b ≡ t → not t ≡ true
    go true f = absurd (let lt : d < b = ltb-true d b f in omega arith)
    go false f = refl

joined : (u b v d w f : ℕ) → Upto u b v d → Upto v d w f → Upto u b w f
joined u b v d w f (inl x) (inl y) = inl (omega arith)
joined u b v d w f (inl x) (inr (e, y)) = inl (omega arith)
joined u b v d w f (inr (e, x)) (inl y) = inl (omega arith)
joined u b v d w f (inr (e, x)) (inr (g, y)) = inr (omega arith, omega arith)

pub upto_itself : (c : Cause) → is_upto c c ≡ true
upto_itself c = upto_by c.unit c.byte c.unit c.byte (inr (refl, omega arith))

pub upto_trans : (c d e : Cause) → is_upto c d ≡ true → is_upto d e ≡ true → is_upto c e ≡ true
upto_trans c d e h k = upto_by c.unit c.byte e.unit e.byte (joined c.unit c.byte d.unit d.byte e.unit e.byte (upto_of c.unit c.byte d.unit d.byte h) (upto_of d.unit d.byte e.unit e.byte k))

before_upto : (c e : Cause) → is_before c e ≡ true → is_upto c e ≡ true
before_upto c e h = upto_by c.unit c.byte e.unit e.byte (elim (or_cases (nat_lt c.unit e.unit) (nat_eq c.unit e.unit && nat_lt c.byte e.byte) h) [
  | inl l ↦ inl (ltb-true c.unit e.unit l)
  | inr r ↦ let p = and_parts (nat_eq c.unit e.unit) (nat_lt c.byte e.byte) r in inr (eqb-true c.unit e.unit p.0, (let lt : c.byte < e.byte = ltb-true c.byte e.byte p.1 in omega arith))
])

else_upto : (c e : Cause) → is_before c e ≡ false → is_upto e c ≡ true
else_upto c e h = upto_by e.unit e.byte c.unit c.byte (go (nat_lt c.unit e.unit) refl (nat_eq c.unit e.unit) refl (nat_lt c.byte e.byte) refl h)
  where
    go : (x : Bool) → nat_lt c.unit e.unit ≡ x → (y : Bool) → nat_eq c.unit e.unit ≡ y → (z : Bool) → nat_lt c.byte e.byte ≡ z → (x || (y && z)) ≡ false → Upto e.unit e.byte c.unit c.byte
    go true p y q z r h = absurd cc
    go false p true q true r h = absurd cc
    go false p true q false r h = inr (sym (eqb-true c.unit e.unit q), ltb-false c.byte e.byte r)
    go false p false q z r h =
        let le : e.unit ≤ c.unit = ltb-false c.unit e.unit p in
        let ne : c.unit ≡ e.unit → ⊥ = eqb-false c.unit e.unit q in
        let lt : e.unit < c.unit = omega arith in
        inl lt

-- ---- one more cause

module _ (P : Cause → Type 0) (cs : List Cause) (c : Cause) where
  abbrev grown : List Cause
  grown = cs ++ c ∷ []

  old_in : (e : Cause) → Contains cs e → Contains grown e
  old_in e i = Contains-append_left cs (c ∷ []) e i

  new_in : Contains grown c
  new_in = Contains-append_right cs (c ∷ []) c (in-here c [])

  either : (e : Cause) → Contains grown e → Contains cs e ⊎ (c ≡ e)
  either e i = elim (Contains-append_cases cs (c ∷ []) e i) [
    | inl a ↦ inl a
    | inr b ↦ elim (in-cases c e [] b) [ inl f ↦ inr f | inr j ↦ absurd (in-nil e j) ]
  ]

  least_more : (o : Option Cause) → IsLeast P cs o → P c → IsLeast P grown (Some (lower o c))
  least_more None h p = record {
    there = new_in;
    has = p;
    least = λ e i q. elim (either e i) [ inl a ↦ absurd (h e a q) | inr f ↦ subst (λ x. is_upto c x ≡ true) f (upto_itself c) ];
  }
  least_more (Some d) h p = go (is_before c d) refl
    where
      go : (b : Bool) → is_before c d ≡ b → IsLeastOf P grown (cond b c d)
      go true t =
          let first = before_upto c d t in
          record {
            there = new_in;
            has = p;
            least = λ e i q. elim (either e i) [ inl a ↦ upto_trans c d e first (h.least e a q) | inr f ↦ subst (λ x. is_upto c x ≡ true) f (upto_itself c) ];
          }
      go false t = record {
        there = old_in d h.there;
        has = h.has;
        least = λ e i q. elim (either e i) [ inl a ↦ h.least e a q | inr f ↦ subst (λ x. is_upto d x ≡ true) f (else_upto c d t) ];
      }

  least_kept : (o : Option Cause) → IsLeast P cs o → (P c → ⊥) → IsLeast P grown o
  least_kept None h never = λ e i q. elim (either e i) [ inl a ↦ h e a q | inr f ↦ never (subst P (sym f) q) ]
  least_kept (Some d) h never = record {
    there = old_in d h.there;
    has = h.has;
    least = λ e i q. elim (either e i) [ inl a ↦ h.least e a q | inr f ↦ absurd (never (subst P (sym f) q)) ];
  }

-- ---- the loop

pub leasts_start : (table leasts : List (Key × Cause)) → leasts ≡ [] → AreLeasts table [] leasts
leasts_start table leasts e = λ k. subst (λ l. IsLeast (IsWanted table k) [] (lookup (same_key k) l)) (sym e) (λ c i p. in-nil c i)

module _ (table : List (Key × Cause)) (causes : List Cause) (n : ℕ) (d : Cause) (old : List (Key × Cause)) (lt : n < length causes) (h : AreLeasts table (take n causes) old) where
  abbrev it : Cause
  it = get_or causes n d

  pub leasts_more : (new : List (Key × Cause)) → is_wanted table it ≡ true
      → ((k : Key) → lookup (same_key k) new ≡ cond (same_key (key_of it) k) (Some (lower (lookup (same_key (key_of it)) old) it)) (lookup (same_key k) old))
      → AreLeasts table (take (n + 1) causes) new
  leasts_more new w step = λ k.
      subst (λ l. IsLeast (IsWanted table k) l (lookup (same_key k) new)) (sym (take_more causes n d lt))
      (subst (IsLeast (IsWanted table k) (take n causes ++ it ∷ [])) (sym (step k)) (go k (same_key (key_of it) k) refl))
    where
      go : (k : Key) (b : Bool) → same_key (key_of it) k ≡ b → IsLeast (IsWanted table k) (take n causes ++ it ∷ []) (cond b (Some (lower (lookup (same_key (key_of it)) old) it)) (lookup (same_key k) old))
      go k true e =
          let is = same_key-is (key_of it) k e in
          subst (λ l. IsLeast (IsWanted table l) (take n causes ++ it ∷ []) (Some (lower (lookup (same_key (key_of it)) old) it))) is
          (least_more (IsWanted table (key_of it)) (take n causes) it (lookup (same_key (key_of it)) old) (h (key_of it)) (refl, w))
      go k false e =
          least_kept (IsWanted table k) (take n causes) it (lookup (same_key k) old) (h k)
          (λ p. let t : false ≡ true = sym e ∙ subst (λ l. same_key (key_of it) l ≡ true) p.0 (same_key-itself (key_of it)) in cc)

  pub leasts_same : is_wanted table it ≡ false → AreLeasts table (take (n + 1) causes) old
  leasts_same w = λ k.
      subst (λ l. IsLeast (IsWanted table k) l (lookup (same_key k) old)) (sym (take_more causes n d lt))
      (least_kept (IsWanted table k) (take n causes) it (lookup (same_key k) old) (h k) (λ p. let t : false ≡ true = sym w ∙ p.1 in cc))

pub leasts_all : (table : List (Key × Cause)) (causes : List Cause) (n : ℕ) (leasts : List (Key × Cause)) → length causes ≤ n → AreLeasts table (take n causes) leasts → AreLeasts table causes leasts
leasts_all table causes n leasts le h = subst (λ l. AreLeasts table l leasts) (take_all n causes le) h
