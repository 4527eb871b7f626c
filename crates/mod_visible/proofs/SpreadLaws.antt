-- What takers take: along the links of one source, for one that is given, and until all is found.
use Rattle.std.proofs.Common.{◌≡◌, ℕ, zero, suc, ◌+◌, ◌<◌, ◌≤◌, List, [], ◌∷◌, ◌++◌, length, map, get_or, Bool, true, false, cond, refl, sym, ap, subst, ◌∙◌, Option, Some, None, arith, inl, inr, ◌⊎◌, append_assoc}
use Rattle.std.specs.Prelude.{Contains}
use Rattle.std.specs.List.{list_any}
use Rattle.std.proofs.lemmas.Bool.{cases_lt, or_cases}
use Rattle.std.proofs.lemmas.List.{append-nil, get_or_append_left, get_or-map}
use Rattle.std.proofs.lemmas.List.Elements.{Contains-append_left, Contains-push, Contains-push_cases}
use Rattle.indexmap.specs.IndexSet.{insert_key}
use Rattle.mod_visible.specs.declared.cause.Sort.{Sort}
use Rattle.mod_visible.specs.declared.cause.Sort.TheVariants.{Seeing, Giving}
use Rattle.mod_visible.specs.declared.cause.Cause.{Cause}
use Rattle.mod_visible.specs.declared.keys.Given.{Given}
use Rattle.mod_visible.specs.declared.keys.Source.{Source}
use Rattle.mod_visible.specs.declared.keys.Source.TheVariants.{All, One}
use Rattle.mod_visible.specs.declared.takers.Taker.{Taker}
use Rattle.mod_visible.specs.Keys.{same_given}
use Rattle.mod_visible.specs.Takers.{source_at, IsLast}
use Rattle.mod_visible.specs.Closing.{cause_by, passed, found_by, found_after, IsFrom, Brings, Spreads, Reached, seed, step, Closes}
use Rattle.mod_visible.proofs.ChainLaws.{same_given-is}

-- ---- one more, unless it is there

held : (k : Given) (ks : List Given) → list_any (same_given k) ks ≡ true → Contains ks k
held k [] h = absurd cc
held k (x ∷ ks) h =
    elim (or_cases (same_given k x) (list_any (same_given k) ks) h) [
      | inl a ↦ (0, omega arith, sym (same_given-is k x a))
      | inr b ↦ let c = held k ks b in (suc c.0, omega (arith, c.1), c.2)
    ]

pub record Adds (old : List Given) (g : Given) (new : List Given) : Type 0 where
  pub kept : (more : List Given) × (new ≡ old ++ more)
  pub there : Contains new g
  pub only : (x : Given) → Contains new x → Contains old x ⊎ (x ≡ g)

pub adds_key : (ks : List Given) (k : Given) → Adds ks k (insert_key same_given ks k)
adds_key ks k = go (list_any (same_given k) ks) refl
  where
    go : (b : Bool) → list_any (same_given k) ks ≡ b → Adds ks k (cond b ks (ks ++ k ∷ []))
    go true e = record { kept = ([], sym (append-nil ks)); there = held k ks e; only = λ x i. inl i }
    go false e = record { kept = (k ∷ [], refl); there = Contains-push ks k; only = λ x i. elim (Contains-push_cases ks k x i) [ inl a ↦ inl a | inr b ↦ inr (sym b) ] }

kept_in : {A : Type 0} (old new : List A) (x : A) → (more : List A) × (new ≡ old ++ more) → Contains old x → Contains new x
kept_in old new x k h = rw k.1 (Contains-append_left old k.0 x h)

kept_then : {A : Type 0} (a b c : List A) → (more : List A) × (b ≡ a ++ more) → (more : List A) × (c ≡ b ++ more) → (more : List A) × (c ≡ a ++ more)
kept_then a b c p q = (p.0 ++ q.0, q.1 ∙ ap (λ l. l ++ q.0) p.1 ∙ append_assoc a p.0 q.0)

-- ---- along the links of one source

abbrev pub Left : Option ℕ → ℕ → Type 0
Left None k = ⊥
Left (Some j) k = k ≤ j

abbrev pub IsNext : List Source → Source → Option ℕ → Type 0
IsNext ss s None = Unit {0}
IsNext ss s (Some j) = (j < length ss) × (source_at ss j ≡ s)

abbrev pub left_measure : Option ℕ → ℕ
left_measure None = 0
left_measure (Some j) = suc j

abbrev pub sources : List Taker → List Source
sources = map (λ t. t.source)

abbrev pub IsDone : Taker → Given → List Given → List Cause → Type 0
IsDone t g found causes = Contains causes (cause_by t g) × (t.sort ≡ Giving → Contains found (passed t g))

pub record IsWalked (s : Source) (takers : List Taker) (g : Given) (found : List Given) (causes : List Cause) (found' : List Given) (causes' : List Cause) (at : Option ℕ) : Type 0 where
  pub found_kept : (more : List Given) × (found' ≡ found ++ more)
  pub causes_kept : (more : List Cause) × (causes' ≡ causes ++ more)
  pub next : IsNext (sources takers) s at
  pub done : (k : ℕ) (t : Taker) → k < length takers → get_or takers k t ≡ t → t.source ≡ s → Left at k ⊎ IsDone t g found' causes'
  pub causes_only : (c : Cause) → Contains causes' c → Contains causes c ⊎ ((t : Taker) × (Contains takers t) × (IsFrom s t) × (c ≡ cause_by t g))
  pub found_only : (x : Given) → Contains found' x → Contains found x ⊎ ((t : Taker) × (Contains takers t) × (IsFrom s t) × (t.sort ≡ Giving) × (x ≡ passed t g))

source_of : (takers : List Taker) (k : ℕ) (t : Taker) → k < length takers → get_or takers k t ≡ t → source_at (sources takers) k ≡ t.source
source_of takers k t lt is = get_or-map (λ (x : Taker). x.source) takers k t (All 0) lt ∙ ap (λ (x : Taker). x.source) is

next_of : (ss : List Source) (n : ℕ) (s : Source) (r : Option ℕ) → n ≤ length ss → IsLast ss n s r → IsNext ss s r
next_of ss n s None le h = tt
next_of ss n s (Some j) le h = (omega (arith, h.0), h.1)

left_of : (ss : List Source) (n : ℕ) (s : Source) (r : Option ℕ) → IsLast ss n s r → (k : ℕ) → k < n → source_at ss k ≡ s → Left r k
left_of ss n s None h k lt e = h k lt e
left_of ss n s (Some j) h k lt e =
    elim (cases_lt j k) [
      | inl a ↦ absurd (h.2 k a lt e)
      | inr b ↦ b
    ]

pub walk_start : (s : Source) (takers : List Taker) (g : Given) (found : List Given) (causes : List Cause) (at : Option ℕ) → IsLast (sources takers) (length takers) s at → length (sources takers) ≡ length takers → IsWalked s takers g found causes found causes at
walk_start s takers g found causes at last long = record {
  found_kept = ([], sym (append-nil found));
  causes_kept = ([], sym (append-nil causes));
  next = next_of (sources takers) (length takers) s at (omega (arith, long)) last;
  done = λ k t lt is e. inl (left_of (sources takers) (length takers) s at last k lt (source_of takers k t lt is ∙ e));
  causes_only = λ c i. inl i;
  found_only = λ x i. inl i;
}

-- what one taker adds to what was found
pub record Found (t : Taker) (g : Given) (old new : List Given) : Type 0 where
  pub kept : (more : List Given) × (new ≡ old ++ more)
  pub there : t.sort ≡ Giving → Contains new (passed t g)
  pub only : (x : Given) → Contains new x → Contains old x ⊎ ((t.sort ≡ Giving) × (x ≡ passed t g))

pub found_is : (t : Taker) (g : Given) (old : List Given) → Found t g old (found_after t g old)
found_is t g old = go t.sort refl
  where
    go : (s : Sort) → t.sort ≡ s → Found t g old (found_by s t g old)
    go Giving e =
        let a = adds_key old (passed t g) in
        record { kept = a.kept; there = λ _. a.there; only = λ x i. elim (a.only x i) [ inl b ↦ inl b | inr c ↦ inr (e, c) ] }
    go Seeing e = record { kept = ([], sym (append-nil old)); there = λ is. let wrong : Seeing ≡ Giving = sym e ∙ is in absurd cc; only = λ x i. inl i }

module _ (s : Source) (takers : List Taker) (g : Given) (found : List Given) (causes : List Cause) where
  pub walk_more : (found' found'' : List Given) (causes' causes'' : List Cause) (j : ℕ) (t : Taker) (earlier : Option ℕ) → IsWalked s takers g found causes found' causes' (Some j)
      → get_or takers j t ≡ t → IsLast (sources takers) j t.source earlier → length (sources takers) ≡ length takers → found'' ≡ found_after t g found' → causes'' ≡ causes' ++ cause_by t g ∷ [] → IsWalked s takers g found causes found'' causes'' earlier
  walk_more found' found'' causes' causes'' j t earlier w is chain long f-is c-is =
      let f : Found t g found' found'' = subst (Found t g found') (sym f-is) (found_is t g found') in
      let within : j < length takers = omega (arith, long, w.next.0) in
      let from : t.source ≡ s = sym (source_of takers j t within is) ∙ w.next.1 in
      let chain_s : IsLast (sources takers) j s earlier = subst (λ x. IsLast (sources takers) j x earlier) from chain in
      let here : Contains takers t = (j, within, is) in
      let causes_grown : (more : List Cause) × (causes'' ≡ causes' ++ more) = (cause_by t g ∷ [], c-is) in
      record {
        found_kept = kept_then found found' found'' w.found_kept f.kept;
        causes_kept = kept_then causes causes' causes'' w.causes_kept causes_grown;
        next = next_of (sources takers) j s earlier (omega (arith, long)) chain_s;
        done = λ k u lt at e. elim (w.done k u lt at e) [
          | inl le ↦ elim (cases_lt k j) [
            | inl less ↦ inl (left_of (sources takers) j s earlier chain_s k less (source_of takers k u lt at ∙ e))
            | inr more ↦
                let k-is : k ≡ j = (let l : k ≤ j = le in omega arith) in
                let same : t ≡ u = same_taker k-is u at is lt in
                inr (subst (λ (x : Taker). IsDone x g found'' causes'') same (subst (λ l. Contains l (cause_by t g)) (sym c-is) (Contains-push causes' (cause_by t g)), f.there))
          ]
          | inr d ↦ inr (kept_in causes' causes'' (cause_by u g) causes_grown d.0, λ q. kept_in found' found'' (passed u g) f.kept (d.1 q))
        ];
        causes_only = λ c i. elim (Contains-push_cases causes' (cause_by t g) c (subst (λ l. Contains l c) c-is i)) [
          | inl a ↦ w.causes_only c a
          | inr b ↦ inr (t, here, from, sym b)
        ];
        found_only = λ x i. elim (f.only x i) [
          | inl a ↦ w.found_only x a
          | inr b ↦ inr (t, here, from, b.0, b.1)
        ];
      }
    where
      any_default : {A : Type 0} (xs : List A) (k : ℕ) (d e : A) → k < length xs → get_or xs k d ≡ get_or xs k e
      any_default [] k d e lt = absurd (omega arith)
      any_default (x ∷ xs) zero d e lt = refl
      any_default (x ∷ xs) (suc k) d e lt = any_default xs k d e (omega arith)

      same_taker : {k j : ℕ} {t : Taker} → k ≡ j → (u : Taker) → get_or takers k u ≡ u → get_or takers j t ≡ t → k < length takers → t ≡ u
      same_taker {k} {j} {t} e u at is lt = sym is ∙ ap (λ n. get_or takers n t) (sym e) ∙ any_default takers k t u lt ∙ at

  pub walk_end : (found' : List Given) (causes' : List Cause) → IsWalked s takers g found causes found' causes' None → Spreads (IsFrom s) takers g found causes found' causes'
  walk_end found' causes' w = record {
    found_kept = w.found_kept;
    causes_kept = w.causes_kept;
    causes_in = λ t i e. elim (w.done i.0 t i.1 i.2 e) [ inl a ↦ absurd a | inr d ↦ d.0 ];
    found_in = λ t i e q. elim (w.done i.0 t i.1 i.2 e) [ inl a ↦ absurd a | inr d ↦ d.1 q ];
    causes_only = w.causes_only;
    found_only = w.found_only;
  }

  pub walk_less : (found' : List Given) (causes' : List Cause) (j : ℕ) (t : Taker) (earlier : Option ℕ) → IsLast (sources takers) j t.source earlier → left_measure earlier < left_measure (Some j)
  walk_less found' causes' j t None h = omega arith
  walk_less found' causes' j t (Some e) h = omega (arith, h.0)

-- ---- all takers for one that is given

pub both_spread : (takers : List Taker) (g : Given) (f0 f1 f2 : List Given) (c0 c1 c2 : List Cause) → Spreads (IsFrom (All g.procedure.module)) takers g f0 c0 f1 c1 → Spreads (IsFrom (One g.procedure)) takers g f1 c1 f2 c2 → Spreads (Brings g) takers g f0 c0 f2 c2
both_spread takers g f0 f1 f2 c0 c1 c2 a b = record {
  found_kept = kept_then f0 f1 f2 a.found_kept b.found_kept;
  causes_kept = kept_then c0 c1 c2 a.causes_kept b.causes_kept;
  causes_in = λ t i e. elim e [ inl x ↦ kept_in c1 c2 (cause_by t g) b.causes_kept (a.causes_in t i x) | inr y ↦ b.causes_in t i y ];
  found_in = λ t i e q. elim e [ inl x ↦ kept_in f1 f2 (passed t g) b.found_kept (a.found_in t i x q) | inr y ↦ b.found_in t i y q ];
  causes_only = λ c i. elim (b.causes_only c i) [
    | inl j ↦ elim (a.causes_only c j) [ inl k ↦ inl k | inr d ↦ inr (d.0, d.1, inl d.2, d.3) ]
    | inr d ↦ inr (d.0, d.1, inr d.2, d.3)
  ];
  found_only = λ x i. elim (b.found_only x i) [
    | inl j ↦ elim (a.found_only x j) [ inl k ↦ inl k | inr d ↦ inr (d.0, d.1, inl d.2, d.3, d.4) ]
    | inr d ↦ inr (d.0, d.1, inr d.2, d.3, d.4)
  ];
}

-- ---- until all is found

pub record IsClosing (takers : List Taker) (seeds : List Given) (causes : List Cause) (found : List Given) (causes' : List Cause) (at : ℕ) : Type 0 where
  pub sound : (g : Given) → Contains found g → Reached seeds takers g
  pub seeds_in : (g : Given) → Contains seeds g → Contains found g
  pub causes_kept : (more : List Cause) × (causes' ≡ causes ++ more)
  pub causes_only : (c : Cause) → Contains causes' c → Contains causes c ⊎ ((t : Taker) × (g : Given) × (Contains takers t) × (Brings g t) × (Contains found g) × (c ≡ cause_by t g))
  pub closed : (k : ℕ) (g : Given) → k < at → k < length found → get_or found k g ≡ g → (t : Taker) → Contains takers t → Brings g t → IsDone t g found causes'

pub closing_start : (takers : List Taker) (seeds : List Given) (causes : List Cause) → IsClosing takers seeds causes seeds causes 0
closing_start takers seeds causes = record {
  sound = λ g i. seed g i;
  seeds_in = λ g i. i;
  causes_kept = ([], sym (append-nil causes));
  causes_only = λ c i. inl i;
  closed = λ k g lt. absurd (omega arith);
}

any_default : {A : Type 0} (xs : List A) (k : ℕ) (d e : A) → k < length xs → get_or xs k d ≡ get_or xs k e
any_default [] k d e lt = absurd (omega arith)
any_default (x ∷ xs) zero d e lt = refl
any_default (x ∷ xs) (suc k) d e lt = any_default xs k d e (omega arith)

pub closing_more : (takers : List Taker) (seeds : List Given) (causes : List Cause) (old new : List Given) (c1 c2 : List Cause) (at : ℕ) (g : Given) → at < length old → get_or old at g ≡ g → IsClosing takers seeds causes old c1 at → Spreads (Brings g) takers g old c1 new c2 → IsClosing takers seeds causes new c2 (at + 1)
closing_more takers seeds causes old new c1 c2 at g lt is c s = record {
  sound = λ x i. elim (s.found_only x i) [
    | inl j ↦ c.sound x j
    | inr d ↦ subst (λ (z : Given). Reached seeds takers z) (sym d.4) (step d.0 g d.1 d.2 d.3 (c.sound g (at, lt, is)))
  ];
  seeds_in = λ x i. kept_in old new x s.found_kept (c.seeds_in x i);
  causes_kept = kept_then causes c1 c2 c.causes_kept s.causes_kept;
  causes_only = λ x i. elim (s.causes_only x i) [
    | inl j ↦ elim (c.causes_only x j) [ inl k ↦ inl k | inr d ↦ inr (d.0, d.1, d.2, d.3, kept_in old new d.1 s.found_kept d.4, d.5) ]
    | inr d ↦ inr (d.0, g, d.1, d.2, kept_in old new g s.found_kept (at, lt, is), d.3)
  ];
  closed = λ k x less within same t i b.
      let short : k < length old = omega arith in
      let was : get_or old k x ≡ x = sym (ap (λ l. get_or l k x) s.found_kept.1 ∙ get_or_append_left old s.found_kept.0 x k short) ∙ same in
      elim (cases_lt k at) [
        | inl before ↦ let d = c.closed k x before short was t i b in (kept_in c1 c2 (cause_by t x) s.causes_kept d.0, λ q. kept_in old new (passed t x) s.found_kept (d.1 q))
        | inr here ↦
            let k-is : k ≡ at = omega arith in
            let there : get_or old at x ≡ x = ap (λ j. get_or old j x) (sym k-is) ∙ was in
            let x-is : g ≡ x = sym (sym there ∙ any_default old at x g lt ∙ is) in
            subst (λ (z : Given). Brings z t → IsDone t z new c2) x-is (λ e. (s.causes_in t i e, s.found_in t i e)) b
      ];
}

closing_reached : (takers : List Taker) (seeds : List Given) (causes : List Cause) (found : List Given) (causes' : List Cause) (at : ℕ) → length found ≤ at → IsClosing takers seeds causes found causes' at → (g : Given) → Reached seeds takers g → Contains found g
closing_reached takers seeds causes found causes' at le c _ (seed g i) = c.seeds_in g i
closing_reached takers seeds causes found causes' at le c _ (step t g i b q r) =
    let h = closing_reached takers seeds causes found causes' at le c g r in
    (c.closed h.0 g (omega (arith, h.1)) h.1 h.2 t i b).1 q

pub closing_end : (takers : List Taker) (seeds : List Given) (causes : List Cause) (found : List Given) (causes' : List Cause) (at : ℕ) → length found ≤ at → IsClosing takers seeds causes found causes' at → Closes takers seeds causes found causes'
closing_end takers seeds causes found causes' at le c = record {
  reached = closing_reached takers seeds causes found causes' at le c;
  found_only = c.sound;
  causes_kept = c.causes_kept;
  causes_in = λ t g i b h. (c.closed h.0 g (omega (arith, h.1)) h.1 h.2 t i b).0;
  causes_only = c.causes_only;
}
