-- Takers with one source are linked from the last to the first.
use Rattle.std.proofs.Common.{◌≡◌, ℕ, ◌+◌, ◌<◌, ◌≤◌, List, [], ◌∷◌, ◌++◌, length, map, take, get_or, Bool, true, false, ◌&&◌, cond, refl, sym, ap, subst, ◌∙◌, Option, Some, None, arith, eqb, eqb-true, eq-eqb, inl, inr, length-append}
use Rattle.std.specs.List.{filter_map}
use Rattle.std.specs.Map.{lookup}
use Rattle.std.proofs.lemmas.List.Elements.{filter_map-append}
use Rattle.std.proofs.lemmas.Bool.{and_parts, and_from, cases_lt}
use Rattle.std.proofs.lemmas.List.{get_or_append_left, get_or_push, map-append, length-map, take_more, take_all}
use Rattle.mod_visible.specs.declared.keys.Procedure.{Procedure}
use Rattle.mod_visible.specs.declared.keys.Given.{Given}
use Rattle.mod_visible.specs.declared.keys.Source.{Source}
use Rattle.mod_visible.specs.declared.keys.Source.TheVariants.{All, One}
use Rattle.mod_visible.specs.declared.takers.Taker.{Taker}
use Rattle.mod_visible.specs.declared.takers.Link.{Link}
use Rattle.mod_visible.specs.Keys.{same_procedure, same_given, same_source}
use Rattle.mod_visible.specs.declared.placed.Placed.{Placed}
use Rattle.mod_visible.specs.Takers.{taker_of, takers_in, sources_in, source_at, IsLast, IsChained}

-- ---- keys that are the same are equal

abbrev made : ℕ → ℕ → ℕ → Procedure
made m n a = record { «module» = m; name = n; arity = a }

abbrev made_given : Procedure → ℕ → Given
made_given p d = record { procedure = p; definer = d }

pub same_procedure-is : (p q : Procedure) → same_procedure p q ≡ true → p ≡ q
same_procedure-is p q h =
    let a = and_parts (eqb p.module q.module) (eqb p.name q.name && eqb p.arity q.arity) h in
    let b = and_parts (eqb p.name q.name) (eqb p.arity q.arity) a.1 in
    ap (λ m. made m p.name p.arity) (eqb-true p.module q.module a.0) ∙ ap (λ n. made q.module n p.arity) (eqb-true p.name q.name b.0) ∙ ap (made q.module q.name) (eqb-true p.arity q.arity b.1)

pub same_procedure-itself : (p : Procedure) → same_procedure p p ≡ true
same_procedure-itself p =
    and_from (eqb p.module p.module) (eqb p.name p.name && eqb p.arity p.arity) (eq-eqb p.module p.module refl)
    (and_from (eqb p.name p.name) (eqb p.arity p.arity) (eq-eqb p.name p.name refl) (eq-eqb p.arity p.arity refl))

pub same_given-is : (g h : Given) → same_given g h ≡ true → g ≡ h
same_given-is g h e =
    let a = and_parts (same_procedure g.procedure h.procedure) (eqb g.definer h.definer) e in
    ap (λ p. made_given p g.definer) (same_procedure-is g.procedure h.procedure a.0) ∙ ap (made_given h.procedure) (eqb-true g.definer h.definer a.1)

pub same_source-is : (s t : Source) → same_source s t ≡ true → s ≡ t
same_source-is (All m) (All n) h = ap All (eqb-true m n h)
same_source-is (One p) (One q) h = ap One (same_procedure-is p q h)
same_source-is (All m) (One q) h = absurd cc
same_source-is (One p) (All n) h = absurd cc

pub same_source-itself : (s : Source) → same_source s s ≡ true
same_source-itself (All m) = eq-eqb m m refl
same_source-itself (One p) = same_procedure-itself p

-- ---- the last place of a source

kept_at : (ss more : List Source) (k : ℕ) → k < length ss → source_at (ss ++ more) k ≡ source_at ss k
kept_at ss more k lt = get_or_append_left ss more (All 0) k lt

pub IsLast-kept : (ss more : List Source) (n : ℕ) (s : Source) (r : Option ℕ) → n ≤ length ss → IsLast ss n s r → IsLast (ss ++ more) n s r
IsLast-kept ss more n s None le h = λ k lt e. h k lt (sym (kept_at ss more k (omega arith)) ∙ e)
IsLast-kept ss more n s (Some j) le h =
    (h.0, kept_at ss more j (let l : j < n = h.0 in omega arith) ∙ h.1, λ k a b e. h.2 k a b (sym (kept_at ss more k (omega arith)) ∙ e))

last_this : (ss : List Source) (s : Source) → IsLast (ss ++ s ∷ []) (length ss + 1) s (Some (length ss))
last_this ss s = (omega arith, get_or_push ss s (All 0) (length ss) refl, λ k a b e. omega arith)

last_other : (ss : List Source) (t s : Source) (r : Option ℕ) → (t ≡ s → ⊥) → IsLast ss (length ss) s r → IsLast (ss ++ t ∷ []) (length ss + 1) s r
last_other ss t s None other h = λ k lt e.
    elim (cases_lt k (length ss)) [
      | inl a ↦ h k a (sym (kept_at ss (t ∷ []) k a) ∙ e)
      | inr b ↦ other (sym (get_or_push ss t (All 0) k (omega arith)) ∙ e)
    ]
last_other ss t s (Some j) other h = (
  omega (arith, h.0),
  kept_at ss (t ∷ []) j h.0 ∙ h.1,
  λ k a b e.
      elim (cases_lt k (length ss)) [
        | inl c ↦ h.2 k a c (sym (kept_at ss (t ∷ []) k c) ∙ e)
        | inr c ↦ other (sym (get_or_push ss t (All 0) k (omega arith)) ∙ e)
      ],
)

-- ---- one more taker

sources_push : (links : List Link) (l : Link) → sources_in (links ++ l ∷ []) ≡ sources_in links ++ l.taker.source ∷ []
sources_push links l = ap (map (λ (t : Taker). t.source)) (map-append (λ (x : Link). x.taker) links (l ∷ [])) ∙ map-append (λ (t : Taker). t.source) (takers_in links) (l.taker ∷ [])

pub length-sources : (links : List Link) → length (sources_in links) ≡ length links
length-sources links = length-map (takers_in links) (λ (t : Taker). t.source) ∙ length-map links (λ (x : Link). x.taker)

module _ (links : List Link) (table table' : List (Source × ℕ)) (t : Taker) (earlier : Option ℕ) (h : IsChained links table) (was : earlier ≡ lookup (same_source t.source) table) (now : (s : Source) → lookup (same_source s) table' ≡ (cond (same_source t.source s) (Some (length links)) (lookup (same_source s) table))) where
  abbrev link : Link
  link = record { taker = t; earlier = earlier }

  abbrev ss : List Source
  ss = sources_in links

  long : length (links ++ link ∷ []) ≡ length ss + 1
  long = omega (arith, length-append links (link ∷ []), length-sources links)

  old_last : (s : Source) → IsLast ss (length ss) s (lookup (same_source s) table)
  old_last s = subst (λ n. IsLast ss n s (lookup (same_source s) table)) (sym (length-sources links)) (h.last s)

  new_last : (s : Source) → IsLast (ss ++ t.source ∷ []) (length ss + 1) s (lookup (same_source s) table')
  new_last s = subst (IsLast (ss ++ t.source ∷ []) (length ss + 1) s) (sym (now s)) (go (same_source t.source s) refl)
    where
      go : (b : Bool) → same_source t.source s ≡ b → IsLast (ss ++ t.source ∷ []) (length ss + 1) s (cond b (Some (length links)) (lookup (same_source s) table))
      go true e =
          let is : t.source ≡ s = same_source-is t.source s e in
          subst (λ n. IsLast (ss ++ t.source ∷ []) (length ss + 1) s (Some n)) (length-sources links)
          (subst (λ x. IsLast (ss ++ t.source ∷ []) (length ss + 1) x (Some (length ss))) is (last_this ss t.source))
      go false e = last_other ss t.source s (lookup (same_source s) table) (λ is. let f : same_source t.source s ≡ true = subst (λ x. same_source t.source x ≡ true) is (same_source-itself t.source) in absurd cc) (old_last s)

  new_earlier : (k : ℕ) (l : Link) → k < length (links ++ link ∷ []) → get_or (links ++ link ∷ []) k l ≡ l → IsLast (ss ++ t.source ∷ []) k l.taker.source l.earlier
  new_earlier k l lt is =
      elim (cases_lt k (length links)) [
        | inl a ↦ IsLast-kept ss (t.source ∷ []) k l.taker.source l.earlier (omega (arith, length-sources links)) (h.earlier k l a (sym (get_or_append_left links (link ∷ []) l k a) ∙ is))
        | inr b ↦
            let k-is : length links ≡ k = omega (arith, length-append links (link ∷ [])) in
            let same : link ≡ l = sym (get_or_push links link l k k-is) ∙ is in
            let own : IsLast ss (length ss) t.source earlier = subst (IsLast ss (length ss) t.source) (sym was) (old_last t.source) in
            let at : IsLast ss k t.source earlier = subst (λ n. IsLast ss n t.source earlier) (length-sources links ∙ k-is) own in
            subst (λ (x : Link). IsLast (ss ++ t.source ∷ []) k x.taker.source x.earlier) same (IsLast-kept ss (t.source ∷ []) k t.source earlier (omega (arith, length-sources links)) at)
      ]

  pub chained_push : IsChained (links ++ link ∷ []) table'
  chained_push = record {
    last = λ s. subst (λ n. IsLast (sources_in (links ++ link ∷ [])) n s (lookup (same_source s) table')) (sym long) (subst (λ l. IsLast l (length ss + 1) s (lookup (same_source s) table')) (sym (sources_push links link)) (new_last s));
    earlier = λ k l lt is. subst (λ x. IsLast x k l.taker.source l.earlier) (sym (sources_push links link)) (new_earlier k l lt is);
  }

pub chained_none : IsChained [] []
chained_none = record { last = λ s k lt. absurd (omega arith); earlier = λ k l lt is. absurd (let short : k < 0 = lt in omega arith) }

-- ---- entry by entry

pub takers_more : (entries : List Placed) (k : ℕ) (d : Placed) (old new : List Taker) → k < length entries → new ≡ old ++ filter_map taker_of (get_or entries k d ∷ []) → old ≡ filter_map taker_of (take k entries) → new ≡ filter_map taker_of (take (k + 1) entries)
takers_more entries k d old new lt step h =
    step ∙ ap (λ l. l ++ filter_map taker_of (get_or entries k d ∷ [])) h ∙ sym (filter_map-append taker_of (take k entries) (get_or entries k d ∷ [])) ∙ ap (filter_map taker_of) (sym (take_more entries k d lt))

pub takers_end : (entries : List Placed) (k : ℕ) (takers : List Taker) → length entries ≤ k → takers ≡ filter_map taker_of (take k entries) → takers ≡ filter_map taker_of entries
takers_end entries k takers le h = h ∙ ap (filter_map taker_of) (take_all k entries le)
