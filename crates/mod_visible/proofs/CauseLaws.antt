-- The causes of entries: first clauses, exports of what is defined, and what is taken of other modules.
use Rattle.std.proofs.Common.{◌≡◌, List, [], ◌∷◌, ◌++◌, Bool, true, false, ◌&&◌, cond, refl, sym, ap, subst, ◌∙◌, Option, Some, None, inl, inr, ◌⊎◌, if◌then◌else◌}
use Rattle.std.specs.Prelude.{Contains}
use Rattle.std.specs.List.{list_any}
use Rattle.std.proofs.lemmas.Bool.{and_parts, and_from}
use Rattle.std.proofs.lemmas.List.{append-nil}
use Rattle.std.proofs.lemmas.List.Elements.{Contains-append_left, Contains-append_right, Contains-append_cases}
use Rattle.pl_atoms.proofs.Texts.{same_text-is, same_text-itself}
use Rattle.pl_ops.specs.Tables.{same_text}
use Rattle.unit_model.specs.Directives.{Text}
use Rattle.link_model.specs.Places.{Ind, same_ind, Role, defining, exporting, reexporting_all, reexporting, moding, importing_all, importing, idle, Placed, steps}
use Rattle.link_model.specs.Giving.{is_exporting, defines, gives_own, gives, own_of, owned, given, given_for, edge_of, edges, is_edge, passes}
use Rattle.link_model.specs.Seeing.{Sort, seeing, giving, Cause, causes_at, causes_of, causes}
use Rattle.link_model.proofs.Same.{same_ind-is, same_ind-itself}
use Rattle.mod_visible.specs.Kinds.{cause_at, first_by, own_by, taken_by, firsts, owns, takens}
use Rattle.mod_visible.proofs.Members.{in-here, in-there, in-cases, in-nil, in-map, of-map, in-flat_map, of-flat_map, in-filter_map, in-filter, of-filter, in-any, of-any}

abbrev Place : Type 0
Place = Placed Text

abbrev pub exporting_by : Text → Ind → Text → Role Text → Bool
exporting_by m i o r = elim r [ exporting j ↦ same_text o m && same_ind i j | _ ↦ false ]

-- ---- the three kinds

abbrev causes_by : Role Text → List Place → List Place → Place → List Cause
causes_by r ps before p = elim r [
  | defining i ↦ if defines before p.of i then [] else causes_at seeing p ((i, p.of) ∷ [])
  | exporting i ↦ if defines ps p.of i then causes_at giving p ((i, p.of) ∷ []) else []
  | reexporting_all n ↦ causes_at giving p (given ps n)
  | reexporting n i ↦ causes_at giving p (given_for ps n i)
  | importing_all n ↦ causes_at seeing p (given ps n)
  | importing n i ↦ causes_at seeing p (given_for ps n i)
  | moding i ↦ []
  | idle ↦ []
]

parts : (r : Role Text) (ps before : List Place) (p : Place) → causes_by r ps before p ≡ first_by r before p ++ (own_by r ps p ++ taken_by r ps p)
parts (defining i) ps before p = sym (append-nil (first_by (defining i) before p))
parts (exporting i) ps before p = sym (append-nil (own_by (exporting i) ps p))
parts (reexporting_all n) ps before p = refl
parts (reexporting n i) ps before p = refl
parts (moding i) ps before p = refl
parts (importing_all n) ps before p = refl
parts (importing n i) ps before p = refl
parts idle ps before p = refl

-- ---- each element with those before it

pub of-steps : {A : Type 0} (before xs : List A) (x : List A × A) → Contains (steps before xs) x → Contains xs x.1
of-steps before [] x i = absurd (in-nil x i)
of-steps {A} before (y ∷ xs) x i = elim (in-cases (before, y) x (steps (before ++ y ∷ []) xs) i) [
  | inl e ↦ subst (λ (w : List A × A). Contains (y ∷ xs) w.1) e (in-here y xs)
  | inr j ↦ in-there y x.1 xs (of-steps (before ++ y ∷ []) xs x j)
]

in-steps : {A : Type 0} (before xs : List A) (y : A) → Contains xs y → (b : List A) × Contains (steps before xs) (b, y)
in-steps before [] y i = absurd (in-nil y i)
in-steps {A} before (x ∷ xs) y i = elim (in-cases x y xs i) [
  | inl e ↦ (before, subst (λ (w : A). Contains (steps before (x ∷ xs)) (before, w)) e (in-here (before, x) (steps (before ++ x ∷ []) xs)))
  | inr j ↦ let r = in-steps (before ++ x ∷ []) xs y j in (r.0, in-there (before, x) (r.0, y) (steps (before ++ x ∷ []) xs) r.1)
]

-- ---- a cause is of one of the three kinds

module _ (ps : List Place) (c : Cause) where
  pub of-causes : Contains (causes ps) c → Contains (firsts ps) c ⊎ (Contains (owns ps) c ⊎ Contains (takens ps) c)
  of-causes i =
      let a = of-flat_map (λ (x : List Place × Place). causes_of ps x.0 x.1) (steps [] ps) c i in
      let x = a.0 in
      let member = of-steps [] ps x a.1 in
      let split : Contains (first_by x.1.role x.0 x.1 ++ (own_by x.1.role ps x.1 ++ taken_by x.1.role ps x.1)) c = subst (λ l. Contains l c) (parts x.1.role ps x.0 x.1) a.2 in
      elim (Contains-append_cases (first_by x.1.role x.0 x.1) (own_by x.1.role ps x.1 ++ taken_by x.1.role ps x.1) c split) [
        | inl f ↦ inl (in-flat_map (λ (y : List Place × Place). first_by y.1.role y.0 y.1) (steps [] ps) x c a.1 f)
        | inr r ↦ elim (Contains-append_cases (own_by x.1.role ps x.1) (taken_by x.1.role ps x.1) c r) [
          | inl o ↦ inr (inl (in-flat_map (λ (p : Place). own_by p.role ps p) ps x.1 c member o))
          | inr t ↦ inr (inr (in-flat_map (λ (p : Place). taken_by p.role ps p) ps x.1 c member t))
        ]
      ]

  pub first-in : Contains (firsts ps) c → Contains (causes ps) c
  first-in i =
      let a = of-flat_map (λ (x : List Place × Place). first_by x.1.role x.0 x.1) (steps [] ps) c i in
      let x = a.0 in
      in-flat_map (λ (y : List Place × Place). causes_of ps y.0 y.1) (steps [] ps) x c a.1
      (subst (λ l. Contains l c) (sym (parts x.1.role ps x.0 x.1)) (Contains-append_left (first_by x.1.role x.0 x.1) (own_by x.1.role ps x.1 ++ taken_by x.1.role ps x.1) c a.2))

  pub own-in : Contains (owns ps) c → Contains (causes ps) c
  own-in i =
      let a = of-flat_map (λ (p : Place). own_by p.role ps p) ps c i in
      let p = a.0 in
      let s = in-steps [] ps p a.1 in
      in-flat_map (λ (y : List Place × Place). causes_of ps y.0 y.1) (steps [] ps) (s.0, p) c s.1
      (subst (λ l. Contains l c) (sym (parts p.role ps s.0 p)) (Contains-append_right (first_by p.role s.0 p) (own_by p.role ps p ++ taken_by p.role ps p) c (Contains-append_left (own_by p.role ps p) (taken_by p.role ps p) c a.2)))

  pub taken-in : Contains (takens ps) c → Contains (causes ps) c
  taken-in i =
      let a = of-flat_map (λ (p : Place). taken_by p.role ps p) ps c i in
      let p = a.0 in
      let s = in-steps [] ps p a.1 in
      in-flat_map (λ (y : List Place × Place). causes_of ps y.0 y.1) (steps [] ps) (s.0, p) c s.1
      (subst (λ l. Contains l c) (sym (parts p.role ps s.0 p)) (Contains-append_right (first_by p.role s.0 p) (own_by p.role ps p ++ taken_by p.role ps p) c (Contains-append_right (own_by p.role ps p) (taken_by p.role ps p) c a.2)))

-- ---- what is given, as a list

exports-own : (ps : List Place) (d : Text) (i : Ind) (p : Place) (r : Role Text) → p.role ≡ r → Contains ps p → is_exporting d i p ≡ true → defines ps d i ≡ true → own_of ps p ≡ Some (i, d)
exports-own ps d i p (exporting j) e m h k =
    let h' : (same_text p.of d && same_ind i j) ≡ true = subst (λ x. exporting_by d i p.of x ≡ true) e h in
    let a = and_parts (same_text p.of d) (same_ind i j) h' in
    let of_is : p.of ≡ d = same_text-is p.of d a.0 in
    let ind_is : i ≡ j = same_ind-is i j a.1 in
    rw e (subst (λ (x : Ind). (cond {A = Option (Ind × Text)} (defines ps p.of x) (Some (x, p.of)) None) ≡ Some (i, d)) ind_is (subst (λ (x : Text). (cond {A = Option (Ind × Text)} (defines ps x i) (Some (i, x)) None) ≡ Some (i, d)) (sym of_is) (ap (λ b. cond {A = Option (Ind × Text)} b (Some (i, d)) None) k)))
exports-own ps d i p (defining j) e m h k = absurd (let h' : false ≡ true = subst (λ x. exporting_by d i p.of x ≡ true) e h in cc)
exports-own ps d i p (reexporting_all n) e m h k = absurd (let h' : false ≡ true = subst (λ x. exporting_by d i p.of x ≡ true) e h in cc)
exports-own ps d i p (reexporting n j) e m h k = absurd (let h' : false ≡ true = subst (λ x. exporting_by d i p.of x ≡ true) e h in cc)
exports-own ps d i p (moding j) e m h k = absurd (let h' : false ≡ true = subst (λ x. exporting_by d i p.of x ≡ true) e h in cc)
exports-own ps d i p (importing_all n) e m h k = absurd (let h' : false ≡ true = subst (λ x. exporting_by d i p.of x ≡ true) e h in cc)
exports-own ps d i p (importing n j) e m h k = absurd (let h' : false ≡ true = subst (λ x. exporting_by d i p.of x ≡ true) e h in cc)
exports-own ps d i p idle e m h k = absurd (let h' : false ≡ true = subst (λ x. exporting_by d i p.of x ≡ true) e h in cc)

pub in-given : (ps : List Place) (n : Text) (i : Ind) (d : Text) → gives ps n i d ≡ true → Contains (given ps n) (i, d)
in-given ps n i d h =
    let a = and_parts (gives_own ps d i) (Rattle.link_model.specs.Giving.reaches (Rattle.link_model.specs.Giving.edges ps i) n d) h in
    let b = and_parts (list_any (is_exporting d i) ps) (defines ps d i) a.0 in
    let p = of-any (is_exporting d i) ps b.0 in
    in-filter (λ (x : Ind × Text). gives ps n x.0 x.1) (owned ps) (i, d) (in-filter_map (own_of ps) ps p.0 (i, d) p.1 (exports-own ps d i p.0 p.0.role refl p.1 p.2 b.1)) h

pub of-given : (ps : List Place) (n : Text) (x : Ind × Text) → Contains (given ps n) x → gives ps n x.0 x.1 ≡ true
of-given ps n x i = (of-filter (λ (y : Ind × Text). gives ps n y.0 y.1) (owned ps) x i).1

-- ---- what is taken

abbrev pub Takes : Role Text → Sort → Text → Ind → Type 0
Takes (reexporting_all m) s n i = (s ≡ giving) × (m ≡ n)
Takes (reexporting m j) s n i = (s ≡ giving) × (m ≡ n) × (j ≡ i)
Takes (importing_all m) s n i = (s ≡ seeing) × (m ≡ n)
Takes (importing m j) s n i = (s ≡ seeing) × (m ≡ n) × (j ≡ i)
Takes _ s n i = ⊥

pub record IsTaken (ps : List Place) (c : Cause) : Type 0 where
  pub place : Place
  pub from : Text
  pub member : Contains ps place
  pub takes : Takes place.role c.sort from c.ind
  pub given : gives ps from c.ind c.definer ≡ true
  pub is : c ≡ cause_at c.sort place c.ind c.definer

module _ (ps : List Place) (p : Place) (member : Contains ps p) where
  all_of : (s : Sort) (n : Text) (c : Cause) → Contains (causes_at s p (given ps n)) c → (x : Ind × Text) × (gives ps n x.0 x.1 ≡ true) × (c ≡ cause_at s p x.0 x.1)
  all_of s n c i = let a = of-map (λ (x : Ind × Text). cause_at s p x.0 x.1) (given ps n) c i in (a.0, of-given ps n a.0 a.1, a.2)

  one_of : (s : Sort) (n : Text) (j : Ind) (c : Cause) → Contains (causes_at s p (given_for ps n j)) c → (x : Ind × Text) × (gives ps n x.0 x.1 ≡ true) × (c ≡ cause_at s p x.0 x.1) × (j ≡ x.0)
  one_of s n j c i =
      let a = of-map (λ (x : Ind × Text). cause_at s p x.0 x.1) (given_for ps n j) c i in
      let b = of-filter (λ (x : Ind × Text). same_ind j x.0) (given ps n) a.0 a.1 in
      (a.0, of-given ps n a.0 b.0, a.2, same_ind-is j a.0.0 b.1)

  made : (s : Sort) (n : Text) (c : Cause) (x : Ind × Text) → gives ps n x.0 x.1 ≡ true → c ≡ cause_at s p x.0 x.1 → Takes p.role s n x.0 → IsTaken ps c
  made s n c x g is t = subst (IsTaken ps) (sym is) (record { place = p; from = n; member = member; takes = t; given = g; is = refl })

  taken-is : (r : Role Text) → p.role ≡ r → (c : Cause) → Contains (taken_by r ps p) c → IsTaken ps c
  taken-is (reexporting_all n) e c i = let a = all_of giving n c i in made giving n c a.0 a.1 a.2 (subst (λ x. Takes x giving n a.0.0) (sym e) (refl, refl))
  taken-is (reexporting n j) e c i = let a = one_of giving n j c i in made giving n c a.0 a.1 a.2 (subst (λ x. Takes x giving n a.0.0) (sym e) (refl, refl, a.3))
  taken-is (importing_all n) e c i = let a = all_of seeing n c i in made seeing n c a.0 a.1 a.2 (subst (λ x. Takes x seeing n a.0.0) (sym e) (refl, refl))
  taken-is (importing n j) e c i = let a = one_of seeing n j c i in made seeing n c a.0 a.1 a.2 (subst (λ x. Takes x seeing n a.0.0) (sym e) (refl, refl, a.3))
  taken-is (defining j) e c i = absurd (in-nil c i)
  taken-is (exporting j) e c i = absurd (in-nil c i)
  taken-is (moding j) e c i = absurd (in-nil c i)
  taken-is idle e c i = absurd (in-nil c i)

  in-all : (s : Sort) (n : Text) (i : Ind) (d : Text) → gives ps n i d ≡ true → Contains (causes_at s p (given ps n)) (cause_at s p i d)
  in-all s n i d g = in-map (λ (x : Ind × Text). cause_at s p x.0 x.1) (given ps n) (i, d) (in-given ps n i d g)

  in-one : (s : Sort) (n : Text) (i : Ind) (d : Text) → gives ps n i d ≡ true → Contains (causes_at s p (given_for ps n i)) (cause_at s p i d)
  in-one s n i d g = in-map (λ (x : Ind × Text). cause_at s p x.0 x.1) (given_for ps n i) (i, d) (in-filter (λ (x : Ind × Text). same_ind i x.0) (given ps n) (i, d) (in-given ps n i d g) (same_ind-itself i))

  is-taken : (r : Role Text) (s : Sort) (n : Text) (i : Ind) (d : Text) → Takes r s n i → gives ps n i d ≡ true → Contains (taken_by r ps p) (cause_at s p i d)
  is-taken (reexporting_all m) s n i d t g = rw (t.0, t.1) (in-all giving n i d g)
  is-taken (reexporting m j) s n i d t g = rw (t.0, t.1, t.2) (in-one giving n i d g)
  is-taken (importing_all m) s n i d t g = rw (t.0, t.1) (in-all seeing n i d g)
  is-taken (importing m j) s n i d t g = rw (t.0, t.1, t.2) (in-one seeing n i d g)
  is-taken (defining j) s n i d t g = absurd t
  is-taken (exporting j) s n i d t g = absurd t
  is-taken (moding j) s n i d t g = absurd t
  is-taken idle s n i d t g = absurd t

pub of-takens : (ps : List Place) (c : Cause) → Contains (takens ps) c → IsTaken ps c
of-takens ps c i = let a = of-flat_map (λ (p : Place). taken_by p.role ps p) ps c i in taken-is ps a.0 a.1 a.0.role refl c a.2

pub in-takens : (ps : List Place) (c : Cause) → IsTaken ps c → Contains (takens ps) c
in-takens ps c t =
    subst (λ x. Contains (takens ps) x) (sym t.is) (in-flat_map (λ (p : Place). taken_by p.role ps p) ps t.place (cause_at c.sort t.place c.ind c.definer) t.member (is-taken ps t.place t.member t.place.role c.sort t.from c.ind c.definer t.takes t.given))

-- ---- what passes takes

abbrev edge_by : Ind → Text → Role Text → Option (Text × Text)
edge_by i o r = elim r [
  | reexporting_all n ↦ Some (o, n)
  | reexporting n j ↦ if same_ind i j then Some (o, n) else None
  | _ ↦ None
]

pub passes_by : (ps : List Place) (q : Place) (r : Role Text) → q.role ≡ r → Contains ps q → (n : Text) (i : Ind) → Takes r giving n i → passes ps q.of n i ≡ true
passes_by ps q (reexporting_all m) e h n i t =
    let edge : edge_of i q ≡ Some (q.of, n) = rw e (ap (λ (x : Text). Some (q.of, x)) t.1) in
    in-any (is_edge q.of n) (edges ps i) (q.of, n) (in-filter_map (edge_of i) ps q (q.of, n) h edge) (and_from (same_text q.of q.of) (same_text n n) (same_text-itself q.of) (same_text-itself n))
passes_by ps q (reexporting m j) e h n i t =
    let test : same_ind i j ≡ true = subst (λ (x : Ind). same_ind x j ≡ true) t.2 (same_ind-itself j) in
    let edge : edge_of i q ≡ Some (q.of, n) = rw e (ap (λ b. cond b (Some (q.of, m)) None) test ∙ ap (λ (x : Text). Some (q.of, x)) t.1) in
    in-any (is_edge q.of n) (edges ps i) (q.of, n) (in-filter_map (edge_of i) ps q (q.of, n) h edge) (and_from (same_text q.of q.of) (same_text n n) (same_text-itself q.of) (same_text-itself n))
passes_by ps q (importing_all m) e h n i t = absurd (let wrong : giving ≡ seeing = t.0 in cc)
passes_by ps q (importing m j) e h n i t = absurd (let wrong : giving ≡ seeing = t.0 in cc)
passes_by ps q (defining j) e h n i t = absurd t
passes_by ps q (exporting j) e h n i t = absurd t
passes_by ps q (moding j) e h n i t = absurd t
passes_by ps q idle e h n i t = absurd t

pub edge_takes : (q : Place) (r : Role Text) → q.role ≡ r → (i : Ind) (m n : Text) (e : Text × Text) → edge_of i q ≡ Some e → is_edge m n e ≡ true → Takes r giving n i × (q.of ≡ m)
edge_takes q (reexporting_all k) is i m n e at h =
    let a = and_parts (same_text e.0 m) (same_text e.1 n) h in
    let at' : Some (q.of, k) ≡ Some e = subst (λ x. edge_by i q.of x ≡ Some e) is at in
    let pair : (q.of, k) ≡ e = cc in
    ((refl, ap (λ (x : Text × Text). x.1) pair ∙ same_text-is e.1 n a.1), ap (λ (x : Text × Text). x.0) pair ∙ same_text-is e.0 m a.0)
edge_takes q (reexporting k j) is i m n e at h =
    let a = and_parts (same_text e.0 m) (same_text e.1 n) h in
    let at' : cond (same_ind i j) (Some (q.of, k)) None ≡ Some e = subst (λ x. edge_by i q.of x ≡ Some e) is at in
    go (same_ind i j) refl at' a.0 a.1
  where
    go : (b : Bool) → same_ind i j ≡ b → cond b (Some (q.of, k)) None ≡ Some e → same_text e.0 m ≡ true → same_text e.1 n ≡ true → Takes (reexporting k j) giving n i × (q.of ≡ m)
    go true t same x y =
        let pair : (q.of, k) ≡ e = cc in
        ((refl, ap (λ (z : Text × Text). z.1) pair ∙ same_text-is e.1 n y, sym (same_ind-is i j t)), ap (λ (z : Text × Text). z.0) pair ∙ same_text-is e.0 m x)
    go false t same x y = absurd cc
edge_takes q (importing_all k) is i m n e at h = absurd (let at' : None ≡ Some e = subst (λ x. edge_by i q.of x ≡ Some e) is at in cc)
edge_takes q (importing k j) is i m n e at h = absurd (let at' : None ≡ Some e = subst (λ x. edge_by i q.of x ≡ Some e) is at in cc)
edge_takes q (defining j) is i m n e at h = absurd (let at' : None ≡ Some e = subst (λ x. edge_by i q.of x ≡ Some e) is at in cc)
edge_takes q (exporting j) is i m n e at h = absurd (let at' : None ≡ Some e = subst (λ x. edge_by i q.of x ≡ Some e) is at in cc)
edge_takes q (moding j) is i m n e at h = absurd (let at' : None ≡ Some e = subst (λ x. edge_by i q.of x ≡ Some e) is at in cc)
edge_takes q idle is i m n e at h = absurd (let at' : None ≡ Some e = subst (λ x. edge_by i q.of x ≡ Some e) is at in cc)
