-- What modules give is the least relation with the two rules, and its test decides it.
use Rattle.std.proofs.Common.{◌≡◌, List, [], ◌∷◌, Bool, true, ◌&&◌, sym, subst, inl, inr}
use Rattle.std.specs.List.{list_any}
use Rattle.std.proofs.lemmas.Bool.{and_parts, and_from, or_cases, or_left, or_right}
use Rattle.pl_ops.specs.Tables.{same_text}
use Rattle.unit_model.specs.Directives.{Text}
use Rattle.link_model.specs.Places.{Ind, Placed}
use Rattle.link_model.specs.Giving.{gives_own, passes, Gives, own, passed, gives, edges, is_edge, reaches}
use Rattle.link_model.specs.Laws.{IsClosed, GivesIsLeast}
use Rattle.pl_atoms.proofs.Texts.{same_text-is, same_text-itself}

abbrev Edge : Type 0
Edge = Text × Text

abbrev through : Edge → List Edge → Text → Text → Bool
through e es m d = reaches es m e.0 && reaches es e.1 d

pub reaches-refl : (es : List Edge) (m : Text) → reaches es m m ≡ true
reaches-refl [] m = same_text-itself m
reaches-refl (e ∷ es) m = or_left (reaches es m m) (through e es m m) (reaches-refl es m)

pub reaches-trans : (es : List Edge) (a b c : Text) → reaches es a b ≡ true → reaches es b c ≡ true → reaches es a c ≡ true
reaches-trans [] a b c p q = rw (same_text-is a b p) q
reaches-trans (e ∷ es) a b c p q =
    elim (or_cases (reaches es a b) (through e es a b) p) [
      | inl p1 ↦ elim (or_cases (reaches es b c) (through e es b c) q) [
        | inl q1 ↦ or_left (reaches es a c) (through e es a c) (reaches-trans es a b c p1 q1)
        | inr q2 ↦
            let q3 = and_parts (reaches es b e.0) (reaches es e.1 c) q2 in
            or_right (reaches es a c) (through e es a c) (and_from (reaches es a e.0) (reaches es e.1 c) (reaches-trans es a b e.0 p1 q3.0) q3.1)
      ]
      | inr p2 ↦
          let p3 = and_parts (reaches es a e.0) (reaches es e.1 b) p2 in
          elim (or_cases (reaches es b c) (through e es b c) q) [
            | inl q1 ↦ or_right (reaches es a c) (through e es a c) (and_from (reaches es a e.0) (reaches es e.1 c) p3.0 (reaches-trans es e.1 b c p3.1 q1))
            | inr q2 ↦
                let q3 = and_parts (reaches es b e.0) (reaches es e.1 c) q2 in
                or_right (reaches es a c) (through e es a c) (and_from (reaches es a e.0) (reaches es e.1 c) p3.0 q3.1)
          ]
    ]

pub reaches-edge : (es : List Edge) (m n : Text) → list_any (is_edge m n) es ≡ true → reaches es m n ≡ true
reaches-edge [] m n h = absurd cc
reaches-edge (e ∷ es) m n h =
    elim (or_cases (is_edge m n e) (list_any (is_edge m n) es) h) [
      | inl here ↦
          let p = and_parts (same_text e.0 m) (same_text e.1 n) here in
          let front : reaches es m e.0 ≡ true = subst (λ (x : Text). reaches es x e.0 ≡ true) (same_text-is e.0 m p.0) (reaches-refl es e.0) in
          let back : reaches es e.1 n ≡ true = subst (λ (x : Text). reaches es e.1 x ≡ true) (same_text-is e.1 n p.1) (reaches-refl es e.1) in
          or_right (reaches es m n) (through e es m n) (and_from (reaches es m e.0) (reaches es e.1 n) front back)
      | inr there ↦ or_left (reaches es m n) (through e es m n) (reaches-edge es m n there)
    ]

-- what goes back along each edge goes back along a way
pub reaches-back : (P : Text → Type 0) (es : List Edge) → ((m n : Text) → list_any (is_edge m n) es ≡ true → P n → P m) → (m d : Text) → reaches es m d ≡ true → P d → P m
reaches-back P [] step m d h p = subst P (sym (same_text-is m d h)) p
reaches-back P (e ∷ es) step m d h p =
    let inner = λ (x y : Text) (i : list_any (is_edge x y) es ≡ true) (q : P y). step x y (or_right (is_edge x y e) (list_any (is_edge x y) es) i) q in
    elim (or_cases (reaches es m d) (through e es m d) h) [
      | inl one ↦ reaches-back P es inner m d one p
      | inr two ↦
          let t = and_parts (reaches es m e.0) (reaches es e.1 d) two in
          let far : P e.1 = reaches-back P es inner e.1 d t.1 p in
          let here : is_edge e.0 e.1 e ≡ true = and_from (same_text e.0 e.0) (same_text e.1 e.1) (same_text-itself e.0) (same_text-itself e.1) in
          let near : P e.0 = step e.0 e.1 (or_left (is_edge e.0 e.1 e) (list_any (is_edge e.0 e.1) es) here) far in
          reaches-back P es inner m e.0 t.0 near
    ]

gives-own : (ps : List (Placed Text)) (m : Text) (i : Ind) → gives_own ps m i ≡ true → gives ps m i m ≡ true
gives-own ps m i h = and_from (gives_own ps m i) (reaches (edges ps i) m m) h (reaches-refl (edges ps i) m)

gives-passed : (ps : List (Placed Text)) (m n : Text) (i : Ind) (d : Text) → passes ps m n i ≡ true → gives ps n i d ≡ true → gives ps m i d ≡ true
gives-passed ps m n i d e g =
    let p = and_parts (gives_own ps d i) (reaches (edges ps i) n d) g in
    and_from (gives_own ps d i) (reaches (edges ps i) m d) p.0 (reaches-trans (edges ps i) m n d (reaches-edge (edges ps i) m n e) p.1)

gives-below : (ps : List (Placed Text)) (R : Text → Ind → Text → Bool) → IsClosed ps R → (m : Text) (i : Ind) (d : Text) → gives ps m i d ≡ true → R m i d ≡ true
gives-below ps R closed m i d g =
    let p = and_parts (gives_own ps d i) (reaches (edges ps i) m d) g in
    reaches-back (λ x. R x i d ≡ true) (edges ps i) (λ x y e r. closed.passed x y i d e r) m d p.1 (closed.own d i p.0)

-- the test finds what is given
pub gives-is : (ps : List (Placed Text)) (m : Text) (i : Ind) (d : Text) → gives ps m i d ≡ true → Gives ps m i d
gives-is ps m i d g =
    let p = and_parts (gives_own ps d i) (reaches (edges ps i) m d) g in
    reaches-back (λ x. Gives ps x i d) (edges ps i) (λ x y e r. passed x y i d e r) m d p.1 (own d i p.0)

pub gives-from : (ps : List (Placed Text)) (m : Text) (i : Ind) (d : Text) → Gives ps m i d → gives ps m i d ≡ true
gives-from ps _ _ _ (own m i h) = gives-own ps m i h
gives-from ps _ _ _ (passed m n i d e g) = gives-passed ps m n i d e (gives-from ps n i d g)

pub least : GivesIsLeast
least = record {
  closed = λ ps. record { own = gives-own ps; passed = gives-passed ps };
  below = gives-below;
  tested = λ ps m i d. (gives-is ps m i d, gives-from ps m i d);
}
