-- What is known after more interfaces.
use Rattle.std.proofs.Common.{◌≡◌, List, [], ◌∷◌, ◌++◌, map, Bool, true, false, if◌then◌else◌, Option, Some, None, refl, sym, ap, ◌∙◌, subst, inl, inr, append-nil, append_assoc}
use Rattle.std.specs.List.{AllByRecursion}
use Rattle.std.specs.Option.{option_or}
use Rattle.std.proofs.lemmas.Bool.{or_cases, or_parts}
use Rattle.pl_ops.specs.Tables.{same_text}
use Rattle.unit_model.specs.Facts.{OperatorOf, Need}
use Rattle.unit_model.specs.Directives.{Text}
use Rattle.unit_model.specs.Preparing.{Interface, operators_known, holds}
use Rattle.link_model.specs.Texts.{AllNew}
use Rattle.preparing_laws.proofs.Tests.{same_text-true, apart_back}

abbrev Found : Type 0
Found = Option (List (OperatorOf Text))

abbrev pub names : List Interface → List Text
names = map (λ i. i.of)

known-append : (a b : List Interface) (m : Text) → operators_known (a ++ b) m ≡ option_or (operators_known a m) (operators_known b m)
known-append [] b m = refl
known-append (i ∷ a) b m = go (same_text i.of m) (known-append a b m)
  where
    go : (t : Bool) → operators_known (a ++ b) m ≡ option_or (operators_known a m) (operators_known b m)
        → (if t then Some i.operators else operators_known (a ++ b) m) ≡ option_or (if t then Some i.operators else operators_known a m) (operators_known b m)
    go true ih = refl
    go false ih = ih

none-first : (o p : Found) → option_or o p ≡ None → o ≡ None
none-first None p h = refl
none-first (Some x) p h = absurd cc

or-none : (o : Found) → option_or o None ≡ o
or-none None = refl
or-none (Some x) = refl

-- a module that is not among interfaces is not known by them
absent : (is : List Interface) (m : Text) → holds (names is) m ≡ false → operators_known is m ≡ None
absent [] m h = refl
absent (i ∷ is) m h =
    let p = or_parts (same_text m i.of) (holds (names is) m) h in
    ap (λ b. if b then Some i.operators else operators_known is m) (apart_back m i.of p.0) ∙ absent is m p.1

-- a module of a new interface was not known
new-unknown : (before is : List Interface) (m : Text) → AllNew before is → holds (names is) m ≡ true → operators_known before m ≡ None
new-unknown before [] m new h = absurd cc
new-unknown before (i ∷ is) m new h = elim (or_cases (same_text m i.of) (holds (names is) m) h) [
  | inl here ↦ subst (λ x. operators_known before x ≡ None) (sym (same_text-true m i.of here)) new.0
  | inr there ↦ none-first (operators_known before m) (operators_known (i ∷ []) m) (sym (known-append before (i ∷ []) m) ∙ new-unknown (before ++ i ∷ []) is m new.1 there)
]

-- of a module with a new interface, its operators are known
pub known-own : (before is : List Interface) (m : Text) → AllNew before is → holds (names is) m ≡ true → operators_known (before ++ is) m ≡ operators_known is m
known-own before is m new h = known-append before is m ∙ ap (λ o. option_or o (operators_known is m)) (new-unknown before is m new h)

-- of another, what was known before
pub known-before : (before is : List Interface) (m : Text) → holds (names is) m ≡ false → operators_known (before ++ is) m ≡ operators_known before m
known-before before is m h = known-append before is m ∙ ap (option_or (operators_known before m)) (absent is m h) ∙ or-none (operators_known before m)

-- ---- interfaces that are new

pub new-join : (before is js : List Interface) → AllNew before is → AllNew (before ++ is) js → AllNew before (is ++ js)
new-join before [] js h k = subst (λ l. AllNew l js) (append-nil before) k
new-join before (i ∷ is) js h k = (h.0, new-join (before ++ i ∷ []) is js h.1 (subst (λ l. AllNew l js) (sym (append_assoc before (i ∷ []) is)) k))

pub new-parts : (before is js : List Interface) → AllNew before (is ++ js) → AllNew before is × AllNew (before ++ is) js
new-parts before [] js h = (tt, subst (λ l. AllNew l js) (sym (append-nil before)) h)
new-parts before (i ∷ is) js h =
    let r = new-parts (before ++ i ∷ []) is js h.1 in
    ((h.0, r.0), subst (λ l. AllNew l js) (append_assoc before (i ∷ []) is) r.1)

-- ---- needs

-- each of these modules is known with its operators
abbrev pub AreKnown : List Interface → List (Need Text) → Type 0
AreKnown is = AllByRecursion (λ n. operators_known is n.of ≡ Some n.operators)

-- the same is known of a need's module, wherever the needs are known
pub need-same : (is js : List Interface) (ns : List (Need Text)) (m : Text) → AreKnown is ns → AreKnown js ns → holds (map (λ n. n.of) ns) m ≡ true → operators_known is m ≡ operators_known js m
need-same is js [] m a b h = absurd cc
need-same is js (n ∷ ns) m a b h = elim (or_cases (same_text m n.of) (holds (map (λ k. k.of) ns) m) h) [
  | inl here ↦ subst (λ x. operators_known is x ≡ operators_known js x) (sym (same_text-true m n.of here)) (a.0 ∙ sym b.0)
  | inr there ↦ need-same is js ns m a.1 b.1 there
]

pub known-parts : (is : List Interface) (ns ms : List (Need Text)) → AreKnown is (ns ++ ms) → AreKnown is ns × AreKnown is ms
known-parts is [] ms h = (tt, h)
known-parts is (n ∷ ns) ms h = let r = known-parts is ns ms h.1 in ((h.0, r.0), r.1)
