-- Bytes that are put one after the other.
use Rattle.std.proofs.Common.{◌≡◌, ℕ, zero, suc, ◌+◌, ◌<◌, List, [], ◌∷◌, ◌++◌, map, length, take, get_or, sym, ap, ◌∙◌, append_assoc, arith, add-one}
use Rattle.std.specs.List.{flat_map, AllByRecursion}
use Rattle.std.proofs.lemmas.List.{length-map, append-nil}
use Rattle.std.proofs.lemmas.List.Concat.{flat_map-append}
use Rattle.unit_model.specs.Encoding.{u32, operator_bytes, need_bytes, entry_bytes, section_byte, section_bytes, counted}
use Rattle.unit_model.specs.Views.{op_view, ops_view, need_view, entry_view, kind_view, section_view}
use Rattle.unit_model.specs.declared.facts.OpDecl.{OpDecl}
use Rattle.unit_model.specs.declared.facts.Need.{Need}
use Rattle.unit_model.specs.declared.facts.Entry.{Entry}
use Rattle.unit_model.specs.declared.facts.Section.{Section}
use Rattle.unit_format.proofs.Renaming.{map-append}

pub unview : {A B : Type 0} (P : B → Type 0) (v : A → B) (xs : List A) → AllByRecursion P (map v xs) → AllByRecursion (λ x. P (v x)) xs
unview P v [] h = tt
unview P v (x ∷ xs) h = (h.0, unview P v xs h.1)

pub then_put : (out o1 o2 a b : List ℕ) → o1 ≡ out ++ a → o2 ≡ o1 ++ b → o2 ≡ out ++ (a ++ b)
then_put out o1 o2 a b p q = q ∙ ap (λ l. l ++ b) p ∙ append_assoc out a b

take_next : {A : Type 0} (xs : List A) (i : ℕ) (x : A) → i < length xs → get_or xs i x ≡ x → take (suc i) xs ≡ take i xs ++ x ∷ []
take_next [] i x lt is = absurd (omega arith)
take_next {A} (y ∷ xs) zero x lt is = ap (λ (z : A). z ∷ []) is
take_next {A} (y ∷ xs) (suc i) x lt is = ap (λ (l : List A). y ∷ l) (take_next xs i x (omega arith) is)

-- one more of a list
pub put_next : {A B : Type 0} (f : B → List ℕ) (v : A → B) (xs : List A) (i : ℕ) (x : A) (out o1 o2 : List ℕ) → i < length xs → get_or xs i x ≡ x → o1 ≡ out ++ flat_map f (map v (take i xs)) → o2 ≡ o1 ++ f (v x)
    → o2 ≡ out ++ flat_map f (map v (take (i + 1) xs))
put_next f v xs i x out o1 o2 lt is p q =
    then_put out o1 o2 (flat_map f (map v (take i xs))) (f (v x)) p q
    ∙ ap (λ l. out ++ (flat_map f (map v (take i xs)) ++ l)) (sym (append-nil (f (v x))))
    ∙ ap (λ l. out ++ l) (sym (flat_map-append f (map v (take i xs)) (v x ∷ [])))
    ∙ ap (λ l. out ++ flat_map f l) (sym (map-append v (take i xs) (x ∷ [])))
    ∙ ap (λ l. out ++ flat_map f (map v l)) (sym (take_next xs i x lt is))
    ∙ ap (λ n. out ++ flat_map f (map v (take n xs))) (sym (add-one i))

-- a count, and so many
pub put_counted : {A B : Type 0} (f : B → List ℕ) (v : A → B) (xs all : List A) (out o1 o2 : List ℕ) → xs ≡ all → o1 ≡ out ++ u32 (length xs) → o2 ≡ o1 ++ flat_map f (map v xs) → o2 ≡ out ++ counted f (map v all)
put_counted f v xs all out o1 o2 e p q =
    then_put out o1 o2 (u32 (length xs)) (flat_map f (map v xs)) p q
    ∙ ap (λ n. out ++ (u32 n ++ flat_map f (map v xs))) (sym (length-map xs v))
    ∙ ap (λ l. out ++ counted f (map v l)) e

pub put_need_is : (n : Need) (ops : List OpDecl) (out o1 o2 o3 : List ℕ) → ops ≡ n.ops → o1 ≡ out ++ (u32 n.byte ++ u32 n.module.0) → o2 ≡ o1 ++ u32 (length ops) → o3 ≡ o2 ++ flat_map operator_bytes (ops_view ops) → o3 ≡ out ++ need_bytes (need_view n)
put_need_is n ops out o1 o2 o3 e p q r =
    then_put out o1 o3 (u32 n.byte ++ u32 n.module.0) (counted operator_bytes (ops_view n.ops)) p (put_counted operator_bytes op_view ops n.ops o1 o2 o3 e q r)

pub put_section_is : (s : Section) (es : List Entry) (b : ℕ) (out o0 o1 o2 o3 : List ℕ) → es ≡ s.entries → b ≡ section_byte (kind_view s.kind) → o0 ≡ out ++ b ∷ [] → o1 ≡ o0 ++ (u32 s.byte ++ u32 s.module.0) → o2 ≡ o1 ++ u32 (length es)
    → o3 ≡ o2 ++ flat_map entry_bytes (map entry_view es) → o3 ≡ out ++ section_bytes (section_view s)
put_section_is s es b out o0 o1 o2 o3 e f o p q r =
    then_put out o0 o3 (section_byte (kind_view s.kind) ∷ []) ((u32 s.byte ++ u32 s.module.0) ++ counted entry_bytes (map entry_view s.entries))
    (o ∙ ap (λ (k : ℕ). out ++ k ∷ []) f)
    (then_put o0 o1 o3 (u32 s.byte ++ u32 s.module.0) (counted entry_bytes (map entry_view s.entries)) p (put_counted entry_bytes entry_view es s.entries o1 o2 o3 e q r))
