-- Bindings, one after another.
use Rattle.std.proofs.Common.{◌≡◌, ℕ, suc, ◌+◌, ◌<◌, List, ◌∷◌, ◌++◌, length, drop, get_or, Bool, true, if◌then◌else◌, sym, ap, ◌∙◌, append_assoc, add-one}
use Rattle.std.proofs.Math.Seq.{drop-cons}
use Rattle.pl_ops.specs.Tables.{Operators}
use Rattle.prep_report.specs.Lines.{is_shown, next_text, bindings_text}
use Rattle.prep_report.specs.declared.answer.Binding.{Binding}

pub binding-step : (look : Operators) (names : List (List ℕ)) (all line line2 : List ℕ) (bs : List Binding) (i : ℕ) (some some2 : Bool) (b : Binding) → i < length bs → b ≡ get_or bs i b → all ≡ line ++ bindings_text look names some (drop i bs) → line2 ≡ line ++ next_text look names some b → some2 ≡ (if is_shown b.name then true else some) → all ≡ line2 ++ bindings_text look names some2 (drop (i + 1) bs)
binding-step look names all line line2 bs i some some2 b lies is h put shown =
    let next = next_text look names some b in
    let rest = bindings_text look names (if is_shown b.name then true else some) (drop (i + 1) bs) in
    let here : drop i bs ≡ b ∷ drop (i + 1) bs = drop-cons bs i b lies ∙ ap (λ x. x ∷ drop (suc i) bs) (sym is) ∙ ap (λ k. b ∷ drop k bs) (sym (add-one i)) in
    h
    ∙ ap (λ l. line ++ bindings_text look names some l) here
    ∙ sym (append_assoc line next rest)
    ∙ ap (λ l. l ++ rest) (sym put)
    ∙ ap (λ s. line2 ++ bindings_text look names s (drop (i + 1) bs)) (sym shown)
