use Rattle.std.proofs.Common.{◌≡◌, ℕ, suc, ◌+◌, ◌<◌, List, ◌∷◌, length, drop, get_or, sym, ap, ◌∙◌, subst, arith, drop-cons, length-drop}
use Rattle.pl_terms.specs.declared.cell.Cell.{Cell}
use Rattle.pl_reader.proofs.CharCodes.{Decoding, no_text, decode_begins, decode_next, decode_more, decode_cut}
use Rattle.pl_reader.proofs.codes.push_codes.Goals as goal
use Rattle.pl_reader.proofs.codes.push_codes.Goals.{then-partial-eq0+in_ok-push_code+in_ok-count, else-partial-eq0}

pub returns-in_default-clause-codes : goal.returns-in_default-clause-codes
returns-in_default-clause-codes c = (no_text c.args.out.now.items c.args.text.now c.in_default.ensures.cases).0

pub returns-in_default-clause-count : goal.returns-in_default-clause-count
returns-in_default-clause-count c = (no_text c.args.out.now.items c.args.text.now c.in_default.ensures.cases).1

pub loop-byte-init : goal.loop-byte-init
loop-byte-init c = decode_begins c.args.out.now.items c.args.text.now c.in-Some.rest.now c.in-Some.first.now c.begun-partial.result.missing c.begun-partial.result.bits c.in-Some.ensures.cases.0 c.begun-partial.ensures.missing c.begun-partial.ensures.bits

opened : (xs : List ℕ) (i : ℕ) → i < length xs → drop i xs ≡ get_or xs i 0 ∷ drop (i + 1) xs
opened xs i h = let e : suc i ≡ i + 1 = omega arith in drop-cons xs i 0 h ∙ ap (λ k. get_or xs i 0 ∷ drop k xs) e

pub loop-byte-preserved : goal.loop-byte-preserved
loop-byte-preserved c =
    let P : List ℕ → Type 0 = λ l. Decoding c.args.out.now.items c.args.text.now c.loop-byte.partial.missing c.loop-byte.partial.bits l c.loop-byte.out.items c.loop-byte.count in
    let d = subst P (opened c.in-Some.rest.now c.loop-byte.byte-index c.loop-byte-test.true) c.loop-byte.invariant in
    elim c.if-partial-eq0.branch [
      | then-partial-eq0+in_ok-push_code+in_ok-count w ↦
          decode_next c.args.out.now.items c.args.text.now c.loop-byte.partial.bits _ _ c.loop-byte.out.items c.loop-byte.count c.loop-byte.partial.missing c.if-partial-eq0.partial.missing c.if-partial-eq0.partial.bits c.if-partial-eq0.out.items c.if-partial-eq0.count d w.if-partial-eq0.true
          (ap (λ v. v.items) w.out-is ∙ w.in_ok-push_code.ensures)
          (w.count-is ∙ w.in_ok-count.ensures)
          (ap (λ p. p.missing) w.partial-is ∙ w.begun-partial-then-partial-eq0.ensures.missing)
          (ap (λ p. p.bits) w.partial-is ∙ w.begun-partial-then-partial-eq0.ensures.bits)
      | else-partial-eq0 w ↦
          let e : c.if-partial-eq0.out.items ≡ c.loop-byte.out.items = ap (λ v. v.items) w.out-is in
          let m : c.if-partial-eq0.partial.missing + 1 ≡ c.loop-byte.partial.missing = ap (λ p. p.missing + 1) w.partial-is ∙ w.continued-partial.ensures.missing in
          let b = ap (λ p. p.bits) w.partial-is ∙ w.continued-partial.ensures.bits in
          let next = decode_more c.args.out.now.items c.args.text.now c.loop-byte.partial.bits _ _ c.loop-byte.out.items c.loop-byte.count c.loop-byte.partial.missing c.if-partial-eq0.partial.missing c.if-partial-eq0.partial.bits d m b in
          let Q : List Cell → ℕ → Type 0 = λ o n. Decoding c.args.out.now.items c.args.text.now c.if-partial-eq0.partial.missing c.if-partial-eq0.partial.bits (drop (c.loop-byte.byte-index + 1) c.in-Some.rest.now) o n in
          subst (λ o. Q o c.if-partial-eq0.count) (sym e) (subst (Q c.loop-byte.out.items) (sym w.count-is) next)
    ]

pub returns-else-partial-eq0-2-clause-codes : goal.returns-else-partial-eq0-2-clause-codes
returns-else-partial-eq0-2-clause-codes c = (decode_cut c.args.out.now.items c.args.text.now c.loop-byte.partial.bits (drop c.loop-byte.byte-index c.in-Some.rest.now) c.loop-byte.out.items c.loop-byte.count c.loop-byte.partial.missing (omega (arith, length-drop {A = ℕ})) c.loop-byte.invariant (omega arith)).0

pub returns-else-partial-eq0-2-clause-count : goal.returns-else-partial-eq0-2-clause-count
returns-else-partial-eq0-2-clause-count c = (decode_cut c.args.out.now.items c.args.text.now c.loop-byte.partial.bits (drop c.loop-byte.byte-index c.in-Some.rest.now) c.loop-byte.out.items c.loop-byte.count c.loop-byte.partial.missing (omega (arith, length-drop {A = ℕ})) c.loop-byte.invariant (omega arith)).1
