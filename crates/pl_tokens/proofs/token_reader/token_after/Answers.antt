use Rattle.std.proofs.Common.{◌≡◌, ◌+◌, ◌-◌, length, drop, take, ◌&&◌, nat_eq, ap, sym, ◌∙◌}
use Rattle.text_model.specs.Tokens.{found, fault, token_at, placed}
use Rattle.pl_tokens.specs.Lexing.{scanned_view}
use Rattle.pl_tokens.specs.Views.{kind_view}
use Rattle.pl_tokens.proofs.Skipping.{rest_is}
use Rattle.pl_tokens.proofs.NextTokens.{found_after}
use Rattle.pl_tokens.proofs.token_reader.token_after.Goals as goal

pub returns-in-Seen-clause-view : goal.returns-in-Seen-clause-view
returns-in-Seen-clause-view c =
    let valid = c.args.valid.now in
    let p = c.args.place in
    let seen : found (kind_view c.in-Seen.kind) c.in-Seen.len ≡ token_at c.args.marked (p.minus && nat_eq c.args.at p.at) (drop c.args.at valid) =
    ap scanned_view (sym c.in-Seen.is) ∙ c.in_ok-kind.ensures.view
    ∙ ap (λ m. token_at c.args.marked m (take (length valid - c.args.at) (drop c.args.at valid))) c.holds_at-minus.ensures
    ∙ ap (token_at c.args.marked (p.minus && nat_eq c.args.at p.at)) (rest_is valid c.args.at) in
    ap (λ d. placed (record { lexeme = kind_view c.in-Seen.kind; byte = c.args.at; direct = d }) (c.args.at + c.in-Seen.len)) c.holds_at-direct.ensures
    ∙ found_after valid c.args.marked p.direct p.minus p.at c.args.at _ c.requires.skipped c.requires.left seen

pub returns-in-Fault-clause-view : goal.returns-in-Fault-clause-view
returns-in-Fault-clause-view c =
    let valid = c.args.valid.now in
    let p = c.args.place in
    let seen : fault c.in-Fault.number c.in-Fault.k ≡ token_at c.args.marked (p.minus && nat_eq c.args.at p.at) (drop c.args.at valid) =
    ap scanned_view (sym c.in-Fault.is) ∙ c.in_ok-kind.ensures.view
    ∙ ap (λ m. token_at c.args.marked m (take (length valid - c.args.at) (drop c.args.at valid))) c.holds_at-minus.ensures
    ∙ ap (token_at c.args.marked (p.minus && nat_eq c.args.at p.at)) (rest_is valid c.args.at) in
    found_after valid c.args.marked p.direct p.minus p.at c.args.at _ c.requires.skipped c.requires.left seen
