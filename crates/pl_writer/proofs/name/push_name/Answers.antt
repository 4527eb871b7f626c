use Rattle.std.proofs.Common.{◌≡◌, ℕ, ◌++◌, List, sym, ◌∙◌, subst}
use Rattle.std.specs.Result.{OnOk}
use Rattle.pl_writer.proofs.EdgeSteps.{named-quoted, named-bare}
use Rattle.pl_writer.proofs.name.push_name.Goals as goal

pub returns-then-needs_quotes : goal.returns-then-needs_quotes
returns-then-needs_quotes c =
    subst (λ (t : List ℕ). OnOk c.push_quoted.result (c.push_quoted.new.out ≡ c.args.out.now ++ t))
    (sym (named-quoted c.args.quote c.args.text.now (sym c.needs_quotes.ensures ∙ c.if-needs_quotes.true))) c.push_quoted.ensures.ok

pub returns-else-needs_quotes : goal.returns-else-needs_quotes
returns-else-needs_quotes c =
    subst (λ (t : List ℕ). OnOk c.extend_from_slice.result (c.extend_from_slice.new.self ≡ c.args.out.now ++ t))
    (sym (named-bare c.args.quote c.args.text.now (sym c.needs_quotes.ensures ∙ c.if-needs_quotes.false))) c.extend_from_slice.ensures.ok
