use Rattle.std.proofs.Common.{◌≡◌, ℕ, ◌++◌, List, sym, ◌∙◌, subst}
use Rattle.std.specs.Result.{IfOk, OnOk}
use Rattle.pl_writer.specs.Edges.{edge_of, gapped}
use Rattle.pl_writer.proofs.EdgeSteps.{named-quoted, named-bare}
use Rattle.pl_writer.proofs.edge.emit_name.Goals as goal

pub returns-then-needs_quotes-clause-edge : goal.returns-then-needs_quotes-clause-edge
returns-then-needs_quotes-clause-edge c =
    subst (λ (t : List ℕ). IfOk c.emit_quoted.result (λ e. e ≡ edge_of (record { text = t; role = c.args.role })))
    (sym (named-quoted c.args.quote c.args.text.now (sym c.needs_quotes.ensures ∙ c.if-needs_quotes.true))) c.emit_quoted.ensures.edge

pub returns-then-needs_quotes-clause-bytes : goal.returns-then-needs_quotes-clause-bytes
returns-then-needs_quotes-clause-bytes c =
    subst (λ (t : List ℕ). OnOk c.emit_quoted.result (c.emit_quoted.new.out ≡ c.args.out.now ++ gapped c.args.edge (record { text = t; role = c.args.role })))
    (sym (named-quoted c.args.quote c.args.text.now (sym c.needs_quotes.ensures ∙ c.if-needs_quotes.true))) c.emit_quoted.ensures.bytes

pub returns-else-needs_quotes-clause-edge : goal.returns-else-needs_quotes-clause-edge
returns-else-needs_quotes-clause-edge c =
    subst (λ (t : List ℕ). IfOk c.emit_bytes.result (λ e. e ≡ edge_of (record { text = t; role = c.args.role })))
    (sym (named-bare c.args.quote c.args.text.now (sym c.needs_quotes.ensures ∙ c.if-needs_quotes.false))) c.emit_bytes.ensures.edge

pub returns-else-needs_quotes-clause-bytes : goal.returns-else-needs_quotes-clause-bytes
returns-else-needs_quotes-clause-bytes c =
    subst (λ (t : List ℕ). OnOk c.emit_bytes.result (c.emit_bytes.new.out ≡ c.args.out.now ++ gapped c.args.edge (record { text = t; role = c.args.role })))
    (sym (named-bare c.args.quote c.args.text.now (sym c.needs_quotes.ensures ∙ c.if-needs_quotes.false))) c.emit_bytes.ensures.bytes
