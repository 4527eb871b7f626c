use Rattle.std.proofs.Common.{◌++◌, true, false, sym, ap, ◌∙◌, append_assoc}
use Rattle.pl_writer.specs.Edges.{quoted_text, gap_by}
use Rattle.pl_writer.specs.declared.edge.Edge.{Edge}
use Rattle.pl_writer.proofs.EdgeSteps.{quoted-edge, quoted-letters, begins-after, keeps}
use Rattle.pl_writer.proofs.edge.emit_quoted.Goals as goal

pub returns-clause-edge : goal.returns-clause-edge
returns-clause-edge c =
    ap (λ b. let e : Edge = record { started = true; last = 39; letters = false; before = b; minus = false } in e) c.is_before.ensures ∙ sym (quoted-edge c.args.role c.args.text.now)

pub returns-clause-bytes : goal.returns-clause-bytes
returns-clause-bytes c =
    let quoted = quoted_text c.args.text.now in
    c.in_ok-push_quoted.ensures.ok
    ∙ ap (λ l. l ++ quoted) c.in_ok-push_gap.ensures.ok
    ∙ append_assoc c.args.out.now (gap_by c.args.edge 39 false false) quoted
    ∙ ap (λ b. c.args.out.now ++ (gap_by c.args.edge 39 false b ++ quoted)) (sym (quoted-letters c.args.role c.args.text.now))

pub returns-in_err-push_quoted-clause-err : goal.returns-in_err-push_quoted-clause-err
returns-in_err-push_quoted-clause-err c = keeps _ (begins-after _ _ _ _ c.in_ok-push_gap.ensures.ok c.in_err-push_quoted.ensures.err)
