use Rattle.std.proofs.Common.{◌+◌, List, length, subst, sym, ap, ◌∙◌, slice_index_or}
use Rattle.std.proofs.lemmas.List.{length_push}
use Rattle.pl_store.specs.Linked.{no_clause, clause_at}
use Rattle.clause_code.specs.declared.codes.ClauseCode.{ClauseCode}
use Rattle.clause_code.specs.Codes.{IsCoded, code_at}
use Rattle.clause_code.proofs.CodedLaws.{coded-push, parts-are}
use Rattle.clause_code.proofs.codes.all_codes.Goals as goal

pub loop-number-preserved : goal.loop-number-preserved
loop-number-preserved c =
    let t = c.args.tables.now in
    let ks = c.loop-number.list.items in
    let n = c.loop-number.number in
    let coded : IsCoded c.args.names (clause_at t n).clause c.in_ok-code.code =
    parts-are (clause_at t n).clause _ _ _ c.clause-vars.ensures.width c.clause-vars.ensures.head c.clause-vars.ensures.body c.args.names c.in_ok-code.code c.in_ok-code.ensures in
    record {
      count = ap length c.in_ok-push.ensures.ok ∙ length_push ks c.in_ok-code.code ∙ ap (λ m. m + 1) c.loop-number.invariant.count;
      each = λ k lt. subst (λ (l : List ClauseCode). IsCoded c.args.names (slice_index_or t.clauses k no_clause).clause (code_at l k)) (sym c.in_ok-push.ensures.ok)
          (coded-push c.args.names t.clauses ks n c.in_ok-code.code c.loop-number.invariant.count c.loop-number.invariant.each coded k lt);
    }
