use Rattle.std.proofs.Common.{◌+◌, ◌<◌, ℕ, List, length, sym, ap, ◌∙◌, subst, arith}
use Rattle.std.proofs.lemmas.List.{length_push}
use Rattle.goal_code.specs.Runs.{IsSound}
use Rattle.pl_store.specs.Linked.{procedure_at}
use Rattle.clause_code.specs.Codes.{code_at}
use Rattle.clause_code.specs.declared.codes.ClauseCode.{ClauseCode}
use Rattle.clause_code.specs.Led.{Led}
use Rattle.clause_code.specs.Targets.{IsLed, HaveTargets, led_at}
use Rattle.clause_code.proofs.ListLaws.{led_push}
use Rattle.clause_code.proofs.targets.Targets.of.Goals as goal

pub clause_targets-requires : goal.clause_targets-requires
clause_targets-requires c =
    let test = c.loop-number-test.true in
    let last = c.clauses-number-end.ensures in
    let within : c.loop-number.number < length c.args.tables.now.clauses = omega (arith, test, last) in
    subst (λ (k : ClauseCode). IsSound c.args.constructs.now.names.control k.body.words k.goals.code) (sym c.get.ensures) (c.requires.codes.each c.loop-number.number within).goals.sound

pub loop-number-preserved : goal.loop-number-preserved
loop-number-preserved c =
    let k = c.args.constructs.now in
    let t = c.args.tables.now in
    let ks = c.args.codes.now in
    let n = c.loop-number.number in
    let ls = c.loop-number.list.items in
    let home = c.home-home.ensures ∙ ap (λ p. (procedure_at t p).home) c.owner.ensures in
    let x : Led = record { home = c.home-home.result.0; targets = c.in_ok-targets.targets.items } in
    let led : IsLed k t ks n x = record {
      home = home;
      targets = subst (λ (m : ℕ). HaveTargets k t.rows m (code_at ks n) c.in_ok-targets.targets.items) home
          (subst (λ (code : ClauseCode). HaveTargets k t.rows c.home-home.result.0 code c.in_ok-targets.targets.items) c.get.ensures c.in_ok-targets.ensures);
    } in
    record {
      count = ap length c.in_ok-push.ensures.ok ∙ length_push ls x ∙ ap (λ m. m + 1) c.loop-number.invariant.count;
      each = λ j lt. subst (λ (l : List Led). IsLed k t ks j (led_at l j)) (sym c.in_ok-push.ensures.ok) (led_push (IsLed k t ks) ls x n c.loop-number.invariant.count c.loop-number.invariant.each led j lt);
    }
