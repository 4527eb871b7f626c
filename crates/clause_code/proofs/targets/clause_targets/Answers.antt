use Rattle.std.proofs.Common.{◌≡◌, ℕ, ◌+◌, List, Option, Some, None, length, sym, ap, ◌∙◌, subst, arith, rules}
use Rattle.std.proofs.lemmas.List.{length_push}
use Rattle.goal_code.specs.declared.instruction.Instruction.{Instruction}
use Rattle.goal_code.specs.Runs.{instruction_at}
use Rattle.clause_code.specs.declared.target.Target.{Target}
use Rattle.clause_code.proofs.ListLaws.{HaveUpTo, have_none, have_more, have_all, place_within}
use Rattle.clause_code.proofs.targets.clause_targets.Goals as goal

at_length : (code : List Instruction) (n m : ℕ) (o : Option Instruction) → n ≡ m → o ≡ instruction_at code (n + 1) → instruction_at code (m + 1) ≡ o
at_length code n m o e h = sym (h ∙ ap (λ k. instruction_at code (k + 1)) e)

pub loop-instruction-init : goal.loop-instruction-init
loop-instruction-init c =
    let k = c.args.constructs.now in
    let rows = c.args.tables.now.rows in
    let m = c.args.home.0 in
    let code = c.args.code.now in
    subst (λ (l : List Target). HaveUpTo k rows m code (length l) l) (sym c.new-list.ensures.items) (have_none k rows m code)

pub target_of-target-requires : goal.target_of-target-requires
target_of-target-requires c = λ is. ((c.requires (c.len.result + 1) c.in-Some.instruction (sym c.in-Some.ensures)).1 is).0

pub loop-instruction-preserved : goal.loop-instruction-preserved
loop-instruction-preserved c =
    let k = c.args.constructs.now in
    let rows = c.args.tables.now.rows in
    let m = c.args.home.0 in
    let code = c.args.code.now in
    let ts : List Target = c.loop-instruction.list.items in
    let same : c.len.result ≡ length ts = search rules in
    let some = at_length code.goals.code c.len.result (length ts) (Some c.in-Some.instruction) same c.in-Some.ensures in
    subst (λ (l : List Target). HaveUpTo k rows m code (length l) l) (sym c.in_ok-push.ensures.ok)
    (have_more k rows m code ts c.target_of-target.result c.in-Some.instruction c.loop-instruction.invariant some c.target_of-target.ensures)

pub loop-instruction-smaller : goal.loop-instruction-smaller
loop-instruction-smaller c =
    let ts : List Target = c.loop-instruction.list.items in
    let code = c.args.code.now.goals.code in
    let same : c.len.result ≡ length ts = search rules in
    let more = ap length c.in_ok-push.ensures.ok ∙ length_push ts c.target_of-target.result in
    let within = place_within code (length ts) c.in-Some.instruction (at_length code c.len.result (length ts) (Some c.in-Some.instruction) same c.in-Some.ensures) in
    omega (arith, more, within)

pub returns : goal.returns
returns c =
    let ts : List Target = c.loop-instruction.list.items in
    let code = c.args.code.now in
    let same : c.len.result ≡ length ts = search rules in
    have_all c.args.constructs.now c.args.tables.now.rows c.args.home.0 code ts c.loop-instruction.invariant
    (at_length code.goals.code c.len.result (length ts) None same c.in_default.ensures)
