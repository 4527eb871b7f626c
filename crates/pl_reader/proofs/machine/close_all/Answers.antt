use Rattle.std.proofs.Common.{◌≡◌, ◌*◌, ◌-◌, ◌<◌, ◌≤◌, length, take, get_or, refl, ap, ◌∙◌, subst, arith}
use Rattle.text_model.specs.Grammar.{right_weight, priority}
use Rattle.pl_reader.specs.Machine.{applied}
use Rattle.pl_reader.specs.Standing.{base}
use Rattle.pl_reader.proofs.Closing.{turned, topped, all_refused, all_closed, not_below, all_on, bare_empty, bare_mark, bare_stands}
use Rattle.pl_reader.proofs.machine.close_all.Goals as goal

pub closing-init : goal.closing-init
closing-init c = λ num cs fs e h. record { frames = fs; operand = e; stands = h; same = refl }

pub returns-in_default : goal.returns-in_default
returns-in_default c = λ num cs fs e h.
    let t = c.closing.invariant num cs fs e h in
    let bare = bare_empty num c.closing.waiting.items cs t.frames t.stands.stack_is (omega (arith, ap length c.deref.ensures.value, c.in_default.ensures.item.3)) in
    (t.operand, t.same ∙ all_closed num t.frames t.operand bare, bare_stands num cs t.frames t.operand _ _ _ bare t.stands)

pub returns-in-Mark : goal.returns-in-Mark
returns-in-Mark c = λ num cs fs e h.
    let t = c.closing.invariant num cs fs e h in
    let w = c.in-Some.last.now in
    let same = c.deref.ensures.value in
    let last : w ≡ get_or c.closing.waiting.items (length c.closing.waiting.items - 1) w = c.in-Some.ensures.item.1 ∙ ap (λ l. get_or l (length l - 1) w) same in
    let bare = bare_mark num c.closing.waiting.items cs t.frames w t.stands.stack_is last c.in-Mark.is in
    (t.operand, t.same ∙ all_closed num t.frames t.operand bare, bare_stands num cs t.frames t.operand _ _ _ bare t.stands)

pub returns-then-not-is_below : goal.returns-then-not-is_below
returns-then-not-is_below c = λ num cs fs e h.
    let t = c.closing.invariant num cs fs e h in
    let w = c.in-Some.last.now in
    let same = c.deref.ensures.value in
    let last : w ≡ get_or c.closing.waiting.items (length c.closing.waiting.items - 1) w = c.in-Some.ensures.item.1 ∙ ap (λ l. get_or l (length l - 1) w) same in
    let top = topped num c.closing.waiting.items cs t.frames w c.in-Waits.op c.in-Waits.name c.in-Waits.arity t.stands.stack_is (omega (arith, ap length same, c.in-Some.ensures.item.3)) last c.in-Waits.is in
    let wide : right_weight c.in-Waits.op ≤ 2 * c.closing.priority = subst (λ x. x ≤ 2 * c.closing.priority) c.right_weight-op_weight.ensures (not_below _ _ _ c.is_below.ensures c.if-not-is_below.true) in
    let over : right_weight c.in-Waits.op ≤ 2 * priority t.operand = subst (λ x. right_weight c.in-Waits.op ≤ 2 * x) t.stands.priority_is wide in
    t.same ∙ all_refused num (base num cs) t.frames t.operand _ _ _ _ top over

pub closing-preserved : goal.closing-preserved
closing-preserved c = λ num cs fs e h.
    let t = c.closing.invariant num cs fs e h in
    let w = c.in-Some.last.now in
    let same = c.deref.ensures.value in
    let last : w ≡ get_or c.closing.waiting.items (length c.closing.waiting.items - 1) w = c.in-Some.ensures.item.1 ∙ ap (λ l. get_or l (length l - 1) w) same in
    let top = topped num c.closing.waiting.items cs t.frames w c.in-Waits.op c.in-Waits.name c.in-Waits.arity t.stands.stack_is (omega (arith, ap length same, c.in-Some.ensures.item.3)) last c.in-Waits.is in
    let fits : 2 * c.closing.priority < right_weight c.in-Waits.op = subst (λ x. 2 * c.closing.priority < x) c.right_weight-op_weight.ensures (c.is_below.ensures.0 c.if-not-is_below.false) in
    let under : 2 * priority t.operand < right_weight c.in-Waits.op = subst (λ x. 2 * x < right_weight c.in-Waits.op) t.stands.priority_is fits in
    let next = turned num cs t.frames t.operand c.closing.waiting.items _ c.closing.out.items (record { priority = c.closing.priority; weight = c.closing.weight }) c.in-Waits.op c.in-Waits.name c.in-Waits.arity t.stands top in
    let rest_is : c.pop.new.self.items ≡ take (length c.closing.waiting.items - 1) c.closing.waiting.items =
    c.pop.ensures.rest ∙ ap (λ n. take (n - 1) c.closing.waiting.items) c.closing.waiting.ok.0 in
    record {
      frames = top.frames;
      operand = applied top.frame t.operand;
      stands = record {
        stack_is = rest_is ∙ next.stack_is;
        out_is = c.in_ok-push.ensures.items ∙ next.out_is;
        priority_is = next.priority_is;
        weight_is = c.right_weight-op_weight.ensures ∙ next.weight_is;
      };
      same = t.same ∙ all_on num (base num cs) t.frames t.operand _ _ _ _ top under;
    }
