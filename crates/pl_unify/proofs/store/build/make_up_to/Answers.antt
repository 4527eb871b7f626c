use Rattle.std.proofs.Common.{◌≡◌, ◌<◌, ◌∙◌, ◌++◌, ◌∷◌, [], ap, length, arith, rules}
use Rattle.std.proofs.lemmas.List.{length_push}
use Rattle.pl_unify.specs.declared.word.Word.TheVariants.{Var}
use Rattle.pl_unify.proofs.Building.{own_more}
use Rattle.pl_unify.proofs.store.build.make_up_to.Goals as goal

pub loop-vars-preserved : goal.loop-vars-preserved
loop-vars-preserved c =
    let number : c.len-n.result ≡ length c.loop-vars.vars.items = search rules in
    let here : length c.loop-vars.vars.items < c.args.top = omega (arith, c.loop-vars-test.true, c.len-in-loop-vars.ensures, c.loop-vars.vars.ok) in
    let made : c.put.new.list.items ≡ c.loop-vars.vars.items ++ Var (length c.loop-vars.vars.items) ∷ [] = c.put.ensures.items ∙ ap (λ n. c.loop-vars.vars.items ++ Var n ∷ []) number in
    let count = ap length made ∙ length_push c.loop-vars.vars.items (Var (length c.loop-vars.vars.items)) in
    record {
      room = omega (arith, count, here, c.put.ensures.len, c.put.ensures.capacity, c.loop-vars.invariant.room);
      low = omega (arith, count, c.loop-vars.invariant.low);
      high = omega (arith, count, here);
      vars = own_more c.make_room.new.list.items c.loop-vars.vars.items c.put.new.list.items c.loop-vars.invariant.low c.loop-vars.invariant.vars made;
    }
