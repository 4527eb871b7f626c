use Rattle.std.proofs.Common.{◌≡◌, ◌<◌, length, List, [], ◌∷◌, ◌++◌, false, refl, sym, ap, ◌∙◌, arith}
use Rattle.pl_ops.specs.Tables.{operator}
use Rattle.pl_writer.specs.declared.todo.Todo.{Todo}
use Rattle.pl_writer.specs.declared.todo.Todo.TheVariants.{Term, Tail, Arguments, Put}
use Rattle.pl_writer.proofs.EdgeSteps.{begins-same, begins-more, begins-then}
use Rattle.pl_writer.proofs.WriterLoop.{cell_comes, term_step, tail_step_taken, tail_step_kept, arguments_step, piece_step, start_writes, end_writes}
use Rattle.pl_writer.proofs.writer.write_cells.Goals as goal

pub write-init : goal.write-init
write-init c =
    let stack : c.push.new.self.items ≡ Term c.args.max false ∷ [] = c.in_ok-push.ensures.items ∙ ap (λ l. l ++ Term c.args.max false ∷ []) c.new-stack.ensures.items in
    record {
      writes = start_writes (operator c.args.table.now) c.args.names.now c.args.quote c.args.max c.args.cells.now c.args.out.now c.push.new.self.items c.requires stack;
      begins = begins-same c.args.out.now c.args.out.now refl;
    }

pub put_term-requires : goal.put_term-requires
put_term-requires c = c.write.invariant.writes.within

pub put_tail-requires : goal.put_tail-requires
put_tail-requires c = c.write.invariant.writes.within

pub overflow_add-at : goal.overflow_add-at
overflow_add-at c =
    let e : c.write.stack.items ≡ c.pop.new.self.items ++ Term c.in-Term.most c.in-Term.operand ∷ [] = c.in-Some.ensures.items ∙ ap (λ t. c.pop.new.self.items ++ t ∷ []) c.in-Term.is in
    let k = cell_comes (operator c.args.table.now) c.args.names.now c.args.quote _ c.args.cells.now c.write.at c.write.out c.write.edge c.write.stack.items c.pop.new.self.items (Term c.in-Term.most c.in-Term.operand) c.write.invariant.writes e refl in
    let lies : c.write.at < length c.args.cells.now = k.lies in
    omega arith

pub write-smaller-in-Term : goal.write-smaller-in-Term
write-smaller-in-Term c =
    let e : c.write.stack.items ≡ c.pop.new.self.items ++ Term c.in-Term.most c.in-Term.operand ∷ [] = c.in-Some.ensures.items ∙ ap (λ t. c.pop.new.self.items ++ t ∷ []) c.in-Term.is in
    (term_step (operator c.args.table.now) c.args.names.now c.args.quote _ c.args.cells.now c.write.at c.write.out c.write.edge c.write.stack.items c.pop.new.self.items c.put_term.new.stack.items c.in-Term.most c.in-Term.operand c.write.invariant.writes e c.in_ok-put_term-in-Term.ensures).less

pub write-preserved-in-Term : goal.write-preserved-in-Term
write-preserved-in-Term c =
    let e : c.write.stack.items ≡ c.pop.new.self.items ++ Term c.in-Term.most c.in-Term.operand ∷ [] = c.in-Some.ensures.items ∙ ap (λ t. c.pop.new.self.items ++ t ∷ []) c.in-Term.is in
    record {
      writes = (term_step (operator c.args.table.now) c.args.names.now c.args.quote _ c.args.cells.now c.write.at c.write.out c.write.edge c.write.stack.items c.pop.new.self.items c.put_term.new.stack.items c.in-Term.most c.in-Term.operand c.write.invariant.writes e c.in_ok-put_term-in-Term.ensures).writes;
      begins = c.write.invariant.begins;
    }

pub write-smaller-then-branch : goal.write-smaller-then-branch
write-smaller-then-branch c =
    let e : c.write.stack.items ≡ c.pop.new.self.items ++ Tail ∷ [] = c.in-Some.ensures.items ∙ ap (λ t. c.pop.new.self.items ++ t ∷ []) c.in-Tail.is in
    (tail_step_taken (operator c.args.table.now) c.args.names.now c.args.quote _ c.args.cells.now c.write.at c.write.out c.write.edge c.write.stack.items c.pop.new.self.items c.put_tail.new.stack.items c.write.invariant.writes e c.in_ok-put_tail-in-Tail.ensures.stack (sym c.in_ok-put_tail-in-Tail.ensures.taken ∙ c.if-branch.true)).less

pub write-preserved-then-branch : goal.write-preserved-then-branch
write-preserved-then-branch c =
    let e : c.write.stack.items ≡ c.pop.new.self.items ++ Tail ∷ [] = c.in-Some.ensures.items ∙ ap (λ t. c.pop.new.self.items ++ t ∷ []) c.in-Tail.is in
    record {
      writes = (tail_step_taken (operator c.args.table.now) c.args.names.now c.args.quote _ c.args.cells.now c.write.at c.write.out c.write.edge c.write.stack.items c.pop.new.self.items c.put_tail.new.stack.items c.write.invariant.writes e c.in_ok-put_tail-in-Tail.ensures.stack (sym c.in_ok-put_tail-in-Tail.ensures.taken ∙ c.if-branch.true)).writes;
      begins = c.write.invariant.begins;
    }

pub write-smaller-else-branch : goal.write-smaller-else-branch
write-smaller-else-branch c =
    let e : c.write.stack.items ≡ c.pop.new.self.items ++ Tail ∷ [] = c.in-Some.ensures.items ∙ ap (λ t. c.pop.new.self.items ++ t ∷ []) c.in-Tail.is in
    (tail_step_kept (operator c.args.table.now) c.args.names.now c.args.quote _ c.args.cells.now c.write.at c.write.out c.write.edge c.write.stack.items c.pop.new.self.items c.put_tail.new.stack.items c.write.invariant.writes e c.in_ok-put_tail-in-Tail.ensures.stack (sym c.in_ok-put_tail-in-Tail.ensures.taken ∙ c.if-branch.false)).less

pub write-preserved-else-branch : goal.write-preserved-else-branch
write-preserved-else-branch c =
    let e : c.write.stack.items ≡ c.pop.new.self.items ++ Tail ∷ [] = c.in-Some.ensures.items ∙ ap (λ t. c.pop.new.self.items ++ t ∷ []) c.in-Tail.is in
    record {
      writes = (tail_step_kept (operator c.args.table.now) c.args.names.now c.args.quote _ c.args.cells.now c.write.at c.write.out c.write.edge c.write.stack.items c.pop.new.self.items c.put_tail.new.stack.items c.write.invariant.writes e c.in_ok-put_tail-in-Tail.ensures.stack (sym c.in_ok-put_tail-in-Tail.ensures.taken ∙ c.if-branch.false)).writes;
      begins = c.write.invariant.begins;
    }

pub write-smaller-in-Continue-branch-4 : goal.write-smaller-in-Continue-branch-4
write-smaller-in-Continue-branch-4 c =
    let e : c.write.stack.items ≡ c.pop.new.self.items ++ Arguments c.in-Arguments.count ∷ [] = c.in-Some.ensures.items ∙ ap (λ t. c.pop.new.self.items ++ t ∷ []) c.in-Arguments.is in
    (arguments_step (operator c.args.table.now) c.args.names.now c.args.quote _ c.args.cells.now c.write.at c.write.out c.write.edge c.write.stack.items c.pop.new.self.items c.push_arguments.new.stack.items c.in-Arguments.count c.write.invariant.writes e c.in_ok-push_arguments-in-Arguments.ensures).less

pub write-preserved-in-Continue-branch-4 : goal.write-preserved-in-Continue-branch-4
write-preserved-in-Continue-branch-4 c =
    let e : c.write.stack.items ≡ c.pop.new.self.items ++ Arguments c.in-Arguments.count ∷ [] = c.in-Some.ensures.items ∙ ap (λ t. c.pop.new.self.items ++ t ∷ []) c.in-Arguments.is in
    record {
      writes = (arguments_step (operator c.args.table.now) c.args.names.now c.args.quote _ c.args.cells.now c.write.at c.write.out c.write.edge c.write.stack.items c.pop.new.self.items c.push_arguments.new.stack.items c.in-Arguments.count c.write.invariant.writes e c.in_ok-push_arguments-in-Arguments.ensures).writes;
      begins = c.write.invariant.begins;
    }

pub write-smaller : goal.write-smaller
write-smaller c =
    let e : c.write.stack.items ≡ c.pop.new.self.items ++ Put c.in-Put.part ∷ [] = c.in-Some.ensures.items ∙ ap (λ t. c.pop.new.self.items ++ t ∷ []) c.in-Put.is in
    (piece_step (operator c.args.table.now) c.args.names.now c.args.quote _ c.args.cells.now c.write.at c.write.out c.emit.new.out c.write.edge c.in_ok-edge-in-Put.edge c.write.stack.items c.pop.new.self.items c.in-Put.part c.write.invariant.writes e c.in_ok-edge-in-Put.ensures.edge c.in_ok-edge-in-Put.ensures.bytes).less

pub write-preserved : goal.write-preserved
write-preserved c =
    let e : c.write.stack.items ≡ c.pop.new.self.items ++ Put c.in-Put.part ∷ [] = c.in-Some.ensures.items ∙ ap (λ t. c.pop.new.self.items ++ t ∷ []) c.in-Put.is in
    record {
      writes = (piece_step (operator c.args.table.now) c.args.names.now c.args.quote _ c.args.cells.now c.write.at c.write.out c.emit.new.out c.write.edge c.in_ok-edge-in-Put.edge c.write.stack.items c.pop.new.self.items c.in-Put.part c.write.invariant.writes e c.in_ok-edge-in-Put.ensures.edge c.in_ok-edge-in-Put.ensures.bytes).writes;
      begins = begins-then c.args.out.now c.write.out c.emit.new.out c.write.invariant.begins (begins-more c.write.out c.emit.new.out _ c.in_ok-edge-in-Put.ensures.bytes);
    }

empty : (xs : List Todo) → length xs ≡ 0 → xs ≡ []
empty [] e = refl
empty (x ∷ xs) e = absurd (omega arith)

pub returns-clause-ok : goal.returns-clause-ok
returns-clause-ok c =
    end_writes (operator c.args.table.now) c.args.names.now c.args.quote c.args.max c.args.cells.now c.write.at c.args.out.now c.write.out c.write.edge c.write.stack.items c.write.invariant.writes
    (empty c.write.stack.items (sym c.write.stack.ok.0 ∙ c.in_default.ensures.cases.0))
