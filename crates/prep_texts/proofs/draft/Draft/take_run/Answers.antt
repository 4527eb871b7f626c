use Rattle.std.proofs.Common.{◌≡◌, sym, ap, ◌∙◌, subst, inl, inr, Err}
use Rattle.pl_terms.specs.Order.{texts_of}
use Rattle.pl_ops.specs.Tables.{operator}
use Rattle.pl_tokens.specs.Views.{tokens_view}
use Rattle.unit_model.specs.Preparing.{step}
use Rattle.unit_model.specs.Prepared.{ReadsRun}
use Rattle.prep_texts.specs.Seen.{next_seen}
use Rattle.prep_texts.specs.Drafts.{state_of}
use Rattle.prep_texts.proofs.Drafting.{state-grown, well-grown, table_in-state}
use Rattle.reading_laws.proofs.RunTokens.{from_code, to_code, first-same, within-below}
use Rattle.prep_texts.proofs.draft.Draft.take_run.Goals as goal

pub returns-in-Err-NoTerm-clause-fault : goal.returns-in-Err-NoTerm-clause-fault
returns-in-Err-NoTerm-clause-fault c = λ n byte e.
    let old = c.args.self.now in
    let ts = c.args.run.now in
    let five : n ≡ 5 = cc in
    let first : byte ≡ c.first_byte.result = cc in
    let looks = ap operator (table_in-state c.args.known.now old) in
    inl (record {
      number = five;
      none = λ t r. c.in-Err-NoTerm.ensures.no_term (ap (λ x. Err x) c.in-Err-NoTerm.field-0-is) t (to_code (operator old.table) ts t c.requires.run (subst (λ f. ReadsRun f (tokens_view ts) t) looks r));
      first = first ∙ c.first_byte.ensures ∙ first-same ts;
    })

pub take-requires-clause-well : goal.take-requires-clause-well
take-requires-clause-well c = well-grown c.args.self.now c.read.new.names c.in-Ok.ensures.names c.requires.well

pub take-requires-clause-below : goal.take-requires-clause-below
take-requires-clause-below c = within-below _ _ c.in-Ok.ensures.within

pub returns-in-Ok-take-clause-ok : goal.returns-in-Ok-take-clause-ok
returns-in-Ok-take-clause-ok c =
    let old = c.args.self.now in
    let ts = c.args.run.now in
    let known = c.args.known.now in
    let t = texts_of c.read.new.names c.in-Ok.term.term in
    record {
      term = t;
      reads = subst (λ f. ReadsRun f (tokens_view ts) t) (sym (ap operator (table_in-state known old))) (from_code (operator old.table) ts t c.requires.run c.in-Ok.ensures.ok);
      leads =
          ap (λ b. next_seen (step t b (state_of known old))) (sym (c.in-Ok.ensures.byte ∙ first-same ts))
          ∙ ap (λ s. next_seen (step t c.in-Ok.term.byte s)) (sym (state-grown old c.read.new.names c.in-Ok.ensures.names c.requires.well known))
          ∙ c.in-Ok-take.ensures.ok;
    }

pub returns-in-Err-Fault-clause-fault : goal.returns-in-Err-Fault-clause-fault
returns-in-Err-Fault-clause-fault c = λ n byte e.
    let old = c.args.self.now in
    let ts = c.args.run.now in
    let known = c.args.known.now in
    let t = texts_of c.read.new.names c.in-Ok.term.term in
    let number : c.in-Err-Fault.number ≡ n = cc in
    let first : byte ≡ c.in-Ok.term.byte = cc in
    inr (record {
      term = t;
      reads = subst (λ f. ReadsRun f (tokens_view ts) t) (sym (ap operator (table_in-state known old))) (from_code (operator old.table) ts t c.requires.run c.in-Ok.ensures.ok);
      wrong =
          ap (λ b. next_seen (step t b (state_of known old))) (sym (c.in-Ok.ensures.byte ∙ first-same ts))
          ∙ ap (λ s. next_seen (step t c.in-Ok.term.byte s)) (sym (state-grown old c.read.new.names c.in-Ok.ensures.names c.requires.well known))
          ∙ c.in-Err-Fault.ensures.fault c.in-Err-Fault.number (ap Err c.in-Err-Fault.field-0-is)
          ∙ ap (λ k. Err k) number;
      first = first ∙ c.in-Ok.ensures.byte ∙ first-same ts;
    })
