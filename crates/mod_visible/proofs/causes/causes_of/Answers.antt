use Rattle.std.proofs.Common.{[], ◌++◌, length, map, ap, sym, subst, ◌∙◌, ◌≡◌, List}
use Rattle.mod_visible.specs.declared.cause.Cause.{Cause}
use Rattle.mod_visible.specs.declared.takers.Taker.{Taker}
use Rattle.mod_visible.specs.Closing.{Closes}
use Rattle.mod_visible.specs.Kinds.{firsts, owns}
use Rattle.mod_visible.specs.Causing.{cause_text, entry_texts, AreNamed}
use Rattle.mod_visible.proofs.CausingLaws.{are_causes}
use Rattle.mod_visible.proofs.Members.{in-nil}
use Rattle.mod_visible.proofs.causes.causes_of.Goals as goal

pub returns : goal.returns
returns c = λ names table.
    let entries = c.args.entries.now in
    let ps = entry_texts names entries in
    let start = c.new-closing.ensures in
    let exports = c.in_ok-export_all.ensures names table (c.in_ok-defined.ensures.defined names table) start.found in
    let none : map (cause_text names) c.new-closing.result.causes.items ≡ [] = ap (λ (l : List Cause). map (cause_text names) l) start.causes in
    let parts = exports.causes_are ∙ ap (λ l. l ++ owns ps) (c.in_ok-defined.ensures.causes names table ∙ ap (λ l. l ++ firsts ps) none) in
    let named_start : AreNamed (length names) c.new-closing.result.causes.items = subst (AreNamed (length names)) (sym start.causes) (λ x i. absurd (in-nil x i)) in
    let named = exports.named (c.in_ok-defined.ensures.named names table named_start) in
    let closes = subst (λ (l : List Taker). Closes l c.export_all.new.closing.found.keys c.export_all.new.closing.causes.items c.close.new.self.found.keys c.close.new.self.causes.items) c.in_ok-takers.ensures.takers c.in_ok-close.ensures in
    are_causes names entries table c.export_all.new.closing.found.keys exports.seeds c.close.new.self.found.keys c.export_all.new.closing.causes.items c.close.new.self.causes.items parts named closes
