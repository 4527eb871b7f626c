use Rattle.std.proofs.Common.{◌≡◌, ◌≤◌, ◌+◌, ◌-◌, ◌∙◌, ◌++◌, ◌∷◌, [], ap, sym, subst, length, arith, rules, true}
use Rattle.pl_unify.specs.State.{State, Stored}
use Rattle.pl_unify.specs.Notes.{GroundBlock}
use Rattle.pl_unify.proofs.Follow.{inside, length-links_of}
use Rattle.pl_unify.proofs.Grounds.{notes-push}
use Rattle.pl_unify.proofs.store.Store.note.Goals as goal

pub invariant_of-self-2 : goal.invariant_of-self-2
invariant_of-self-2 c =
    let now = ap (λ (v : Stored). v.state) (sym c.self.view_is) in
    let s : State = inside c.self.inside.cells.items c.self.inside.vars.items c.self.inside.trail.items in
    let fits : c.args.first + c.args.count ≤ length s.cells = subst (λ (x : State). c.args.first + c.args.count ≤ length x.cells) now c.requires.block in
    let ground : GroundBlock s c.args.first c.args.count = subst (λ (x : State). GroundBlock x c.args.first c.args.count) now c.requires.ground in
    let trail : c.len-bindings.result ≡ length c.self.inside.trail.items = search rules in
    let bindings : c.len-bindings.result ≡ length s.links = trail ∙ sym (length-links_of c.self.inside.vars.items c.self.inside.trail.items) in
    let pushed : c.push.new.self.items ≡ c.self.inside.noted.items ++ (c.args.first + (c.args.count - 1), c.len-bindings.result) ∷ [] = search rules in
    let ok : c.fill.result ≡ true = search rules in
    record {
      inside = c.self.invariant.inside;
      notes = notes-push s c.self.inside.ground.items c.fill.new.ground.items c.self.inside.noted.items c.push.new.self.items c.args.first c.args.count (c.args.first + (c.args.count - 1)) c.len-bindings.result c.self.invariant.notes c.fill.ensures.same
          (c.fill.ensures.room ok) pushed bindings (omega arith) fits ground;
    }
