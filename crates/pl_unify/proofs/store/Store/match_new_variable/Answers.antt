use Rattle.std.proofs.Common.{arith}
use Rattle.pl_unify.proofs.Loading.{OnOk-map}
use Rattle.pl_unify.specs.Match.{Born}
use Rattle.pl_unify.proofs.Matching.{first-solved}
use Rattle.pl_unify.proofs.store.Store.match_new_variable.Goals as goal

pub returns-clause-solved : goal.returns-clause-solved
returns-clause-solved c =
    OnOk-map c.add_bound.result (Born c.make_below.new.self.state c.add_bound.new.self.state c.word_at-word.result) _
    (λ born. first-solved c.args.self.now.state c.make_below.new.self.state c.add_bound.new.self.state c.args.place c.args.n c.word_at-word.result
    c.in_ok-make_below.ensures.store c.make_below.ensures.grows (omega (arith, c.in_ok-make_below.ensures.next)) c.requires.place
    c.word_at-word.ensures.shape c.word_at-word.ensures.within c.word_at-word.ensures.free born)
    c.add_bound.ensures.ok
