use Rattle.std.proofs.Common.{◌≤◌, ap, subst, length}
use Rattle.pl_tokens.proofs.Readers.{standing-within}
use Rattle.pl_tokens.proofs.token_reader.Tokens.place.Goals as goal

pub returns-clause-within : goal.returns-clause-within
returns-clause-within c =
    let i = c.self.inside in
    subst (λ t. i.place.at ≤ length t) (ap (λ r. r.text) c.self.view_is) (standing-within i.text.now i.valid i.place.at c.self.invariant)
