use Rattle.std.proofs.Common.{◌≡◌, ℕ, List, Some, cond, refl, sym, ◌∙◌}
use Rattle.std.specs.Map.{lookup}
use Rattle.mod_visible.specs.declared.keys.Source.{Source}
use Rattle.mod_visible.specs.declared.keys.Source.TheVariants.{All, One}
use Rattle.mod_visible.specs.contracts.keys.SourcePartialEq.TheImpl.{eq-value}
use Rattle.mod_visible.specs.Keys.{same_source}
use Rattle.mod_visible.proofs.takers.LastTakers.put.Goals as goal

same : (s t : Source) → eq-value.it s t ≡ same_source s t
same (All m) (All n) = refl
same (One p) (One q) = refl
same (All m) (One q) = refl
same (One p) (All n) = refl

found : (s : Source) (es : List (Source × ℕ)) → lookup (eq-value.it s) es ≡ lookup (same_source s) es
found s es = λ i. lookup (λ t. same s t i) es

pub returns-clause-places : goal.returns-clause-places
returns-clause-places c = λ s.
    let old = c.args.self.now.places.entries in
    sym (found s c.insert.new.self.entries) ∙ c.in_ok-earlier.ensures.updates.0 s
    ∙ (λ i. cond (same c.args.source s i) (Some c.args.place) (found s old i))
