use Rattle.std.proofs.Common.{◌≡◌, List, Some, cond, refl, sym, ◌∙◌}
use Rattle.std.specs.Map.{lookup}
use Rattle.mod_visible.specs.declared.cause.Cause.{Cause}
use Rattle.mod_visible.specs.declared.keys.Key.{Key}
use Rattle.mod_visible.specs.declared.keys.Key.TheVariants.{Seen, Given}
use Rattle.mod_visible.specs.contracts.keys.KeyPartialEq.TheImpl.{eq-value}
use Rattle.mod_visible.specs.Leasts.{same_key}
use Rattle.mod_visible.proofs.leasts.Leasts.put.Goals as goal

same : (s t : Key) → eq-value.it s t ≡ same_key s t
same (Seen m) (Seen n) = refl
same (Given p) (Given q) = refl
same (Seen m) (Given q) = refl
same (Given p) (Seen n) = refl

found : (s : Key) (es : List (Key × Cause)) → lookup (eq-value.it s) es ≡ lookup (same_key s) es
found s es = λ i. lookup (λ t. same s t i) es

pub returns : goal.returns
returns c = λ s.
    let old = c.args.self.now.causes.entries in
    sym (found s c.insert.new.self.entries) ∙ c.in_ok-insert.ensures.updates.0 s
    ∙ (λ i. cond (same c.args.key s i) (Some c.args.cause) (found s old i))
