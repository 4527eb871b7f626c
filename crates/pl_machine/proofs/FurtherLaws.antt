-- What a part of a move does whatever the number of steps left.
use Rattle.std.proofs.Common.{ℕ, List}
use Rattle.pl_machine.specs.declared.machine.Machine.{Machine}
use Rattle.pl_machine.specs.declared.moves.Part.{Part}
use Rattle.pl_machine.specs.declared.moves.Part.TheVariants as P
use Rattle.pl_machine.specs.Running.{Outcomes, with_left}
use Rattle.pl_machine.specs.Parts.{Kept}
use Rattle.pl_machine.specs.Further.{Does}
use Rattle.pl_machine.proofs.WentLaws.{same_then, kept_then, one_after}

-- what showed nothing shows nothing with any number of steps left
pub kept_left : (a b : Machine) (t u : List ℕ) (left : ℕ) → Kept a b t u → Kept (with_left a left) (with_left b left) t u
kept_left a b t u left k = record { text = k.text; same = k.same; answers = k.answers }

-- one part after others that showed nothing
pub does_then : (X Y : Outcomes → Type 0) (a b c : Machine) (t u v : List ℕ) (part : Part) → Kept a b t u → ((r : Outcomes) → X r → Y r) → Does Y b c u v part → Does X a c t v part
does_then X Y a b c t u v P.Shown k f d = (same_then a b c k.same d.0, λ r x. one_after a b c t u v r k (d.1 r (f r x)))
does_then X Y a b c t u v P.Quiet k f d = (kept_then a b c t u v k d.0, λ r x. d.1 r (f r x))
does_then X Y a b c t u v (P.Waits stand) k f d = (kept_then a b c t u v k d.0, λ r x. d.1 r (f r x))
does_then X Y a b c t u v (P.Ended e) k f d = (kept_then a b c t u v k d.0, λ r x. d.1 r (f r x))
