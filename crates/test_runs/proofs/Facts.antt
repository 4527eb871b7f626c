-- Programs whose names grow.
use Rattle.std.proofs.Common.{◌≡◌, ℕ, List, sym, ap, subst}
use Rattle.pl_atoms.specs.Names.{IsFront, AreDistinct}
use Rattle.pl_store.specs.Linked.{Linked, with_names}
use Rattle.pl_store.specs.Facts.{IsLinked, FactsStay}

-- a program with more names is in order
pub more_names : FactsStay → (l t : Linked) (old new : List (List ℕ)) → with_names t old ≡ l → IsLinked l → IsFront old new → AreDistinct new → IsLinked (with_names t new)
more_names stay l t old new whole linked front distinct =
    let same : with_names t new ≡ with_names l new = ap (λ (x : Linked). with_names x new) whole in
    let names : l.names ≡ old = ap (λ (x : Linked). x.names) (sym whole) in
    subst IsLinked (sym same) (stay l new linked (subst (λ ns. IsFront ns new) (sym names) front) distinct)
