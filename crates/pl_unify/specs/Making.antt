-- What terms are made of.
use Rattle.std.specs.Prelude.{List, [], ◌∷◌}
use Rattle.pl_unify.specs.declared.word.Ref.{Ref}
use Rattle.pl_unify.specs.State.{State, IsRef}

-- each place is one of the store
abbrev pub AreRefs : State → List Ref → Type 0
AreRefs s [] = Unit {0}
AreRefs s (r ∷ rs) = IsRef s r × AreRefs s rs
