-- A token list has at most one tree.
use Rattle.std.proofs.Common.{◌≡◌, ℕ, List, Option, Some, None, sym, ap, refl, ◌∙◌, subst, ◌⊎◌, inl, inr}
use Rattle.pl_terms.specs.Trees.{Tree}
use Rattle.pl_reader.specs.Machine.{parsed}
use Rattle.pl_reader.proofs.Sound.{parsed-sound}
use Rattle.text_model.specs.Grammar.{Item, Reads, max_priority, Decided, Parse, meaning}
use Rattle.text_model.specs.Reading.{OneTreeOfTokens}
use Rattle.pl_reader.proofs.Complete.{OneTree-holds, parsed-yield}

same_items : (xs ys : List Item) → Some xs ≡ Some ys → ys ≡ xs
same_items xs ys h = cc

pub OneTreeOfTokens-holds : OneTreeOfTokens
OneTreeOfTokens-holds look tokens following t u r q =
    OneTree-holds r.items t u r.reads (subst (λ is. Reads is max_priority u) (same_items r.items q.items (sym r.classified ∙ q.classified)) q.reads)

-- what the machine answers is exact
pub parsed-exact : (items : List Item) (r : Option Parse) → parsed items ≡ r → ((t : Tree (List ℕ)) × Reads items max_priority t) ⊎ ((t : Tree (List ℕ)) → Reads items max_priority t → ⊥)
parsed-exact items None h = inr (λ t r. absurd (let e = parsed-yield r.parse r.good r.within in let f = ap parsed r.spelled in no_some (sym h ∙ sym f ∙ e)))
  where
    no_some : {x : Parse} → None ≡ Some x → ⊥
    no_some e = cc
parsed-exact items (Some x) h =
    let w = parsed-sound items x h in
    inl (meaning x, record { parse = x; spelled = w.spelled; within = w.fits; good = w.good; tree = refl })

pub Decided-holds : Decided
Decided-holds items = parsed-exact items (parsed items) refl
