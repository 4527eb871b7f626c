-- Tests of indicators mean equality.
use Rattle.std.proofs.Common.{◌≡◌, ℕ, true, ap, ◌∙◌, eqb, eqb-true, eq-eqb, refl}
use Rattle.std.proofs.lemmas.Bool.{and_parts, and_from}
use Rattle.pl_ops.specs.Tables.{same_text}
use Rattle.pl_atoms.proofs.Texts.{same_text-is, same_text-itself}
use Rattle.unit_model.specs.Directives.{Text}
use Rattle.link_model.specs.Places.{Ind, same_ind}

abbrev made : Text → ℕ → Ind
made s n = record { name = s; arity = n }

pub same_ind-is : (i j : Ind) → same_ind i j ≡ true → i ≡ j
same_ind-is i j h =
    let p = and_parts (same_text i.name j.name) (eqb i.arity j.arity) h in
    let e : i.arity ≡ j.arity = eqb-true i.arity j.arity p.1 in
    ap (λ s. made s i.arity) (same_text-is i.name j.name p.0) ∙ ap (made j.name) e

pub same_ind-itself : (i : Ind) → same_ind i i ≡ true
same_ind-itself i = and_from (same_text i.name i.name) (eqb i.arity i.arity) (same_text-itself i.name) (eq-eqb i.arity i.arity refl)
