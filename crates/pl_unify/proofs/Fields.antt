-- What the fields of a store keep where it grows or a binding comes.
use Rattle.std.proofs.Common.{◌≡◌, ℕ, List, [], ◌∷◌, ◌++◌, take, ap, ◌∙◌, sym, subst}
use Rattle.pl_unify.specs.declared.word.Word.{Word}
use Rattle.pl_unify.specs.declared.store.Mark.{Mark}
use Rattle.pl_unify.specs.Words.{Link}
use Rattle.pl_unify.specs.State.{State, IsMark, state_at, links_of, IsStoreInside}
use Rattle.pl_unify.specs.Notes.{IsNotes, IsStoreFields, Forgotten}
use Rattle.pl_unify.proofs.Follow.{inside}
use Rattle.pl_unify.proofs.Adds.{links_of-append}
use Rattle.pl_unify.proofs.Grounds.{notes-cells, notes-links, notes-undo, notes-none}

pub fields-grown : (cells vars : List Word) (trail ground : List ℕ) (noted : List (ℕ × ℕ)) (cells' vars' more extra : List Word) → IsStoreFields cells vars trail ground noted
    → cells' ≡ cells ++ more → vars' ≡ vars ++ extra → IsStoreInside cells' vars' trail → IsStoreFields cells' vars' trail ground noted
fields-grown cells vars trail ground noted cells' vars' more extra f e g h =
    let links : links_of vars' trail ≡ links_of vars trail = ap (λ vs. links_of vs trail) g ∙ links_of-append cells vars extra trail f.inside in
    let n : IsNotes (cells ++ more) (links_of vars trail) ground noted = notes-cells (inside cells vars trail) more ground noted f.inside.store f.notes in
    record {
      inside = h;
      notes = subst (λ cs. IsNotes cs (links_of vars' trail) ground noted) (sym e) (subst (λ ls. IsNotes (cells ++ more) ls ground noted) (sym links) n);
    }

pub fields-bound : (cells vars vars' : List Word) (trail trail' ground : List ℕ) (noted : List (ℕ × ℕ)) (l : Link) → IsStoreFields cells vars trail ground noted
    → links_of vars' trail' ≡ links_of vars trail ++ l ∷ [] → IsStoreInside cells vars' trail' → IsStoreFields cells vars' trail' ground noted
fields-bound cells vars vars' trail trail' ground noted l f e h = record {
  inside = h;
  notes = subst (λ ls. IsNotes cells ls ground noted) (sym e) (notes-links cells (links_of vars trail) l ground noted f.notes);
}

pub fields-undone : (cells vars : List Word) (trail ground ground' : List ℕ) (noted noted' : List (ℕ × ℕ)) (vars' : List Word) (trail' : List ℕ) (m : Mark) → IsStoreFields cells vars trail ground noted
    → IsMark m (inside cells vars trail) → Forgotten ground ground' noted noted' m.trail → inside (take m.cells cells) vars' trail' ≡ state_at m (inside cells vars trail) → IsStoreInside (take m.cells cells) vars' trail'
    → IsStoreFields (take m.cells cells) vars' trail' (take m.cells ground') noted'
fields-undone cells vars trail ground ground' noted noted' vars' trail' m f mark gone e h = record {
  inside = h;
  notes = subst (λ ls. IsNotes (take m.cells cells) ls (take m.cells ground') noted') (sym (ap (λ (s : State). s.links) e)) (notes-undo (inside cells vars trail) m ground ground' noted noted' mark f.notes gone);
}

pub fields-none : (cells vars : List Word) (trail ground : List ℕ) (noted : List (ℕ × ℕ)) → ground ≡ [] → noted ≡ [] → IsStoreInside cells vars trail → IsStoreFields cells vars trail ground noted
fields-none cells vars trail ground noted e f h = record { inside = h; notes = notes-none cells (links_of vars trail) ground noted e f }
