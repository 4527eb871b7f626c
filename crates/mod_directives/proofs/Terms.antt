-- What whole terms say, from what reading them comes to.
use Rattle.std.proofs.Common.{◌≡◌, ℕ, List, Bool, Result, Ok, Err, IfOk, refl, sym, ap, ◌∙◌, subst}
use Rattle.pl_terms.specs.Trees.{Tree, var, int, atom, comp, Trees, nil, cons, count, renamed}
use Rattle.pl_terms.specs.Cells.{first}
use Rattle.pl_terms.specs.Order.{text_of, texts_of}
use Rattle.pl_terms.specs.NameBounds.{NamesBelow, AllNamesBelow}
use Rattle.pl_ops.specs.Tables.{Declaration}
use Rattle.unit_model.specs.Directives.{Text, Form, directive_of}
use Rattle.unit_model.specs.Preparing.{Saying, said, sort_said, form_said, Sort, a_directive, sort_of}
use Rattle.unit_model.specs.declared.facts.Entry.{Entry as CodeEntry}
use Rattle.unit_model.specs.Entries.{entries_in}
use Rattle.unit_model.specs.Saying.{IsSectionDirective, Says}
use Rattle.term_walk.specs.Walks.{entered}
use Rattle.term_walk.proofs.NameBounds.{entered_below}
use Rattle.mod_directives.specs.declared.fault.DirFault.{DirFault}
use Rattle.mod_directives.specs.declared.fault.DirFault.TheVariants.{Fault}
use Rattle.mod_directives.specs.Reads.{IsSaid, Tells}

abbrev Answer : Type 0
Answer = Result (List CodeEntry) DirFault

-- a term's saying is told
pub tells-says : (names : List (List ℕ)) (in_one : Bool) (u : Tree Text) (byte : ℕ) (old new : List Declaration) (saying : Saying) (r : Answer) → said in_one u old ≡ saying → Tells names byte saying new r
    → IfOk r (λ es. Says in_one u byte old new (entries_in names es))
tells-says names in_one u byte old new saying (Err e) is t = tt
tells-says names in_one u byte old new saying (Ok es) is t = let s : IsSaid names byte saying new es = t.ok in record {
  what = s.what;
  said_is = is ∙ s.is;
  entries_are = s.entries_are;
  table = s.operators;
}

pub tells-fault : (names : List (List ℕ)) (in_one : Bool) (u : Tree Text) (byte : ℕ) (old new : List Declaration) (saying : Saying) (r : Answer) → said in_one u old ≡ saying → Tells names byte saying new r
    → (n : ℕ) → r ≡ Err (Fault n) → said in_one u old ≡ Err n
tells-fault names in_one u byte old new saying r is t n e = is ∙ t.fault n e

pub said-by : (in_one : Bool) (u : Tree Text) (old : List Declaration) (s : Sort) → sort_of u ≡ s → said in_one u old ≡ sort_said in_one s u old
said-by in_one u old s e = ap (λ x. sort_said in_one x u old) e

-- a directive's own term
module _ (names : List (List ℕ)) (t : Tree ℕ) (ts us : Trees ℕ) (one : ts ≡ cons t nil)
    (is : sort_of (texts_of names (first ts)) ≡ a_directive (directive_of (texts_of names (first (entered ts))))) (next : us ≡ entered ts) where
  pub directive-is : sort_of (texts_of names t) ≡ a_directive (directive_of (texts_of names (first us)))
  directive-is =
      ap (λ ws. sort_of (texts_of names (first ws))) (sym one) ∙ is ∙ ap (λ ws. a_directive (directive_of (texts_of names (first ws)))) (sym next)

  shape : (f : ℕ → List ℕ) (t : Tree ℕ) (x : Form) → sort_of (renamed f t) ≡ a_directive x → count (entered (cons t nil)) ≡ 1
  shape f (var n) x e = absurd (cc)
  shape f (int z) x e = absurd (cc)
  shape f (atom s) x e = absurd (cc)
  shape f (comp s nil) x e = absurd (cc)
  shape f (comp s (cons d nil)) x e = refl
  shape f (comp s (cons d (cons u us))) x e = absurd (cc)

  pub directive-one : count us ≡ 1
  directive-one = ap count next ∙ ap (λ ws. count (entered ws)) one ∙ shape (text_of names) t (directive_of (texts_of names (first us))) directive-is

  pub directive-below : (n : ℕ) → NamesBelow n t → AllNamesBelow n us
  directive-below n h = entered_below n ts us next (subst (AllNamesBelow n) (sym one) (h, tt))

  pub directive-other : (IsSectionDirective (sort_of (texts_of names t)) → ⊥) → IsSectionDirective (a_directive (directive_of (texts_of names (first us)))) → ⊥
  directive-other absent h = absent (subst IsSectionDirective (sym directive-is) h)

  pub directive-said : (in_one : Bool) (old : List Declaration) → said in_one (texts_of names t) old ≡ form_said in_one (directive_of (texts_of names (first us))) old
  directive-said in_one old = said-by in_one (texts_of names t) old (a_directive (directive_of (texts_of names (first us)))) directive-is
