-- The names of modules in directives are those of the term.
use Rattle.std.proofs.Common.{◌≡◌, ℕ, ◌<◌, codes, Bool, true, false, Option, Some, None, if◌then◌else◌, refl, sym, ◌∙◌, subst, IfSome}
use Rattle.pl_atoms.specs.declared.names.NameId.{NameId}
use Rattle.pl_ops.specs.Tables.{same_text}
use Rattle.pl_terms.specs.Trees.{Tree, var, int, atom, comp, Trees, nil, cons}
use Rattle.pl_terms.specs.NameBounds.{NamesBelow, AllNamesBelow}
use Rattle.unit_model.specs.Directives.{Text}
use Rattle.unit_model.specs.declared.facts.SectionKind.TheVariants.{Interface, Body}
use Rattle.term_walk.specs.Walks.{first_cell, entered}
use Rattle.term_walk.proofs.NameBounds.{entered_below}
use Rattle.prep_texts.specs.declared.directives.SectionDirective.TheVariants.{Opens, Ends}
use Rattle.prep_texts.specs.declared.directives.ModuleSource.TheVariants.{Passing, Taking}
use Rattle.prep_texts.specs.Sections.{atom_name, section_word, source_word, SourceBelow, DirectiveBelow}

module _ (n : ℕ) where
  atom-bound : (us : Trees ℕ) → AllNamesBelow n us → (m : NameId) → atom_name (first_cell us) ≡ Some m → m.0 < n
  atom-bound nil h m e = absurd (cc)
  atom-bound (cons (var v) us) h m e = absurd (cc)
  atom-bound (cons (int z) us) h m e = absurd (cc)
  atom-bound (cons (atom s) us) h m e =
      let same : record { 0 = s } ≡ m = cc in
      let P : NameId → Type 0 = λ k. k.0 < n in subst P same h.0
  atom-bound (cons (comp s ts) us) h m e = absurd (cc)

  pub module-bound : (t : Tree ℕ) (walk ts us : Trees ℕ) → NamesBelow n t → walk ≡ cons t nil → ts ≡ entered walk → us ≡ entered ts → (a : Option NameId) → a ≡ atom_name (first_cell us) → (m : NameId) → a ≡ Some m → m.0 < n
  module-bound t walk ts us below is next after a named m e =
      let start : AllNamesBelow n walk = subst (AllNamesBelow n) (sym is) (below, tt) in
      atom-bound us (entered_below n ts us after (entered_below n walk ts next start)) m (sym named ∙ e)

  pub source-bound : (w : Text) (m : NameId) → m.0 < n → IfSome (source_word w m) (SourceBelow n)
  source-bound w m h = go (same_text w (codes "reexport")) (same_text w (codes "import"))
    where
      go : (a b : Bool) → IfSome (if a then Some (Passing m) else if b then Some (Taking m) else None) (SourceBelow n)
      go true b = h
      go false true = h
      go false false = tt

  opened-bound : (o : Option NameId) → ((m : NameId) → o ≡ Some m → m.0 < n) → DirectiveBelow n (Opens Interface o) × DirectiveBelow n (Opens Body o)
  opened-bound None h = (tt, tt)
  opened-bound (Some m) h = (h m refl, h m refl)

  pub section-bound : (w : Text) (o : Option NameId) → ((m : NameId) → o ≡ Some m → m.0 < n) → IfSome (section_word w o) (DirectiveBelow n)
  section-bound w o h = go (same_text w (codes "module")) (same_text w (codes "end_module")) (same_text w (codes "body")) (same_text w (codes "end_body"))
    where
      go : (a b c d : Bool) → IfSome (if a then Some (Opens Interface o) else if b then Some (Ends Interface o) else if c then Some (Opens Body o) else if d then Some (Ends Body o) else None) (DirectiveBelow n)
      go true b c d = (opened-bound o h).0
      go false true c d = tt
      go false false true d = (opened-bound o h).1
      go false false false true = tt
      go false false false false = tt
