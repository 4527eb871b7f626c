-- Directives from their cells.
use Rattle.std.proofs.Common.{◌≡◌, ℕ, suc, List, codes, nat_eq, Bool, true, false, ◌&&◌, ◌||◌, Option, Some, None, Ok, Err, if◌then◌else◌, refl, sym, ap, ◌∙◌, arith, subst}
use Rattle.std.specs.Option.{option_map}
use Rattle.std.specs.Prelude.{option_and_then}
use Rattle.std.proofs.lemmas.Bool.{ne_eqb}
use Rattle.std.proofs.lemmas.Slice.Eq.{bytes_eq-Decides}
use Rattle.pl_atoms.specs.declared.names.NameId.{NameId}
use Rattle.pl_ops.specs.Tables.{same_text, Declaration}
use Rattle.pl_terms.specs.Trees.{Tree, var, int, atom, comp, Trees, nil, cons, count, append, renamed}
use Rattle.unit_model.specs.Facts.{Indicator, interface, body}
use Rattle.unit_model.specs.Directives.{Text, Directive, opens, closes, exporting, reexporting, metapredicates, operators, importing, discontiguous, Form, form_of, text_in, integer_in, operator_names_in, indicators_in, mode_terms_in, with_indicators, unary_form, binary_form, ternary_form, directive_of}
use Rattle.unit_model.specs.Encoding.{text_at}
use Rattle.unit_model.specs.Preparing.{Sort, a_directive, a_query, a_clause, sort_of, Source, no_module, passing, taking, source_of_form, source_of, Said, said}
use Rattle.unit_model.specs.declared.facts.SectionKind.TheVariants.{Interface, Body}
use Rattle.term_walk.specs.Walks.{first_cell, entered, is_functor}
use Rattle.prep_texts.specs.declared.directives.SectionDirective.{SectionDirective}
use Rattle.prep_texts.specs.declared.directives.SectionDirective.TheVariants.{Opens, Ends}
use Rattle.prep_texts.specs.declared.directives.ModuleSource.{ModuleSource}
use Rattle.prep_texts.specs.declared.directives.ModuleSource.TheVariants.{Passing, Taking}
use Rattle.prep_texts.specs.Sections.{module_text, directive_view, section_part, unary_name, short_name, atom_name, section_word, source_view, source_word}

two : (n : ℕ) → nat_eq (suc (suc n)) 1 ≡ false
two n = ne_eqb (suc (suc n)) 1 (λ h. absurd (omega arith))

-- ---- sections

form-none : {A : Type 0} (d : A → Directive) → ((a : A) → section_part (a_directive (Ok (d a))) ≡ None) → (o : Option A) → section_part (a_directive (form_of (option_map d o))) ≡ None
form-none d h None = refl
form-none d h (Some a) = h a

-- the directives with one argument that are none of sections
abbrev others : Text → Tree Text → Form
others s t =
    if same_text s (codes "export") then form_of (option_map exporting (indicators_in t))
    else if same_text s (codes "reexport") then form_of (option_map (λ m. reexporting m None) (text_in t))
    else if same_text s (codes "metapredicate") then form_of (option_map metapredicates (mode_terms_in t))
    else if same_text s (codes "import") then form_of (option_map (λ m. importing m None) (text_in t))
    else if same_text s (codes "discontiguous") then form_of (option_map (λ is. discontiguous) (indicators_in t))
    else Err 8

others-none : (s : Text) (t : Tree Text) → section_part (a_directive (others s t)) ≡ None
others-none s t = go (same_text s (codes "export")) (same_text s (codes "reexport")) (same_text s (codes "metapredicate")) (same_text s (codes "import")) (same_text s (codes "discontiguous"))
  where
    go : (a b c d e : Bool) → section_part (a_directive (
        if a then form_of (option_map exporting (indicators_in t))
        else if b then form_of (option_map (λ m. reexporting m None) (text_in t))
        else if c then form_of (option_map metapredicates (mode_terms_in t))
        else if d then form_of (option_map (λ m. importing m None) (text_in t))
        else if e then form_of (option_map (λ is. discontiguous) (indicators_in t))
        else Err 8)) ≡ None
    go true b c d e = form-none exporting (λ a. refl) (indicators_in t)
    go false true c d e = form-none (λ m. reexporting m None) (λ a. refl) (text_in t)
    go false false true d e = form-none metapredicates (λ a. refl) (mode_terms_in t)
    go false false false true e = form-none (λ m. importing m None) (λ a. refl) (text_in t)
    go false false false false true = form-none (λ (is : List (Indicator Text)). discontiguous) (λ a. refl) (indicators_in t)
    go false false false false false = refl

module _ (names : List Text) where
  abbrev f : ℕ → Text
  f = text_at names

  word-part : (s : Text) (t : Tree Text) (m : Option NameId) → module_text names m ≡ text_in t → option_map (directive_view names) (section_word s m) ≡ section_part (a_directive (unary_form s t))
  word-part s t m h = go (same_text s (codes "module")) (same_text s (codes "end_module")) (same_text s (codes "body")) (same_text s (codes "end_body"))
    where
      go : (a b c d : Bool)
          → option_map (directive_view names) (if a then Some (Opens Interface m) else if b then Some (Ends Interface m) else if c then Some (Opens Body m) else if d then Some (Ends Body m) else None)
          ≡ section_part (a_directive (if a then Ok (opens interface (text_in t)) else if b then Ok (closes interface (text_in t)) else if c then Ok (opens body (text_in t)) else if d then Ok (closes body (text_in t)) else others s t))
      go true b c d = ap (λ o. Some (opens interface o)) h
      go false true c d = ap (λ o. Some (closes interface o)) h
      go false false true d = ap (λ o. Some (opens body o)) h
      go false false false true = ap (λ o. Some (closes body o)) h
      go false false false false = sym (others-none s t)

  atom-text : (t : Tree ℕ) (ts : Trees ℕ) → module_text names (atom_name (first_cell (cons t ts))) ≡ text_in (renamed f t)
  atom-text (var n) ts = refl
  atom-text (int z) ts = refl
  atom-text (atom s) ts = refl
  atom-text (comp s us) ts = refl

  -- what the code makes of the word and the argument
  abbrev pub by_word : Option NameId → Option NameId → Option SectionDirective
  by_word None m = None
  by_word (Some w) m = section_word (f w.0) m

  abbrev pub section_by : Bool → Trees ℕ → Option SectionDirective
  section_by b ts = if b then by_word (unary_name (first_cell ts)) (atom_name (first_cell (entered ts))) else None

  binary-none : (s : Text) (t u : Tree Text) → section_part (a_directive (binary_form s t u)) ≡ None
  binary-none s t u = go (same_text s (codes "reexport")) (same_text s (codes "import"))
    where
      with-none : (d : Text → Option (List (Indicator Text)) → Directive) → ((m : Text) (l : Option (List (Indicator Text))) → section_part (a_directive (Ok (d m l))) ≡ None) → (o : Option Text) (l : Option (List (Indicator Text)))
          → section_part (a_directive (form_of (option_and_then (λ m. option_map (λ l. d m (Some l)) l) o))) ≡ None
      with-none d h None l = refl
      with-none d h (Some m) None = refl
      with-none d h (Some m) (Some l) = h m (Some l)

      go : (a b : Bool) → section_part (a_directive (if a then with_indicators reexporting t u else if b then with_indicators importing t u else Err 8)) ≡ None
      go true b = with-none reexporting (λ m l. refl) (text_in t) (indicators_in u)
      go false true = with-none importing (λ m l. refl) (text_in t) (indicators_in u)
      go false false = refl

  ternary-none : (s : Text) (t u v : Tree Text) → section_part (a_directive (ternary_form s t u v)) ≡ None
  ternary-none s t u v = go (same_text s (codes "op")) (integer_in t) (text_in u) (operator_names_in v)
    where
      go : (a : Bool) (p : Option Rattle.std.specs.Prelude.ℤ) (k : Option Text) (ns : Option (List Text))
          → section_part (a_directive (if a then form_of (option_and_then (λ z. option_and_then (λ w. option_map (operators z w) ns) k) p) else Err 8)) ≡ None
      go false p k ns = refl
      go true None k ns = refl
      go true (Some z) None ns = refl
      go true (Some z) (Some w) None = refl
      go true (Some z) (Some w) (Some l) = refl

  -- the word is compound with more arguments
  many : (w : ℕ) (x y : Tree ℕ) (us : Trees ℕ) → section_part (a_directive (directive_of (renamed f (comp w (cons x (cons y us)))))) ≡ None
  many w x y nil = binary-none (f w) (renamed f x) (renamed f y)
  many w x y (cons z nil) = ternary-none (f w) (renamed f x) (renamed f y) (renamed f z)
  many w x y (cons z (cons v us)) = refl

  directive-cells : (d : Tree ℕ) → option_map (directive_view names) (section_by true (cons d nil)) ≡ section_part (a_directive (directive_of (renamed f d)))
  directive-cells (var n) = refl
  directive-cells (int z) = refl
  directive-cells (atom s) = refl
  directive-cells (comp w nil) = refl
  directive-cells (comp w (cons x nil)) = word-part (f w) (renamed f x) (atom_name (first_cell (cons x nil))) (atom-text x nil)
  directive-cells (comp w (cons x (cons y us))) =
      ap (λ b. option_map (directive_view names) (by_word (if b then Some (record { 0 = w }) else None) (atom_name (first_cell (cons x (append (cons y us) nil)))))) (two (count us))
      ∙ sym (many w x y us)

  pub section-cells : (t : Tree ℕ) → option_map (directive_view names) (section_by (is_functor f (codes ":-") 1 (cons t nil)) (entered (cons t nil))) ≡ section_part (sort_of (renamed f t))
  section-cells (var n) = refl
  section-cells (int z) = refl
  section-cells (atom s) = refl
  section-cells (comp s nil) = refl
  section-cells (comp s (cons d nil)) = go (same_text (f s) (codes ":-")) (same_text (f s) (codes "?-"))
    where
      go : (a b : Bool) → option_map (directive_view names) (section_by a (cons d nil)) ≡ section_part (if a then a_directive (directive_of (renamed f d)) else if b then a_query else a_clause)
      go true b = directive-cells d
      go false true = refl
      go false false = refl
  section-cells (comp s (cons d (cons e us))) =
      ap (λ b. option_map (directive_view names) (section_by (b && same_text (f s) (codes ":-")) (append (cons d (cons e us)) nil))) (two (count us))

  -- ---- modules

  abbrev pub by_source : Option NameId → Option NameId → Option ModuleSource
  by_source None m = None
  by_source (Some w) None = None
  by_source (Some w) (Some m) = source_word (f w.0) m

  abbrev pub source_by : Bool → Trees ℕ → Option ModuleSource
  source_by b ts = if b then by_source (short_name (first_cell ts)) (atom_name (first_cell (entered ts))) else None

  -- where a directive has no fault, the code's source is its source
  abbrev Same : Option NameId → Option NameId → Form → Type 0
  Same w m form = (d : Directive) → form ≡ Ok d → source_view names (by_source w m) ≡ source_of_form form

  no-source : {A : Type 0} (d : A → Directive) → ((a : A) → source_of_form (Ok (d a)) ≡ no_module) → (o : Option A) → source_of_form (form_of (option_map d o)) ≡ no_module
  no-source d h None = refl
  no-source d h (Some a) = h a

  -- a word that names no source
  unary-no_source : (s : Text) (t : Tree Text) → same_text s (codes "reexport") ≡ false → same_text s (codes "import") ≡ false → source_of_form (unary_form s t) ≡ no_module
  unary-no_source s t p q = go (same_text s (codes "module")) (same_text s (codes "end_module")) (same_text s (codes "body")) (same_text s (codes "end_body")) (same_text s (codes "export")) (same_text s (codes "reexport")) (same_text s (codes "metapredicate")) (same_text s (codes "import")) (same_text s (codes "discontiguous")) p q
    where
      go : (a b c d e x g y h : Bool) → x ≡ false → y ≡ false → source_of_form (
          if a then Ok (opens interface (text_in t)) else if b then Ok (closes interface (text_in t)) else if c then Ok (opens body (text_in t)) else if d then Ok (closes body (text_in t))
          else if e then form_of (option_map exporting (indicators_in t))
          else if x then form_of (option_map (λ m. reexporting m None) (text_in t))
          else if g then form_of (option_map metapredicates (mode_terms_in t))
          else if y then form_of (option_map (λ m. importing m None) (text_in t))
          else if h then form_of (option_map (λ is. discontiguous) (indicators_in t))
          else Err 8) ≡ no_module
      go true b c d e x g y h p q = refl
      go false true c d e x g y h p q = refl
      go false false true d e x g y h p q = refl
      go false false false true e x g y h p q = refl
      go false false false false true x g y h p q = no-source exporting (λ a. refl) (indicators_in t)
      go false false false false false true g y h p q = absurd (cc)
      go false false false false false false true y h p q = no-source metapredicates (λ a. refl) (mode_terms_in t)
      go false false false false false false false true h p q = absurd (cc)
      go false false false false false false false false true p q = no-source (λ (is : List (Indicator Text)). discontiguous) (λ a. refl) (indicators_in t)
      go false false false false false false false false false p q = refl

  unnamed : (w : NameId) (m : Option NameId) → same_text (f w.0) (codes "reexport") ≡ false → same_text (f w.0) (codes "import") ≡ false → source_view names (by_source (Some w) m) ≡ no_module
  unnamed w None p q = refl
  unnamed w (Some m) p q =
      ap (λ a. source_view names (if a then Some (Passing m) else if same_text (f w.0) (codes "import") then Some (Taking m) else None)) p
      ∙ ap (λ b. source_view names (if b then Some (Taking m) else None)) q

  unary-reexport : (x : Tree ℕ) (w : NameId) → f w.0 ≡ codes "reexport" → Same (Some w) (atom_name (first_cell (cons x nil))) (unary_form (codes "reexport") (renamed f x))
  unary-reexport (var n) w e d h = absurd (cc)
  unary-reexport (int z) w e d h = absurd (cc)
  unary-reexport (atom s) w e d h = ap (λ n. source_view names (source_word n (record { 0 = s }))) e
  unary-reexport (comp s us) w e d h = absurd (cc)

  unary-import : (x : Tree ℕ) (w : NameId) → f w.0 ≡ codes "import" → Same (Some w) (atom_name (first_cell (cons x nil))) (unary_form (codes "import") (renamed f x))
  unary-import (var n) w e d h = absurd (cc)
  unary-import (int z) w e d h = absurd (cc)
  unary-import (atom s) w e d h = ap (λ n. source_view names (source_word n (record { 0 = s }))) e
  unary-import (comp s us) w e d h = absurd (cc)

  along : (w : NameId) (m : Option NameId) (s : Text) (form : Text → Form) → f w.0 ≡ s → Same (Some w) m (form s) → Same (Some w) m (form (f w.0))
  along w m s form e h = let P : Text → Type 0 = λ n. Same (Some w) m (form n) in subst P (sym e) h

  unary-source : (w : ℕ) (x : Tree ℕ) → Same (Some (record { 0 = w })) (atom_name (first_cell (cons x nil))) (unary_form (f w) (renamed f x))
  unary-source w x = go (same_text (f w) (codes "reexport")) refl (same_text (f w) (codes "import")) refl
    where
      go : (a : Bool) → same_text (f w) (codes "reexport") ≡ a → (b : Bool) → same_text (f w) (codes "import") ≡ b → Same (Some (record { 0 = w })) (atom_name (first_cell (cons x nil))) (unary_form (f w) (renamed f x))
      go true p b q =
          let e = (bytes_eq-Decides (f w) (codes "reexport")).0 p in
          along (record { 0 = w }) (atom_name (first_cell (cons x nil))) (codes "reexport") (λ s. unary_form s (renamed f x)) e (unary-reexport x (record { 0 = w }) e)
      go false p true q =
          let e = (bytes_eq-Decides (f w) (codes "import")).0 q in
          along (record { 0 = w }) (atom_name (first_cell (cons x nil))) (codes "import") (λ s. unary_form s (renamed f x)) e (unary-import x (record { 0 = w }) e)
      go false p false q = λ d h. unnamed (record { 0 = w }) (atom_name (first_cell (cons x nil))) p q ∙ sym (unary-no_source (f w) (renamed f x) p q)

  -- with indicators
  abbrev Makes : (Text → Option (List (Indicator Text)) → Directive) → (Text → Source) → Type 0
  Makes d s = (m : Text) (l : List (Indicator Text)) → source_of_form (Ok (d m (Some l))) ≡ s m

  listed : (d : Text → Option (List (Indicator Text)) → Directive) (s : Text → Source) → Makes d s → (w : NameId) (x : Tree ℕ) (ts : Trees ℕ) (u : Tree Text)
      → ((m : NameId) → source_view names (source_word (f w.0) m) ≡ s (f m.0)) → Same (Some w) (atom_name (first_cell (cons x ts))) (with_indicators d (renamed f x) u)
  listed d s makes w (var n) ts u word e h = absurd (cc)
  listed d s makes w (int z) ts u word e h = absurd (cc)
  listed d s makes w (atom n) ts u word e h = go (indicators_in u) h
    where
      go : (l : Option (List (Indicator Text))) → form_of (option_map (λ l. d (f n) (Some l)) l) ≡ Ok e → source_view names (source_word (f w.0) (record { 0 = n })) ≡ source_of_form (form_of (option_map (λ l. d (f n) (Some l)) l))
      go None h = absurd (cc)
      go (Some l) h = word (record { 0 = n }) ∙ sym (makes (f n) l)
  listed d s makes w (comp n us) ts u word e h = absurd (cc)

  binary-source : (w : ℕ) (x : Tree ℕ) (ts : Trees ℕ) (u : Tree Text) → Same (Some (record { 0 = w })) (atom_name (first_cell (cons x ts))) (binary_form (f w) (renamed f x) u)
  binary-source w x ts u = go (same_text (f w) (codes "reexport")) refl (same_text (f w) (codes "import")) refl
    where
      abbrev_of : Bool → Bool → Form
      abbrev_of a b = if a then with_indicators reexporting (renamed f x) u else if b then with_indicators importing (renamed f x) u else Err 8

      go : (a : Bool) → same_text (f w) (codes "reexport") ≡ a → (b : Bool) → same_text (f w) (codes "import") ≡ b → Same (Some (record { 0 = w })) (atom_name (first_cell (cons x ts))) (abbrev_of a b)
      go true p b q = listed reexporting passing (λ m l. refl) (record { 0 = w }) x ts u
          (λ m. ap (λ a. source_view names (if a then Some (Passing m) else if same_text (f w) (codes "import") then Some (Taking m) else None)) p)
      go false p true q = listed importing taking (λ m l. refl) (record { 0 = w }) x ts u
          (λ m. ap (λ a. source_view names (if a then Some (Passing m) else if same_text (f w) (codes "import") then Some (Taking m) else None)) p ∙ ap (λ b. source_view names (if b then Some (Taking m) else None)) q)
      go false p false q = λ d h. absurd (cc)

  ternary-source : (s : Text) (t u v : Tree Text) → source_of_form (ternary_form s t u v) ≡ no_module
  ternary-source s t u v = go (same_text s (codes "op")) (integer_in t) (text_in u) (operator_names_in v)
    where
      go : (a : Bool) (p : Option Rattle.std.specs.Prelude.ℤ) (k : Option Text) (ns : Option (List Text))
          → source_of_form (if a then form_of (option_and_then (λ z. option_and_then (λ w. option_map (operators z w) ns) k) p) else Err 8) ≡ no_module
      go false p k ns = refl
      go true None k ns = refl
      go true (Some z) None ns = refl
      go true (Some z) (Some w) None = refl
      go true (Some z) (Some w) (Some l) = refl

  three : (n : ℕ) → (nat_eq (suc (suc (suc n))) 1 || nat_eq (suc (suc (suc n))) 2) ≡ false
  three n =
      ap (λ b. b || nat_eq (suc (suc (suc n))) 2) (ne_eqb (suc (suc (suc n))) 1 (λ h. absurd (omega arith)))
      ∙ ne_eqb (suc (suc (suc n))) 2 (λ h. absurd (omega arith))

  source-directive : (t : Tree ℕ) → (d : Directive) → directive_of (renamed f t) ≡ Ok d → source_view names (source_by true (cons t nil)) ≡ source_of_form (directive_of (renamed f t))
  source-directive (var n) d h = refl
  source-directive (int z) d h = refl
  source-directive (atom s) d h = refl
  source-directive (comp w nil) d h = refl
  source-directive (comp w (cons x nil)) d h = unary-source w x d h
  source-directive (comp w (cons x (cons y nil))) d h = binary-source w x (cons y nil) (renamed f y) d h
  source-directive (comp w (cons x (cons y (cons z us)))) d h =
      ap (λ b. source_view names (by_source (if b then Some (record { 0 = w }) else None) (atom_name (first_cell (cons x (append (cons y (cons z us)) nil)))))) (three (count us))
      ∙ sym (rest us)
    where
      rest : (us : Trees ℕ) → source_of_form (directive_of (renamed f (comp w (cons x (cons y (cons z us)))))) ≡ no_module
      rest nil = ternary-source (f w) (renamed f x) (renamed f y) (renamed f z)
      rest (cons v us) = refl

  -- a directive that says something has no fault
  spoken : (b : Bool) (form : Form) (table : List Declaration) (l : Said) → Rattle.unit_model.specs.Preparing.form_said b form table ≡ Ok l → (d : Directive) × (form ≡ Ok d)
  spoken b (Err n) table l h = absurd (cc)
  spoken b (Ok d) table l h = (d, refl)

  pub source-cells : (b : Bool) (table : List Declaration) (l : Said) (t : Tree ℕ) → said b (renamed f t) table ≡ Ok l
      → source_view names (source_by (is_functor f (codes ":-") 1 (cons t nil)) (entered (cons t nil))) ≡ source_of (sort_of (renamed f t))
  source-cells b table l (var n) h = refl
  source-cells b table l (int z) h = refl
  source-cells b table l (atom s) h = refl
  source-cells b table l (comp s nil) h = refl
  source-cells b table l (comp s (cons d nil)) h = go (same_text (f s) (codes ":-")) (same_text (f s) (codes "?-")) h
    where
      abbrev_sort : Bool → Bool → Sort
      abbrev_sort a c = if a then a_directive (directive_of (renamed f d)) else if c then a_query else a_clause

      go : (a c : Bool) → Rattle.unit_model.specs.Preparing.sort_said b (abbrev_sort a c) (renamed f (comp s (cons d nil))) table ≡ Ok l → source_view names (source_by a (cons d nil)) ≡ source_of (abbrev_sort a c)
      go true c h = let found = spoken b (directive_of (renamed f d)) table l h in source-directive d found.0 found.1
      go false true h = refl
      go false false h = refl
  source-cells b table l (comp s (cons d (cons e us))) h =
      ap (λ c. source_view names (source_by (c && same_text (f s) (codes ":-")) (append (cons d (cons e us)) nil))) (two (count us))

  -- ---- what the code found, step by step

  abbrev pub IsDirectiveTest : Tree ℕ → Trees ℕ → Bool → Type 0
  IsDirectiveTest t walk b = (b ≡ is_functor f (codes ":-") 1 walk) × (walk ≡ cons t nil)

  tested : (t : Tree ℕ) (walk : Trees ℕ) (b : Bool) → IsDirectiveTest t walk b → b ≡ is_functor f (codes ":-") 1 (cons t nil)
  tested t walk b h = h.0 ∙ ap (is_functor f (codes ":-") 1) h.1

  pub section-not : (t : Tree ℕ) (walk : Trees ℕ) (b : Bool) → IsDirectiveTest t walk b → b ≡ false → None ≡ section_part (sort_of (renamed f t))
  section-not t walk b h e =
      ap (λ c. option_map (directive_view names) (section_by c (entered (cons t nil)))) (sym e ∙ tested t walk b h) ∙ section-cells t

  pub section-is : (t : Tree ℕ) (walk ts : Trees ℕ) (b : Bool) → IsDirectiveTest t walk b → b ≡ true → ts ≡ entered walk
      → (r : Option SectionDirective) → r ≡ by_word (unary_name (first_cell ts)) (atom_name (first_cell (entered ts))) → option_map (directive_view names) r ≡ section_part (sort_of (renamed f t))
  section-is t walk ts b h e next r is =
      ap (option_map (directive_view names)) is
      ∙ ap (λ us. option_map (directive_view names) (section_by true us)) (next ∙ ap entered h.1)
      ∙ ap (λ c. option_map (directive_view names) (section_by c (entered (cons t nil)))) (sym e ∙ tested t walk b h) ∙ section-cells t

  module _ (t : Tree ℕ) (one : Bool) (table : List Declaration) (l : Said) (spoke : said one (renamed f t) table ≡ Ok l) where
    pub source-not : (walk : Trees ℕ) (b : Bool) → IsDirectiveTest t walk b → b ≡ false → no_module ≡ source_of (sort_of (renamed f t))
    source-not walk b h e =
        ap (λ c. source_view names (source_by c (entered (cons t nil)))) (sym e ∙ tested t walk b h) ∙ source-cells one table l t spoke

    pub source-is : (walk ts : Trees ℕ) (b : Bool) → IsDirectiveTest t walk b → b ≡ true → ts ≡ entered walk
        → (r : Option ModuleSource) → r ≡ by_source (short_name (first_cell ts)) (atom_name (first_cell (entered ts))) → source_view names r ≡ source_of (sort_of (renamed f t))
    source-is walk ts b h e next r is =
        ap (source_view names) is
        ∙ ap (λ us. source_view names (source_by true us)) (next ∙ ap entered h.1)
        ∙ ap (λ c. source_view names (source_by c (entered (cons t nil)))) (sym e ∙ tested t walk b h) ∙ source-cells one table l t spoke
