-- What directives say, from what their arguments list.
use Rattle.std.proofs.Common.{◌≡◌, ℕ, List, [], ◌∷◌, codes, Bool, true, false, not, Option, Some, None, Result, Ok, Err, if◌then◌else◌, refl, sym, ap, ◌∙◌, subst, option_and_then}
use Rattle.std.specs.Option.{option_map}
use Rattle.std.specs.List.{flat_map}
use Rattle.std.proofs.lemmas.List.Concat.{flat_map_single}
use Rattle.pl_terms.specs.Trees.{Tree}
use Rattle.pl_terms.specs.Order.{text_of}
use Rattle.pl_ops.specs.Tables.{Declaration, same_text}
use Rattle.unit_model.specs.Facts.{Indicator as IndicatorOf, What, exports, reexports, has_modes, imports}
use Rattle.unit_model.specs.Directives.{Text, Directive, exporting, reexporting, metapredicates, importing, discontiguous, Form, form_of, text_in, indicators_in, mode_terms_in, unary_form, binary_form}
use Rattle.unit_model.specs.Preparing.{Saying, says, only_where, directive_said, form_said, entries_at, a_directive}
use Rattle.unit_model.specs.declared.facts.Entry.{Entry as CodeEntry}
use Rattle.unit_model.specs.Entries.{entries_in}
use Rattle.unit_model.specs.Saying.{IsSectionDirective}
use Rattle.mod_directives.specs.declared.fault.DirFault.{DirFault}
use Rattle.mod_directives.specs.declared.fault.DirFault.TheVariants.{Fault}
use Rattle.mod_directives.specs.declared.listing.Role.TheVariants.{Exported, Discontiguous as Nothing}
use Rattle.mod_directives.specs.declared.listing.Item.TheVariants.{Indicator, Modes}
use Rattle.mod_directives.specs.declared.listing.Whole.{Whole}
use Rattle.mod_directives.specs.declared.listing.Whole.TheVariants.{Reexported, Imported}
use Rattle.mod_directives.specs.declared.words.Unary.{Unary}
use Rattle.mod_directives.specs.declared.words.Unary.TheVariants.{Export, Reexport, Metapredicate, Import, Discontiguous, Unknown}
use Rattle.mod_directives.specs.declared.words.Binary.{Binary}
use Rattle.mod_directives.specs.declared.words.Binary.TheVariants.{Reexport as reexport, Import as import, Unknown as unknown}
use Rattle.mod_directives.specs.Words.{unary_word, binary_word}
use Rattle.mod_directives.specs.Lists.{role_said, modes_said, whole_said, part_said, list_entries, whole_entries, part_entries}
use Rattle.mod_directives.specs.Reads.{Lists, Tells, placed}

abbrev pub Answer : Type 0
Answer = Result (List CodeEntry) DirFault

pub Tells-same : (names : List (List ℕ)) (byte : ℕ) (s t : Saying) (table : List Declaration) (q r : Answer) → s ≡ t → q ≡ r → Tells names byte t table r → Tells names byte s table q
Tells-same names byte s t table q r e d h = subst (λ u. Tells names byte u table q) (sym e) (subst (Tells names byte t table) (sym d) h)

module _ (names : List (List ℕ)) (byte : ℕ) (in_one : Bool) (table : List Declaration) where
  abbrev pub said_form : Form → Saying
  said_form form = form_said in_one form table

  pub fault-tells : (n : ℕ) (s : Saying) → s ≡ Err n → Tells names byte s table (Err (Fault n))
  fault-tells n s is = record {
    ok = tt;
    bound = tt;
    fault = λ m e. is ∙ (let same : n ≡ m = cc in ap Err same);
  }

  -- a refusal stays as it is
  refused : (allowed : Bool) (e : DirFault) → placed allowed (Err e) ≡ Err e
  refused true e = refl
  refused false e = refl

  pub err-tells : (s : Saying) (e : DirFault) → ((n : ℕ) → ◌≡◌ {A = Answer} (Err e) (Err (Fault n)) → s ≡ Err n) → Tells names byte s table (Err e)
  err-tells s e h = record { ok = tt; bound = tt; fault = h }

  ok-tells : (ws : List (What Text)) (s : Saying) (es : List CodeEntry) (allowed : Bool) → s ≡ only_where allowed (says ws table) → Lists names (Some (entries_at byte ws)) (Ok es) → Tells names byte s table (placed allowed (Ok es))
  ok-tells ws s es true is l = record {
    ok = record { what = record { entries = ws; table = table }; is = is; entries_are = let e : Some (entries_at byte ws) ≡ Some (entries_in names es) = l.ok in cc; operators = refl };
    bound = l.bound;
    fault = λ n e. absurd (cc);
  }
  ok-tells ws s es false is l = fault-tells 10 s is

  pub placed-tells : {A : Type 0} (allowed : Bool) (o : Option A) (d : A → Directive) (g : A → List (What Text)) → ((a : A) → directive_said in_one (d a) table ≡ only_where allowed (says (g a) table))
      → (r : Answer) → Lists names (option_map (entries_at byte) (option_map g o)) r → Tells names byte (said_form (form_of (option_map d o))) table (placed allowed r)
  placed-tells allowed None d g h (Ok es) l = let e : None ≡ Some (entries_in names es) = l.ok in absurd (cc)
  placed-tells allowed None d g h (Err e) l =
      subst (Tells names byte (Err 9) table) (sym (refused allowed e))
      (err-tells (Err 9) e (λ n is. ap Err (sym (l.fault n is).0)))
  placed-tells allowed (Some a) d g h (Ok es) l = ok-tells (g a) (directive_said in_one (d a) table) es allowed (h a) l
  placed-tells allowed (Some a) d g h (Err e) l =
      subst (Tells names byte (directive_said in_one (d a) table) table) (sym (refused allowed e))
      (err-tells (directive_said in_one (d a) table) e (λ n is. let wrong : Some (entries_at byte (g a)) ≡ None = (l.fault n is).1 in absurd (cc)))

  -- what lists say
  flat-none : {A : Type 0} (xs : List A) → ◌≡◌ {A = List (What Text)} (flat_map (λ (x : A). []) xs) []
  flat-none [] = refl
  flat-none (x ∷ xs) = flat-none xs

  pub export-tells : (t : Tree Text) (r : Answer) → Lists names (list_entries (text_of names) (Indicator Exported) byte t) r → Tells names byte (said_form (form_of (option_map exporting (indicators_in t)))) table (placed in_one r)
  export-tells t r l =
      placed-tells in_one (indicators_in t) exporting (flat_map (role_said (text_of names) Exported))
      (λ is. ap (λ ws. only_where in_one (says ws table)) (sym (flat_map_single exports is))) r l

  pub metapredicate-tells : (t : Tree Text) (r : Answer) → Lists names (list_entries (text_of names) Modes byte t) r → Tells names byte (said_form (form_of (option_map metapredicates (mode_terms_in t)))) table (placed in_one r)
  metapredicate-tells t r l =
      placed-tells in_one (mode_terms_in t) metapredicates (flat_map (modes_said (text_of names)))
      (λ ms. ap (λ ws. only_where in_one (says ws table)) (sym (flat_map_single (λ (m : Text × List Bool). has_modes m.0 m.1) ms))) r l

  pub discontiguous-tells : (t : Tree Text) (r : Answer) → Lists names (list_entries (text_of names) (Indicator Nothing) byte t) r → Tells names byte (said_form (form_of (option_map (λ is. discontiguous) (indicators_in t)))) table (placed (not in_one) r)
  discontiguous-tells t r l =
      placed-tells (not in_one) (indicators_in t) (λ is. discontiguous) (flat_map (role_said (text_of names) Nothing))
      (λ is. ap (λ ws. only_where (not in_one) (says ws table)) (sym (flat-none is))) r l

  pub reexport-tells : (t : Tree Text) (r : Answer) → Lists names (whole_entries Reexported byte t) r → Tells names byte (said_form (form_of (option_map (λ m. reexporting m None) (text_in t)))) table (placed in_one r)
  reexport-tells t r l = placed-tells in_one (text_in t) (λ m. reexporting m None) (whole_said Reexported) (λ m. refl) r l

  pub import-tells : (t : Tree Text) (r : Answer) → Lists names (whole_entries Imported byte t) r → Tells names byte (said_form (form_of (option_map (λ m. importing m None) (text_in t)))) table (placed (not in_one) r)
  import-tells t r l = placed-tells (not in_one) (text_in t) (λ m. importing m None) (whole_said Imported) (λ m. refl) r l

  -- with indicators
  parts-by : (allowed : Bool) (w : Whole) (d : Text → Option (List (IndicatorOf Text)) → Directive) → ((m : Text) (is : List (IndicatorOf Text)) → directive_said in_one (d m (Some is)) table ≡ only_where allowed (says (flat_map (part_said w m) is) table))
      → (m : Option Text) (u : Tree Text) (r : Answer)
      → Lists names (option_map (entries_at byte) (option_and_then (λ s. option_map (flat_map (part_said w s)) (indicators_in u)) m)) r
      → Tells names byte (said_form (form_of (option_and_then (λ s. option_map (λ l. d s (Some l)) (indicators_in u)) m))) table (placed allowed r)
  parts-by allowed w d h None u r l = placed-tells {A = List (IndicatorOf Text)} allowed None (λ is. d [] (Some is)) (flat_map (part_said w [])) (h []) r l
  parts-by allowed w d h (Some m) u r l = placed-tells allowed (indicators_in u) (λ is. d m (Some is)) (flat_map (part_said w m)) (h m) r l

  pub reexports-tells : (t u : Tree Text) (r : Answer) → Lists names (part_entries Reexported byte t u) r → Tells names byte (said_form (form_of (option_and_then (λ s. option_map (λ l. reexporting s (Some l)) (indicators_in u)) (text_in t)))) table (placed in_one r)
  reexports-tells t u r l =
      parts-by in_one Reexported reexporting (λ m is. ap (λ ws. only_where in_one (says ws table)) (sym (flat_map_single (reexports m) is))) (text_in t) u r l

  pub imports-tells : (t u : Tree Text) (r : Answer) → Lists names (part_entries Imported byte t u) r → Tells names byte (said_form (form_of (option_and_then (λ s. option_map (λ l. importing s (Some l)) (indicators_in u)) (text_in t)))) table (placed (not in_one) r)
  imports-tells t u r l =
      parts-by (not in_one) Imported importing (λ m is. ap (λ ws. only_where (not in_one) (says ws table)) (sym (flat_map_single (imports m) is))) (text_in t) u r l

-- the form of a directive with one argument, by its name
abbrev pub unary_by : Unary → Tree Text → Form
unary_by Export t = form_of (option_map exporting (indicators_in t))
unary_by Reexport t = form_of (option_map (λ m. reexporting m None) (text_in t))
unary_by Metapredicate t = form_of (option_map metapredicates (mode_terms_in t))
unary_by Import t = form_of (option_map (λ m. importing m None) (text_in t))
unary_by Discontiguous t = form_of (option_map (λ is. discontiguous) (indicators_in t))
unary_by Unknown t = Err 8

abbrev pub IsSection : Form → Type 0
IsSection form = IsSectionDirective (a_directive form)

chosen : {W : Type 0} (by : W → Form) (b : Bool) (x y : Form) (v w : W) → x ≡ by v → y ≡ by w → (if b then x else y) ≡ by (if b then v else w)
chosen by true x y v w d e = d
chosen by false x y v w d e = e

other : (b : Bool) (x y : Form) → IsSection x → (IsSection (if b then x else y) → ⊥) → (if b then x else y) ≡ y
other true x y s absent = absurd (absent s)
other false x y s absent = refl

later : (b : Bool) (x y : Form) → IsSection x → (IsSection (if b then x else y) → ⊥) → IsSection y → ⊥
later true x y s absent h = absent s
later false x y s absent h = absent h

pub unary-is : (s : Text) (t : Tree Text) → (IsSection (unary_form s t) → ⊥) → unary_form s t ≡ unary_by (unary_word s) t
unary-is s t absent =
    other (same_text s (codes "module")) _ _ tt absent
    ∙ other (same_text s (codes "end_module")) _ _ tt (later (same_text s (codes "module")) _ _ tt absent)
    ∙ other (same_text s (codes "body")) _ _ tt (later (same_text s (codes "end_module")) _ _ tt (later (same_text s (codes "module")) _ _ tt absent))
    ∙ other (same_text s (codes "end_body")) _ _ tt (later (same_text s (codes "body")) _ _ tt (later (same_text s (codes "end_module")) _ _ tt (later (same_text s (codes "module")) _ _ tt absent)))
    ∙ chosen (λ w. unary_by w t) (same_text s (codes "export")) _ _ Export _ refl
    (chosen (λ w. unary_by w t) (same_text s (codes "reexport")) _ _ Reexport _ refl
    (chosen (λ w. unary_by w t) (same_text s (codes "metapredicate")) _ _ Metapredicate _ refl
    (chosen (λ w. unary_by w t) (same_text s (codes "import")) _ _ Import _ refl
    (chosen (λ w. unary_by w t) (same_text s (codes "discontiguous")) _ _ Discontiguous Unknown refl refl))))

abbrev pub binary_by : Binary → Tree Text → Tree Text → Form
binary_by reexport t u = form_of (option_and_then (λ s. option_map (λ l. reexporting s (Some l)) (indicators_in u)) (text_in t))
binary_by import t u = form_of (option_and_then (λ s. option_map (λ l. importing s (Some l)) (indicators_in u)) (text_in t))
binary_by unknown t u = Err 8

pub binary-is : (s : Text) (t u : Tree Text) → binary_form s t u ≡ binary_by (binary_word s) t u
binary-is s t u =
    chosen (λ w. binary_by w t u) (same_text s (codes "reexport")) _ _ reexport _ refl
    (chosen (λ w. binary_by w t u) (same_text s (codes "import")) _ _ import unknown refl refl)
