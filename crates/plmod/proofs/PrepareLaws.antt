-- What the command `prepare` promises as a whole.
use Rattle.std.proofs.Common.{◌≡◌, ℕ, suc, ◌≤◌, ◌⊎◌, inl, inr, List, [], ◌∷◌, length, map, Option, Some, refl, sym, ap, ◌∙◌, subst, arith}
use Rattle.std.specs.List.{Contains}
use Rattle.plm_io.specs.Causes.{Rose}
use Rattle.plm_io.specs.declared.traits.IoFault.{IoFault}
use Rattle.plm_io.specs.declared.traits.IoFault.TheVariants.{Failed, NoMemory as OutOfMemory}
use Rattle.unit_model.specs.Facts.{Facts}
use Rattle.unit_model.specs.Directives.{Text}
use Rattle.unit_model.specs.Preparing.{Interface}
use Rattle.prep_report.specs.Lines.{not_unit_text}
use Rattle.reading_laws.proofs.Decided.{PreparingIsDecided-holds}
use Rattle.plmod.specs.declared.status.Status.{Status}
use Rattle.plmod.specs.declared.status.Status.TheVariants.{NotUnit, ReadFault, NoMemory}
use Rattle.plmod.specs.Words.{Order, Prepare}
use Rattle.plmod.specs.Outcome.{Outcome, told}
use Rattle.plmod.specs.Comes.{Comes}
use Rattle.plmod.specs.Prepares.{AreUnits, FirstNoUnit, known_from, PrepareGives, no_unit, fault, too_long, unit, faulty}
use Rattle.plmod.specs.Fetched.{IsUnder, AreUnder}
use Rattle.plmod.specs.Gathering.{UnitGives, TextGives, fault as text_fault, made as text_made}
use Rattle.plmod.specs.Knowing.{IsCarriedOut, IsStopped, PreparesKnown}
use Rattle.plmod.specs.Meets.{Told, Tells, bytes_under, Gives, AnyRose, HasStored, Around, Meets}
use Rattle.plmod.proofs.FetchedLaws.{bytes_all, readable_all, keeps_same, front_same}
use Rattle.plmod.proofs.Firsts.{same_units, same_first, no_first}

-- ---- one outcome

abbrev IsNoUnit : List (List ℕ) → List (List ℕ) → Outcome → Type 0
IsNoUnit names contents o = (first : List ℕ) × FirstNoUnit names contents first × (o ≡ told (not_unit_text first) NotUnit)

abbrev IsOfUnits : List ℕ → List ℕ → List (List ℕ) → Outcome → Type 0
IsOfUnits name text contents o = (fs : List (Facts Text)) × AreUnits contents fs × TextGives name (known_from fs) text o

split : (name : List ℕ) (names : List (List ℕ)) (text : List ℕ) (contents : List (List ℕ)) (o : Outcome) → PrepareGives name names text contents o
    → IsNoUnit names contents o ⊎ IsOfUnits name text contents o
split name names text contents o (no_unit a first) = inl (a, first, refl)
split name names text contents o (fault fs n byte are h) = inr (fs, are, text_fault n byte h)
split name names text contents o (too_long fs f are h long_one) = inr (fs, are, text_made f _ h (inl (long_one, refl)))
split name names text contents o (unit fs f are h short_one) = inr (fs, are, text_made f _ h (inr (short_one, refl)))

one_of_unit : (name : List ℕ) (len : ℕ) (f : Facts Text) (o p : Outcome) → UnitGives name len f o → UnitGives name len f p → o ≡ p
one_of_unit name len f o p (inl h) (inl k) = h.1 ∙ sym k.1
one_of_unit name len f o p (inl h) (inr k) = (let a = h.0 in let b = k.0 in absurd (omega (arith, a, b)))
one_of_unit name len f o p (inr h) (inl k) = (let a = h.0 in let b = k.0 in absurd (omega (arith, a, b)))
one_of_unit name len f o p (inr h) (inr k) = h.1 ∙ sym k.1

one_of_text : (name : List ℕ) (known : List Interface) (text : List ℕ) (o p : Outcome) → TextGives name known text o → TextGives name known text p → o ≡ p
one_of_text name known text o p (text_fault n a first) (text_fault m b other) =
    let same = (PreparingIsDecided-holds known text).one_fault n m a b first other in
    ap (λ k. faulty name k a) same.0 ∙ ap (faulty name m) same.1
one_of_text name known text o p (text_fault n a first) (text_made f q prepared u) = absurd ((PreparingIsDecided-holds known text).not_both f n a prepared first)
one_of_text name known text o p (text_made f q prepared u) (text_fault n a first) = absurd ((PreparingIsDecided-holds known text).not_both f n a prepared first)
one_of_text name known text o p (text_made f q prepared u) (text_made g r other v) =
    let same = (PreparingIsDecided-holds known text).one_value g f other prepared in
    let P : Facts Text → Type 0 = λ x. UnitGives name (length text) x p in
    one_of_unit name (length text) f o p u (subst P same v)

pub one_prepared : (name : List ℕ) (names : List (List ℕ)) (text : List ℕ) (contents : List (List ℕ)) (o p : Outcome)
    → PrepareGives name names text contents o → PrepareGives name names text contents p → o ≡ p
one_prepared name names text contents o p g h = go (split name names text contents o g) (split name names text contents p h)
  where
    go : IsNoUnit names contents o ⊎ IsOfUnits name text contents o → IsNoUnit names contents p ⊎ IsOfUnits name text contents p → o ≡ p
    go (inl a) (inl b) = a.2 ∙ ap (λ s. told (not_unit_text s) NotUnit) (same_first names contents a.0 b.0 a.1 b.1) ∙ sym b.2
    go (inl a) (inr b) = absurd (no_first names contents b.0 a.0 b.1 a.1)
    go (inr a) (inl b) = absurd (no_first names contents a.0 b.0 a.1 b.1)
    go (inr a) (inr b) =
        let P : List (Facts Text) → Type 0 = λ fs. TextGives name (known_from fs) text p in
        one_of_text name (known_from a.0) text o p a.2 (subst P (same_units contents b.0 a.0 b.1 a.1) b.2)

-- ---- the command

abbrev first_of : List (List ℕ) → List ℕ
first_of [] = []
first_of (x ∷ xs) = x

abbrev rest_of : List (List ℕ) → List (List ℕ)
rest_of [] = []
rest_of (x ∷ xs) = xs

-- carried out
pub carried : (out name text : List ℕ) (known : List (List ℕ)) (status : Status) (a : Around) → IsUnder a.file name text
    → IsCarriedOut out name text known status a → Meets (Some (Prepare out name known)) status a
carried out name text known status a under c =
    let order : Option Order = Some (Prepare out name known) in
    let all : AreUnder a.file (name ∷ known) (text ∷ c.contents) = (under, c.under) in
    let one : Tells (name ∷ known) a.file → (o : Outcome) → Comes order (bytes_under a.file) o → c.made ≡ o =
    λ tells o h. (
    let contents : map (bytes_under a.file) (name ∷ known) ≡ text ∷ c.contents = bytes_all a.file (name ∷ known) (text ∷ c.contents) tells all in
    let P : List (List ℕ) → Type 0 = λ l. PrepareGives name known (first_of l) (rest_of l) o in
    one_prepared name known text c.contents c.made o c.gives (subst P contents h)) in
    let G : Outcome → Type 0 = λ o. Gives status o a.written a.written_after in
    let S : Outcome → Type 0 = λ o. HasStored (Some out) o.stored a.file a.file_after in
    record {
      output = λ tells o h. subst G (one tells o h) c.output;
      stored = λ whole tells o h. subst S (one tells o h) (c.stored whole);
      readable = λ whole tells. readable_all a.file (name ∷ known) (text ∷ c.contents) tells all;
      no_command = λ h. absurd (cc);
      usage = λ h. absurd (c.used h);
      read_fault = λ h. absurd (c.read h);
      write_fault = λ h. elim (c.write_fault h) [ inl k ↦ inl k | inr k ↦ inr (k.0, λ tells o g. subst S (one tells o g) k.1) ];
      others = c.others;
      unread = λ h. absurd (c.read h);
    }

-- stopped before anything was put or written; the names that were read so far may have failed
pub stopped : (out name : List ℕ) (known names : List (List ℕ)) (status : Status) (a : Around)
    → ((before now : List ℕ → ℕ) → AnyRose names before now → AnyRose (name ∷ known) before now)
    → IsStopped names status a → Meets (Some (Prepare out name known)) status a
stopped out name known names status a within s = go s.cause
  where
    go : (status ≡ NoMemory) ⊎ ((status ≡ ReadFault) × AnyRose names a.fetches a.fetches_after) → Meets (Some (Prepare out name known)) status a
    go (inl h) =
        let P : Status → Type 0 = λ t. Meets (Some (Prepare out name known)) t a in
        subst P (sym h) (record {
          output = λ tells o k. front_same a.written a.written_after o.bytes s.written;
          stored = λ whole. absurd whole;
          readable = λ whole. absurd whole;
          no_command = λ k. absurd (cc);
          usage = λ k. (cc);
          read_fault = λ k. (cc);
          write_fault = λ k. (cc);
          others = λ n k. ap (λ (f : Told). f n) s.files;
          unread = λ k. (cc);
        })
    go (inr h) =
        let P : Status → Type 0 = λ t. Meets (Some (Prepare out name known)) t a in
        subst P (sym h.0) (record {
          output = λ tells o k. keeps_same a.written a.written_after s.written;
          stored = λ whole. absurd whole;
          readable = λ whole. absurd whole;
          no_command = λ k. absurd (cc);
          usage = λ k. (cc);
          read_fault = λ k. within a.fetches a.fetches_after h.1;
          write_fault = λ k. (cc);
          others = λ n k. ap (λ (f : Told). f n) s.files;
          unread = λ k. (keeps_same a.written a.written_after s.written, s.files);
        })

first_name : (name : List ℕ) (known : List (List ℕ)) → Contains (name ∷ known) name
first_name name known = (0, omega arith, refl)

later_name : (name other : List ℕ) (known : List (List ℕ)) → Contains known other → Contains (name ∷ known) other
later_name name other known c = (let h = c.1 in (suc c.0, omega (arith, h), c.2))

rose_before : (a b c : ℕ) → a ≤ b → Rose b c → Rose a c
rose_before a b c h r = omega (arith, h, r)

-- the text has been read, and the rest was done with the counts of fetches that then stood
pub read_first : (out name text : List ℕ) (known : List (List ℕ)) (status : Status) (a : Around) (mid : List ℕ → ℕ) → ((n : List ℕ) → a.fetches n ≤ mid n)
    → IsUnder a.file name text → PreparesKnown out name text known status (record a { fetches = mid }) → Meets (Some (Prepare out name known)) status a
read_first out name text known status a mid counts under (inl c) =
    carried out name text known status a under (record {
      contents = c.contents;
      under = c.under;
      made = c.made;
      gives = c.gives;
      output = c.output;
      stored = c.stored;
      write_fault = c.write_fault;
      others = c.others;
      read = c.read;
      used = c.used;
    })
read_first out name text known status a mid counts under (inr s) =
    let rose : (n : List ℕ) → Rose (mid n) (a.fetches_after n) → Rose (a.fetches n) (a.fetches_after n) =
    λ n r. rose_before (a.fetches n) (mid n) (a.fetches_after n) (counts n) r in
    let cause : (status ≡ NoMemory) ⊎ ((status ≡ ReadFault) × AnyRose known a.fetches a.fetches_after) =
    elim s.cause [ inl h ↦ inl h | inr h ↦ inr (h.0, (h.1.0, h.1.1, rose h.1.0 h.1.2)) ] in
    stopped out name known known status a (λ before now r. (r.0, later_name name r.0 known r.1, r.2))
    (record { cause = cause; files = s.files; written = s.written })

-- the text could not be read
pub unread_text : (out name : List ℕ) (known : List (List ℕ)) (fault : IoFault) (status : Status) (a : Around)
    → (fault ≡ Failed → status ≡ ReadFault) → (fault ≡ OutOfMemory → status ≡ NoMemory) → (fault ≡ Failed → Rose (a.fetches name) (a.fetches_after name))
    → a.file_after ≡ a.file → a.written_after ≡ a.written → Meets (Some (Prepare out name known)) status a
unread_text out name known Failed status a failed memory rose files written =
    stopped out name known (name ∷ known) status a (λ before now r. r)
    (record { cause = inr (failed refl, (name, first_name name known, rose refl)); files = files; written = written })
unread_text out name known OutOfMemory status a failed memory rose files written =
    stopped out name known (name ∷ known) status a (λ before now r. r)
    (record { cause = inl (memory refl); files = files; written = written })

-- a known file could not be read
pub unread_known : (out name text : List ℕ) (known : List (List ℕ)) (fault : IoFault) (status : Status) (a : Around)
    → (fault ≡ Failed → status ≡ ReadFault) → (fault ≡ OutOfMemory → status ≡ NoMemory) → (fault ≡ Failed → AnyRose known a.fetches a.fetches_after)
    → a.file_after ≡ a.file → a.written_after ≡ a.written → PreparesKnown out name text known status a
unread_known out name text known Failed status a failed memory rose files written =
    inr (record { cause = inr (failed refl, rose refl); files = files; written = written })
unread_known out name text known OutOfMemory status a failed memory rose files written =
    inr (record { cause = inl (memory refl); files = files; written = written })
