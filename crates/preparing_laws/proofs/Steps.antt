-- Each step leaves a sound state.
use Rattle.std.proofs.Common.{◌≡◌, ℕ, ◌<◌, ◌^◌, List, [], ◌∷◌, ◌++◌, map, Bool, true, false, not, ◌||◌, if◌then◌else◌, ◌⊎◌, inl, inr, Option, Some, None, is_some, Ok, Err, refl, sym, ap, ◌∙◌, subst, append-nil, append_assoc}
use Rattle.std.specs.List.{AllByRecursion}
use Rattle.std.proofs.lemmas.Bool.{or_parts, or_cases}
use Rattle.std.proofs.lemmas.List.{map-append}
use Rattle.pl_terms.specs.Trees.{Tree}
use Rattle.pl_ops.specs.Tables.{Declaration}
use Rattle.pl_ops.specs.Standard.{standard}
use Rattle.unit_model.specs.Facts.{OperatorOf, Need, Entry, What, declares, SectionKind, interface, body, Section}
use Rattle.unit_model.specs.Directives.{Text, Directive, opens, closes, exporting, reexporting, metapredicates, operators, importing, discontiguous}
use Rattle.unit_model.specs.Preparing.{Interface, Opened, State, start, table_in, Next, operators_known, with_need, with_entries_in, entries_at, with_operators, in_interface, open_section, is_reserved, open_interface, open_body, open_named, opened, operator_in, operators_of, close_section, closes_this, closed, declaration, Said, Saying, Sort, a_directive, a_query, a_clause, sort_of, sort_said, Source, no_module, passing, taking, source_of, told, taken, sourced, with_said, directive_step, sort_step, step}
use Rattle.unit_model.specs.Validity.{IsName, FitsOperator, is_interface, is_accepted, accepts, own_modules, holds, are_needs}
use Rattle.unit_model.specs.Entries.{IsSoundTerm}
use Rattle.unit_model.specs.Known.{AreGood, IsGoodInterface}
use Rattle.preparing_laws.specs.States.{modules, IsSoundInterface, IsSoundTaking, IsSoundEntry, IsSoundPart, IsSoundOpened, IsSoundState}
use Rattle.preparing_laws.proofs.Lists.{OfSome, all-append, all-map, all-weaker, filter_map-append, either-way}
use Rattle.preparing_laws.proofs.Tests.{no_both, holds-front, holds-back, holds-either, holds-one}
use Rattle.preparing_laws.proofs.Forms.{FitsDirective}
use Rattle.preparing_laws.proofs.Tables.{accepts-append, operators-append}
use Rattle.preparing_laws.proofs.Sayings.{Within, IsSoundWhat, IsSoundSaid, IsSoundSaying, FitsSort, sort-fit, sort-said}
use Rattle.preparing_laws.proofs.Growth.{Among, entries-among, parts-among, inside-among, needs-push, own-push, known-good, takings-still, not-needed}

abbrev pub IsSoundNext : Next → Type 0
IsSoundNext (Err n) = Unit {0}
IsSoundNext (Ok s) = IsSoundState s

when : (c x : Bool) → (c ≡ true → x ≡ true) → (not c || x) ≡ true
when true x h = h refl
when false x h = refl

when-true : (c x : Bool) → (not c || x) ≡ true → c ≡ true → x ≡ true
when-true true x h e = h
when-true false x h e = absurd (cc)

-- ---- the start

pub start-sound : (known : List Interface) → AreGood known → IsSoundState (start known)
start-sound known h = record {
  known = all-weaker IsGoodInterface IsSoundInterface (λ i g. record { name = g.name; unreserved = g.unreserved; fit = g.fit; accepted = g.accepted }) known h;
  needs = tt;
  apart = refl;
  own = refl;
  user = tt;
  sections = tt;
  inside = tt;
}

-- ---- entries

-- the operators of an interface as its table declares them
abbrev declarations : List (Entry Text) → List Declaration
declarations es = map declaration (operators_of es)

declarations-append : (es fs : List (Entry Text)) → declarations (es ++ fs) ≡ declarations es ++ declarations fs
declarations-append es fs = ap (map declaration) (operators-append es fs) ∙ map-append declaration (operators_of es) (operators_of fs)

module _ (byte : ℕ) (low : byte < 2 ^ 32) where
  entries-sound : (ms : List Text) (k : SectionKind) (source : Source) (ws : List (What Text)) → Within source ms → AllByRecursion (IsSoundWhat (is_interface k) source) ws → AllByRecursion (IsSoundEntry ms k) (entries_at byte ws)
  entries-sound ms k source ws within h =
      all-map (IsSoundEntry ms k) (λ w. record { byte = byte; what = w }) ws
      (all-weaker (IsSoundWhat (is_interface k) source) (λ w. IsSoundEntry ms k (record { byte = byte; what = w }))
      (λ w i. record { fits = record { byte = low; what = i.fits }; place = i.place; clause = i.clause; named = i.named ms within }) ws h)

  opened-more : (known : List Interface) (ms : List Text) (o : Opened) (source : Source) (ws : List (What Text)) (t : List Declaration) → IsSoundOpened known ms o → Within source ms
      → IsSoundSaid byte (is_interface o.section.kind) source o.table ws t → IsSoundOpened known ms (record { section = with_entries_in (entries_at byte ws) o.section; table = t })
  opened-more known ms o source ws t h within l = record {
    part = record {
      byte = h.part.byte;
      of = h.part.of;
      unreserved = h.part.unreserved;
      entries = all-append (IsSoundEntry ms o.section.kind) o.section.entries es h.part.entries (entries-sound ms o.section.kind source ws within l.whats);
      accepted = when (is_interface o.section.kind) (is_accepted (operators_of (o.section.entries ++ es))) fine;
      named = h.part.named;
    };
    table = λ e. (l.table e).is ∙ ap (λ d. d ++ declarations es) (h.table e) ∙ append_assoc standard (declarations o.section.entries) (declarations es)
        ∙ ap (λ d. standard ++ d) (sym (declarations-append o.section.entries es));
    fresh = h.fresh;
  }
    where
      es : List (Entry Text)
      es = entries_at byte ws

      fine : is_interface o.section.kind ≡ true → is_accepted (operators_of (o.section.entries ++ es)) ≡ true
      fine e = ap (accepts standard) (declarations-append o.section.entries es)
          ∙ accepts-append standard (declarations o.section.entries) (declarations es) (when-true (is_interface o.section.kind) (is_accepted (operators_of o.section.entries)) h.part.accepted e)
          (subst (λ d. accepts d (declarations es) ≡ true) (h.table e) (l.table e).fine)

  told-at : (source : Source) (ws : List (What Text)) (t : List Declaration) (s : State) (i : Option Opened) → IsSoundState (record s { inside = i }) → Within source (modules s)
      → IsSoundSaid byte (in_interface (record s { inside = i })) source (table_in (record s { inside = i })) ws t → IsSoundState (told byte ws t (record s { inside = i }))
  told-at source ws t s None h within l = record {
    known = h.known;
    needs = h.needs;
    apart = h.apart;
    own = h.own;
    user = all-append (IsSoundEntry (modules s) body) s.user (entries_at byte ws) h.user (entries-sound (modules s) body source ws within l.whats);
    sections = h.sections;
    inside = tt;
  }
  told-at source ws t s (Some o) h within l = record {
    known = h.known;
    needs = h.needs;
    apart = h.apart;
    own = h.own;
    user = h.user;
    sections = h.sections;
    inside = opened-more s.known (modules s) o source ws t h.inside within l;
  }

  told-sound : (source : Source) (ws : List (What Text)) (t : List Declaration) (s : State) → IsSoundState s → Within source (modules s)
      → IsSoundSaid byte (in_interface s) source (table_in s) ws t → IsSoundState (told byte ws t s)
  told-sound source ws t s = told-at source ws t s s.inside

  -- ---- needs

  need-taken : (m : Text) (os : List (OperatorOf Text)) (s : State) → IsSoundState s → IsSoundInterface (record { of = m; operators = os }) → is_some (operators_known s.known m) ≡ true
      → (holds s.own m || holds (map (λ n. n.of) s.needs) m) ≡ false → IsSoundState (record s { needs = s.needs ++ record { byte = byte; of = m; operators = os } ∷ [] })
  need-taken m os s h good is_known new = record {
    known = h.known;
    needs = all-append (IsSoundTaking s.known) s.needs (need ∷ []) h.needs (record { need = record { byte = low; of = good.name; operators = good.fit }; accepted = good.accepted; is_known = is_known }, tt);
    apart = ap (are_needs s.own) named ∙ needs-push s.own (map (λ n. n.of) s.needs) m h.apart good.unreserved both.0 both.1;
    own = h.own;
    user = entries-among (modules s) after more body s.user h.user;
    sections = parts-among (modules s) after more s.sections h.sections;
    inside = inside-among s.known (modules s) after more s.inside h.inside;
  }
    where
      need : Need Text
      need = record { byte = byte; of = m; operators = os }

      named : map (λ n. n.of) (s.needs ++ need ∷ []) ≡ map (λ n. n.of) s.needs ++ m ∷ []
      named = map-append (λ n. n.of) s.needs (need ∷ [])

      after : List Text
      after = s.own ++ map (λ n. n.of) (s.needs ++ need ∷ [])

      more : Among (modules s) after
      more x k = subst (λ l. holds l x ≡ true) (append_assoc s.own (map (λ n. n.of) s.needs) (m ∷ []) ∙ ap (λ l. s.own ++ l) (sym named)) (holds-front (modules s) (m ∷ []) x k)

      both : (holds s.own m ≡ false) × (holds (map (λ n. n.of) s.needs) m ≡ false)
      both = or_parts (holds s.own m) (holds (map (λ n. n.of) s.needs) m) new

  -- what holds of each sound state that differs in its needs alone and knows the module holds after the module is taken
  after-need : (m : Text) (os : List (OperatorOf Text)) (s : State) (P : State → Type 0) → IsSoundState s → IsSoundInterface (record { of = m; operators = os }) → is_some (operators_known s.known m) ≡ true
      → ((ns : List (Need Text)) → IsSoundState (record s { needs = ns }) → holds (modules (record s { needs = ns })) m ≡ true → P (record s { needs = ns })) → P (with_need m os byte s)
  after-need m os s P h good is_known k = go (holds s.own m || holds (map (λ n. n.of) s.needs) m) refl
    where
      need : Need Text
      need = record { byte = byte; of = m; operators = os }

      there : holds (s.own ++ map (λ n. n.of) (s.needs ++ need ∷ [])) m ≡ true
      there = holds-back s.own (map (λ n. n.of) (s.needs ++ need ∷ [])) m (subst (λ l. holds l m ≡ true) (sym (map-append (λ n. n.of) s.needs (need ∷ []))) (holds-back (map (λ n. n.of) s.needs) (m ∷ []) m (holds-one m)))

      go : (b : Bool) → (holds s.own m || holds (map (λ n. n.of) s.needs) m) ≡ b → P (if b then s else record s { needs = s.needs ++ need ∷ [] })
      go true e = k s.needs h (holds-either s.own (map (λ n. n.of) s.needs) m ∙ e)
      go false e = k (s.needs ++ need ∷ []) (need-taken m os s h good is_known e) there

  -- ---- what a term says

  is_known_by : (s : State) (m : Text) (os : List (OperatorOf Text)) → operators_known s.known m ≡ Some os → is_some (operators_known s.known m) ≡ true
  is_known_by s m os e = ap (λ o. is_some o) e

  no_table : (in_one : Bool) (source : Source) (old : List Declaration) (ws : List (What Text)) (new t : List Declaration) → in_one ≡ false → IsSoundSaid byte in_one source old ws new → IsSoundSaid byte in_one source old ws t
  no_table in_one source old ws new t e l = record { whats = l.whats; table = λ c. no_both c e; outside = l.outside }

  sourced-sound : (source : Source) (l : Said) (s : State) → IsSoundState s → IsSoundSaid byte (in_interface s) source (table_in s) l.entries l.table → IsSoundNext (sourced source l byte s)
  sourced-sound no_module l s h k = told-sound no_module l.entries l.table s h tt k
  sourced-sound (passing m) l s h k = go (operators_known s.known m) refl (known-good s.known h.known m)
    where
      go : (o : Option (List (OperatorOf Text))) → operators_known s.known m ≡ o → OfSome (λ os. IsSoundInterface (record { of = m; operators = os })) o
          → IsSoundNext (elim o [ None ↦ Err 11 | Some os ↦ Ok (told byte l.entries l.table (with_need m os byte s)) ])
      go None e good = tt
      go (Some os) e good = after-need m os s (λ a. IsSoundState (told byte l.entries l.table a)) h good (is_known_by s m os e)
          (λ ns sound holds. told-sound (passing m) l.entries l.table (record s { needs = ns }) sound holds k)
  sourced-sound (taking m) l s h k = go (operators_known s.known m) refl (known-good s.known h.known m)
    where
      with_table : (os : List (OperatorOf Text)) (t : Option (List Declaration)) → operators_known s.known m ≡ Some os → IsSoundInterface (record { of = m; operators = os }) → IsSoundNext (taken byte l.entries t (with_need m os byte s))
      with_table os None e good = tt
      with_table os (Some t) e good = after-need m os s (λ a. IsSoundState (told byte l.entries t a)) h good (is_known_by s m os e)
          (λ ns sound holds. told-sound (taking m) l.entries t (record s { needs = ns }) sound holds (no_table (in_interface s) (taking m) (table_in s) l.entries l.table t k.outside k))

      go : (o : Option (List (OperatorOf Text))) → operators_known s.known m ≡ o → OfSome (λ os. IsSoundInterface (record { of = m; operators = os })) o
          → IsSoundNext (elim o [ None ↦ Err 11 | Some os ↦ taken byte l.entries (with_operators os l.table) (with_need m os byte s) ])
      go None e good = tt
      go (Some os) e good = with_table os (with_operators os l.table) e good

  said-sound : (saying : Saying) (source : Source) (s : State) → IsSoundState s → IsSoundSaying byte (in_interface s) source (table_in s) saying → IsSoundNext (with_said saying source byte s)
  said-sound (Err n) source s h k = tt
  said-sound (Ok l) source s h k = sourced-sound source l s h k

  -- ---- sections

  open_interface-sound : (m : Text) (s : State) → IsName m → IsSoundState s → IsSoundNext (open_interface m byte s)
  open_interface-sound m s name h = go (is_some (operators_known s.known m) || is_reserved m) refl
    where
      none : (o : Option (List (OperatorOf Text))) → is_some o ≡ false → o ≡ None
      none None e = refl
      none (Some os) e = absurd (cc)

      go : (b : Bool) → (is_some (operators_known s.known m) || is_reserved m) ≡ b → IsSoundNext (if b then Err 15 else Ok (open_section interface m byte standard s))
      go true e = tt
      go false e = let p = or_parts (is_some (operators_known s.known m)) (is_reserved m) e in record {
        known = h.known;
        needs = h.needs;
        apart = h.apart;
        own = h.own;
        user = h.user;
        sections = h.sections;
        inside = record {
          part = record { byte = low; of = name; unreserved = p.1; entries = tt; accepted = refl; named = refl };
          table = λ c. sym (append-nil standard);
          fresh = λ c. none (operators_known s.known m) p.0;
        };
      }

  open_body-sound : (m : Text) (s : State) → IsName m → IsSoundState s → IsSoundNext (open_body m byte s)
  open_body-sound m s name h = go (operators_known s.known m) refl (known-good s.known h.known m)
    where
      within : (t : List Declaration) (u : State) → IsSoundState u → is_reserved m ≡ false → holds (modules u) m ≡ true → IsSoundState (open_section body m byte t u)
      within t u k r there = record {
        known = k.known;
        needs = k.needs;
        apart = k.apart;
        own = k.own;
        user = k.user;
        sections = k.sections;
        inside = record {
          part = record { byte = low; of = name; unreserved = r; entries = tt; accepted = refl; named = there };
          table = λ c. absurd (cc);
          fresh = λ c. absurd (cc);
        };
      }

      go : (o : Option (List (OperatorOf Text))) → operators_known s.known m ≡ o → OfSome (λ os. IsSoundInterface (record { of = m; operators = os })) o
          → IsSoundNext (elim o [ None ↦ Err 11 | Some os ↦ Ok (open_section body m byte (standard ++ map declaration os) (with_need m os byte s)) ])
      go None e good = tt
      go (Some os) e good = after-need m os s (λ a. IsSoundState (open_section body m byte (standard ++ map declaration os) a)) h good (is_known_by s m os e)
          (λ ns sound there. within (standard ++ map declaration os) (record s { needs = ns }) sound good.unreserved there)

  opened-sound : (k : SectionKind) (m : Option Text) (s : State) → OfSome IsName m → IsSoundState s → IsSoundNext (opened k m byte s)
  opened-sound k m s name h = go s.inside
    where
      named : (k : SectionKind) (m : Option Text) → OfSome IsName m → IsSoundNext (open_named k m byte s)
      named k None n = tt
      named interface (Some m) n = open_interface-sound m s n h
      named body (Some m) n = open_body-sound m s n h

      go : (i : Option Opened) → IsSoundNext (elim i [ Some o ↦ Err 7 | None ↦ open_named k m byte s ])
      go None = named k m name
      go (Some o) = tt

-- ---- the end of a section

-- the operators of an interface fit
operators-fit : (ms : List Text) (k : SectionKind) (es : List (Entry Text)) → AllByRecursion (IsSoundEntry ms k) es → AllByRecursion (FitsOperator IsName) (operators_of es)
operators-fit ms k [] h = tt
operators-fit ms k (e ∷ es) h = all-append (FitsOperator IsName) (operator_in e.what) (operators_of es) (one e.what h.0.fits.what) (operators-fit ms k es h.1)
  where
    one : (w : What Text) → Rattle.unit_model.specs.Validity.FitsWhat IsName w → AllByRecursion (FitsOperator IsName) (operator_in w)
    one (declares o) f = (f, tt)
    one _ f = tt

own-after : (ss : List (Section Text)) (t : Section Text) (ms ns : List Text) → own_modules ss ≡ ms → own_modules (t ∷ []) ≡ ns → own_modules (ss ++ t ∷ []) ≡ ms ++ ns
own-after ss t ms ns e f =
    filter_map-append (λ s. if is_interface s.kind then Some s.of else None) ss (t ∷ [])
    ∙ ap (λ l. l ++ own_modules (t ∷ [])) e
    ∙ ap (λ l. ms ++ l) f

close-body : (s : State) (byte : ℕ) (m : Text) (es : List (Entry Text)) (table : List Declaration)
    → IsSoundState (record s { inside = Some (record { section = record { kind = body; byte = byte; of = m; entries = es }; table = table }) })
    → IsSoundState (record s { sections = s.sections ++ record { kind = body; byte = byte; of = m; entries = es } ∷ []; inside = None })
close-body s byte m es table h = record {
  known = h.known;
  needs = h.needs;
  apart = h.apart;
  own = own-after s.sections (record { kind = body; byte = byte; of = m; entries = es }) s.own [] h.own refl ∙ append-nil s.own;
  user = h.user;
  sections = all-append (IsSoundPart (modules s)) s.sections (record { kind = body; byte = byte; of = m; entries = es } ∷ []) h.sections (h.inside.part, tt);
  inside = tt;
}

close-interface : (s : State) (byte : ℕ) (m : Text) (es : List (Entry Text)) (table : List Declaration)
    → IsSoundState (record s { inside = Some (record { section = record { kind = interface; byte = byte; of = m; entries = es }; table = table }) })
    → IsSoundState (record s { known = s.known ++ record { of = m; operators = operators_of es } ∷ []; own = s.own ++ m ∷ []; sections = s.sections ++ record { kind = interface; byte = byte; of = m; entries = es } ∷ []; inside = None })
close-interface s byte m es table h = record {
  known = all-append IsSoundInterface s.known (record { of = m; operators = operators_of es } ∷ []) h.known
      (record { name = h.inside.part.of; unreserved = h.inside.part.unreserved; fit = operators-fit (modules s) interface es h.inside.part.entries; accepted = h.inside.part.accepted }, tt);
  needs = takings-still s.known (record { of = m; operators = operators_of es } ∷ []) s.needs h.needs;
  apart = own-push s.own (map (λ n. n.of) s.needs) m h.apart (not-needed s.known m (h.inside.fresh refl) s.needs h.needs);
  own = own-after s.sections (record { kind = interface; byte = byte; of = m; entries = es }) s.own (m ∷ []) h.own refl;
  user = entries-among (modules s) after more body s.user h.user;
  sections = all-append (IsSoundPart after) s.sections (record { kind = interface; byte = byte; of = m; entries = es } ∷ []) (parts-among (modules s) after more s.sections h.sections)
      (parts-among (modules s) after more (record { kind = interface; byte = byte; of = m; entries = es } ∷ []) (h.inside.part, tt));
  inside = tt;
}
  where
    after : List Text
    after = (s.own ++ m ∷ []) ++ map (λ n. n.of) s.needs

    more : Among (modules s) after
    more x k = go (or_cases (holds s.own x) (holds (map (λ n. n.of) s.needs) x) (sym (holds-either s.own (map (λ n. n.of) s.needs) x) ∙ k))
      where
        go : (holds s.own x ≡ true) ⊎ (holds (map (λ n. n.of) s.needs) x ≡ true) → holds after x ≡ true
        go (inl e) = holds-front (s.own ++ m ∷ []) (map (λ n. n.of) s.needs) x (holds-front s.own (m ∷ []) x e)
        go (inr e) = holds-back (s.own ++ m ∷ []) (map (λ n. n.of) s.needs) x e

close-sound : (s : State) (k : SectionKind) (byte : ℕ) (m : Text) (es : List (Entry Text)) (table : List Declaration)
    → IsSoundState (record s { inside = Some (record { section = record { kind = k; byte = byte; of = m; entries = es }; table = table }) })
    → IsSoundState (close_section (record { kind = k; byte = byte; of = m; entries = es }) (record s { inside = Some (record { section = record { kind = k; byte = byte; of = m; entries = es }; table = table }) }))
close-sound s body byte m es table h = close-body s byte m es table h
close-sound s interface byte m es table h = close-interface s byte m es table h

closed-at : (k : SectionKind) (m : Option Text) (s : State) (i : Option Opened) → IsSoundState (record s { inside = i }) → IsSoundNext (closed k m (record s { inside = i }))
closed-at k m s None h = tt
closed-at k m s (Some o) h =
    either-way IsSoundNext (closes_this k m o.section) (Ok (close_section o.section (record s { inside = Some o }))) (Err 7)
    (close-sound s o.section.kind o.section.byte o.section.of o.section.entries o.table h) tt

-- ---- steps

module _ (t : Tree Text) (term : IsSoundTerm t) (byte : ℕ) (low : byte < 2 ^ 32) (s : State) (h : IsSoundState s) where
  saying-sound : (sort : Sort) → FitsSort sort → IsSoundNext (with_said (sort_said (in_interface s) sort t (table_in s)) (source_of sort) byte s)
  saying-sound sort fit = said-sound byte low (sort_said (in_interface s) sort t (table_in s)) (source_of sort) s h (sort-said byte (in_interface s) sort t (table_in s) fit term)

  directive-sound : (d : Directive) → FitsDirective d → IsSoundNext (directive_step d (a_directive (Ok d)) t byte s)
  directive-sound (opens k m) f = opened-sound byte low k m s f h
  directive-sound (closes k m) f = closed-at k m s s.inside h
  directive-sound (exporting is) f = saying-sound (a_directive (Ok (exporting is))) f
  directive-sound (reexporting m is) f = saying-sound (a_directive (Ok (reexporting m is))) f
  directive-sound (metapredicates ms) f = saying-sound (a_directive (Ok (metapredicates ms))) f
  directive-sound (operators p k ns) f = saying-sound (a_directive (Ok (operators p k ns))) f
  directive-sound (importing m is) f = saying-sound (a_directive (Ok (importing m is))) f
  directive-sound discontiguous f = saying-sound (a_directive (Ok discontiguous)) f

  sort-sound : (sort : Sort) → FitsSort sort → IsSoundNext (sort_step sort t byte s)
  sort-sound (a_directive (Ok d)) f = directive-sound d f
  sort-sound (a_directive (Err n)) f = saying-sound (a_directive (Err n)) f
  sort-sound a_query f = saying-sound a_query f
  sort-sound a_clause f = saying-sound a_clause f

  pub next-sound : IsSoundNext (step t byte s)
  next-sound = sort-sound (sort_of t) (sort-fit t term.fits)

pub step-sound : (t : Tree Text) (byte : ℕ) (s after : State) → IsSoundTerm t → byte < 2 ^ 32 → IsSoundState s → step t byte s ≡ Ok after → IsSoundState after
step-sound t byte s after term low h e = subst IsSoundNext e (next-sound t term byte low s h)
