-- Each step reads of the known interfaces what its text needs.
use Rattle.std.proofs.Common.{◌≡◌, ℕ, List, [], ◌∷◌, ◌++◌, map, Bool, true, false, ◌||◌, if◌then◌else◌, Option, Some, None, is_some, Ok, Err, refl, sym, ap, ◌∙◌, subst, append-nil, append_assoc}
use Rattle.std.specs.List.{filter_map}
use Rattle.std.proofs.lemmas.Bool.{or_parts}
use Rattle.std.proofs.lemmas.List.{map-append}
use Rattle.std.proofs.lemmas.List.Elements.{filter_map-append}
use Rattle.pl_terms.specs.Trees.{Tree}
use Rattle.pl_ops.specs.Tables.{Declaration}
use Rattle.pl_ops.specs.Standard.{standard}
use Rattle.unit_model.specs.Facts.{OperatorOf, Need, Entry, What, SectionKind, interface, body, Section}
use Rattle.unit_model.specs.Directives.{Text, Directive, opens, closes, exporting, reexporting, metapredicates, operators, importing, discontiguous}
use Rattle.unit_model.specs.Preparing.{Interface, Opened, State, Next, table_in, operators_known, holds, with_need, with_operators, in_interface, open_section, is_reserved, open_interface, open_body, open_named, opened, operators_of, close_section, closes_this, closed, declaration, Said, Saying, Sort, a_directive, a_query, a_clause, sort_of, sort_said, Source, no_module, passing, taking, source_of, told, taken, sourced, with_said, directive_step, sort_step, step}
use Rattle.unit_model.specs.Known.{interface_of}
use Rattle.preparing_laws.proofs.Lists.{all-append}
use Rattle.link_model.specs.Texts.{AllNew}
use Rattle.needs_laws.proofs.Known.{names, known-own, known-before, new-join, new-parts, need-same, known-parts}
use Rattle.needs_laws.proofs.States.{own_of, Follows, Fits, moved, Leaves, Takes, ReadsNeeds}

module _ (before : List Interface) where
  -- ---- entries

  module _ (byte : ℕ) (ws : List (What Text)) (t : List Declaration) where
    told-at : (s : State) (i : Option Opened) → ReadsNeeds before (record s { inside = i }) (λ u. Ok (told byte ws t u))
    told-at s None h f = record {
      follows = record { known = h.known; own = h.own };
      fits = record { needs = f.needs; new = f.new; fresh = tt };
      again = λ is g. (record { needs = g.needs; new = g.new; fresh = tt }, refl);
    }
    told-at s (Some o) h f = record {
      follows = record { known = h.known; own = h.own };
      fits = record { needs = f.needs; new = f.new; fresh = f.fresh };
      again = λ is g. (record { needs = g.needs; new = g.new; fresh = g.fresh }, refl);
    }

    told-reads : (s : State) → ReadsNeeds before s (λ u. Ok (told byte ws t u))
    told-reads s = told-at s s.inside

  -- ---- modules that are taken

  -- A step that finds the operators of a module goes on by `next`. The module has an interface in the text, or it is a need from then on.
  module _ (byte : ℕ) (m : Text) (os : List (OperatorOf Text)) (s : State) (h : Follows before s) (f : Fits before s) (e : operators_known s.known m ≡ Some os) where
    abbrev need : Need Text
    need = record { byte = byte; of = m; operators = os }

    abbrev with_needs : List (Need Text) → State
    with_needs ns = record s { needs = ns }

    was-known : operators_known (before ++ own_of s) m ≡ Some os
    was-known = ap (λ l. operators_known l m) (sym h.known) ∙ e

    owned : (b : Bool) → holds s.own m ≡ b → holds (names (own_of s)) m ≡ b
    owned b p = ap (λ l. holds l m) (sym h.own) ∙ p

    was-before : holds s.own m ≡ false → operators_known before m ≡ Some os
    was-before p = sym (known-before before (own_of s) m (owned false p)) ∙ was-known

    module _ (next : State → State) (reads : (ns : List (Need Text)) → ReadsNeeds before (with_needs ns) (λ u. Ok (next u))) (again : List Interface → Next) where
      -- the step leaves `next u`, if it gives `next (there is)` where other interfaces were known and these operators are found among them
      abbrev GoesOn : State → (List Interface → State) → Type 0
      GoesOn u there = ((is : List Interface) → operators_known (is ++ own_of s) m ≡ Some os → again is ≡ Ok (next (there is))) → Leaves before s (next u) again

      without-need : ((is : List Interface) → Fits is s → operators_known (is ++ own_of s) m ≡ Some os) → GoesOn s (λ is. moved is s)
      without-need known found =
          let l = reads s.needs h f in record {
            follows = l.follows;
            fits = l.fits;
            again = λ is g. let a = l.again is g in (a.0, found is (known is a.0) ∙ a.1);
          }

      with-new-need : holds s.own m ≡ false → GoesOn (with_needs (s.needs ++ need ∷ [])) (λ is. moved is (with_needs (s.needs ++ need ∷ [])))
      with-new-need p found =
          let ns = s.needs ++ need ∷ [] in
          let needs = all-append (λ n. operators_known before n.of ≡ Some n.operators) s.needs (need ∷ []) f.needs (was-before p, tt) in
          let l = reads ns (record { known = h.known; own = h.own }) (record { needs = needs; new = f.new; fresh = f.fresh }) in record {
            follows = l.follows;
            fits = l.fits;
            again = λ is g.
                let a = l.again is g in
                let k = known-parts is s.needs (need ∷ []) a.0.needs in
                (record { needs = k.0; new = a.0.new; fresh = a.0.fresh }, found is (known-before is (own_of s) m (owned false p) ∙ k.1.0) ∙ a.1);
          }

      with-need-goes : GoesOn (with_need m os byte s) (λ is. with_need m os byte (moved is s))
      with-need-goes = go (holds s.own m) (holds (map (λ n. n.of) s.needs) m) refl refl
        where
          go : (b c : Bool) → holds s.own m ≡ b → holds (map (λ n. n.of) s.needs) m ≡ c
              → GoesOn (if b || c then s else with_needs (s.needs ++ need ∷ [])) (λ is. if b || c then moved is s else moved is (with_needs (s.needs ++ need ∷ [])))
          go true c p q =
              without-need (λ is g. known-own is (own_of s) m g.new (owned true p) ∙ sym (known-own before (own_of s) m f.new (owned true p)) ∙ was-known)
          go false true p q =
              without-need (λ is g. known-before is (own_of s) m (owned false p) ∙ need-same is before s.needs m g.needs f.needs q ∙ was-before p)
          go false false p q = with-new-need p

  -- ---- what a term says

  module _ (byte : ℕ) where
    abbrev passed_from : Said → Text → State → Option (List (OperatorOf Text)) → Next
    passed_from l m s o = elim o [ None ↦ Err 11 | Some os ↦ Ok (told byte l.entries l.table (with_need m os byte s)) ]

    passing-reads : (m : Text) (l : Said) (s : State) → ReadsNeeds before s (sourced (passing m) l byte)
    passing-reads m l s h f = go (operators_known s.known m) refl
      where
        go : (o : Option (List (OperatorOf Text))) → operators_known s.known m ≡ o → Takes before s (passed_from l m s o) (λ is. sourced (passing m) l byte (moved is s))
        go None e = tt
        go (Some os) e =
            with-need-goes byte m os s h f e (told byte l.entries l.table) (λ ns. told-reads byte l.entries l.table (record s { needs = ns })) (λ is. sourced (passing m) l byte (moved is s))
            (λ is k. ap (passed_from l m (moved is s)) k)

    abbrev taken_from : Said → Text → State → Option (List (OperatorOf Text)) → Next
    taken_from l m s o = elim o [ None ↦ Err 11 | Some os ↦ taken byte l.entries (with_operators os l.table) (with_need m os byte s) ]

    taking-reads : (m : Text) (l : Said) (s : State) → ReadsNeeds before s (sourced (taking m) l byte)
    taking-reads m l s h f = go (operators_known s.known m) refl
      where
        with_table : (os : List (OperatorOf Text)) (t : Option (List Declaration)) → operators_known s.known m ≡ Some os → with_operators os l.table ≡ t
            → Takes before s (taken byte l.entries t (with_need m os byte s)) (λ is. sourced (taking m) l byte (moved is s))
        with_table os None e r = tt
        with_table os (Some t) e r =
            with-need-goes byte m os s h f e (told byte l.entries t) (λ ns. told-reads byte l.entries t (record s { needs = ns })) (λ is. sourced (taking m) l byte (moved is s))
            (λ is k. ap (taken_from l m (moved is s)) k ∙ ap (λ u. taken byte l.entries u (with_need m os byte (moved is s))) r)

        go : (o : Option (List (OperatorOf Text))) → operators_known s.known m ≡ o → Takes before s (taken_from l m s o) (λ is. sourced (taking m) l byte (moved is s))
        go None e = tt
        go (Some os) e = with_table os (with_operators os l.table) e refl

    said-reads : (saying : Saying) (source : Source) (s : State) → ReadsNeeds before s (with_said saying source byte)
    said-reads (Err n) source s h f = tt
    said-reads (Ok l) no_module s h f = told-reads byte l.entries l.table s h f
    said-reads (Ok l) (passing m) s h f = passing-reads m l s h f
    said-reads (Ok l) (taking m) s h f = taking-reads m l s h f

    -- ---- sections that open

    abbrev outside_sections : State → State
    outside_sections s = record s { inside = None }

    abbrev interface_from : Text → State → Bool → Next
    interface_from m s b = if b then Err 15 else Ok (open_section interface m byte standard s)

    open_interface-reads : (m : Text) (s : State) → ReadsNeeds before (outside_sections s) (open_interface m byte)
    open_interface-reads m s h f = go (is_some (operators_known s.known m) || is_reserved m) refl
      where
        none : (o : Option (List (OperatorOf Text))) → is_some o ≡ false → o ≡ None
        none None e = refl
        none (Some os) e = absurd cc

        go : (b : Bool) → (is_some (operators_known s.known m) || is_reserved m) ≡ b
            → Takes before (outside_sections s) (interface_from m (outside_sections s) b) (λ is. open_interface m byte (moved is (outside_sections s)))
        go true e = tt
        go false e = let p = or_parts (is_some (operators_known s.known m)) (is_reserved m) e in record {
          follows = record { known = h.known; own = h.own };
          fits = record { needs = f.needs; new = f.new; fresh = λ c. ap (λ l. operators_known l m) (sym h.known) ∙ none (operators_known s.known m) p.0 };
          again = λ is g. (
            record { needs = g.needs; new = g.new; fresh = tt },
            ap (λ o. interface_from m (moved is (outside_sections s)) (is_some o || is_reserved m)) (g.fresh refl) ∙ ap (interface_from m (moved is (outside_sections s))) p.1,
          );
        }

    body-reads : (m : Text) (t : List Declaration) (s : State) → ReadsNeeds before (outside_sections s) (λ u. Ok (open_section body m byte t u))
    body-reads m t s h f = record {
      follows = record { known = h.known; own = h.own };
      fits = record { needs = f.needs; new = f.new; fresh = λ c. absurd (cc) };
      again = λ is g. (record { needs = g.needs; new = g.new; fresh = tt }, refl);
    }

    abbrev body_from : Text → State → Option (List (OperatorOf Text)) → Next
    body_from m s o = elim o [ None ↦ Err 11 | Some os ↦ Ok (open_section body m byte (standard ++ map declaration os) (with_need m os byte s)) ]

    open_body-reads : (m : Text) (s : State) → ReadsNeeds before (outside_sections s) (open_body m byte)
    open_body-reads m s h f = go (operators_known s.known m) refl
      where
        go : (o : Option (List (OperatorOf Text))) → operators_known s.known m ≡ o → Takes before (outside_sections s) (body_from m (outside_sections s) o) (λ is. open_body m byte (moved is (outside_sections s)))
        go None e = tt
        go (Some os) e =
            let t = standard ++ map declaration os in
            with-need-goes byte m os (outside_sections s) h f e (open_section body m byte t) (λ ns. body-reads m t (record s { needs = ns })) (λ is. open_body m byte (moved is (outside_sections s)))
            (λ is k. ap (body_from m (moved is (outside_sections s))) k)

    open_named-reads : (k : SectionKind) (m : Option Text) (s : State) → ReadsNeeds before (outside_sections s) (open_named k m byte)
    open_named-reads interface None s h f = tt
    open_named-reads body None s h f = tt
    open_named-reads interface (Some m) s h f = open_interface-reads m s h f
    open_named-reads body (Some m) s h f = open_body-reads m s h f

    opened-reads : (k : SectionKind) (m : Option Text) (s : State) (i : Option Opened) → ReadsNeeds before (record s { inside = i }) (opened k m byte)
    opened-reads k m s None h f = open_named-reads k m s h f
    opened-reads k m s (Some o) h f = tt

  -- ---- sections that end

  module _ (s : State) (byte : ℕ) (m : Text) (es : List (Entry Text)) (table : List Declaration) where
    abbrev part : SectionKind → Section Text
    part k = record { kind = k; byte = byte; of = m; entries = es }

    abbrev open_at : SectionKind → State
    open_at k = record s { inside = Some (record { section = part k; table = table }) }

    more : (k : SectionKind) → filter_map interface_of (s.sections ++ part k ∷ []) ≡ own_of s ++ filter_map interface_of (part k ∷ [])
    more k = filter_map-append interface_of s.sections (part k ∷ [])

    close-reads : (k : SectionKind) → ReadsNeeds before (open_at k) (λ u. Ok (close_section (part k) u))
    close-reads body h f = record {
      follows = record { known = h.known ∙ ap (λ l. before ++ l) (sym same); own = h.own ∙ ap names (sym same) };
      fits = record { needs = f.needs; new = subst (λ l. AllNew before l) (sym same) f.new; fresh = tt };
      again = λ is g. (
        record { needs = g.needs; new = subst (λ l. AllNew is l) same g.new; fresh = λ c. absurd (cc) },
        ap (λ l. Ok (record (close_section (part body) (open_at body)) { known = is ++ l })) (sym same),
      );
    }
      where
        same : filter_map interface_of (s.sections ++ part body ∷ []) ≡ own_of s
        same = more body ∙ append-nil (own_of s)
    close-reads interface h f = record {
      follows = record {
        known = ap (λ l. l ++ i ∷ []) h.known ∙ append_assoc before (own_of s) (i ∷ []) ∙ ap (λ l. before ++ l) (sym same);
        own = ap (λ l. l ++ m ∷ []) h.own ∙ sym (map-append (λ (j : Interface). j.of) (own_of s) (i ∷ [])) ∙ ap names (sym same);
      };
      fits = record { needs = f.needs; new = subst (λ l. AllNew before l) (sym same) (new-join before (own_of s) (i ∷ []) f.new (f.fresh refl, tt)); fresh = tt };
      again = λ is g.
          let p = new-parts is (own_of s) (i ∷ []) (subst (λ l. AllNew is l) same g.new) in (
            record { needs = g.needs; new = p.0; fresh = λ c. p.1.0 },
            ap (λ l. Ok (record (close_section (part interface) (open_at interface)) { known = l })) (append_assoc is (own_of s) (i ∷ []) ∙ ap (λ l. is ++ l) (sym same)),
          );
    }
      where
        i : Interface
        i = record { of = m; operators = operators_of es }

        same : filter_map interface_of (s.sections ++ part interface ∷ []) ≡ own_of s ++ i ∷ []
        same = more interface

  abbrev closed_from : Section Text → State → Bool → Next
  closed_from t s b = if b then Ok (close_section t s) else Err 7

  closed-reads : (k : SectionKind) (m : Option Text) (s : State) (i : Option Opened) → ReadsNeeds before (record s { inside = i }) (closed k m)
  closed-reads k m s None h f = tt
  closed-reads k m s (Some o) h f = go (closes_this k m o.section)
    where
      go : (b : Bool) → Takes before (record s { inside = Some o }) (closed_from o.section (record s { inside = Some o }) b) (λ is. closed_from o.section (moved is (record s { inside = Some o })) b)
      go true = close-reads s o.section.byte o.section.of o.section.entries o.table o.section.kind h f
      go false = tt

  -- ---- steps

  module _ (t : Tree Text) (byte : ℕ) (s : State) where
    saying-reads : (sort : Sort) → ReadsNeeds before s (λ u. with_said (sort_said (in_interface u) sort t (table_in u)) (source_of sort) byte u)
    saying-reads sort = said-reads byte (sort_said (in_interface s) sort t (table_in s)) (source_of sort) s

    directive-reads : (d : Directive) → ReadsNeeds before s (directive_step d (a_directive (Ok d)) t byte)
    directive-reads (opens k m) = opened-reads byte k m s s.inside
    directive-reads (closes k m) = closed-reads k m s s.inside
    directive-reads (exporting is) = saying-reads (a_directive (Ok (exporting is)))
    directive-reads (reexporting m is) = saying-reads (a_directive (Ok (reexporting m is)))
    directive-reads (metapredicates ms) = saying-reads (a_directive (Ok (metapredicates ms)))
    directive-reads (operators p k ns) = saying-reads (a_directive (Ok (operators p k ns)))
    directive-reads (importing m is) = saying-reads (a_directive (Ok (importing m is)))
    directive-reads discontiguous = saying-reads (a_directive (Ok discontiguous))

    sort-reads : (sort : Sort) → ReadsNeeds before s (sort_step sort t byte)
    sort-reads (a_directive (Ok d)) = directive-reads d
    sort-reads (a_directive (Err n)) = saying-reads (a_directive (Err n))
    sort-reads a_query = saying-reads a_query
    sort-reads a_clause = saying-reads a_clause

    pub step-leaves : Follows before s → Fits before s → (after : State) → step t byte s ≡ Ok after → Leaves before s after (λ is. step t byte (moved is s))
    step-leaves h f after e = subst (λ n. Takes before s n (λ is. step t byte (moved is s))) e (sort-reads (sort_of t) h f)
