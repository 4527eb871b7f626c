-- What an operator directive adds to a table.
use Rattle.std.proofs.Common.{◌≡◌, ℕ, ◌<◌, ◌≤◌, ◌^◌, ℤ, pos, negsuc, List, [], ◌∷◌, ◌++◌, map, codes, nat_lt, nat_le, Bool, true, false, not, ◌&&◌, ◌||◌, if◌then◌else◌, Option, Some, None, refl, sym, ap, ◌∙◌, arith, subst, append-nil, append_assoc, leb-true, le-ltb}
use Rattle.std.specs.List.{AllByRecursion, filter_map, cons_option}
use Rattle.std.proofs.lemmas.Bool.{and_from, and_parts}
use Rattle.std.proofs.Math.Seq.{drop-append_seam}
use Rattle.pl_ops.specs.Tables.{Declaration, Class, prefix_class, infix_class, postfix_class, class_of, same_text, operator}
use Rattle.pl_ops.specs.Refusals.{kind_of, clashes, refusal_of_name, or_else, refusal_of_kind, refusal, declared_by, declared}
use Rattle.pl_ops.specs.declared.op.Kind.{Kind}
use Rattle.pl_ops.specs.declared.refusal.OpRefusal.{OpRefusal}
use Rattle.pl_ops.specs.declared.refusal.OpRefusal.TheVariants.{NotPriority, Comma, Bar, Brackets, InfixPostfix}
use Rattle.unit_model.specs.Facts.{OperatorOf, What, declares, Entry, Section}
use Rattle.unit_model.specs.Directives.{Text}
use Rattle.unit_model.specs.Preparing.{unless_refused, with_names, added, operator_of, declaration, operators_of, operator_in, entries_at}
use Rattle.unit_model.specs.Validity as units
use Rattle.unit_model.specs.Validity.{IsName, has_other, is_barred, is_refused, accepts}
use Rattle.preparing_laws.proofs.Lists.{OfSome}

-- ---- what is not refused is accepted

barred : (s : Text) → refusal_of_name s ≡ None → is_barred s ≡ false
barred s h = go (same_text s (codes ",")) (same_text s (codes "|")) (same_text s (codes "[]")) (same_text s (codes "{}")) h
  where
    go : (a b c d : Bool) → (if a then Some Comma else (if b then Some Bar else (if c || d then Some Brackets else None))) ≡ None → (a || (b || (c || (d || false)))) ≡ false
    go true b c d k = absurd (cc)
    go false true c d k = absurd (cc)
    go false false true d k = absurd (cc)
    go false false false true k = absurd (cc)
    go false false false false k = refl

other : (t : List Declaration) (c : Class) (s : Text) → has_other t c s ≡ clashes (operator t) c s
other t prefix_class s = refl
other t infix_class s = refl
other t postfix_class s = refl

accepted_kind : (t : List Declaration) (p : ℕ) (k : Kind) (s : Text) → p ≤ 1200 → refusal_of_kind (operator t) p (Some k) s ≡ None
    → not (is_refused t (record { op = record { priority = p; kind = k }; name = s })) ≡ true
accepted_kind t p k s l h = go (refusal_of_name s) refl h
  where
    last : (c : Bool) → (nat_lt 0 p && clashes (operator t) (class_of k) s) ≡ c → is_barred s ≡ false → (if c then Some InfixPostfix else None) ≡ None
        → not (nat_lt 1200 p || (is_barred s || (nat_lt 0 p && has_other t (class_of k) s))) ≡ true
    last true e b j = absurd (cc)
    last false e b j =
        ap (λ x. not (x || (is_barred s || (nat_lt 0 p && has_other t (class_of k) s)))) (le-ltb 1200 p l)
        ∙ ap (λ x. not (x || (nat_lt 0 p && has_other t (class_of k) s))) b
        ∙ ap (λ x. not (nat_lt 0 p && x)) (other t (class_of k) s)
        ∙ ap not e

    go : (o : Option OpRefusal) → refusal_of_name s ≡ o → or_else o (if nat_lt 0 p && clashes (operator t) (class_of k) s then Some InfixPostfix else None) ≡ None
        → not (is_refused t (record { op = record { priority = p; kind = k }; name = s })) ≡ true
    go None e j = last (nat_lt 0 p && clashes (operator t) (class_of k) s) refl (barred s e) j
    go (Some r) e j = absurd (cc)

pub record FitsDeclaration (d : Declaration) : Type 0 where
  pub priority : d.op.priority < 2 ^ 16
  pub name : IsName d.name

-- one that an operator directive declares
record IsDeclared (t : List Declaration) (ds : List Declaration) : Type 0 where
  pub one : Declaration
  pub is : ds ≡ one ∷ []
  pub fits : FitsDeclaration one
  pub fine : not (is_refused t one) ≡ true

declared-one : (t : List Declaration) (p : ℤ) (k s : Text) → IsName s → refusal (operator t) p k s ≡ None → IsDeclared t (declared p k s)
declared-one t (negsuc n) k s name h = absurd (cc)
declared-one t (pos n) k s name h = by_priority (nat_le n 1200) refl h
  where
    by_kind : n ≤ 1200 → (o : Option Kind) → refusal_of_kind (operator t) n o s ≡ None → IsDeclared t (declared_by n o s)
    by_kind l None j = absurd (cc)
    by_kind l (Some kind) j = record {
      one = record { op = record { priority = n; kind = kind }; name = s };
      is = refl;
      fits = record { priority = omega arith; name = name };
      fine = accepted_kind t n kind s l j;
    }

    by_priority : (b : Bool) → nat_le n 1200 ≡ b → (if b then refusal_of_kind (operator t) n (kind_of k) s else Some NotPriority) ≡ None → IsDeclared t (declared_by n (kind_of k) s)
    by_priority true e j = by_kind (leb-true n 1200 e) (kind_of k) j
    by_priority false e j = absurd (cc)

-- a table that has grown by declarations, each accepted
pub record IsGrown (t u : List Declaration) : Type 0 where
  pub more : List Declaration
  pub is : u ≡ t ++ more
  pub fit : AllByRecursion FitsDeclaration more
  pub fine : accepts t more ≡ true

grown-more : (t u : List Declaration) (d : Declaration) → FitsDeclaration d → not (is_refused t d) ≡ true → IsGrown (t ++ d ∷ []) u → IsGrown t u
grown-more t u d fits fine g = record {
  more = d ∷ g.more;
  is = g.is ∙ append_assoc t (d ∷ []) g.more;
  fit = (fits, g.fit);
  fine = and_from (not (is_refused t d)) (accepts (t ++ d ∷ []) g.more) fine g.fine;
}

pub names-grow : (p : ℤ) (k : Text) (ns : List Text) (t : List Declaration) → AllByRecursion IsName ns → OfSome (IsGrown t) (with_names p k ns t)
names-grow p k [] t h = record { more = []; is = sym (append-nil t); fit = tt; fine = refl }
names-grow p k (n ∷ ns) t h = go (refusal (operator t) p k n) refl (λ u. names-grow p k ns u h.1)
  where
    later : (o : Option (List Declaration)) (d : Declaration) → FitsDeclaration d → not (is_refused t d) ≡ true → OfSome (IsGrown (t ++ d ∷ [])) o → OfSome (IsGrown t) o
    later None d fits fine g = tt
    later (Some u) d fits fine g = grown-more t u d fits fine g

    one : (ds : List Declaration) → IsDeclared t ds → ((u : List Declaration) → OfSome (IsGrown u) (with_names p k ns u)) → OfSome (IsGrown t) (with_names p k ns (t ++ ds))
    one ds i ih = subst (λ l. OfSome (IsGrown t) (with_names p k ns (t ++ l))) (sym i.is) (later (with_names p k ns (t ++ i.one ∷ [])) i.one i.fits i.fine (ih (t ++ i.one ∷ [])))

    go : (o : Option OpRefusal) → refusal (operator t) p k n ≡ o → ((u : List Declaration) → OfSome (IsGrown u) (with_names p k ns u)) → OfSome (IsGrown t) (unless_refused o (t ++ declared p k n) (with_names p k ns))
    go None e ih = one (declared p k n) (declared-one t p k n h.0 e) ih
    go (Some r) e ih = tt

-- ---- declarations one after another

pub accepts-append : (t ds es : List Declaration) → accepts t ds ≡ true → accepts (t ++ ds) es ≡ true → accepts t (ds ++ es) ≡ true
accepts-append t [] es h k = subst (λ l. accepts l es ≡ true) (append-nil t) k
accepts-append t (d ∷ ds) es h k =
    let p = and_parts (not (is_refused t d)) (accepts (t ++ d ∷ []) ds) h in
    and_from (not (is_refused t d)) (accepts (t ++ d ∷ []) (ds ++ es)) p.0
    (accepts-append (t ++ d ∷ []) ds es p.1 (subst (λ l. accepts l es ≡ true) (sym (append_assoc t (d ∷ []) ds)) k))

-- ---- the operators of entries

pub operators-append : (es fs : List (Entry Text)) → operators_of (es ++ fs) ≡ operators_of es ++ operators_of fs
operators-append [] fs = refl
operators-append (e ∷ es) fs = ap (λ l. operator_in e.what ++ l) (operators-append es fs) ∙ sym (append_assoc (operator_in e.what) (operators_of es) (operators_of fs))

pub operators-declared : (byte : ℕ) (ds : List Declaration) → map declaration (operators_of (entries_at byte (map declares (map operator_of ds)))) ≡ ds
operators-declared byte [] = refl
operators-declared byte (d ∷ ds) = ap (λ l. d ∷ l) (operators-declared byte ds)

-- an interface's operators are its entries'
pub operators-same : (s : Section Text) → operators_of s.entries ≡ units.operators_of s
operators-same s = go s.entries
  where
    one : (w : What Text) (l : List (OperatorOf Text)) → operator_in w ++ l ≡ cons_option (units.operator_in w) l
    one (Rattle.unit_model.specs.Facts.exports i) l = refl
    one (Rattle.unit_model.specs.Facts.reexports_all m) l = refl
    one (Rattle.unit_model.specs.Facts.reexports m i) l = refl
    one (Rattle.unit_model.specs.Facts.has_modes n ms) l = refl
    one (declares o) l = refl
    one (Rattle.unit_model.specs.Facts.imports_all m) l = refl
    one (Rattle.unit_model.specs.Facts.imports m i) l = refl
    one (Rattle.unit_model.specs.Facts.clause n h b) l = refl

    go : (es : List (Entry Text)) → operators_of es ≡ filter_map (λ e. units.operator_in e.what) es
    go [] = refl
    go (e ∷ es) = ap (λ l. operator_in e.what ++ l) (go es) ∙ one e.what (filter_map (λ e. units.operator_in e.what) es)

pub added-more : (t ds : List Declaration) → added t (t ++ ds) ≡ ds
added-more t ds = drop-append_seam t ds
