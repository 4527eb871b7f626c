-- Entries, sections and whole units.
use Rattle.std.proofs.Common.{◌≡◌, ℕ, ◌^◌, ◌<◌, Bool, true, false, cond, eqb, List, [], ◌∷◌, ◌++◌, length, drop, map, Option, Some, None, refl, sym, ap, subst, ◌∙◌, append_assoc, arith, inl, inr, eqb-true, if◌then◌else◌}
use Rattle.std.specs.Int.{w32, to_be_bytes}
use Rattle.std.proofs.lemmas.List.{append-nil, nil_from_length}
use Rattle.unit_model.specs.Facts.{What, exports, reexports_all, reexports, has_modes, declares, imports_all, imports, clause, Entry, SectionKind, interface, body}
use Rattle.unit_model.specs.Encoding.{tag, what_bytes, entry_bytes, section_byte, section_bytes, counted, need_bytes, name_bytes, indicator_bytes, operator_bytes, tree_bytes, mode_byte, unit_bytes, magic}
use Rattle.unit_model.specs.Validity.{FitsTree, FitsWhat, FitsEntry, FitsNeed, FitsSection, FitsFacts, FitsIndicator, FitsOperator}
use Rattle.unit_format.specs.Reading.{◌>>=◌, Reader, number_at, byte_at, then_at, pair, counted_at, operator_at, indicator_at, need_at, modes_at, tree_at, passed_at, with_modes_at, clause_at, what_at, entry_at, section_kind_of, section_kind_at, section_of, section_at, begins, Raw, raw_made, parts_at, raw_of, names_at}
use Rattle.unit_format.proofs.FieldLaws.{IsBytes, IsBytes-drop, IsField, Takes, Takes-then, bind_some, some_is, chosen, field32, byte_field, one, IsPlace, then_field, pair_made, field_as, two_numbers, counted_field, Many, code_field, indicator_field, operator_field, need_field, modes_field}
use Rattle.unit_format.proofs.TermLaws.{tree_field}
use Rattle.unit_format.proofs.NameLaws.{AreNames, names_field}

pub passed_field : IsField passed_at (λ x. to_be_bytes w32 x.0 ++ indicator_bytes x.1) (λ x. IsPlace x.0 × FitsIndicator IsPlace x.1)
unfolding passed_at
passed_field = then_field pair (λ x. x.0) (λ x. x.1) pair_made (number_at w32) (to_be_bytes w32) IsPlace indicator_at indicator_bytes (FitsIndicator IsPlace) field32 indicator_field

pub with_modes_field : IsField with_modes_at (λ x. to_be_bytes w32 x.0 ++ length x.1 ∷ map mode_byte x.1) (λ x. IsPlace x.0 × (length x.1 < 256))
unfolding with_modes_at
with_modes_field = then_field pair (λ x. x.0) (λ x. x.1) pair_made (number_at w32) (to_be_bytes w32) IsPlace modes_at (λ ms. length ms ∷ map mode_byte ms) (λ ms. length ms < 256) field32 modes_field

pub clause_field : IsField clause_at (λ x. (to_be_bytes w32 x.0.0 ++ tree_bytes x.0.1) ++ tree_bytes x.1) (λ x. (IsPlace x.0.0 × FitsTree IsPlace x.0.1) × FitsTree IsPlace x.1)
unfolding clause_at
clause_field =
    then_field pair (λ x. x.0) (λ x. x.1) pair_made (then_at pair (number_at w32) tree_at) (λ x. to_be_bytes w32 x.0 ++ tree_bytes x.1) (λ x. IsPlace x.0 × FitsTree IsPlace x.1) tree_at tree_bytes (FitsTree IsPlace)
    (then_field pair (λ x. x.0) (λ x. x.1) pair_made (number_at w32) (to_be_bytes w32) IsPlace tree_at tree_bytes (FitsTree IsPlace) field32 tree_field) tree_field

abbrev Entered : ℕ → List ℕ → What ℕ → List ℕ → Type 0
Entered t bytes w rest = (tag w ≡ t) × Takes bytes (what_bytes w) rest × FitsWhat IsPlace w

abbrev as_what : {X : Type 0} → (X → What ℕ) → X × List ℕ → Option (What ℕ × List ℕ)
as_what make x = Some (make x.0, x.1)

-- an entry made of what a field gives
by_field : {X : Type 0} (read : Reader X) (spelled : X → List ℕ) (Fits : X → Type 0) (field : IsField read spelled Fits) (make : X → What ℕ) (n t : ℕ) (bytes : List ℕ) (w : What ℕ) (rest : List ℕ)
    → ((x : X) → tag (make x) ≡ n) → ((x : X) → spelled x ≡ what_bytes (make x)) → ((x : X) → Fits x → FitsWhat IsPlace (make x))
    → IsBytes bytes → eqb t n ≡ true → (read bytes >>= as_what make) ≡ Some (w, rest) → Entered t bytes w rest
by_field {X} read spelled Fits field make n t bytes w rest tags same fit fits test e =
    let b = bind_some (read bytes) (as_what make) (w, rest) e in
    let u = field.takes bytes b.0.0 b.0.1 fits b.1 in
    subst (λ (y : What ℕ × List ℕ). Entered t bytes y.0 y.1) (some_is (make b.0.0, b.0.1) (w, rest) b.2) (tags b.0.0 ∙ sym (eqb-true t n test), subst (λ l. Takes bytes l b.0.1) (same b.0.0) u.0, fit b.0.0 u.1)

what_takes : (t : ℕ) (bytes : List ℕ) (w : What ℕ) (rest : List ℕ) → IsBytes bytes → what_at t bytes ≡ Some (w, rest) → Entered t bytes w rest
unfolding what_at
what_takes t bytes w rest fits e =
    let as1 : Option (What ℕ × List ℕ) = indicator_at bytes >>= λ i. Some (exports i.0, i.1) in
    let as2 : Option (What ℕ × List ℕ) = number_at w32 bytes >>= λ m. Some (reexports_all m.0, m.1) in
    let as3 : Option (What ℕ × List ℕ) = passed_at bytes >>= λ x. Some (reexports x.0.0 x.0.1, x.1) in
    let as4 : Option (What ℕ × List ℕ) = with_modes_at bytes >>= λ x. Some (has_modes x.0.0 x.0.1, x.1) in
    let as5 : Option (What ℕ × List ℕ) = operator_at bytes >>= λ o. Some (declares o.0, o.1) in
    let as6 : Option (What ℕ × List ℕ) = number_at w32 bytes >>= λ m. Some (imports_all m.0, m.1) in
    let as7 : Option (What ℕ × List ℕ) = passed_at bytes >>= λ x. Some (imports x.0.0 x.0.1, x.1) in
    let as8 : Option (What ℕ × List ℕ) = clause_at bytes >>= λ x. Some (clause x.0.0.0 x.0.0.1 x.0.1, x.1) in
    let from9 : Option (What ℕ × List ℕ) = None in
    let from8 : Option (What ℕ × List ℕ) = if eqb t 8 then as8 else from9 in
    let from7 : Option (What ℕ × List ℕ) = if eqb t 7 then as7 else from8 in
    let from6 : Option (What ℕ × List ℕ) = if eqb t 6 then as6 else from7 in
    let from5 : Option (What ℕ × List ℕ) = if eqb t 5 then as5 else from6 in
    let from4 : Option (What ℕ × List ℕ) = if eqb t 4 then as4 else from5 in
    let from3 : Option (What ℕ × List ℕ) = if eqb t 3 then as3 else from4 in
    let from2 : Option (What ℕ × List ℕ) = if eqb t 2 then as2 else from3 in
    let from1 : Option (What ℕ × List ℕ) = if eqb t 1 then as1 else from2 in
    elim (chosen (eqb t 1) as1 from2 (Some (w, rest)) e) [
      | inl h ↦ by_field indicator_at indicator_bytes (FitsIndicator IsPlace) indicator_field (λ i. exports i) 1 t bytes w rest (λ x. refl) (λ x. refl) (λ x h. h) fits h.0 h.1
      | inr h1 ↦ elim (chosen (eqb t 2) as2 from3 (Some (w, rest)) h1.1) [
        | inl h ↦ by_field (number_at w32) (to_be_bytes w32) IsPlace field32 (λ m. reexports_all m) 2 t bytes w rest (λ x. refl) (λ x. refl) (λ x h. h) fits h.0 h.1
        | inr h2 ↦ elim (chosen (eqb t 3) as3 from4 (Some (w, rest)) h2.1) [
          | inl h ↦ by_field passed_at (λ x. to_be_bytes w32 x.0 ++ indicator_bytes x.1) (λ x. IsPlace x.0 × FitsIndicator IsPlace x.1) passed_field (λ x. reexports x.0 x.1) 3 t bytes w rest (λ x. refl) (λ x. refl) (λ x h. h) fits h.0 h.1
          | inr h3 ↦ elim (chosen (eqb t 4) as4 from5 (Some (w, rest)) h3.1) [
            | inl h ↦ by_field with_modes_at (λ x. to_be_bytes w32 x.0 ++ length x.1 ∷ map mode_byte x.1) (λ x. IsPlace x.0 × (length x.1 < 256)) with_modes_field (λ x. has_modes x.0 x.1) 4 t bytes w rest (λ x. refl) (λ x. refl) (λ x h. h) fits h.0 h.1
            | inr h4 ↦ elim (chosen (eqb t 5) as5 from6 (Some (w, rest)) h4.1) [
              | inl h ↦ by_field operator_at operator_bytes (FitsOperator IsPlace) operator_field (λ o. declares o) 5 t bytes w rest (λ x. refl) (λ x. refl) (λ x h. h) fits h.0 h.1
              | inr h5 ↦ elim (chosen (eqb t 6) as6 from7 (Some (w, rest)) h5.1) [
                | inl h ↦ by_field (number_at w32) (to_be_bytes w32) IsPlace field32 (λ m. imports_all m) 6 t bytes w rest (λ x. refl) (λ x. refl) (λ x h. h) fits h.0 h.1
                | inr h6 ↦ elim (chosen (eqb t 7) as7 from8 (Some (w, rest)) h6.1) [
                  | inl h ↦ by_field passed_at (λ x. to_be_bytes w32 x.0 ++ indicator_bytes x.1) (λ x. IsPlace x.0 × FitsIndicator IsPlace x.1) passed_field (λ x. imports x.0 x.1) 7 t bytes w rest (λ x. refl) (λ x. refl) (λ x h. h) fits h.0 h.1
                  | inr h7 ↦ elim (chosen (eqb t 8) as8 from9 (Some (w, rest)) h7.1) [
                    | inl h ↦ by_field clause_at (λ x. (to_be_bytes w32 x.0.0 ++ tree_bytes x.0.1) ++ tree_bytes x.1) (λ x. (IsPlace x.0.0 × FitsTree IsPlace x.0.1) × FitsTree IsPlace x.1) clause_field (λ x. clause x.0.0 x.0.1 x.1) 8 t bytes w rest (λ x. refl) (λ x. refl) (λ x h. (h.0.0, h.0.1, h.1)) fits h.0 h.1
                    | inr h8 ↦ absurd cc
                  ]
                ]
              ]
            ]
          ]
        ]
      ]
    ]

what_again : (w : What ℕ) (rest : List ℕ) → FitsWhat IsPlace w → what_at (tag w) (what_bytes w ++ rest) ≡ Some (w, rest)
unfolding what_at
what_again (exports i) rest h = ap (λ r. r >>= λ x. Some (exports x.0, x.1)) (indicator_field.again i rest h)
what_again (reexports_all m) rest h = ap (λ r. r >>= λ x. Some (reexports_all x.0, x.1)) (field32.again m rest h)
what_again (reexports m i) rest h = ap (λ r. r >>= λ x. Some (reexports x.0.0 x.0.1, x.1)) (passed_field.again (m, i) rest h)
what_again (has_modes s ms) rest h = ap (λ r. r >>= λ x. Some (has_modes x.0.0 x.0.1, x.1)) (with_modes_field.again (s, ms) rest h)
what_again (declares o) rest h = ap (λ r. r >>= λ x. Some (declares x.0, x.1)) (operator_field.again o rest h)
what_again (imports_all m) rest h = ap (λ r. r >>= λ x. Some (imports_all x.0, x.1)) (field32.again m rest h)
what_again (imports m i) rest h = ap (λ r. r >>= λ x. Some (imports x.0.0 x.0.1, x.1)) (passed_field.again (m, i) rest h)
what_again (clause n t u) rest h = ap (λ r. r >>= λ x. Some (clause x.0.0.0 x.0.0.1 x.0.1, x.1)) (clause_field.again ((n, t), u) rest ((h.0, h.1), h.2))

abbrev entry_of : ℕ → What ℕ → Entry ℕ
entry_of b w = record { byte = b; what = w }

tag_below : (w : What ℕ) → tag w < 256
tag_below (exports i) = omega arith
tag_below (reexports_all m) = omega arith
tag_below (reexports m i) = omega arith
tag_below (has_modes s ms) = omega arith
tag_below (declares o) = omega arith
tag_below (imports_all m) = omega arith
tag_below (imports m i) = omega arith
tag_below (clause n t u) = omega arith

pub entry_field : IsField entry_at entry_bytes (FitsEntry IsPlace)
unfolding entry_at
entry_field = record {
  takes = λ bytes x rest fits e.
      let t = bind_some (byte_at bytes) (λ t. number_at w32 t.1 >>= λ b. what_at t.0 b.1 >>= λ w. Some (entry_of b.0 w.0, w.1)) (x, rest) e in
      let b = bind_some (number_at w32 t.0.1) (λ b. what_at t.0.0 b.1 >>= λ w. Some (entry_of b.0 w.0, w.1)) (x, rest) t.2 in
      let w = bind_some (what_at t.0.0 b.0.1) (λ w. Some (entry_of b.0.0 w.0, w.1)) (x, rest) b.2 in
      let t1 = byte_field.takes bytes t.0.0 t.0.1 fits t.1 in
      let t2 = field32.takes t.0.1 b.0.0 b.0.1 t1.0.rest_fits b.1 in
      let t3 = what_takes t.0.0 b.0.1 w.0.0 w.0.1 t2.0.rest_fits w.1 in
      let e23 = Takes-then t.0.1 (to_be_bytes w32 b.0.0) b.0.1 (what_bytes w.0.0) w.0.1 t2.0 t3.1 in
      let e13 : Takes bytes (t.0.0 ∷ (to_be_bytes w32 b.0.0 ++ what_bytes w.0.0)) w.0.1 = Takes-then bytes (one t.0.0) t.0.1 (to_be_bytes w32 b.0.0 ++ what_bytes w.0.0) w.0.1 t1.0 e23 in
      subst (λ (y : Entry ℕ × List ℕ). Takes bytes (entry_bytes y.0) y.1 × FitsEntry IsPlace y.0) (some_is (entry_of b.0.0 w.0.0, w.0.1) (x, rest) w.2) (rw t3.0 e13, record { byte = t2.1; what = t3.2 });
  again = λ x rest h.
      ap (λ l. number_at w32 l >>= λ b. what_at (tag x.what) b.1 >>= λ w. Some (entry_of b.0 w.0, w.1)) (append_assoc (to_be_bytes w32 x.byte) (what_bytes x.what) rest)
      ∙ ap (λ r. r >>= λ b. what_at (tag x.what) b.1 >>= λ w. Some (entry_of b.0 w.0, w.1)) (field32.again x.byte (what_bytes x.what ++ rest) h.byte)
      ∙ ap (λ r. r >>= λ w. Some (entry_of x.byte w.0, w.1)) (what_again x.what rest h.what);
}

-- ---- sections

section_kind-back : (b : ℕ) (k : SectionKind) → section_kind_of b ≡ Some k → section_byte k ≡ b
section_kind-back b k e =
    elim (chosen (eqb b 1) (Some interface) (if eqb b 2 then Some body else None) (Some k) e) [
      | inl h ↦ (let same : interface ≡ k = cc in ap section_byte (sym same) ∙ sym (eqb-true b 1 h.0))
      | inr n ↦ elim (chosen (eqb b 2) (Some body) None (Some k) n.1) [
        | inl h ↦ (let same : body ≡ k = cc in ap section_byte (sym same) ∙ sym (eqb-true b 2 h.0))
        | inr m ↦ absurd cc
      ]
    ]

section_kind-there : (k : SectionKind) → section_kind_of (section_byte k) ≡ Some k
section_kind-there interface = refl
section_kind-there body = refl

section_kind_field : IsField section_kind_at (λ k. one (section_byte k)) (λ k. Unit {0})
unfolding section_kind_at
section_kind_field = code_field section_kind_of section_byte section_kind-back section_kind-there

pub section_field : IsField section_at section_bytes (FitsSection IsPlace)
unfolding section_at
section_field =
    let FitsRest : (ℕ × ℕ) × List (Entry ℕ) → Type 0 = λ x. ((x.0.0 < 2 ^ 32) × (x.0.1 < 2 ^ 32)) × Many (2 ^ 32) (FitsEntry IsPlace) x.1 in
    let spelled_rest : (ℕ × ℕ) × List (Entry ℕ) → List ℕ = λ x. (to_be_bytes w32 x.0.0 ++ to_be_bytes w32 x.0.1) ++ counted entry_bytes x.1 in
    field_as section_at (λ s. one (section_byte s.kind) ++ ((to_be_bytes w32 s.byte ++ to_be_bytes w32 s.of) ++ counted entry_bytes s.entries)) section_bytes (λ s. Unit {0} × (((s.byte < 2 ^ 32) × (s.of < 2 ^ 32)) × Many (2 ^ 32) (FitsEntry IsPlace) s.entries)) (FitsSection IsPlace) (λ s. refl) (λ s h. record { byte = h.1.0.0; of = h.1.0.1; length = h.1.1.0; entries = h.1.1.1 }) (λ s h. (tt, ((h.byte, h.of), (h.length, h.entries))))
    (then_field section_of (λ s. s.kind) (λ s. ((s.byte, s.of), s.entries)) (record { first_is = λ a b. refl; second_is = λ a b. refl; made_is = λ x. refl }) section_kind_at (λ k. one (section_byte k)) (λ k. Unit {0}) (then_at pair (then_at pair (number_at w32) (number_at w32)) (counted_at entry_at)) spelled_rest FitsRest section_kind_field
    (then_field pair (λ x. x.0) (λ x. x.1) pair_made (then_at pair (number_at w32) (number_at w32)) (λ x. to_be_bytes w32 x.0 ++ to_be_bytes w32 x.1) (λ x. (x.0 < 2 ^ 32) × (x.1 < 2 ^ 32)) (counted_at entry_at) (counted entry_bytes) (Many (2 ^ 32) (FitsEntry IsPlace)) two_numbers (counted_field entry_at entry_bytes (FitsEntry IsPlace) entry_field)))

-- ---- units

pub record FitsRaw (r : Raw) : Type 0 where
  pub names : AreNames r.names
  pub facts : FitsFacts IsPlace r.facts

abbrev rest_bytes : Raw → List ℕ
rest_bytes r = (counted name_bytes r.names ++ counted need_bytes r.facts.needs) ++ counted section_bytes r.facts.sections

pub parts_field : IsField parts_at rest_bytes FitsRaw
unfolding parts_at
parts_field =
    field_as parts_at rest_bytes rest_bytes (λ r. (AreNames r.names × Many (2 ^ 32) (FitsNeed IsPlace) r.facts.needs) × Many (2 ^ 32) (FitsSection IsPlace) r.facts.sections) FitsRaw (λ r. refl)
    (λ r h. record { names = h.0.0; facts = record { needs_length = h.0.1.0; needs = h.0.1.1; sections_length = h.1.0; sections = h.1.1 } }) (λ r h. ((h.names, (h.facts.needs_length, h.facts.needs)), (h.facts.sections_length, h.facts.sections)))
    (then_field raw_made (λ r. (r.names, r.facts.needs)) (λ r. r.facts.sections) (record { first_is = λ a b. refl; second_is = λ a b. refl; made_is = λ x. refl }) (then_at pair names_at (counted_at need_at)) (λ x. counted name_bytes x.0 ++ counted need_bytes x.1) (λ x. AreNames x.0 × Many (2 ^ 32) (FitsNeed IsPlace) x.1) (counted_at section_at) (counted section_bytes) (Many (2 ^ 32) (FitsSection IsPlace))
    (then_field pair (λ x. x.0) (λ x. x.1) pair_made names_at (counted name_bytes) AreNames (counted_at need_at) (counted need_bytes) (Many (2 ^ 32) (FitsNeed IsPlace)) names_field (counted_field need_at need_bytes (FitsNeed IsPlace) need_field))
    (counted_field section_at section_bytes (FitsSection IsPlace) section_field))

guard_ended : {A : Type 0} (b : Bool) (x y : A) → cond b (Some x) None ≡ Some y → (b ≡ true) × (x ≡ y)
guard_ended true x y e = (refl, cc)
guard_ended false x y e = absurd cc

-- the first five bytes
begins-is : (bytes : List ℕ) → begins bytes ≡ true → bytes ≡ magic ++ drop 5 bytes
begins-is [] e = absurd cc
begins-is (a ∷ []) e = absurd cc
begins-is (a ∷ b ∷ []) e = absurd cc
begins-is (a ∷ b ∷ c ∷ []) e = absurd cc
begins-is (a ∷ b ∷ c ∷ d ∷ []) e = absurd cc
begins-is (a ∷ b ∷ c ∷ d ∷ f ∷ bytes) e =
    let t3 : Bool = if eqb d 0x55 then eqb f 1 else false in
    let t2 : Bool = if eqb c 0x4d then t3 else false in
    let t1 : Bool = if eqb b 0x4c then t2 else false in
    let p0 = both (eqb a 0x50) t1 e in
    let p1 = both (eqb b 0x4c) t2 p0.1 in
    let p2 = both (eqb c 0x4d) t3 p1.1 in
    let p3 = both (eqb d 0x55) (eqb f 1) p2.1 in
    let e0 = eqb-true a 0x50 p0.0 in
    let e1 = eqb-true b 0x4c p1.0 in
    let e2 = eqb-true c 0x4d p2.0 in
    let e3 = eqb-true d 0x55 p3.0 in
    let e4 = eqb-true f 1 p3.1 in
    cc
  where
    both : (x y : Bool) → cond x y false ≡ true → (x ≡ true) × (y ≡ true)
    both true y h = (refl, h)
    both false y h = absurd cc

regroup : (r : Raw) → magic ++ rest_bytes r ≡ unit_bytes r.names r.facts
regroup r = refl

-- what is read is spelled so
pub raw_takes : (bytes : List ℕ) (r : Raw) → IsBytes bytes → raw_of bytes ≡ Some r → FitsRaw r × (bytes ≡ unit_bytes r.names r.facts)
unfolding raw_of
raw_takes bytes r fits e =
    let g = guard_first (begins bytes) (parts_at (drop 5 bytes) >>= λ x. if eqb (length x.1) 0 then Some x.0 else None) r e in
    let a = bind_some (parts_at (drop 5 bytes)) (λ x. if eqb (length x.1) 0 then Some x.0 else None) r g.1 in
    let t = parts_field.takes (drop 5 bytes) a.0.0 a.0.1 (IsBytes-drop 5 bytes fits) a.1 in
    let h = guard_ended (eqb (length a.0.1) 0) a.0.0 r a.2 in
    let nothing : a.0.1 ≡ [] = nil_from_length a.0.1 (eqb-true _ _ h.0) in
    let all : bytes ≡ magic ++ rest_bytes a.0.0 = begins-is bytes g.0 ∙ ap (λ l. magic ++ l) (t.0.parts ∙ ap (λ l. rest_bytes a.0.0 ++ l) nothing ∙ append-nil (rest_bytes a.0.0)) in
    subst (λ (q : Raw). FitsRaw q × (bytes ≡ unit_bytes q.names q.facts)) h.1 (t.1, all ∙ regroup a.0.0)
  where
    guard_first : (b : Bool) (o : Option Raw) (y : Raw) → cond b o None ≡ Some y → (b ≡ true) × (o ≡ Some y)
    guard_first true o y h = (refl, h)
    guard_first false o y h = absurd cc

-- what is spelled so is read
pub raw_again : (r : Raw) → FitsRaw r → raw_of (unit_bytes r.names r.facts) ≡ Some r
unfolding raw_of
raw_again r h =
    let e : parts_at (rest_bytes r) ≡ Some (r, []) = ap parts_at (sym (append-nil (rest_bytes r))) ∙ parts_field.again r [] h in
    ap (λ o. o >>= λ x. if eqb (length x.1) 0 then Some x.0 else None) e
