-- Procedures that are found or made, and entries that are taken.
use Rattle.std.proofs.Common.{◌≡◌, ℕ, List, [], ◌∷◌, ◌++◌, append_assoc, length, length-append, map, fold, Bool, true, false, ◌&&◌, cond, eqb, eqb-true, eq-eqb, refl, sym, ap, subst, ◌∙◌, arith, Option, Some, None}
use Rattle.std.specs.Prelude.{is_some}
use Rattle.std.specs.List.{list_any, filter_map}
use Rattle.std.specs.Map.{lookup}
use Rattle.std.proofs.lemmas.List.{append-nil, map-append}
use Rattle.std.proofs.lemmas.List.Elements.{filter_map-append}
use Rattle.std.proofs.lemmas.List.Sums.{fold-append}
use Rattle.unit_model.specs.Facts.{Indicator}
use Rattle.pl_store.specs.Linked.{Linked, Procedure, is_procedure, procedure_at, no_procedure, with_procedure}
use Rattle.pl_store.specs.Runs.{number_of}
use Rattle.pl_store.specs.Facts.{IsLinked}
use Rattle.program_model.specs.Saying.{Said}
use Rattle.mod_linker.specs.declared.key.Key.{Key}
use Rattle.mod_linker.specs.Keys.{ind_of, same_key, AreKnown}
use Rattle.mod_linker.specs.Counting.{with_one}
use Rattle.mod_linker.specs.Entering.{defined, same_numbers, defined_said, Enters, Provides, Takes}
use Rattle.mod_linker.proofs.Counting.{any-defined}
use Rattle.mod_linker.proofs.Positions.{any-position, get_or-last}
use Rattle.mod_linker.proofs.Growing.{its, found-is, number-new, enters-new}

-- ---- a procedure

pub is_new : (l : Linked) (home : ℕ) (i : Indicator ℕ) → number_of l home i ≡ None → list_any (is_procedure home i) l.procedures ≡ false
is_new l home i e = sym (any-position (is_procedure home i) l.procedures) ∙ ap is_some e

pub found-provides : (l : Linked) (home : ℕ) (i : Indicator ℕ) (table : List (Key × List Bool)) (p : ℕ) (known : List (Key × ℕ)) → AreKnown l known → number_of l home i ≡ Some p → Provides home i table p l l known
found-provides l home i table p known k e =
    let found : list_any (same_numbers (home, i)) (map defined l.procedures) ≡ true = any-defined home i l.procedures ∙ sym (any-position (is_procedure home i) l.procedures) ∙ ap is_some e in
    let there = found-is l home i p e in
    let same = its home i (procedure_at l p) there.1 in
    record {
      keeps = record { names = refl; modules = refl; rows = refl };
      within = there.0;
      home_is = same.0;
      indicator = same.1;
      known = k;
      procedures = sym (ap (λ b. cond b (map defined l.procedures) (map defined l.procedures ++ (home, i) ∷ [])) found);
      enters = λ all done d h. h;
    }

key_is : (a b : Key) → same_key a b ≡ is_procedure a.home (ind_of a) (record { home = b.home; indicator = ind_of b; modes = None })
key_is a b = refl

pub new-provides : (l : Linked) (linked : IsLinked l) (k : Key) (modes : Option (List Bool)) (table : List (Key × List Bool)) (p : ℕ) (m : Linked) (known known' : List (Key × ℕ))
    → AreKnown l known → number_of l k.home (ind_of k) ≡ None → modes ≡ lookup (same_key k) table → m ≡ with_procedure l (record { home = k.home; indicator = ind_of k; modes = modes }) → p ≡ length l.procedures
    → ((j : Key) → lookup (same_key j) known' ≡ cond (same_key k j) (Some p) (lookup (same_key j) known)) → Provides k.home (ind_of k) table p l m known'
new-provides l linked k modes table p m known known' old new is grown number put =
    let q : Procedure = record { home = k.home; indicator = ind_of k; modes = modes } in
    subst (λ (w : Linked). Provides k.home (ind_of k) table p l w known') (sym grown)
    (subst (λ n. Provides k.home (ind_of k) table n l (with_procedure l q) known') (sym number) (record {
      keeps = record { names = refl; modules = refl; rows = refl };
      within = omega (arith, length-append l.procedures (q ∷ []));
      home_is = ap (λ (r : Procedure). r.home) (sym (get_or-last l.procedures q no_procedure));
      indicator = ap (λ (r : Procedure). r.indicator) (sym (get_or-last l.procedures q no_procedure));
      known = λ j. put j ∙ ap (λ n. cond (same_key k j) (Some n) (lookup (same_key j) known)) number ∙ ap (cond (same_key k j) (Some (length l.procedures))) (old j)
          ∙ ap (λ b. cond b (Some (length l.procedures)) (number_of l j.home (ind_of j))) (flip k j)
          ∙ sym (number-new l linked q new j.home (ind_of j));
      procedures = map-append defined l.procedures (q ∷ [])
          ∙ sym (ap (λ b. cond b (map defined l.procedures) (map defined l.procedures ++ (k.home, ind_of k) ∷ [])) (any-defined k.home (ind_of k) l.procedures ∙ is_new l k.home (ind_of k) new));
      enters = λ all done d h. enters-new l linked q new all done (is ∙ d k) h;
    }))
  where
    flip_eq : (a b : ℕ) → eqb a b ≡ eqb b a
    flip_eq a b = go (eqb a b) refl (eqb b a) refl
      where
        go : (x : Bool) → eqb a b ≡ x → (y : Bool) → eqb b a ≡ y → x ≡ y
        go true e true f = refl
        go false e false f = refl
        go true e false f = absurd (let h : eqb b a ≡ true = eq-eqb b a (sym (eqb-true a b e)) in cc)
        go false e true f = absurd (let h : eqb a b ≡ true = eq-eqb a b (sym (eqb-true b a f)) in cc)

    flip : (a b : Key) → same_key a b ≡ same_key b a
    flip a b =
        ap (λ x. x && (eqb a.name b.name && eqb a.arity b.arity)) (flip_eq a.home b.home)
        ∙ ap (λ x. eqb b.home a.home && (x && eqb a.arity b.arity)) (flip_eq a.name b.name)
        ∙ ap (λ x. eqb b.home a.home && (eqb b.name a.name && x)) (flip_eq a.arity b.arity)

-- ---- entries

pub takes-none : (table : List (Key × List Bool)) (l : Linked) (known : List (Key × ℕ)) → AreKnown l known → Takes [] table l l known
takes-none table l known k = record {
  keeps = record { names = refl; modules = refl; rows = refl };
  known = k;
  procedures = refl;
  enters = λ all done d h. subst (λ xs. Enters all xs l) (sym (append-nil done)) h;
}

pub takes-more : (xs ys : List (Said ℕ)) (table : List (Key × List Bool)) (l m k : Linked) (known known' : List (Key × ℕ)) → Takes xs table l m known → Takes ys table m k known' → Takes (xs ++ ys) table l k known'
takes-more xs ys table l m k known known' p q = record {
  keeps = record { names = q.keeps.names ∙ p.keeps.names; modules = q.keeps.modules ∙ p.keeps.modules; rows = q.keeps.rows ∙ p.keeps.rows };
  known = q.known;
  procedures =
      q.procedures ∙ ap (λ ds. fold (with_one same_numbers) ds (filter_map defined_said ys)) p.procedures
      ∙ sym (fold-append (with_one same_numbers) (map defined l.procedures) (filter_map defined_said xs) (filter_map defined_said ys))
      ∙ ap (fold (with_one same_numbers) (map defined l.procedures)) (sym (filter_map-append defined_said xs ys));
  enters = λ all done d h. subst (λ zs. Enters all zs k) (append_assoc done xs ys) (q.enters all (done ++ xs) d (p.enters all done d h));
}
