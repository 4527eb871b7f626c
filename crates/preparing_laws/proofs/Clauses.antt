-- A clause of a sound term is one of a unit.
use Rattle.std.proofs.Common.{◌≡◌, ℕ, suc, List, [], ◌∷◌, ◌++◌, length, codes, Bool, true, false, not, ◌&&◌, ◌||◌, if◌then◌else◌, Option, Some, None, Result, Ok, Err, refl, sym, ap, ◌∙◌, arith, append-nil, ne_eqb}
use Rattle.std.specs.List.{list_any}
use Rattle.std.proofs.lemmas.Bool.{and_from}
use Rattle.pl_terms.specs.Trees.{Tree, var, int, atom, comp, Trees, nil, cons, count}
use Rattle.pl_terms.specs.Occurrence.{occurrences, first_after, variables, from_to}
use Rattle.pl_ops.specs.Tables.{same_text}
use Rattle.unit_model.specs.Facts.{Indicator, What, clause}
use Rattle.unit_model.specs.Directives.{Text, is_control, control, converted, Parts, rule, parts_of, head_indicator, is_grammar_rule}
use Rattle.unit_model.specs.Builtins.{is_builtin}
use Rattle.unit_model.specs.Preparing.{clause_in}
use Rattle.unit_model.specs.Validity as units
use Rattle.unit_model.specs.Validity.{IsName, FitsWhat, is_head, is_converted, are_converted, is_clause, is_for_interface, names_known}
use Rattle.unit_model.specs.Entries.{IsSoundTerm}
use Rattle.preparing_laws.proofs.Forms.{Fits}
use Rattle.preparing_laws.proofs.Tests.{same_text-from}

-- ---- bodies

-- what converting a body leaves
pub record IsBody (t b : Tree Text) : Type 0 where
  pub fits : Fits b
  pub converted : is_converted b ≡ true
  pub occurrences : occurrences b ≡ occurrences t

abbrev IsBodyOf : Tree Text → Option (Tree Text) → Type 0
IsBodyOf t None = Unit {0}
IsBodyOf t (Some b) = IsBody t b

call-name : IsName (codes "call")
unfolding lib.Utf8.encode
call-name = ((codes "call", (refl, refl)), omega arith)

no_control : (s : Text) → is_control s ≡ false → units.is_control s 2 ≡ false
no_control s h = go (same_text s (codes ",")) (same_text s (codes ";")) (same_text s (codes "->")) h
  where
    go : (a b c : Bool) → (a || (b || c)) ≡ false → (a || (b || (c || false))) ≡ false
    go true b c k = k
    go false true c k = k
    go false false true k = k
    go false false false k = refl

-- a goal that is no control construct stands as it is
as_it_is : (s : Text) (ts : Trees Text) → units.is_control s (count ts) ≡ false → Fits (comp s ts) → IsBody (comp s ts) (comp s ts)
as_it_is s ts e h = record { fits = h; converted = ap (λ b. not b || are_converted ts) e; occurrences = refl }

too_many : (s : Text) (n : ℕ) → units.is_control s (suc (suc (suc n))) ≡ false
too_many s n = ap (λ b. b && list_any (same_text s) (codes "," ∷ codes ";" ∷ codes "->" ∷ [])) (ne_eqb (suc (suc (suc n))) 2 (λ e. omega (arith, e)))

control-body : (s : Text) (l r : Tree Text) (o q : Option (Tree Text)) → Fits (comp s (cons l (cons r nil))) → IsBodyOf l o → IsBodyOf r q → IsBodyOf (comp s (cons l (cons r nil))) (control s o q)
control-body s l r None q h i j = tt
control-body s l r (Some a) None h i j = tt
control-body s l r (Some a) (Some b) h i j = record {
  fits = (h.0, h.1, h.2, (i.fits, (j.fits, tt)));
  converted = go (units.is_control s 2);
  occurrences = ap (λ x. x ++ (occurrences b ++ [])) i.occurrences ∙ ap (λ x. occurrences l ++ (x ++ [])) j.occurrences;
}
  where
    go : (c : Bool) → (not c || (is_converted a && (is_converted b && true))) ≡ true
    go true = and_from (is_converted a) (is_converted b && true) i.converted (and_from (is_converted b) true j.converted refl)
    go false = refl

body-of : (t : Tree Text) → Fits t → IsBodyOf t (converted t)
body-of (var n) h = record { fits = (call-name, omega arith, omega arith, (h, tt)); converted = refl; occurrences = refl }
body-of (int z) h = tt
body-of (atom s) h = record { fits = h; converted = refl; occurrences = refl }
body-of (comp s nil) h = as_it_is s nil refl h
body-of (comp s (cons l nil)) h = as_it_is s (cons l nil) refl h
body-of (comp s (cons l (cons r nil))) h = pick (is_control s) refl (control-body s l r (converted l) (converted r) h (body-of l h.3.0) (body-of r h.3.1.0))
  where
    pick : (c : Bool) → is_control s ≡ c → IsBodyOf (comp s (cons l (cons r nil))) (control s (converted l) (converted r))
        → IsBodyOf (comp s (cons l (cons r nil))) (if c then control s (converted l) (converted r) else Some (comp s (cons l (cons r nil))))
    pick true e k = k
    pick false e k = as_it_is s (cons l (cons r nil)) (no_control s e) h
body-of (comp s (cons l (cons r (cons t ts)))) h = as_it_is s (cons l (cons r (cons t ts))) (too_many s (count ts)) h

-- ---- the parts of a clause

record ArePartsOf (t : Tree Text) (p : Parts) : Type 0 where
  pub head : Fits p.head
  pub body : Fits p.body
  pub occurrences : occurrences p.head ++ occurrences p.body ≡ occurrences t

true-name : IsName (codes "true")
unfolding lib.Utf8.encode
true-name = ((codes "true", (refl, refl)), omega arith)

alone : (t : Tree Text) → Fits t → ArePartsOf t (record { head = t; body = atom (codes "true") })
alone t h = record { head = h; body = true-name; occurrences = append-nil (occurrences t) }

rule-parts : (s : Text) (l r : Tree Text) → Fits (comp s (cons l (cons r nil))) → ArePartsOf (comp s (cons l (cons r nil))) (rule s l r)
rule-parts s l r h = go (same_text s (codes ":-"))
  where
    go : (c : Bool) → ArePartsOf (comp s (cons l (cons r nil))) (if c then record { head = l; body = r } else record { head = comp s (cons l (cons r nil)); body = atom (codes "true") })
    go true = record { head = h.3.0; body = h.3.1.0; occurrences = ap (λ x. occurrences l ++ x) (sym (append-nil (occurrences r))) }
    go false = alone (comp s (cons l (cons r nil))) h

parts : (t : Tree Text) → Fits t → ArePartsOf t (parts_of t)
parts (var n) h = alone (var n) h
parts (int z) h = alone (int z) h
parts (atom s) h = alone (atom s) h
parts (comp s nil) h = alone (comp s nil) h
parts (comp s (cons l nil)) h = alone (comp s (cons l nil)) h
parts (comp s (cons l (cons r nil))) h = rule-parts s l r h
parts (comp s (cons l (cons r (cons t ts)))) h = alone (comp s (cons l (cons r (cons t ts)))) h

-- ---- clauses

-- a clause of a unit, outside interfaces
pub record IsSoundClause (w : What Text) : Type 0 where
  pub fits : FitsWhat IsName w
  pub place : is_for_interface w ≡ false
  pub clause : is_clause w ≡ true
  pub named : (ms : List Text) → names_known ms w ≡ true

abbrev pub IsClauseIn : Result (What Text) ℕ → Type 0
IsClauseIn (Err n) = Unit {0}
IsClauseIn (Ok w) = IsSoundClause w

has_head : (t : Tree Text) (i : Indicator Text) → head_indicator t ≡ Some i → is_head t ≡ true
has_head (var n) i e = absurd (cc)
has_head (int z) i e = absurd (cc)
has_head (atom s) i e = refl
has_head (comp s ts) i e = refl

module _ (t : Tree Text) (sound : IsSoundTerm t) where
  given : (p : Parts) → ArePartsOf t p → is_head p.head ≡ true → (b : Tree Text) → IsBody p.body b → IsSoundClause (clause (length (variables t)) p.head b)
  given p ps h b ok = record {
    fits = (sound.few, ps.head, ok.fits);
    place = refl;
    clause = and_from (is_head p.head) (is_converted b && same_text (first_after [] (occurrences p.head ++ occurrences b)) (from_to 0 (length (variables t)))) h
        (and_from (is_converted b) (same_text (first_after [] (occurrences p.head ++ occurrences b)) (from_to 0 (length (variables t)))) ok.converted
        (same_text-from (first_after [] (occurrences p.head ++ occurrences b)) (from_to 0 (length (variables t)))
        (ap (λ os. first_after [] (occurrences p.head ++ os)) ok.occurrences ∙ ap (first_after []) ps.occurrences ∙ sound.numbered)));
    named = λ ms. refl;
  }

  pub clause-sound : IsClauseIn (clause_in t)
  clause-sound = with_head (head_indicator (parts_of t).head) refl
    where
      last : (b : Tree Text) (c : Bool) → is_head (parts_of t).head ≡ true → IsBody (parts_of t).body b → IsClauseIn (if c then Err 14 else Ok (clause (length (variables t)) (parts_of t).head b))
      last b true h k = tt
      last b false h k = given (parts_of t) (parts t sound.fits) h b k

      with_body : (i : Indicator Text) (o : Option (Tree Text)) → is_head (parts_of t).head ≡ true → IsBodyOf (parts_of t).body o
          → IsClauseIn (elim o [ None ↦ Err 13 | Some b ↦ if is_grammar_rule t || is_builtin i.name i.arity then Err 14 else Ok (clause (length (variables t)) (parts_of t).head b) ])
      with_body i None h k = tt
      with_body i (Some b) h k = last b (is_grammar_rule t || is_builtin i.name i.arity) h k

      with_head : (o : Option (Indicator Text)) → head_indicator (parts_of t).head ≡ o → IsClauseIn (elim o [
        | None ↦ Err 13
        | Some i ↦ elim (converted (parts_of t).body) [
          | None ↦ Err 13
          | Some b ↦ if is_grammar_rule t || is_builtin i.name i.arity then Err 14 else Ok (clause (length (variables t)) (parts_of t).head b)
        ]
      ])
      with_head None e = tt
      with_head (Some i) e = with_body i (converted (parts_of t).body) (has_head (parts_of t).head i e) (body-of (parts_of t).body (parts t sound.fits).body)
