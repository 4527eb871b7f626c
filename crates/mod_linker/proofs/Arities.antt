-- Modes are of the arity of what they are declared for, and what entries over a table give.
use Rattle.std.proofs.Common.{◌≡◌, ℕ, List, [], ◌∷◌, length, Bool, true, false, ◌&&◌, cond, nat_eq, eqb, eqb-true, refl, sym, ap, ◌∙◌, Option, Some, None}
use Rattle.std.specs.List.{AllByRecursion}
use Rattle.std.specs.Option.{option_or}
use Rattle.std.proofs.lemmas.Bool.{and_parts}
use Rattle.std.proofs.lemmas.Option.{same_Some}
use Rattle.unit_model.specs.Facts.{Indicator, What, exports, reexports_all, reexports, has_modes, declares, imports_all, imports, clause}
use Rattle.unit_model.specs.Directives.{Text}
use Rattle.program_model.specs.Saying.{Said, modes_in, modes_said}
use Rattle.mod_linker.specs.declared.items.Item.{Item}
use Rattle.mod_linker.specs.declared.key.Key.{Key}
use Rattle.mod_linker.specs.Entering.{HaveArity}
use Rattle.mod_linker.specs.Holding.{SaidBelow}
use Rattle.mod_linker.specs.Items.{items_view, AreItems}
use Rattle.mod_linker.specs.Keys.{ind_of, AreDeclared}
use Rattle.mod_linker.specs.Usable.{IsUsable}

mode-arity : (d : ℕ) (i : Indicator ℕ) (m : ℕ) (w : What ℕ) (ms : List Bool) → modes_in nat_eq d i m w ≡ Some ms → length ms ≡ i.arity
mode-arity d i m (exports j) ms e = absurd cc
mode-arity d i m (reexports_all n) ms e = absurd cc
mode-arity d i m (reexports n j) ms e = absurd cc
mode-arity d i m (has_modes s ns) ms e = go (eqb d m && (eqb i.name s && eqb i.arity (length ns))) refl e
  where
    go : (b : Bool) → (eqb d m && (eqb i.name s && eqb i.arity (length ns))) ≡ b → cond b (Some ns) None ≡ Some ms → length ms ≡ i.arity
    go true t f =
        let p = and_parts (eqb d m) (eqb i.name s && eqb i.arity (length ns)) t in
        let q = and_parts (eqb i.name s) (eqb i.arity (length ns)) p.1 in
        ap length (sym (same_Some ns ms f)) ∙ sym (eqb-true i.arity (length ns) q.1)
    go false t f = absurd cc
mode-arity d i m (declares o) ms e = absurd cc
mode-arity d i m (imports_all n) ms e = absurd cc
mode-arity d i m (imports n j) ms e = absurd cc
mode-arity d i m (clause n h b) ms e = absurd cc

modes-arity : (d : ℕ) (i : Indicator ℕ) (xs : List (Said ℕ)) (ms : List Bool) → modes_said nat_eq xs d i ≡ Some ms → length ms ≡ i.arity
modes-arity d i [] ms e = absurd cc
modes-arity d i (x ∷ xs) ms e = go (modes_said nat_eq xs d i) refl e (λ ns f. modes-arity d i xs ns f)
  where
    go : (o : Option (List Bool)) → modes_said nat_eq xs d i ≡ o → option_or o (modes_in nat_eq d i x.of x.what) ≡ Some ms → ((ns : List Bool) → modes_said nat_eq xs d i ≡ Some ns → length ns ≡ i.arity) → length ms ≡ i.arity
    go None f e ih = mode-arity d i x.of x.what ms e
    go (Some ns) f e ih = ih ms (f ∙ e)

pub have-arity : (xs : List (Said ℕ)) (table : List (Key × List Bool)) → AreDeclared xs table → HaveArity table
have-arity xs table h = λ k ms e. modes-arity k.home (ind_of k) xs ms (sym (h k) ∙ e)

-- ---- entries over a table

pub usable-items : (names : List Text) (items : List Item) → AreItems names items → AllByRecursion IsUsable items
usable-items names [] h = tt
usable-items names (x ∷ items) h = (record { uses = h.0.uses; modes = h.0.modes }, usable-items names items h.1)

pub items-below : (names : List Text) (items : List Item) → AreItems names items → AllByRecursion (SaidBelow (length names)) (items_view items)
items-below names [] h = tt
items-below names (x ∷ items) h = ((h.0.home, h.0.below), items-below names items h.1)
