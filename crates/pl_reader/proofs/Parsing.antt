-- Taking the items one after another.
use Rattle.std.proofs.Common.{◌≡◌, ℕ, ◌<◌, ◌≤◌, List, [], ◌∷◌, length, Bool, true, false, Option, Some, None, refl, ap, ◌∙◌, subst, arith, length-append}
use Rattle.text_model.specs.Grammar.{Parse, Item, max_priority}
use Rattle.pl_reader.specs.Machine.{run, Frame, Context as Opened, within, close_all}
use Rattle.pl_reader.specs.Standing.{contexts_of, context_of, StandsAfter, EndsWhole, Steps, Finishes}
use Rattle.pl_terms.specs.declared.cell.Cell.{Cell}
use Rattle.pl_reader.specs.declared.machine.Entry.{Entry}
use Rattle.pl_reader.specs.declared.machine.Context.{Context}
use Rattle.pl_reader.specs.declared.machine.LastTerm.{LastTerm}
use Rattle.pl_reader.specs.declared.machine.Stepped.{Stepped}
use Rattle.pl_reader.specs.declared.machine.Stepped.TheVariants.{Fails, ToOperand, ToOperator}

module _ (num : List ℕ → ℕ) where
  -- what an item does, where another function of the items after it is the same
  pub steps_as : (F G : List Item → Option Parse) (r : Stepped) (stack : List Entry) (contexts : List Context) (out : List Cell) → ((is : List Item) → F is ≡ G is) → Steps num G r stack contexts out → Steps num F r stack contexts out
  steps_as F G Fails stack contexts out e s = λ is. e is ∙ s is
  steps_as F G ToOperand stack contexts out e s = (s.0, λ is. e is ∙ s.1 is, s.2)
  steps_as F G (ToOperator top) stack contexts out e s = (s.0, λ is. e is ∙ s.1 is, s.2, s.3)

  pub still_open : (F : List Item → Option Parse) (top : LastTerm) (stack : List Entry) (contexts : List Context) (out : List Cell) → 0 < length contexts → Steps num F (ToOperator top) stack contexts out → F [] ≡ None
  still_open F top stack contexts out h r = r.1 [] ∙ go r.0.0 r.2
    where
      go : (cs : List Opened) → contexts ≡ contexts_of num cs → run cs r.0.1 (Some r.0.2) [] ≡ None
      go [] e = absurd (omega (arith, ap length e))
      go (c ∷ cs) e = refl

  no_contexts : (cs : List Opened) (contexts : List Context) → contexts ≡ contexts_of num cs → length contexts ≤ 0 → cs ≡ []
  no_contexts [] contexts e h = refl
  no_contexts (c ∷ cs) contexts e h = absurd (omega (arith, ap length e, length-append (contexts_of num cs) (context_of num c.0 ∷ [])))

  pub whole : (r : Bool) (F : List Item → Option Parse) (top : LastTerm) (stack stack2 : List Entry) (contexts : List Context) (out out2 : List Cell) → length contexts ≤ 0 → Steps num F (ToOperator top) stack contexts out → ((cs : List Opened) (fs : List Frame) (e : Parse) → StandsAfter num cs fs e stack out top → EndsWhole num max_priority cs fs e r stack2 out2) → Finishes num F r out2
  whole r F top stack stack2 contexts out out2 h g ended =
      let none = no_contexts g.0.0 contexts g.2 h in
      let P : List Opened → Type 0 = λ cs. F [] ≡ run cs g.0.1 (Some g.0.2) [] in
      let Q : List Opened → Type 0 = λ cs. StandsAfter num cs g.0.1 g.0.2 stack out top in
      go r (subst P none (g.1 [])) (ended [] g.0.1 g.0.2 (subst Q none g.3))
    where
      go : (r : Bool) → F [] ≡ within max_priority (close_all g.0.1 g.0.2) → EndsWhole num max_priority [] g.0.1 g.0.2 r stack2 out2 → Finishes num F r out2
      go false e w = e ∙ w
      go true e w = (w.0, e ∙ w.1, w.2.out_is)
