-- A text of codes as an operand.
use Rattle.std.proofs.Common.{◌≡◌, ℕ, suc, List, [], ◌∷◌, ◌++◌, length, Option, refl, sym, ap, ◌∙◌, append_assoc, pos}
use Rattle.std.specs.Prelude.{codes}
use Rattle.pl_terms.specs.Trees.{Tree, count}
use Rattle.pl_ops.specs.Tables.{Operators}
use Rattle.text_model.specs.Grammar.{Parse, leaf, Item, operand, list_to, empty_list}
use Rattle.text_model.specs.Reading.{code_list}
use Rattle.pl_terms.specs.declared.cell.Cell.{Cell}
use Rattle.pl_terms.specs.declared.cell.Cell.TheVariants.{Int, Name}
use Rattle.pl_reader.specs.CodeTexts.{code_cells}
use Rattle.pl_reader.specs.Stands.{id, behind, all_behind}
use Rattle.pl_reader.specs.Standing.{AreNames, Steps, dots}
use Rattle.pl_reader.proofs.Contexts.{list-out}
use Rattle.pl_reader.specs.declared.machine.GrammarNames.{GrammarNames}
use Rattle.pl_reader.specs.declared.machine.Entry.{Entry}
use Rattle.pl_reader.specs.declared.machine.Context.{Context}
use Rattle.pl_reader.specs.declared.machine.LastTerm.{LastTerm}
use Rattle.pl_reader.specs.declared.machine.Stepped.TheVariants.{Fails, ToOperand, ToOperator}

module _ (num : List ℕ → ℕ) (look : Operators) where
  codes-behind : (cs : List ℕ) → all_behind num (code_list look cs) ≡ code_cells cs
  codes-behind [] = refl
  codes-behind (c ∷ cs) = ap (λ l. Int (pos c) ∷ l) (codes-behind cs)

  codes-count : (cs : List ℕ) → count (code_list look cs) ≡ length cs
  codes-count [] = refl
  codes-count (c ∷ cs) = ap suc (codes-count cs)

  pub code_list_out : (names : GrammarNames) (cs : List ℕ) (out coded ended whole : List Cell) (n : ℕ) → AreNames num names → coded ≡ out ++ code_cells cs → ended ≡ coded ++ Name names.nil ∷ [] → whole ≡ ended ++ dots names.dot n → n ≡ length cs → whole ≡ out ++ behind num (list_to (code_list look cs) empty_list)
  code_list_out names cs out coded ended whole n are c e w k =
      w ∙ ap (λ l. l ++ dots names.dot n) (e ∙ ap (λ l. l ++ Name names.nil ∷ []) c)
      ∙ regroup out (code_cells cs) (Name names.nil ∷ []) (dots names.dot n)
      ∙ ap (λ x. out ++ (code_cells cs ++ (Name x ∷ dots names.dot n))) are.nil_is
      ∙ ap (λ x. out ++ (code_cells cs ++ (Name (id num (codes "[]")) ∷ dots x n))) are.dot_is
      ∙ ap (λ x. out ++ (code_cells cs ++ (Name (id num (codes "[]")) ∷ dots (id num (codes ".")) x))) (k ∙ sym (codes-count cs))
      ∙ ap (λ l. out ++ (l ++ (Name (id num (codes "[]")) ∷ dots (id num (codes ".")) (count (code_list look cs))))) (sym (codes-behind cs))
      ∙ ap (λ l. out ++ l) (sym (list-out num (code_list look cs) empty_list))
    where
      regroup : (a b c d : List Cell) → ((a ++ b) ++ c) ++ d ≡ a ++ (b ++ (c ++ d))
      regroup a b c d = simp append_assoc

-- an operand, wherever it stands
module _ (num : List ℕ → ℕ) (t : Tree (List ℕ)) (F : List Item → Option Parse) (stack : List Entry) (contexts : List Context) (out : List Cell) where
  pub leaf_taken : (new : List Cell) → Steps num F ToOperand stack contexts out → new ≡ out ++ behind num t → Steps num (λ is. F (operand t ∷ is)) (ToOperator (record { priority = 0; weight = 0 })) stack contexts new
  leaf_taken new s e = (
    (s.0.0, s.0.1, leaf t),
    λ is. s.1 (operand t ∷ is),
    s.2.contexts_are,
    record {
      stack_is = s.2.before.stack_is;
      out_is = e ∙ ap (λ l. l ++ behind num t) s.2.before.out_is;
      priority_is = refl;
      weight_is = refl;
    },
  )

  pub leaf_late : (top : LastTerm) → Steps num F (ToOperator top) stack contexts out → Steps num (λ is. F (operand t ∷ is)) Fails stack contexts out
  leaf_late top s = λ is. s.1 (operand t ∷ is)

  pub leaf_lost : Steps num F Fails stack contexts out → Steps num (λ is. F (operand t ∷ is)) Fails stack contexts out
  leaf_lost s = λ is. s (operand t ∷ is)
