-- The bytes that the built-in predicates write.
use Rattle.std.specs.Prelude.{ℕ, List, [], ◌∷◌, if◌then◌else◌}
use Rattle.pl_terms.specs.Trees.{Tree, atom, renamed}
use Rattle.pl_ops.specs.Tables.{operator}
use Rattle.pl_ops.specs.Standard.{standard}
use Rattle.text_model.specs.declared.Quote.{Quote}
use Rattle.text_model.specs.Writing.{written}
use Rattle.builtin_model.specs.declared.row.Row.{Row}
use Rattle.builtin_model.specs.declared.row.Row.TheVariants as R
use Rattle.builtin_model.specs.Naming.{Naming}
use Rattle.builtin_model.specs.Deeds.{is_character}

module _ {N : Type 0} (n : Naming N) where
  -- a term under the operators that every text begins with
  abbrev pub written_text : Quote → Tree N → List ℕ
  written_text q t = written (operator standard) q 1200 (renamed n.text t)

  abbrev pub put_text : Tree N → List ℕ
  put_text (atom a) = if is_character (n.text a) then n.text a else []
  put_text _ = []

  -- what a row writes
  abbrev pub output : Row → List (Tree N) → List ℕ
  output R.NewLine [] = 10 ∷ []
  output R.PutChar (t ∷ []) = put_text t
  output (R.Write q) (t ∷ []) = written_text q t
  output _ _ = []
