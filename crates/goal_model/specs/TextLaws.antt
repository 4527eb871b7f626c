-- Conversion of terms whose names are numbers, and of terms whose names are texts.
use Rattle.std.specs.Prelude.{◌≡◌, codes, option_map}
use Rattle.pl_terms.specs.Trees.{Tree, renamed}
use Rattle.unit_model.specs.Directives.{converted as converted_text}
use Rattle.builtin_model.specs.Naming.{Naming}
use Rattle.goal_model.specs.Bodies.{converted}

-- where the text of the name of `call` is this one, texts and numbers convert alike
abbrev pub ConvertsAlike : {N : Type 0} → Naming N → Type 0
ConvertsAlike {N} n = n.text (n.name (codes "call")) ≡ codes "call" → (t : Tree N) → option_map (renamed n.text) (converted n t) ≡ converted_text (renamed n.text t)
