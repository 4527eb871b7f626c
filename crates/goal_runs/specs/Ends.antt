-- How runs end, over texts.
use Rattle.std.specs.Prelude.{ℕ, List, ◌++◌, codes}
use Rattle.pl_terms.specs.Trees.{Tree}
use Rattle.pl_ops.specs.Tables.{Operators}
use Rattle.text_model.specs.Writing.{written, int_text}
use Rattle.text_model.specs.declared.Quote.TheVariants.{Quoted as quotes}
use Rattle.solver_model.specs.Search.{End, Failed, CutTo, Thrown, Halted, Spent}
use Rattle.prep_report.specs.declared.end.End2.{End2}
use Rattle.prep_report.specs.declared.end.End2.TheVariants as E

-- the line of an end; what is cut to at the top is exhausted
abbrev pub end_shown : Operators → End (Tree (List ℕ)) → List ℕ
end_shown look Failed = codes "no more\n"
end_shown look (CutTo c) = codes "no more\n"
end_shown look (Thrown ball active) = codes "uncaught: " ++ written look quotes 1200 ball ++ codes "\n"
end_shown look (Halted n) = codes "halted " ++ int_text n ++ codes "\n"
end_shown look Spent = codes "budget spent\n"

-- an end: with an answer to all that was asked or halted, with a ball that nothing caught, or for want of steps
pub data Manner : Type 0 where
  in_full : Manner
  thrown : Manner
  spent : Manner

abbrev pub manner_of : {T : Type 0} → End T → Manner
manner_of Failed = in_full
manner_of (CutTo c) = in_full
manner_of (Thrown ball active) = thrown
manner_of (Halted n) = in_full
manner_of Spent = spent

-- the same of a machine's end
abbrev pub manner : End2 → Manner
manner E.Exhausted = in_full
manner E.Spent = spent
manner (E.Uncaught t) = thrown
manner (E.Halted n) = in_full
