-- Runs of tokens in memory, read as runs of a text.
use Rattle.std.proofs.Common.{◌≡◌, List, sym, subst}
use Rattle.std.specs.Prelude.{[]}
use Rattle.pl_terms.specs.Trees.{Tree}
use Rattle.pl_ops.specs.Tables.{Operators, operator}
use Rattle.pl_ops.specs.Standard.{standard}
use Rattle.text_model.specs.Reading.{numbered}
use Rattle.pl_tokens.specs.declared.token.Token.{Token}
use Rattle.pl_tokens.specs.Views.{tokens_view}
use Rattle.pl_reader.specs.Runs.{IsRead, last_of, body_of}
use Rattle.pl_reader.specs.Reads.{ReadsRun as ReadsCode}
use Rattle.pl_reader.proofs.RunFacts.{has_end}
use Rattle.unit_model.specs.Directives.{Text}
use Rattle.unit_model.specs.Prepared.{ReadsRun}
use Rattle.reading_laws.proofs.RunTokens.{split_run, to_code}
use Rattle.goal_runs.specs.Goals.{VariableNames, ReadsAs}

module _ (ts : List Token) (is : IsRead ts) (table : Operators) (same : table ≡ operator standard) where
  pub reads_as : (t : Tree Text) (names : VariableNames) → ReadsCode table ts t → names ≡ (numbered [] 0 (body_of ts)).names → ReadsAs (tokens_view ts) t names
  reads_as t names reads named =
      let e = has_end ts is in
      let under : ReadsCode (operator standard) ts t = subst (λ look. ReadsCode look ts t) same reads in
      record {
        reads = record { before = body_of ts; end_byte = (last_of ts).byte; direct = (last_of ts).direct; split = split_run ts e.some e.ends; reads = under };
        named = named;
      }

  pub reads_none : ((t : Tree Text) → ReadsCode table ts t → ⊥) → (t : Tree Text) → ReadsRun (operator standard) (tokens_view ts) t → ⊥
  reads_none none t r = none t (subst (λ look. ReadsCode look ts t) (sym same) (to_code (operator standard) ts t is r))
