use Rattle.std.proofs.Common.{◌∙◌, ℕ, refl, arith, length}
use Rattle.pl_terms.specs.Trees.{Tree}
use Rattle.pl_terms.specs.Occurrence.{variables}
use Rattle.pl_machine.proofs.MadeLaws.{named_below}
use Rattle.pl_machine.proofs.machine.Machine.new.Goals as goal

pub returns : goal.returns
returns c =
    let goal : Tree ℕ = c.args.goal.now.term in
    record {
      machine = record {
        compiled = c.in_ok-compiled.ensures.compiled;
        table = c.in_ok-table.ensures;
        well = c.in_ok-path.ensures.well;
        room = omega (arith, c.in_ok-path.ensures.low, c.ranges.budget.fits);
        counted = omega arith;
        answers = omega arith;
        variables =
            named_below c.args.goal.now.names c.in_ok-variables.variables.items (length (variables goal)) c.in_ok-path.path.width (c.in_ok-variables.ensures ∙ c.as_slice.ensures) c.in_ok-path.ensures.width c.requires.names;
      };
      tables = c.in_ok-compiled.ensures.tables;
      names = c.in_ok-compiled.ensures.names;
      written = c.in_ok-compiled.ensures.written;
      variables = c.in_ok-variables.ensures ∙ c.as_slice.ensures;
      budget = refl;
      left = refl;
      answers = refl;
      over = refl;
      remains = c.in_ok-path.ensures.begins c.args.budget;
      whole = c.in_ok-path.ensures.begins;
    }
