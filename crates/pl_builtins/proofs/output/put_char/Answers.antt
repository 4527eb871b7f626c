use Rattle.std.proofs.Common.{◌∙◌, sym}
use Rattle.pl_builtins.proofs.Deeds.{if_ok, put-name}
use Rattle.pl_builtins.proofs.output.put_char.Goals as goal

pub returns-in-Name-clause-done : goal.returns-in-Name-clause-done
returns-in-Name-clause-done c =
    if_ok _ _ _ (λ d h. put-name c.args.names.now c.args.store.now.state c.args.at c.in-Name.name c.text_of.result.now d c.requires.place (sym c.in-Name.is ∙ c.view.ensures) c.text_of.ensures h) c.put_name.ensures.done
