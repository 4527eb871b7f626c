use Rattle.plmod.proofs.PrepareLaws.{read_first}
use Rattle.plmod.proofs.prepare.prepare_text.Goals as goal

pub returns-in-Ok : goal.returns-in-Ok
returns-in-Ok g c = record {
  meets = read_first c.args.unit.now c.args.text.now c.in-Ok.bytes c.args.known.now c.prepare_known.result _ (g.S.Shelf.fetch_faults c.fetch.new.self)
      c.fetch.ensures.counts (c.in-Ok.ensures.found, c.in-Ok.ensures.limit)
      (rw (c.as_slice.ensures, c.fetch.ensures.files, c.fetch.ensures.puts) at c.prepare_known.ensures);
}
