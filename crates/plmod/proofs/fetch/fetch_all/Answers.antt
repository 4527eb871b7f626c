use Rattle.std.proofs.Common.{◌∙◌, arith, subst}
use Rattle.plmod.specs.Meets.{Told}
use Rattle.plmod.specs.Fetched.{IsUnder}
use Rattle.plmod.proofs.FetchedLaws.{under_more}
use Rattle.plmod.proofs.fetch.fetch_all.Goals as goal

pub loop-name-preserved : goal.loop-name-preserved
loop-name-preserved g c =
    let P : Told → Type 0 = λ f. IsUnder f c.name-item.result c.in_ok-bytes.bytes in
    record {
      under = rw c.in_ok-push.ensures.ok
          (under_more _ _ _ _ c.name-item.result c.in_ok-bytes.bytes c.loop-name-test.true c.name-item.is c.loop-name.invariant.under
          (subst P c.loop-name.invariant.files (c.in_ok-bytes.ensures.found, c.in_ok-bytes.ensures.limit)));
      counts = λ n. (let before = c.loop-name.invariant.counts n in let now = c.fetch.ensures.counts n in omega (arith, before, now));
      files = c.fetch.ensures.files ∙ c.loop-name.invariant.files;
      puts = c.fetch.ensures.puts ∙ c.loop-name.invariant.puts;
    }
