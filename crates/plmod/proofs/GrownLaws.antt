-- What the command `grow`, which reads and puts nothing, promises as a whole.
use Rattle.std.proofs.Common.{◌≡◌, ◌≢◌, ℕ, inr, Some, ap}
use Rattle.plm_io.specs.Causes.{Rose}
use Rattle.plmod.specs.declared.status.Status.{Status}
use Rattle.plmod.specs.declared.status.Status.TheVariants.{Usage, ReadFault, WriteFault}
use Rattle.plmod.specs.Words.{Grow}
use Rattle.plmod.specs.Outcome.{Outcome}
use Rattle.plmod.specs.Runs.{GrowGives}
use Rattle.plmod.specs.Meets.{Told, Gives, Around, Meets}
use Rattle.plmod.proofs.FetchedLaws.{no_out}

pub grown_meets : (count budget : ℕ) (status : Status) (a : Around) → ((o : Outcome) → GrowGives count budget o → Gives status o a.written a.written_after)
    → (status ≡ WriteFault → Rose a.faults a.faults_after) → status ≢ ReadFault → status ≢ Usage → a.file_after ≡ a.file → Meets (Some (Grow count budget)) status a
grown_meets count budget status a gives write read used same = record {
  output = λ tells o h. gives o h;
  stored = λ whole tells o h. no_out o.stored a.file a.file_after same;
  readable = λ whole tells. tt;
  no_command = λ h. absurd (cc);
  usage = λ h. absurd (used h);
  read_fault = λ h. absurd (read h);
  write_fault = λ h. inr (write h, λ tells o k. no_out o.stored a.file a.file_after same);
  others = λ name h. ap (λ (f : Told). f name) same;
  unread = λ h. absurd (read h);
}
