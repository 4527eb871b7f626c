-- What is written in two parts.
use Rattle.std.proofs.Common.{◌≢◌, ℕ, List, ◌++◌, Option, refl}
use Rattle.std.specs.Io.KnownBytes.{Appends}
use Rattle.plm_io.proofs.FrontLaws.{Appends-append, front_of_second}
use Rattle.plmod.specs.declared.status.Status.{Status}
use Rattle.plmod.specs.declared.status.Status.TheVariants.{Done, Usage, PrepFault, NotUnit, LinkFault, GoalFault, Uncaught, Spent, ReadFault, WriteFault, NoMemory}
use Rattle.plmod.specs.Meets.{Answers}

-- after the first part, what answers the second answers both
pub answers_after : (status want : Status) (first second : List ℕ) (old mid new : Option (List ℕ)) → status ≢ ReadFault
    → Appends old mid first → Answers status want second mid new → Answers status want (first ++ second) old new
answers_after Done want first second old mid new r p q = (q.0, Appends-append old mid new first second p q.1)
answers_after Usage want first second old mid new r p q = (q.0, Appends-append old mid new first second p q.1)
answers_after PrepFault want first second old mid new r p q = (q.0, Appends-append old mid new first second p q.1)
answers_after NotUnit want first second old mid new r p q = (q.0, Appends-append old mid new first second p q.1)
answers_after LinkFault want first second old mid new r p q = (q.0, Appends-append old mid new first second p q.1)
answers_after GoalFault want first second old mid new r p q = (q.0, Appends-append old mid new first second p q.1)
answers_after Uncaught want first second old mid new r p q = (q.0, Appends-append old mid new first second p q.1)
answers_after Spent want first second old mid new r p q = (q.0, Appends-append old mid new first second p q.1)
answers_after WriteFault want first second old mid new r p q = front_of_second old mid new first second p q
answers_after NoMemory want first second old mid new r p q = front_of_second old mid new first second p q
answers_after ReadFault want first second old mid new r p q = absurd (r refl)
