-- Files that were fetched, and what the commands over them promise.
use Rattle.std.proofs.Common.{arith, ◌≡◌, ◌≢◌, ℕ, ◌+◌, ◌<◌, List, [], ◌∷◌, ◌++◌, Option, Some, None, MatchOption, IfSome, take, length, map, get_or, unwrap_or, refl, sym, ap, ◌∙◌, subst, ◌⊎◌, inl, inr}
use Rattle.std.proofs.lemmas.List.{take_more}
use Rattle.std.specs.Io.KnownBytes.{Appends, Keeps}
use Rattle.plm_io.specs.Causes.{Rose, AppendsFront}
use Rattle.plm_io.proofs.FrontLaws.{front_of_nothing, Appends_nothing}
use Rattle.plm_io.specs.declared.traits.IoFault.{IoFault}
use Rattle.plm_io.specs.declared.traits.IoFault.TheVariants.{Failed, NoMemory as OutOfMemory}
use Rattle.plmod.specs.declared.status.Status.{Status}
use Rattle.plmod.specs.declared.status.Status.TheVariants.{Done, Usage, PrepFault, NotUnit, LinkFault, GoalFault, Uncaught, Spent, ReadFault, WriteFault, NoMemory}
use Rattle.plmod.specs.Words.{Order, read_names}
use Rattle.plmod.specs.Outcome.{Outcome, usage, usage_text}
use Rattle.plmod.specs.Meets.{Answers, IsUsage, Told, Tells, bytes_under, Gives, AreReadable, AnyRose, HasStored, Around, Meets}
use Rattle.plmod.specs.Fetched.{IsUnder, AreUnder}

under_push : (file : Told) (names contents : List (List ℕ)) (name bytes : List ℕ) → AreUnder file names contents → IsUnder file name bytes
    → AreUnder file (names ++ name ∷ []) (contents ++ bytes ∷ [])
under_push file [] [] name bytes h k = (k, tt)
under_push file [] (c ∷ contents) name bytes h k = absurd h
under_push file (n ∷ names) [] name bytes h k = absurd h
under_push file (n ∷ names) (c ∷ contents) name bytes h k = (h.0, under_push file names contents name bytes h.1 k)

-- one more file
pub under_more : (file : Told) (names contents : List (List ℕ)) (i : ℕ) (name bytes : List ℕ) → i < length names → name ≡ get_or names i name
    → AreUnder file (take i names) contents → IsUnder file name bytes → AreUnder file (take (i + 1) names) (contents ++ bytes ∷ [])
under_more file names contents i name bytes h at under one =
    let P : List (List ℕ) → Type 0 = λ l. AreUnder file l (contents ++ bytes ∷ []) in
    subst P (sym (take_more names i name h ∙ ap (λ x. take i names ++ x ∷ []) (sym at))) (under_push file (take i names) contents name bytes under one)

-- the shelf tells what is under the name
abbrev pub IsTold : Told → List ℕ → Type 0
IsTold file name = MatchOption (file name) ⊥ (λ _. Unit {0})

-- what a shelf that tells has under a name
told_one : (file : Told) (name bytes : List ℕ) → IsTold file name → IsUnder file name bytes → file name ≡ Some (Some bytes)
told_one file name bytes tells h = go (file name) tells h.0
  where
    go : (o : Option (Option (List ℕ))) → MatchOption o ⊥ (λ _. Unit {0}) → IfSome o (λ told. told ≡ Some bytes) → o ≡ Some (Some bytes)
    go None s k = absurd s
    go (Some told) s k = ap Some k

bytes_one : (file : Told) (name bytes : List ℕ) → IsTold file name → IsUnder file name bytes → bytes_under file name ≡ bytes
bytes_one file name bytes tells h = ap (λ (o : Option (Option (List ℕ))). unwrap_or (unwrap_or o None) []) (told_one file name bytes tells h)

pub bytes_all : (file : Told) (names contents : List (List ℕ)) → Tells names file → AreUnder file names contents → map (bytes_under file) names ≡ contents
bytes_all file [] [] tells h = refl
bytes_all file [] (c ∷ contents) tells h = absurd h
bytes_all file (n ∷ names) [] tells h = absurd h
bytes_all file (n ∷ names) (c ∷ contents) tells h =
    ap (λ b. b ∷ map (bytes_under file) names) (bytes_one file n c tells.0 h.0) ∙ ap (λ l. c ∷ l) (bytes_all file names contents tells.1 h.1)

pub readable_all : (file : Told) (names contents : List (List ℕ)) → Tells names file → AreUnder file names contents → AreReadable names file
readable_all file [] [] tells h = tt
readable_all file [] (c ∷ contents) tells h = absurd h
readable_all file (n ∷ names) [] tells h = absurd h
readable_all file (n ∷ names) (c ∷ contents) tells h = ((c, told_one file n c tells.0 h.0, h.0.1), readable_all file names contents tells.1 h.1)

pub same_length : (file : Told) (names contents : List (List ℕ)) → AreUnder file names contents → length names ≡ length contents
same_length file [] [] h = refl
same_length file [] (c ∷ contents) h = absurd h
same_length file (n ∷ names) [] h = absurd h
same_length file (n ∷ names) (c ∷ contents) h = (let e = same_length file names contents h.1 in omega (arith, e))

pub no_out : (stored : Option (List ℕ)) (old new : Told) → new ≡ old → HasStored None stored old new
no_out None old new h = h
no_out (Some bytes) old new h = h

pub keeps_same : (old new : Option (List ℕ)) → new ≡ old → Keeps old new
keeps_same None new h = tt
keeps_same (Some xs) new h = let P : Option (List ℕ) → Type 0 = λ n. Keeps (Some xs) n in subst P (sym h) refl

pub front_same : (old new : Option (List ℕ)) (bytes : List ℕ) → new ≡ old → AppendsFront old new bytes
front_same old new bytes h = let P : Option (List ℕ) → Type 0 = λ n. AppendsFront old n bytes in subst P (sym h) (front_of_nothing old bytes)

-- a read that failed, before anything was written or put
pub meets_unread : (order : Option Order) (fault : IoFault) (status : Status) (a : Around) → (fault ≡ Failed → status ≡ ReadFault) → (fault ≡ OutOfMemory → status ≡ NoMemory)
    → order ≢ None → (fault ≡ Failed → AnyRose (read_names order) a.fetches a.fetches_after) → a.file_after ≡ a.file → a.written_after ≡ a.written → Meets order status a
meets_unread order Failed status a failed memory some any same nothing =
    let P : Status → Type 0 = λ s. Meets order s a in
    subst P (sym (failed refl)) (record {
      output = λ tells o h. keeps_same a.written a.written_after nothing;
      stored = λ whole. absurd whole;
      readable = λ whole. absurd whole;
      no_command = λ h. absurd (some h);
      usage = λ h. (cc);
      read_fault = λ h. any refl;
      write_fault = λ h. (cc);
      others = λ name h. ap (λ (f : Told). f name) same;
      unread = λ h. (keeps_same a.written a.written_after nothing, same);
    })
meets_unread order OutOfMemory status a failed memory some any same nothing =
    let P : Status → Type 0 = λ s. Meets order s a in
    subst P (sym (memory refl)) (record {
      output = λ tells o h. front_same a.written a.written_after _ nothing;
      stored = λ whole. absurd whole;
      readable = λ whole. absurd whole;
      no_command = λ h. absurd (some h);
      usage = λ h. (cc);
      read_fault = λ h. (cc);
      write_fault = λ h. (cc);
      others = λ name h. ap (λ (f : Told). f name) same;
      unread = λ h. (cc);
    })

-- the line of words that are no command
pub meets_usage : (status : Status) (a : Around) → Answers status Usage usage_text a.written a.written_after → (status ≡ WriteFault → Rose a.faults a.faults_after)
    → status ≢ ReadFault → a.file_after ≡ a.file → Meets None status a
meets_usage status a gives write read same =
    record {
      output = λ tells o h. (let P : Outcome → Type 0 = λ p. Gives status p a.written a.written_after in subst P (sym h) gives);
      stored = λ whole tells o h. no_out o.stored a.file a.file_after same;
      readable = λ whole tells. tt;
      no_command = λ h. is_usage status gives read;
      usage = λ h. refl;
      read_fault = λ h. absurd (read h);
      write_fault = λ h. inr (write h, λ tells o k. no_out o.stored a.file a.file_after same);
      others = λ name h. ap (λ (f : Told). f name) same;
      unread = λ h. absurd (read h);
    }
  where
    is_usage : (s : Status) → Answers s Usage usage_text a.written a.written_after → s ≢ ReadFault → IsUsage s
    is_usage Done g r = (let e = g.0 in cc)
    is_usage Usage g r = tt
    is_usage PrepFault g r = (let e = g.0 in cc)
    is_usage NotUnit g r = (let e = g.0 in cc)
    is_usage LinkFault g r = (let e = g.0 in cc)
    is_usage GoalFault g r = (let e = g.0 in cc)
    is_usage Uncaught g r = (let e = g.0 in cc)
    is_usage Spent g r = (let e = g.0 in cc)
    is_usage ReadFault g r = absurd (r refl)
    is_usage WriteFault g r = tt
    is_usage NoMemory g r = tt

pub appends_nothing : (old new : Option (List ℕ)) → new ≡ old → Appends old new []
appends_nothing old new h = let P : Option (List ℕ) → Type 0 = λ n. Appends old n [] in subst P (sym h) (Appends_nothing old)

-- a shelf that tells of each name
pub tells_all : (names : List (List ℕ)) (file : Told) → ((name : List ℕ) → MatchOption (file name) ⊥ (λ _. Unit {0})) → Tells names file
tells_all [] file h = tt
tells_all (n ∷ names) file h = (h n, tells_all names file h)

-- all was written where nothing failed
pub answers_appends : (status want : Status) (bytes : List ℕ) (old new : Option (List ℕ)) → status ≢ ReadFault → status ≢ WriteFault → status ≢ NoMemory
    → Answers status want bytes old new → Appends old new bytes
answers_appends ReadFault want bytes old new r w m h = absurd (r refl)
answers_appends WriteFault want bytes old new r w m h = absurd (w refl)
answers_appends NoMemory want bytes old new r w m h = absurd (m refl)
answers_appends Done want bytes old new r w m h = h.1
answers_appends Usage want bytes old new r w m h = h.1
answers_appends PrepFault want bytes old new r w m h = h.1
answers_appends NotUnit want bytes old new r w m h = h.1
answers_appends LinkFault want bytes old new r w m h = h.1
answers_appends GoalFault want bytes old new r w m h = h.1
answers_appends Uncaught want bytes old new r w m h = h.1
answers_appends Spent want bytes old new r w m h = h.1

-- counts that stay 0 have not risen
pub no_faults : {A B : Type 0} → (Rose 0 0 × A) ⊎ (Rose 0 0 × B) → ⊥
no_faults (inl k) = (let e = k.0 in omega (arith, e))
no_faults (inr k) = (let e = k.0 in omega (arith, e))
