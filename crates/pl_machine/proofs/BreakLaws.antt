-- Which events a run has shown, and with how many steps.
use Rattle.std.proofs.Common.{◌≡◌, ℕ, ◌+◌, ◌-◌, ◌^◌, ◌<◌, ◌≤◌, List, [], ◌∷◌, ◌++◌, Bool, true, false, Option, refl, sym, ap, ◌∙◌, subst, arith, length, append-nil, length-append, take, ◌⊎◌, inl, inr}
use Rattle.std.specs.Prelude.{nat_lt, cond}
use Rattle.std.proofs.lemmas.Bool.{cases_lt, ltb-false, ltb-true, lt-ltb}
use Rattle.std.proofs.lemmas.List.{nil_from_length}
use Rattle.std.proofs.lemmas.List.Elements.{filter-append}
use Rattle.std.specs.Io.KnownBytes.{Appends}
use Rattle.pl_terms.specs.Trees.{Tree}
use Rattle.solver_model.specs.Search.{Event}
use Rattle.plm_io.specs.Causes.{AppendsFront}
use Rattle.plm_io.proofs.FrontLaws.{Appends_nothing, Appends-append}
use Rattle.pl_machine.specs.declared.machine.Machine.{Machine}
use Rattle.pl_machine.specs.declared.moves.Progress.{Progress}
use Rattle.pl_machine.specs.declared.moves.Progress.TheVariants as G
use Rattle.pl_machine.specs.declared.run.Show.{Show}
use Rattle.pl_machine.specs.declared.run.Show.TheVariants.{Lines}
use Rattle.pl_machine.specs.Running.{Outcomes, Remains, Same, Went, text_shown, bytes_by, with_left}
use Rattle.pl_machine.specs.Further.{Further, GoesFurther, WentOne}
use Rattle.pl_machine.specs.Broken.{bytes_of, shown_events, ShowsMore, Broke}
use Rattle.pl_machine.proofs.ShownLaws.{text-append, text-same, by-nothing}
use Rattle.pl_machine.proofs.RunLaws.{Put, put_then, put_events}

-- what a move does further that puts onto no bytes
pub goes_fresh : (old new : Machine) (before after : List ℕ) (p q : Progress) → before ≡ [] → p ≡ q → GoesFurther old new before after p → GoesFurther old new [] after q
goes_fresh old new before after p q none is goes = subst (GoesFurther old new [] after) is (subst (λ b. GoesFurther old new b after p) none goes)

-- ---- the events that have bytes

abbrev Events : Type 0
Events = List (Event (List (Tree ℕ)))

abbrev has_bytes : Machine → Event (List (Tree ℕ)) → Bool
has_bytes m e = nat_lt 0 (length (bytes_of m e))

shown-append : (m : Machine) (a b : Events) → shown_events m (a ++ b) ≡ shown_events m a ++ shown_events m b
shown-append m a b = filter-append (has_bytes m) a b

count-append : (m : Machine) (a b : Events) → length (shown_events m (a ++ b)) ≡ length (shown_events m a) + length (shown_events m b)
count-append m a b = ap length (shown-append m a b) ∙ length-append (shown_events m a) (shown_events m b)

kept : (m : Machine) (e : Event (List (Tree ℕ))) (es : Events) (b : Bool) → has_bytes m e ≡ b → shown_events m (e ∷ es) ≡ cond b (e ∷ shown_events m es) (shown_events m es)
kept m e es b h = ap (λ x. cond x (e ∷ shown_events m es) (shown_events m es)) h

-- an event without bytes
without : (m : Machine) (e : Event (List (Tree ℕ))) → has_bytes m e ≡ false → bytes_of m e ≡ []
without m e h = let few = ltb-false 0 (length (bytes_of m e)) h in nil_from_length (bytes_of m e) (omega (arith, few))

bytes-first : (m : Machine) (e : Event (List (Tree ℕ))) (es : Events) → text_shown m (e ∷ es) ≡ bytes_of m e ++ text_shown m es
bytes-first m e es = text-append m (e ∷ []) es

-- what is shown is the bytes of the events that have some
text-kept : (m : Machine) (es : Events) → text_shown m (shown_events m es) ≡ text_shown m es
text-kept m [] = refl
text-kept m (e ∷ es) = by (text-kept m es) (has_bytes m e) refl
  where
    by : text_shown m (shown_events m es) ≡ text_shown m es → (b : Bool) → has_bytes m e ≡ b → text_shown m (shown_events m (e ∷ es)) ≡ text_shown m (e ∷ es)
    by rest true h = ap (text_shown m) (kept m e es true h) ∙ bytes-first m e (shown_events m es) ∙ ap (λ t. bytes_of m e ++ t) rest ∙ sym (bytes-first m e es)
    by rest false h = ap (text_shown m) (kept m e es false h) ∙ rest ∙ ap (λ t. t ++ text_shown m es) (sym (without m e h)) ∙ sym (bytes-first m e es)

-- events that show nothing
none-shown : (m : Machine) (es : Events) → text_shown m es ≡ [] → shown_events m es ≡ []
none-shown m [] none = refl
none-shown m (e ∷ es) none = by (λ h. none-shown m es h) (has_bytes m e) refl
  where
    all : length (bytes_of m e) + length (text_shown m es) ≡ 0
    all = sym (length-append (bytes_of m e) (text_shown m es)) ∙ ap length (sym (bytes-first m e es) ∙ none)

    by : (text_shown m es ≡ [] → shown_events m es ≡ []) → (b : Bool) → has_bytes m e ≡ b → shown_events m (e ∷ es) ≡ []
    by rest true h = let some = ltb-true 0 (length (bytes_of m e)) h in absurd (omega (arith, some, all))
    by rest false h = kept m e es false h ∙ rest (nil_from_length (text_shown m es) (omega (arith, all)))

-- the one event of bytes that are some
one-shown : (m : Machine) (es : Events) → length es ≡ 1 → 0 < length (text_shown m es) → shown_events m es ≡ es
one-shown m [] one some = absurd (omega (arith, one))
one-shown m (e ∷ []) one some = kept m e [] true (lt-ltb 0 (length (bytes_of m e)) some)
one-shown m (e ∷ d ∷ es) one some = absurd (omega (arith, one))

-- ---- what a run has shown

-- the same was put with each number of steps from some on, so many events; with fewer steps there are no more
pub record Far (old new : Machine) (show : Show) (before after : Option (List ℕ)) (outcome : ℕ → Outcomes) (count : ℕ) : Type 0 where
  pub used : ℕ
  pub taken : used + new.left ≡ old.left
  pub puts : (left n : ℕ) → n ≡ used + left → Put old (with_left new left) show before after (outcome n)
  pub counts : (left n : ℕ) (e : n ≡ used + left) → length (shown_events old (puts left n e).events) ≡ count
  pub few : (n : ℕ) → n < used → length (shown_events old (outcome n).events) ≤ count

-- nothing was put yet
pub far_none : (m : Machine) (show : Show) (w : Option (List ℕ)) (outcome : ℕ → Outcomes) → m.answers < 2 ^ 64 → ((left : ℕ) → Remains (with_left m left) (outcome left)) → Far m m show w w outcome 0
far_none m show w outcome few whole = record {
  used = 0;
  taken = omega arith;
  puts = λ left n e. record {
    events = [];
    rest = outcome n;
    remains = let same : n ≡ left = omega (arith, e) in subst (λ k. Remains (with_left m k) (outcome n)) same (whole n);
    all = refl;
    answers = omega (arith, few);
    put = subst (Appends w w) (sym (by-nothing show)) (Appends_nothing w);
  };
  counts = λ left n e. refl;
  few = λ n h. absurd (omega (arith, h));
}

module _ (old new next : Machine) (show : Show) (u v : Option (List ℕ)) (text : List ℕ) (outcome : ℕ → Outcomes) (count : ℕ) (far : Far old new show u v outcome count) (used : ℕ) (taken : used + next.left ≡ new.left)
    (fewer : (left : ℕ) → left < used → (r : Outcomes) → Remains (with_left new left) r → r.events ≡ []) (same : Same old new) where
  -- with fewer steps there are no more events
  few_more : (n : ℕ) → n < far.used + used → length (shown_events old (outcome n).events) ≤ count
  few_more n h = by (cases_lt n far.used)
    where
      by : (n < far.used) ⊎ (far.used ≤ n) → length (shown_events old (outcome n).events) ≤ count
      by (inl l) = far.few n l
      by (inr g) =
          let e : n ≡ far.used + (n - far.used) = omega (arith, g) in
          let p = far.puts (n - far.used) n e in
          let none : p.rest.events ≡ [] = fewer (n - far.used) (omega (arith, g, h)) p.rest p.remains in
          let whole : (outcome n).events ≡ p.events = ap (λ (o : Outcomes). o.events) p.all ∙ ap (λ l. p.events ++ l) none ∙ append-nil p.events in
          let same_count = ap (λ l. length (shown_events old l)) whole in
          omega (arith, same_count, far.counts (n - far.used) n e)

  -- a move with so many events
  module _ (more : ℕ) (went : (left : ℕ) (r : Outcomes) → Remains (with_left new (used + left)) r → Went (with_left new (used + left)) (with_left next left) [] text r)
      (events : (left : ℕ) (r : Outcomes) (h : Remains (with_left new (used + left)) r) → length (shown_events old (went left r h).events) ≡ more) where
    pub far_more : (w : Option (List ℕ)) → Appends v w (bytes_by show text) → Far old next show u w outcome (count + more)
    far_more w put =
        let before = λ (left n : ℕ) (e : n ≡ (far.used + used) + left). far.puts (used + left) n (e ∙ omega arith) in
        record {
          used = far.used + used;
          taken = omega (arith, taken, far.taken);
          puts = λ left n e.
              let p = before left n e in
              put_then old (with_left new (used + left)) (with_left next left) show u v w text (outcome n) same p (went left p.rest p.remains) put;
          counts = λ left n e.
              let p = before left n e in
              let m = went left p.rest p.remains in
              let both = count-append old p.events m.events in
              ap (λ l. length (shown_events old l)) (put_events old (with_left new (used + left)) (with_left next left) show u v w text (outcome n) same p m put)
              ∙ both ∙ (ap (λ k. k + length (shown_events old m.events)) (far.counts (used + left) n (e ∙ omega arith)) ∙ ap (λ k. count + k) (events left p.rest p.remains));
          few = λ n h. let le = few_more n h in omega (arith, le);
        }

-- ---- moves

module _ (old new next : Machine) (show : Show) (u v : Option (List ℕ)) (text : List ℕ) (outcome : ℕ → Outcomes) (count : ℕ) (far : Far old new show u v outcome count) (same : Same old new) where
  -- a move that shows nothing
  pub far_quiet : Further new next [] text G.Goal → text ≡ [] → Far old next show u v outcome (count + 0)
  far_quiet f none =
      far_more old new next show u v text outcome count far f.used f.taken f.fewer same 0
      (λ left r h. (f.gives left).1.1 r h)
      (λ left r h. let m = (f.gives left).1.1 r h in ap length (none-shown old m.events (sym (text-same old (with_left new (f.used + left)) m.events same) ∙ sym m.text ∙ none)))
      v (subst (Appends v v) (sym (ap (bytes_by show) none ∙ by-nothing show)) (Appends_nothing v))

  -- the event of a move that shows bytes
  one_event : (f : Further new next [] text G.Shown) → 0 < length text → (left : ℕ) (r : Outcomes) (h : Remains (with_left new (f.used + left)) r) → shown_events old (f.one left r h).went.events ≡ (f.one left r h).went.events
  one_event f some left r h =
      let m = (f.one left r h).went in
      let all : text ≡ text_shown old m.events = m.text ∙ text-same old (with_left new (f.used + left)) m.events same in
      one-shown old m.events (f.one left r h).one (omega (arith, some, ap length all))

  -- a move that shows bytes, which were put
  pub far_shown : Further new next [] text G.Shown → 0 < length text → (w : Option (List ℕ)) → Appends v w (bytes_by show text) → Far old next show u w outcome (count + 1)
  far_shown f some w put =
      far_more old new next show u v text outcome count far f.used f.taken f.fewer same 1
      (λ left r h. (f.one left r h).went)
      (λ left r h. ap length (one_event f some left r h) ∙ (f.one left r h).one)
      w put

  -- a move that shows bytes, of which a front was put
  pub far_broken : show ≡ Lines → Further new next [] text G.Shown → 0 < length text → (w : Option (List ℕ)) → AppendsFront v w (bytes_by show text) → Broke old next u w outcome
  far_broken lines f some w part = by last.went.events refl
    where
      steps : ℕ
      steps = far.used + f.used

      here : old.left ≡ far.used + (f.used + next.left)
      here = omega (arith, far.taken, f.taken)

      p : Put old (with_left new (f.used + next.left)) show u v (outcome old.left)
      p = far.puts (f.used + next.left) old.left here

      last : WentOne (with_left new (f.used + next.left)) (with_left next next.left) [] text p.rest
      last = f.one next.left p.rest p.remains

      then : steps ≡ far.used + (f.used + 0)
      then = omega arith

      q : Put old (with_left new (f.used + 0)) show u v (outcome steps)
      q = far.puts (f.used + 0) steps then

      first : WentOne (with_left new (f.used + 0)) (with_left next 0) [] text q.rest
      first = f.one 0 q.rest q.remains

      so_many : length (shown_events old p.events) ≡ count
      so_many = far.counts (f.used + next.left) old.left here

      all_of : (o : Outcomes) (a b c : Events) (r : Outcomes) → o.events ≡ a ++ r.events → r.events ≡ b ++ c → shown_events old o.events ≡ shown_events old a ++ (shown_events old b ++ shown_events old c)
      all_of o a b c r g h =
          ap (shown_events old) (g ∙ ap (λ l. a ++ l) h) ∙ shown-append old a (b ++ c) ∙ ap (λ l. shown_events old a ++ l) (shown-append old b c)

      enough_for : ShowsMore old (length (shown_events old p.events)) (outcome steps)
      enough_for =
          let whole = ap length (all_of (outcome steps) q.events first.went.events first.went.rest.events q.rest (ap (λ (o : Outcomes). o.events) q.all) (ap (λ (o : Outcomes). o.events) first.went.all)) in
          let outer = length-append (shown_events old q.events) (shown_events old first.went.events ++ shown_events old first.went.rest.events) in
          let inner = length-append (shown_events old first.went.events) (shown_events old first.went.rest.events) in
          let one = ap length (one_event f some 0 q.rest q.remains) in
          omega (arith, whole, outer, inner, one, first.one, so_many, far.counts (f.used + 0) steps then)

      no_fewer : (n : ℕ) → n < steps → ShowsMore old (length (shown_events old p.events)) (outcome n) → ⊥
      no_fewer n h more =
          let le = few_more old new next show u v text outcome count far f.used f.taken f.fewer same n h in
          omega (arith, le, more, so_many)

      by : (es : Events) → last.went.events ≡ es → Broke old next u w outcome
      by [] x = let one = last.one in let none = ap length x in absurd (omega (arith, one, none))
      by (e ∷ d ∷ es) x = let one = last.one in let two = ap length x in absurd (omega (arith, one, two))
      by (e ∷ []) x =
          let shown_is : text ≡ bytes_of old e = last.went.text ∙ text-same old (with_left new (f.used + next.left)) last.went.events same ∙ ap (text_shown old) x in
          let before : Appends u v (text_shown old p.events) = subst (λ s. Appends u v (bytes_by s (text_shown old p.events))) lines p.put in
          let now : Appends v w (take part.0 (bytes_of old e)) = subst (λ t. Appends v w (take part.0 t)) shown_is (subst (λ s. Appends v w (take part.0 (bytes_by s text))) lines part.1) in
          record {
            put = shown_events old p.events;
            event = e;
            others = shown_events old last.went.rest.events;
            split =
                all_of (outcome old.left) p.events last.went.events last.went.rest.events p.rest (ap (λ (o : Outcomes). o.events) p.all) (ap (λ (o : Outcomes). o.events) last.went.all)
                ∙ ap (λ l. shown_events old p.events ++ (l ++ shown_events old last.went.rest.events)) (one_event f some next.left p.rest p.remains ∙ x);
            front = part.0;
            written = subst (λ t. Appends u w (t ++ take part.0 (bytes_of old e))) (sym (text-kept old p.events)) (Appends-append u v w (text_shown old p.events) (take part.0 (bytes_of old e)) before now);
            steps = steps;
            taken = omega (arith, far.taken, f.taken);
            enough = enough_for;
            least = no_fewer;
          }
