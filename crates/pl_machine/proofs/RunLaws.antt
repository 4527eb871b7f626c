-- What a run has put, move after move.
use Rattle.std.proofs.Common.{◌≡◌, ℕ, ◌+◌, ◌^◌, ◌<◌, ◌≤◌, List, [], ◌++◌, Option, Result, Ok, Err, OnErr, refl, sym, ap, ◌∙◌, subst, arith, length, append_assoc, append-nil}
use Rattle.std.specs.Io.KnownBytes.{Appends}
use Rattle.pl_terms.specs.Trees.{Tree}
use Rattle.solver_model.specs.Search.{Event, answers_of}
use Rattle.plm_io.specs.Causes.{Rose, AppendsFront}
use Rattle.plm_io.proofs.FrontLaws.{Appends_nothing, Appends-append, front_of_nothing, front_of_first, front_of_second}
use Rattle.prep_report.specs.declared.end.End2.{End2}
use Rattle.pl_machine.specs.declared.machine.Machine.{Machine}
use Rattle.pl_machine.specs.declared.moves.Progress.{Progress}
use Rattle.pl_machine.specs.declared.run.Show.{Show}
use Rattle.pl_machine.specs.Running.{Outcomes, Remains, Same, Went, Gives, Ended, Ran, end_of, stopped, bytes_by, shown_by}
use Rattle.pl_machine.proofs.ShownLaws.{text-same, answers-append, by-nothing, shown-append}
use Rattle.pl_machine.proofs.WentLaws.{same_then}

pub on_err : {X E P : Type 0} (r : Result X E) → P → OnErr r P
on_err (Ok x) p = tt
on_err (Err e) p = p

pub later_then : (a b c : ℕ) → a ≤ b → b ≤ c → a ≤ c
later_then a b c le h = omega (arith, le, h)

pub rose_later : (a b c : ℕ) → a ≤ b → Rose b c → Rose a c
rose_later a b c le h = omega (arith, le, h)

-- what a move gives that puts onto no bytes
pub gives_fresh : (old new : Machine) (before after : List ℕ) (p q : Progress) → before ≡ [] → p ≡ q → Gives old new before after p → Gives old new [] after q
gives_fresh old new before after p q none is gives = subst (Gives old new [] after) is (subst (λ b. Gives old new b after p) none gives)

-- these events were put, and the rest of the run is before the machine
pub record Put (old new : Machine) (show : Show) (before after : Option (List ℕ)) (r : Outcomes) : Type 0 where
  pub events : List (Event (List (Tree ℕ)))
  pub rest : Outcomes
  pub remains : Remains new rest
  pub all : r ≡ record { events = events ++ rest.events; left = rest.left; clauses = rest.clauses; ended = rest.ended }
  pub answers : new.answers ≡ stopped (old.answers + length (answers_of events))
  pub put : Appends before after (shown_by old show events)

pub record SoFar (old new : Machine) (show : Show) (before after : Option (List ℕ)) : Type 0 where
  pub same : Same old new
  pub puts : (r : Outcomes) → Remains old r → Put old new show before after r

pub none_put : (m : Machine) (show : Show) (w : Option (List ℕ)) → m.answers < 2 ^ 64 → SoFar m m show w w
none_put m show w few = record {
  same = (refl, refl, refl);
  puts = λ r h. record { events = []; rest = r; remains = h; all = refl; answers = omega (arith, few); put = subst (Appends w w) (sym (by-nothing show)) (Appends_nothing w) };
}

-- a further move of which all was put
pub put_then : (old new next : Machine) (show : Show) (u v w : Option (List ℕ)) (text : List ℕ) (r : Outcomes) → Same old new → (p : Put old new show u v r) → Went new next [] text p.rest → Appends v w (bytes_by show text)
    → Put old next show u w r
put_then old new next show u v w text r same p m f = record {
  events = p.events ++ m.events;
  rest = m.rest;
  remains = m.remains;
  all =
      p.all
      ∙ ap (λ (o : Outcomes). let all : Outcomes = record { events = p.events ++ o.events; left = o.left; clauses = o.clauses; ended = o.ended } in all) m.all
      ∙ ap (λ l. let all : Outcomes = record { events = l; left = m.rest.left; clauses = m.rest.clauses; ended = m.rest.ended } in all) (sym (append_assoc p.events m.events m.rest.events));
  answers = omega (arith, p.answers, m.answers, answers-append p.events m.events);
  put =
      subst (Appends u w) (sym (shown-append old show p.events m.events))
      (Appends-append u v w (shown_by old show p.events) (shown_by old show m.events) p.put
      (subst (Appends v w) (ap (bytes_by show) (m.text ∙ text-same old new m.events same)) f));
}

-- its events stand behind those before it
pub put_events : (old new next : Machine) (show : Show) (u v w : Option (List ℕ)) (text : List ℕ) (r : Outcomes) (same : Same old new) (p : Put old new show u v r) (m : Went new next [] text p.rest) (f : Appends v w (bytes_by show text))
    → (put_then old new next show u v w text r same p m f).events ≡ p.events ++ m.events
unfolding put_then
put_events old new next show u v w text r same p m f = refl

module _ (old new : Machine) (show : Show) (u v : Option (List ℕ)) (so : SoFar old new show u v) where
  -- what is put of the events that came first, and of the others
  shown_rest : (a b : List (Event (List (Tree ℕ)))) (r : Outcomes) → r.events ≡ a ++ b → shown_by old show r.events ≡ shown_by old show a ++ shown_by old show b
  shown_rest a b r e = ap (shown_by old show) e ∙ shown-append old show a b

  -- nothing more was put
  pub front_so_far : (r : Outcomes) → Remains old r → AppendsFront u v (shown_by old show r.events)
  front_so_far r h =
      let p : Put old new show u v r = so.puts r h in
      subst (AppendsFront u v) (sym (shown_rest p.events p.rest.events r (ap (λ o. o.events) p.all))) (front_of_second u v v (shown_by old show p.events) (shown_by old show p.rest.events) p.put (front_of_nothing v (shown_by old show p.rest.events)))

  module _ (next : Machine) (text : List ℕ) (went : (r : Outcomes) → Remains new r → Went new next [] text r) where
    -- the bytes of a move
    moved_bytes : (r : Outcomes) (h : Remains new r) → bytes_by show text ≡ shown_by old show (went r h).events
    moved_bytes r h = ap (bytes_by show) ((went r h).text ∙ text-same old new (went r h).events so.same)

    -- a move of which a front was put
    pub front_moved : (w : Option (List ℕ)) → AppendsFront v w (bytes_by show text) → (r : Outcomes) → Remains old r → AppendsFront u w (shown_by old show r.events)
    front_moved w f r h =
        let p : Put old new show u v r = so.puts r h in
        let m : Went new next [] text p.rest = went p.rest p.remains in
        let first : AppendsFront v w (shown_by old show m.events) = subst (AppendsFront v w) (moved_bytes p.rest p.remains) f in
        let both : AppendsFront v w (shown_by old show p.rest.events) =
        subst (AppendsFront v w) (sym (shown_rest m.events m.rest.events p.rest (ap (λ o. o.events) m.all))) (front_of_first v w (shown_by old show m.events) (shown_by old show m.rest.events) first) in
        subst (AppendsFront u w) (sym (shown_rest p.events p.rest.events r (ap (λ o. o.events) p.all))) (front_of_second u v w (shown_by old show p.events) (shown_by old show p.rest.events) p.put both)

    -- a move that was put whole
    pub more_put : (w : Option (List ℕ)) → Same new next → Appends v w (bytes_by show text) → SoFar old next show u w
    more_put w same f = record {
      same = same_then old new next so.same same;
      puts = λ r h. let p : Put old new show u v r = so.puts r h in put_then old new next show u v w text r so.same p (went p.rest p.remains) f;
    }

    -- a move that shows nothing
    pub none_more : Same new next → text ≡ [] → SoFar old next show u v
    none_more same none = more_put v same (subst (Appends v v) (sym (ap (bytes_by show) none ∙ by-nothing show)) (Appends_nothing v))

  -- ---- the end

  module _ (last : Machine) (e : End2) (same : Same new last) (answers : last.answers ≡ new.answers) (ends : (r : Outcomes) → Remains new r → Ended last e r) where
    all_events : (r : Outcomes) (h : Remains old r) → r.events ≡ (so.puts r h).events
    all_events r h =
        let p : Put old new show u v r = so.puts r h in
        ap (λ o. o.events) p.all ∙ ap (λ l. p.events ++ l) (ends p.rest p.remains).events ∙ append-nil p.events

    pub ran : (r : Outcomes) → Remains old r → Ran old last e r
    ran r h =
        let p : Put old new show u v r = so.puts r h in
        let d : Ended last e p.rest = ends p.rest p.remains in
        record {
          same = same_then old new last so.same same;
          ended = d.ended ∙ ap (λ o. end_of o.ended) (sym p.all);
          left = d.left ∙ ap (λ o. o.left) (sym p.all);
          answers = answers ∙ p.answers ∙ ap (λ l. stopped (old.answers + length (answers_of l))) (sym (all_events r h));
        }

    pub all_put : (r : Outcomes) → Remains old r → Appends u v (shown_by old show r.events)
    all_put r h = subst (λ l. Appends u v (shown_by old show l)) (sym (all_events r h)) (so.puts r h).put
