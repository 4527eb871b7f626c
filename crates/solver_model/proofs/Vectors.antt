-- Worked searches in a small language: goals give numbers, and answers are the numbers given.
use Rattle.std.proofs.Common.{◌≡◌, ℕ, ℤ, pos, suc, List, [], ◌∷◌, length, Some, refl}
use Rattle.solver_model.specs.Search.{Item, Event, End, State, Outcome, Activation, Language, Call, Cut, Pop, Out, Ans, Failed, Thrown, Halted, Spent, At, Over, Tries, Catches, Collects, Ends, Opens, pops, found}

pub data Small : Type 0 where
  gives : ℕ → Small
  says : ℕ → Small
  both : Small → Small → Small
  either : Small → Small → Small
  commits : Small
  throws : ℕ → Small
  guards : Small → Small → Small
  counts : Small → Small
  stops : ℤ → Small

-- a goal, and the depth to which a cut in it cuts
pub record Aim : Type 0 where
  pub small : Small
  pub reach : ℕ

abbrev pub Place : Type 0
Place = State Aim (List ℕ)

abbrev pub place : ℕ → List (Item Aim) → List ℕ → Place
place e items given = record { depth = suc e; items = items; world = given }

abbrev pub goal : Small → ℕ → Item Aim
goal s d = Call (record { small = s; reach = d })

-- what a nested search hands on: the depth, the items after it, and what was given before it
pub record Tally : Type 0 where
  pub depth : ℕ
  pub rest : List (Item Aim)
  pub given : List ℕ

abbrev pub Act : Type 0
Act = Activation Aim (List ℕ) Place Place Tally (List ℕ) ℕ

abbrev pub node : ℕ → List Place → Act
node e places = Opens [] (Over Failed) (Tries e places)

abbrev pub act : ℕ → Small → ℕ → List (Item Aim) → List ℕ → Act
act e (gives n) d rest given = node e (place e rest (n ∷ given) ∷ [])
act e (says n) d rest given = Opens (Out (n ∷ []) ∷ []) (Over Failed) (Tries e (place e rest given ∷ []))
act e (both a b) d rest given = node e (place e (goal a d ∷ goal b d ∷ rest) given ∷ [])
act e (either a b) d rest given = node e (place e (goal a d ∷ rest) given ∷ place e (goal b d ∷ rest) given ∷ [])
act e commits d rest given = node e (place e (Cut d ∷ rest) given ∷ [])
act e (throws n) d rest given = Ends [] (Thrown n (pops rest))
act e (guards a b) d rest given =
    Opens [] (At (place e (goal a (suc e) ∷ Pop e ∷ rest) given)) (Catches e (place e (goal b (suc e) ∷ rest) given))
act e (counts a) d rest given =
    Opens [] (At (place e (goal a (suc e) ∷ []) [])) (Collects e [] (record { depth = e; rest = rest; given = given }))
act e (stops n) d rest given = Ends [] (Halted n)

abbrev pub small : Language
small = record {
  Goal = Aim;
  World = List ℕ;
  Alternative = Place;
  Recovery = Place;
  Gathering = Tally;
  Answer = List ℕ;
  Ball = ℕ;
  Clauses = Unit {0};
  attempt = λ p c. Some (p, c);
  recover = λ p ball. Some (At p);
  gather = λ t answers. At (place t.depth t.rest (length answers ∷ t.given));
  active_of = λ t. pops t.rest;
  answer_of = λ given. given;
  cut = λ a. a.reach;
  activate = λ e a rest given c. act e a.small a.reach rest given;
}

abbrev pub run : Small → ℕ → Outcome (List ℕ) ℕ (Unit {0})
run s budget = found small (record { depth = 0; items = goal s 0 ∷ []; world = [] }) budget tt

abbrev pub outcome : List (Event (List ℕ)) → ℕ → End ℕ → Outcome (List ℕ) ℕ (Unit {0})
outcome events left end = record { events = events; left = left; clauses = tt; ended = end }

abbrev pub one_or_two : Small
one_or_two = either (gives 1) (gives 2)

pub answers_cost_nothing : run (gives 1) 1 ≡ outcome (Ans (1 ∷ []) ∷ []) 0 Failed
answers_cost_nothing = refl

pub no_step : run (gives 1) 0 ≡ outcome [] 0 Spent
no_step = refl

pub each_branch : run one_or_two 9 ≡ outcome (Ans (1 ∷ []) ∷ Ans (2 ∷ []) ∷ []) 6 Failed
each_branch = refl

pub spent_between : run one_or_two 2 ≡ outcome (Ans (1 ∷ []) ∷ []) 0 Spent
spent_between = refl

pub cut : run (both one_or_two commits) 9 ≡ outcome (Ans (1 ∷ []) ∷ []) 5 Failed
cut = refl

-- a cut in a guarded goal removes the alternatives of that goal alone
pub cut_is_local : run (either (guards (both one_or_two commits) (gives 9)) (gives 3)) 9 ≡ outcome (Ans (1 ∷ []) ∷ Ans (3 ∷ []) ∷ []) 2 Failed
cut_is_local = refl

pub caught : run (guards (both (gives 1) (throws 5)) (gives 2)) 9 ≡ outcome (Ans (2 ∷ []) ∷ []) 4 Failed
caught = refl

pub inactive_after_exit : run (both (guards (gives 1) (gives 2)) (throws 5)) 9 ≡ outcome [] 5 (Thrown 5 [])
inactive_after_exit = refl

-- an outer guard is active still
pub outer_is_active : run (guards (both (guards (gives 1) (gives 2)) (throws 5)) (gives 7)) 9 ≡ outcome (Ans (7 ∷ []) ∷ []) 3 Failed
outer_is_active = refl

pub counted : run (counts one_or_two) 9 ≡ outcome (Ans (2 ∷ []) ∷ []) 5 Failed
counted = refl

pub output_is_kept : run (counts (both (says 8) one_or_two)) 9 ≡ outcome (Out (8 ∷ []) ∷ Ans (2 ∷ []) ∷ []) 3 Failed
output_is_kept = refl

pub thrown_out_of_a_count : run (guards (counts (both (says 8) (throws 5))) (gives 7)) 9 ≡ outcome (Out (8 ∷ []) ∷ Ans (7 ∷ []) ∷ []) 3 Failed
thrown_out_of_a_count = refl

pub stopped : run (either (both (says 8) (stops (pos 3))) (gives 1)) 9 ≡ outcome (Out (8 ∷ []) ∷ []) 5 (Halted (pos 3))
stopped = refl
