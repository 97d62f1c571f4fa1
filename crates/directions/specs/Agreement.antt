-- What follows for the task, whatever the direction. Assumes nothing.
use Rattle.std.specs.Prelude.{◌≡◌, ℕ, ◌≤◌, true, List, ◌++◌, length, take, drop, Ok, Err, Result, ◌≢◌}
use Rattle.fault.specs.declared.Fault.{Fault}
use Rattle.bfs.specs.declared.Outcome.{Outcome}
use Rattle.bfs.specs.declared.Outcome.TheVariants.{Plan, NoPlan}
use Rattle.bfs.specs.Answers.{Buffers, Answered}
use Rattle.strips.specs.Tasks.{Task, fine}
use Rattle.strips.specs.Duality.{is_plan, space_in, in_order}
use Rattle.directions.specs.Planning.{AnsweredIn, CheckedIn}

-- if neither is a refusal, both say none or both show plans of equal length
abbrev pub Agree : Result Outcome Fault → Result Outcome Fault → Type 0
Agree (Ok (Plan p)) (Ok (Plan q)) = p.0 ≡ q.0
Agree (Ok (Plan p)) (Ok (NoPlan v)) = ⊥
Agree (Ok (Plan p)) (Err f) = Unit {0}
Agree (Ok (NoPlan u)) (Ok (Plan q)) = ⊥
Agree (Ok (NoPlan u)) (Ok (NoPlan v)) = Unit {0}
Agree (Ok (NoPlan u)) (Err f) = Unit {0}
Agree (Err e) s = Unit {0}

-- two plannings of one task, in whatever directions and with whatever tables, agree
abbrev pub DirectionsAgree : Type 0
DirectionsAgree =
    (h : Task) → fine h ≡ true → (d e : ℕ) (b b' c c' : Buffers ℕ) (r s : Result Outcome Fault)
    → AnsweredIn h d b b' r → AnsweredIn h e c c' s → Agree r s

-- what an answer says of the task's plans
pub record OfTheTask (h : Task) (b' : Buffers ℕ) (r : Result Outcome Fault) : Type 0 where
  -- what is shown is a plan, and no plan is shorter
  pub shown : (n used : ℕ) → r ≡ Ok (Plan (n, used)) → (length (take n b'.plan) ≡ n) × (is_plan h (take n b'.plan) ≡ true)
  pub shortest : (n used : ℕ) → r ≡ Ok (Plan (n, used)) → (ks : List ℕ) → is_plan h ks ≡ true → n ≤ length ks
  -- where none is said, there is no plan
  pub none : (used : ℕ) → r ≡ Ok (NoPlan used) → (ks : List ℕ) → is_plan h ks ≢ true

abbrev pub PlansTold : Type 0
PlansTold =
    (h : Task) → fine h ≡ true → (d : ℕ) (b b' : Buffers ℕ) (r : Result Outcome Fault) → AnsweredIn h d b b' r → OfTheTask h b' r

-- rows that are accepted in any direction show that there is no plan
abbrev pub AcceptedNone : Type 0
AcceptedNone =
    (h : Task) → fine h ≡ true → (d : ℕ) (rows : List ℕ) → CheckedIn h d rows (Ok tt) → (ks : List ℕ) → is_plan h ks ≢ true

-- the buffers with a plan shown turned back into the direction's order
abbrev pub turned_back : ℕ → Result Outcome Fault → Buffers ℕ → Buffers ℕ
turned_back d (Ok (Plan p)) b = record { rows = b.rows; plan = in_order d (take p.0 b.plan) ++ drop p.0 b.plan }
turned_back d (Ok (NoPlan used)) b = b
turned_back d (Err f) b = b

-- Every answer in a direction is the search's in that direction's space, once a plan shown is turned back; and where none is said, the
-- check in that direction accepts the rows used. So all that is exact of the search's answers is exact of these.
pub record AsSearched (h : Task) (d : ℕ) (b b' : Buffers ℕ) (r : Result Outcome Fault) : Type 0 where
  pub searched : d ≤ 3 → Answered (space_in h d) b (turned_back d r b') r
  pub accepted : (used : ℕ) (rows : List ℕ) (s : Result (Unit {0}) Fault) → r ≡ Ok (NoPlan used) → rows ≡ take used b'.rows.nodes
      → CheckedIn h d rows s → s ≡ Ok tt

abbrev pub AlwaysAsSearched : Type 0
AlwaysAsSearched =
    (h : Task) → fine h ≡ true → (d : ℕ) (b b' : Buffers ℕ) (r : Result Outcome Fault) → AnsweredIn h d b b' r → AsSearched h d b b' r
