-- What planning and checking in a direction answer. Assumes nothing.
use Rattle.std.specs.Prelude.{◌≡◌, ℕ, ◌<◌, ◌≤◌, true, List, length, take, Ok, Err, Result}
use Rattle.fault.specs.declared.Fault.{Fault}
use Rattle.fault.specs.declared.Layer.TheVariants.{Planner}
use Rattle.fault.specs.declared.Place.TheVariants.{At}
use Rattle.fault.specs.Refusals.{refusal, refused}
use Rattle.space.specs.Paths.{Nearest}
use Rattle.space.specs.Rows.{node_at, Closed}
use Rattle.bfs.specs.declared.Outcome.{Outcome}
use Rattle.bfs.specs.declared.Outcome.TheVariants.{Plan, NoPlan}
use Rattle.bfs.specs.Tables.{Past}
use Rattle.bfs.specs.Answers.{Buffers, Filled, Exhausted, Refused}
use Rattle.closed.specs.Check.{Refused as Broken}
use Rattle.strips.specs.Tasks.{Task}
use Rattle.strips.specs.Duality.{is_plan, space_in}

-- Below, h is the task, d the direction, b what the buffers held before and b' what they hold after.
module _ (h : Task) (d : ℕ) (b b' : Buffers ℕ) where
  -- The tables are filled as the search in the direction's space fills them. The nearest target is at distance n, and the first n places
  -- hold a plan of the task, in the task's order. What stands past them is as it was.
  pub record Shown (n used : ℕ) : Type 0 where
    pub filled : Filled (space_in h d) b.rows b'.rows used
    pub nearest : Nearest (space_in h d) n
    pub fits : n ≤ length b.plan
    pub is_a_plan : is_plan h (take n b'.plan) ≡ true
    pub plan_past : Past n b.plan b'.plan

  -- there is no such direction, and all buffers are as they were; or the search in the direction's space is refused
  pub data RefusedIn (f : Fault) : Type 0 where
    no_direction : refusal f ≡ refused 13 Planner (At 0) → 3 < d → b' ≡ b → RefusedIn f
    no_room : d ≤ 3 → Refused (space_in h d) b b' f → RefusedIn f

  -- what a planning answers: as the search in the direction's space, with the plan in the task's order
  abbrev pub AnsweredIn : Result Outcome Fault → Type 0
  AnsweredIn (Ok (Plan p)) = (d ≤ 3) × Shown p.0 p.1
  AnsweredIn (Ok (NoPlan used)) = (d ≤ 3) × Exhausted (space_in h d) b b' used
  AnsweredIn (Err f) = RefusedIn f

module _ (h : Task) (d : ℕ) (rows : List ℕ) where
  -- there is no such direction, or the rows are no closed set of the direction's space
  pub data RejectedIn (f : Fault) : Type 0 where
    no_direction_to_check : refusal f ≡ refused 13 Planner (At 0) → 3 < d → RejectedIn f
    broken : d ≤ 3 → Broken (space_in h d) rows f → RejectedIn f

  -- what a check answers: as the closed-set check in the direction's space
  abbrev pub CheckedIn : Result (Unit {0}) Fault → Type 0
  CheckedIn (Ok _) = (d ≤ 3) × Closed (space_in h d) (node_at (space_in h d) rows) (length rows)
  CheckedIn (Err f) = RejectedIn f
