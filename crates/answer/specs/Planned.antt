-- What planning on a sheet's text answers. Assumes nothing.
use Rattle.std.specs.Prelude.{◌≡◌, ℕ, List, Ok, Err, Result}
use Rattle.fault.specs.declared.Fault.{Fault}
use Rattle.bfs.specs.declared.Outcome.{Outcome}
use Rattle.bfs.specs.Answers.{Buffers}
use Rattle.directions.specs.Agreement.{OfTheTask}
use Rattle.directions.specs.Planning.{AnsweredIn}
use Rattle.sheet.specs.Reading.{task_of, Accepted, Refused}

-- a text that is no sheet is refused as in reading, and the buffers stay as they were; or planning the sheet's task in direction 0 is refused
pub data Unplanned (text : List ℕ) (before after : Buffers ℕ) (f : Fault) : Type 0 where
  no_sheet : Refused text f → after ≡ before → Unplanned text before after f
  not_planned : Accepted text → AnsweredIn (task_of text) 0 before after (Err f) → Unplanned text before after f

-- the answer is that of planning the sheet's task in direction 0
abbrev pub PlannedOn : (text : List ℕ) → (before after : Buffers ℕ) → Result Outcome Fault → Type 0
PlannedOn text before after (Ok o) = Accepted text × AnsweredIn (task_of text) 0 before after (Ok o)
PlannedOn text before after (Err f) = Unplanned text before after f

-- what a planning shows is a plan of the sheet's task and no plan is shorter; where it says none, there is no plan
abbrev pub ToldOfTheSheet : Type 0
ToldOfTheSheet = (text : List ℕ) (before after : Buffers ℕ) (o : Outcome) → PlannedOn text before after (Ok o) → OfTheTask (task_of text) after (Ok o)
