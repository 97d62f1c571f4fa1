-- The answer as text. Assumes nothing.
use Rattle.std.specs.Prelude.{◌≡◌, ℕ, ◌<◌, ◌⊎◌, List, [], ◌∷◌, ◌++◌, length, take, replicate, Ok, Err, codes, decimal, Result, slice_index}
use Rattle.std.specs.List.{flat_map}
use Rattle.fault.specs.declared.Fault.{Fault}
use Rattle.fault.specs.Refusals.{fault_text}
use Rattle.bfs.specs.declared.Outcome.{Outcome}
use Rattle.bfs.specs.declared.Outcome.TheVariants.{Plan, NoPlan}
use Rattle.bfs.specs.Tables.{origin}
use Rattle.bfs.specs.Answers.{Buffers, buffers}
use Rattle.sheet.specs.Grid.{action_count, action_name}
use Rattle.sheet.specs.Reading.{Accepted}
use Rattle.answer.specs.Planned.{PlannedOn}

-- the first line, and below it answer, plan length and rows
abbrev pub outcome_text : Outcome → List ℕ
outcome_text (Plan p) = codes "answer length rows\nplan " ++ (decimal p.0 ++ (codes " " ++ (decimal p.1 ++ codes "\n")))
outcome_text (NoPlan rows) = codes "answer length rows\nnone 0 " ++ (decimal rows ++ codes "\n")

-- a refusal has its number and its place there
abbrev pub head_text : Result Outcome Fault → List ℕ
head_text (Ok o) = outcome_text o
head_text (Err f) = codes "answer length rows\nrefused " ++ (fault_text f ++ codes "\n")

-- the name of an action, with a line end
abbrev pub name_line : List ℕ → ℕ → List ℕ
name_line text k = action_name text k ++ (10 ∷ [])

-- the names of actions, one to a line
abbrev pub names_text : List ℕ → List ℕ → List ℕ
names_text text ks = flat_map (name_line text) ks

-- every number of a list is that of an action
abbrev pub InRange : List ℕ → List ℕ → Type 0
InRange text ks = (i : ℕ) → i < length ks → slice_index ks i < action_count text

-- the length of the plan that an answer shows: 0 where it shows none
abbrev pub outcome_length : Outcome → ℕ
outcome_length (Plan p) = p.0
outcome_length (NoPlan rows) = 0

abbrev pub plan_length : Result Outcome Fault → ℕ
plan_length (Ok o) = outcome_length o
plan_length (Err f) = 0

-- the plan stands at the front of the plan slice
abbrev pub shown_plan : Result Outcome Fault → List ℕ → List ℕ
shown_plan r plan = take (plan_length r) plan

-- the whole answer: below the head the names of the plan's actions
abbrev pub answer_text : (text plan : List ℕ) → Result Outcome Fault → List ℕ
answer_text text plan r = head_text r ++ names_text text (shown_plan r plan)

-- the text is a sheet and has these actions, or there are none
abbrev pub Nameable : (text ks : List ℕ) → Type 0
Nameable text ks = (Accepted text × InRange text ks) ⊎ (ks ≡ [])

-- tables and plan places of n rows, as they are before a search
abbrev pub fresh : ℕ → Buffers ℕ
fresh n = buffers (replicate n 0) (replicate n origin) (replicate n 0)

-- the text is planned on with 2,048 rows and plan places, and the answer is written
pub record Reported (text written : List ℕ) : Type 0 where
  pub answer : Result Outcome Fault
  pub after : Buffers ℕ
  pub planned : PlannedOn text (fresh 2048) after answer
  pub is : written ≡ answer_text text after.plan answer
