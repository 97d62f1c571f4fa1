-- Texts and tasks determine each other, up to names. Assumes nothing.
use Rattle.std.specs.Prelude.{◌≡◌, ℕ, ◌≤◌, true, List, length}
use Rattle.strips.specs.Tasks.{Task, fine}
use Rattle.sheet.specs.Grid.{fact_count, action_count}
use Rattle.sheet.specs.Reading.{task_of, Accepted}
use Rattle.dual_text.specs.Written.{fact_names, action_names, written, Named}

-- an accepted text is the text of the task that is read from it, with its names
abbrev pub IsWrittenBack : Type 0
IsWrittenBack = (text : List ℕ) → Accepted text → text ≡ written (fact_names text) (action_names text) (task_of text)

-- and its names are names, all different
pub record WellNamed (text : List ℕ) : Type 0 where
  pub facts : Named (fact_names text) (fact_count text)
  pub actions : Named (action_names text) (action_count text)

abbrev pub NamesGood : Type 0
NamesGood = (text : List ℕ) → Accepted text → WellNamed text

-- what is read from a text: a task with names
pub record ReadsAs (text : List ℕ) (facts actions : List (List ℕ)) (t : Task) : Type 0 where
  pub accepted : Accepted text
  pub task : task_of text ≡ t
  pub the_fact_names : fact_names text ≡ facts
  pub the_action_names : action_names text ≡ actions

-- the text of any task with good names, where it is not too long, is accepted and gives back the task and the names
abbrev pub IsReadBack : Type 0
IsReadBack = (facts actions : List (List ℕ)) (t : Task) → fine t ≡ true → Named facts t.facts → Named actions (length t.actions)
    → length (written facts actions t) ≤ 65535 → ReadsAs (written facts actions t) facts actions t
