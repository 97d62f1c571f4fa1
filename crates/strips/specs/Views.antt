-- The tasks that the code's values are. Assumes nothing.
use Rattle.std.specs.Prelude.{◌≡◌, true, false, Some, None, Option}
use Rattle.strips.specs.declared.task.Task.{Task as Owned}
use Rattle.strips.specs.declared.task.TaskView.{TaskView}
use Rattle.strips.specs.Tasks.{Task, fine}

-- the task that a view shows
abbrev pub task_of : TaskView → Task
task_of v = record { facts = v.facts.n; actions = v.actions.now; state = v.state; goal = v.goal }

-- the task that a value holds
abbrev pub task_in : Owned → Task
task_in t = record { facts = t.facts.n; actions = t.actions.items; state = t.state; goal = t.goal }

-- a value that shows a task is made exactly where it is a task
abbrev pub MadeBy : {T : Type 0} → (T → Task) → Task → Option T → Type 0
MadeBy shows h (Some t) = (fine h ≡ true) × (shows t ≡ h)
MadeBy shows h None = fine h ≡ false

abbrev pub Made : Task → Option Owned → Type 0
Made h r = MadeBy task_in h r
