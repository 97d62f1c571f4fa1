use Rattle.std.proofs.Common.{◌≡◌, ◌++◌}
use Rattle.sheet.specs.Reading.{task_of}
use Rattle.sheet.specs.Actions.{actions_left}
use Rattle.sheet.specs.Sheets.{text_in}
use Rattle.sheet.proofs.reader.Sheet.task.Given as goal

abbrev pub invariant-loop-action : goal.invariant-loop-action
invariant-loop-action l = record {
  can : (goal.iterator-loop-action).can_next l.action-iterator;
  ends : (goal.iterator-loop-action).is_finite l.action-iterator;
  held : l.actions.items ++ actions_left l.action-iterator ≡ (task_of (text_in l.self)).actions;
}
