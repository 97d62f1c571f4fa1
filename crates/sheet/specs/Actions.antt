-- The actions that are left to read. Assumes nothing.
use Rattle.std.specs.Prelude.{List, map}
use Rattle.strips.specs.declared.action.Action.{Action}
use Rattle.sheet.specs.declared.actions.Actions.{Actions}
use Rattle.sheet.specs.Left.{lines_left}
use Rattle.sheet.specs.Reading.{action_in}

-- the actions of the lines that are left
abbrev pub actions_left : Actions → List Action
actions_left a = map action_in (lines_left a.lines a.left)
