use Rattle.std.proofs.Common.{◌≡◌, length}
use Rattle.sheet.specs.Grid.{lines}
use Rattle.sheet.specs.Reading.{Accepted}
use Rattle.dual_text.proofs.InPlace.{over}
use Rattle.dual_text.proofs.TurnedLines.{turned_lines}
use Rattle.dual_text.proofs.turn.turn_text.Given as goal

abbrev pub invariant-loop-row : goal.invariant-loop-row
invariant-loop-row l = record {
  can : (goal.iterator-loop-row).can_next l.row-iterator;
  ends : (goal.iterator-loop-row).is_finite l.row-iterator;
  turned : Accepted l.text → l.copy ≡ over 10 (lines l.text) (turned_lines l.text) (length l.yielded);
}
