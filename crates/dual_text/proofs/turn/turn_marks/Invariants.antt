use Rattle.std.proofs.Common.{◌≡◌, ◌+◌, length}
use Rattle.sheet.specs.Grid.{words_in}
use Rattle.sheet.specs.Shape.{GoodMarks}
use Rattle.dual_text.specs.Turned.{turned_marks}
use Rattle.dual_text.proofs.InPlace.{over}
use Rattle.dual_text.proofs.turn.turn_marks.Given as goal

abbrev pub invariant-loop-word : goal.invariant-loop-word
invariant-loop-word l = record {
  can : (goal.iterator-loop-word).can_next l.word-iterator;
  ends : (goal.iterator-loop-word).is_finite l.word-iterator;
  turned : l.initial.part ≡ l.line → GoodMarks l.line → l.part ≡ over 32 (words_in l.line) (turned_marks l.line) (length l.yielded + 1);
}
